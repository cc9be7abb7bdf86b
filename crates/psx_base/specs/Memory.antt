-- A memory: a finite map from physical addresses to bytes. What is not in it reads 0. Numbers are little-endian (R3000A manual, data formats).
use Rattle.std.specs.Prelude.{ℕ, ◌+◌, ◌*◌, ◌/◌, ◌%◌, ◌^◌, List, [], ◌∷◌, unwrap_or, Bool, ◌||◌, ◌&&◌, nat_le, nat_lt}
use Rattle.std.specs.Ordering.{nat_cmp}
use Rattle.std.specs.FinMap as map
use Rattle.std.specs.Coded.{Coded, coded_ℕ}

abbrev pub Memory : Type 0
Memory = map.FinMap nat_cmp ℕ

abbrev pub memory_code : Coded Memory
memory_code = map.code coded_ℕ coded_ℕ

-- no byte but 0
abbrev pub no_bytes : Memory
no_bytes = map.empty

-- the byte at an address
unfoldable pub byte : Memory → ℕ → ℕ
byte m a = unwrap_or (map.get m a) 0

unfoldable pub put_byte : Memory → ℕ → ℕ → Memory
put_byte m a v = map.insert m a v

-- two and four bytes as a number
unfoldable pub half : Memory → ℕ → ℕ
half m a = byte m a + byte m (a + 1) * 2 ^ 8

unfoldable pub word : Memory → ℕ → ℕ
word m a = byte m a + byte m (a + 1) * 2 ^ 8 + byte m (a + 2) * 2 ^ 16 + byte m (a + 3) * 2 ^ 24

-- Numbers that are put: the last byte takes what is left, so a number is read again as it was put, whatever its size.
unfoldable pub put_half : Memory → ℕ → ℕ → Memory
put_half m a v = put_byte (put_byte m a (v % 2 ^ 8)) (a + 1) (v / 2 ^ 8)

unfoldable pub put_word : Memory → ℕ → ℕ → Memory
put_word m a v = put_byte (put_byte (put_byte (put_byte m a (v % 2 ^ 8)) (a + 1) (v / 2 ^ 8 % 2 ^ 8)) (a + 2) (v / 2 ^ 16 % 2 ^ 8)) (a + 3) (v / 2 ^ 24)

-- bytes that are put one after the other
unfoldable pub put_bytes : Memory → ℕ → List ℕ → Memory
put_bytes m a [] = m
put_bytes m a (x ∷ xs) = put_bytes (put_byte m a x) (a + 1) xs

-- whether len bytes from a physical address on lie in main memory, in the scratchpad or in the ROM
abbrev pub is_mapped : ℕ → ℕ → Bool
is_mapped a len =
    nat_le (a + len) 0x200000 || ((nat_le 0x1F800000 a && nat_le (a + len) 0x1F800400) || (nat_le 0x1FC00000 a && nat_le (a + len) 0x1FC80000))

-- whether a physical address is main memory or scratchpad, which can be written
abbrev pub is_writable : ℕ → Bool
is_writable a = nat_lt a 0x200000 || (nat_le 0x1F800000 a && nat_lt a 0x1F800400)
