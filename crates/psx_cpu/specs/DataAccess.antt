-- What loads read and stores write (R3000A manual, load and store instructions; PSX-SPX, Memory Map).
-- An address that isn't mapped reads 0, and a write to it or to the ROM does nothing. A port answers LW and SW alone, at its exact address.
use Rattle.std.specs.Prelude.{ℕ, ◌+◌, ◌-◌, ◌*◌, ◌/◌, ◌%◌, ◌^◌, if◌then◌else◌}
use Rattle.psx_ins.specs.declared.reg.Reg.{Reg}
use Rattle.psx_base.specs.Addresses.{place}
use Rattle.psx_base.specs.PortAddresses.{port}
use Rattle.psx_base.specs.Memory.{Memory, byte, half, word, put_byte, put_half, put_word, is_mapped, is_writable}
use Rattle.psx_base.specs.Registers.{register}
use Rattle.psx_base.specs.Context.{Context}
use Rattle.psx_cpu.specs.Words.{sign_extended}

-- the address of a load or store
abbrev pub data_address : Context → Reg → ℕ → ℕ
data_address c s imm = (register c.regs s.0 + sign_extended imm) % 2 ^ 32

unfoldable pub read_byte : Memory → ℕ → ℕ
read_byte m a = if is_mapped (place a) 1 then byte m (place a) else 0

unfoldable pub read_half : Memory → ℕ → ℕ
read_half m a = if is_mapped (place a) 2 then half m (place a) else 0

unfoldable pub read_word : Memory → ℕ → ℕ
read_word m a = if is_mapped (place a) 4 then word m (place a) else 0

-- a word that is loaded, where a port would give an answer
unfoldable pub load_word : Memory → ℕ → ℕ → ℕ
load_word m a answer = if port (place a) then answer else read_word m a

unfoldable pub write_byte : Memory → ℕ → ℕ → Memory
write_byte m a v = if is_writable (place a) then put_byte m (place a) v else m

unfoldable pub write_half : Memory → ℕ → ℕ → Memory
write_half m a v = if is_writable (place a) then put_half m (place a) v else m

unfoldable pub write_word : Memory → ℕ → ℕ → Memory
write_word m a v = if is_writable (place a) then put_word m (place a) v else m

-- the address of the aligned word round an address
abbrev pub round : ℕ → ℕ
round a = a / 4 * 4

-- the lowest k bytes of a word, and the bytes from the k-th on
abbrev pub low_bytes : ℕ → ℕ → ℕ
low_bytes k v = v % 2 ^ (8 * k)

abbrev pub high_bytes : ℕ → ℕ → ℕ
high_bytes k v = v / 2 ^ (8 * k)

-- LWL, LWR, SWL and SWR by k, the low two bits of the address, from the register t and the word w round the address
abbrev pub loaded_left : ℕ → ℕ → ℕ → ℕ
loaded_left k t w = low_bytes (3 - k) t + low_bytes (k + 1) w * 2 ^ (8 * (3 - k))

abbrev pub loaded_right : ℕ → ℕ → ℕ → ℕ
loaded_right k t w = high_bytes (4 - k) t * 2 ^ (8 * (4 - k)) + high_bytes k w

abbrev pub stored_left : ℕ → ℕ → ℕ → ℕ
stored_left k t w = high_bytes (k + 1) w * 2 ^ (8 * (k + 1)) + high_bytes (3 - k) t

abbrev pub stored_right : ℕ → ℕ → ℕ → ℕ
stored_right k t w = low_bytes k w + low_bytes (4 - k) t * 2 ^ (8 * k)
