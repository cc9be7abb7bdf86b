-- A number as four bytes of a list, little-endian (R3000A manual, data formats).
use Rattle.std.specs.Prelude.{ℕ, ◌+◌, ◌*◌, ◌/◌, ◌%◌, ◌^◌, List, slice_index, slice_set}

-- the number of four bytes, from an index on
abbrev pub word_at : List ℕ → ℕ → ℕ
word_at xs i = slice_index xs i + slice_index xs (i + 1) * 2 ^ 8 + slice_index xs (i + 2) * 2 ^ 16 + slice_index xs (i + 3) * 2 ^ 24

-- the list with a number in four of its places
abbrev pub with_word : List ℕ → ℕ → ℕ → List ℕ
with_word xs i v = slice_set (slice_set (slice_set (slice_set xs i (v % 2 ^ 8)) (i + 1) (v / 2 ^ 8 % 2 ^ 8)) (i + 2) (v / 2 ^ 16 % 2 ^ 8)) (i + 3) (v / 2 ^ 24)
