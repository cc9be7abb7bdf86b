-- Words whose loads have room behind them: what a load brings is in its register only behind the next instruction (R3000A manual, load delay).
use Rattle.std.specs.Prelude.{ℕ, ◌/◌, ◌^◌, Bool, true, List, [], ◌∷◌, ◌&&◌, nat_le, nat_eq, if◌then◌else◌, not}

-- a load: its six highest bits are 20h to 26h (R3000A manual, opcode bit encoding)
abbrev pub is_load : ℕ → Bool
is_load word = nat_le 0x20 (word / 2 ^ 26) && nat_le (word / 2 ^ 26) 0x26

-- a nop, the word 0, stands behind each load
abbrev pub spaced : List ℕ → Bool
spaced [] = true
spaced (word ∷ []) = not (is_load word)
spaced (word ∷ next ∷ rest) = (if is_load word then nat_eq next 0 else true) && spaced (next ∷ rest)
