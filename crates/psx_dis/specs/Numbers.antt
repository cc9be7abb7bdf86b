-- How the printed form has numbers.
use Rattle.std.specs.Prelude.{ℕ, ◌-◌, ◌^◌, List, ◌++◌, decimal, codes, nat_lt, if◌then◌else◌}
use Rattle.psx_text.specs.Digits.{hex8}

-- a word in eight hexadecimal digits behind 0x
abbrev pub hex_word : ℕ → List ℕ
hex_word w = codes "0x" ++ hex8 w

-- 16 bits as a signed number in decimal
abbrev pub signed_text : ℕ → List ℕ
signed_text imm = if nat_lt imm (2 ^ 15) then decimal imm else codes "-" ++ decimal (2 ^ 16 - imm)
