-- What the command `dis` sends of a program: the printed form of the words of its text.
use Rattle.std.specs.Prelude.{ℕ, ◌+◌, ◌-◌, ◌*◌, ◌/◌, ◌%◌, List, [], ◌∷◌, length, map, slice_index, nat_lt, if◌then◌else◌}
use Rattle.std.specs.List.{range_with_len}
use Rattle.std.specs.Int.{from_le_bytes, w32}
use Rattle.psx_exe.specs.declared.exe.Exe.{Exe}
use Rattle.psx_dis.specs.Printed.{printed}

-- how many zero bytes stand in front of the text, back to a multiple of 4
abbrev pub in_front : Exe → ℕ
in_front e = e.dest % 4

-- the byte so far behind that multiple of 4: 0 in front of the text and behind it
abbrev pub byte_at : Exe → ℕ → ℕ
byte_at e i = if nat_lt i (in_front e) then 0 else slice_index e.text (i - in_front e)

-- the word of four of these bytes, the lowest first
abbrev pub word_at : Exe → ℕ → ℕ
word_at e k = from_le_bytes w32 (byte_at e (4 * k) ∷ byte_at e (4 * k + 1) ∷ byte_at e (4 * k + 2) ∷ byte_at e (4 * k + 3) ∷ [])

-- the words up to a whole one at or behind the text's end
abbrev pub word_count : Exe → ℕ
word_count e = (in_front e + length e.text + 3) / 4

unfoldable pub words_of : Exe → List ℕ
words_of e = map (word_at e) (range_with_len 0 (word_count e))

-- the text that is sent
abbrev pub printing : Exe → List ℕ
printing e = printed (e.dest - in_front e) (words_of e)
