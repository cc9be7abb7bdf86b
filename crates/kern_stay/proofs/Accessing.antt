-- What a routine takes of the four accesses to user memory, whatever it calls besides.
use Rattle.std.proofs.Common.{◌≡◌, ℕ, List, [], ◌∷◌, ◌++◌, Bool, true, false, refl}
use Rattle.std.specs.Prelude.{nat_eq, not, ◌&&◌}
use Rattle.std.proofs.lemmas.Bool.{and_parts}
use Rattle.psx_flow.specs.Tree.{Tree}
use Rattle.psx_flow.specs.Kernel.{kernel_words}
use Rattle.psx_flow.specs.Meets.{calls}
use Rattle.psx_flow.proofs.Knows.{Places, Knows, Elsewhere, knows_tested, knows_more}
use Rattle.kern_stay.specs.Shared.{tested_there}
use Rattle.kern_stay.specs.declared.places.TheConstants.{READ_BYTE, WRITE_BYTE, READ_WORD, WRITE_WORD}

abbrev pub places : Places
places = record { read_byte = READ_BYTE; write_byte = WRITE_BYTE; read_word = READ_WORD; write_word = WRITE_WORD }

-- listings that stand at none of the four addresses
abbrev is_elsewhere : ℕ → Bool
is_elsewhere at = (not (nat_eq READ_BYTE at) && not (nat_eq WRITE_BYTE at)) && (not (nat_eq READ_WORD at) && not (nat_eq WRITE_WORD at))

abbrev pub elsewhere : List (ℕ × Tree) → Bool
elsewhere [] = true
elsewhere (l ∷ ls) = is_elsewhere l.0 && elsewhere ls

isnt : (b : Bool) → not b ≡ true → b ≡ false
isnt false h = refl
isnt true h = λ i. not (h i)

one_elsewhere : (at : ℕ) → is_elsewhere at ≡ true → Elsewhere places at
one_elsewhere at h =
    let both = and_parts (not (nat_eq READ_BYTE at) && not (nat_eq WRITE_BYTE at)) (not (nat_eq READ_WORD at) && not (nat_eq WRITE_WORD at)) h in
    let bytes = and_parts (not (nat_eq READ_BYTE at)) (not (nat_eq WRITE_BYTE at)) both.0 in
    let words = and_parts (not (nat_eq READ_WORD at)) (not (nat_eq WRITE_WORD at)) both.1 in
    record { read_byte = isnt _ bytes.0; write_byte = isnt _ bytes.1; read_word = isnt _ words.0; write_word = isnt _ words.1 }

pub knows_accesses : (own : List (ℕ × Tree)) → elsewhere own ≡ true → Knows places (calls kernel_words (own ++ tested_there))
knows_accesses [] h = knows_tested places (record { write_byte = refl; read_word = refl; read_word' = refl; write_word = refl; write_word' = refl; write_word'' = refl })
knows_accesses (l ∷ ls) h =
    let both = and_parts (is_elsewhere l.0) (elsewhere ls) h in
    knows_more places l (ls ++ tested_there) (one_elsewhere l.0 both.0) (knows_accesses ls both.1)
