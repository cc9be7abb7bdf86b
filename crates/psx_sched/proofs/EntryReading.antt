-- An entry is read from its line, so a line is the line of one entry.
use Rattle.std.proofs.Common.{◌≡◌, ℕ, ◌+◌, ◌*◌, ◌/◌, ◌%◌, ◌^◌, ◌<◌, List, [], ◌∷◌, ◌++◌, drop, take, length, length-append, slice_index, cond, ◌==◌, codes, decimal, sym, ap, ◌∙◌, append_assoc, ⊎_elim, arith}
use Rattle.std.specs.Char.{is_ascii_digit}
use Rattle.std.specs.List.{prefix_len}
use Rattle.std.specs.Str.Parse.{digits_value}
use Rattle.std.proofs.lemmas.Fmt.{decimal_is_IsNumeral, decimal_digit}
use Rattle.psx_text.proofs.HexDigits.{digit_read, digit_read_is, decimal_read_is}
use Rattle.psx_text.proofs.Numerals.{number_then}
use Rattle.psx_sched.specs.declared.schedule.What.{What}
use Rattle.psx_sched.specs.declared.schedule.What.TheVariants.{Byte, Line}
use Rattle.psx_sched.specs.declared.schedule.Entry.{Entry}
use Rattle.psx_sched.specs.Schedule.{IsLine}
use Rattle.psx_sched.specs.Line.{what_text, line}
use Rattle.psx_sched.specs.Accepted.{IsByte, IsTold}
use Rattle.psx_sched.proofs.LineNumber.{digit_or_ten, decimal_ten, space_first}

abbrev what_read : List ℕ → What
what_read t = cond (slice_index t 1 == 98) (Byte (digit_read (slice_index t 6) * 16 + digit_read (slice_index t 7)))
    (cond (slice_index t 7 == 48) (Line 10) (Line (digit_read (slice_index t 6))))

what_read_is : (what : What) (rest : List ℕ) → IsByte what → IsLine what → what_read (what_text what ++ (10 ∷ rest)) ≡ what
what_read_is (Byte b) rest byte line =
    let high = digit_read_is (b / 16) (omega arith) in
    let low = digit_read_is (b % 16) (omega arith) in
    ap Byte ((λ i. high i * 16 + low i) ∙ omega arith)
what_read_is (Line n) rest byte line =
    let written = λ (ds : List ℕ). what_read (codes " line " ++ (ds ++ (10 ∷ rest))) in
    ⊎_elim (λ below. ap written (decimal_digit n below) ∙ ap Line (decimal_read_is n below))
    (λ ten. ap written (ap decimal ten ∙ decimal_ten) ∙ ap Line (sym ten)) (digit_or_ten n line)

-- the entry whose line a text can begin with
pub entry_read : List ℕ → Entry
entry_read t = record {
  count = digits_value 10 (take (prefix_len is_ascii_digit t) t);
  what = what_read (drop (prefix_len is_ascii_digit t) t);
}

-- the line of an entry by its parts
line_parts : (e : Entry) (rest : List ℕ) → line e ++ rest ≡ decimal e.count ++ (what_text e.what ++ (10 ∷ rest))
line_parts e rest = simp append_assoc

pub entry_read_is : (e : Entry) (rest : List ℕ) → IsTold e → entry_read (line e ++ rest) ≡ e
unfolding entry_read
entry_read_is e rest told =
    let small : e.count < 2 ^ 64 = omega arith in
    let split = number_then (line e ++ rest) e.count (what_text e.what ++ (10 ∷ rest)) small (space_first e.what (10 ∷ rest)) (line_parts e rest) in
    let count = ap (digits_value 10) split.0 ∙ (decimal_is_IsNumeral e.count small).1 in
    let what = ap what_read split.1 ∙ what_read_is e.what rest told.byte told.plausible.line in
    λ i. record { count = count i; what = what i }

-- a text begins with the line of one entry at most
pub same_entry : (a b : Entry) (r s : List ℕ) → IsTold a → IsTold b → line a ++ r ≡ line b ++ s → a ≡ b
same_entry a b r s told_a told_b e = sym (entry_read_is a r told_a) ∙ ap entry_read e ∙ entry_read_is b s told_b

-- a line isn't empty
pub length-line : (e : Entry) → IsTold e → 0 < length (line e)
length-line e told = omega (arith, length-append (decimal e.count ++ what_text e.what) (10 ∷ []))

pub line_some : (e : Entry) (rest : List ℕ) → IsTold e → line e ++ rest ≡ [] → ⊥
line_some e rest told is = omega (arith, ap length is, length-append (line e) rest, length-line e told)
