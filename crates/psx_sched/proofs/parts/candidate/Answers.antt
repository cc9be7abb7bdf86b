use Rattle.std.proofs.Common.{◌≡◌, ℕ, ◌<◌, ◌≤◌, ◌^◌, List, ◌∷◌, ◌++◌, codes, decimal, slice_index, drop, take, append_assoc, lit<, ap, ◌∙◌, arith}
use Rattle.psx_sched.specs.declared.schedule.What.{What}
use Rattle.psx_sched.specs.declared.schedule.What.TheVariants.{Byte, Line}
use Rattle.psx_sched.specs.Schedule.{IsLine}
use Rattle.psx_sched.specs.Accepted.{IsByte}
use Rattle.psx_sched.specs.Line.{two_digits, what_text}
use Rattle.psx_text.proofs.Numerals.{number_then}
use Rattle.psx_sched.proofs.LineNumber.{space_first}
use Rattle.psx_sched.proofs.parts.candidate.Goals as goal

same_what : (what found : What) (fields rest : List ℕ)
    → ((b : ℕ) (rest : List ℕ) → b < 256 → fields ≡ codes " byte " ++ (two_digits b ++ rest) → found ≡ Byte b)
    → ((n : ℕ) (rest : List ℕ) → n ≤ 10 → slice_index rest 0 < 48 → fields ≡ codes " line " ++ (decimal n ++ rest) → found ≡ Line n)
    → IsByte what → IsLine what → fields ≡ what_text what ++ (10 ∷ rest) → found ≡ what
same_what (Byte b) found fields rest byte line small some e = byte b (10 ∷ rest) small e
same_what (Line n) found fields rest byte line some small e = line n (10 ∷ rest) small (lit< tt) (e ∙ simp append_assoc)

pub returns : goal.returns
returns c entry rest told e =
    let text = c.args.text.now in
    let after = what_text entry.what ++ (10 ∷ rest) in
    let small : entry.count < 2 ^ 64 = omega arith in
    let split = number_then text entry.count after small (space_first entry.what (10 ∷ rest)) (e ∙ simp append_assoc) in
    let len = c.digits_len-digits.ensures in
    let count = c.count_of-count.ensures entry.count small (c.front.ensures ∙ ap (λ k. take k text) len ∙ split.0) in
    let fields = c.skip.ensures ∙ ap (λ k. drop k text) len ∙ split.1 in
    let what = same_what entry.what c.what_of-what.result c.skip.result.now rest c.what_of-what.ensures.byte c.what_of-what.ensures.line told.byte told.plausible.line fields in
    λ i. record { count = count i; what = what i }
