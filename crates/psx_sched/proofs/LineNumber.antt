-- The number of an interrupt line is one digit, or 10. No digit stands behind a count.
use Rattle.std.proofs.Common.{◌≡◌, ◌≢◌, ℕ, ◌+◌, ◌<◌, ◌≤◌, List, [], ◌∷◌, ◌++◌, decimal, codes, slice_index, ap, ◌∙◌, ⊎_elim, ◌⊎◌, lit<, arith}
use Rattle.std.proofs.lemmas.Fmt.{decimal_digit, decimal_step}
use Rattle.psx_sched.specs.declared.schedule.What.{What}
use Rattle.psx_sched.specs.declared.schedule.What.TheVariants.{Byte, Line}
use Rattle.psx_sched.specs.Line.{what_text}

pub decimal_ten : decimal 10 ≡ 49 ∷ 48 ∷ []
decimal_ten = decimal_step 10 (omega arith) (omega arith) ∙ ap (λ (ds : List ℕ). ds ++ (48 ∷ [])) (decimal_digit 1 (omega arith))

pub digit_or_ten : (n : ℕ) → n ≤ 10 → (n < 10) ⊎ (n ≡ 10)
digit_or_ten n small = grind arith

-- behind the digits of a number below 10 no 0 stands
pub ten : (fields : List ℕ) (n : ℕ) (rest : List ℕ) → n ≤ 10 → slice_index rest 0 < 48 → fields ≡ codes " line " ++ (decimal n ++ rest) → slice_index fields 7 ≡ 48 → n ≡ 10
ten fields n rest small low e zero = ⊎_elim
    (λ below. let at : slice_index fields 7 ≡ slice_index rest 0 = ap (λ l. slice_index l 7) (e ∙ ap (λ (ds : List ℕ). codes " line " ++ (ds ++ rest)) (decimal_digit n below)) in absurd (omega arith))
    (λ is. is) (digit_or_ten n small)

-- and where none stands, it has one digit
pub digit : (fields : List ℕ) (n : ℕ) (rest : List ℕ) → n ≤ 10 → fields ≡ codes " line " ++ (decimal n ++ rest) → slice_index fields 7 ≢ 48 → (n < 10) × (slice_index fields 6 ≡ 48 + n)
digit fields n rest small e other = ⊎_elim
    (λ below. (below, ap (λ l. slice_index l 6) (e ∙ ap (λ (ds : List ℕ). codes " line " ++ (ds ++ rest)) (decimal_digit n below))))
    (λ is. absurd (other (ap (λ l. slice_index l 7) (e ∙ ap (λ (ds : List ℕ). codes " line " ++ (ds ++ rest)) (ap decimal is ∙ decimal_ten))))) (digit_or_ten n small)

-- no digit stands behind a line's count
pub space_first : (what : What) (rest : List ℕ) → slice_index (what_text what ++ rest) 0 < 48
space_first (Byte b) rest = lit< tt
space_first (Line n) rest = lit< tt
