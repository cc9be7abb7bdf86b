-- The words of a text in which each stands behind a space.
use Rattle.std.proofs.Common.{◌≡◌, ℕ, zero, suc, ◌+◌, ◌*◌, ◌<◌, List, [], ◌∷◌, ◌++◌, length, drop, get_or, refl, sym, ap, ◌∙◌, arith}
use Rattle.std.proofs.lemmas.List.{drop-drop}
use Rattle.psx_text.specs.Digits.{hex8}
use Rattle.psx_trace.specs.Digits.{field, fields}

-- the word of a number stands nine bytes behind the one before it
pub drop_fields : (i : ℕ) (words rest : List ℕ) → i < length words → (tail : List ℕ) × (drop (9 * i) (fields words ++ rest) ≡ field (get_or words i 0) ++ tail)
unfolding hex8
drop_fields i [] rest below = absurd (omega arith)
drop_fields zero (w ∷ words) rest below = (fields words ++ rest, refl)
drop_fields (suc i) (w ∷ words) rest below =
    let next = drop_fields i words rest (omega arith) in
    let count : 9 * suc i ≡ 9 + 9 * i = omega arith in
    (next.0, ap (λ n. drop n (fields (w ∷ words) ++ rest)) count ∙ sym (drop-drop (9 * i) 9 (fields (w ∷ words) ++ rest)) ∙ next.1)
