-- The lines of a text, one by one.
use Rattle.std.proofs.Common.{◌≡◌, ◌⊎◌, inl, inr, ⊎_elim, ℕ, suc, ◌+◌, ◌<◌, ◌≤◌, Bool, true, false, not, cond, ◌==◌, List, [], ◌∷◌, length, drop, refl, sym, ap, ◌∙◌, length-drop, arith}
use Rattle.std.specs.List.{onto_first, before_first, after_first, position_or_len}
use Rattle.std.proofs.lemmas.List.{take_all, length-take-le, drop-drop}
use Rattle.std.proofs.lemmas.List.Splits.{slice_split_first}
use Rattle.std.proofs.lemmas.Bool.{cases_lt}
use Rattle.psx_asm.specs.Assembly.{lines_of}

abbrev pub ends_line : ℕ → Bool
ends_line b = b == 10

-- a text without a line feed is its one line
one_line : (text : List ℕ) → length text ≤ position_or_len ends_line text → lines_of text ≡ text ∷ []
one_line [] all = refl
one_line (x ∷ xs) all = by (ends_line x) all (λ less. one_line xs less)
  where
    by : (b : Bool) → suc (length xs) ≤ cond (not b) (1 + position_or_len ends_line xs) 0 → (length xs ≤ position_or_len ends_line xs → lines_of xs ≡ xs ∷ [])
        → cond b ([] ∷ lines_of xs) (onto_first x (lines_of xs)) ≡ (x ∷ xs) ∷ []
    by true h rest = absurd (omega arith)
    by false h rest = ap (onto_first x) (rest (omega arith))

-- the lines that begin at a place or behind it
abbrev pub AreLeft : List ℕ → ℕ → List (List ℕ) → Type 0
AreLeft text from lines = ((from ≤ length text) × (lines ≡ lines_of (drop from text))) ⊎ ((length text < from) × (lines ≡ []))

-- the first of them, and those behind it
pub record LineAnd (text : List ℕ) (from : ℕ) (line : List ℕ) (lines : List (List ℕ)) : Type 0 where
  pub more : List (List ℕ)
  pub split : lines ≡ line ∷ more
  pub left : AreLeft text (from + length line + 1) more

pub line_and : (text : List ℕ) (from : ℕ) (line : List ℕ) (lines : List (List ℕ)) → AreLeft text from lines → from ≤ length text
    → line ≡ before_first ends_line (drop from text) → LineAnd text from line lines
line_and text from line lines left within is = ⊎_elim (λ here. ⊎_elim
    (λ ended.
    let count : length line ≡ position_or_len ends_line (drop from text) = ap length is ∙ length-take-le (position_or_len ends_line (drop from text)) (drop from text) (omega arith) in
    let far : from + length line + 1 ≤ length text = omega (arith, length-drop from text) in
    let same : from + (position_or_len ends_line (drop from text) + 1) ≡ from + length line + 1 = omega arith in
    let behind : after_first ends_line (drop from text) ≡ drop (from + length line + 1) text =
    drop-drop (position_or_len ends_line (drop from text) + 1) from text ∙ ap (λ n. drop n text) same in
    record {
      more = lines_of (drop (from + length line + 1) text);
      split = here.1 ∙ slice_split_first ends_line (drop from text) 0 ended
          ∙ ap (λ l. l ∷ lines_of (after_first ends_line (drop from text))) (sym is)
          ∙ ap (λ l. line ∷ lines_of l) behind;
      left = inl (far, refl);
    })
    (λ last.
    let whole : line ≡ drop from text = is ∙ take_all (position_or_len ends_line (drop from text)) (drop from text) last in
    let far : length text < from + length line + 1 = omega (arith, length-drop from text, ap length whole) in
    record {
      more = [];
      split = here.1 ∙ one_line (drop from text) last ∙ ap (λ l. l ∷ []) (sym whole);
      left = inr (far, refl);
    })
    (cases_lt (position_or_len ends_line (drop from text)) (length (drop from text))))
    (λ past. absurd (omega arith)) left
