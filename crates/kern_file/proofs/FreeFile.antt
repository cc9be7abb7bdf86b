-- The lowest file that isn't open.
use Rattle.std.proofs.Common.{◌≡◌, ℕ, ◌<◌, ◌≤◌, List, length, true, false, sym, ap, ◌∙◌, arith, ⊎_elim}
use Rattle.std.specs.Prelude.{nat_lt, cond, Option, Some, None, is_none, slice_index_or}
use Rattle.std.specs.List.{position_or_len}
use Rattle.std.proofs.lemmas.Bool.{cases_lt, lt-ltb, false≢true}
use Rattle.std.proofs.lemmas.List.Sums.{fails_before_first, passes_at_first}
use Rattle.abs_kernel.specs.Open.{free_file}

not_less : (a b : ℕ) → b ≤ a → nat_lt a b ≡ false
not_less a b h = grind arith

-- all before it are open
pub free_some : (files : List (Option ℕ)) (i : ℕ) → i < length files → is_none (slice_index_or files i None) ≡ true
    → ((j : ℕ) → j < i → is_none (slice_index_or files j None) ≡ false) → free_file files ≡ Some i
free_some files i lt closed open_before =
    let n : ℕ = position_or_len is_none files in
    let at : n ≡ i =
    ⊎_elim (λ (low : n < i). absurd (false≢true (sym (open_before n low) ∙ passes_at_first is_none files None (omega (arith, low, lt)))))
    (λ (high : i ≤ n). ⊎_elim (λ (up : i < n). absurd (false≢true (sym (fails_before_first is_none files i None up) ∙ closed))) (λ (le : n ≤ i). omega (arith, high, le)) (cases_lt i n))
    (cases_lt n i) in
    ap (λ j. cond (nat_lt j (length files)) (Some j) None) at ∙ ap (λ b. cond b (Some i) None) (lt-ltb i (length files) lt)

-- all are open
pub free_none : (files : List (Option ℕ)) → ((j : ℕ) → j < length files → is_none (slice_index_or files j None) ≡ false) → free_file files ≡ None
free_none files open_all =
    let n : ℕ = position_or_len is_none files in
    let past : length files ≤ n =
    ⊎_elim (λ (low : n < length files). absurd (false≢true (sym (open_all n low) ∙ passes_at_first is_none files None low))) (λ (high : length files ≤ n). high) (cases_lt n (length files)) in
    ap (λ b. cond b (Some n) None) (not_less n (length files) past)
