-- The lines of a schedule at the beginning of a text, as far as they go, are those of one list of entries.
use Rattle.std.proofs.Common.{◌≡◌, ℕ, ◌+◌, ◌<◌, ◌≤◌, suc, List, [], ◌∷◌, ◌++◌, All, length, refl, sym, ap, subst, ◌∙◌, append_assoc, arith}
use Rattle.std.proofs.lemmas.List.{append_cancel_left}
use Rattle.psx_sched.specs.declared.schedule.Entry.{Entry}
use Rattle.psx_sched.specs.Schedule.{IsOrdered, last_count}
use Rattle.psx_sched.specs.Line.{line, lines_of}
use Rattle.psx_sched.specs.Accepted.{IsByte, IsTold, BeginsWith}
use Rattle.psx_sched.proofs.EntryReading.{same_entry}

-- no further line of a schedule stands at the beginning of a rest
abbrev pub NoneFollows : ℕ → ℕ → List Entry → List ℕ → Type 0
NoneFollows used least entries rest = (next : Entry) → IsTold next → BeginsWith rest next → used + length entries < 65536 → last_count least entries ≤ next.count → ⊥

-- where the lines end, the entries are those that any other such list has
pub same_split : (used least : ℕ) (xs ys : List Entry) (r s : List ℕ) → All (λ e. IsByte e.what) xs → All (λ e. IsByte e.what) ys → IsOrdered least xs → IsOrdered least ys
    → used + length xs ≤ 65536 → used + length ys ≤ 65536 → lines_of xs ++ r ≡ lines_of ys ++ s → NoneFollows used least xs r → NoneFollows used least ys s → (xs ≡ ys) × (r ≡ s)
same_split used least [] [] r s bytes_x bytes_y order_x order_y few_x few_y e ends_x ends_y = (refl, e)
same_split used least [] (y ∷ ys) r s bytes_x bytes_y order_x order_y few_x few_y e ends_x ends_y =
    let told : IsTold y = record { plausible = order_y.1; byte = bytes_y 0 y (omega arith) } in
    absurd (ends_x y told (lines_of ys ++ s, e ∙ append_assoc (line y) (lines_of ys) s) (omega arith) order_y.0)
same_split used least (x ∷ xs) [] r s bytes_x bytes_y order_x order_y few_x few_y e ends_x ends_y =
    let told : IsTold x = record { plausible = order_x.1; byte = bytes_x 0 x (omega arith) } in
    absurd (ends_y x told (lines_of xs ++ r, sym e ∙ append_assoc (line x) (lines_of xs) r) (omega arith) order_x.0)
same_split used least (x ∷ xs) (y ∷ ys) r s bytes_x bytes_y order_x order_y few_x few_y e ends_x ends_y =
    let told_x : IsTold x = record { plausible = order_x.1; byte = bytes_x 0 x (omega arith) } in
    let told_y : IsTold y = record { plausible = order_y.1; byte = bytes_y 0 y (omega arith) } in
    let regrouped = sym (append_assoc (line x) (lines_of xs) r) ∙ e ∙ append_assoc (line y) (lines_of ys) s in
    let same : x ≡ y = same_entry x y (lines_of xs ++ r) (lines_of ys ++ s) told_x told_y regrouped in
    let behind = append_cancel_left (line x) (lines_of xs ++ r) (lines_of ys ++ s) (regrouped ∙ ap (λ (z : Entry). line z ++ (lines_of ys ++ s)) (sym same)) in
    let next = same_split (used + 1) x.count xs ys r s (λ k d below. bytes_x (suc k) d (omega arith)) (λ k d below. bytes_y (suc k) d (omega arith))
    order_x.2 (subst (λ (z : Entry). IsOrdered z.count ys) (sym same) order_y.2) (omega arith) (omega arith) behind
    (λ n told begins room order. ends_x n told begins (omega arith) order)
    (λ n told begins room order. ends_y n told begins (omega arith) (subst (λ (z : Entry). last_count z.count ys ≤ n.count) same order)) in
    (λ i. same i ∷ next.0 i, next.1)
