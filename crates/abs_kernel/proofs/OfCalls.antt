-- That each row is one of a call, and each call has one, told by going over the rows and the calls.
use Rattle.std.proofs.Common.{◌≡◌, ℕ, zero, suc, ◌<◌, Bool, true, false, List, [], ◌∷◌, length, inl, inr, refl, sym, arith, subst, ⊎_elim}
use Rattle.std.specs.Prelude.{not, ◌&&◌, nat_eq, count_by}
use Rattle.std.proofs.lemmas.Bool.{and_parts, eqb-true, cases_eq}
use denote.Struct.Field.{Field}
use denote.Enum.Enum.{Sum, tag}
use denote.Enum.Declared.{rowss, tag_of}
use Rattle.psx_base.specs.declared.stop.Table.TheVariants.{Sys}
use Rattle.abs_kernel.specs.contracts.calls.CallId.{the_type}
use Rattle.abs_kernel.specs.CallTable.{Row, same_table, OneEach, OfCalls}

abbrev pub none_of_syscalls : List Row → Bool
none_of_syscalls [] = true
none_of_syscalls (row ∷ rows) = not (same_table row.0 Sys) && none_of_syscalls rows

isnt : (b : Bool) → not b ≡ true → b ≡ false
isnt false h = refl
isnt true h = λ i. not (h i)

pub of_calls : (rows : List Row) → none_of_syscalls rows ≡ true → OfCalls rows
of_calls [] h = λ k d lt. absurd (omega (arith, lt))
of_calls (row ∷ rows) h =
    let p = and_parts (not (same_table row.0 Sys)) (none_of_syscalls rows) h in
    λ k d lt. at row rows p.0 (of_calls rows p.1) k d lt
  where
    at : (row : Row) (rows : List Row) → not (same_table row.0 Sys) ≡ true → OfCalls rows → OfCalls (row ∷ rows)
    at row rows e next zero d lt = isnt (same_table row.0 Sys) e
    at row rows e next (suc k) d lt = next k d (omega (arith, lt))

-- ---- each call by its number among the calls

number_below : (Fss : List (List Field)) (x : Sum (rowss Fss)) → tag (rowss Fss) x < length Fss
number_below [] x = absurd x
number_below (Fs ∷ Fss) (inl x) = omega arith
number_below (Fs ∷ Fss) (inr x) = let h = number_below Fss x in omega (arith, h)

abbrev pub has_one : List Row → ℕ → Bool
has_one rows n = nat_eq (count_by (λ (row : Row). nat_eq (tag_of the_type row.2) n) rows) 1

abbrev pub one_each_below : List Row → ℕ → Bool
one_each_below rows zero = true
one_each_below rows (suc k) = has_one rows k && one_each_below rows k

one_below : (rows : List Row) (k : ℕ) → one_each_below rows k ≡ true → (n : ℕ) → n < k → has_one rows n ≡ true
one_below rows zero h n lt = absurd (omega (arith, lt))
one_below rows (suc k) h n lt =
    let p = and_parts (has_one rows k) (one_each_below rows k) h in
    ⊎_elim (λ (e : n ≡ k). subst (λ i. has_one rows i ≡ true) (sym e) p.0) (λ (ne : n ≡ k → ⊥). one_below rows k p.1 n (omega (arith, lt, ne))) (cases_eq n k)

pub one_each : (rows : List Row) → one_each_below rows (length (the_type).parts) ≡ true → OneEach rows
one_each rows h id = eqb-true _ _ (one_below rows (length (the_type).parts) h (tag_of the_type id) (number_below (the_type).parts ((the_type).to id)))
