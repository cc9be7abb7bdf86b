-- How many steps a routine may make, by its call's table and number, and that an entry leaves it so many.
use Rattle.std.proofs.Common.{◌≡◌, ℕ, zero, suc, ◌+◌, ◌≤◌, Bool, true, false, cond, List, [], ◌∷◌, Option, Some, None, refl, sym, ap, ◌∙◌, subst, arith}
use Rattle.std.specs.Prelude.{◌&&◌, nat_eq, nat_le, find, max, option_map, unwrap_or, if◌then◌else◌}
use Rattle.std.specs.List.{list_all}
use Rattle.std.proofs.lemmas.Bool.{and_parts, eqb-true}
use denote.Enum.Bare.{same_true}
use Rattle.psx_base.specs.declared.stop.Table.{Table}
use Rattle.psx_base.specs.declared.stop.Table.TheVariants.{A, B, C}
use Rattle.psx_base.specs.contracts.stop.Table as tables
use Rattle.psx_base.specs.Items.{Entrance, ByA, ByB, ByC, BySyscall, ByInterrupt, ByDone, ByBack, ByTrap}
use Rattle.abs_kernel.specs.declared.calls.CallId.{CallId}
use Rattle.abs_kernel.specs.declared.calls.TheConstants.{ROWS}
use Rattle.abs_kernel.specs.CallTable.{Row, same_table, same_call}
use Rattle.abs_run.specs.Entered.{is_heap_number, bound_by}
use Rattle.abs_kernel.specs.CallTable.{served_call}
use Rattle.kern_stay.specs.Doors.{most_steps, most_heap_steps, most_back_steps, most_interrupt_steps}
use Rattle.kern_entry.specs.EntryLaws.{Routine, OfCall, OfBack, OfDelivery, OfInterrupt, routine_by}
use Rattle.kern_image.proofs.StaysServed.{work_limit}

-- the heap's calls have more
abbrev pub most_at : Table → (number : ℕ) → ℕ
most_at A number = if is_heap_number number then most_heap_steps else most_steps
most_at _ number = most_steps

-- a call's, by its row
abbrev pub most_of : CallId → ℕ
most_of id = unwrap_or (option_map (λ (row : Row). most_at row.0 row.1) (find (λ (row : Row). same_call row.2 id) ROWS)) 0

-- a crate's calls may all make so many
abbrev pub may_make : (most : ℕ) → List (CallId × ℕ) → Bool
may_make most calls = list_all (λ (p : CallId × ℕ). nat_le most (most_of p.0)) calls

-- a row's call has the bound of the row
abbrev keeps_its_bound : Row → Bool
keeps_its_bound row = nat_eq (most_of row.2) (most_at row.0 row.1)

abbrev is_at : Table → ℕ → Row → Bool
is_at T n row = same_table row.0 T && nat_eq row.1 n

found_most : (T : Table) (n : ℕ) (id : CallId) (rows : List Row) → list_all keeps_its_bound rows ≡ true → option_map (λ (row : Row). row.2) (find (is_at T n) rows) ≡ Some id → most_of id ≡ most_at T n
found_most T n id [] all h = absurd (cc)
found_most T n id (row ∷ rows) all h =
    let p = and_parts (keeps_its_bound row) (list_all keeps_its_bound rows) all in
    go (is_at T n row) refl (eqb-true _ _ p.0) (λ q. found_most T n id rows p.1 q) h
  where
    go : (b : Bool) → is_at T n row ≡ b → most_of row.2 ≡ most_at row.0 row.1 → (option_map (λ (r : Row). r.2) (find (is_at T n) rows) ≡ Some id → most_of id ≡ most_at T n)
        → option_map (λ (r : Row). r.2) (cond b (Some row) (find (is_at T n) rows)) ≡ Some id → most_of id ≡ most_at T n
    go true here own later e =
        let at = and_parts (same_table row.0 T) (nat_eq row.1 n) here in
        ap (λ o. most_of (unwrap_or o id)) (sym e) ∙ own ∙ ap (λ t. most_at t row.1) (same_true tables.the_type tt row.0 T at.0) ∙ ap (most_at T) (eqb-true row.1 n at.1)
    go false here own later e = later e

-- ---- with the steps behind a routine's end, and those behind WORK, to which a routine comes within the steps of a call

abbrev pub limit_for : (most : ℕ) → ℕ
limit_for most = max (73 + most) (most_steps + work_limit)

abbrev pub limit_by : Routine → ℕ
limit_by (OfCall id) = limit_for (most_of id)
limit_by OfBack = limit_for most_back_steps
limit_by OfDelivery = limit_for most_back_steps
limit_by OfInterrupt = limit_for most_interrupt_steps

-- an entry leaves its routine so many, 202 steps behind the vector
abbrev LeavesAll : Entrance → (number : ℕ) → Routine → Type 0
LeavesAll by number r = 202 + limit_by r ≤ bound_by by number

by_call : (T : Table) (by : Entrance) (number : ℕ) → (202 + limit_for (most_at T number) ≤ bound_by by number) → (o : Option CallId) → served_call T number ≡ o → (r : Routine) → option_map OfCall o ≡ Some r → LeavesAll by number r
by_call T by number few None found r h = absurd (cc)
by_call T by number few (Some id) found r h =
    subst (LeavesAll by number) (ap (λ o. unwrap_or o OfBack) h) (subst (λ n. 202 + limit_for n ≤ bound_by by number) (sym (found_most T number id ROWS refl found)) few)

other : (by : Entrance) (number : ℕ) (r r' : Routine) → LeavesAll by number r → Some r ≡ Some r' → LeavesAll by number r'
other by number r r' few h = subst (LeavesAll by number) (ap (λ o. unwrap_or o OfBack) h) few

pub steps_left : (by : Entrance) (number : ℕ) (r : Routine) → routine_by by number ≡ Some r → LeavesAll by number r
steps_left ByA number r h = by_call A ByA number (go (is_heap_number number)) (served_call A number) refl r h
  where
    go : (b : Bool) → 202 + limit_for (if b then most_heap_steps else most_steps) ≤ (if b then 36864 else 20480)
    go true = omega arith
    go false = omega arith
steps_left ByB number r h = by_call B ByB number (omega arith) (served_call B number) refl r h
steps_left ByC number r h = by_call C ByC number (omega arith) (served_call C number) refl r h
steps_left BySyscall zero r h = absurd (cc)
steps_left BySyscall (suc zero) r h = absurd (cc)
steps_left BySyscall (suc (suc zero)) r h = absurd (cc)
steps_left BySyscall (suc (suc (suc zero))) r h = absurd (cc)
steps_left BySyscall (suc (suc (suc (suc n)))) r h = other BySyscall (suc (suc (suc (suc n)))) OfDelivery r (omega arith) h
steps_left ByInterrupt number r h = other ByInterrupt number OfInterrupt r (omega arith) h
steps_left ByDone number r h = absurd (cc)
steps_left ByBack number r h = other ByBack number OfBack r (omega arith) h
steps_left ByTrap number r h = absurd (cc)
