-- A schedule that grows, and what is known of its entries.
use Rattle.std.proofs.Common.{◌≡◌, ℕ, ◌≤◌, ◌<◌, Bool, true, false, List, [], ◌∷◌, ◌++◌, length, refl, subst, sym, arith, length-append}
use Rattle.std.specs.Prelude.{if◌then◌else◌}
use Rattle.psx_sched.specs.declared.schedule.Entry.{Entry}
use Rattle.psx_sched.specs.Schedule.{IsPlausible, IsOrdered, IsSchedule, last_count}

-- an entry that comes no earlier than the last one may follow
pub IsOrdered-push : (least : ℕ) (xs : List Entry) (e : Entry) → IsOrdered least xs → last_count least xs ≤ e.count → IsPlausible e → IsOrdered least (xs ++ e ∷ [])
IsOrdered-push least [] e o l p = (l, p, tt)
IsOrdered-push least (x ∷ xs) e o l p = (o.0, o.1, IsOrdered-push x.count xs e o.2 l p)

-- its count is then the last one
pub last_count-push : (least : ℕ) (xs : List Entry) (e : Entry) → last_count least (xs ++ e ∷ []) ≡ e.count
last_count-push least [] e = refl
last_count-push least (x ∷ xs) e = last_count-push x.count xs e

pub IsSchedule-push : (xs : List Entry) (e : Entry) → IsSchedule xs → length xs < 65536 → last_count 0 xs ≤ e.count → IsPlausible e → IsSchedule (xs ++ e ∷ [])
IsSchedule-push xs e s room l p = record {
  few = omega (arith, length-append xs (e ∷ []));
  ordered = IsOrdered-push 0 xs e s.ordered l p;
}

-- also where it is appended only perhaps
pub IsSchedule-perhaps : (b : Bool) (xs ys : List Entry) (e : Entry) → ys ≡ (if b then xs ++ e ∷ [] else xs) → IsSchedule xs → length xs < 65536 → last_count 0 xs ≤ e.count → IsPlausible e → IsSchedule ys
IsSchedule-perhaps true xs ys e is s room l p = subst (λ (z : List Entry). IsSchedule z) (sym is) (IsSchedule-push xs e s room l p)
IsSchedule-perhaps false xs ys e is s room l p = subst (λ (z : List Entry). IsSchedule z) (sym is) s
