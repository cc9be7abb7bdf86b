-- The tasks behind the first one, and those that a call leaves.
use Rattle.std.proofs.Common.{◌≡◌, ℕ, suc, ◌≤◌, List, [], ◌∷◌, ◌++◌, length, sym, ap, subst, arith, refl}
use Rattle.std.specs.Prelude.{map}
use Rattle.psx_base.specs.KernelState.{Task, Element, Second, Line, Scan}
use Rattle.kern_layout.specs.Tasks.{elements_of, lines_of, InOrder}
use Rattle.kern_layout.specs.Valid.{IsElement, AllFit, NoneAfterScan, TasksFit}

-- ---- the tasks that are left

-- tasks of elements and lines alone
abbrev Plain : List Task → Type 0
Plain ts = ts ≡ map Element (elements_of ts) ++ map Line (lines_of ts)

-- what a task is, by a number
abbrev kind : List Task → ℕ
kind [] = 0
kind (Element e ∷ ts) = 1
kind (Second e ∷ ts) = 2
kind (Line n ∷ ts) = 3
kind (Scan class spec i ∷ ts) = 4

plain_kind : (es ls : List ℕ) → (kind (map Element es ++ map Line ls) ≡ 2 → ⊥) × (kind (map Element es ++ map Line ls) ≡ 4 → ⊥)
plain_kind [] [] = ((λ e. omega (arith, e)), (λ e. omega (arith, e)))
plain_kind [] (l ∷ ls) = ((λ e. omega (arith, e)), (λ e. omega (arith, e)))
plain_kind (x ∷ es) ls = ((λ e. omega (arith, e)), (λ e. omega (arith, e)))

abbrev behind : List Task → List Task
behind [] = []
behind (t ∷ ts) = ts

-- behind a line no elements are left
pub no_elements : (n : ℕ) (ts : List Task) (es : List ℕ) → Line n ∷ ts ≡ map Element es ++ (Line n ∷ map Line (lines_of ts)) → es ≡ []
no_elements n ts [] e = refl
no_elements n ts (x ∷ es) e = absurd (let k : ◌≡◌ {A = ℕ} 3 1 = ap kind e in omega (arith, k))

-- what fits behind the first task
pub record Left (events : ℕ) (ts : List Task) : Type 0 where
  pub plain : Plain ts
  pub elements : length (elements_of ts) ≤ 32
  pub lines : length (lines_of ts) ≤ 4
  pub each : AllFit events ts

plain_in_order : (ts : List Task) → Plain ts → InOrder ts × NoneAfterScan ts
plain_in_order [] p = (refl, tt)
plain_in_order (Element e ∷ ts) p = (p, tt)
plain_in_order (Second e ∷ ts) p = absurd ((plain_kind (elements_of ts) (lines_of ts)).0 (sym (ap kind p)))
plain_in_order (Line n ∷ ts) p = (p, tt)
plain_in_order (Scan class spec i ∷ ts) p = absurd ((plain_kind (elements_of ts) (lines_of ts)).1 (sym (ap kind p)))

pub left_fits : (events : ℕ) (ts : List Task) → Left events ts → TasksFit events ts
left_fits events ts l = let p = plain_in_order ts l.plain in record { order = p.0; after_scan = p.1; elements = l.elements; lines = l.lines; each = l.each }

pub left : (events : ℕ) (t : Task) (ts : List Task) → TasksFit events (t ∷ ts) → Left events ts
left events (Element e) ts f = record { plain = ap behind f.order; elements = let few : suc (length (elements_of ts)) ≤ 32 = f.elements in omega (arith, few); lines = f.lines; each = f.each.1 }
left events (Second e) ts f = record { plain = ap behind f.order; elements = f.elements; lines = f.lines; each = f.each.1 }
left events (Line n) ts f =
    let none = no_elements n ts (elements_of ts) f.order in
    let few : suc (length (lines_of ts)) ≤ 4 = f.lines in
    record {
      plain = subst (λ es. ts ≡ map Element es ++ map Line (lines_of ts)) (sym none) (ap behind (subst (λ es. Line n ∷ ts ≡ map Element es ++ (Line n ∷ map Line (lines_of ts))) none f.order));
      elements = f.elements;
      lines = omega (arith, few);
      each = f.each.1;
    }
left events (Scan class spec i) ts f = record { plain = ap behind f.order; elements = f.elements; lines = f.lines; each = f.each.1 }

pub with_second : (events e : ℕ) (ts : List Task) → IsElement e → Left events ts → TasksFit events (Second e ∷ ts)
with_second events e ts ok l = record { order = ap (λ us. Second e ∷ us) l.plain; after_scan = tt; elements = l.elements; lines = l.lines; each = (ok, l.each) }

pub with_scan : (events class spec i : ℕ) (ts : List Task) → elements_of ts ≡ [] → i ≤ events → Left events ts → TasksFit events (Scan class spec i ∷ ts)
with_scan events class spec i ts none few l = record { order = ap (λ us. Scan class spec i ∷ us) l.plain; after_scan = none; elements = l.elements; lines = l.lines; each = (few, l.each) }
