-- A part of a stay: the words come through a stage to where what is left of the stay is made.
use Rattle.std.proofs.Common.{◌≡◌, ℕ, zero, suc, ◌+◌, ◌*◌, List, [], ◌∷◌, Bool, true, false, cond, Option, Some, None, refl, sym, ap, ◌∙◌, subst, arith, inl, inr}
use Rattle.std.specs.Prelude.{nat_eq}
use Rattle.std.proofs.lemmas.Bool.{eqb-true}
use Rattle.psx_base.specs.declared.ports.TheConstants.{HALT}
use Rattle.psx_base.specs.declared.stop.Stop.{Stop}
use Rattle.psx_base.specs.Memory.{Memory}
use Rattle.psx_base.specs.KernelState.{KernelState}
use Rattle.psx_cpu.specs.Processor.{Core}
use Rattle.psx_flow.specs.Run.{Access, Load, Store, PortRead, PortWrite}
use Rattle.psx_cpu.specs.Step.{step}
use Rattle.psx_flow.specs.Told.{ports}
use Rattle.psx_flow.specs.Plain.{went, seen_at}
use Rattle.abs_kernel.specs.Stay.{Stay, Return, Halt, Ask, Tell, Write, Touch}
use Rattle.abs_kernel.specs.StayLaws.{EachEnd}
use Rattle.abs_run.specs.InKernel.{InKernel}
use Rattle.abs_run.specs.Serves.{Runs}
use Rattle.kern_stay.specs.Follows.{read_of, written_of, after, IsNext, IsWritten, Follows}
use Rattle.kern_entry.specs.Within.{Aim, Onto, Within}
use Rattle.kern_image.proofs.StaysRuns.{runs_more}
use Rattle.kern_image.proofs.StaysMade.{Going, Stopped, Shows, shows_back, both_map, no_halt}

onto : (P Q : Aim) (o : Option Core) (q : List Access) → ((k : Core) → P k q → Q k q) → Onto P o q → Onto Q o q
onto P Q None q f h = absurd h
onto P Q (Some next) q f h = f next h

module _ (rom : List ℕ) (stay : Stay) (a b c : ℕ) where
  pub shows_later : (n m : ℕ) (k : Core) (q : List Access) → Shows rom stay a b c n k q → Shows rom stay a b c (n + m) k q
  shows_later n m k [] h = (h.0, runs_more rom m (after stay []) n _ h.1)
  shows_later n m k (Load size at value ∷ q) h = (h.0, runs_more rom m (after stay (Load size at value ∷ q)) n _ h.1)
  shows_later n m k (Store size at value ∷ q) h = (h.0, runs_more rom m (after stay (Store size at value ∷ q)) n _ h.1)
  shows_later n m k (PortRead at value ∷ q) h = (h.0, runs_more rom m (after stay (PortRead at value ∷ q)) n _ h.1)
  shows_later n m k (PortWrite at value ∷ q) h = both_map (nat_eq at HALT) _ _ _ _ (λ e x. x) (λ e x. (x.0, runs_more rom m (after stay (PortWrite at value ∷ q)) n _ x.1)) h

  -- words that come to an aim within so many steps
  pub aimed_shows : (X : Aim) (m : ℕ) → ((k : Core) (q : List Access) → X k q → Shows rom stay a b c m k q) → (n : ℕ) (k : Core) (q : List Access) → Within X n k q → Shows rom stay a b c (m + n) k q
  aimed_shows X m f zero k q h = let e : m ≡ m + 0 = omega arith in subst (λ j. Shows rom stay a b c j k q) e (f k q h)
  aimed_shows X m f (suc n) k q (inl z) = shows_later m (suc n) k q (f k q z)
  aimed_shows X m f (suc n) k q (inr s) =
      let e : suc (m + n) ≡ m + suc n = omega arith in
      subst (λ j. Shows rom stay a b c j k q) e (shows_back rom stay a b c (m + n) k q (λ bus lt. onto (Within X n) (Shows rom stay a b c (m + n)) (went (step k bus)) (seen_at k bus q) (λ next h. aimed_shows X m f n next (seen_at k bus q) h) (s bus lt)))

  -- what is left is made, behind accesses of which none halts
  pub going_shows : (n : ℕ) (k : Core) (q : List Access) → Going rom stay a b c n k q → Shows rom stay a b c n k q
  going_shows n k [] h = h
  going_shows n k (Load size at value ∷ q) h = h
  going_shows n k (Store size at value ∷ q) h = h
  going_shows n k (PortRead at value ∷ q) h = h
  going_shows n k (PortWrite at value ∷ q) h = go (nat_eq at HALT) refl
    where
      go : (v : Bool) → nat_eq at HALT ≡ v → Shows rom stay a b c n k (PortWrite at value ∷ q)
      go true e = absurd (no_halt (after stay q) value (subst (λ p. IsWritten p value (after stay q)) (eqb-true at HALT e) h.0.1))
      go false e = subst (λ v. cond v (Follows stay q × Stopped rom stay a b c value q k) (Going rom stay a b c n k (PortWrite at value ∷ q))) (sym e) h

-- ---- what a stay touches first

abbrev pub bare : Stay → Stay
bare (Touch bytes next) = bare next
bare (Return state) = Return state
bare (Halt stop memory) = Halt stop memory
bare (Ask port next) = Ask port next
bare (Tell port value next) = Tell port value next
bare (Write byte next) = Write byte next

abbrev pub weight : Stay → ℕ
weight (Touch bytes next) = bytes + weight next
weight _ = 0

pub runs_bare : (rom : List ℕ) (stay : Stay) (n : ℕ) (k : InKernel) → Runs rom (bare stay) (n + 128 * weight stay) k → Runs rom stay n k
runs_bare rom (Touch bytes next) n k h = let e : n + 128 * (bytes + weight next) ≡ n + 128 * bytes + 128 * weight next = omega arith in runs_bare rom next (n + 128 * bytes) k (subst (λ j. Runs rom (bare next) j k) e h)
runs_bare rom (Return state) n k h = let e : n + 128 * 0 ≡ n = omega arith in subst (λ j. Runs rom (Return state) j k) e h
runs_bare rom (Halt stop memory) n k h = let e : n + 128 * 0 ≡ n = omega arith in subst (λ j. Runs rom (Halt stop memory) j k) e h
runs_bare rom (Ask port next) n k h = let e : n + 128 * 0 ≡ n = omega arith in subst (λ j. Runs rom (Ask port next) j k) e h
runs_bare rom (Tell port value next) n k h = let e : n + 128 * 0 ≡ n = omega arith in subst (λ j. Runs rom (Tell port value next) j k) e h
runs_bare rom (Write byte next) n k h = let e : n + 128 * 0 ≡ n = omega arith in subst (λ j. Runs rom (Write byte next) j k) e h

pub from_bare : (rom : List ℕ) (stay : Stay) (n : ℕ) (k : InKernel) → Runs rom (bare stay) n k → Runs rom stay n k
from_bare rom stay n k h = runs_bare rom stay n k (runs_more rom (128 * weight stay) (bare stay) n k h)

pub to_bare : (rom : List ℕ) (stay : Stay) (n : ℕ) (k : InKernel) → Runs rom stay n k → Runs rom (bare stay) (n + 128 * weight stay) k
to_bare rom (Touch bytes next) n k h = let e : n + 128 * bytes + 128 * weight next ≡ n + 128 * (bytes + weight next) = omega arith in subst (λ j. Runs rom (bare next) j k) e (to_bare rom next (n + 128 * bytes) k h)
to_bare rom (Return state) n k h = runs_more rom (128 * 0) (Return state) n k h
to_bare rom (Halt stop memory) n k h = runs_more rom (128 * 0) (Halt stop memory) n k h
to_bare rom (Ask port next) n k h = runs_more rom (128 * 0) (Ask port next) n k h
to_bare rom (Tell port value next) n k h = runs_more rom (128 * 0) (Tell port value next) n k h
to_bare rom (Write byte next) n k h = runs_more rom (128 * 0) (Write byte next) n k h

bare_bare : (stay : Stay) → bare (bare stay) ≡ bare stay
bare_bare (Touch bytes next) = bare_bare next
bare_bare (Return state) = refl
bare_bare (Halt stop memory) = refl
bare_bare (Ask port next) = refl
bare_bare (Tell port value next) = refl
bare_bare (Write byte next) = refl

read_bare : (value : ℕ) (stay : Stay) → read_of value (bare stay) ≡ read_of value stay
read_bare value (Touch bytes next) = read_bare value next
read_bare value (Return state) = refl
read_bare value (Halt stop memory) = refl
read_bare value (Ask port next) = refl
read_bare value (Tell port told next) = refl
read_bare value (Write byte next) = refl

written_bare : (stay : Stay) → written_of (bare stay) ≡ written_of stay
written_bare (Touch bytes next) = written_bare next
written_bare (Return state) = refl
written_bare (Halt stop memory) = refl
written_bare (Ask port next) = refl
written_bare (Tell port told next) = refl
written_bare (Write byte next) = refl

next_bare : (x : Access) (stay : Stay) → IsNext x stay → IsNext x (bare stay)
next_bare (Load size at value) stay h = tt
next_bare (Store size at value) stay h = tt
next_bare (PortRead at value) (Touch bytes next) h = next_bare (PortRead at value) next h
next_bare (PortRead at value) (Return state) h = h
next_bare (PortRead at value) (Halt stop memory) h = h
next_bare (PortRead at value) (Ask port next) h = h
next_bare (PortRead at value) (Tell port told next) h = h
next_bare (PortRead at value) (Write byte next) h = h
next_bare (PortWrite at value) (Touch bytes next) h = next_bare (PortWrite at value) next h
next_bare (PortWrite at value) (Return state) h = h
next_bare (PortWrite at value) (Halt stop memory) h = h
next_bare (PortWrite at value) (Ask port next) h = h
next_bare (PortWrite at value) (Tell port told next) h = h
next_bare (PortWrite at value) (Write byte next) h = h

next_back : (x : Access) (stay : Stay) → IsNext x (bare stay) → IsNext x stay
next_back (Load size at value) stay h = tt
next_back (Store size at value) stay h = tt
next_back (PortRead at value) (Touch bytes next) h = next_back (PortRead at value) next h
next_back (PortRead at value) (Return state) h = h
next_back (PortRead at value) (Halt stop memory) h = h
next_back (PortRead at value) (Ask port next) h = h
next_back (PortRead at value) (Tell port told next) h = h
next_back (PortRead at value) (Write byte next) h = h
next_back (PortWrite at value) (Touch bytes next) h = next_back (PortWrite at value) next h
next_back (PortWrite at value) (Return state) h = h
next_back (PortWrite at value) (Halt stop memory) h = h
next_back (PortWrite at value) (Ask port next) h = h
next_back (PortWrite at value) (Tell port told next) h = h
next_back (PortWrite at value) (Write byte next) h = h

pub bare_after : (stay : Stay) (q : List Access) → bare (after (bare stay) q) ≡ bare (after stay q)
bare_after stay [] = bare_bare stay
bare_after stay (Load size at value ∷ q) = bare_after stay q
bare_after stay (Store size at value ∷ q) = bare_after stay q
bare_after stay (PortRead at value ∷ q) = ap bare (sym (read_bare value (after (bare stay) q)) ∙ ap (read_of value) (bare_after stay q) ∙ read_bare value (after stay q))
bare_after stay (PortWrite at value ∷ q) = ap bare (sym (written_bare (after (bare stay) q)) ∙ ap written_of (bare_after stay q) ∙ written_bare (after stay q))

-- behind an access to a port nothing is left of what was touched first
pub after_bare : (stay : Stay) (q : List Access) → (ports q ≡ [] → ⊥) → after (bare stay) q ≡ after stay q
after_bare stay [] some = absurd (some refl)
after_bare stay (Load size at value ∷ q) some = after_bare stay q some
after_bare stay (Store size at value ∷ q) some = after_bare stay q some
after_bare stay (PortRead at value ∷ q) some = sym (read_bare value (after (bare stay) q)) ∙ ap (read_of value) (bare_after stay q) ∙ read_bare value (after stay q)
after_bare stay (PortWrite at value ∷ q) some = sym (written_bare (after (bare stay) q)) ∙ ap written_of (bare_after stay q) ∙ written_bare (after stay q)

pub bare_follows : (stay : Stay) (q : List Access) → Follows stay q → Follows (bare stay) q
bare_follows stay [] h = tt
bare_follows stay (x ∷ q) h = (bare_follows stay q h.0, next_back x (after (bare stay) q) (subst (IsNext x) (sym (bare_after stay q)) (next_bare x (after stay q) h.1)))

-- each end of what is left
module _ (P : KernelState → Type 0) (Q : Stop → Memory → Type 0) where
  read_ends : (rest : Stay) (value : ℕ) → EachEnd P Q rest → EachEnd P Q (read_of value rest)
  read_ends (Ask port on) value h = h value
  read_ends (Touch bytes rest) value h = read_ends rest value h
  read_ends (Return state) value h = h
  read_ends (Halt stop memory) value h = h
  read_ends (Tell port told rest) value h = h
  read_ends (Write byte rest) value h = h

  written_ends : (rest : Stay) → EachEnd P Q rest → EachEnd P Q (written_of rest)
  written_ends (Ask port on) h = h
  written_ends (Touch bytes rest) h = written_ends rest h
  written_ends (Return state) h = h
  written_ends (Halt stop memory) h = h
  written_ends (Tell port told rest) h = h
  written_ends (Write byte rest) h = h

  pub after_ends : (stay : Stay) (q : List Access) → EachEnd P Q stay → EachEnd P Q (after stay q)
  after_ends stay [] h = h
  after_ends stay (Load size at value ∷ q) h = after_ends stay q h
  after_ends stay (Store size at value ∷ q) h = after_ends stay q h
  after_ends stay (PortRead at value ∷ q) h = read_ends (after stay q) value (after_ends stay q h)
  after_ends stay (PortWrite at value ∷ q) h = written_ends (after stay q) (after_ends stay q h)

  pub bare_ends : (stay : Stay) → EachEnd P Q stay → EachEnd P Q (bare stay)
  bare_ends (Touch bytes next) h = bare_ends next h
  bare_ends (Return state) h = h
  bare_ends (Halt stop memory) h = h
  bare_ends (Ask port next) h = h
  bare_ends (Tell port value next) h = h
  bare_ends (Write byte next) h = h
