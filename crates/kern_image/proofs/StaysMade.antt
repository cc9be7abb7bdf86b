-- Words that make a stay by their accesses make it step by step.
use Rattle.std.proofs.Common.{◌≡◌, ℕ, suc, ◌≤◌, List, [], ◌∷◌, Bool, true, false, cond, Option, Some, None, refl, sym, ap, ◌∙◌, subst, arith, inl, inr, ⊎_elim}
use Rattle.std.specs.Prelude.{nat_eq}
use Rattle.std.proofs.lemmas.Bool.{false≢true, true≢false, eqb-true}
use Rattle.psx_base.specs.declared.ports.TheConstants.{CONSOLE_DATA, HALT, HALT_A, HALT_B, HALT_C}
use Rattle.psx_base.specs.declared.stop.Stop.{Stop}
use Rattle.psx_base.specs.Memory.{Memory, byte}
use Rattle.psx_base.specs.KernelState.{KernelState}
use Rattle.psx_cpu.specs.Processor.{Core, Bus, idle}
use Rattle.psx_cpu.specs.Step.{Move, Goes, Reads, Writes, Enters, Leaves, Stops, step}
use Rattle.psx_flow.specs.Run.{Access, Load, Store, PortRead, PortWrite}
use Rattle.psx_flow.specs.Plain.{went, seen_at}
use Rattle.kern_layout.specs.Stands.{SameUser, Stands}
use Rattle.abs_kernel.specs.Stay.{Stay, Return, Halt, Ask, Tell, Write, Touch}
use Rattle.abs_kernel.specs.StayLaws.{EachEnd}
use Rattle.abs_run.specs.InKernel.{InKernel, side_of}
use Rattle.abs_run.specs.Serves.{Runs}
use Rattle.kern_entry.specs.Within.{Aim, Onto, Steps}
use Rattle.kern_entry.specs.Made.{read_of, written_of, after, IsWritten, Follows, given, Spared, IsBack, Returned, Halted, Made}
use Rattle.kern_image.proofs.StaysSeen.{Grown, grown, SeenOf, seen_of, same_bytes}
use Rattle.kern_image.proofs.StaysRuns.{paid, OnMove, HaltsAs, GoesHome, runs_step, runs_least, paid_least}

-- no stay's own access is to the halt port
pub no_halt : (stay : Stay) (value : ℕ) → IsWritten HALT value stay → ⊥
no_halt (Return state) value h = h
no_halt (Halt stop memory) value h = false≢true h
no_halt (Ask port on) value h = h
no_halt (Tell port told stay) value h = true≢false h.2
no_halt (Write byte stay) value h = let e : ◌≡◌ {A = ℕ} HALT CONSOLE_DATA = h.0 in omega arith
no_halt (Touch bytes stay) value h = no_halt stay value h

pub split : (v : Bool) (A B C : Type 0) → (v ≡ true → A → C) → (v ≡ false → B → C) → cond v A B → C
split true A B C f g h = f refl h
split false A B C f g h = g refl h

pub both_map : (v : Bool) (A B X Y : Type 0) → (v ≡ true → A → X) → (v ≡ false → B → Y) → cond v A B → cond v X Y
both_map true A B X Y f g h = f refl h
both_map false A B X Y f g h = g refl h

module _ (rom : List ℕ) (stay : Stay) (a b c : ℕ) where
  -- the kernel's side behind accesses
  abbrev pub in_kernel : Core → List Access → InKernel
  in_kernel k q = record { core = k; a = given HALT_A a q; b = given HALT_B b q; c = given HALT_C c q }

  -- the rest of the stay is made
  abbrev pub Going : ℕ → Aim
  Going n k q = Follows stay q × Runs rom (after stay q) n (in_kernel k q)

  -- or the last access has halted, with this written
  abbrev pub Stopped : (value : ℕ) → List Access → Core → Type 0
  Stopped value q k = HaltsAs (after stay q) value (given HALT_A a q) (given HALT_B b q) (given HALT_C c q) k

  abbrev pub Shows : ℕ → Aim
  Shows n k [] = Going n k []
  Shows n k (PortWrite at value ∷ q) = cond (nat_eq at HALT) (Follows stay q × Stopped value q k) (Going n k (PortWrite at value ∷ q))
  Shows n k (x ∷ q) = Going n k (x ∷ q)

  follows : (n : ℕ) (k : Core) (x : Access) (q : List Access) → Shows n k (x ∷ q) → Follows stay q
  follows n k (Load size at value) q h = h.0.0
  follows n k (Store size at value) q h = h.0.0
  follows n k (PortRead at value) q h = h.0.0
  follows n k (PortWrite at value) q h = split (nat_eq at HALT) _ _ _ (λ e x. x.0) (λ e x. x.0.0) h

  -- the steps that are left behind accesses: each that the stay makes may pay
  pub record Pays (n : List Access → ℕ) : Type 0 where
    pub load : (size at value : ℕ) (q : List Access) → n (Load size at value ∷ q) ≡ n q
    pub store : (size at value : ℕ) (q : List Access) → n (Store size at value ∷ q) ≡ n q
    pub read : (at value : ℕ) (q : List Access) → n (PortRead at value ∷ q) ≤ paid (after stay q) (n q)
    pub write : (at value : ℕ) (q : List Access) → n (PortWrite at value ∷ q) ≤ paid (after stay q) (n q)

  abbrev pub Showing : (List Access → ℕ) → Aim
  Showing n k q = Shows (n q) k q

  module _ (n : List Access → ℕ) (pays : Pays n) (q : List Access) (lift : (k : Core) → Shows (n q) k q → Going (n q) k q) where
    follows_on : (o : Option Core) (seen : List Access) → Grown q seen → Onto (Showing n) o seen → Follows stay q
    follows_on None seen g h = absurd h
    follows_on (Some next) seen (inl e) h = (lift next (subst (Showing n next) e h)).0
    follows_on (Some next) seen (inr g) h = follows (n (g.0 ∷ q)) next g.0 q (subst (Showing n next) g.1 h)

    on_move : (k : Core) (move : Move) (seen : List Access) → Onto (Showing n) (went move) seen → SeenOf move q seen → OnMove rom (after stay q) (n q) (in_kernel k q) move
    on_move k (Goes next) seen h (inl e) = (lift next (subst (Showing n next) e h)).1
    on_move k (Goes next) seen h (inr g) =
        ⊎_elim
        (λ e. let s : Shows (n (Load g.0 g.1 g.2 ∷ q)) next (Load g.0 g.1 g.2 ∷ q) = subst (Showing n next) e h in subst (λ j. Runs rom (after stay q) j (in_kernel next q)) (pays.load g.0 g.1 g.2 q) s.1)
        (λ e. let s : Shows (n (Store g.0 g.1 g.2 ∷ q)) next (Store g.0 g.1 g.2 ∷ q) = subst (Showing n next) e h in subst (λ j. Runs rom (after stay q) j (in_kernel next q)) (pays.store g.0 g.1 g.2 q) s.1) g.3
    on_move k (Reads next at value) seen h e = let s : Shows (n (PortRead at value ∷ q)) next (PortRead at value ∷ q) = subst (Showing n next) e h in (s.0.1, runs_least rom (read_of value (after stay q)) _ _ (in_kernel next (PortRead at value ∷ q)) (pays.read at value q) s.1)
    on_move k (Writes next at value) seen h e =
        let s : Shows (n (PortWrite at value ∷ q)) next (PortWrite at value ∷ q) = subst (Showing n next) e h in
        both_map (nat_eq at HALT) _ _ _ _ (λ e x. x.1) (λ e x. (x.0.1, runs_least rom (written_of (after stay q)) _ _ (in_kernel next (PortWrite at value ∷ q)) (pays.write at value q) x.1)) s
    on_move k (Enters next code) seen h g = absurd h
    on_move k (Leaves next) seen h g = absurd h
    on_move k (Stops stop) seen h g = absurd h

    going_back : (k : Core) → Steps (Showing n) k q → Going (suc (n q)) k q
    going_back k f = (
      follows_on (went (step k idle)) (seen_at k idle q) (grown k idle q) (f idle (omega arith)),
      runs_step rom (after stay q) (n q) (in_kernel k q) (λ bus lt. on_move k (step k bus) (seen_at k bus q) (f bus lt) (seen_of k bus q)),
    )

  -- a step that makes no access leaves the memory of a stop as it is
  halts_at : (rest : Stay) (value x y z : ℕ) (k next : Core) → next.bytes ≡ k.bytes → HaltsAs rest value x y z next → HaltsAs rest value x y z k
  halts_at (Halt stop memory) value x y z k next e h = (h.0, λ p u. sym (ap (λ m. byte m p) e) ∙ h.1 p u)
  halts_at (Touch bytes rest) value x y z k next e h = halts_at rest value x y z k next e h
  halts_at (Return state) value x y z k next e h = absurd h
  halts_at (Ask port on) value x y z k next e h = absurd h
  halts_at (Tell port told rest) value x y z k next e h = absurd h
  halts_at (Write byte rest) value x y z k next e h = absurd h

  halted_on : (n : List Access → ℕ) (at value : ℕ) (q : List Access) → at ≡ HALT → (k : Core) (o : Option Core) (seen : List Access) → Grown (PortWrite at value ∷ q) seen → ((next : Core) → o ≡ Some next → seen ≡ PortWrite at value ∷ q → next.bytes ≡ k.bytes)
      → Onto (Showing n) o seen → Follows stay q × Stopped value q k
  halted_on n at value q e k None seen g same h = absurd h
  halted_on n at value q e k (Some next) seen (inl f) same h =
      split (nat_eq at HALT) _ _ _ (λ y x. (x.0, halts_at (after stay q) value _ _ _ k next (same next refl f) x.1))
      (λ y x. absurd (no_halt (after stay q) value (subst (λ p. IsWritten p value (after stay q)) e x.0.1)))
      (subst (Showing n next) f h)
  halted_on n at value q e k (Some next) seen (inr g) same h =
      absurd (no_halt (after stay q) value (subst (λ p. IsWritten p value (after stay q)) e (follows (n (g.0 ∷ (PortWrite at value ∷ q))) next g.0 (PortWrite at value ∷ q) (subst (Showing n next) g.1 h)).1))

  pub shows_paid : (n : List Access → ℕ) → Pays n → (k : Core) (q : List Access) → Steps (Showing n) k q → Shows (suc (n q)) k q
  shows_paid n p k [] f = going_back n p [] (λ k h. h) k f
  shows_paid n p k (Load size at value ∷ q) f = going_back n p (Load size at value ∷ q) (λ k h. h) k f
  shows_paid n p k (Store size at value ∷ q) f = going_back n p (Store size at value ∷ q) (λ k h. h) k f
  shows_paid n p k (PortRead at value ∷ q) f = going_back n p (PortRead at value ∷ q) (λ k h. h) k f
  shows_paid n p k (PortWrite at value ∷ q) f = go (nat_eq at HALT) refl
    where
      w : List Access
      w = PortWrite at value ∷ q

      go : (v : Bool) → nat_eq at HALT ≡ v → Shows (suc (n (PortWrite at value ∷ q))) k (PortWrite at value ∷ q)
      go true e =
          subst (λ v. cond v (Follows stay q × Stopped value q k) (Going (suc (n (PortWrite at value ∷ q))) k (PortWrite at value ∷ q))) (sym e)
          (halted_on n at value q (eqb-true at HALT e) k (went (step k idle)) (seen_at k idle (PortWrite at value ∷ q)) (grown k idle (PortWrite at value ∷ q)) (λ next h s. same_bytes k idle (PortWrite at value ∷ q) next h s) (f idle (omega arith)))
      go false e =
          subst (λ v. cond v (Follows stay q × Stopped value q k) (Going (suc (n (PortWrite at value ∷ q))) k (PortWrite at value ∷ q))) (sym e)
          (going_back n p (PortWrite at value ∷ q) (λ j h. subst (λ v. cond v (Follows stay q × Stopped value q j) (Going (n (PortWrite at value ∷ q)) j (PortWrite at value ∷ q))) e h) k f)

  -- where no access pays
  flat : (n : ℕ) → Pays (λ q. n)
  flat n = record { load = λ size at value q. refl; store = λ size at value q. refl; read = λ at value q. paid_least (after stay q) n; write = λ at value q. paid_least (after stay q) n }

  pub shows_back : (n : ℕ) (k : Core) (q : List Access) → Steps (Shows n) k q → Shows (suc n) k q
  shows_back n k q f = shows_paid (λ q. n) (flat n) k q f

  -- ---- the ends

  module _ (first : Memory) (Z : KernelState → Type 0) (W : Stop → Memory → Type 0) (ends : EachEnd Z W stay)
      (home : (state : KernelState) (next : Core) → Z state → IsBack first state next → Stands (side_of next) next.bytes state rom)
      (halts : (stop : Stop) (memory : Memory) (k : Core) → W stop memory → Spared first k.bytes → SameUser k.bytes memory) where
    read_ends : (rest : Stay) (value : ℕ) → EachEnd Z W rest → EachEnd Z W (read_of value rest)
    read_ends (Ask port on) value h = h value
    read_ends (Touch bytes rest) value h = read_ends rest value h
    read_ends (Return state) value h = h
    read_ends (Halt stop memory) value h = h
    read_ends (Tell port told rest) value h = h
    read_ends (Write byte rest) value h = h

    written_ends : (rest : Stay) → EachEnd Z W rest → EachEnd Z W (written_of rest)
    written_ends (Ask port on) h = h
    written_ends (Touch bytes rest) h = written_ends rest h
    written_ends (Return state) h = h
    written_ends (Halt stop memory) h = h
    written_ends (Tell port told rest) h = h
    written_ends (Write byte rest) h = h

    after_ends : (q : List Access) → EachEnd Z W (after stay q)
    after_ends [] = ends
    after_ends (Load size at value ∷ q) = after_ends q
    after_ends (Store size at value ∷ q) = after_ends q
    after_ends (PortRead at value ∷ q) = read_ends (after stay q) value (after_ends q)
    after_ends (PortWrite at value ∷ q) = written_ends (after stay q) (after_ends q)

    returned : (rest : Stay) (k : Core) → EachEnd Z W rest → Returned first rest k → (next : Core) × GoesHome rom rest next × ((bus : Bus) → step k bus ≡ Leaves next)
    returned (Return state) k z h = (h.0, home state h.0 z h.1, h.2)
    returned (Touch bytes rest) k z h = returned rest k z h
    returned (Halt stop memory) k z h = absurd h
    returned (Ask port on) k z h = absurd h
    returned (Tell port told rest) k z h = absurd h
    returned (Write byte rest) k z h = absurd h

    halted : (rest : Stay) (value : ℕ) (q : List Access) (k : Core) → EachEnd Z W rest → Halted first rest value q k → HaltsAs rest value (given HALT_A a q) (given HALT_B b q) (given HALT_C c q) k
    halted (Halt stop memory) value q k z h = (h.0 a b c, halts stop memory k z h.1)
    halted (Touch bytes rest) value q k z h = halted rest value q k z h
    halted (Return state) value q k z h = absurd h
    halted (Ask port on) value q k z h = absurd h
    halted (Tell port told rest) value q k z h = absurd h
    halted (Write byte rest) value q k z h = absurd h

    going : (n : ℕ) (k : Core) (q : List Access) → Follows stay q × Returned first (after stay q) k → Going (suc n) k q
    going n k q h =
        let r = returned (after stay q) k (after_ends q) h.1 in
        (h.0, runs_step rom (after stay q) n (in_kernel k q) (λ bus lt. subst (OnMove rom (after stay q) n (in_kernel k q)) (sym (r.2 bus)) r.1))

    pub made_shows : (n : ℕ) (k : Core) (q : List Access) → Made first stay k q → Shows (suc n) k q
    made_shows n k [] h = going n k [] (tt, h)
    made_shows n k (Load size at value ∷ q) h = going n k (Load size at value ∷ q) h
    made_shows n k (Store size at value ∷ q) h = going n k (Store size at value ∷ q) h
    made_shows n k (PortRead at value ∷ q) h = going n k (PortRead at value ∷ q) h
    made_shows n k (PortWrite at value ∷ q) h =
        both_map (nat_eq at HALT) _ _ _ _ (λ e x. (x.0, halted (after stay q) value q k (after_ends q) x.1)) (λ e x. going n k (PortWrite at value ∷ q) x) h
