-- A stage: from a listing's address its words come through a door, or by a further door to where what is left of the stay is made.
use Rattle.std.proofs.Common.{◌≡◌, ℕ, suc, ◌+◌, ◌*◌, ◌%◌, ◌≤◌, ◌⊎◌, inl, inr, ⊎_elim, List, [], ◌∷◌, ◌++◌, refl, sym, ap, ◌∙◌, subst, arith}
use Rattle.psx_base.specs.declared.ports.TheConstants.{HALT_A, HALT_B, HALT_C}
use Rattle.psx_base.specs.Memory.{Memory}
use Rattle.psx_base.specs.Registers.{Registers}
use Rattle.psx_cpu.specs.Processor.{Core, Cop0}
use Rattle.psx_flow.specs.Kernel.{kernel_words}
use Rattle.psx_flow.specs.Meets.{Goal, Meets, calls}
use Rattle.psx_flow.specs.Plain.{kernel_core}
use Rattle.psx_flow.specs.Reaches.{IsPlaced, ArePlaced, Keeps}
use Rattle.psx_flow.specs.Run.{Run, Access, state_at}
use Rattle.psx_flow.specs.Told.{ports}
use Rattle.psx_flow.specs.Tree.{Tree}
use Rattle.kern_layout.specs.Stands.{HoldsRom}
use Rattle.abs_kernel.specs.Stay.{Stay, Return, Halt, Ask, Tell, Write, Touch}
use Rattle.abs_run.specs.InKernel.{InKernel}
use Rattle.abs_run.specs.Serves.{Runs}
use Rattle.kern_stay.specs.Shared.{tested_there}
use Rattle.kern_stay.specs.Follows.{after, Follows, given}
use Rattle.kern_stay.specs.Doors.{Ends, worth_of, Behind, AtFurther, ThroughTo, begun, most_steps}
use Rattle.kern_stay.proofs.Telling.{after_ports, follows_ports}
use Rattle.kern_entry.specs.Holding.{HoldsEntry}
use Rattle.kern_entry.specs.Within.{Aim}
use Rattle.kern_entry.proofs.Placed.{all_placed}
use Rattle.kern_entry.proofs.Walk.{walk_placed}
use Rattle.kern_entry.proofs.WalkSteps.{Backs}
use Rattle.kern_image.proofs.StaysRuns.{runs_more, runs_least}
use Rattle.kern_image.proofs.StaysMade.{Shows, shows_back}
use Rattle.kern_image.proofs.StaysStage.{going_shows, bare, weight, runs_bare, from_bare, to_bare, bare_after, after_bare, bare_follows, after_ends, bare_ends}
use Rattle.kern_image.proofs.StaysDoors.{at_core, InDoor, IsValid, in_door, ends_door}

-- a state behind a stage has made no more steps than its bound, and its stay's touches
low_told : (further : Stay → (to : ℕ) → Goal) (flat : ℕ) (stay : Stay) (told : List Access) (to : ℕ) (e : Run) → Ends (worth_of told) (after stay told) flat to e ⊎ AtFurther further (after stay told) flat to e → e.steps ≤ flat + 128 * weight stay
low_told further flat stay told to e (inr h) = let few = h.0 in omega (arith, few)
low_told further flat stay [] to e (inl h) = let r = ends_door 128 stay flat to e h in omega (arith, r.0)
low_told further flat stay (x ∷ q) to e (inl h) = let r = ends_door 0 (after stay (x ∷ q)) flat to e h in omega (arith, r.0)

door_told : (flat : ℕ) (stay : Stay) (told : List Access) (to : ℕ) (e : Run) → Ends (worth_of told) (after stay told) flat to e → InDoor (bare (after stay told)) to e
door_told flat stay told to e h = (ends_door (worth_of told) (after stay told) flat to e h).1

-- what is left may be that behind what is touched first
behind_runs : (rom : List ℕ) (P : Stay → Type 0) (stay : Stay) (n : ℕ) (k : InKernel) → IsValid stay → ((x : Stay) → IsValid x → P x → Runs rom x n k) → Behind P stay → Runs rom stay n k
behind_runs rom P (Touch bytes next) n k v f (inl h) = f (Touch bytes next) v h
behind_runs rom P (Touch bytes next) n k v f (inr h) = runs_more rom (128 * bytes) next n k (behind_runs rom P next n k v f h)
behind_runs rom P (Return state) n k v f h = f (Return state) v h
behind_runs rom P (Halt stop memory) n k v f h = f (Halt stop memory) v h
behind_runs rom P (Ask port next) n k v f h = f (Ask port next) v h
behind_runs rom P (Tell port value next) n k v f h = f (Tell port value next) v h
behind_runs rom P (Write byte next) n k v f h = f (Write byte next) v h

-- listings that stand, and others
pub both_placed : (m : Memory) (ls rs : List (ℕ × Tree)) → ArePlaced kernel_words m ls → ArePlaced kernel_words m rs → ArePlaced kernel_words m (ls ++ rs)
both_placed m [] rs h g = g
both_placed m (l ∷ ls) rs h g = (h.0, both_placed m ls rs h.1 g)

module _ (rom : List ℕ) (m : Memory) (words : HoldsEntry m) (code : HoldsRom m rom) where
  -- at a further door what is left is made in so many steps
  abbrev pub Onward : (Stay → (to : ℕ) → Goal) → (limit : ℕ) → Type 0
  Onward further limit = (a b c : ℕ) (x : Stay) → IsValid x → (to : ℕ) (e : Run) → Keeps kernel_words m e → further x to e → Runs rom x limit (at_core rom a b c (kernel_core (state_at e to)))

  -- a further door is come to in so many steps at most
  module _ (further : Stay → (to : ℕ) → Goal) (limit : ℕ) (onward : Onward further limit) (flat reach : ℕ) (reached : (n : ℕ) → n ≤ flat → n ≤ most_steps → n ≤ reach) where
    module _ (a b c : ℕ) (stay : Stay) (valid : IsValid stay) (T : Tree) (at : ℕ) (placed : IsPlaced kernel_words m at T) (regs : Registers) (z : Cop0) (off : z.sr % 2 ≡ 0) (own : List (ℕ × Tree)) (there : ArePlaced kernel_words m own) (rest : ℕ) (some : 73 ≤ rest) (room : limit + reach ≤ rest + flat) where
      abbrev P : ℕ → Aim
      P n k q = Shows rom (bare stay) a b c (rest + n) k q

      backs : Backs P
      backs = record { back = λ n k q h. let e : suc (rest + n) ≡ rest + suc n = omega arith in subst (λ j. Shows rom (bare stay) a b c j k q) e (shows_back rom (bare stay) a b c (rest + n) k q h) }

      abbrev first : Run
      first = begun regs z m

      left_is : (told q : List Access) → ports q ≡ told → bare (after stay told) ≡ bare (after (bare stay) q)
      left_is told q e = ap (λ x. bare (after stay x)) (sym e) ∙ ap bare (sym (after_ports stay q)) ∙ sym (bare_after stay q)

      module _ (to : ℕ) (e : Run) (ke : Keeps kernel_words m e) (t : ThroughTo further stay flat to e) (n : ℕ) (enough : flat + 128 * weight stay ≤ n + e.steps) where
        abbrev A : ℕ
        A = given HALT_A a e.seen

        abbrev B : ℕ
        B = given HALT_B b e.seen

        abbrev C : ℕ
        C = given HALT_C c e.seen

        abbrev K : InKernel
        K = at_core rom A B C (kernel_core (state_at e to))

        each : IsValid (after stay t.told)
        each = after_ends _ _ stay t.told valid

        -- at an end
        by_bare : Runs rom (bare (after stay t.told)) (rest + n) K → Runs rom (after (bare stay) e.seen) (rest + n) K
        by_bare r = from_bare rom (after (bare stay) e.seen) (rest + n) K (subst (λ y. Runs rom y (rest + n) K) (left_is t.told e.seen t.ports) r)

        at_end : Ends (worth_of t.told) (after stay t.told) flat to e → Runs rom (after (bare stay) e.seen) (rest + n) K
        at_end d =
            by_bare (runs_least rom (bare (after stay t.told)) 73 (rest + n) K (omega (arith, some)) (in_door rom A B C m words code (bare (after stay t.told)) (bare_ends _ _ (after stay t.told) each) to e ke (door_told flat stay t.told to e d)))

        -- and at a further door, before an access to a port and behind one
        by_told : (told : List Access) → ports e.seen ≡ told → e.steps ≤ reach → Runs rom (after stay told) limit K → Runs rom (after (bare stay) e.seen) (rest + n) K
        by_told [] q low r =
            from_bare rom (after (bare stay) e.seen) (rest + n) K (subst (λ y. Runs rom y (rest + n) K) (left_is [] e.seen q)
            (runs_least rom (bare stay) (limit + 128 * weight stay) (rest + n) K (omega (arith, enough, low, room)) (to_bare rom stay limit K r)))
        by_told (x ∷ told) q low r =
            let same : after stay (x ∷ told) ≡ after (bare stay) e.seen = ap (after stay) (sym q) ∙ sym (after_ports stay e.seen) ∙ sym (after_bare stay e.seen (λ none. some_told (sym q ∙ none))) in
            runs_least rom (after (bare stay) e.seen) limit (rest + n) K (omega (arith, enough, low, room)) (subst (λ y. Runs rom y limit K) same r)
          where
            some_told : x ∷ told ≡ [] → ⊥
            some_told e = cc

        at_further : AtFurther further (after stay t.told) flat to e → Runs rom (after (bare stay) e.seen) (rest + n) K
        at_further g = by_told t.told t.ports (reached e.steps g.0 g.1) (behind_runs rom (λ x. further x to e) (after stay t.told) limit K each (λ x v h. onward A B C x v to e ke h) g.2)

        behind : P n (kernel_core (state_at e to)) e.seen
        behind = going_shows rom (bare stay) a b c (rest + n) (kernel_core (state_at e to)) e.seen (bare_follows stay e.seen (follows_ports stay e.seen (subst (Follows stay) (sym t.ports) t.follows)), ⊎_elim at_end at_further t.ends)

      pub stage : Meets kernel_words (calls kernel_words (own ++ tested_there)) T at (λ _. ⊥) (λ to e. ThroughTo further stay flat to e) first → Runs rom stay (rest + flat) (at_core rom a b c (kernel_core (state_at first at)))
      stage h =
          let most : ℕ = flat + 128 * weight stay in
          let k : Core = kernel_core (state_at first at) in
          let w = walk_placed kernel_words m P backs most (own ++ tested_there) (both_placed m own tested_there there (all_placed m words).tested) T at (λ _. ⊥) (λ to e. ThroughTo further stay flat to e) most first (omega arith) placed (record { bytes = λ x e. refl; masked = off }) (record {
            low = λ e x. absurd x;
            low_jump = λ to e t. low_told further flat stay t.told to e t.ends;
            here = λ e ke x. absurd x;
            jump = λ to e ke t n few. behind to e ke t n few;
          }) h most (omega arith) in
          let same : rest + most ≡ rest + flat + 128 * weight stay = omega arith in
          runs_bare rom stay (rest + flat) (at_core rom a b c k) (subst (λ j. Runs rom (bare stay) j (at_core rom a b c k)) same w.1)
