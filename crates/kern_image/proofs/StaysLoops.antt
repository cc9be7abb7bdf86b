-- A call that is served by two listings, of which one is a loop that accesses ports.
use Rattle.std.proofs.Common.{◌≡◌, ℕ, zero, suc, ◌+◌, ◌-◌, ◌*◌, ◌≤◌, List, [], ◌∷◌, ◌++◌, refl, sym, ap, ◌∙◌, subst, arith}
use Rattle.std.specs.Prelude.{nat_eq}
use Rattle.std.proofs.Math.Nat.{mul-add}
use Rattle.std.proofs.lemmas.Bool.{eqb-true}
use Rattle.psx_base.specs.declared.ports.TheConstants.{HALT_A, HALT_B, HALT_C}
use Rattle.psx_base.specs.Memory.{Memory}
use Rattle.psx_base.specs.KernelState.{KernelState}
use Rattle.psx_cpu.specs.Processor.{Core}
use Rattle.psx_flow.specs.Kernel.{kernel_words}
use Rattle.psx_flow.specs.Meets.{Goal, Meets, calls}
use Rattle.psx_flow.specs.Plain.{kernel_core}
use Rattle.psx_flow.specs.Reaches.{IsPlaced, ArePlaced, Keeps}
use Rattle.psx_flow.specs.Run.{Run, Access, Load, Store, PortRead, PortWrite, state_at}
use Rattle.psx_flow.specs.Told.{ports}
use Rattle.psx_flow.specs.Tree.{Tree}
use Rattle.kern_layout.specs.Stands.{HoldsRom}
use Rattle.abs_kernel.specs.Answered.{registers_of}
use Rattle.abs_kernel.specs.Stay.{Stay}
use Rattle.abs_run.specs.Serves.{Runs}
use Rattle.kern_stay.specs.Shared.{tested_there}
use Rattle.kern_stay.specs.Follows.{after, Follows, given}
use Rattle.kern_stay.specs.Doors.{Ends, called_with, begun}
use Rattle.kern_stay.specs.Loops.{units, earned, Passes, Repeats, IsServedBy}
use Rattle.kern_stay.proofs.Telling.{after_ports, follows_ports}
use Rattle.kern_stay.proofs.Passing.{earned_ports}
use Rattle.kern_entry.specs.Holding.{HoldsEntry}
use Rattle.kern_entry.specs.Within.{Aim}
use Rattle.kern_entry.proofs.Placed.{all_placed}
use Rattle.kern_entry.proofs.Walk.{walk_placed}
use Rattle.kern_entry.proofs.WalkSteps.{Backs}
use Rattle.kern_image.proofs.StaysRuns.{paid, paid_is, runs_least}
use Rattle.kern_image.proofs.StaysMade.{Shows, Pays, shows_paid, split}
use Rattle.kern_image.proofs.StaysStage.{going_shows, bare, from_bare, after_ends, bare_ends}
use Rattle.kern_image.proofs.StaysDoors.{at_core, IsValid, in_door, ends_door}
use Rattle.kern_image.proofs.StaysServed.{Serving}
use Rattle.kern_image.proofs.StaysThrough.{both_placed}

-- the steps that are left behind accesses, of which each pays
abbrev left : Stay → ℕ → List Access → ℕ
left stay n [] = n
left stay n (Load size at value ∷ q) = left stay n q
left stay n (Store size at value ∷ q) = left stay n q
left stay n (PortRead at value ∷ q) = paid (after stay q) (left stay n q)
left stay n (PortWrite at value ∷ q) = paid (after stay q) (left stay n q)

one_more : (x n e u : ℕ) → x ≡ n + 128 * e → x + 128 * u ≡ n + 128 * (e + u)
one_more x n e u h = let d : 128 * (e + u) ≡ 128 * e + 128 * u = mul-add 128 e u in omega (arith, h, d)

left_is : (stay : Stay) (n : ℕ) (q : List Access) → left stay n q ≡ n + 128 * earned stay q
left_is stay n [] = omega arith
left_is stay n (Load size at value ∷ q) = left_is stay n q
left_is stay n (Store size at value ∷ q) = left_is stay n q
left_is stay n (PortRead at value ∷ q) = paid_is (after stay q) (left stay n q) ∙ one_more (left stay n q) n (earned stay q) (units (after stay q)) (left_is stay n q)
left_is stay n (PortWrite at value ∷ q) = paid_is (after stay q) (left stay n q) ∙ one_more (left stay n q) n (earned stay q) (units (after stay q)) (left_is stay n q)

module _ (rom : List ℕ) (m : Memory) (words : HoldsEntry m) (code : HoldsRom m rom) where
  module _ (a b c : ℕ) (stay : Stay) where
    least : (n k : ℕ) (q : List Access) → k ≤ n + 128 * earned stay q → k ≤ left stay n q
    least n k q h = let e = left_is stay n q in omega (arith, e, h)

    pays : (n : ℕ) → Pays rom stay a b c (left stay n)
    pays n = record { load = λ size at value q. refl; store = λ size at value q. refl; read = λ at value q. omega arith; write = λ at value q. omega arith }

    -- what is left is made where a part ends
    abbrev pub Made : ℕ → ℕ → Run → Type 0
    Made rest to e = Follows stay e.seen × Runs rom (after stay e.seen) (left stay rest e.seen) (at_core rom (given HALT_A a e.seen) (given HALT_B b e.seen) (given HALT_C c e.seen) (kernel_core (state_at e to)))

    module _ (own : List (ℕ × Tree)) (there : ArePlaced kernel_words m own) (T : Tree) (at : ℕ) (placed : IsPlaced kernel_words m at T) (rest most : ℕ) (G : ℕ → Goal) (low : (to : ℕ) (e : Run) → G to e → e.steps ≤ most) (made : (to : ℕ) (e : Run) → Keeps kernel_words m e → G to e → (n : ℕ) → most ≤ n + e.steps → Made (rest + n) to e) where
      abbrev P : ℕ → Aim
      P n k q = Shows rom stay a b c (left stay (rest + n) q) k q

      backs : Backs P
      backs = record {
        back = λ n k q h.
            let x = left_is stay (rest + n) q in
            let y = left_is stay (rest + suc n) q in
            let e : suc (left stay (rest + n) q) ≡ left stay (rest + suc n) q = omega (arith, x, y) in
            subst (λ j. Shows rom stay a b c j k q) e (shows_paid rom stay a b c (left stay (rest + n)) (pays (rest + n)) k q h);
      }

      jump : (to : ℕ) (e : Run) → Keeps kernel_words m e → G to e → (n : ℕ) → most ≤ n + e.steps → P n (kernel_core (state_at e to)) e.seen
      jump to e ke g n few =
          let r = made to e ke g n few in
          going_shows rom stay a b c (left stay (rest + n) e.seen) (kernel_core (state_at e to)) e.seen (r.0, r.1)

      pub part : (first : Run) → Keeps kernel_words m first → first.seen ≡ [] → first.steps ≡ 0 → Meets kernel_words (calls kernel_words (own ++ tested_there)) T at (λ _. ⊥) G first → Runs rom stay (rest + most) (at_core rom a b c (kernel_core (state_at first at)))
      part first keeps none start h =
          let k : Core = kernel_core (state_at first at) in
          let w = walk_placed kernel_words m P backs most (own ++ tested_there) (both_placed m own tested_there there (all_placed m words).tested) T at (λ _. ⊥) G most first (omega arith) placed keeps (record {
            low = λ e x. absurd x;
            low_jump = low;
            here = λ e ke x. absurd x;
            jump = λ to e ke g n few. jump to e ke g n few;
          }) h most (omega arith) in
          (subst (λ q. Shows rom stay a b c (left stay (rest + most) q) k q) none w).1

  -- a stay that is at its end
  module _ (a b c : ℕ) (stay : Stay) (valid : IsValid stay) (rest : ℕ) (some : 73 ≤ rest) (told : List Access) (to : ℕ) (e : Run) (ke : Keeps kernel_words m e) (quiet : ports e.seen ≡ told) (follows : Follows stay told) where
    abbrev A : ℕ
    A = given HALT_A a e.seen

    abbrev B : ℕ
    B = given HALT_B b e.seen

    abbrev D : ℕ
    D = given HALT_C c e.seen

    abbrev k : Core
    k = kernel_core (state_at e to)

    -- the rest is made in no more steps than are left
    pub by_rest : (n : ℕ) → n ≤ rest + 128 * earned stay told → Runs rom (after stay told) n (at_core rom A B D k) → Made a b c stay rest to e
    by_rest n few h =
        let same : after stay told ≡ after stay e.seen = ap (after stay) (sym quiet) ∙ sym (after_ports stay e.seen) in
        let f : earned stay e.seen ≡ earned stay told = earned_ports stay e.seen ∙ ap (earned stay) quiet in
        (follows_ports stay e.seen (subst (Follows stay) (sym quiet) follows), runs_least rom (after stay e.seen) _ _ (at_core rom A B D k) (least a b c stay rest n e.seen (omega (arith, f, few))) (subst (λ y. Runs rom y n (at_core rom A B D k)) same h))

    pub by_door : (most : ℕ) → Ends 0 (after stay told) most to e → Made a b c stay rest to e
    by_door most h =
        by_rest 73 (omega (arith, some)) (from_bare rom (after stay told) 73 (at_core rom A B D k)
        (in_door rom A B D m words code (bare (after stay told)) (bare_ends _ _ (after stay told) (after_ends _ _ stay told valid)) to e ke (ends_door 0 (after stay told) most to e h).1))

  pub low_ends : (stay : Stay) (most to : ℕ) (e : Run) → Ends 0 stay most to e → e.steps ≤ most
  low_ends stay most to e h = let r = ends_door 0 stay most to e h in omega (arith, r.0)

  -- the loop, from its address, in as many steps as a turn may make and a door takes
  module _ (own : List (ℕ × Tree)) (there : ArePlaced kernel_words m own) (most loop : ℕ) (T : Tree) (placed : IsPlaced kernel_words m loop T) where
    pub repeats_run : (n : ℕ) (stay : Stay) → IsValid stay → (e : Run) → Keeps kernel_words m e → Repeats own most loop T n stay e → (a b c : ℕ) → Runs rom stay (73 + most) (at_core rom a b c (kernel_core (state_at e loop)))
    repeats_run zero stay valid e ke h a b c = absurd h
    repeats_run (suc n) stay valid e ke h a b c =
        let few : ℕ = h.0 in
        let less : few ≤ most = h.1 in
        let rest : ℕ = 73 + most - few in
        let all : rest + few ≡ 73 + most = omega (arith, less) in
        let some : 73 ≤ rest = omega (arith, less) in
        let Again : List Access → Stay → Goal = λ told x g. (g.steps ≤ few) × (few ≤ 128 * earned stay told) × Repeats own most loop T n x g in
        subst (λ j. Runs rom stay j (at_core rom a b c (kernel_core (state_at e loop)))) all
        (part a b c stay own there T loop placed rest few (λ to f. Passes loop Again stay few to f)
        (λ to f p. split (nat_eq to loop) _ _ _ (λ v x. x.0) (λ v x. low_ends (after stay p.told) few to f x) p.ends)
        (λ to f kf p more enough. split (nat_eq to loop) _ _ _
        (λ v x.
        let r = repeats_run n (after stay p.told) (after_ends _ _ stay p.told valid) f kf x.2 (given HALT_A a f.seen) (given HALT_B b f.seen) (given HALT_C c f.seen) in
        let paid = x.1 in
        by_rest a b c stay valid (rest + more) (omega (arith, some)) p.told to f kf p.ports p.follows (73 + most) (omega (arith, all, paid))
        (subst (λ j. Runs rom (after stay p.told) (73 + most) (at_core rom (given HALT_A a f.seen) (given HALT_B b f.seen) (given HALT_C c f.seen) (kernel_core (state_at f j)))) (sym (eqb-true to loop v)) r))
        (λ v x. by_door a b c stay valid (rest + more) (omega (arith, some)) p.told to f kf p.ports p.follows few x) p.ends)
        (begun e.regs e.cop0 e.bytes) (record { bytes = ke.bytes; masked = ke.masked }) refl refl h.2)

  pub by_loop : (most : ℕ) (stay : KernelState → Stay) (at : ℕ) → IsServedBy m most stay at → Serving rom m words code (73 + most) stay at
  by_loop most stay at s a b c t regs z valid h off =
      let S : Stay = stay t in
      let First : List Access → Stay → Goal = λ told rest g. (g.steps ≤ most) × ((n : ℕ) × Repeats s.own (most - g.steps) s.loop s.turns n rest g) in
      part a b c S s.own s.own_placed s.listing at s.placed 73 most (λ to e. Passes s.loop First S most to e)
      (λ to f p. split (nat_eq to s.loop) _ _ _ (λ v x. x.0) (λ v x. low_ends (after S p.told) most to f x) p.ends)
      (λ to f kf p more enough. split (nat_eq to s.loop) _ _ _
      (λ v x.
      let few : ℕ = most - f.steps in
      let r = repeats_run s.own s.own_placed few s.loop s.turns s.turns_placed x.1.0 (after S p.told) (after_ends _ _ S p.told valid) f kf x.1.1 (given HALT_A a f.seen) (given HALT_B b f.seen) (given HALT_C c f.seen) in
      let low = x.0 in
      by_rest a b c S valid (73 + more) (omega arith) p.told to f kf p.ports p.follows (73 + few) (omega (arith, enough, low))
      (subst (λ j. Runs rom (after S p.told) (73 + few) (at_core rom (given HALT_A a f.seen) (given HALT_B b f.seen) (given HALT_C c f.seen) (kernel_core (state_at f j)))) (sym (eqb-true to s.loop v)) r))
      (λ v x. by_door a b c S valid (73 + more) (omega arith) p.told to f kf p.ports p.follows most x) p.ends)
      (begun (called_with (registers_of t) regs) z m) (record { bytes = λ x e. refl; masked = off }) refl refl (s.serves t regs z m h)
