-- The words of a listing come to its goals step by step, whatever the bus brings at each step.
use Rattle.std.proofs.Common.{◌≡◌, ℕ, zero, suc, ◌+◌, ◌-◌, ◌*◌, ◌/◌, ◌%◌, ◌^◌, ◌≤◌, List, [], ◌∷◌, ◌++◌, Bool, true, false, cond, Option, None, refl, sym, ap, ◌∙◌, subst, arith, inl, inr, ⊎_elim}
use Rattle.std.specs.Prelude.{nat_eq, ◌&&◌}
use Rattle.std.proofs.lemmas.Bool.{eqb-true}
use Rattle.psx_ins.specs.declared.ins.Ins.{Ins}
use Rattle.psx_ins.specs.declared.ins.Ins.TheVariants.{J, JAL, JR}
use Rattle.psx_base.specs.Memory.{Memory}
use Rattle.psx_base.specs.Registers.{Registers, register}
use Rattle.psx_base.specs.Context.{settled}
use Rattle.psx_cpu.specs.Processor.{Core, idle}
use Rattle.psx_cpu.specs.Effect.{effect}
use Rattle.psx_flow.specs.declared.node.Test.{Test}
use Rattle.psx_flow.specs.Tree.{Tree, Stop, Do, When, Choose, Loop, Visit, Go, GoTo, size}
use Rattle.psx_flow.specs.Well.{is_op, is_register, test_fits, fits}
use Rattle.psx_flow.specs.Spaced.{load_of}
use Rattle.psx_flow.specs.Lowered.{opposite, always, nop, branch, target_of, code, in_reach, in_region, reaches}
use Rattle.psx_flow.specs.Run.{Run, Access, state_at, done}
use Rattle.psx_flow.specs.Meets.{TestHolds, passing, branching, linking, Goal, Calls, Turns, Meets, calls}
use Rattle.psx_flow.specs.Plain.{kernel_core}
use Rattle.psx_flow.specs.Reaches.{Keeps, IsPlaced, ArePlaced}
use Rattle.psx_flow.proofs.Rules.{decided, fair, meets_back}
use Rattle.psx_flow.proofs.Step.{StandsAs, both, as_code}
use Rattle.psx_flow.proofs.Kept.{done_keeps}
use Rattle.psx_flow.proofs.Room.{room, spaced, clear, none_pending, clear_after, tree_spaced}
use Rattle.psx_flow.proofs.Branches.{no_wrap, jumps_to, in_slot, opposite_fits}
use Rattle.psx_flow.proofs.Moves.{stands_front, stands_at, pending_at}
use Rattle.psx_flow.proofs.Compiled.{target_fits, register_fits, even_8, even_16, even_two}
use Rattle.kern_entry.specs.Within.{Aim, Within}
use Rattle.kern_entry.proofs.WalkLow.{Low, LowCalls, low_turns, low, low_calls}
use Rattle.kern_entry.proofs.WalkSteps.{Backs, op, two, taken, passed_by}

module _ (kept : ℕ → Bool) (first : Memory) (P : ℕ → Aim) (backs : Backs P) (most : ℕ) where
  -- It is shown from a state at an address, where no less than so many steps are made and left in all.
  abbrev pub At : ℕ → Run → ℕ → Type 0
  At b s at = (n : ℕ) → b ≤ n + s.steps → P n (kernel_core (state_at s at)) s.seen

  -- it is shown from the states of goals
  pub record Open (b end : ℕ) (K : Goal) (G : ℕ → Goal) : Type 0 where
    pub low : Low most K
    pub low_jump : (a : ℕ) → Low most (G a)
    pub here : (e : Run) → Keeps kept first e → K e → At b e end
    pub jump : (a : ℕ) (e : Run) → Keeps kept first e → G a e → At b e a

  -- a tree stands at an address
  pub record Ready (T : Tree) (at : ℕ) : Type 0 where
    pub fitting : fits T ≡ true
    pub reaching : reaches T at ≡ true
    pub roomy : spaced T ≡ true
    pub words : StandsAs kept first at (code T at)

  passing_keeps : (s : Run) → Keeps kept first s → Keeps kept first (passing s)
  passing_keeps s k = record { bytes = k.bytes; masked = k.masked }

  branching_keeps : (s : Run) → Keeps kept first s → Keeps kept first (branching s)
  branching_keeps s k = record { bytes = k.bytes; masked = k.masked }

  linking_keeps : (s : Run) (back : ℕ) → Keeps kept first s → Keeps kept first (linking s back)
  linking_keeps s back k = record { bytes = k.bytes; masked = k.masked }

  -- one or two of the steps that are left
  by_one : (n : ℕ) (s : Run) (raw : Registers) (p : Option (ℕ × ℕ)) (at : ℕ) → 1 ≤ n → P (suc (n - 1)) (kernel_core (pending_at s raw p at)) s.seen → P n (kernel_core (pending_at s raw p at)) s.seen
  by_one n s raw p at h q = let e : suc (n - 1) ≡ n = omega arith in subst (λ j. P j (kernel_core (pending_at s raw p at)) s.seen) e q

  by_two : (b : ℕ) (s : Run) (at : ℕ) → most ≤ b → suc (suc s.steps) ≤ most → ((n : ℕ) → b ≤ n + suc (suc s.steps) → P (suc (suc n)) (kernel_core (state_at s at)) s.seen) → At b s at
  by_two b s at least h f n few = let e : suc (suc (n - 2)) ≡ n = omega arith in subst (λ j. P j (kernel_core (state_at s at)) s.seen) e (f (n - 2) (omega arith))

  -- nothing is pending: the run's own state
  at_rest : (s : Run) (raw : Registers) (p : Option (ℕ × ℕ)) (at n : ℕ) → settled raw p ≡ s.regs → p ≡ None → P n (kernel_core (state_at s at)) s.seen → P n (kernel_core (pending_at s raw p at)) s.seen
  at_rest s raw p at n e z r =
      let f : raw ≡ s.regs = sym (ap (settled raw) z) ∙ e in
      subst (λ x. P n (kernel_core x) s.seen) (sym (λ j. pending_at s (f j) (z j) at)) r

  module _ (C : Calls) (known : (a ret : ℕ) (K : Goal) (b : ℕ) (s : Run) → most ≤ b → Keeps kept first s → Low most K → ((e : Run) → Keeps kept first e → K e → At b e ret) → C a ret K s → At b s a) (lows : LowCalls kept most C) where
    abbrev Walks : Tree → Type 1
    Walks T =
        (at : ℕ) (K : Goal) (G : ℕ → Goal) (b : ℕ) (s : Run) (raw : Registers) (p : Option (ℕ × ℕ)) → most ≤ b → settled raw p ≡ s.regs → clear p T ≡ true → Ready T at → Keeps kept first s → Open b (at + 4 * size T) K G
        → Meets kept C T at K G s → (n : ℕ) → b ≤ n + s.steps → P n (kernel_core (pending_at s raw p at)) s.seen

    lower : (b end : ℕ) (K : Goal) (G : ℕ → Goal) (T : Tree) (at : ℕ) → Open b end K G → Low most (Meets kept C T at K G)
    lower b end K G T at o e h = low kept most C lows T at K G e o.low o.low_jump h

    -- a part of a tree, and what follows it
    part : (b x end : ℕ) (K : Goal) (G : ℕ → Goal) (r : Tree) (to : ℕ) → most ≤ b → Walks r → Ready r to → x ≡ to → to + 4 * size r ≡ end → Open b end K G → Open b x (Meets kept C r to K G) G
    part b x end K G r to least w rd e f o = record {
      low = lower b end K G r to o;
      low_jump = o.low_jump;
      here = λ m km h. subst (λ a. At b m a) (sym e) (w to K G b m m.regs None least refl refl rd km (subst (λ a. Open b a K G) (sym f) o) h);
      jump = o.jump;
    }

    -- and with a jump of two steps between them
    part_over : (b x over to : ℕ) (L : Goal) (G : ℕ → Goal) → most ≤ b → x ≡ over → Open b to L G
        → ((n : ℕ) (m : Run) → Keeps kept first m → P n (kernel_core (state_at m to)) m.seen → P (suc (suc n)) (kernel_core (state_at m over)) m.seen) → Open b x (λ m. L (branching m)) G
    part_over b x over to L G least e o jump = record {
      low = λ m h. (let few = o.low (branching m) h in omega (arith, few));
      low_jump = o.low_jump;
      here = λ m km h. subst (λ a. At b m a) (sym e) (by_two b m over least (o.low (branching m) h) (λ n few. jump n m km (o.here (branching m) (branching_keeps m km) h n few)));
      jump = o.jump;
    }

    -- a loop, from its head
    turns : (n : ℕ) (t : Test) (at back end : ℕ) (body : Goal → Goal) (K : Goal) (G : ℕ → Goal) (b : ℕ) → most ≤ b
        → ((L : Goal) (m : Run) → Keeps kept first m → Open b back L G → body L m → At b m (at + 8))
        → ((L : Goal) (m : Run) → Low most L → body L m → m.steps ≤ most)
        → ((j : ℕ) (m : Run) → Keeps kept first m → TestHolds t m.regs → P j (kernel_core (state_at m (at + 8))) m.seen → P (suc (suc j)) (kernel_core (state_at m at)) m.seen)
        → ((j : ℕ) (m : Run) → Keeps kept first m → TestHolds (opposite t) m.regs → P j (kernel_core (state_at m end)) m.seen → P (suc (suc j)) (kernel_core (state_at m at)) m.seen)
        → ((j : ℕ) (m : Run) → Keeps kept first m → P j (kernel_core (state_at m at)) m.seen → P (suc (suc j)) (kernel_core (state_at m back)) m.seen)
        → Open b end K G → (s : Run) → Keeps kept first s → Turns n t body K s → At b s at
    turns zero t at back end body K G b least walks lower into past again o s ks h = absurd h
    turns (suc n) t at back end body K G b least walks lower into past again o s ks h =
        let few : (m : Run) → Turns n t body K (branching m) → suc (suc m.steps) ≤ most = λ m w. low_turns kept most C lows n t body K (branching m) lower o.low w in
        let low_one : Low most (λ m. Turns n t body K (branching m)) = λ m w. (let f = few m w in omega (arith, f)) in
        ⊎_elim
        (λ y. by_two b s at least (lower (λ m. Turns n t body K (branching m)) (passing s) low_one (h.1 y)) (λ j fw. into j s ks y (walks (λ m. Turns n t body K (branching m)) (passing s) (passing_keeps s ks) (record {
          low = low_one;
          low_jump = o.low_jump;
          here = λ m km w. by_two b m back least (few m w) (λ i fi. again i m km (turns n t at back end body K G b least walks lower into past again o (branching m) (branching_keeps m km) w i fi));
          jump = o.jump;
        }) (h.1 y) j fw)))
        (λ y. by_two b s at least (o.low (passing s) (h.0 y)) (λ j fw. past j s ks y (o.here (passing s) (passing_keeps s ks) (h.0 y) j fw)))
        (decided t s.regs)

    pub walk : (T : Tree) → Walks T
    walk Stop at K G b s raw p least e clr rd ks o h n few =
        let end : at + 4 * 0 ≡ at = omega arith in
        at_rest s raw p at n e (none_pending p Stop clr refl) (subst (λ a. At b s a) end (o.here s ks h) n few)
    walk (Do i r) at K G b s raw p least e clr rd ks o h n few =
        let fp = both (is_op i) (fits r) rd.fitting in
        let sq = both (room (load_of i) r) (spaced r) rd.roomy in
        let small : suc s.steps ≤ most = low kept most C lows r (at + 4) K G (done i s at idle) o.low o.low_jump (h.2 idle (omega arith)) in
        let end : at + 4 * (1 + size r) ≡ at + 4 + 4 * size r = omega arith in
        by_one n s raw p at (omega (arith, few, least, small)) (op kept first P backs (n - 1) i s raw p at r e clr ks rd.words.0 fp.0 h.0 (λ bus lt.
        let m : Run = done i s at bus in
        let y = effect i (state_at s at) bus in
        walk r (at + 4) K G b m y.context.regs y.context.pending least refl (clear_after i s at bus r sq.0) (record { fitting = fp.1; reaching = rd.reaching; roomy = sq.1; words = rd.words.1 }) (done_keeps kept first i s at bus h.1 ks)
        (subst (λ a. Open b a K G) end o) (h.2 bus lt) (n - 1) (omega (arith, few, least, small))))
    walk (When t a r) at K G b s raw p least e clr rd ks o h n few =
        let end : ℕ = at + (8 + 4 * size a) in
        let st = rd.words in
        let f0 = both (test_fits t) (fits a && fits r) rd.fitting in let f1 = both (fits a) (fits r) f0.1 in
        let w0 = both (in_reach at end) (reaches a (at + 8) && reaches r end) rd.reaching in let w1 = both (reaches a (at + 8)) (reaches r end) w0.1 in
        let sq = both (spaced a) (spaced r) rd.roomy in
        let e8 : at + 4 + 4 ≡ at + 8 = omega arith in
        let body = subst (λ n. StandsAs kept first n (code a (at + 8) ++ code r end)) e8 st.1.1 in
        let to : at + 8 + 4 * size a ≡ end = omega arith in
        let fin : end + 4 * size r ≡ at + 4 * (2 + size a + size r) = omega arith in
        let ready_a : Ready a (at + 8) = record { fitting = f1.0; reaching = w1.0; roomy = sq.0; words = stands_front kept first (at + 8) (code a (at + 8)) (code r end) body } in
        let ready_r : Ready r end = record { fitting = f1.1; reaching = w1.1; roomy = sq.1; words = stands_at kept first (at + 8) end a (code r end) to body } in
        let rest = part b end (at + 4 * (2 + size a + size r)) K G r end least (walk r) ready_r refl fin o in
        at_rest s raw p at n e (none_pending p (When t a r) clr refl)
        (⊎_elim
        (λ y. by_two b s at least (low kept most C lows a (at + 8) _ G (passing s) rest.low rest.low_jump (h.0 y)) (λ j fw. passed_by kept first P backs j t s at end ks st.0 st.1.0 f0.0 y
        (walk a (at + 8) (Meets kept C r end K G) G b (passing s) s.regs None least refl refl ready_a (passing_keeps s ks) (subst (λ x. Open b x (Meets kept C r end K G) G) (sym to) rest) (h.0 y) j (omega (arith, fw)))) n few)
        (λ y. by_two b s at least (rest.low (passing s) (h.1 y)) (λ j fw. taken kept first P backs j (opposite t) s at end ks st.0 st.1.0 (opposite_fits t f0.0) w0.0 (even_8 at (size a) st.0.aligned) y
        (rest.here (passing s) (passing_keeps s ks) (h.1 y) j (omega (arith, fw)))) n few)
        (decided t s.regs))
    walk (Choose t a c r) at K G b s raw p least e clr rd ks o h n few =
        let over : ℕ = at + (8 + 4 * size a) in
        let other : ℕ = at + (16 + 4 * size a) in
        let end : ℕ = at + (16 + 4 * size a + 4 * size c) in
        let st = rd.words in
        let f0 = both (test_fits t) (fits a && (fits c && fits r)) rd.fitting in let f1 = both (fits a) (fits c && fits r) f0.1 in let f2 = both (fits c) (fits r) f1.1 in
        let w0 = both (in_reach at other && in_reach over end) (reaches a (at + 8) && (reaches c other && reaches r end)) rd.reaching in
        let near = both (in_reach at other) (in_reach over end) w0.0 in
        let w1 = both (reaches a (at + 8)) (reaches c other && reaches r end) w0.1 in let w2 = both (reaches c other) (reaches r end) w1.1 in
        let s0 = both (spaced a) (spaced c && spaced r) rd.roomy in let s1 = both (spaced c) (spaced r) s0.1 in
        let e8 : at + 4 + 4 ≡ at + 8 = omega arith in
        let tail : List Ins = branch always over end ∷ nop ∷ (code c other ++ code r end) in
        let body = subst (λ n. StandsAs kept first n (code a (at + 8) ++ tail)) e8 st.1.1 in
        let to_over : at + 8 + 4 * size a ≡ over = omega arith in
        let jump = stands_at kept first (at + 8) over a tail to_over body in
        let eb : over + 4 + 4 ≡ other = omega arith in
        let body_c = subst (λ n. StandsAs kept first n (code c other ++ code r end)) eb jump.1.1 in
        let to : other + 4 * size c ≡ end = omega arith in
        let fin : end + 4 * size r ≡ at + 4 * (4 + size a + size c + size r) = omega arith in
        let ready_a : Ready a (at + 8) = record { fitting = f1.0; reaching = w1.0; roomy = s0.0; words = stands_front kept first (at + 8) (code a (at + 8)) tail body } in
        let ready_c : Ready c other = record { fitting = f2.0; reaching = w2.0; roomy = s1.0; words = stands_front kept first other (code c other) (code r end) body_c } in
        let ready_r : Ready r end = record { fitting = f2.1; reaching = w2.1; roomy = s1.1; words = stands_at kept first other end c (code r end) to body_c } in
        let L : Goal = Meets kept C r end K G in
        let O : Goal = λ m. L (branching m) in
        let rest = part b end (at + 4 * (4 + size a + size c + size r)) K G r end least (walk r) ready_r refl fin o in
        let behind : Open b (at + 8 + 4 * size a) O G = part_over b (at + 8 + 4 * size a) over end L G least to_over rest (λ i m km q. taken kept first P backs i always m over end km jump.0 jump.1.0 refl near.1 (even_two at (size a) (size c) st.0.aligned) refl q) in
        at_rest s raw p at n e (none_pending p (Choose t a c r) clr refl)
        (⊎_elim
        (λ y. by_two b s at least (low kept most C lows a (at + 8) O G (passing s) behind.low behind.low_jump (h.0 y)) (λ j fw. passed_by kept first P backs j t s at other ks st.0 st.1.0 f0.0 y
        (walk a (at + 8) O G b (passing s) s.regs None least refl refl ready_a (passing_keeps s ks)
        behind
        (h.0 y) j (omega (arith, fw)))) n few)
        (λ y. by_two b s at least (low kept most C lows c other _ G (passing s) rest.low rest.low_jump (h.1 y)) (λ j fw. taken kept first P backs j (opposite t) s at other ks st.0 st.1.0 (opposite_fits t f0.0) near.0 (even_16 at (size a) st.0.aligned) y
        (walk c other L G b (passing s) s.regs None least refl refl ready_c (passing_keeps s ks) (subst (λ x. Open b x L G) (sym to) rest) (h.1 y) j (omega (arith, fw)))) n few)
        (decided t s.regs))
    walk (Loop t a r) at K G b s raw p least e clr rd ks o h n few =
        let back : ℕ = at + (8 + 4 * size a) in
        let end : ℕ = at + (16 + 4 * size a) in
        let st = rd.words in
        let f0 = both (test_fits t) (fits a && fits r) rd.fitting in let f1 = both (fits a) (fits r) f0.1 in
        let w0 = both (in_reach at end && in_reach back at) (reaches a (at + 8) && reaches r end) rd.reaching in
        let near = both (in_reach at end) (in_reach back at) w0.0 in
        let w1 = both (reaches a (at + 8)) (reaches r end) w0.1 in
        let sq = both (spaced a) (spaced r) rd.roomy in
        let e8 : at + 4 + 4 ≡ at + 8 = omega arith in
        let tail : List Ins = branch always back at ∷ nop ∷ code r end in
        let body = subst (λ n. StandsAs kept first n (code a (at + 8) ++ tail)) e8 st.1.1 in
        let to : at + 8 + 4 * size a ≡ back = omega arith in
        let turn = stands_at kept first (at + 8) back a tail to body in
        let er : back + 4 + 4 ≡ end = omega arith in
        let fin : end + 4 * size r ≡ at + 4 * (4 + size a + size r) = omega arith in
        let ready_a : Ready a (at + 8) = record { fitting = f1.0; reaching = w1.0; roomy = sq.0; words = stands_front kept first (at + 8) (code a (at + 8)) tail body } in
        let ready_r : Ready r end = record { fitting = f1.1; reaching = w1.1; roomy = sq.1; words = subst (λ n. StandsAs kept first n (code r end)) er turn.1.1 } in
        let rest = part b end (at + 4 * (4 + size a + size r)) K G r end least (walk r) ready_r refl fin o in
        at_rest s raw p at n e (none_pending p (Loop t a r) clr refl)
        (turns h.0 t at back end (λ L. Meets kept C a (at + 8) L G) (Meets kept C r end K G) G b least
        (λ L m km q w j fw. walk a (at + 8) L G b m m.regs None least refl refl ready_a km (subst (λ x. Open b x L G) (sym to) q) w j fw)
        (λ L m k w. low kept most C lows a (at + 8) L G m k o.low_jump w)
        (λ j m km y q. passed_by kept first P backs j t m at end km st.0 st.1.0 f0.0 y q)
        (λ j m km y q. taken kept first P backs j (opposite t) m at end km st.0 st.1.0 (opposite_fits t f0.0) near.0 (even_16 at (size a) st.0.aligned) y q)
        (λ j m km q. taken kept first P backs j always m back at km turn.0 turn.1.0 refl near.1 st.0.aligned refl q)
        rest s ks h.1 n few)
    walk (Visit a r) at K G b s raw p least e clr rd ks o h n few =
        let st = rd.words in
        let w0 = both (in_region at a) (reaches r (at + 8)) rd.reaching in
        let e8 : at + 4 + 4 ≡ at + 8 = omega arith in
        let fin : at + 8 + 4 * size r ≡ at + 4 * (2 + size r) = omega arith in
        let into : Run = linking s (at + 8) in
        let link : ((at + 4) % 2 ^ 32 + 4) % 2 ^ 32 ≡ at + 8 = ap (λ x. (x + 4) % 2 ^ 32) (no_wrap at st.0.mapped) ∙ no_wrap (at + 4) st.1.0.mapped ∙ e8 in
        let ready_r : Ready r (at + 8) = record { fitting = rd.fitting; reaching = w0.1; roomy = rd.roomy; words = subst (λ n. StandsAs kept first n (code r (at + 8))) e8 st.1.1 } in
        let rest = part b (at + 8) (at + 4 * (2 + size r)) K G r (at + 8) least (walk r) ready_r refl fin o in
        at_rest s raw p at n e (none_pending p (Visit a r) clr refl)
        (by_two b s at least (lows.low a (at + 8) _ into rest.low h) (λ j fw. two kept first P backs j (JAL (target_of a)) s into at a ks (linking_keeps s (at + 8) ks) st.0 st.1.0 (target_fits a) refl refl
        (λ bus. ap (λ x. in_slot (linking s x) ((at + 4) % 2 ^ 32) ((at + 4) % 2 ^ 32 / 2 ^ 28 * 2 ^ 28 + a / 4 % 2 ^ 26 * 4)) link ∙ ap (in_slot into ((at + 4) % 2 ^ 32)) (jumps_to at a w0.0)) (λ bus. refl)
        (known a (at + 8) (Meets kept C r (at + 8) K G) b into least (linking_keeps s (at + 8) ks) rest.low rest.here h j (omega (arith, fw)))) n few)
    walk (Go a r) at K G b s raw p least e clr rd ks o h n few =
        let st = rd.words in
        let w0 = both (in_region at a) (reaches r (at + 8)) rd.reaching in
        at_rest s raw p at n e (none_pending p (Go a r) clr refl)
        (by_two b s at least (o.low_jump a (passing s) h) (λ j fw. two kept first P backs j (J (target_of a)) s (passing s) at a ks (passing_keeps s ks) st.0 st.1.0 (target_fits a) refl refl
        (λ bus. ap (in_slot s ((at + 4) % 2 ^ 32)) (jumps_to at a w0.0)) (λ bus. refl) (o.jump a (passing s) (passing_keeps s ks) h j (omega (arith, fw)))) n few)
    walk (GoTo g r) at K G b s raw p least e clr rd ks o h n few =
        let st = rd.words in
        let f0 = both (is_register g) (fits r) rd.fitting in
        at_rest s raw p at n e (none_pending p (GoTo g r) clr refl)
        (by_two b s at least (o.low_jump (register s.regs g.0) (passing s) h) (λ j fw. two kept first P backs j (JR g) s (passing s) at (register s.regs g.0) ks (passing_keeps s ks) st.0 st.1.0 (register_fits g f0.0) refl refl
        (λ bus. refl) (λ bus. refl) (o.jump (register s.regs g.0) (passing s) (passing_keeps s ks) h j (omega (arith, fw)))) n few)

  -- a listing that is placed
  ready : (T : Tree) (at : ℕ) → IsPlaced kept first at T → Ready T at
  ready T at p = record { fitting = p.fitting; reaching = p.reaching; roomy = tree_spaced T [] refl p.roomy; words = as_code kept first at (code T at) p.words }

  walk_calls : (ls : List (ℕ × Tree)) → ArePlaced kept first ls → (a ret : ℕ) (K : Goal) (b : ℕ) (s : Run) → most ≤ b → Keeps kept first s → Low most K → ((e : Run) → Keeps kept first e → K e → At b e ret) → calls kept ls a ret K s → At b s a
  walk_calls [] pl a ret K b s least ks lw o h = absurd h
  walk_calls (l ∷ ls) pl a ret K b s least ks lw o h =
      let w = walk (calls kept ls) (walk_calls ls pl.1) (low_calls kept most ls) l.1 l.0 (λ _. ⊥) (λ b m. (b ≡ ret) × K m) b s s.regs None least refl refl (ready l.1 l.0 pl.0) ks (record {
        low = λ e z. absurd z;
        low_jump = λ a e z. lw e z.1;
        here = λ e ke z. absurd z;
        jump = λ a e ke z. subst (λ n. At b e n) (sym z.0) (o e ke z.1);
      }) in
      split (nat_eq a l.0) refl (λ e k. subst (λ n. At b s n) (sym (eqb-true a l.0 e)) (w (meets_back kept (calls kept ls) (fair kept ls) l.1 l.0 (λ _. ⊥) (λ b m. (b ≡ ret) × K m) s k))) (λ k. walk_calls ls pl.1 a ret K b s least ks lw o k) h
    where
      split : {X Y Z : Type 0} (v : Bool) → nat_eq a l.0 ≡ v → (nat_eq a l.0 ≡ true → X → Z) → (Y → Z) → cond v X Y → Z
      split true e f g h = f e h
      split false e f g h = g h

  -- It is shown from a state at a listing, where it is from the states of the listing's goals.
  pub walk_placed : (ls : List (ℕ × Tree)) → ArePlaced kept first ls → (T : Tree) (at : ℕ) (K : Goal) (G : ℕ → Goal) (b : ℕ) (s : Run) → most ≤ b → IsPlaced kept first at T → Keeps kept first s → Open b (at + 4 * size T) K G
      → Meets kept (calls kept ls) T at K G s → At b s at
  walk_placed ls pl T at K G b s least p ks o h = walk (calls kept ls) (walk_calls ls pl) (low_calls kept most ls) T at K G b s s.regs None least refl refl (ready T at p) ks o h

-- for the goal within so many steps
pub within_backs : (Z : Aim) → Backs (Within Z)
within_backs Z = record { back = λ n k q h. inr h }

pub within_here : (Z : Aim) (n : ℕ) (k : Core) (q : List Access) → Z k q → Within Z n k q
within_here Z zero k q z = z
within_here Z (suc n) k q z = inl z
