-- The words of a listing do what the listing says.
use Rattle.std.proofs.Common.{◌≡◌, ℕ, zero, suc, ◌+◌, ◌*◌, ◌/◌, ◌%◌, ◌^◌, ◌<◌, ◌⊎◌, inl, inr, List, ◌∷◌, ◌++◌, Bool, true, Option, None, refl, sym, ap, ◌∙◌, subst, arith, ⊎_elim}
use Rattle.std.specs.Prelude.{nat_lt, ◌&&◌}
use Rattle.std.proofs.lemmas.Bool.{lt-ltb}
use Rattle.psx_ins.specs.declared.reg.Reg.{Reg}
use Rattle.psx_ins.specs.declared.ins.Ins.{Ins}
use Rattle.psx_ins.specs.declared.ins.Ins.TheVariants.{J, JAL, JR}
use Rattle.psx_ins.specs.Words.{fits_fields}
use Rattle.psx_base.specs.Memory.{Memory}
use Rattle.psx_base.specs.Registers.{Registers, register}
use Rattle.psx_base.specs.Context.{settled}
use Rattle.psx_cpu.specs.Processor.{Bus}
use Rattle.psx_cpu.specs.Effect.{effect}
use Rattle.psx_flow.specs.declared.node.Test.{Test}
use Rattle.psx_flow.specs.Tree.{Tree, Stop, Do, When, Choose, Loop, Visit, Go, GoTo, size}
use Rattle.psx_flow.specs.Well.{is_op, is_register, test_fits, fits}
use Rattle.psx_flow.specs.Spaced.{load_of}
use Rattle.psx_flow.specs.Lowered.{opposite, always, nop, branch, target_of, code, in_reach, in_region, reaches}
use Rattle.psx_flow.specs.Run.{Run, state_at, done}
use Rattle.psx_flow.specs.Meets.{TestHolds, passing, branching, linking, Goal, Calls, Turns, MeetsEach}
use Rattle.psx_flow.specs.Plain.{Execution, executing}
use Rattle.psx_flow.specs.Reaches.{Keeps}
use Rattle.psx_flow.proofs.Rules.{decided}
use Rattle.psx_flow.proofs.Step.{StandsAs, both, standing}
use Rattle.psx_flow.proofs.Kept.{done_keeps}
use Rattle.psx_flow.proofs.Room.{room, spaced, clear, none_pending, clear_after}
use Rattle.psx_flow.proofs.Branches.{no_wrap, jumps_to, in_slot, opposite_fits}
use Rattle.psx_flow.proofs.Moves.{stands_front, stands_at, pending_at, Moves, Leads, From, reach_here, reach_then, reach_after, at_rest, one, two, taken, passed_by}

pub target_fits : (a : ℕ) → nat_lt (target_of a) (2 ^ 26) ≡ true
target_fits a = lt-ltb _ _ (small a)
  where
    small : (a : ℕ) → target_of a < 2 ^ 26
    small a = omega arith

pub register_fits : (n : Reg) → nat_lt n.0 32 ≡ true → fits_fields (JR n) ≡ true
register_fits n h = ap (λ b. b && true && true && true) h

pub even_8 : (at n : ℕ) → at % 4 ≡ 0 → (at + (8 + 4 * n)) % 4 ≡ 0
even_8 at n h = omega arith

pub even_16 : (at n : ℕ) → at % 4 ≡ 0 → (at + (16 + 4 * n)) % 4 ≡ 0
even_16 at n h = omega arith

pub even_two : (at n m : ℕ) → at % 4 ≡ 0 → (at + (16 + 4 * n + 4 * m)) % 4 ≡ 0
even_two at n m h = omega arith

-- where a tree's run ends
abbrev pub EndsAt : ℕ → Goal → (ℕ → Goal) → (ℕ → Goal) → Run → ℕ → Type 0
EndsAt to K I G e b = ((b ≡ to) × K e) ⊎ (I b e ⊎ G b e)

module _ (kept : ℕ → Bool) (bus : ℕ → Bus) (few : (n : ℕ) → (bus n).value < 2 ^ 32) (first : Memory) where
  module _ (C : Calls) (known : (a ret : ℕ) (K : Goal) (c : ℕ) (s : Run) → Keeps kept first s → C a ret K s → From kept bus first c s a (λ e b. (b ≡ ret) × K e)) where
    ends_at : (x to : ℕ) (K : Goal) (I G : ℕ → Goal) (b : Execution) (c : ℕ) (s : Run) → x ≡ to → Leads kept bus first b c s (EndsAt x K I G) → Leads kept bus first b c s (EndsAt to K I G)
    ends_at x to K I G b c s e r = subst (λ y. Leads kept bus first b c s (EndsAt y K I G)) e r

    -- a part of a tree, and what follows it
    go_on : (x y : ℕ) (L : Goal) (I G : ℕ → Goal) (Z : Run → ℕ → Type 0) (b : Execution) (c : ℕ) (s : Run) → x ≡ y → ((d : ℕ) (e : Run) → Keeps kept first e → L e → From kept bus first d e y Z) → ((e : Run) (t : ℕ) → I t e ⊎ G t e → Z e t) → Leads kept bus first b c s (EndsAt x L I G) → Leads kept bus first b c s Z
    go_on x y L I G Z b c s e f g r =
        reach_then kept bus first b c s _ Z r (λ d m t km. ⊎_elim (λ z. subst (λ a. From kept bus first d m a Z) (sym (z.0 ∙ e)) (f d m km z.1)) (λ k. reach_here kept bus first d m t Z km (g m t k)))

    passing_keeps : (s : Run) → Keeps kept first s → Keeps kept first (passing s)
    passing_keeps s k = record { bytes = k.bytes; masked = k.masked }

    branching_keeps : (s : Run) → Keeps kept first s → Keeps kept first (branching s)
    branching_keeps s k = record { bytes = k.bytes; masked = k.masked }

    linking_keeps : (s : Run) (back : ℕ) → Keeps kept first s → Keeps kept first (linking s back)
    linking_keeps s back k = record { bytes = k.bytes; masked = k.masked }

    -- a loop, from its head
    turns_run : (n c : ℕ) (t : Test) (a : Tree) (at end : ℕ) (Z : Run → ℕ → Type 0) (I G : ℕ → Goal) (K : Goal) (s : Run)
        → ((L : Goal) (d : ℕ) (e : Run) → Keeps kept first e → MeetsEach kept C a (at + 8) L I G e → From kept bus first d e (at + 8) (EndsAt (at + (8 + 4 * size a)) L I G))
        → ((d : ℕ) (e : Run) → Keeps kept first e → K e → From kept bus first d e end Z)
        → ((e : Run) (b : ℕ) → I b e ⊎ G b e → Z e b)
        → ((d : ℕ) (e : Run) → Keeps kept first e → TestHolds t e.regs → Moves kept bus first 2 (executing e at d) (executing e (at + 8) (d + 2)))
        → ((d : ℕ) (e : Run) → Keeps kept first e → TestHolds (opposite t) e.regs → Moves kept bus first 2 (executing e at d) (executing e end (d + 2)))
        → ((d : ℕ) (e : Run) → Keeps kept first e → Moves kept bus first 2 (executing e (at + (8 + 4 * size a)) d) (executing e at (d + 2)))
        → Keeps kept first s → Turns n t (λ L. MeetsEach kept C a (at + 8) L I G) K s → From kept bus first c s at Z
    turns_run zero c t a at end Z I G K s body rest out into past back ks h = absurd h
    turns_run (suc n) c t a at end Z I G K s body rest out into past back ks h =
        ⊎_elim
        (λ y. reach_after kept bus first 2 c s (passing s) _ (executing (passing s) (at + 8) (c + 2)) Z (into c s ks y) (omega arith)
        (go_on (at + (8 + 4 * size a)) (at + (8 + 4 * size a)) _ I G Z _ (c + 2) (passing s) refl
        (λ d m km z. reach_after kept bus first 2 d m (branching m) _ (executing (branching m) at (d + 2)) Z (back d m km) (omega arith)
        (turns_run n (d + 2) t a at end Z I G K (branching m) body rest out into past back (branching_keeps m km) z))
        out (body _ (c + 2) (passing s) (passing_keeps s ks) (h.1 y))))
        (λ y. reach_after kept bus first 2 c s (passing s) _ (executing (passing s) end (c + 2)) Z (past c s ks y) (omega arith) (rest (c + 2) (passing s) (passing_keeps s ks) (h.0 y)))
        (decided t s.regs)

    pub run_tree : (T : Tree) (at : ℕ) (K : Goal) (I G : ℕ → Goal) (c : ℕ) (s : Run) (raw : Registers) (p : Option (ℕ × ℕ)) → settled raw p ≡ s.regs → clear p T ≡ true
        → fits T ≡ true → reaches T at ≡ true → spaced T ≡ true → Keeps kept first s → StandsAs kept first at (code T at) → MeetsEach kept C T at K I G s
        → Leads kept bus first (standing (pending_at s raw p at) s.seen c) c s (EndsAt (at + 4 * size T) K I G)
    run_tree Stop at K I G c s raw p e clr f w sp ks st h =
        let end : at ≡ at + 4 * 0 = omega arith in
        at_rest kept bus first s raw p at c _ e (none_pending p Stop clr refl) (reach_here kept bus first c s at _ ks (inl (end, h)))
    run_tree (Do i r) at K I G c s raw p e clr f w sp ks st h =
        let fp = both (is_op i) (fits r) f in
        let sq = both (room (load_of i) r) (spaced r) sp in
        let m : Run = done i s at (bus c) in
        let y = effect i (state_at s at) (bus c) in
        let end : at + 4 + 4 * size r ≡ at + 4 * (1 + size r) = omega arith in
        reach_after kept bus first 1 c s m _ _ _ (one kept bus first c i s raw p at r e clr ks st.0 fp.0 h.0) (omega arith)
        (ends_at _ _ K I G _ (c + 1) m end
        (run_tree r (at + 4) K I G (c + 1) m y.context.regs y.context.pending refl (clear_after i s at (bus c) r sq.0) fp.1 w sq.1 (done_keeps kept first i s at (bus c) h.1 ks) st.1 (h.2 (bus c) (few c))))
    run_tree (When t a r) at K I G c s raw p e clr f w sp ks st h =
        let end : ℕ = at + (8 + 4 * size a) in
        let f0 = both (test_fits t) (fits a && fits r) f in let f1 = both (fits a) (fits r) f0.1 in
        let w0 = both (in_reach at end) (reaches a (at + 8) && reaches r end) w in let w1 = both (reaches a (at + 8)) (reaches r end) w0.1 in
        let sq = both (spaced a) (spaced r) sp in
        let e8 : at + 4 + 4 ≡ at + 8 = omega arith in
        let body = subst (λ n. StandsAs kept first n (code a (at + 8) ++ code r end)) e8 st.1.1 in
        let to : at + 8 + 4 * size a ≡ end = omega arith in
        let fin : end + 4 * size r ≡ at + 4 * (2 + size a + size r) = omega arith in
        let rest : (d : ℕ) (m : Run) → Keeps kept first m → MeetsEach kept C r end K I G m → From kept bus first d m end (EndsAt (at + 4 * (2 + size a + size r)) K I G) =
        λ d m km k. ends_at _ _ K I G _ d m fin (run_tree r end K I G d m m.regs None refl refl f1.1 w1.1 sq.1 km (stands_at kept first (at + 8) end a (code r end) to body) k) in
        at_rest kept bus first s raw p at c _ e (none_pending p (When t a r) clr refl)
        (⊎_elim
        (λ y. reach_after kept bus first 2 c s (passing s) _ (executing (passing s) (at + 8) (c + 2)) _ (passed_by kept bus first c t s at end ks st.0 st.1.0 f0.0 y) (omega arith)
        (go_on (at + 8 + 4 * size a) end _ I G _ _ (c + 2) (passing s) to rest (λ m b g. inr g) (run_tree a (at + 8) _ I G (c + 2) (passing s) s.regs None refl refl f1.0 w1.0 sq.0 (passing_keeps s ks) (stands_front kept first (at + 8) (code a (at + 8)) (code r end) body) (h.0 y))))
        (λ n. reach_after kept bus first 2 c s (passing s) _ (executing (passing s) end (c + 2)) _ (taken kept bus first c (opposite t) s at end ks st.0 st.1.0 (opposite_fits t f0.0) w0.0 (even_8 at (size a) st.0.aligned) n) (omega arith)
        (rest (c + 2) (passing s) (passing_keeps s ks) (h.1 n)))
        (decided t s.regs))
    run_tree (Choose t a b r) at K I G c s raw p e clr f w sp ks st h =
        let over : ℕ = at + (8 + 4 * size a) in
        let other : ℕ = at + (16 + 4 * size a) in
        let end : ℕ = at + (16 + 4 * size a + 4 * size b) in
        let f0 = both (test_fits t) (fits a && (fits b && fits r)) f in let f1 = both (fits a) (fits b && fits r) f0.1 in let f2 = both (fits b) (fits r) f1.1 in
        let w0 = both (in_reach at other && in_reach over end) (reaches a (at + 8) && (reaches b other && reaches r end)) w in
        let near = both (in_reach at other) (in_reach over end) w0.0 in
        let w1 = both (reaches a (at + 8)) (reaches b other && reaches r end) w0.1 in let w2 = both (reaches b other) (reaches r end) w1.1 in
        let s0 = both (spaced a) (spaced b && spaced r) sp in let s1 = both (spaced b) (spaced r) s0.1 in
        let e8 : at + 4 + 4 ≡ at + 8 = omega arith in
        let tail : List Ins = branch always over end ∷ nop ∷ (code b other ++ code r end) in
        let body = subst (λ n. StandsAs kept first n (code a (at + 8) ++ tail)) e8 st.1.1 in
        let to_over : at + 8 + 4 * size a ≡ over = omega arith in
        let jump = stands_at kept first (at + 8) over a tail to_over body in
        let eb : over + 4 + 4 ≡ other = omega arith in
        let body_b = subst (λ n. StandsAs kept first n (code b other ++ code r end)) eb jump.1.1 in
        let to : other + 4 * size b ≡ end = omega arith in
        let fin : end + 4 * size r ≡ at + 4 * (4 + size a + size b + size r) = omega arith in
        let rest : (d : ℕ) (m : Run) → Keeps kept first m → MeetsEach kept C r end K I G m → From kept bus first d m end (EndsAt (at + 4 * (4 + size a + size b + size r)) K I G) =
        λ d m km k. ends_at _ _ K I G _ d m fin (run_tree r end K I G d m m.regs None refl refl f2.1 w2.1 s1.1 km (stands_at kept first other end b (code r end) to body_b) k) in
        at_rest kept bus first s raw p at c _ e (none_pending p (Choose t a b r) clr refl)
        (⊎_elim
        (λ y. reach_after kept bus first 2 c s (passing s) _ (executing (passing s) (at + 8) (c + 2)) _ (passed_by kept bus first c t s at other ks st.0 st.1.0 f0.0 y) (omega arith)
        (go_on (at + 8 + 4 * size a) over _ I G _ _ (c + 2) (passing s) to_over
        (λ d m km k. reach_after kept bus first 2 d m (branching m) _ (executing (branching m) end (d + 2)) _ (taken kept bus first d always m over end km jump.0 jump.1.0 refl near.1 (even_two at (size a) (size b) st.0.aligned) refl) (omega arith)
        (rest (d + 2) (branching m) (branching_keeps m km) k)) (λ m b g. inr g)
        (run_tree a (at + 8) _ I G (c + 2) (passing s) s.regs None refl refl f1.0 w1.0 s0.0 (passing_keeps s ks) (stands_front kept first (at + 8) (code a (at + 8)) tail body) (h.0 y))))
        (λ n. reach_after kept bus first 2 c s (passing s) _ (executing (passing s) other (c + 2)) _ (taken kept bus first c (opposite t) s at other ks st.0 st.1.0 (opposite_fits t f0.0) near.0 (even_16 at (size a) st.0.aligned) n) (omega arith)
        (go_on (other + 4 * size b) end _ I G _ _ (c + 2) (passing s) to rest (λ m b g. inr g) (run_tree b other _ I G (c + 2) (passing s) s.regs None refl refl f2.0 w2.0 s1.0 (passing_keeps s ks) (stands_front kept first other (code b other) (code r end) body_b) (h.1 n))))
        (decided t s.regs))
    run_tree (Loop t a r) at K I G c s raw p e clr f w sp ks st h =
        let back : ℕ = at + (8 + 4 * size a) in
        let end : ℕ = at + (16 + 4 * size a) in
        let f0 = both (test_fits t) (fits a && fits r) f in let f1 = both (fits a) (fits r) f0.1 in
        let w0 = both (in_reach at end && in_reach back at) (reaches a (at + 8) && reaches r end) w in
        let near = both (in_reach at end) (in_reach back at) w0.0 in
        let w1 = both (reaches a (at + 8)) (reaches r end) w0.1 in
        let sq = both (spaced a) (spaced r) sp in
        let e8 : at + 4 + 4 ≡ at + 8 = omega arith in
        let tail : List Ins = branch always back at ∷ nop ∷ code r end in
        let body = subst (λ n. StandsAs kept first n (code a (at + 8) ++ tail)) e8 st.1.1 in
        let to : at + 8 + 4 * size a ≡ back = omega arith in
        let turn = stands_at kept first (at + 8) back a tail to body in
        let er : back + 4 + 4 ≡ end = omega arith in
        let fin : end + 4 * size r ≡ at + 4 * (4 + size a + size r) = omega arith in
        at_rest kept bus first s raw p at c _ e (none_pending p (Loop t a r) clr refl)
        (turns_run h.0 c t a at end _ I G (MeetsEach kept C r end K I G) s
        (λ L d m km k. ends_at _ _ L I G _ d m to (run_tree a (at + 8) L I G d m m.regs None refl refl f1.0 w1.0 sq.0 km (stands_front kept first (at + 8) (code a (at + 8)) tail body) k))
        (λ d m km k. ends_at _ _ K I G _ d m fin (run_tree r end K I G d m m.regs None refl refl f1.1 w1.1 sq.1 km (subst (λ n. StandsAs kept first n (code r end)) er turn.1.1) k))
        (λ m b g. inr g)
        (λ d m km y. passed_by kept bus first d t m at end km st.0 st.1.0 f0.0 y)
        (λ d m km y. taken kept bus first d (opposite t) m at end km st.0 st.1.0 (opposite_fits t f0.0) near.0 (even_16 at (size a) st.0.aligned) y)
        (λ d m km. taken kept bus first d always m back at km turn.0 turn.1.0 refl near.1 st.0.aligned refl)
        ks h.1)
    run_tree (Visit a r) at K I G c s raw p e clr f w sp ks st h =
        let w0 = both (in_region at a) (reaches r (at + 8)) w in
        let e8 : at + 4 + 4 ≡ at + 8 = omega arith in
        let fin : at + 8 + 4 * size r ≡ at + 4 * (2 + size r) = omega arith in
        let into : Run = linking s (at + 8) in
        let link : ((at + 4) % 2 ^ 32 + 4) % 2 ^ 32 ≡ at + 8 = ap (λ x. (x + 4) % 2 ^ 32) (no_wrap at st.0.mapped) ∙ no_wrap (at + 4) st.1.0.mapped ∙ e8 in
        at_rest kept bus first s raw p at c _ e (none_pending p (Visit a r) clr refl)
        (reach_after kept bus first 2 c s into _ (executing into a (c + 2)) _
        (two kept bus first c (JAL (target_of a)) s into at a ks (linking_keeps s (at + 8) ks) st.0 st.1.0 (target_fits a) refl refl
        (ap (λ x. in_slot (linking s x) ((at + 4) % 2 ^ 32) ((at + 4) % 2 ^ 32 / 2 ^ 28 * 2 ^ 28 + a / 4 % 2 ^ 26 * 4)) link ∙ ap (in_slot into ((at + 4) % 2 ^ 32)) (jumps_to at a w0.0)) refl) (omega arith)
        (reach_then kept bus first _ (c + 2) into _ _ (known a _ _ _ into (linking_keeps s (at + 8) ks) h) (λ d m b km z.
        subst (λ n. From kept bus first d m n (EndsAt (at + 4 * (2 + size r)) K I G)) (sym z.0) (ends_at _ _ K I G _ d m fin (run_tree r (at + 8) K I G d m m.regs None refl refl f w0.1 sp km (subst (λ n. StandsAs kept first n (code r (at + 8))) e8 st.1.1) z.1)))))
    run_tree (Go a r) at K I G c s raw p e clr f w sp ks st h =
        let w0 = both (in_region at a) (reaches r (at + 8)) w in
        at_rest kept bus first s raw p at c _ e (none_pending p (Go a r) clr refl)
        (reach_after kept bus first 2 c s (passing s) _ (executing (passing s) a (c + 2)) _
        (two kept bus first c (J (target_of a)) s (passing s) at a ks (passing_keeps s ks) st.0 st.1.0 (target_fits a) refl refl (ap (in_slot s ((at + 4) % 2 ^ 32)) (jumps_to at a w0.0)) refl) (omega arith)
        (reach_here kept bus first _ _ _ _ (passing_keeps s ks) (inr (inl h))))
    run_tree (GoTo n r) at K I G c s raw p e clr f w sp ks st h =
        let f0 = both (is_register n) (fits r) f in
        at_rest kept bus first s raw p at c _ e (none_pending p (GoTo n r) clr refl)
        (reach_after kept bus first 2 c s (passing s) _ (executing (passing s) (register s.regs n.0) (c + 2)) _
        (two kept bus first c (JR n) s (passing s) at (register s.regs n.0) ks (passing_keeps s ks) st.0 st.1.0 (register_fits n f0.0) refl refl refl refl) (omega arith)
        (reach_here kept bus first _ _ _ _ (passing_keeps s ks) (inr (inr h))))
