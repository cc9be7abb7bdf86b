-- Each run of a listing is made by its words, for some answers of the bus.
use Rattle.std.proofs.Common.{◌≡◌, ℕ, ◌+◌, ◌*◌, ◌/◌, ◌%◌, ◌^◌, List, [], ◌∷◌, ◌++◌, Bool, true, false, cond, Option, Some, None, refl, sym, ap, ◌∙◌, subst, arith, ⊎_elim}
use Rattle.std.specs.Prelude.{nat_eq, ◌&&◌}
use Rattle.std.proofs.lemmas.Bool.{eqb-true}
use Rattle.psx_ins.specs.declared.ins.Ins.{Ins}
use Rattle.psx_ins.specs.declared.ins.Ins.TheVariants.{J, JAL, JR}
use Rattle.psx_base.specs.Memory.{Memory}
use Rattle.psx_base.specs.Registers.{Registers, register}
use Rattle.psx_base.specs.Context.{settled}
use Rattle.psx_cpu.specs.Processor.{Bus}
use Rattle.psx_cpu.specs.Effect.{effect}
use Rattle.psx_flow.specs.Tree.{Tree, Stop, Do, When, Choose, Loop, Visit, Go, GoTo, size}
use Rattle.psx_flow.specs.Well.{is_op, is_register, test_fits, fits}
use Rattle.psx_flow.specs.Spaced.{load_of}
use Rattle.psx_flow.specs.Lowered.{opposite, always, nop, branch, target_of, code, in_reach, in_region, reaches}
use Rattle.psx_flow.specs.Run.{Run, state_at, done, spares}
use Rattle.psx_flow.specs.Meets.{passing, branching, linking}
use Rattle.psx_flow.specs.Runs.{Ending, JumpsTo, Called, Runs, called}
use Rattle.psx_flow.specs.Plain.{executing}
use Rattle.psx_flow.specs.Reaches.{Keeps, IsPlaced, ArePlaced}
use Rattle.psx_flow.proofs.Step.{StandsAs, as_code, both, standing}
use Rattle.psx_flow.proofs.Kept.{done_keeps}
use Rattle.psx_flow.proofs.Room.{room, spaced, clear, none_pending, clear_after, tree_spaced}
use Rattle.psx_flow.proofs.Branches.{no_wrap, jumps_to, in_slot, opposite_fits}
use Rattle.psx_flow.proofs.Moves.{stands_front, stands_at, pending_at, one, two, taken, passed_by}
use Rattle.psx_flow.proofs.Compiled.{target_fits, register_fits, even_8, even_16, even_two}
use Rattle.psx_flow.proofs.Following.{Follows, Comes, here, words_come, one_comes, then_come, ends_come, rest_comes, pass_keeps, link_keeps, part_comes, none_over, branch_over, turns_come}

module _ (kept : ℕ → Bool) (first : Memory) where
  module _ (R : Called) (known : (a back c : ℕ) (s m : Run) → Keeps kept first s → R a back s m → Follows kept first (executing s a c) c s.steps m back) where
    pub follow_tree : (T : Tree) (at c : ℕ) (s : Run) (raw : Registers) (p : Option (ℕ × ℕ)) (e : Ending) → settled raw p ≡ s.regs → clear p T ≡ true
        → fits T ≡ true → reaches T at ≡ true → spaced T ≡ true → Keeps kept first s → StandsAs kept first at (code T at) → Runs (spares kept) R T at s e
        → Comes kept first (standing (pending_at s raw p at) s.seen c) c s.steps (at + 4 * size T) e
    follow_tree Stop at c s raw p e eq clr f w sp ks st h =
        let end : at ≡ at + 4 * 0 = omega arith in
        rest_comes kept first c s.steps s raw p at _ e eq (none_pending p Stop clr refl)
        (subst (λ x. Comes kept first (executing s at c) c s.steps (at + 4 * 0) x) (sym h) (subst (λ x. Follows kept first (executing s at c) c s.steps s x) end (here kept first c s at ks)))
    follow_tree (Do i r) at c s raw p e eq clr f w sp ks st h =
        let fp = both (is_op i) (fits r) f in
        let sq = both (room (load_of i) r) (spaced r) sp in
        let b : Bus = h.2.0 in
        let m : Run = done i s at b in
        let y = effect i (state_at s at) b in
        let end : at + 4 + 4 * size r ≡ at + 4 * (1 + size r) = omega arith in
        one_comes kept first c s.steps _ (λ u. let y = effect i (state_at s at) u in standing (pending_at (done i s at u) y.context.regs y.context.pending (at + 4)) (done i s at u).seen (c + 1)) b _ e refl h.2.1
        (λ bus. one kept bus first c i s raw p at r eq clr ks st.0 fp.0 h.0) refl
        (ends_come kept first (c + 1) m.steps _ _ _ e end
        (follow_tree r (at + 4) (c + 1) m y.context.regs y.context.pending e refl (clear_after i s at b r sq.0) fp.1 w sq.1 (done_keeps kept first i s at b h.1 ks) st.1 h.2.2))
    follow_tree (When t a r) at c s raw p e eq clr f w sp ks st h =
        let end : ℕ = at + (8 + 4 * size a) in
        let f0 = both (test_fits t) (fits a && fits r) f in let f1 = both (fits a) (fits r) f0.1 in
        let w0 = both (in_reach at end) (reaches a (at + 8) && reaches r end) w in let w1 = both (reaches a (at + 8)) (reaches r end) w0.1 in
        let sq = both (spaced a) (spaced r) sp in
        let e8 : at + 4 + 4 ≡ at + 8 = omega arith in
        let body = subst (λ n. StandsAs kept first n (code a (at + 8) ++ code r end)) e8 st.1.1 in
        let to : at + 8 + 4 * size a ≡ end = omega arith in
        let fin : end + 4 * size r ≡ at + 4 * (2 + size a + size r) = omega arith in
        let rest : (d : ℕ) (m : Run) (x : Ending) → Keeps kept first m → Runs (spares kept) R r end m x → Comes kept first (executing m end d) d m.steps (at + 4 * (2 + size a + size r)) x =
        λ d m x km k. ends_come kept first d m.steps _ _ _ x fin (follow_tree r end d m m.regs None x refl refl f1.1 w1.1 sq.1 km (stands_at kept first (at + 8) end a (code r end) to body) k) in
        rest_comes kept first c s.steps s raw p at _ e eq (none_pending p (When t a r) clr refl)
        (⊎_elim
        (λ y. words_come kept first 2 c s.steps (passing s).steps _ (executing (passing s) (at + 8) (c + 2)) _ e (λ bus. passed_by kept bus first c t s at end ks st.0 st.1.0 f0.0 y.0) (omega arith)
        (part_comes kept first (Runs (spares kept) R a (at + 8)) (Runs (spares kept) R r end) (λ m. m) 0 (c + 2) (passing s) (at + 8) end end _ e (none_over kept first)
        (λ x k. ends_come kept first (c + 2) (passing s).steps _ _ _ x to (follow_tree a (at + 8) (c + 2) (passing s) s.regs None x refl refl f1.0 w1.0 sq.0 (pass_keeps kept first s ks) (stands_front kept first (at + 8) (code a (at + 8)) (code r end) body) k))
        (λ d m km bus. let z : d ≡ d + 0 = omega arith in ap (λ k. Some (executing m end k)) z) rest y.1))
        (λ n. words_come kept first 2 c s.steps (passing s).steps _ (executing (passing s) end (c + 2)) _ e (λ bus. taken kept bus first c (opposite t) s at end ks st.0 st.1.0 (opposite_fits t f0.0) w0.0 (even_8 at (size a) st.0.aligned) n.0) (omega arith)
        (rest (c + 2) (passing s) e (pass_keeps kept first s ks) n.1))
        h)
    follow_tree (Choose t a b r) at c s raw p e eq clr f w sp ks st h =
        let over : ℕ = at + (8 + 4 * size a) in
        let other : ℕ = at + (16 + 4 * size a) in
        let end : ℕ = at + (16 + 4 * size a + 4 * size b) in
        let f0 = both (test_fits t) (fits a && (fits b && fits r)) f in let f1 = both (fits a) (fits b && fits r) f0.1 in let f2 = both (fits b) (fits r) f1.1 in
        let w0 = both (in_reach at other && in_reach over end) (reaches a (at + 8) && (reaches b other && reaches r end)) w in
        let near = both (in_reach at other) (in_reach over end) w0.0 in
        let w1 = both (reaches a (at + 8)) (reaches b other && reaches r end) w0.1 in let w2 = both (reaches b other) (reaches r end) w1.1 in
        let s0 = both (spaced a) (spaced b && spaced r) sp in let s1 = both (spaced b) (spaced r) s0.1 in
        let e8 : at + 4 + 4 ≡ at + 8 = omega arith in
        let tail : List Ins = branch always over end ∷ nop ∷ (code b other ++ code r end) in
        let body = subst (λ n. StandsAs kept first n (code a (at + 8) ++ tail)) e8 st.1.1 in
        let to_over : at + 8 + 4 * size a ≡ over = omega arith in
        let jump = stands_at kept first (at + 8) over a tail to_over body in
        let eb : over + 4 + 4 ≡ other = omega arith in
        let body_b = subst (λ n. StandsAs kept first n (code b other ++ code r end)) eb jump.1.1 in
        let to : other + 4 * size b ≡ end = omega arith in
        let fin : end + 4 * size r ≡ at + 4 * (4 + size a + size b + size r) = omega arith in
        let rest : (d : ℕ) (m : Run) (x : Ending) → Keeps kept first m → Runs (spares kept) R r end m x → Comes kept first (executing m end d) d m.steps (at + 4 * (4 + size a + size b + size r)) x =
        λ d m x km k. ends_come kept first d m.steps _ _ _ x fin (follow_tree r end d m m.regs None x refl refl f2.1 w2.1 s1.1 km (stands_at kept first other end b (code r end) to body_b) k) in
        rest_comes kept first c s.steps s raw p at _ e eq (none_pending p (Choose t a b r) clr refl)
        (⊎_elim
        (λ y. words_come kept first 2 c s.steps (passing s).steps _ (executing (passing s) (at + 8) (c + 2)) _ e (λ bus. passed_by kept bus first c t s at other ks st.0 st.1.0 f0.0 y.0) (omega arith)
        (part_comes kept first (Runs (spares kept) R a (at + 8)) (Runs (spares kept) R r end) branching 2 (c + 2) (passing s) (at + 8) over end _ e (branch_over kept first)
        (λ x k. ends_come kept first (c + 2) (passing s).steps _ _ _ x to_over (follow_tree a (at + 8) (c + 2) (passing s) s.regs None x refl refl f1.0 w1.0 s0.0 (pass_keeps kept first s ks) (stands_front kept first (at + 8) (code a (at + 8)) tail body) k))
        (λ d m km bus. taken kept bus first d always m over end km jump.0 jump.1.0 refl near.1 (even_two at (size a) (size b) st.0.aligned) refl) rest y.1))
        (λ n. words_come kept first 2 c s.steps (passing s).steps _ (executing (passing s) other (c + 2)) _ e (λ bus. taken kept bus first c (opposite t) s at other ks st.0 st.1.0 (opposite_fits t f0.0) near.0 (even_16 at (size a) st.0.aligned) n.0) (omega arith)
        (part_comes kept first (Runs (spares kept) R b other) (Runs (spares kept) R r end) (λ m. m) 0 (c + 2) (passing s) other end end _ e (none_over kept first)
        (λ x k. ends_come kept first (c + 2) (passing s).steps _ _ _ x to (follow_tree b other (c + 2) (passing s) s.regs None x refl refl f2.0 w2.0 s1.0 (pass_keeps kept first s ks) (stands_front kept first other (code b other) (code r end) body_b) k))
        (λ d m km bus. let z : d ≡ d + 0 = omega arith in ap (λ k. Some (executing m end k)) z) rest n.1))
        h)
    follow_tree (Loop t a r) at c s raw p e eq clr f w sp ks st h =
        let back : ℕ = at + (8 + 4 * size a) in
        let end : ℕ = at + (16 + 4 * size a) in
        let f0 = both (test_fits t) (fits a && fits r) f in let f1 = both (fits a) (fits r) f0.1 in
        let w0 = both (in_reach at end && in_reach back at) (reaches a (at + 8) && reaches r end) w in
        let near = both (in_reach at end) (in_reach back at) w0.0 in
        let w1 = both (reaches a (at + 8)) (reaches r end) w0.1 in
        let sq = both (spaced a) (spaced r) sp in
        let e8 : at + 4 + 4 ≡ at + 8 = omega arith in
        let tail : List Ins = branch always back at ∷ nop ∷ code r end in
        let body = subst (λ n. StandsAs kept first n (code a (at + 8) ++ tail)) e8 st.1.1 in
        let to : at + 8 + 4 * size a ≡ back = omega arith in
        let turn = stands_at kept first (at + 8) back a tail to body in
        let er : back + 4 + 4 ≡ end = omega arith in
        let fin : end + 4 * size r ≡ at + 4 * (4 + size a + size r) = omega arith in
        rest_comes kept first c s.steps s raw p at _ e eq (none_pending p (Loop t a r) clr refl)
        (turns_come kept first h.0 c t a at end _ s e (Runs (spares kept) R a (at + 8)) (Runs (spares kept) R r end)
        (λ d m x km k. ends_come kept first d m.steps _ _ _ x to (follow_tree a (at + 8) d m m.regs None x refl refl f1.0 w1.0 sq.0 km (stands_front kept first (at + 8) (code a (at + 8)) tail body) k))
        (λ d m x km k. ends_come kept first d m.steps _ _ _ x fin (follow_tree r end d m m.regs None x refl refl f1.1 w1.1 sq.1 km (subst (λ n. StandsAs kept first n (code r end)) er turn.1.1) k))
        (λ d m km y bus. passed_by kept bus first d t m at end km st.0 st.1.0 f0.0 y)
        (λ d m km y bus. taken kept bus first d (opposite t) m at end km st.0 st.1.0 (opposite_fits t f0.0) near.0 (even_16 at (size a) st.0.aligned) y)
        (λ d m km bus. taken kept bus first d always m back at km turn.0 turn.1.0 refl near.1 st.0.aligned refl)
        ks h.1)
    follow_tree (Visit a r) at c s raw p e eq clr f w sp ks st h =
        let w0 = both (in_region at a) (reaches r (at + 8)) w in
        let e8 : at + 4 + 4 ≡ at + 8 = omega arith in
        let fin : at + 8 + 4 * size r ≡ at + 4 * (2 + size r) = omega arith in
        let into : Run = linking s (at + 8) in
        let link : ((at + 4) % 2 ^ 32 + 4) % 2 ^ 32 ≡ at + 8 = ap (λ x. (x + 4) % 2 ^ 32) (no_wrap at st.0.mapped) ∙ no_wrap (at + 4) st.1.0.mapped ∙ e8 in
        let q : Follows kept first (executing into a (c + 2)) (c + 2) into.steps h.0 (at + 8) = known a (at + 8) (c + 2) into h.0 (link_keeps kept first s (at + 8) ks) h.1 in
        rest_comes kept first c s.steps s raw p at _ e eq (none_pending p (Visit a r) clr refl)
        (words_come kept first 2 c s.steps (passing s).steps _ (executing into a (c + 2)) _ e
        (λ bus. two kept bus first c (JAL (target_of a)) s into at a ks (link_keeps kept first s (at + 8) ks) st.0 st.1.0 (target_fits a) refl refl
        (ap (λ x. in_slot (linking s x) ((at + 4) % 2 ^ 32) ((at + 4) % 2 ^ 32 / 2 ^ 28 * 2 ^ 28 + a / 4 % 2 ^ 26 * 4)) link ∙ ap (in_slot into ((at + 4) % 2 ^ 32)) (jumps_to at a w0.0)) refl) (omega arith)
        (then_come kept first (c + 2) into.steps (executing into a (c + 2)) h.0 (at + 8) _ e refl q
        (λ d. ends_come kept first d h.0.steps _ _ _ e fin (follow_tree r (at + 8) d h.0 h.0.regs None e refl refl f w0.1 sp q.keeps (subst (λ n. StandsAs kept first n (code r (at + 8))) e8 st.1.1) h.2))))
    follow_tree (Go a r) at c s raw p e eq clr f w sp ks st h =
        let w0 = both (in_region at a) (reaches r (at + 8)) w in
        rest_comes kept first c s.steps s raw p at _ e eq (none_pending p (Go a r) clr refl)
        (words_come kept first 2 c s.steps (passing s).steps _ (executing (passing s) a (c + 2)) _ e
        (λ bus. two kept bus first c (J (target_of a)) s (passing s) at a ks (pass_keeps kept first s ks) st.0 st.1.0 (target_fits a) refl refl (ap (in_slot s ((at + 4) % 2 ^ 32)) (jumps_to at a w0.0)) refl) (omega arith)
        (subst (λ x. Comes kept first (executing (passing s) a (c + 2)) (c + 2) (passing s).steps (at + 4 * (2 + size r)) x) (sym h) (here kept first (c + 2) (passing s) a (pass_keeps kept first s ks))))
    follow_tree (GoTo n r) at c s raw p e eq clr f w sp ks st h =
        let f0 = both (is_register n) (fits r) f in
        rest_comes kept first c s.steps s raw p at _ e eq (none_pending p (GoTo n r) clr refl)
        (words_come kept first 2 c s.steps (passing s).steps _ (executing (passing s) (register s.regs n.0) (c + 2)) _ e
        (λ bus. two kept bus first c (JR n) s (passing s) at (register s.regs n.0) ks (pass_keeps kept first s ks) st.0 st.1.0 (register_fits n f0.0) refl refl refl refl) (omega arith)
        (subst (λ x. Comes kept first (executing (passing s) (register s.regs n.0) (c + 2)) (c + 2) (passing s).steps (at + 4 * (2 + size r)) x) (sym h) (here kept first (c + 2) (passing s) (register s.regs n.0) (pass_keeps kept first s ks))))

  cond_split : (b : Bool) (P Q : Type 0) (S : Type 0) → (b ≡ true → P → S) → (b ≡ false → Q → S) → cond b P Q → S
  cond_split true P Q S f g h = f refl h
  cond_split false P Q S f g h = g refl h

  pub follow_calls : (ls : List (ℕ × Tree)) → ArePlaced kept first ls → (a back c : ℕ) (s m : Run) → Keeps kept first s → called (spares kept) ls a back s m → Follows kept first (executing s a c) c s.steps m back
  follow_calls [] pl a back c s m ks h = absurd h
  follow_calls (l ∷ ls) pl a back c s m ks h =
      cond_split (nat_eq a l.0) _ _ _
      (λ e k. subst (λ n. Follows kept first (executing s n c) c s.steps m back) (sym (eqb-true a l.0 e))
      (follow_tree (called (spares kept) ls) (follow_calls ls pl.1) l.1 l.0 c s s.regs None (JumpsTo back m) refl refl pl.0.fitting pl.0.reaching (tree_spaced l.1 [] refl pl.0.roomy) ks (as_code kept first l.0 (code l.1 l.0) pl.0.words) k))
      (λ e k. follow_calls ls pl.1 a back c s m ks k) h

  pub follow_listing : (ls : List (ℕ × Tree)) → ArePlaced kept first ls → (T : Tree) (at c : ℕ) (s : Run) (e : Ending) → IsPlaced kept first at T → Keeps kept first s → Runs (spares kept) (called (spares kept) ls) T at s e → Comes kept first (executing s at c) c s.steps (at + 4 * size T) e
  follow_listing ls pl T at c s e p ks h =
      follow_tree (called (spares kept) ls) (follow_calls ls pl) T at c s s.regs None e refl refl p.fitting p.reaching (tree_spaced T [] refl p.roomy) ks (as_code kept first at (code T at) p.words) h
