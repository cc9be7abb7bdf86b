-- One node of a listing, step by step: what holds behind its words, whatever the bus brings, holds before them.
use Rattle.std.proofs.Common.{◌≡◌, ℕ, suc, ◌+◌, ◌*◌, ◌%◌, ◌^◌, ◌<◌, List, Bool, true, false, Option, Some, None, refl, sym, ap, ◌∙◌, subst, arith}
use Rattle.std.specs.Prelude.{◌||◌, not}
use Rattle.std.proofs.lemmas.Bool.{false≢true}
use Rattle.psx_ins.specs.declared.ins.Ins.{Ins}
use Rattle.psx_ins.specs.Words.{fits_fields}
use Rattle.psx_ins.specs.Decoding.{instruction_of}
use Rattle.psx_base.specs.Memory.{Memory}
use Rattle.psx_base.specs.Registers.{Registers}
use Rattle.psx_base.specs.Context.{settled}
use Rattle.psx_cpu.specs.Processor.{Core, State, Bus, idle}
use Rattle.psx_cpu.specs.DataAccess.{read_word}
use Rattle.psx_cpu.specs.Words.{sign_extended}
use Rattle.psx_cpu.specs.Effect.{effect}
use Rattle.psx_cpu.specs.Traps.{trap_of}
use Rattle.psx_cpu.specs.Guard.{is_branch}
use Rattle.psx_flow.specs.declared.node.Test.{Test}
use Rattle.psx_flow.specs.Tree.{Tree, Do}
use Rattle.psx_flow.specs.Well.{enters_or_leaves, is_op, test_fits}
use Rattle.psx_flow.specs.Lowered.{opposite, nop, branch, distance, in_reach}
use Rattle.psx_flow.specs.Run.{Run, Access, accessed, state_at, done}
use Rattle.psx_flow.specs.Meets.{TestHolds}
use Rattle.psx_flow.specs.Plain.{seen_by, seen_at, kernel_core}
use Rattle.psx_flow.specs.Reaches.{Keeps}
use Rattle.psx_flow.proofs.Delay.{neither}
use Rattle.psx_flow.proofs.Step.{LiesAs, both, fetched, core_steps}
use Rattle.psx_flow.proofs.Room.{clear}
use Rattle.psx_flow.proofs.Moves.{pending_at, settles_effect, settles_trap, settles_access}
use Rattle.psx_flow.proofs.Branches.{no_wrap, mapped_below, goes_to, op_after, passes, fails, in_slot, branch_after, branch_trap, branch_stays, branch_seen, branch_fits, opposite_fits}
use Rattle.kern_entry.specs.Within.{Aim, Onto, Steps}

unsaid : (b : Bool) → not b ≡ true → b ≡ false
unsaid true h = absurd (false≢true h)
unsaid false h = refl

word_field : (x : ℕ) → x % 2 ^ 16 < 2 ^ 16
word_field x = omega arith

-- What is shown goes back by a step: it holds with one more step left where it holds behind the next step, whatever the bus brings.
pub record Backs (P : ℕ → Aim) : Type 0 where
  pub back : (n : ℕ) (k : Core) (q : List Access) → Steps (P n) k q → P (suc n) k q

module _ (kept : ℕ → Bool) (first : Memory) (P : ℕ → Aim) (backs : Backs P) where
  -- an instruction
  pub one : (n : ℕ) (x : State) (q : List Access) (i : Ins) → x.context.pc % 4 ≡ 0 → x.cop0.sr % 2 ≡ 0 → instruction_of (read_word x.bytes x.context.pc) ≡ Some i → enters_or_leaves i ≡ false → trap_of i x.context ≡ None
      → ((bus : Bus) → bus.value < 2 ^ 32 → P n (kernel_core (effect i x bus)) (accessed i x bus q)) → P (suc n) (kernel_core x) q
  one n x q i even off is gate none f =
      backs.back n (kernel_core x) q (λ bus lt. subst (λ o. Onto (P n) o (seen_at (kernel_core x) bus q)) (sym (core_steps x bus i even off is gate none)) (subst (λ o. P n (kernel_core (effect i x bus)) (seen_by o x bus q)) (sym is) (f bus lt)))

  -- an Op
  pub op : (n : ℕ) (i : Ins) (s : Run) (raw : Registers) (p : Option (ℕ × ℕ)) (at : ℕ) (T : Tree) → settled raw p ≡ s.regs → clear p (Do i T) ≡ true → Keeps kept first s → LiesAs kept first at i → is_op i ≡ true → trap_of i (state_at s at).context ≡ None
      → ((bus : Bus) → bus.value < 2 ^ 32 → let y = effect i (state_at s at) bus in P n (kernel_core (pending_at (done i s at bus) y.context.regs y.context.pending (at + 4))) (done i s at bus).seen)
      → P (suc n) (kernel_core (pending_at s raw p at)) s.seen
  op n i s raw p at T e clr k l w none f =
      let u = both (not (is_branch i || enters_or_leaves i)) (fits_fields i) w in
      let o = neither (is_branch i) (enters_or_leaves i) (unsaid _ u.0) in
      let x = pending_at s raw p at in
      one n x s.seen i l.aligned k.masked (fetched kept first s at i k l u.1) o.1 (settles_trap i s idle at T o.1 raw p e clr ∙ none)
      (λ bus lt. subst (λ q. P n (kernel_core (effect i x bus)) q) (sym (settles_access i s bus at T o.1 raw p s.seen e clr))
      (subst (λ y. P n (kernel_core y) (done i s at bus).seen) (sym (settles_effect i s bus at T o.1 raw p e clr ∙ op_after i s at bus o.0 o.1 (no_wrap at l.mapped))) (f bus lt)))

  -- a branch or a jump with its slot
  pub two : (n : ℕ) (i : Ins) (s e : Run) (at to : ℕ) → Keeps kept first s → Keeps kept first e → LiesAs kept first at i → LiesAs kept first (at + 4) nop → fits_fields i ≡ true → enters_or_leaves i ≡ false → trap_of i (state_at s at).context ≡ None
      → ((bus : Bus) → effect i (state_at s at) bus ≡ in_slot e ((at + 4) % 2 ^ 32) to) → ((bus : Bus) → accessed i (state_at s at) bus s.seen ≡ e.seen) → P n (kernel_core (state_at e to)) e.seen → P (suc (suc n)) (kernel_core (state_at s at)) s.seen
  two n i s e at to ks ke l m fit gate none goes same p =
      let wrap = no_wrap at l.mapped in
      let even : (at + 4) % 2 ^ 32 % 4 ≡ 0 = ap (λ a. a % 4) wrap ∙ m.aligned in
      let slot : P (suc n) (kernel_core (in_slot e ((at + 4) % 2 ^ 32) to)) e.seen =
      one n (in_slot e ((at + 4) % 2 ^ 32) to) e.seen nop even ke.masked (ap (λ a. instruction_of (read_word e.bytes a)) wrap ∙ fetched kept first e (at + 4) nop ke m refl) refl refl (λ bus lt. p) in
      one (suc n) (state_at s at) s.seen i l.aligned ks.masked (fetched kept first s at i ks l fit) gate none
      (λ bus lt. subst (λ y. P (suc n) (kernel_core y) (accessed i (state_at s at) bus s.seen)) (sym (goes bus)) (subst (λ q. P (suc n) (kernel_core (in_slot e ((at + 4) % 2 ^ 32) to)) q) (sym (same bus)) slot))

  pub taken : (n : ℕ) (t : Test) (s : Run) (at to : ℕ) → Keeps kept first s → LiesAs kept first at (branch t at to) → LiesAs kept first (at + 4) nop → test_fits t ≡ true → in_reach at to ≡ true → to % 4 ≡ 0 → TestHolds t s.regs
      → P n (kernel_core (state_at s to)) s.seen → P (suc (suc n)) (kernel_core (state_at s at)) s.seen
  taken n t s at to k l m fit near even y =
      let wrap = no_wrap at l.mapped in
      let dest = ap (λ a. (a + sign_extended (distance at to) * 4) % 2 ^ 32) wrap ∙ goes_to at to (mapped_below at l.mapped) l.aligned even near in
      two n (branch t at to) s s at to k k l m (branch_fits t (distance at to) fit (word_field _)) (branch_stays t (distance at to)) (branch_trap t (distance at to) (state_at s at))
      (λ bus. branch_after t (distance at to) s at bus true (passes t s.regs y) ∙ ap (in_slot s ((at + 4) % 2 ^ 32)) dest) (λ bus. branch_seen t (distance at to) (state_at s at) bus s.seen)

  pub passed_by : (n : ℕ) (t : Test) (s : Run) (at to : ℕ) → Keeps kept first s → LiesAs kept first at (branch (opposite t) at to) → LiesAs kept first (at + 4) nop → test_fits t ≡ true → TestHolds t s.regs
      → P n (kernel_core (state_at s (at + 8))) s.seen → P (suc (suc n)) (kernel_core (state_at s at)) s.seen
  passed_by n t s at to k l m fit y =
      let e8 : at + 4 + 4 ≡ at + 8 = omega arith in
      let dest : ((at + 4) % 2 ^ 32 + 4) % 2 ^ 32 ≡ at + 8 = ap (λ a. (a + 4) % 2 ^ 32) (no_wrap at l.mapped) ∙ no_wrap (at + 4) m.mapped ∙ e8 in
      two n (branch (opposite t) at to) s s at (at + 8) k k l m (branch_fits (opposite t) (distance at to) (opposite_fits t fit) (word_field _)) (branch_stays (opposite t) (distance at to)) (branch_trap (opposite t) (distance at to) (state_at s at))
      (λ bus. branch_after (opposite t) (distance at to) s at bus false (fails t s.regs y) ∙ ap (in_slot s ((at + 4) % 2 ^ 32)) dest) (λ bus. branch_seen (opposite t) (distance at to) (state_at s at) bus s.seen)
