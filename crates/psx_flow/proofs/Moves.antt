-- Some words of a listing, run: an execution goes from one place to another.
use Rattle.std.proofs.Common.{◌≡◌, ℕ, zero, suc, ◌+◌, ◌*◌, ◌%◌, ◌^◌, ◌<◌, List, [], ◌∷◌, ◌++◌, length, length-append, Bool, true, false, Option, Some, None, refl, sym, ap, ◌∙◌, subst, arith}
use Rattle.std.specs.Prelude.{◌||◌, not}
use Rattle.std.proofs.lemmas.Bool.{false≢true}
use Rattle.psx_ins.specs.declared.ins.Ins.{Ins}
use Rattle.psx_ins.specs.Words.{fits_fields}
use Rattle.psx_ins.specs.Decoding.{instruction_of}
use Rattle.psx_base.specs.Memory.{Memory}
use Rattle.psx_base.specs.Registers.{Registers}
use Rattle.psx_base.specs.Context.{settled}
use Rattle.psx_cpu.specs.Processor.{State, Bus}
use Rattle.psx_cpu.specs.DataAccess.{read_word}
use Rattle.psx_cpu.specs.Words.{sign_extended}
use Rattle.psx_cpu.specs.Effect.{effect}
use Rattle.psx_cpu.specs.Traps.{trap_of}
use Rattle.psx_cpu.specs.Guard.{is_branch}
use Rattle.psx_flow.specs.declared.node.Test.{Test}
use Rattle.psx_flow.specs.Tree.{Tree, Stop, Do, When, Choose, Loop, Visit, Go, GoTo, size}
use Rattle.psx_flow.specs.Well.{enters_or_leaves, is_op, test_fits}
use Rattle.psx_flow.specs.Spaced.{registers_of, is_among, touches}
use Rattle.psx_flow.specs.Lowered.{opposite, nop, always, branch, distance, code, in_reach}
use Rattle.psx_flow.specs.Run.{Run, Access, accessed, state_at, done}
use Rattle.psx_flow.specs.Meets.{TestHolds}
use Rattle.psx_flow.specs.Plain.{Execution, plain_step, on, steps, executing}
use Rattle.psx_flow.specs.Reaches.{Keeps}
use Rattle.psx_flow.proofs.Delay.{delayed, delayed_trap, delayed_access, neither}
use Rattle.psx_flow.proofs.Step.{LiesAs, StandsAs, both, fetched, standing, step_is}
use Rattle.psx_flow.proofs.Room.{clear}
use Rattle.psx_flow.proofs.Branches.{no_wrap, mapped_below, goes_to, op_after, passes, fails, in_slot, branch_after, branch_trap, branch_stays, branch_seen, branch_fits, opposite_fits}

-- ---- where words stand

module _ (kept : ℕ → Bool) (first : Memory) where
  pub stands_front : (at : ℕ) (a b : List Ins) → StandsAs kept first at (a ++ b) → StandsAs kept first at a
  stands_front at [] b h = tt
  stands_front at (i ∷ a) b h = (h.0, stands_front (at + 4) a b h.1)

  pub stands_behind : (at : ℕ) (a b : List Ins) → StandsAs kept first at (a ++ b) → StandsAs kept first (at + 4 * length a) b
  stands_behind at [] b h = let e : at ≡ at + 4 * length {A = Ins} [] = omega arith in subst (λ n. StandsAs kept first n b) e h
  stands_behind at (i ∷ a) b h =
      let e : at + 4 + 4 * length a ≡ at + 4 * length (i ∷ a) = omega arith in
      subst (λ n. StandsAs kept first n b) e (stands_behind (at + 4) a b h.1)

pub size_is : (T : Tree) (at : ℕ) → length (code T at) ≡ size T
size_is Stop at = refl
size_is (Do i r) at = omega (arith, size_is r (at + 4))
size_is (When t a r) at = let end = at + (8 + 4 * size a) in omega (arith, size_is a (at + 8), size_is r end, length-append (code a (at + 8)) (code r end))
size_is (Choose t a b r) at =
    let over = at + (8 + 4 * size a) in
    let other = at + (16 + 4 * size a) in
    let end = at + (16 + 4 * size a + 4 * size b) in
    omega (arith, size_is a (at + 8), size_is b other, size_is r end, length-append (code b other) (code r end), length-append (code a (at + 8)) (branch always over end ∷ nop ∷ (code b other ++ code r end)))
size_is (Loop t a r) at =
    let back = at + (8 + 4 * size a) in
    let end = at + (16 + 4 * size a) in
    omega (arith, size_is a (at + 8), size_is r end, length-append (code a (at + 8)) (branch always back at ∷ nop ∷ code r end))
size_is (Visit a r) at = omega (arith, size_is r (at + 8))
size_is (Go a r) at = omega (arith, size_is r (at + 8))
size_is (GoTo n r) at = omega (arith, size_is r (at + 8))

-- the words behind a part
pub stands_at : (kept : ℕ → Bool) (first : Memory) (at to : ℕ) (a : Tree) (b : List Ins) → at + 4 * size a ≡ to → StandsAs kept first at (code a at ++ b) → StandsAs kept first to b
stands_at kept first at to a b e h =
    let f : at + 4 * length (code a at) ≡ to = omega (arith, size_is a at, e) in
    subst (λ n. StandsAs kept first n b) f (stands_behind kept first at (code a at) b h)

-- ---- steps

-- a state in a run at an address, with its registers before the pending load is settled
abbrev pub pending_at : Run → Registers → Option (ℕ × ℕ) → ℕ → State
pending_at s raw p at = record { context = record { regs = raw; pending = p; pc = at; next = (at + 4) % 2 ^ 32; in_slot = false }; cop0 = s.cop0; bytes = s.bytes }

-- what an Op does with a load pending that it doesn't touch is what it does where the load is settled
module _ (i : Ins) (s : Run) (bus : Bus) (at : ℕ) (T : Tree) (gate : enters_or_leaves i ≡ false) where
  untouched : (n : ℕ) → not (touches i n) ≡ true → (is_among n (registers_of i).0 ≡ false) × (is_among n (registers_of i).1 ≡ false)
  untouched n h = neither _ _ (go (touches i n) h)
    where
      go : (b : Bool) → not b ≡ true → b ≡ false
      go true h = absurd (false≢true h)
      go false h = refl

  pub settles_effect : (raw : Registers) (p : Option (ℕ × ℕ)) → settled raw p ≡ s.regs → clear p (Do i T) ≡ true → effect i (pending_at s raw p at) bus ≡ effect i (state_at s at) bus
  settles_effect raw None e h = ap (λ c. effect i (pending_at s c None at) bus) e
  settles_effect raw (Some l) e h =
      let u = untouched l.0 h in
      delayed raw l.0 l.1 at ((at + 4) % 2 ^ 32) false s.cop0 s.bytes bus i u.0 u.1 gate ∙ ap (λ c. effect i (pending_at s c None at) bus) e

  pub settles_trap : (raw : Registers) (p : Option (ℕ × ℕ)) → settled raw p ≡ s.regs → clear p (Do i T) ≡ true → trap_of i (pending_at s raw p at).context ≡ trap_of i (state_at s at).context
  settles_trap raw None e h = ap (λ c. trap_of i (pending_at s c None at).context) e
  settles_trap raw (Some l) e h =
      delayed_trap raw l.0 l.1 at ((at + 4) % 2 ^ 32) false s.cop0 s.bytes bus i (untouched l.0 h).0 ∙ ap (λ c. trap_of i (pending_at s c None at).context) e

  pub settles_access : (raw : Registers) (p : Option (ℕ × ℕ)) (q : List Access) → settled raw p ≡ s.regs → clear p (Do i T) ≡ true → accessed i (pending_at s raw p at) bus q ≡ accessed i (state_at s at) bus q
  settles_access raw None q e h = ap (λ c. accessed i (pending_at s c None at) bus q) e
  settles_access raw (Some l) q e h =
      delayed_access raw l.0 l.1 at ((at + 4) % 2 ^ 32) false s.cop0 s.bytes bus i q (untouched l.0 h).0 ∙ ap (λ c. accessed i (pending_at s c None at) bus q) e

module _ (kept : ℕ → Bool) (bus : ℕ → Bus) (first : Memory) where
  on_more : (n m : ℕ) (d : Execution) (x : Option Execution) → ((c : Execution) → steps bus n c ≡ Some d → steps bus (n + m) c ≡ steps bus m d) → on x (steps bus n) ≡ Some d → on x (steps bus (n + m)) ≡ steps bus m d
  on_more n m d None f h = absurd cc
  on_more n m d (Some c) f h = f c h

  steps_more : (n m : ℕ) (c d : Execution) → steps bus n c ≡ Some d → steps bus (n + m) c ≡ steps bus m d
  steps_more zero m c d h =
      let e : 0 + m ≡ m = omega arith in let f : c ≡ d = cc in
      ap (λ k. steps bus k c) e ∙ ap (steps bus m) f
  steps_more (suc n) m c d h =
      let e : suc n + m ≡ suc (n + m) = omega arith in
      ap (λ k. steps bus k c) e ∙ on_more n m d (plain_step bus c) (λ c' h'. steps_more n m c' d h') h

  -- some words take one execution to another
  abbrev pub Moves : ℕ → Execution → Execution → Type 0
  Moves k x y = steps bus k x ≡ Some y

  pub moves_on : (k n : ℕ) (x y z : Execution) → Moves k x y → Moves n y z → Moves (k + n) x z
  moves_on k n x y z h g = steps_more k n x y h ∙ g

  -- From an execution of count c, in a state s of a run, the steps come to a state and an address for which Z holds, in exactly the steps that the run makes from there on.
  pub record Leads (start : Execution) (c : ℕ) (s : Run) (Z : Run → ℕ → Type 0) : Type 0 where
    pub count : ℕ
    pub after : Run
    pub to : ℕ
    pub run : steps bus count start ≡ Some (executing after to (c + count))
    pub exact : count + s.steps ≡ after.steps
    pub keeps : Keeps kept first after
    pub holds : Z after to

  abbrev pub From : ℕ → Run → ℕ → (Run → ℕ → Type 0) → Type 0
  From c s pc Z = Leads (executing s pc c) c s Z

  pub reach_here : (c : ℕ) (s : Run) (pc : ℕ) (Z : Run → ℕ → Type 0) → Keeps kept first s → Z s pc → From c s pc Z
  reach_here c s pc Z k z = let e : c ≡ c + 0 = omega arith in record { count = 0; after = s; to = pc; run = ap (λ t. Some (executing s pc t)) e; exact = omega arith; keeps = k; holds = z }

  pub reach_then : (x : Execution) (c : ℕ) (s : Run) (Y Z : Run → ℕ → Type 0) → Leads x c s Y → ((d : ℕ) (e : Run) (b : ℕ) → Keeps kept first e → Y e b → From d e b Z) → Leads x c s Z
  reach_then x c s Y Z r f =
      let q = f (c + r.count) r.after r.to r.keeps r.holds in
      let t : c + r.count + q.count ≡ c + (r.count + q.count) = omega arith in
      record {
        count = r.count + q.count;
        after = q.after;
        to = q.to;
        run = moves_on r.count q.count x (executing r.after r.to (c + r.count)) _ r.run q.run ∙ ap (λ t. Some (executing q.after q.to t)) t;
        exact = omega (arith, r.exact, q.exact);
        keeps = q.keeps;
        holds = q.holds;
      }

  -- some words, by which the run comes from s to e
  pub reach_after : (k c : ℕ) (s e : Run) (x y : Execution) (Z : Run → ℕ → Type 0) → Moves k x y → k + s.steps ≡ e.steps → Leads y (c + k) e Z → Leads x c s Z
  reach_after k c s e x y Z run few q =
      let t : c + k + q.count ≡ c + (k + q.count) = omega arith in
      record {
        count = k + q.count;
        after = q.after;
        to = q.to;
        run = moves_on k q.count x y _ run q.run ∙ ap (λ t. Some (executing q.after q.to t)) t;
        exact = omega (arith, few, q.exact);
        keeps = q.keeps;
        holds = q.holds;
      }

  -- nothing is pending: the run's own execution
  pub at_rest : (s : Run) (raw : Registers) (p : Option (ℕ × ℕ)) (at c : ℕ) (Z : Run → ℕ → Type 0) → settled raw p ≡ s.regs → p ≡ None → From c s at Z
      → Leads (standing (pending_at s raw p at) s.seen c) c s Z
  at_rest s raw p at c Z e n r =
      let f : raw ≡ s.regs = sym (ap (settled raw) n) ∙ e in
      subst (λ x. Leads x c s Z) (sym (λ j. standing (pending_at s (f j) (n j) at) s.seen c)) r

  next_clock : (y : State) (q : List Access) (c : ℕ) → Some (standing y q (suc c)) ≡ Some (standing y q (c + 1))
  next_clock y q c = let e : suc c ≡ c + 1 = omega arith in ap (λ t. Some (standing y q t)) e

  -- an Op
  pub one : (c : ℕ) (i : Ins) (s : Run) (raw : Registers) (p : Option (ℕ × ℕ)) (at : ℕ) (T : Tree) → settled raw p ≡ s.regs → clear p (Do i T) ≡ true → Keeps kept first s → LiesAs kept first at i → is_op i ≡ true → trap_of i (state_at s at).context ≡ None
      → Moves 1 (standing (pending_at s raw p at) s.seen c)
      (let y = effect i (state_at s at) (bus c) in standing (pending_at (done i s at (bus c)) y.context.regs y.context.pending (at + 4)) (done i s at (bus c)).seen (c + 1))
  one c i s raw p at T e clr k l w none =
      let u = both (not (is_branch i || enters_or_leaves i)) (fits_fields i) w in
      let o = neither (is_branch i) (enters_or_leaves i) (unsaid _ u.0) in
      let x = pending_at s raw p at in
      ap (λ b. on b (steps bus 0)) (step_is bus x s.seen c i l.aligned k.masked (fetched kept first s at i k l u.1) o.1 (settles_trap i s (bus c) at T o.1 raw p e clr ∙ none))
      ∙ ap (λ q. Some (standing (effect i x (bus c)) q (suc c))) (settles_access i s (bus c) at T o.1 raw p s.seen e clr)
      ∙ ap (λ y. Some (standing y (done i s at (bus c)).seen (suc c))) (settles_effect i s (bus c) at T o.1 raw p e clr ∙ op_after i s at (bus c) o.0 o.1 (no_wrap at l.mapped))
      ∙ next_clock _ _ c
    where
      unsaid : (b : Bool) → not b ≡ true → b ≡ false
      unsaid true h = absurd (false≢true h)
      unsaid false h = refl

  -- a branch or a jump with its slot
  pub two : (c : ℕ) (i : Ins) (s e : Run) (at to : ℕ) → Keeps kept first s → Keeps kept first e → LiesAs kept first at i → LiesAs kept first (at + 4) nop → fits_fields i ≡ true → enters_or_leaves i ≡ false → trap_of i (state_at s at).context ≡ None
      → effect i (state_at s at) (bus c) ≡ in_slot e ((at + 4) % 2 ^ 32) to → accessed i (state_at s at) (bus c) s.seen ≡ e.seen → Moves 2 (executing s at c) (executing e to (c + 2))
  two c i s e at to ks ke l n fit gate none goes same =
      let f : suc (suc c) ≡ c + 2 = omega arith in
      let wrap = no_wrap at l.mapped in
      let even : (at + 4) % 2 ^ 32 % 4 ≡ 0 = ap (λ a. a % 4) wrap ∙ n.aligned in
      ap (λ o. on o (steps bus 1)) (step_is bus (state_at s at) s.seen c i l.aligned ks.masked (fetched kept first s at i ks l fit) gate none
      ∙ ap (λ x. Some (standing x (accessed i (state_at s at) (bus c) s.seen) (suc c))) goes
      ∙ ap (λ q. Some (standing (in_slot e ((at + 4) % 2 ^ 32) to) q (suc c))) same)
      ∙ ap (λ o. on o (steps bus 0)) (step_is bus (in_slot e ((at + 4) % 2 ^ 32) to) e.seen (suc c) nop even ke.masked (ap (λ a. instruction_of (read_word e.bytes a)) wrap ∙ fetched kept first e (at + 4) nop ke n refl) refl refl)
      ∙ ap (λ t. Some (executing e to t)) f

  word_field : (x : ℕ) → x % 2 ^ 16 < 2 ^ 16
  word_field x = omega arith

  pub taken : (c : ℕ) (t : Test) (s : Run) (at to : ℕ) → Keeps kept first s → LiesAs kept first at (branch t at to) → LiesAs kept first (at + 4) nop → test_fits t ≡ true → in_reach at to ≡ true → to % 4 ≡ 0 → TestHolds t s.regs
      → Moves 2 (executing s at c) (executing s to (c + 2))
  taken c t s at to k l n fit near even y =
      let wrap = no_wrap at l.mapped in
      let dest = ap (λ a. (a + sign_extended (distance at to) * 4) % 2 ^ 32) wrap ∙ goes_to at to (mapped_below at l.mapped) l.aligned even near in
      two c (branch t at to) s s at to k k l n (branch_fits t (distance at to) fit (word_field _)) (branch_stays t (distance at to)) (branch_trap t (distance at to) (state_at s at))
      (branch_after t (distance at to) s at (bus c) true (passes t s.regs y) ∙ ap (in_slot s ((at + 4) % 2 ^ 32)) dest) (branch_seen t (distance at to) (state_at s at) (bus c) s.seen)

  pub passed_by : (c : ℕ) (t : Test) (s : Run) (at to : ℕ) → Keeps kept first s → LiesAs kept first at (branch (opposite t) at to) → LiesAs kept first (at + 4) nop → test_fits t ≡ true → TestHolds t s.regs
      → Moves 2 (executing s at c) (executing s (at + 8) (c + 2))
  passed_by c t s at to k l n fit y =
      let wrap = no_wrap at l.mapped in
      let wrap' = no_wrap (at + 4) n.mapped in
      let e8 : at + 4 + 4 ≡ at + 8 = omega arith in
      let dest : ((at + 4) % 2 ^ 32 + 4) % 2 ^ 32 ≡ at + 8 = ap (λ a. (a + 4) % 2 ^ 32) wrap ∙ wrap' ∙ e8 in
      two c (branch (opposite t) at to) s s at (at + 8) k k l n (branch_fits (opposite t) (distance at to) (opposite_fits t fit) (word_field _)) (branch_stays (opposite t) (distance at to)) (branch_trap (opposite t) (distance at to) (state_at s at))
      (branch_after (opposite t) (distance at to) s at (bus c) false (fails t s.regs y) ∙ ap (in_slot s ((at + 4) % 2 ^ 32)) dest) (branch_seen (opposite t) (distance at to) (state_at s at) (bus c) s.seen)
