-- Words that are run with some answers of the bus, one part after another.
use Rattle.std.proofs.Common.{◌≡◌, ℕ, zero, suc, ◌+◌, ◌*◌, ◌^◌, ◌<◌, ◌≤◌, Bool, true, false, Option, Some, None, refl, sym, ap, ◌∙◌, subst, arith, ⊎_elim}
use Rattle.std.specs.Prelude.{nat_lt, if◌then◌else◌}
use Rattle.std.proofs.lemmas.Bool.{lt-ltb}
use Rattle.psx_base.specs.Memory.{Memory}
use Rattle.psx_base.specs.Registers.{Registers}
use Rattle.psx_base.specs.Context.{settled}
use Rattle.psx_cpu.specs.Processor.{Core, Bus, idle}
use Rattle.psx_cpu.specs.Step.{step}
use Rattle.psx_flow.specs.declared.node.Test.{Test}
use Rattle.psx_flow.specs.Tree.{Tree, size}
use Rattle.psx_flow.specs.Lowered.{opposite}
use Rattle.psx_flow.specs.Run.{Run}
use Rattle.psx_flow.specs.Meets.{TestHolds, passing, branching, linking}
use Rattle.psx_flow.specs.Runs.{Ending, Falls, Jumps, JumpsTo, IsJump, Then, TurnsOf}
use Rattle.psx_flow.specs.Plain.{Execution, went, onward, seen_at, on, steps, executing}
use Rattle.psx_flow.specs.Reaches.{Keeps}
use Rattle.psx_flow.proofs.Step.{standing}
use Rattle.psx_flow.proofs.Moves.{pending_at, Moves, moves_on}

-- ---- answers

on_same : (x : Execution) (u : Bus) (w : Option Core) (f g : Execution → Option Execution) → ((core : Core) → f (record { core = core; seen = seen_at x.core u x.seen; clock = suc x.clock }) ≡ g (record { core = core; seen = seen_at x.core u x.seen; clock = suc x.clock }))
    → on (onward x u w) f ≡ on (onward x u w) g
on_same x u None f g h = refl
on_same x u (Some core) f g h = h core

-- steps look at the answers of their own counts alone
pub agree : (k : ℕ) (x : Execution) (a b : ℕ → Bus) → ((n : ℕ) → x.clock ≤ n → n < x.clock + k → a n ≡ b n) → steps a k x ≡ steps b k x
agree zero x a b h = refl
agree (suc k) x a b h =
    let e : a x.clock ≡ b x.clock = h x.clock (omega arith) (omega arith) in
    ap (λ u. on (onward x u (went (step x.core u))) (steps a k)) e
    ∙ on_same x (b x.clock) (went (step x.core (b x.clock))) (steps a k) (steps b k)
    (λ core. agree k (record { core = core; seen = seen_at x.core (b x.clock) x.seen; clock = suc x.clock }) a b (λ n l m. h n (omega arith) (omega arith)))

-- the first answers up to a count, and then the others
abbrev before : ℕ → (ℕ → Bus) → (ℕ → Bus) → ℕ → Bus
before c a b n = if nat_lt n c then a n else b n

before_low : (c : ℕ) (a b : ℕ → Bus) (n : ℕ) → n < c → before c a b n ≡ a n
before_low c a b n h = ap (λ t. if t then a n else b n) (lt-ltb n c h)

not_below : (n c : ℕ) → c ≤ n → nat_lt n c ≡ false
not_below n c h = grind arith

before_high : (c : ℕ) (a b : ℕ → Bus) (n : ℕ) → c ≤ n → before c a b n ≡ b n
before_high c a b n h = ap (λ t. if t then a n else b n) (not_below n c h)

few_before : (c : ℕ) (a b : ℕ → Bus) → ((n : ℕ) → (a n).value < 2 ^ 32) → ((n : ℕ) → (b n).value < 2 ^ 32) → (n : ℕ) → (before c a b n).value < 2 ^ 32
few_before c a b f g n = go (nat_lt n c)
  where
    go : (t : Bool) → (if t then a n else b n).value < 2 ^ 32
    go true = f n
    go false = g n

module _ (kept : ℕ → Bool) (first : Memory) where
  -- from an execution of count c the words come to e at `to`, for some answers, in exactly the steps that the run makes; it has made n before
  pub record Follows (x : Execution) (c n : ℕ) (e : Run) (to : ℕ) : Type 0 where
    pub answers : ℕ → Bus
    pub few : (k : ℕ) → (answers k).value < 2 ^ 32
    pub count : ℕ
    pub run : steps answers count x ≡ Some (executing e to (c + count))
    pub exact : count + n ≡ e.steps
    pub keeps : Keeps kept first e

  abbrev pub Comes : Execution → ℕ → ℕ → ℕ → Ending → Type 0
  Comes x c n end (Falls e) = Follows x c n e end
  Comes x c n end (Jumps to e) = Follows x c n e to
  Comes x c n end (JumpsTo to e) = Follows x c n e to

  -- words that do the same whatever the bus brings
  abbrev pub Always : ℕ → Execution → Execution → Type 0
  Always k x y = (bus : ℕ → Bus) → Moves kept bus first k x y

  pub here : (c : ℕ) (s : Run) (pc : ℕ) → Keeps kept first s → Follows (executing s pc c) c s.steps s pc
  here c s pc k = let e : c ≡ c + 0 = omega arith in record { answers = λ n. idle; few = λ n. omega arith; count = 0; run = ap (λ t. Some (executing s pc t)) e; exact = omega arith; keeps = k }

  after_words : (k c n m : ℕ) (x y : Execution) (e : Run) (to : ℕ) → Always k x y → n + k ≡ m → Follows y (c + k) m e to → Follows x c n e to
  after_words k c n m x y e to move more q =
      let t : c + k + q.count ≡ c + (k + q.count) = omega arith in
      record {
        answers = q.answers;
        few = q.few;
        count = k + q.count;
        run = moves_on kept q.answers first k q.count x y _ (move q.answers) q.run ∙ ap (λ d. Some (executing e to d)) t;
        exact = omega (arith, more, q.exact);
        keeps = q.keeps;
      }

  -- one word, by its answer
  after_one : (c n : ℕ) (x : Execution) (y : Bus → Execution) (b : Bus) (e : Run) (to : ℕ) → x.clock ≡ c → b.value < 2 ^ 32 → ((bus : ℕ → Bus) → Moves kept bus first 1 x (y (bus c))) → (y b).clock ≡ c + 1 → Follows (y b) (c + 1) (suc n) e to → Follows x c n e to
  after_one c n x y b e to clock small move clock' q =
      let bus : ℕ → Bus = before (c + 1) (λ k. b) q.answers in
      let same : bus c ≡ b = before_low (c + 1) (λ k. b) q.answers c (omega arith) in
      let t : c + 1 + q.count ≡ c + (1 + q.count) = omega arith in
      record {
        answers = bus;
        few = few_before (c + 1) (λ k. b) q.answers (λ k. small) q.few;
        count = 1 + q.count;
        run = moves_on kept bus first 1 q.count x (y b) _ (move bus ∙ ap (λ u. Some (y u)) same)
            (agree q.count (y b) bus q.answers (λ k l m. before_high (c + 1) (λ k. b) q.answers k (omega (arith, clock'))) ∙ q.run)
            ∙ ap (λ d. Some (executing e to d)) t;
        exact = omega (arith, q.exact);
        keeps = q.keeps;
      }

  -- one part after another
  then_words : (c n : ℕ) (x : Execution) (m : Run) (b : ℕ) (e : Run) (to : ℕ) → x.clock ≡ c → (p : Follows x c n m b) → Follows (executing m b (c + p.count)) (c + p.count) m.steps e to → Follows x c n e to
  then_words c n x m b e to clock p q =
      let bus : ℕ → Bus = before (c + p.count) p.answers q.answers in
      let t : c + p.count + q.count ≡ c + (p.count + q.count) = omega arith in
      record {
        answers = bus;
        few = few_before (c + p.count) p.answers q.answers p.few q.few;
        count = p.count + q.count;
        run = moves_on kept bus first p.count q.count x (executing m b (c + p.count)) _
            (agree p.count x bus p.answers (λ k l h. before_low (c + p.count) p.answers q.answers k (omega (arith, clock))) ∙ p.run)
            (agree q.count (executing m b (c + p.count)) bus q.answers (λ k l h. before_high (c + p.count) p.answers q.answers k l) ∙ q.run)
            ∙ ap (λ d. Some (executing e to d)) t;
        exact = omega (arith, p.exact, q.exact);
        keeps = q.keeps;
      }

  -- ---- endings

  pub words_come : (k c n m : ℕ) (x y : Execution) (end : ℕ) (e : Ending) → Always k x y → n + k ≡ m → Comes y (c + k) m end e → Comes x c n end e
  words_come k c n m x y end (Falls e) move more q = after_words k c n m x y e end move more q
  words_come k c n m x y end (Jumps to e) move more q = after_words k c n m x y e to move more q
  words_come k c n m x y end (JumpsTo to e) move more q = after_words k c n m x y e to move more q

  pub one_comes : (c n : ℕ) (x : Execution) (y : Bus → Execution) (b : Bus) (end : ℕ) (e : Ending) → x.clock ≡ c → b.value < 2 ^ 32 → ((bus : ℕ → Bus) → Moves kept bus first 1 x (y (bus c))) → (y b).clock ≡ c + 1 → Comes (y b) (c + 1) (suc n) end e → Comes x c n end e
  one_comes c n x y b end (Falls e) clock small move clock' q = after_one c n x y b e end clock small move clock' q
  one_comes c n x y b end (Jumps to e) clock small move clock' q = after_one c n x y b e to clock small move clock' q
  one_comes c n x y b end (JumpsTo to e) clock small move clock' q = after_one c n x y b e to clock small move clock' q

  pub then_come : (c n : ℕ) (x : Execution) (m : Run) (b end : ℕ) (e : Ending) → x.clock ≡ c → Follows x c n m b → ((d : ℕ) → Comes (executing m b d) d m.steps end e) → Comes x c n end e
  then_come c n x m b end (Falls e) clock p q = then_words c n x m b e end clock p (q (c + p.count))
  then_come c n x m b end (Jumps to e) clock p q = then_words c n x m b e to clock p (q (c + p.count))
  then_come c n x m b end (JumpsTo to e) clock p q = then_words c n x m b e to clock p (q (c + p.count))

  pub ends_come : (c n : ℕ) (x : Execution) (end end' : ℕ) (e : Ending) → end ≡ end' → Comes x c n end e → Comes x c n end' e
  ends_come c n x end end' e f q = subst (λ t. Comes x c n t e) f q

  -- a jump doesn't come to the place behind the last word
  jump_comes : (c n : ℕ) (x : Execution) (end end' : ℕ) (e : Ending) → IsJump e → Comes x c n end e → Comes x c n end' e
  jump_comes c n x end end' (Falls e) j q = absurd j
  jump_comes c n x end end' (Jumps to e) j q = q
  jump_comes c n x end end' (JumpsTo to e) j q = q

  pub rest_comes : (c n : ℕ) (s : Run) (raw : Registers) (p : Option (ℕ × ℕ)) (at end : ℕ) (e : Ending) → settled raw p ≡ s.regs → p ≡ None → Comes (executing s at c) c n end e → Comes (standing (pending_at s raw p at) s.seen c) c n end e
  rest_comes c n s raw p at end e f none q =
      let g : raw ≡ s.regs = sym (ap (settled raw) none) ∙ f in
      subst (λ x. Comes x c n end e) (sym (λ j. standing (pending_at s (g j) (none j) at) s.seen c)) q

  pub pass_keeps : (s : Run) → Keeps kept first s → Keeps kept first (passing s)
  pass_keeps s k = record { bytes = k.bytes; masked = k.masked }

  pub branch_keeps : (s : Run) → Keeps kept first s → Keeps kept first (branching s)
  branch_keeps s k = record { bytes = k.bytes; masked = k.masked }

  pub link_keeps : (s : Run) (back : ℕ) → Keeps kept first s → Keeps kept first (linking s back)
  link_keeps s back k = record { bytes = k.bytes; masked = k.masked }

  -- a part, and what follows it unless the part jumps; k words lead over to it, and the run from m to `next m`
  pub part_comes : (A B : Run → Ending → Type 0) (next : Run → Run) (k c : ℕ) (s : Run) (at mid to end : ℕ) (e : Ending)
      → ((m : Run) → (m.steps + k ≡ (next m).steps) × (Keeps kept first m → Keeps kept first (next m)))
      → ((x : Ending) → A s x → Comes (executing s at c) c s.steps mid x)
      → ((d : ℕ) (m : Run) → Keeps kept first m → Always k (executing m mid d) (executing (next m) to (d + k)))
      → ((d : ℕ) (m : Run) (x : Ending) → Keeps kept first m → B m x → Comes (executing m to d) d m.steps end x)
      → Then A (λ m. B (next m)) s e → Comes (executing s at c) c s.steps end e
  part_comes A B next k c s at mid to end e step part over rest h =
      ⊎_elim
      (λ t. let p : Follows (executing s at c) c s.steps t.0 mid = part (Falls t.0) t.1 in
      then_come c s.steps (executing s at c) t.0 mid end e refl p
      (λ d. words_come k d t.0.steps (next t.0).steps (executing t.0 mid d) (executing (next t.0) to (d + k)) end e (over d t.0 p.keeps) (step t.0).0 (rest (d + k) (next t.0) e ((step t.0).1 p.keeps) t.2)))
      (λ j. jump_comes c s.steps (executing s at c) mid end e j.0 (part e j.1))
      h

  -- no words lead over, or those of a branch
  pub none_over : (m : Run) → (m.steps + 0 ≡ m.steps) × (Keeps kept first m → Keeps kept first m)
  none_over m = (omega arith, λ k. k)

  pub branch_over : (m : Run) → (m.steps + 2 ≡ (branching m).steps) × (Keeps kept first m → Keeps kept first (branching m))
  branch_over m = (omega arith, branch_keeps m)

  pub turns_come : (n c : ℕ) (t : Test) (a : Tree) (at to end : ℕ) (s : Run) (e : Ending) (A B : Run → Ending → Type 0)
      → ((d : ℕ) (m : Run) (y : Ending) → Keeps kept first m → A m y → Comes (executing m (at + 8) d) d m.steps (at + (8 + 4 * size a)) y)
      → ((d : ℕ) (m : Run) (y : Ending) → Keeps kept first m → B m y → Comes (executing m to d) d m.steps end y)
      → ((d : ℕ) (m : Run) → Keeps kept first m → TestHolds t m.regs → Always 2 (executing m at d) (executing m (at + 8) (d + 2)))
      → ((d : ℕ) (m : Run) → Keeps kept first m → TestHolds (opposite t) m.regs → Always 2 (executing m at d) (executing m to (d + 2)))
      → ((d : ℕ) (m : Run) → Keeps kept first m → Always 2 (executing m (at + (8 + 4 * size a)) d) (executing m at (d + 2)))
      → Keeps kept first s → TurnsOf n t A B s e → Comes (executing s at c) c s.steps end e
  turns_come zero c t a at to end s e A B body rest into past back ks h = absurd h
  turns_come (suc n) c t a at to end s e A B body rest into past back ks h =
      ⊎_elim
      (λ y. words_come 2 c s.steps (passing s).steps (executing s at c) (executing (passing s) to (c + 2)) end e (past c s ks y.0) (omega arith) (rest (c + 2) (passing s) e (pass_keeps s ks) y.1))
      (λ y. words_come 2 c s.steps (passing s).steps (executing s at c) (executing (passing s) (at + 8) (c + 2)) end e (into c s ks y.0) (omega arith)
      (part_comes A (TurnsOf n t A B) branching 2 (c + 2) (passing s) (at + 8) (at + (8 + 4 * size a)) at end e branch_over
      (λ x k. body (c + 2) (passing s) x (pass_keeps s ks) k) back
      (λ d m x km k. turns_come n d t a at to end m x A B body rest into past back km k) y.1))
      h
