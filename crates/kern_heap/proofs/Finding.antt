-- The listing of FIND finds the used block at an address.
use Rattle.psx_flow.proofs.Kit.{◌≡◌, ℕ, suc, ◌+◌, ◌-◌, ◌*◌, ◌%◌, ◌^◌, ◌<◌, ◌≤◌, ◌++◌, List, [], ◌∷◌, length, true, false, refl, sym, ap, ◌∙◌, subst, arith, Memory, word, Registers, Cop0, Run, Access, Meets, Goal, Calls, Fair, kernel_words, Part, Anew, Count, run, ended}
use Rattle.std.proofs.Common.{Bool, inl, inr}
use Rattle.std.specs.Prelude.{◌⊎◌, Some, None, if◌then◌else◌}
use Rattle.psx_base.specs.KernelState.{KernelState}
use Rattle.psx_flow.specs.Told.{ports}
use Rattle.psx_flow.proofs.Sound.{sound}
use Rattle.kern_layout.specs.HeapTable.{IsEntry, Linked, cell_at}
use Rattle.kern_layout.proofs.HeapLinks.{cell_next}
use Rattle.abs_kernel.specs.Heap.{Blocks, used_size}
use Rattle.abs_kernel.proofs.HeapKept.{total}
use Rattle.kern_stay.specs.Shared.{tree}
use Rattle.kern_stay.specs.Doors.{Holds}
use Rattle.kern_stay.proofs.Looping.{Turning, looped}
use Rattle.kern_heap.specs.declared.places.TheConstants.{FIND}
use Rattle.kern_heap.specs.declared.find.TheConstants.{FIND_NODES}
use Rattle.kern_heap.proofs.HeapLists.{append_one, length_one, Fit, some_block, total_append, used_on, used_here}
use Rattle.kern_heap.proofs.TableHeld.{at_entry}
use Rattle.kern_heap.proofs.Joining.{not_0}

-- a used block stands at p
pub record IsFound (s : KernelState) (m : Memory) (p a8 a9 a11 : ℕ) : Type 0 where
  pub before : Blocks
  pub after : Blocks
  pub is : s.heap.blocks ≡ before ++ (a11, true) ∷ after
  pub at : p ≡ s.heap.base + total before
  pub size : used_size p s.heap.base s.heap.blocks ≡ Some a11
  pub r8 : a8 ≡ cell_at (word m) 0xEA40 (length before)
  pub r9 : a9 ≡ cell_at (word m) 0xEA40 (suc (length before))
  pub some : a9 ≡ 0 → ⊥

-- or none
abbrev pub Found : KernelState → Memory → (p a8 a9 a11 : ℕ) → Type 0
Found s m p a8 a9 a11 = ((a9 ≡ 0) × (used_size p s.heap.base s.heap.blocks ≡ None)) ⊎ IsFound s m p a8 a9 a11

abbrev pub behind_find : Registers → (a8 a9 a11 a12 a14 a15 : ℕ) → Registers
behind_find c a8 a9 a11 a12 a14 a15 = record c { r8 = a8; r9 = a9; r11 = a11; r12 = a12; r14 = a14; r15 = a15 }

abbrev pub FindKnown : Part → KernelState → Memory → Registers → List Access → Count → Type 0
FindKnown K s m c q p =
    (a8 a9 a11 a12 a14 a15 : ℕ) (z : Cop0) (u : List Access) (p' : Count) → ports u ≡ ports q → Found s m c.r4 a8 a9 a11 → p'.steps ≤ p.steps + 5200
    → K (behind_find c a8 a9 a11 a12 a14 a15) z m [] u p'

-- at the loop's head, with k blocks to come
record Head (s : KernelState) (m : Memory) (c : Registers) (q : List Access) (p : Count) (k : ℕ) (e : Run) : Type 0 where
  before : Blocks
  after : Blocks
  is : s.heap.blocks ≡ before ++ after
  count : length after ≡ k
  left : used_size c.r4 s.heap.base s.heap.blocks ≡ used_size c.r4 e.regs.r15 after
  within : e.steps + 10 * k ≤ p.steps + 5150
  bytes : e.bytes ≡ m
  quiet : ports e.seen ≡ ports q
  regs : e.regs ≡ behind_find c e.regs.r8 e.regs.r9 e.regs.r11 e.regs.r12 e.regs.r14 e.regs.r15
  r8 : e.regs.r8 ≡ cell_at (word m) 0xEA40 (length before)
  r9 : e.regs.r9 ≡ word m e.regs.r8
  r15 : e.regs.r15 ≡ s.heap.base + total before
  linked : Linked (word m) e.regs.r8 after

pub flag_false : (u : Bool) → ◌≡◌ {A = ℕ} (if u then 1 else 0) 0 → u ≡ false
flag_false true e = absurd (omega (arith, e))
flag_false false e = refl

pub flag_true : (u : Bool) → (◌≡◌ {A = ℕ} (if u then 1 else 0) 0 → ⊥) → u ≡ true
flag_true true ne = refl
flag_true false ne = absurd (ne refl)

module _ (C : Calls) (fair : Fair C) (s : KernelState) (m : Memory) (holds : Holds s m) (fit : Fit s.heap.blocks) (ends : 0 < total s.heap.blocks → s.heap.base + total s.heap.blocks < 2 ^ 32) (c : Registers) (q : List Access) (p : Count) (K : Part) (known : FindKnown K s m c q p) where
  abbrev G : ℕ → Goal
  G to e = (to ≡ c.r31) × Anew K e

  abbrev Inv : ℕ → Goal
  Inv k e = Head s m c q p k e

  -- back to the caller
  comes : (d : Registers) (z : Cop0) (u : Memory) (x : List Access) (p' : Count) → u ≡ m → d ≡ behind_find c d.r8 d.r9 d.r11 d.r12 d.r14 d.r15 → ports x ≡ ports q → Found s m c.r4 d.r8 d.r9 d.r11 → p'.steps ≤ p.steps + 5200
      → G d.r31 (run d z u [] x p')
  comes d z u x p' same kept quiet found few = (
    ap (λ r. r.r31) kept,
    record { memory = m; log = []; same = same; sorted = tt; goes = subst (λ r. K r z m [] x p') (sym kept) (known d.r8 d.r9 d.r11 d.r12 d.r14 d.r15 z x p' quiet found few) },
  )

  module _ (k : ℕ) (e : Run) (h : Inv k e) where
    abbrev x : ℕ
    x = e.regs.r9

    abbrev w : ℕ → ℕ
    w = word m

    r4 : e.regs.r4 ≡ c.r4
    r4 = ap (λ r. r.r4) h.regs

    -- at the end of the list
    at_end : h.after ≡ [] → Turning C (tree FIND_NODES) G Inv k e
    at_end z =
        let few = h.within in
        let null : x ≡ 0 = h.r9 ∙ subst (λ l. Linked w e.regs.r8 l) z h.linked in
        let left : used_size c.r4 s.heap.base s.heap.blocks ≡ None = h.left ∙ ap (λ l. used_size c.r4 e.regs.r15 l) z in
        record {
          leave = λ eq. (
            λ some. absurd (some null),
            λ none. comes _ _ _ _ _ h.bytes h.regs h.quiet (inl (none, left)) (omega (arith, few)),
          );
          again = λ ne. (
            λ none. comes _ _ _ _ _ h.bytes h.regs h.quiet (inl (none, left)) (omega (arith, few)),
            λ some. absurd (some null),
          );
        }

    -- where a block comes
    at_block : (a : ℕ) (u : Bool) (rest : Blocks) → h.after ≡ (a, u) ∷ rest → Turning C (tree FIND_NODES) G Inv k e
    at_block a u rest z =
        let few = h.within in
        let linked : Linked w e.regs.r8 ((a, u) ∷ rest) = subst (λ l. Linked w e.regs.r8 l) z h.linked in
        let is : s.heap.blocks ≡ h.before ++ (a, u) ∷ rest = h.is ∙ ap (λ l. h.before ++ l) z in
        let left = h.left ∙ ap (λ l. used_size c.r4 e.regs.r15 l) z in
        let count : suc (length rest) ≡ k = sym (ap length z) ∙ h.count in
        let ix : IsEntry x = subst IsEntry (sym h.r9) linked.0 in
        let here : w (x + 4) ≡ a = ap (λ y. w (y + 4)) h.r9 ∙ linked.1.0 in
        let used : w (x + 8) ≡ (if u then 1 else 0) = ap (λ y. w (y + 8)) h.r9 ∙ linked.1.1.0 in
        let next : x ≡ cell_at w 0xEA40 (suc (length h.before)) = h.r9 ∙ ap w h.r8 ∙ sym (cell_next w 0xEA40 (length h.before)) in
        let sum : e.regs.r15 + a + total rest < 2 ^ 32 = (let y = ap total is ∙ total_append h.before ((a, u) ∷ rest) in let v = ends (omega (arith, y, some_block s h.before a u rest fit is)) in omega (arith, v, y, h.r15)) in
        let on : (e.regs.r15 + a) % 2 ^ 32 ≡ e.regs.r15 + a = omega (arith, sum) in
        let o0 = at_entry x 0 x ix (omega arith) refl (omega arith) in
        let o4 = at_entry x 4 (x + 4) ix (omega arith) refl refl in
        let o8 = at_entry x 8 (x + 8) ix (omega arith) refl refl in
        record {
          leave = λ eq. (
            λ some. rw (h.bytes, o8.here, o8.sort, o8.place, o4.here, o4.sort, o4.place, here) (
              λ free.
                  let none = left ∙ used_here c.r4 e.regs.r15 (a, u) rest (eq ∙ r4) ∙ ap (λ t. if t then Some a else None) (flag_false u (sym used ∙ free)) in
                  comes _ _ _ _ _ refl (λ j. record (h.regs j) { r9 = 0; r11 = a; r12 = w (x + 8) }) h.quiet (inl (refl, none)) (omega (arith, few)),
              λ taken.
                  let t : u ≡ true = flag_true u (λ q. taken (used ∙ q)) in
                  comes _ _ _ _ _ refl (λ j. record (h.regs j) { r11 = a; r12 = w (x + 8) }) h.quiet
                  (inr (record {
                    before = h.before;
                    after = rest;
                    is = is ∙ ap (λ b. h.before ++ (a, b) ∷ rest) t;
                    at = sym r4 ∙ sym eq ∙ h.r15;
                    size = left ∙ used_here c.r4 e.regs.r15 (a, u) rest (eq ∙ r4) ∙ ap (λ b. if b then Some a else None) t;
                    r8 = h.r8;
                    r9 = next;
                    some = some;
                  })) (omega (arith, few)),
            ),
            λ none. absurd (not_0 x ix none),
          );
          again = λ ne. (
            λ none. absurd (not_0 x ix none),
            λ some. rw (h.bytes, o4.here, o4.sort, o4.place, o0.here, o0.sort, o0.place, here) (
              k - 1,
              omega (arith, count),
              record {
                before = h.before ++ (a, u) ∷ [];
                after = rest;
                is = is ∙ append_one h.before (a, u) rest;
                count = omega (arith, count);
                left = left ∙ used_on c.r4 e.regs.r15 (a, u) rest (λ q. ne (q ∙ sym r4)) ∙ ap (λ y. used_size c.r4 y rest) (sym on);
                within = omega (arith, few, count);
                bytes = refl;
                quiet = h.quiet;
                regs = λ j. record (h.regs j) { r8 = x; r9 = w x; r11 = a; r15 = (e.regs.r15 + a) % 2 ^ 32 };
                r8 = next ∙ ap (cell_at w 0xEA40) (sym (length_one h.before (a, u)));
                r9 = refl;
                r15 = (let y = total_append h.before ((a, u) ∷ []) in omega (arith, on, y, h.r15));
                linked = subst (λ y. Linked w y rest) (sym h.r9) linked.2;
              },
            ),
          );
        }

  turn : (k : ℕ) (e : Run) → Inv k e → Turning C (tree FIND_NODES) G Inv k e
  turn k e h = by h.after refl
    where
      by : (l : Blocks) → h.after ≡ l → Turning C (tree FIND_NODES) G Inv k e
      by [] z = at_end k e h z
      by (b ∷ rest) z = at_block k e h b.0 b.1 rest z

  pub finds : (z : Cop0) → Meets kernel_words C (tree FIND_NODES) FIND (λ _. ⊥) G (run c z m [] q p)
  finds z =
      sound C fair (tree FIND_NODES) FIND (ended (λ _. ⊥)) (λ _. ⊥) G (λ c z m w q p ok h. h) c z m [] q p tt (looped C fair (tree FIND_NODES) G Inv turn (length s.heap.blocks) _ record {
        before = [];
        after = s.heap.blocks;
        is = refl;
        count = refl;
        left = ap (λ y. used_size c.r4 y s.heap.blocks) (sym base);
        within = (let f = fit.few in omega (arith, f));
        bytes = refl;
        quiet = refl;
        regs = refl;
        r8 = refl;
        r9 = refl;
        r15 = base ∙ omega arith;
        linked = holds.reads.heap.blocks;
      })
    where
      base : word m 0xEA24 ≡ s.heap.base
      base = holds.reads.variables.1.1.1.1.1.1.1.1.1.0
