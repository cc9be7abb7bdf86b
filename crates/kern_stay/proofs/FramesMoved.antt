-- A frame's words are copied between the work area and its place: the context and what stands before the elements in three runs of COPY_HALF, and then the elements.
use Rattle.std.proofs.Common.{◌≡◌, ℕ, ◌+◌, ◌-◌, ◌*◌, ◌/◌, ◌%◌, ◌<◌, ◌≤◌, ◌⊎◌, inl, inr, List, length, refl, subst, sym, ap, ◌∙◌, arith, ⊎_elim}
use Rattle.psx_base.specs.Memory.{Memory, byte, word}
use Rattle.psx_base.specs.KernelState.{ThreadContext, Task}
use Rattle.kern_layout.specs.Fields.{Block}
use Rattle.kern_layout.specs.Contexts.{saved}
use Rattle.kern_layout.specs.Tasks.{elements_of, lines_of, under_way_fields, count_fields, TasksAt}
use Rattle.kern_layout.proofs.ReadingsKept.{fit_under_way}
use Rattle.kern_layout.proofs.Copied.{block_copied, stack_copied}
use Rattle.kern_stay.specs.Copy.{WordsCopied}
use Rattle.kern_stay.specs.CopyHalf.{Halves}
use Rattle.kern_stay.proofs.CopyingHalf.{more_copied}

-- the words of a block up to its elements are copied, and so many elements; outside the other block all stays
pub record FrameMoved (m n : Memory) (from to count : ℕ) : Type 0 where
  pub front : (o : ℕ) → o % 4 ≡ 0 → 0xC ≤ o → o < 0xC0 → word n (to + o) ≡ word m (from + o)
  pub elements : (k : ℕ) → k < count → word n (to + 0x100 + 4 * k) ≡ word m (from + 0x100 + 4 * k)
  pub words : (a : ℕ) → a % 4 ≡ 0 → (a < to + 0xC) ⊎ (to + 0x180 ≤ a) → word n a ≡ word m a
  pub bytes : (a : ℕ) → (a < to + 0xC) ⊎ (to + 0x180 ≤ a) → byte n a ≡ byte m a

-- below the work area words stay, and bytes stay there and above the kernel's data
pub record Below (x y : Memory) : Type 0 where
  pub words : (a : ℕ) → a % 4 ≡ 0 → a < 0xEB00 → word y a ≡ word x a
  pub bytes : (a : ℕ) → (a < 0xEB00) ⊎ (0x10000 ≤ a) → byte y a ≡ byte x a

-- two blocks of a frame's size in the kernel's data, which lie apart
pub record FrameBlocks (from to : ℕ) : Type 0 where
  pub even : (from % 4 ≡ 0) × (to % 4 ≡ 0)
  pub low : (0xB000 ≤ from) × (0xB000 ≤ to)
  pub high : (from + 0x180 ≤ 0x10000) × (to + 0x180 ≤ 0x10000)
  pub apart : (from + 0x180 ≤ to) ⊎ (to + 0x180 ≤ from)

-- three runs of COPY_HALF
pub record ThreeRuns (from to : ℕ) : Type 0 where
  pub first : Halves (from + 0xC) (to + 0xC)
  pub second : Halves (from + 0x50) (to + 0x50)
  pub third : Halves (from + 0x94) (to + 0x94)

pub three_runs : (from to : ℕ) → FrameBlocks from to → ThreeRuns from to
three_runs from to b =
    let e = b.even in let l = b.low in let h = b.high in let f = b.even.0 in let t = b.even.1 in
    let at : (o : ℕ) → o % 4 ≡ 0 → o < 0x100 → Halves (from + o) (to + o) = λ o al few. record {
      even = (omega (arith, f, al), omega (arith, t, al));
      low = (omega (arith, l), omega (arith, l));
      high = (omega (arith, h, few), omega (arith, h, few));
      apart = ⊎_elim (λ a. inl (omega (arith, a))) (λ a. inr (omega (arith, a))) b.apart;
    } in
    record { first = at 0xC refl (omega arith); second = at 0x50 refl (omega arith); third = at 0x94 refl (omega arith) }

pub front_moved : (x y z n : Memory) (from to : ℕ) → FrameBlocks from to → WordsCopied x y (from + 0xC) (to + 0xC) 18
    → WordsCopied y z (from + 0x50) (to + 0x50) 18 → WordsCopied z n (from + 0x94) (to + 0x94) 18 → FrameMoved x n from to 0
front_moved x y z n from to b c d e =
    let even : ((from + 0xC) % 4 ≡ 0) × ((to + 0xC) % 4 ≡ 0) = (let f = b.even.0 in let t = b.even.1 in (omega (arith, f), omega (arith, t))) in
    let far : (k : ℕ) → k ≤ 52 → (from + 0xC + 4 * k ≤ to + 0xC) ⊎ (to + 0xC + 4 * k ≤ from + 0xC) = λ k few. ⊎_elim (λ a. inl (omega (arith, a, few))) (λ a. inr (omega (arith, a, few))) b.apart in
    let two : WordsCopied x z (from + 0xC) (to + 0xC) 35 = more_copied x y z (from + 0xC) (to + 0xC) 17 even (far 35 (omega arith)) c (moved y z from to 0xC 68 d) in
    let all : WordsCopied x n (from + 0xC) (to + 0xC) 52 = more_copied x z n (from + 0xC) (to + 0xC) 34 even (far 52 (omega arith)) two (moved z n from to 0xC 136 e) in
    record {
      front = λ o al lo up.
          let k : ℕ = (o - 0xC) / 4 in
          let p : to + 0xC + 4 * k ≡ to + o = omega (arith, al, lo) in
          let q : from + 0xC + 4 * k ≡ from + o = omega (arith, al, lo) in
          sym (ap (word n) p) ∙ all.copied k (omega (arith, lo, up)) ∙ ap (word x) q;
      elements = λ k lt. absurd (omega (arith, lt));
      words = λ a al o. all.words a al (⊎_elim (λ l. inl l) (λ g. inr (omega (arith, g))) o);
      bytes = λ a o. all.bytes a (⊎_elim (λ l. inl l) (λ g. inr (omega (arith, g))) o);
    }
  where
    moved : (m n : Memory) (from to o p : ℕ) → WordsCopied m n (from + (o + p)) (to + (o + p)) 18 → WordsCopied m n (from + o + p) (to + o + p) 18
    moved m n from to o p h =
        let e : from + (o + p) ≡ from + o + p = omega arith in
        let f : to + (o + p) ≡ to + o + p = omega arith in
        subst (λ a. WordsCopied m n a (to + o + p) 18) e (subst (λ a. WordsCopied m n (from + (o + p)) a 18) f h)

-- the elements behind it
pub elements_moved : (m n x : Memory) (from to count : ℕ) → FrameBlocks from to → count ≤ 32 → FrameMoved m n from to 0
    → WordsCopied n x (from + 0x100) (to + 0x100) count → FrameMoved m x from to count
elements_moved m n x from to count b few h c = let f = b.even.0 in let t = b.even.1 in record {
  front = λ o al lo up. c.words (to + o) (omega (arith, t, al)) (inl (omega (arith, up))) ∙ h.front o al lo up;
  elements = λ k lt. c.copied k lt ∙ h.words (from + 0x100 + 4 * k) (omega (arith, f)) (⊎_elim (λ a. inl (omega (arith, a, lt, few))) (λ a. inr (omega (arith, a))) b.apart);
  words = λ a al o. c.words a al (⊎_elim (λ l. inl (omega (arith, l))) (λ g. inr (omega (arith, g, few))) o) ∙ h.words a al o;
  bytes = λ a o. c.bytes a (⊎_elim (λ l. inl (omega (arith, l))) (λ g. inr (omega (arith, g, few))) o) ∙ h.bytes a o;
}

-- ---- what stands there then

pub context_moved : (m n : Memory) (from to count : ℕ) (t : ThreadContext) → FrameMoved m n from to count → Block (word m) from (saved t) → Block (word n) to (saved t)
context_moved m n from to count t c h = block_copied (word m) (word n) from to 0xC 0x98 (saved t) refl (λ o al lo up. c.front o al lo (omega (arith, up))) h

pub tasks_moved : (m n : Memory) (from to : ℕ) (ts : List Task) → FrameMoved m n from to (length (elements_of ts)) → length (lines_of ts) ≤ 4 → TasksAt (word m) from ts → TasksAt (word n) to ts
tasks_moved m n from to ts c four h = record {
  first = block_copied (word m) (word n) from to 0x98 0xA8 (under_way_fields ts) (fit_under_way ts) (λ o al lo up. c.front o al (omega (arith, lo)) (omega (arith, up))) h.first;
  counts = block_copied (word m) (word n) from to 0xA8 0xB0 (count_fields ts) refl (λ o al lo up. c.front o al (omega (arith, lo)) (omega (arith, up))) h.counts;
  lines = stack_copied (word m) (word n) (from + 0xB0) (to + 0xB0) (lines_of ts) (λ k lt. line k (omega (arith, lt, four))) h.lines;
  elements = stack_copied (word m) (word n) (from + 0x100) (to + 0x100) (elements_of ts) (λ k lt. c.elements k lt) h.elements;
}
  where
    line : (k : ℕ) → k < 4 → word n (to + 0xB0 + 4 * k) ≡ word m (from + 0xB0 + 4 * k)
    line k lt =
        let p : to + 0xB0 + 4 * k ≡ to + (0xB0 + 4 * k) = omega arith in
        let q : from + (0xB0 + 4 * k) ≡ from + 0xB0 + 4 * k = omega arith in
        ap (word n) p ∙ c.front (0xB0 + 4 * k) (omega arith) (omega arith) (omega (arith, lt)) ∙ ap (word m) q

-- the work area is filled from a frame
pub filled_below : (m n : Memory) (from count : ℕ) → FrameMoved m n from 0xEB00 count → Below m n
filled_below m n from count h = record { words = λ a al up. h.words a al (inl (omega (arith, up))); bytes = λ a o. h.bytes a (⊎_elim (λ l. inl (omega (arith, l))) (λ g. inr (omega (arith, g))) o) }
