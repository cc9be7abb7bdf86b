-- The threads' blocks in memory: where they stand, their status, and the copies of contexts between them and the work area.
use Rattle.std.proofs.Common.{◌≡◌, ℕ, ◌+◌, ◌*◌, ◌%◌, ◌^◌, ◌<◌, ◌≤◌, inl, inr, length, refl, sym, ap, ◌∙◌, arith}
use Rattle.psx_base.specs.Memory.{Memory, word}
use Rattle.psx_base.specs.Addresses.{place}
use Rattle.psx_base.specs.KernelState.{Thread, Free, Used, ThreadContext, KernelState}
use Rattle.psx_flow.proofs.Log.{Kernel, word_sort}
use Rattle.kern_layout.specs.Fields.{Block}
use Rattle.kern_layout.specs.Contexts.{thread_fields}
use Rattle.kern_layout.specs.Reads.{thread, thread_at}
use Rattle.kern_layout.specs.Valid.{IsUsed}
use Rattle.kern_stay.specs.Copy.{WordsCopied}
use Rattle.kern_stay.specs.CopyHalf.{Halves}
use Rattle.kern_stay.specs.Switch.{SlotKept}
use Rattle.kern_stay.specs.Doors.{Holds}
use Rattle.kern_stay.proofs.Copying.{data_place, data_sort}
use Rattle.kern_stay.proofs.CopyingHalf.{both_copied}

-- ---- a thread's block

-- its address, as it is computed
abbrev pub block_of : ℕ → ℕ
block_of n = (((n * 2 ^ 7 % 2 ^ 32 + n * 2 ^ 6 % 2 ^ 32) % 2 ^ 32 + 0x80010000) % 2 ^ 32 + 0xFFFFB000) % 2 ^ 32

pub record At (n : ℕ) : Type 0 where
  pub block : block_of n ≡ 0x80000000 + thread_at n
  pub here : (0x80000000 + thread_at n + 0) % 2 ^ 32 ≡ 0x80000000 + thread_at n
  pub sort : word_sort (0x80000000 + thread_at n) ≡ Kernel
  pub place : place (0x80000000 + thread_at n) ≡ thread_at n

pub at_thread : (n : ℕ) → n < 16 → At n
at_thread n lt = record { block = omega arith; here = omega arith; sort = data_sort (thread_at n) (omega arith) (omega arith) (omega arith); place = data_place (thread_at n) (omega arith) }

-- the status there
abbrev pub status_of : Thread → ℕ
status_of Free = 0x1000
status_of (Used t) = 0x4000

block_status : (w : ℕ → ℕ) (at c n : ℕ) (t : Thread) → Block w at (thread_fields c n t) → w at ≡ status_of t
block_status w at c n Free b = let z : at + 0 ≡ at = omega arith in sym (ap w z) ∙ b.0
block_status w at c n (Used t) b = let z : at + 0 ≡ at = omega arith in sym (ap w z) ∙ b.0

pub status_is : (s : KernelState) (m : Memory) → Holds s m → (n : ℕ) → n < length s.threads → word m (thread_at n) ≡ status_of (thread s n)
status_is s m h n few = block_status (word m) (thread_at n) s.current n (thread s n) (h.reads.threads n few)

pub record UsedAs (t : Thread) : Type 0 where
  pub context : ThreadContext
  pub is : t ≡ Used context

pub used_as : (t : Thread) → status_of t ≡ 0x4000 → UsedAs t
used_as Free e = absurd (omega (arith, e))
used_as (Used t) e = record { context = t; is = refl }

pub used_by : (t : Thread) → IsUsed t → UsedAs t
used_by Free h = absurd h
used_by (Used t) h = record { context = t; is = refl }

-- ---- copies

-- the first copy is made where the slot's status is that of a used one
pub kept_used : (m n : Memory) (at : ℕ) (t : Thread) → status_of t ≡ 0x4000 → WordsCopied m n 0xEB0C (at + 0xC) 35 → SlotKept t m n at
kept_used m n at Free e h = absurd (omega (arith, e))
kept_used m n at (Used u) e h = h

pub kept_free : (m : Memory) (at : ℕ) (t : Thread) → (status_of t ≡ 0x4000 → ⊥) → SlotKept t m m at
kept_free m at Free ne = refl
kept_free m at (Used u) ne = absurd (ne refl)

-- the halves of the work area's context and of a slot's, as they are copied
pub record SlotHalves (p : ℕ) : Type 0 where
  pub kept : Halves 0xEB0C (p + 0xC)
  pub kept_on : Halves (0xEB0C + 68) (p + 0xC + 68)
  pub kept_whole : (x y z : Memory) → WordsCopied x y 0xEB0C (p + 0xC) 18 → WordsCopied y z (0xEB0C + 68) (p + 0xC + 68) 18 → WordsCopied x z 0xEB0C (p + 0xC) 35
  pub taken : Halves (p + 0xC) 0xEB0C
  pub taken_on : Halves (p + 0xC + 68) (0xEB0C + 68)
  pub taken_whole : (x y z : Memory) → WordsCopied x y (p + 0xC) 0xEB0C 18 → WordsCopied y z (p + 0xC + 68) (0xEB0C + 68) 18 → WordsCopied x z (p + 0xC) 0xEB0C 35

pub slot_halves : (n : ℕ) → n < 16 → SlotHalves (thread_at n)
slot_halves n lt =
    let p : ℕ = thread_at n in
    let even : p % 4 ≡ 0 = omega arith in
    let low : 0xB000 ≤ p = omega arith in
    let high : p + 0xC0 ≤ 0xBC00 = omega (arith, lt) in
    record {
      kept = record { even = (refl, omega (arith, even)); low = (omega arith, omega (arith, low)); high = (omega arith, omega (arith, high)); apart = inr (omega (arith, high)) };
      kept_on = record { even = (refl, omega (arith, even)); low = (omega arith, omega (arith, low)); high = (omega arith, omega (arith, high)); apart = inr (omega (arith, high)) };
      kept_whole = λ x y z. both_copied x y z 0xEB0C (p + 0xC) (refl, omega (arith, even)) (inr (omega (arith, high)));
      taken = record { even = (omega (arith, even), refl); low = (omega (arith, low), omega arith); high = (omega (arith, high), omega arith); apart = inl (omega (arith, high)) };
      taken_on = record { even = (omega (arith, even), refl); low = (omega (arith, low), omega arith); high = (omega (arith, high), omega arith); apart = inl (omega (arith, high)) };
      taken_whole = λ x y z. both_copied x y z (p + 0xC) 0xEB0C (omega (arith, even), refl) (inl (omega (arith, high)));
    }
