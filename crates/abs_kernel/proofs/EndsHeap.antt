-- The ends of the calls of the heap.
use Rattle.std.proofs.Common.{◌≡◌, ℕ, zero, suc, ◌+◌, ◌*◌, ◌%◌, ◌^◌, Bool, true, false, [], ◌∷◌, refl, ap, ◌∙◌, arith}
use Rattle.std.specs.Prelude.{Option, Some, None, min, nat_eq, nat_le, if◌then◌else◌}
use Rattle.psx_base.specs.declared.stop.Stop.{Stop}
use Rattle.psx_base.specs.Addresses.{place, user}
use Rattle.psx_base.specs.FirstBad.{first_bad_of}
use Rattle.psx_base.specs.Memory.{Memory, byte, put_byte}
use Rattle.psx_base.specs.Context.{Context, IsAtRest}
use Rattle.psx_base.specs.KernelState.{Heap, KernelState}
use Rattle.kern_layout.specs.Valid.{HeapFits, Valid}
use Rattle.abs_kernel.specs.Stay.{Stay}
use Rattle.abs_kernel.specs.Answered.{registers_of, answered}
use Rattle.abs_kernel.specs.UserBytes.{following, tests_bytes}
use Rattle.abs_kernel.specs.Memset.{fill}
use Rattle.abs_kernel.specs.Memcpy.{copy_bytes}
use Rattle.abs_kernel.specs.Heap.{Given, allocates, used_size, frees, with_freed_block}
use Rattle.abs_kernel.specs.Malloc.{gives, malloc}
use Rattle.abs_kernel.specs.Free.{free}
use Rattle.abs_kernel.specs.Calloc.{clears, calloc}
use Rattle.abs_kernel.specs.Realloc.{moves, resizes, realloc}
use Rattle.abs_kernel.specs.InitHeap.{base_of, size_of, new_heap, init_heap}
use Rattle.abs_kernel.specs.StayLaws.{EachEnd}
use Rattle.abs_kernel.proofs.HeapKept.{all_fit, allocates_fits, frees_fits}
use Rattle.abs_kernel.proofs.Ending.{running_in, if_ends, if_ends_by, answered_ends}

-- ---- what fits

-- a new heap whose bytes are user memory
pub new_fits : (p n : ℕ) → first_bad_of (base_of p) (size_of p n) ≡ None → HeapFits (new_heap (base_of p) (size_of p n))
new_fits p n user = by_size (nat_eq (size_of p n) 0) refl
  where
    by_size : (c : Bool) → nat_eq (size_of p n) 0 ≡ c → HeapFits (record { base = base_of p; blocks = if c then [] else (size_of p n, false) ∷ [] })
    by_size true e = record { base = omega arith; few = omega arith; sizes = all_fit [] tt; joined = tt; bytes = refl }
    by_size false e = record {
      base = omega arith;
      few = omega arith;
      sizes = all_fit ((size_of p n, false) ∷ []) (record { multiple = omega arith; some = λ q. grind arith }, tt);
      joined = tt;
      bytes = ap (first_bad_of (base_of p)) (let q : 0 + size_of p n ≡ size_of p n = omega arith in q) ∙ user;
    }

-- ---- those that touch no user memory, or test it alone

module _ (P : KernelState → Type 0) (Q : Stop → Memory → Type 0) (s : KernelState)
    (halts : (stop : Stop) → Q stop s.memory) (returns : (h : Heap) (c : Context) (on : Bool) → (Valid s → HeapFits h) → IsAtRest c → P (running_in (record s { heap = h }) c on)) where
  with_heap : (h : Heap) (value : ℕ) → (Valid s → HeapFits h) → EachEnd P Q (answered (record s { heap = h }) value)
  with_heap h value fit = answered_ends P Q (record s { heap = h }) halts (λ c on r. returns h c on fit r) value

  gives_ends : (n : ℕ) (o : Option Given) → allocates s.heap n ≡ o → EachEnd P Q (gives s o)
  gives_ends n None e = with_heap s.heap 0 (λ v. v.heap)
  gives_ends n (Some g) e = with_heap (record s.heap { blocks = g.blocks }) g.at (λ v. allocates_fits s.heap n g e v.heap)

  pub malloc_ends : EachEnd P Q (malloc s)
  malloc_ends = let n = (registers_of s).r4 in gives_ends n (allocates s.heap n) refl

  pub free_ends : EachEnd P Q (free s)
  free_ends = let p = (registers_of s).r4 in with_heap (with_freed_block s p).heap 0 (λ v. frees_fits p s.heap v.heap)

  tested_by : (n at : ℕ) (next : Stay) → (first_bad_of at n ≡ None → EachEnd P Q next) → EachEnd P Q (tests_bytes n s at next)
  tested_by zero at next h = h refl
  tested_by (suc n) at next h =
      if_ends_by P Q (user at) _ _ (λ u. tested_by n (following at) next (λ rest. h (ap (λ b. if b then first_bad_of (following at) n else Some at) u ∙ rest))) (λ u. halts _)

  pub init_heap_ends : EachEnd P Q (init_heap s)
  init_heap_ends =
      let r = registers_of s in
      tested_by (size_of r.r4 r.r5) (base_of r.r4) _ (λ user. with_heap (new_heap (base_of r.r4) (size_of r.r4 r.r5)) 0 (λ v. new_fits r.r4 r.r5 user))

-- ---- those that write it

module _ (P : KernelState → Type 0) (Q : Stop → Memory → Type 0) (s : KernelState)
    (halts : (stop : Stop) (m : Memory) → Q stop m)
    (returns : (m : Memory) (h : Heap) (c : Context) (on : Bool) → (Valid s → HeapFits h) → IsAtRest c → P (running_in (record s { memory = m; heap = h }) c on)) where
  written : (m : Memory) (h : Heap) (value : ℕ) → (Valid s → HeapFits h) → EachEnd P Q (answered (record s { memory = m; heap = h }) value)
  written m h value fit = answered_ends P Q (record s { memory = m; heap = h }) (λ stop. halts stop m) (λ c on r. returns m h c on fit r) value

  cleared : (n : ℕ) (m : Memory) (h : Heap) (at value : ℕ) → (Valid s → HeapFits h) → EachEnd P Q (fill n (record s { memory = m; heap = h }) at 0 (λ t. answered t value))
  cleared zero m h at value fit = written m h value fit
  cleared (suc n) m h at value fit = if_ends P Q (user at) _ _ (cleared n (put_byte m (place at) 0) h (following at) value fit) (halts _ _)

  clears_ends : (n : ℕ) (o : Option Given) → allocates s.heap n ≡ o → EachEnd P Q (clears n s o)
  clears_ends n None e = written s.memory s.heap 0 (λ v. v.heap)
  clears_ends n (Some g) e = cleared n s.memory (record s.heap { blocks = g.blocks }) g.at g.at (λ v. allocates_fits s.heap n g e v.heap)

  pub calloc_ends : EachEnd P Q (calloc s)
  calloc_ends =
      let n : ℕ = (registers_of s).r4 * (registers_of s).r5 in
      if_ends P Q (nat_le (2 ^ 32) n) _ _ (written s.memory s.heap 0 (λ v. v.heap)) (clears_ends n (allocates s.heap n) refl)

  moved : (n : ℕ) (m : Memory) (h : Heap) (to from p value : ℕ) → (Valid s → HeapFits h)
      → EachEnd P Q (copy_bytes n (record s { memory = m; heap = h }) to from (λ t. answered (with_freed_block t p) value))
  moved zero m h to from p value fit = written m (record h { blocks = frees p h }) value (λ v. frees_fits p h (fit v))
  moved (suc n) m h to from p value fit =
      if_ends P Q (user from) _ _ (if_ends P Q (user to) _ _ (moved n (put_byte m (place to) (byte m (place from) % 2 ^ 8)) h (following to) (following from) p value fit) (halts _ _)) (halts _ _)

  moves_ends : (p k n : ℕ) (o : Option Given) → allocates s.heap n ≡ o → EachEnd P Q (moves p k s o)
  moves_ends p k n None e = written s.memory s.heap 0 (λ v. v.heap)
  moves_ends p k n (Some g) e = moved k s.memory (record s.heap { blocks = g.blocks }) g.at p p g.at (λ v. allocates_fits s.heap n g e v.heap)

  resizes_ends : (p n : ℕ) (o : Option ℕ) → EachEnd P Q (resizes p n s o)
  resizes_ends p n None = written s.memory s.heap 0 (λ v. v.heap)
  resizes_ends p n (Some size) = moves_ends p (min n size) n (allocates s.heap n) refl

  pub realloc_ends : EachEnd P Q (realloc s)
  realloc_ends =
      let p : ℕ = (registers_of s).r4 in
      let n : ℕ = (registers_of s).r5 in
      if_ends P Q (nat_eq p 0) _ _ (gives_ends P Q s (λ stop. halts stop s.memory) (λ h c on fit r. returns s.memory h c on fit r) n (allocates s.heap n) refl)
      (if_ends P Q (nat_eq n 0) _ _ (written s.memory (with_freed_block s p).heap 0 (λ v. frees_fits p s.heap v.heap)) (resizes_ends p n (used_size p s.heap.base s.heap.blocks)))
