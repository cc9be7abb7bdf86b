-- The laws of the heap, step by step and for all steps since InitHeap.
use Rattle.std.proofs.Common.{◌≡◌, ℕ, suc, ◌*◌, ◌^◌, Bool, true, false, List, [], ◌∷◌, ◌++◌, refl, sym, ◌∙◌, subst, arith}
use Rattle.std.specs.Prelude.{All, Option, Some, None, nat_eq, nat_le, if◌then◌else◌}
use Rattle.std.proofs.lemmas.Bool.{eqb-true}
use Rattle.psx_base.specs.KernelState.{Heap}
use Rattle.kern_layout.specs.Valid.{HeapFits}
use Rattle.abs_kernel.specs.Heap.{rounded, Given, allocates, has_spare, used_size, frees_by}
use Rattle.abs_kernel.specs.InitHeap.{base_of, size_of, new_heap}
use Rattle.abs_kernel.specs.HeapCalls.{HeapCall, Malloc, Free, Calloc, Realloc, nothing, freed, given, replaced, resized, step, steps, since}
use Rattle.abs_kernel.specs.HeapLaws.{IsSet, IsUsed, SizesSum, FreeIsJoined, UsedLieInside, UsedLieApart, Spares, UsedAreKept}
use Rattle.abs_kernel.proofs.HeapKept.{total, sum_total, sized, allocates_by, allocates_kept, allocates_fits, frees_freed, frees_fits}
use Rattle.abs_kernel.proofs.HeapUsed.{used_inside, used_sized, used_apart, allots_keeps, releases_keeps}
use Rattle.abs_kernel.proofs.EndsHeap.{new_fits}

-- ---- what each step keeps

-- the base and the sum of the sizes, and that the heap fits
pub record Same (h t : Heap) : Type 0 where
  pub base : t.base ≡ h.base
  pub sum : total t.blocks ≡ total h.blocks
  pub fits : HeapFits h → HeapFits t

same : (h : Heap) → Same h h
same h = record { base = refl; sum = refl; fits = λ f. f }

both : (h t u : Heap) → Same h t → Same t u → Same h u
both h t u a b = record { base = b.base ∙ a.base; sum = b.sum ∙ a.sum; fits = λ f. b.fits (a.fits f) }

blocks_given : (h : Heap) (n : ℕ) (g : Given) → allocates h n ≡ Some g → Same h (record h { blocks = g.blocks })
blocks_given h n g e = record { base = refl; sum = (allocates_kept h n g e).sum; fits = allocates_fits h n g e }

block_freed : (p : ℕ) (h : Heap) → Same h (freed p h)
block_freed p h = record { base = refl; sum = (frees_freed p h).sum; fits = frees_fits p h }

given_same : (h : Heap) (n : ℕ) (o : Option Given) → allocates h n ≡ o → Same h (given h o).heap
given_same h n None e = same h
given_same h n (Some g) e = blocks_given h n g e

replaced_same : (p : ℕ) (h : Heap) (n : ℕ) (o : Option Given) → allocates h n ≡ o → Same h (replaced p h o).heap
replaced_same p h n None e = same h
replaced_same p h n (Some g) e = let t : Heap = record h { blocks = g.blocks } in both h t (freed p t) (blocks_given h n g e) (block_freed p t)

resized_same : (p n : ℕ) (h : Heap) (o : Option ℕ) → Same h (resized p n h o).heap
resized_same p n h None = same h
resized_same p n h (Some size) = replaced_same p h n (allocates h n) refl

step_same : (c : HeapCall) (h : Heap) → Same h (step c h).heap
step_same (Malloc n) h = given_same h n (allocates h n) refl
step_same (Free p) h = block_freed p h
step_same (Calloc a b) h = by (nat_le (2 ^ 32) (a * b))
  where
    by : (c : Bool) → Same h (if c then nothing h else given h (allocates h (a * b))).heap
    by true = same h
    by false = given_same h (a * b) (allocates h (a * b)) refl
step_same (Realloc p n) h = by (nat_eq p 0) (nat_eq n 0)
  where
    by : (c d : Bool) → Same h (if c then given h (allocates h n) else if d then record { heap = freed p h; answer = 0 } else resized p n h (used_size p h.base h.blocks)).heap
    by true d = given_same h n (allocates h n) refl
    by false true = block_freed p h
    by false false = resized_same p n h (used_size p h.base h.blocks)

pub steps_same : (cs : List HeapCall) (h : Heap) → Same h (steps cs h)
steps_same [] h = same h
steps_same (c ∷ cs) h = both h (step c h).heap _ (step_same c h) (steps_same cs (step c h).heap)

-- ---- since InitHeap

new_total : (p n : ℕ) → total (new_heap (base_of p) (size_of p n)).blocks ≡ size_of p n
new_total p n = by (nat_eq (size_of p n) 0) refl
  where
    by : (c : Bool) → nat_eq (size_of p n) 0 ≡ c → total (if c then [] else (size_of p n, false) ∷ []) ≡ size_of p n
    by true e = sym (eqb-true (size_of p n) 0 e)
    by false e = omega arith

since_same : (p n : ℕ) (cs : List HeapCall) → Same (new_heap (base_of p) (size_of p n)) (since p n cs)
since_same p n cs = steps_same cs (new_heap (base_of p) (size_of p n))

pub since_fits : (p n : ℕ) (cs : List HeapCall) → IsSet p n → HeapFits (since p n cs)
since_fits p n cs set = (since_same p n cs).fits (new_fits p n set)

pub sizes_sum : SizesSum
sizes_sum p n cs = let s = since_same p n cs in (s.base, sum_total (since p n cs).blocks ∙ s.sum ∙ new_total p n)

pub free_is_joined : FreeIsJoined
free_is_joined p n cs set = let f = since_fits p n cs set in (f.joined, f.few)

pub used_lie_inside : UsedLieInside
used_lie_inside p n cs at k set u =
    let h = since p n cs in
    let f = since_fits p n cs set in
    let s = since_same p n cs in
    let i = used_inside at h.base h.blocks k u in
    let z = used_sized at h.base h.blocks k f.base (sized h.blocks f.sizes) u in
    record { above = omega (arith, i.0, s.base); below = omega (arith, i.1, s.base, s.sum, new_total p n); place = z.0; size = z.1; some = omega (arith, z.2) }

pub used_lie_apart : UsedLieApart
used_lie_apart p n cs a b k j u v lt = let h = since p n cs in used_apart a b h.base h.blocks k j u v lt

-- ---- what is used stays

given_keeps : (h : Heap) (n : ℕ) (o : Option Given) (q k : ℕ) → allocates h n ≡ o → IsUsed q k h → IsUsed q k (given h o).heap
given_keeps h n None q k e u = u
given_keeps h n (Some g) q k e u = allots_keeps (rounded n) h.base (has_spare h) h.blocks g q k (allocates_by h n g e).1 u

pub freed_keeps : (p : ℕ) (h : Heap) (q k : ℕ) → (p ≡ q → ⊥) → IsUsed q k h → IsUsed q k (freed p h)
freed_keeps p h q k ne u = by (used_size p h.base h.blocks)
  where
    by : (o : Option ℕ) → used_size q h.base (frees_by p h o) ≡ Some k
    by None = u
    by (Some size) = releases_keeps p q h.base h.blocks k ne u

replaced_keeps : (p : ℕ) (h : Heap) (n : ℕ) (o : Option Given) (q k : ℕ) → (p ≡ q → ⊥) → allocates h n ≡ o → IsUsed q k h → IsUsed q k (replaced p h o).heap
replaced_keeps p h n None q k ne e u = u
replaced_keeps p h n (Some g) q k ne e u = freed_keeps p (record h { blocks = g.blocks }) q k ne (given_keeps h n (Some g) q k e u)

resized_keeps : (p n : ℕ) (h : Heap) (o : Option ℕ) (q k : ℕ) → (p ≡ q → ⊥) → IsUsed q k h → IsUsed q k (resized p n h o).heap
resized_keeps p n h None q k ne u = u
resized_keeps p n h (Some size) q k ne u = replaced_keeps p h n (allocates h n) q k ne refl u

pub step_keeps : (c : HeapCall) (h : Heap) (q k : ℕ) → Spares q c → IsUsed q k h → IsUsed q k (step c h).heap
step_keeps (Malloc n) h q k s u = given_keeps h n (allocates h n) q k refl u
step_keeps (Free p) h q k s u = freed_keeps p h q k s u
step_keeps (Calloc a b) h q k s u = by (nat_le (2 ^ 32) (a * b))
  where
    by : (c : Bool) → IsUsed q k (if c then nothing h else given h (allocates h (a * b))).heap
    by true = u
    by false = given_keeps h (a * b) (allocates h (a * b)) q k refl u
step_keeps (Realloc p n) h q k s u = by (nat_eq p 0) (nat_eq n 0)
  where
    by : (c d : Bool) → IsUsed q k (if c then given h (allocates h n) else if d then record { heap = freed p h; answer = 0 } else resized p n h (used_size p h.base h.blocks)).heap
    by true d = given_keeps h n (allocates h n) q k refl u
    by false true = freed_keeps p h q k s u
    by false false = resized_keeps p n h (used_size p h.base h.blocks) q k s u

steps_keep : (cs : List HeapCall) (h : Heap) (q k : ℕ) → All (Spares q) cs → IsUsed q k h → IsUsed q k (steps cs h)
steps_keep [] h q k s u = u
steps_keep (c ∷ cs) h q k s u = steps_keep cs (step c h).heap q k (λ i d lt. s (suc i) d (omega (arith, lt))) (step_keeps c h q k (s 0 c (omega arith)) u)

steps_append : (cs ds : List HeapCall) (h : Heap) → steps (cs ++ ds) h ≡ steps ds (steps cs h)
steps_append [] ds h = refl
steps_append (c ∷ cs) ds h = steps_append cs ds (step c h).heap

pub used_are_kept : UsedAreKept
used_are_kept p n before after at k u s =
    let h : Heap = new_heap (base_of p) (size_of p n) in
    subst (λ t. IsUsed at k t) (sym (steps_append before after h)) (steps_keep after (steps before h) at k s u)
