-- The stays of the heap's calls are steps of the heap, and in a valid state none of them stops.
use Rattle.std.proofs.Common.{◌≡◌, ℕ, zero, suc, ◌+◌, ◌-◌, ◌*◌, ◌%◌, ◌^◌, ◌<◌, ◌≤◌, Bool, true, false, refl, sym, ap, ◌∙◌, arith}
use Rattle.std.specs.Prelude.{min, Option, Some, None, is_some, nat_eq, nat_le, if◌then◌else◌}
use Rattle.std.proofs.lemmas.Bool.{false≢true}
use Rattle.psx_base.specs.Addresses.{place, user}
use Rattle.psx_base.specs.FirstBad.{first_bad_of}
use Rattle.psx_base.specs.Memory.{Memory, byte, put_byte}
use Rattle.psx_base.specs.KernelState.{Heap, KernelState}
use Rattle.kern_layout.specs.Valid.{HeapFits}
use Rattle.abs_kernel.specs.Stay.{Stay}
use Rattle.abs_kernel.specs.Answered.{registers_of, answered}
use Rattle.abs_kernel.specs.UserBytes.{following, tests_bytes}
use Rattle.abs_kernel.specs.Memset.{fill}
use Rattle.abs_kernel.specs.Memcpy.{copy_bytes}
use Rattle.abs_kernel.specs.Heap.{rounded, Given, allocates, used_size, with_freed_block}
use Rattle.abs_kernel.specs.Malloc.{gives}
use Rattle.abs_kernel.specs.Calloc.{clears}
use Rattle.abs_kernel.specs.Realloc.{moves, resizes}
use Rattle.abs_kernel.specs.InitHeap.{base_of, size_of}
use Rattle.abs_kernel.specs.StayLaws.{EachEnd, EachReturn}
use Rattle.abs_kernel.specs.HeapCalls.{nothing, freed, given, replaced, resized}
use Rattle.abs_kernel.specs.HeapLaws.{MakeSteps, CallsMakeSteps, InitHeapSets, Never, EachReturns, CallsReturn}
use Rattle.abs_kernel.proofs.HeapKept.{total, sum_total, sized, allocates_by, allocates_kept}
use Rattle.abs_kernel.proofs.HeapUsed.{used_inside, allots_uses}
use Rattle.abs_kernel.proofs.Ending.{if_ends, if_ends_by}

-- ---- the steps

-- where a stay returns, the heap and r2 are these
abbrev Gives : Heap → ℕ → Stay → Type 0
Gives h v stay = EachReturn (λ t. (t.heap ≡ h) × ((registers_of t).r2 ≡ v)) stay

-- a stop is none
abbrev if_gives : (h : Heap) (v : ℕ) (b : Bool) (x y : Stay) → Gives h v x → Gives h v y → Gives h v (if b then x else y)
if_gives h v b x y = if_ends (λ t. (t.heap ≡ h) × ((registers_of t).r2 ≡ v)) (λ stop memory. Unit {0}) b x y

module _ (s : KernelState) where
  given_gives : (o : Option Given) → Gives (given s.heap o).heap (given s.heap o).answer (gives s o)
  given_gives None = (refl, refl)
  given_gives (Some g) = (refl, refl)

  filled_gives : (n : ℕ) (m : Memory) (h : Heap) (at v : ℕ) → Gives h v (fill n (record s { memory = m; heap = h }) at 0 (λ t. answered t v))
  filled_gives zero m h at v = (refl, refl)
  filled_gives (suc n) m h at v = if_gives h v (user at) _ _ (filled_gives n (put_byte m (place at) 0) h (following at) v) tt

  cleared_gives : (n : ℕ) (o : Option Given) → Gives (given s.heap o).heap (given s.heap o).answer (clears n s o)
  cleared_gives n None = (refl, refl)
  cleared_gives n (Some g) = filled_gives n s.memory (record s.heap { blocks = g.blocks }) g.at g.at

  copied_gives : (n : ℕ) (m : Memory) (h : Heap) (to from p v : ℕ) → Gives (freed p h) v (copy_bytes n (record s { memory = m; heap = h }) to from (λ t. answered (with_freed_block t p) v))
  copied_gives zero m h to from p v = (refl, refl)
  copied_gives (suc n) m h to from p v =
      if_gives (freed p h) v (user from) _ _ (if_gives (freed p h) v (user to) _ _ (copied_gives n (put_byte m (place to) (byte m (place from) % 2 ^ 8)) h (following to) (following from) p v) tt) tt

  moved_gives : (p k : ℕ) (o : Option Given) → Gives (replaced p s.heap o).heap (replaced p s.heap o).answer (moves p k s o)
  moved_gives p k None = (refl, refl)
  moved_gives p k (Some g) = copied_gives k s.memory (record s.heap { blocks = g.blocks }) g.at p p g.at

  resized_gives : (p n : ℕ) (o : Option ℕ) → Gives (resized p n s.heap o).heap (resized p n s.heap o).answer (resizes p n s o)
  resized_gives p n None = (refl, refl)
  resized_gives p n (Some size) = moved_gives p (min n size) (allocates s.heap n)

  pub call_makes_step : MakeSteps s
  call_makes_step = record {
    malloc = given_gives (allocates s.heap (registers_of s).r4);
    free = (refl, refl);
    calloc = product (nat_le (2 ^ 32) ((registers_of s).r4 * (registers_of s).r5));
    realloc = either (nat_eq (registers_of s).r4 0) (nat_eq (registers_of s).r5 0);
  }
    where
      product : (c : Bool) → let n : ℕ = (registers_of s).r4 * (registers_of s).r5 in
          let t = if c then nothing s.heap else given s.heap (allocates s.heap n) in Gives t.heap t.answer (if c then answered s 0 else clears n s (allocates s.heap n))
      product true = (refl, refl)
      product false = let n : ℕ = (registers_of s).r4 * (registers_of s).r5 in cleared_gives n (allocates s.heap n)

      either : (c d : Bool) → let p : ℕ = (registers_of s).r4 in let n : ℕ = (registers_of s).r5 in
          let t = if c then given s.heap (allocates s.heap n) else if d then record { heap = freed p s.heap; answer = 0 } else resized p n s.heap (used_size p s.heap.base s.heap.blocks) in
          Gives t.heap t.answer (if c then gives s (allocates s.heap n) else if d then answered (with_freed_block s p) 0 else resizes p n s (used_size p s.heap.base s.heap.blocks))
      either true d = given_gives (allocates s.heap (registers_of s).r5)
      either false true = (refl, refl)
      either false false = let p : ℕ = (registers_of s).r4 in resized_gives p (registers_of s).r5 (used_size p s.heap.base s.heap.blocks)

pub calls_make_steps : CallsMakeSteps
calls_make_steps s = call_makes_step s

-- n bytes are tested, and what follows is reached where they are user memory
tested_gives : (P : KernelState → Type 0) (s : KernelState) (n at : ℕ) (next : Stay) → (first_bad_of at n ≡ None → EachReturn P next) → EachReturn P (tests_bytes n s at next)
tested_gives P s zero at next h = h refl
tested_gives P s (suc n) at next h =
    if_ends_by P (λ stop memory. Unit {0}) (user at) _ _ (λ u. tested_gives P s n (following at) next (λ rest. h (ap (λ b. if b then first_bad_of (following at) n else Some at) u ∙ rest))) (λ u. tt)

pub init_heap_sets : InitHeapSets
init_heap_sets s = let r = registers_of s in tested_gives _ s (size_of r.r4 r.r5) (base_of r.r4) _ (λ set. (set, refl, refl))

-- ---- no stop

-- user memory ends before the last address
user_low : (a : ℕ) → user a ≡ true → suc a < 2 ^ 32
unfolding user
user_low a u = grind arith

pub follows : (a : ℕ) → user a ≡ true → following a ≡ suc a
follows a u = let l = user_low a u in omega (arith, l)

-- each byte of a range without a bad one
pub bytes_user : (n at i : ℕ) → first_bad_of at n ≡ None → i < n → user (at + i) ≡ true
bytes_user zero at i h lt = absurd (omega (arith, lt))
bytes_user (suc n) at i h lt = by (user at) refl h i lt (λ j e. bytes_user n (following at) j e)
  where
    by : (c : Bool) → user at ≡ c → (if c then first_bad_of (following at) n else Some at) ≡ None → (i : ℕ) → i < suc n
        → ((j : ℕ) → first_bad_of (following at) n ≡ None → j < n → user (following at + j) ≡ true) → user (at + i) ≡ true
    by true u h zero lt ih = ap user (let e : at + 0 ≡ at = omega arith in e) ∙ u
    by true u h (suc i) lt ih = ap user (let f = follows at u in let e : at + suc i ≡ following at + i = omega (arith, f) in e) ∙ ih i h (omega (arith, lt))
    by false u h i lt ih = absurd (false≢true (let f : false ≡ true = sym (ap is_some h) in f))

-- the bytes of a heap are user memory
pub heap_user : (h : Heap) (at k i : ℕ) → HeapFits h → h.base ≤ at → at + k ≤ h.base + total h.blocks → i < k → user (at + i) ≡ true
heap_user h at k i f low high lt =
    let e : at + i ≡ h.base + (at - h.base + i) = omega (arith, low) in
    ap user e ∙ bytes_user (total h.blocks) h.base (at - h.base + i) (ap (first_bad_of h.base) (sym (sum_total h.blocks)) ∙ f.bytes) (omega (arith, low, high, lt))

-- n bytes from an address on are user memory
abbrev pub UserBytes : (at n : ℕ) → Type 0
UserBytes at n = (i : ℕ) → i < n → user (at + i) ≡ true

pub next_bytes : (at n : ℕ) → user at ≡ true → UserBytes at (suc n) → UserBytes (following at) n
next_bytes at n u h i lt = ap user (let f = follows at u in let e : following at + i ≡ at + suc i = omega (arith, f) in e) ∙ h (suc i) (omega (arith, lt))

this_byte : (at n : ℕ) → UserBytes at (suc n) → user at ≡ true
this_byte at n h = ap user (let e : at ≡ at + 0 = omega arith in e) ∙ h 0 (omega arith)

abbrev All : KernelState → Type 0
All t = Unit {0}

not_bad : (at n : ℕ) → UserBytes at (suc n) → user at ≡ false → ⊥
not_bad at n h e = false≢true (sym e ∙ this_byte at n h)

module _ (s : KernelState) (f : HeapFits s.heap) where
  filled_returns : (n : ℕ) (m : Memory) (h : Heap) (at v : ℕ) → UserBytes at n → EachEnd All Never (fill n (record s { memory = m; heap = h }) at 0 (λ t. answered t v))
  filled_returns zero m h at v b = tt
  filled_returns (suc n) m h at v b = if_ends_by All Never (user at) _ _ (λ u. filled_returns n (put_byte m (place at) 0) h (following at) v (next_bytes at n u b)) (not_bad at n b)

  copied_returns : (n : ℕ) (m : Memory) (h : Heap) (to from p v : ℕ) → UserBytes to n → UserBytes from n
      → EachEnd All Never (copy_bytes n (record s { memory = m; heap = h }) to from (λ t. answered (with_freed_block t p) v))
  copied_returns zero m h to from p v b c = tt
  copied_returns (suc n) m h to from p v b c =
      if_ends_by All Never (user from) _ _
      (λ w. if_ends_by All Never (user to) _ _ (λ u. copied_returns n (put_byte m (place to) (byte m (place from) % 2 ^ 8)) h (following to) (following from) p v (next_bytes to n u b) (next_bytes from n w c)) (not_bad to n b))
      (not_bad from n c)

  -- a block that is given
  pub given_user : (n : ℕ) (g : Given) → allocates s.heap n ≡ Some g → UserBytes g.at (rounded n)
  given_user n g e =
      let h = s.heap in
      let a = allocates_by h n g e in
      let u = used_inside g.at h.base g.blocks (rounded n) (allots_uses (rounded n) h.base _ h.blocks g (sized h.blocks f.sizes) a.1) in
      λ i lt. heap_user h g.at (rounded n) i f u.0 (omega (arith, u.1, (allocates_kept h n g e).sum)) lt

  cleared_returns : (n : ℕ) (o : Option Given) → allocates s.heap n ≡ o → EachEnd All Never (clears n s o)
  cleared_returns n None e = tt
  cleared_returns n (Some g) e = filled_returns n s.memory (record s.heap { blocks = g.blocks }) g.at g.at (λ i lt. given_user n g e i (omega (arith, lt)))

  moved_returns : (p n size : ℕ) (o : Option Given) → used_size p s.heap.base s.heap.blocks ≡ Some size → allocates s.heap n ≡ o → EachEnd All Never (moves p (min n size) s o)
  moved_returns p n size None u e = tt
  moved_returns p n size (Some g) u e =
      let i = used_inside p s.heap.base s.heap.blocks size u in
      copied_returns (min n size) s.memory (record s.heap { blocks = g.blocks }) g.at p p g.at
      (λ j lt. given_user n g e j (omega (arith, lt)))
      (λ j lt. heap_user s.heap p size j f i.0 i.1 (omega (arith, lt)))

  resized_returns : (p n : ℕ) (o : Option ℕ) → used_size p s.heap.base s.heap.blocks ≡ o → EachEnd All Never (resizes p n s o)
  resized_returns p n None u = tt
  resized_returns p n (Some size) u = moved_returns p n size (allocates s.heap n) u refl

  given_returns : (o : Option Given) → EachEnd All Never (gives s o)
  given_returns None = tt
  given_returns (Some g) = tt

  pub call_returns : EachReturns s
  call_returns =
      let p : ℕ = (registers_of s).r4 in
      let n : ℕ = (registers_of s).r5 in
      record {
        malloc = given_returns (allocates s.heap p);
        free = tt;
        calloc = if_ends All Never (nat_le (2 ^ 32) (p * n)) _ _ tt (cleared_returns (p * n) (allocates s.heap (p * n)) refl);
        realloc = if_ends All Never (nat_eq p 0) _ _ (given_returns (allocates s.heap n)) (if_ends All Never (nat_eq n 0) _ _ tt (resized_returns p n (used_size p s.heap.base s.heap.blocks) refl));
      }

pub calls_return : CallsReturn
calls_return s v = call_returns s v.heap
