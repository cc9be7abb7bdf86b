-- The bytes that calloc and realloc write.
use Rattle.std.proofs.Common.{◌≡◌, ◌≢◌, ℕ, zero, suc, ◌+◌, ◌-◌, ◌*◌, ◌%◌, ◌^◌, ◌<◌, ◌≤◌, Bool, true, false, ◌⊎◌, inl, inr, ⊎_elim, refl, sym, ap, ◌∙◌, subst, arith}
use Rattle.std.specs.Prelude.{min, Option, Some, None, unwrap_or, nat_eq, nat_le, nat_lt, ◌&&◌, ◌||◌, if◌then◌else◌}
use Rattle.std.proofs.lemmas.Bool.{eqb-true, ltb-true, ltb-false, cases_eq}
use Rattle.psx_base.specs.Addresses.{top, low, user_main, scratchpad, place, user}
use Rattle.psx_base.specs.Memory.{Memory, byte, put_byte}
use Rattle.psx_base.specs.KernelState.{Heap, KernelState}
use Rattle.psx_ram.proofs.Laws.{byte-put_byte_same, byte-put_byte_apart}
use Rattle.kern_layout.specs.Valid.{HeapFits}
use Rattle.abs_kernel.specs.Stay.{Stay}
use Rattle.abs_kernel.specs.Answered.{registers_of, answered}
use Rattle.abs_kernel.specs.UserBytes.{following}
use Rattle.abs_kernel.specs.Memset.{fill}
use Rattle.abs_kernel.specs.Memcpy.{copy_bytes}
use Rattle.abs_kernel.specs.Heap.{rounded, Given, allocates, used_size, with_freed_block}
use Rattle.abs_kernel.specs.Calloc.{clears}
use Rattle.abs_kernel.specs.Realloc.{moves, resizes}
use Rattle.abs_kernel.specs.StayLaws.{EachReturn}
use Rattle.abs_kernel.specs.HeapLaws.{IsUsed, Wrote, CallocClears, ReallocCopies}
use Rattle.abs_kernel.proofs.HeapKept.{total, sized, allocates_kept, allocates_by}
use Rattle.abs_kernel.proofs.HeapUsed.{no_size, used_inside, used_apart, allots_keeps}
use Rattle.abs_kernel.proofs.HeapGiven.{block_used, block_unused, used_above}
use Rattle.abs_kernel.proofs.HeapStays.{UserBytes, follows, next_bytes, heap_user, given_user}
use Rattle.abs_kernel.proofs.Ending.{if_ends, if_ends_by}

-- ---- places

mirrored : (p q r x y : Bool) → (((p || (q || r)) && x) || ((p || q) && y)) ≡ true → (p || (q || r)) ≡ true
mirrored true q r x y h = refl
mirrored false true r x y h = refl
mirrored false false true x y h = refl
mirrored false false false x y h = h

-- user memory has places in order
user_place : (a : ℕ) → user a ≡ true → place a ≡ low a
unfolding user
user_place a u = ap (λ b. if b then low a else 2 ^ 29) (mirrored (nat_eq (top a) 0) (nat_eq (top a) 4) (nat_eq (top a) 5) (user_main (low a)) (scratchpad (low a)) u)

user_within : (a : ℕ) → user a ≡ true → suc (a % 2 ^ 29) < 2 ^ 29
unfolding user
user_within a u = grind arith

low_on : (at j n : ℕ) → UserBytes at n → j < n → (at + j) % 2 ^ 29 ≡ at % 2 ^ 29 + j
low_on at zero n b lt = omega arith
low_on at (suc j) n b lt =
    let ih = low_on at j n b (omega (arith, lt)) in
    let w = user_within (at + j) (b j (omega (arith, lt))) in
    omega (arith, ih, w)

place_on : (at j n : ℕ) → UserBytes at n → j < n → place (at + j) ≡ at % 2 ^ 29 + j
place_on at j n b lt = user_place (at + j) (b j lt) ∙ low_on at j n b lt

-- two addresses of a range of user memory have two places
apart : (at n i j : ℕ) → UserBytes at n → i < n → j < n → (i ≡ j → ⊥) → place (at + i) ≡ place (at + j) → ⊥
apart at n i j b li lj ne e = ne (let q = sym (place_on at i n b li) ∙ e ∙ place_on at j n b lj in omega (arith, q))

-- ---- bytes one after the other

on_is : (at i : ℕ) → user at ≡ true → following at + i ≡ at + suc i
on_is at i u = let f = follows at u in omega (arith, f)

first_apart : (at n i : ℕ) → UserBytes at (suc n) → i < n → place at ≡ place (at + suc i) → ⊥
first_apart at n i b lt e = apart at (suc n) 0 (suc i) b (omega arith) (omega (arith, lt)) (λ q. omega (arith, q)) (ap place (let z : at + 0 ≡ at = omega arith in z) ∙ e)

-- a byte is written before the others
wrote_more : (m : Memory) (at n v : ℕ) (value : ℕ → ℕ) (w : Memory) → user at ≡ true → UserBytes at (suc n) → v ≡ value 0
    → Wrote (put_byte m (place at) v) (following at) n (λ i. value (suc i)) w → Wrote m at (suc n) value w
wrote_more m at n v value w u b e x = record {
  bytes = each;
  others = λ p h. x.others p (λ i lt q. h (suc i) (omega (arith, lt)) (q ∙ ap place (on_is at i u))) ∙ byte-put_byte_apart m (place at) v p (λ q. h 0 (omega arith) (q ∙ ap place (let z : at ≡ at + 0 = omega arith in z)));
}
  where
    each : (i : ℕ) → i < suc n → byte w (place (at + i)) ≡ value i
    each zero lt =
        ap (λ a. byte w (place a)) (let z : at + 0 ≡ at = omega arith in z)
        ∙ x.others (place at) (λ i l q. first_apart at n i b l (q ∙ ap place (on_is at i u)))
        ∙ byte-put_byte_same m (place at) v ∙ e
    each (suc i) lt = ap (λ a. byte w (place a)) (sym (on_is at i u)) ∙ x.bytes i (omega (arith, lt))

module _ (s : KernelState) (P : KernelState → Type 0) where
  -- the state at the end of a stay
  abbrev End : Stay → Type 0
  End stay = EachReturn P stay

  filled : (n : ℕ) (m : Memory) (h : Heap) (at v : ℕ) → UserBytes at n → ((w : Memory) → Wrote m at n (λ i. 0) w → End (answered (record s { memory = w; heap = h }) v))
      → End (fill n (record s { memory = m; heap = h }) at 0 (λ t. answered t v))
  filled zero m h at v b k = k m (record { bytes = λ i lt. absurd (omega (arith, lt)); others = λ p q. refl })
  filled (suc n) m h at v b k =
      if_ends_by P (λ stop memory. Unit {0}) (user at) _ _
      (λ u. filled n (put_byte m (place at) 0) h (following at) v (next_bytes at n u b) (λ w x. k w (wrote_more m at n 0 (λ i. 0) w u b refl x))) (λ u. tt)

  -- no byte belongs to both ranges
  copied : (n : ℕ) (m : Memory) (h : Heap) (to from p v : ℕ) → UserBytes to n → UserBytes from n → ((i j : ℕ) → i < n → j < n → place (from + i) ≡ place (to + j) → ⊥)
      → ((w : Memory) → Wrote m to n (λ i. byte m (place (from + i)) % 2 ^ 8) w → End (answered (with_freed_block (record s { memory = w; heap = h }) p) v))
      → End (copy_bytes n (record s { memory = m; heap = h }) to from (λ t. answered (with_freed_block t p) v))
  copied zero m h to from p v b c ne k = k m (record { bytes = λ i lt. absurd (omega (arith, lt)); others = λ p q. refl })
  copied (suc n) m h to from p v b c ne k =
      if_ends_by P (λ stop memory. Unit {0}) (user from) _ _
      (λ x. if_ends_by P (λ stop memory. Unit {0}) (user to) _ _
      (λ u.
      let d : ℕ = byte m (place from) % 2 ^ 8 in
      let o : Memory = put_byte m (place to) d in
      let same : (i : ℕ) → i < n → byte o (place (following from + i)) ≡ byte m (place (from + suc i)) =
      λ i lt. ap (λ a. byte o (place a)) (on_is from i x) ∙ byte-put_byte_apart m (place to) d (place (from + suc i)) (λ q. ne (suc i) 0 (omega (arith, lt)) (omega arith) (q ∙ ap place (let z : to ≡ to + 0 = omega arith in z))) in
      copied n o h (following to) (following from) p v (next_bytes to n u b) (next_bytes from n x c)
      (λ i j li lj q. ne (suc i) (suc j) (omega (arith, li)) (omega (arith, lj)) (ap place (sym (on_is from i x)) ∙ q ∙ ap place (on_is to j u)))
      (λ w y. k w (wrote_more m to n d (λ i. byte m (place (from + i)) % 2 ^ 8) w u b (ap (λ a. byte m (place a) % 2 ^ 8) (let z : from ≡ from + 0 = omega arith in z))
      (record { bytes = λ i lt. y.bytes i lt ∙ ap (λ z. z % 2 ^ 8) (same i lt); others = y.others }))))
      (λ u. tt))
      (λ x. tt)

-- ---- calloc

cleared : (s : KernelState) → HeapFits s.heap → (n : ℕ) (o : Option Given) → allocates s.heap n ≡ o
    → EachReturn (λ t. let at = (registers_of t).r2 in at ≢ 0 → Wrote s.memory at n (λ i. 0) t.memory) (clears n s o)
cleared s f n None e = λ ne. absurd (ne refl)
cleared s f n (Some g) e =
    filled s (λ t. let at = (registers_of t).r2 in at ≢ 0 → Wrote s.memory at n (λ i. 0) t.memory) n s.memory (record s.heap { blocks = g.blocks }) g.at g.at
    (λ i lt. given_user s f n g e i (omega (arith, lt))) (λ w x ne. x)

pub calloc_clears : CallocClears
calloc_clears s v =
    let r = registers_of s in
    let n : ℕ = r.r4 * r.r5 in
    if_ends (λ t. let at = (registers_of t).r2 in at ≢ 0 → Wrote s.memory at n (λ i. 0) t.memory) (λ stop memory. Unit {0}) (nat_le (2 ^ 32) n) _ _ (λ ne. absurd (ne refl)) (cleared s v.heap n (allocates s.heap n) refl)

-- ---- realloc

-- two addresses in a heap have two places
heap_apart : (h : Heap) → HeapFits h → (a b : ℕ) → h.base ≤ a → a < h.base + total h.blocks → h.base ≤ b → b < h.base + total h.blocks → (a ≡ b → ⊥) → place a ≡ place b → ⊥
heap_apart h f a b la ua lb ub ne e =
    let x : h.base + (a - h.base) ≡ a = omega (arith, la) in
    let y : h.base + (b - h.base) ≡ b = omega (arith, lb) in
    apart h.base (total h.blocks) (a - h.base) (b - h.base) (λ i lt. heap_user h h.base (total h.blocks) i f (omega arith) (omega arith) lt) (omega (arith, la, ua)) (omega (arith, lb, ub)) (λ q. ne (omega (arith, q, la, lb))) (ap place x ∙ e ∙ ap place (sym y))

strict : (a b : ℕ) → b ≤ a → (a ≡ b) ⊎ (b < a)
strict a b le = ⊎_elim (λ e. inl e) (λ ne. inr (omega (arith, le, ne))) (cases_eq a b)

-- the new block and the old one share no address
blocks_apart : (h : Heap) → HeapFits h → (n : ℕ) (g : Given) (p k i j : ℕ) → allocates h n ≡ Some g → IsUsed p k h → i < k → j < rounded n → p + i ≡ g.at + j → ⊥
blocks_apart h f n g p k i j e u li lj q =
    let z = sized h.blocks f.sizes in
    let old = allots_keeps (rounded n) h.base _ h.blocks g p k (allocates_by h n g e).1 u in
    let new = block_used h n g z e in
    let other : p ≡ g.at → ⊥ = λ x. no_size (sym (block_unused h n g z e) ∙ subst (λ a. IsUsed a k h) x u) in
    by (nat_lt p g.at) refl old new other
  where
    by : (c : Bool) → nat_lt p g.at ≡ c → used_size p h.base g.blocks ≡ Some k → used_size g.at h.base g.blocks ≡ Some (rounded n) → (p ≡ g.at → ⊥) → ⊥
    by true c old new other = let a = used_apart p g.at h.base g.blocks k (rounded n) old new (ltb-true p g.at c) in omega (arith, a, li, q)
    by false c old new other =
        let ge = ltb-false p g.at c in
        let a = used_apart g.at p h.base g.blocks (rounded n) k new old (⊎_elim (λ x. absurd (other x)) (λ x. x) (strict p g.at ge)) in
        omega (arith, a, lj, q)

copied_over : (s : KernelState) → HeapFits s.heap → (p n k : ℕ) (o : Option Given) → allocates s.heap n ≡ o → IsUsed p k s.heap
    → EachReturn (λ t. let at = (registers_of t).r2 in at ≢ 0 → Wrote s.memory at (min n k) (λ i. byte s.memory (place (p + i)) % 2 ^ 8) t.memory) (moves p (min n k) s o)
copied_over s f p n k None e u = λ ne. absurd (ne refl)
copied_over s f p n k (Some g) e u =
    let h = s.heap in
    let t : Heap = record h { blocks = g.blocks } in
    let old = used_inside p h.base h.blocks k u in
    let new = used_inside g.at h.base g.blocks (rounded n) (block_used h n g (sized h.blocks f.sizes) e) in
    let sum = (allocates_kept h n g e).sum in
    copied s (λ t. let at = (registers_of t).r2 in at ≢ 0 → Wrote s.memory at (min n k) (λ i. byte s.memory (place (p + i)) % 2 ^ 8) t.memory) (min n k) s.memory t g.at p p g.at
    (λ i lt. given_user s f n g e i (omega (arith, lt)))
    (λ i lt. heap_user h p k i f old.0 old.1 (omega (arith, lt)))
    (λ i j li lj. heap_apart h f (p + i) (g.at + j) (omega (arith, old.0)) (omega (arith, old.1, li)) (omega (arith, new.0)) (omega (arith, new.1, sum, lj)) (blocks_apart h f n g p k i j e u (omega (arith, li)) (omega (arith, lj))))
    (λ w x ne. x)

resized_over : (s : KernelState) → HeapFits s.heap → (p n k : ℕ) (o : Option ℕ) → used_size p s.heap.base s.heap.blocks ≡ o → IsUsed p k s.heap
    → EachReturn (λ t. let at = (registers_of t).r2 in at ≢ 0 → Wrote s.memory at (min n k) (λ i. byte s.memory (place (p + i)) % 2 ^ 8) t.memory) (resizes p n s o)
resized_over s f p n k None e u = no_size (sym e ∙ u)
resized_over s f p n k (Some size) e u =
    let same : size ≡ k = ap (λ o. unwrap_or o 0) (sym e ∙ u) in
    subst (λ j. EachReturn (λ t. let at = (registers_of t).r2 in at ≢ 0 → Wrote s.memory at (min n k) (λ i. byte s.memory (place (p + i)) % 2 ^ 8) t.memory) (moves p (min n j) s (allocates s.heap n))) (sym same)
    (copied_over s f p n k (allocates s.heap n) refl u)

pub realloc_copies : ReallocCopies
realloc_copies s k v u =
    let p : ℕ = (registers_of s).r4 in
    let n : ℕ = (registers_of s).r5 in
    let P : KernelState → Type 0 = λ t. let at = (registers_of t).r2 in at ≢ 0 → Wrote s.memory at (min n k) (λ i. byte s.memory (place (p + i)) % 2 ^ 8) t.memory in
    if_ends_by P (λ stop memory. Unit {0}) (nat_eq p 0) _ _ (λ e. absurd (used_above s.heap p k v.heap u (eqb-true p 0 e)))
    (λ e. if_ends P (λ stop memory. Unit {0}) (nat_eq n 0) _ _ (λ ne. absurd (ne refl)) (resized_over s v.heap p n k (used_size p s.heap.base s.heap.blocks) refl u))
