-- What a valid state's heap gives to the listings: blocks that the table can hold, all of them user memory.
use Rattle.std.proofs.Common.{◌≡◌, ℕ, zero, suc, ◌+◌, ◌-◌, ◌%◌, ◌^◌, ◌<◌, ◌≤◌, Bool, true, false, refl, sym, ap, ◌∙◌, subst, arith, ⊎_elim}
use Rattle.std.specs.Prelude.{Some, None, is_some, if◌then◌else◌}
use Rattle.std.proofs.lemmas.Bool.{cases_lt, false≢true}
use Rattle.psx_base.specs.Addresses.{user}
use Rattle.psx_base.specs.FirstBad.{first_bad_of}
use Rattle.psx_base.specs.KernelState.{Heap}
use Rattle.kern_layout.specs.Valid.{HeapFits}
use Rattle.kern_layout.proofs.HeapStored.{sized}
use Rattle.abs_kernel.specs.Heap.{Given, rounded, has_spare, allocates, used_size}
use Rattle.abs_kernel.proofs.HeapKept.{total, sum_total, sized as sizes, allocates_by, allocates_fits}
use Rattle.abs_kernel.proofs.HeapUsed.{used_inside, used_sized, allots_uses}
use Rattle.psx_flow.proofs.Users.{user_0}
use Rattle.kern_stay.proofs.RoomLeft.{Span}
use Rattle.kern_heap.proofs.HeapLists.{Fit}

-- ---- bytes of which none is bad

user_bad : (a : ℕ) → 0xC0000000 ≤ a → user a ≡ false
unfolding user
user_bad a h = grind arith

user_low : (a : ℕ) → user a ≡ true → a < 0xC0000000
user_low a u = ⊎_elim (λ l. l) (λ g. absurd (false≢true (sym (user_bad a g) ∙ u))) (cases_lt a 0xC0000000)

first_user : (a n : ℕ) → first_bad_of a (suc n) ≡ None → (user a ≡ true) × (first_bad_of ((a + 1) % 2 ^ 32) n ≡ None)
first_user a n h = go (user a) refl h
  where
    go : (b : Bool) → user a ≡ b → (if b then first_bad_of ((a + 1) % 2 ^ 32) n else Some a) ≡ None → (user a ≡ true) × (first_bad_of ((a + 1) % 2 ^ 32) n ≡ None)
    go true e h = (e, h)
    go false e h = absurd (false≢true (let f : true ≡ false = ap is_some h in sym f))

pub user_run : (n a : ℕ) → first_bad_of a n ≡ None → (i : ℕ) → i < n → (user (a + i) ≡ true) × (a + i + 1 < 2 ^ 32)
user_run zero a h i lt = absurd (omega (arith, lt))
user_run (suc n) a h zero lt =
    let p = first_user a n h in
    let z : a ≡ a + 0 = omega arith in
    let low = user_low a p.0 in
    (subst (λ x. user x ≡ true) z p.0, omega (arith, low))
user_run (suc n) a h (suc i) lt =
    let p = first_user a n h in
    let low = user_low a p.0 in
    let e : (a + 1) % 2 ^ 32 ≡ a + 1 = omega (arith, low) in
    let r = user_run n (a + 1) (subst (λ x. first_bad_of x n ≡ None) e p.1) i (omega (arith, lt)) in
    let z : a + 1 + i ≡ a + suc i = omega arith in
    (subst (λ x. user x ≡ true) z r.0, omega (arith, r.1))

-- ---- the heap's

pub heap_user : (h : Heap) → HeapFits h → (i : ℕ) → i < total h.blocks → (user (h.base + i) ≡ true) × (h.base + i + 1 < 2 ^ 32)
heap_user h f i lt = user_run (total h.blocks) h.base (ap (first_bad_of h.base) (sym (sum_total h.blocks)) ∙ f.bytes) i lt

pub heap_ends : (h : Heap) → HeapFits h → 0 < total h.blocks → h.base + total h.blocks < 2 ^ 32
heap_ends h f some = let r = (heap_user h f (total h.blocks - 1) (omega (arith, some))).1 in omega (arith, r, some)

pub heap_fit : (h : Heap) → HeapFits h → Fit h.blocks
heap_fit h f = record {
  few = f.few;
  sized = sized h.blocks f.sizes;
  small = ⊎_elim (λ (l : total h.blocks < 1). omega (arith, l)) (λ (g : 1 ≤ total h.blocks). let e = heap_ends h f (omega (arith, g)) in omega (arith, e)) (cases_lt (total h.blocks) 1);
}

-- ---- the bytes of a used block

pub record UserBlock (p k : ℕ) : Type 0 where
  pub good : (i : ℕ) → i < k → user (p + i) ≡ true
  pub within : p + k < 2 ^ 32
  pub some : k ≡ 0 → ⊥

pub user_block : (h : Heap) → HeapFits h → (p k : ℕ) → used_size p h.base h.blocks ≡ Some k → UserBlock p k
user_block h f p k e =
    let inside = used_inside p h.base h.blocks k e in
    let low = inside.0 in
    let high = inside.1 in
    let some = (used_sized p h.base h.blocks k f.base (sizes h.blocks f.sizes) e).2 in
    let ends = heap_ends h f (omega (arith, low, high, some)) in
    record {
      good = λ i lt. (let z : h.base + (p + i - h.base) ≡ p + i = omega (arith, low) in subst (λ x. user x ≡ true) z (heap_user h f (p + i - h.base) (omega (arith, low, high, lt))).0);
      within = omega (arith, high, ends);
      some = some;
    }

-- one that is given
pub given_block : (h : Heap) → HeapFits h → (n : ℕ) (g : Given) → allocates h n ≡ Some g → UserBlock g.at (rounded n)
given_block h f n g e = user_block (record h { blocks = g.blocks }) (allocates_fits h n g e f) g.at (rounded n) (allots_uses (rounded n) h.base (has_spare h) h.blocks g (sizes h.blocks f.sizes) (allocates_by h n g e).1)

pub not_null : (p k : ℕ) → UserBlock p k → p ≡ 0 → ⊥
not_null p k b z = (let some = b.some in let u = b.good 0 (omega (arith, some)) in let e : 0 ≡ p + 0 = omega (arith, z) in absurd (false≢true (sym (user_0 0 (omega arith)) ∙ ap user e ∙ u)))

-- n of its bytes, to go over
pub block_span : (p k n : ℕ) → UserBlock p k → n ≤ k → Span p n ((p + n) % 2 ^ 32) 0
block_span p k n b le =
    let w = b.within in
    let e : (p + n) % 2 ^ 32 ≡ p + n = omega (arith, w, le) in
    record {
      good = λ x low lt. (let z : p + (x - p) ≡ x = omega (arith, low) in subst (λ y. user y ≡ true) z (b.good (x - p) (omega (arith, low, lt, e, le))));
      within = omega (arith, e, w, le);
      low = omega (arith, e);
      high = omega (arith, e);
      all = λ z. e;
      some = λ ne. absurd (ne refl);
    }
