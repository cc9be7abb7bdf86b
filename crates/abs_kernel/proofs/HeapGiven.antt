-- What malloc gives and free takes back, and when malloc answers 0.
use Rattle.std.proofs.Common.{◌≡◌, ◌≢◌, ℕ, suc, ◌+◌, ◌-◌, ◌*◌, ◌%◌, ◌^◌, ◌≤◌, Bool, true, false, [], ◌∷◌, length, ◌⊎◌, inl, inr, ⊎_elim, refl, sym, ap, ◌∙◌, subst, arith}
use Rattle.std.specs.Prelude.{sum_by, find, Option, Some, None, unwrap_or, is_some, nat_eq, nat_le, nat_lt, ◌||◌, if◌then◌else◌}
use Rattle.std.proofs.lemmas.Bool.{false≢true, eqb-true, eqb-false, ne_eqb, ltb-true, ltb-false, le-ltb}
use Rattle.psx_base.specs.Addresses.{user}
use Rattle.psx_base.specs.FirstBad.{first_bad_of}
use Rattle.psx_base.specs.KernelState.{Heap}
use Rattle.kern_layout.specs.Valid.{HeapFits}
use Rattle.abs_kernel.specs.Heap.{Block, Blocks, rounded, Given, fits, splits, behind, allots, has_spare, allocates, used_size, frees_by}
use Rattle.abs_kernel.specs.HeapCalls.{HeapCall, Malloc, Free, Calloc, Realloc, nothing, freed, given, replaced, resized, step, since}
use Rattle.abs_kernel.specs.HeapLaws.{IsUsed, IsUnused, FreedIsUnused, asked_size, GivenIsUsed, ReallocFrees, FreeUndoes, NoneFor, MallocAnswersZero}
use Rattle.abs_kernel.proofs.HeapKept.{total, sum_total, Sized, sized, no_block, allocates_by, allocates_fits}
use Rattle.abs_kernel.proofs.HeapUsed.{no_size, used_inside, used_sized, allots_uses, allots_unused, releases_unused, allots_undone}
use Rattle.abs_kernel.proofs.HeapSteps.{since_fits, freed_keeps}

none_of : (o : Option ℕ) → ((k : ℕ) → o ≡ Some k → ⊥) → o ≡ None
none_of None h = refl
none_of (Some k) h = absurd (h k refl)

-- ---- freed

freed_unused : (at : ℕ) (h : Heap) → Sized h.blocks → IsUnused at (freed at h)
freed_unused at h z = by (used_size at h.base h.blocks) refl
  where
    by : (o : Option ℕ) → used_size at h.base h.blocks ≡ o → used_size at h.base (frees_by at h o) ≡ None
    by None e = e
    by (Some k) e = none_of _ (λ j u. releases_unused at h.base h.blocks j z u)

pub freed_is_unused : FreedIsUnused
freed_is_unused p n cs at set = let h = since p n cs in freed_unused at h (sized h.blocks (since_fits p n cs set).sizes)

-- ---- given

-- the block that is given is used, and wasn't
pub block_used : (h : Heap) (n : ℕ) (g : Given) → Sized h.blocks → allocates h n ≡ Some g → IsUsed g.at (rounded n) (record h { blocks = g.blocks })
block_used h n g z e = allots_uses (rounded n) h.base (has_spare h) h.blocks g z (allocates_by h n g e).1

pub block_unused : (h : Heap) (n : ℕ) (g : Given) → Sized h.blocks → allocates h n ≡ Some g → IsUnused g.at h
block_unused h n g z e = none_of _ (λ k u. allots_unused (rounded n) h.base (has_spare h) h.blocks g k z (allocates_by h n g e).1 u)

given_used : (h : Heap) (n : ℕ) (o : Option Given) → Sized h.blocks → allocates h n ≡ o → (given h o).answer ≢ 0
    → IsUnused (given h o).answer h × IsUsed (given h o).answer (rounded n) (given h o).heap
given_used h n None z e ne = absurd (ne refl)
given_used h n (Some g) z e ne = (block_unused h n g z e, block_used h n g z e)

-- the same where the block at p, that was used, is then freed, and that it is
replaced_used : (p : ℕ) (h : Heap) (n size : ℕ) (o : Option Given) → HeapFits h → IsUsed p size h → allocates h n ≡ o → (replaced p h o).answer ≢ 0
    → IsUnused (replaced p h o).answer h × IsUsed (replaced p h o).answer (rounded n) (replaced p h o).heap × IsUnused p (replaced p h o).heap
replaced_used p h n size None f u e ne = absurd (ne refl)
replaced_used p h n size (Some g) f u e ne =
    let z = sized h.blocks f.sizes in
    let t : Heap = record h { blocks = g.blocks } in
    let other : p ≡ g.at → ⊥ = λ q. no_size (sym (block_unused h n g z e) ∙ subst (λ a. IsUsed a size h) q u) in
    (block_unused h n g z e, freed_keeps p t g.at (rounded n) other (block_used h n g z e), freed_unused p t (sized g.blocks (allocates_fits h n g e f).sizes))

resized_used : (p n : ℕ) (h : Heap) (o : Option ℕ) → HeapFits h → used_size p h.base h.blocks ≡ o → (resized p n h o).answer ≢ 0
    → IsUnused (resized p n h o).answer h × IsUsed (resized p n h o).answer (rounded n) (resized p n h o).heap × IsUnused p (resized p n h o).heap
resized_used p n h None f u ne = absurd (ne refl)
resized_used p n h (Some size) f u ne = replaced_used p h n size (allocates h n) f u refl ne

step_used : (c : HeapCall) (h : Heap) → HeapFits h → (step c h).answer ≢ 0 → IsUnused (step c h).answer h × IsUsed (step c h).answer (rounded (asked_size c)) (step c h).heap
step_used (Malloc n) h f = λ ne. given_used h n (allocates h n) (sized h.blocks f.sizes) refl ne
step_used (Free p) h f = λ ne. absurd (ne refl)
step_used (Calloc a b) h f = by (nat_le (2 ^ 32) (a * b))
  where
    by : (c : Bool) → let t = if c then nothing h else given h (allocates h (a * b)) in t.answer ≢ 0 → IsUnused t.answer h × IsUsed t.answer (rounded (a * b)) t.heap
    by true = λ ne. absurd (ne refl)
    by false = given_used h (a * b) (allocates h (a * b)) (sized h.blocks f.sizes) refl
step_used (Realloc p n) h f = by (nat_eq p 0) (nat_eq n 0)
  where
    by : (c d : Bool) → let t = if c then given h (allocates h n) else if d then record { heap = freed p h; answer = 0 } else resized p n h (used_size p h.base h.blocks) in
        t.answer ≢ 0 → IsUnused t.answer h × IsUsed t.answer (rounded n) t.heap
    by true d = given_used h n (allocates h n) (sized h.blocks f.sizes) refl
    by false true = λ ne. absurd (ne refl)
    by false false = λ ne. let r = resized_used p n h (used_size p h.base h.blocks) f refl ne in (r.0, r.1)

pub given_is_used : GivenIsUsed
given_is_used p n cs c set ne = step_used c (since p n cs) (since_fits p n cs set) ne

old_unused : (p n : ℕ) (h : Heap) → HeapFits h → (step (Realloc p n) h).answer ≢ 0 → p ≢ 0 → IsUnused p (step (Realloc p n) h).heap
old_unused p n h f = by (nat_eq p 0) refl (nat_eq n 0)
  where
    by : (c : Bool) → nat_eq p 0 ≡ c → (d : Bool) → let t = if c then given h (allocates h n) else if d then record { heap = freed p h; answer = 0 } else resized p n h (used_size p h.base h.blocks) in
        t.answer ≢ 0 → p ≢ 0 → IsUnused p t.heap
    by true e d = λ ne some. absurd (some (eqb-true p 0 e))
    by false e true = λ ne some. absurd (ne refl)
    by false e false = λ ne some. (resized_used p n h (used_size p h.base h.blocks) f refl ne).2

pub realloc_frees : ReallocFrees
realloc_frees p n cs q k set ne some = old_unused q k (since p n cs) (since_fits p n cs set) ne some

-- a block of the heap isn't at 0
user_above : (a : ℕ) → user a ≡ true → a ≡ 0 → ⊥
unfolding user
user_above a u e = false≢true (let f : false ≡ true = ap user (sym e) ∙ u in f)

no_found : {A : Type 0} (b : Block) → Some b ≡ None → A
no_found b e = absurd (false≢true (let f : false ≡ true = sym (ap is_some e) in f))

some_block : {a b : Block} → Some a ≡ Some b → a ≡ b
some_block {a} e = ap (λ o. unwrap_or o a) e

first_user : (at n : ℕ) → first_bad_of at (suc n) ≡ None → user at ≡ true
first_user at n = by (user at) (first_bad_of ((at + 1) % 2 ^ 32) n)
  where
    by : (c : Bool) (o : Option ℕ) → (if c then o else Some at) ≡ None → c ≡ true
    by true o h = refl
    by false o h = absurd (false≢true (let f : false ≡ true = sym (ap is_some h) in f))

pub used_above : (h : Heap) (p k : ℕ) → HeapFits h → IsUsed p k h → p ≡ 0 → ⊥
used_above h p k f u e =
    let i = used_inside p h.base h.blocks k u in
    let z = used_sized p h.base h.blocks k f.base (sized h.blocks f.sizes) u in
    let m : ℕ = total h.blocks - 1 in
    let some : sum_by (λ (b : Block). b.0) h.blocks ≡ suc m = sum_total h.blocks ∙ omega (arith, i.0, i.1, z.2) in
    user_above h.base (first_user h.base m (ap (first_bad_of h.base) (sym some) ∙ f.bytes)) (omega (arith, i.0, e))

given_above : (h : Heap) (n : ℕ) (g : Given) → HeapFits h → allocates h n ≡ Some g → g.at ≡ 0 → ⊥
given_above h n g f e = used_above (record h { blocks = g.blocks }) g.at (rounded n) (allocates_fits h n g e f) (block_used h n g (sized h.blocks f.sizes) e)

-- ---- free of what was given

-- at 0 nothing is freed
zero_freed : (h : Heap) → HeapFits h → freed 0 h ≡ h
zero_freed h f = ap (λ o. record h { blocks = frees_by 0 h o }) (none_of (used_size 0 h.base h.blocks) (λ k u. used_above h 0 k f u refl))

given_undone : (h : Heap) (n : ℕ) (o : Option Given) → HeapFits h → allocates h n ≡ o → freed (given h o).answer (given h o).heap ≡ h
given_undone h n None f e = zero_freed h f
given_undone h n (Some g) f e =
    let z = sized h.blocks f.sizes in
    let t : Heap = record h { blocks = g.blocks } in
    ap (λ o. record h { blocks = frees_by g.at t o }) (block_used h n g z e)
    ∙ ap (λ bs. record h { blocks = bs }) (allots_undone (rounded n) h.base (has_spare h) h.blocks g z f.joined (allocates_by h n g e).1)

pub free_undoes : FreeUndoes
free_undoes p n cs k set = let h = since p n cs in given_undone h k (allocates h k) (since_fits p n cs set) refl

-- ---- nothing given

-- no block fits, or the first that does must be split and no entry is spare
abbrev Full : (n : ℕ) (spare : Bool) (bs : Blocks) → Type 0
Full n spare bs = (find (fits n) bs ≡ None) ⊎ ((b : Block) × (find (fits n) bs ≡ Some b) × (b.0 ≢ n) × (spare ≡ false))

found : (n : ℕ) (b : Block) (bs : Blocks) (o : Option Block) (c : Bool) → fits n b ≡ c → (if c then Some b else find (fits n) bs) ≡ o → find (fits n) (b ∷ bs) ≡ o
found n b bs o c e h = ap (λ d. if d then Some b else find (fits n) bs) e ∙ h

allots_none : (n at : ℕ) (spare : Bool) (bs : Blocks) → allots n at spare bs ≡ None → Full n spare bs
allots_none n at spare [] e = inl refl
allots_none n at spare (b ∷ bs) e = by (fits n b) refl (nat_eq b.0 n) refl spare refl (allots n (at + b.0) spare bs) (allots_none n (at + b.0) spare bs) e
  where
    by : (c : Bool) → fits n b ≡ c → (d : Bool) → nat_eq b.0 n ≡ d → (room : Bool) → spare ≡ room → (o : Option Given) → (o ≡ None → Full n spare bs)
        → (if c then (if d then Some (record { at = at; blocks = (n, true) ∷ bs }) else if room then Some (record { at = at; blocks = (n, true) ∷ (b.0 - n, false) ∷ bs }) else None) else behind b o) ≡ None
        → Full n spare (b ∷ bs)
    by true f true q room r o ih e = no_block _ (sym e)
    by true f false q true r o ih e = no_block _ (sym e)
    by true f false q false r o ih e = inr (b, found n b bs (Some b) true f refl, eqb-false b.0 n q, r)
    by false f d q room r None ih e = ⊎_elim (λ x. inl (found n b bs None false f x)) (λ x. inr (x.0, found n b bs (Some x.0) false f x.1, x.2, x.3)) (ih refl)
    by false f d q room r (Some g) ih e = no_block _ (sym e)

none_allots : (n at : ℕ) (spare : Bool) (bs : Blocks) → Full n spare bs → allots n at spare bs ≡ None
none_allots n at spare [] h = refl
none_allots n at spare (b ∷ bs) h = by (fits n b) refl (allots n (at + b.0) spare bs) (none_allots n (at + b.0) spare bs)
  where
    behind_none : (o : Option Given) → o ≡ None → behind b o ≡ None
    behind_none o e = ap (behind b) e

    split : b.0 ≢ n → spare ≡ false → splits n at spare b bs ≡ None
    split ne none = ap (λ d. if d then Some (record { at = at; blocks = (n, true) ∷ bs }) else if spare then Some (record { at = at; blocks = (n, true) ∷ (b.0 - n, false) ∷ bs }) else None) (ne_eqb b.0 n ne)
        ∙ ap (λ room. if room then Some (record { at = at; blocks = (n, true) ∷ (b.0 - n, false) ∷ bs }) else None) none

    by : (c : Bool) → fits n b ≡ c → (o : Option Given) → (Full n spare bs → o ≡ None) → (if c then splits n at spare b bs else behind b o) ≡ None
    by true f o ih = ⊎_elim
        (λ x. no_found b (sym (found n b bs (Some b) true f refl) ∙ x))
        (λ x. let same : b ≡ x.0 = some_block (sym (found n b bs (Some b) true f refl) ∙ x.1) in split (λ q. x.2 (ap (λ (c : Block). c.0) (sym same) ∙ q)) x.3)
        h
    by false f o ih = behind_none o (ih (⊎_elim (λ x. inl (sym (found n b bs _ false f refl) ∙ x)) (λ x. inr (x.0, sym (found n b bs _ false f refl) ∙ x.1, x.2, x.3)) h))

-- ---- malloc answers 0

room_left : (h : Heap) → length h.blocks ≤ 512 → has_spare h ≡ false → length h.blocks ≡ 512
room_left h few e = let ge = ltb-false (length h.blocks) 512 e in omega (arith, ge, few)

no_room : (h : Heap) → length h.blocks ≡ 512 → has_spare h ≡ false
no_room h e = le-ltb (length h.blocks) 512 (omega (arith, e))

none_for : (h : Heap) (n : ℕ) → HeapFits h → allocates h n ≡ None → NoneFor n h
none_for h n f e = by (nat_eq n 0) refl (nat_lt 0xFFFFFFF8 n) refl e
  where
    by : (c : Bool) → nat_eq n 0 ≡ c → (d : Bool) → nat_lt 0xFFFFFFF8 n ≡ d → (if c || d then None else allots (rounded n) h.base (has_spare h) h.blocks) ≡ None → NoneFor n h
    by true q d r e = inl (eqb-true n 0 q)
    by false q true r e = inr (inl (ltb-true 0xFFFFFFF8 n r))
    by false q false r e = inr (inr (⊎_elim inl (λ x. inr (x.0, x.1, x.2, room_left h f.few x.3)) (allots_none (rounded n) h.base (has_spare h) h.blocks e)))

for_none : (h : Heap) (n : ℕ) → NoneFor n h → allocates h n ≡ None
for_none h n w = by (nat_eq n 0) refl (nat_lt 0xFFFFFFF8 n) refl
  where
    by : (c : Bool) → nat_eq n 0 ≡ c → (d : Bool) → nat_lt 0xFFFFFFF8 n ≡ d → (if c || d then None else allots (rounded n) h.base (has_spare h) h.blocks) ≡ None
    by true q d r = refl
    by false q true r = refl
    by false q false r = ⊎_elim
        (λ z. absurd (eqb-false n 0 q z))
        (λ v. ⊎_elim
        (λ big. absurd (let le = ltb-false 0xFFFFFFF8 n r in omega (arith, le, big)))
        (λ u. none_allots (rounded n) h.base (has_spare h) h.blocks (⊎_elim inl (λ x. inr (x.0, x.1, x.2, no_room h x.3)) u))
        v)
        w

answers_none : (h : Heap) (n : ℕ) (o : Option Given) → HeapFits h → allocates h n ≡ o → (given h o).answer ≡ 0 → o ≡ None
answers_none h n None f e z = refl
answers_none h n (Some g) f e z = absurd (given_above h n g f e z)

pub malloc_answers_zero : MallocAnswersZero
malloc_answers_zero p n cs k set =
    let h = since p n cs in
    let f = since_fits p n cs set in
    (λ z. none_for h k f (answers_none h k (allocates h k) f refl z), λ w. ap (λ o. (given h o).answer) (for_none h k w))
