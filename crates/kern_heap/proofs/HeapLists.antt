-- Lists of blocks: their sizes, and what the definitions make of a list whose first blocks are passed over.
use Rattle.std.proofs.Common.{◌≡◌, ℕ, suc, ◌+◌, ◌^◌, ◌<◌, ◌≤◌, Bool, true, false, [], ◌∷◌, ◌++◌, length, inl, inr, refl, sym, ap, ◌∙◌, subst, arith, ⊎_elim, eq-eqb, ne_eqb}
use Rattle.std.specs.Prelude.{◌⊎◌, Option, Some, None, ◌||◌, if◌then◌else◌}
use Rattle.std.proofs.lemmas.List.{length-append}
use Rattle.std.proofs.lemmas.Bool.{false≢true}
use Rattle.psx_base.specs.KernelState.{Heap, KernelState}
use Rattle.kern_layout.specs.Valid.{NoneFreeBoth}
use Rattle.kern_layout.proofs.HeapLinks.{Sized}
use Rattle.abs_kernel.proofs.HeapKept.{total}
use Rattle.abs_kernel.specs.Heap.{Block, Blocks, Given, fits, splits, behind, allots, used_size, joins, releases, frees, frees_by}

-- ---- lists

pub append_one : (xs : Blocks) (b : Block) (ys : Blocks) → xs ++ b ∷ ys ≡ (xs ++ b ∷ []) ++ ys
append_one [] b ys = refl
append_one (x ∷ xs) b ys = ap (λ l. x ∷ l) (append_one xs b ys)

pub length_one : (xs : Blocks) (b : Block) → length (xs ++ b ∷ []) ≡ suc (length xs)
length_one [] b = refl
length_one (x ∷ xs) b = ap suc (length_one xs b)

-- a list is empty or has a last block
abbrev pub Last : Blocks → Type 0
Last xs = (xs ≡ []) ⊎ ((ys : Blocks) × (c : Block) × (xs ≡ ys ++ c ∷ []))

pub last_of : (xs : Blocks) → Last xs
last_of [] = inl refl
last_of (x ∷ xs) = inr (⊎_elim (λ e. ([], x, ap (λ l. x ∷ l) e)) (λ l. (x ∷ l.0, l.1, ap (λ l. x ∷ l) l.2)) (last_of xs))

pub total_append : (xs ys : Blocks) → total (xs ++ ys) ≡ total xs + total ys
total_append [] ys = omega arith
total_append (x ∷ xs) ys = let e = total_append xs ys in omega (arith, e)

-- blocks that the table can hold, as far as the listings need it
pub record Fit (bs : Blocks) : Type 0 where
  pub few : length bs ≤ 512
  pub sized : Sized bs
  pub small : total bs < 2 ^ 32

pub sized_append : (xs ys : Blocks) → Sized xs → Sized ys → Sized (xs ++ ys)
sized_append [] ys h k = k
sized_append (x ∷ xs) ys h k = (h.0, sized_append xs ys h.1 k)

pub sized_before : (xs ys : Blocks) → Sized (xs ++ ys) → Sized xs
sized_before [] ys h = tt
sized_before (x ∷ xs) ys h = (h.0, sized_before xs ys h.1)

pub sized_behind : (xs ys : Blocks) → Sized (xs ++ ys) → Sized ys
sized_behind [] ys h = h
sized_behind (x ∷ xs) ys h = sized_behind xs ys h.1

pub sized_other : (xs : Blocks) (y z : Block) (ys : Blocks) → (z.0 ≡ 0 → ⊥) → Sized (xs ++ y ∷ ys) → Sized (xs ++ z ∷ ys)
sized_other [] y z ys ne h = (ne, h.1)
sized_other (x ∷ xs) y z ys ne h = (h.0, sized_other xs y z ys ne h.1)

-- a block of them has a size
pub some_block : (s : KernelState) (xs : Blocks) (a : ℕ) (u : Bool) (ys : Blocks) → Fit s.heap.blocks → s.heap.blocks ≡ xs ++ (a, u) ∷ ys → 0 < a
some_block s xs a u ys f is = let ne = (sized_behind xs ((a, u) ∷ ys) (subst Sized is f.sized)).0 in omega (arith, ne)

-- another list behind the same blocks
pub fit_behind : (xs ys zs : Blocks) → Fit (xs ++ ys) → length zs ≤ length ys → total zs ≡ total ys → Sized zs → Fit (xs ++ zs)
fit_behind xs ys zs f few same sized =
    let l = length-append xs ys in
    let k = length-append xs zs in
    let t = total_append xs ys in
    let u = total_append xs zs in
    let n = f.few in
    let w = f.small in
    record { few = omega (arith, l, k, n, few); sized = sized_append xs zs (sized_before xs ys f.sized) sized; small = omega (arith, t, u, w, same) }

-- ---- a block joined with the first one behind it

pub record Joined (b : Block) (bs : Blocks) : Type 0 where
  pub few : length (joins b bs) ≤ suc (length bs)
  pub same : total (joins b bs) ≡ b.0 + total bs
  pub sized : Sized (b ∷ bs) → Sized (joins b bs)

joined_by : (b c : Block) (cs : Blocks) (t : Bool) → let l : Blocks = if t then b ∷ c ∷ cs else (b.0 + c.0, false) ∷ cs in (length l ≤ suc (suc (length cs))) × (total l ≡ b.0 + (c.0 + total cs)) × (Sized (b ∷ c ∷ cs) → Sized l)
joined_by b c cs true = (omega arith, refl, λ h. h)
joined_by b c cs false = (omega arith, omega arith, λ h. ((λ z. h.0 (omega (arith, z))), h.1.1))

pub joined : (b : Block) (bs : Blocks) → Joined b bs
joined b [] = record { few = omega arith; same = refl; sized = λ h. h }
joined b (c ∷ cs) = let p = joined_by b c cs (b.1 || c.1) in record { few = p.0; same = p.1; sized = p.2 }

pub fit_joined : (xs : Blocks) (b : Block) (bs : Blocks) → Fit (xs ++ b ∷ bs) → Fit (xs ++ joins b bs)
fit_joined xs b bs f = let j = joined b bs in fit_behind xs (b ∷ bs) (joins b bs) f j.few j.same (j.sized (sized_behind xs (b ∷ bs) f.sized))

pub joins_used : (b : Block) (bs : Blocks) → b.1 ≡ true → joins b bs ≡ b ∷ bs
joins_used b [] e = refl
joins_used b (c ∷ cs) e = ap (λ t. if t || c.1 then b ∷ c ∷ cs else (b.0 + c.0, false) ∷ cs) e

-- ---- what `used_size` and `releases` make of blocks that are passed over

pub used_on : (p at : ℕ) (b : Block) (bs : Blocks) → (at ≡ p → ⊥) → used_size p at (b ∷ bs) ≡ used_size p (at + b.0) bs
used_on p at b bs ne = ap (λ t. if t then (if b.1 then Some b.0 else None) else used_size p (at + b.0) bs) (ne_eqb at p ne)

pub used_here : (p at : ℕ) (b : Block) (bs : Blocks) → at ≡ p → used_size p at (b ∷ bs) ≡ (if b.1 then Some b.0 else None)
used_here p at b bs e = ap (λ t. if t then (if b.1 then Some b.0 else None) else used_size p (at + b.0) bs) (eq-eqb at p e)

-- blocks joined one by one, from the last on, with what is behind them
abbrev pub folded : Blocks → Blocks → Blocks
folded [] zs = zs
folded (x ∷ xs) zs = joins x (folded xs zs)

pub released : (p at : ℕ) (xs : Blocks) (b : Block) (ys : Blocks) → Sized xs → p ≡ at + total xs → releases p at (xs ++ b ∷ ys) ≡ folded xs (joins (b.0, false) ys)
released p at [] b ys s e = ap (λ t. if t then joins (b.0, false) ys else joins b (releases p (at + b.0) ys)) (eq-eqb at p (omega (arith, e)))
released p at (x ∷ xs) b ys s e =
    ap (λ t. if t then joins (x.0, false) (xs ++ b ∷ ys) else joins x (releases p (at + x.0) (xs ++ b ∷ ys))) (ne_eqb at p (λ q. s.0 (omega (arith, e, q))))
    ∙ ap (joins x) (released p (at + x.0) xs b ys s.1 (omega (arith, e)))

pub folded_last : (xs : Blocks) (c : Block) (zs : Blocks) → folded (xs ++ c ∷ []) zs ≡ folded xs (joins c zs)
folded_last [] c zs = refl
folded_last (x ∷ xs) c zs = ap (joins x) (folded_last xs c zs)

one_used : (x y : Bool) → (x ≡ true) ⊎ (y ≡ true) → (x || y) ≡ true
one_used true y h = refl
one_used false y (inl h) = absurd (false≢true h)
one_used false y (inr h) = h

-- no two neighbours are free: none is joined
pub folded_same : (xs : Blocks) (c d : Block) (bs ds : Blocks) → d.1 ≡ c.1 → NoneFreeBoth (xs ++ c ∷ bs) → folded xs (d ∷ ds) ≡ xs ++ d ∷ ds
folded_same [] c d bs ds e h = refl
folded_same (x ∷ []) c d bs ds e h = ap (λ t. if t then x ∷ d ∷ ds else (x.0 + d.0, false) ∷ ds) (one_used x.1 d.1 (⊎_elim (λ l. inl l) (λ r. inr (e ∙ r)) h.0))
folded_same (x ∷ y ∷ xs) c d bs ds e h =
    ap (joins x) (folded_same (y ∷ xs) c d bs ds e h.1) ∙ ap (λ t. if t then x ∷ y ∷ (xs ++ d ∷ ds) else (x.0 + y.0, false) ∷ (xs ++ d ∷ ds)) (one_used x.1 y.1 h.0)

-- the first of joined blocks is used as it was
pub record Headed (b : Block) (bs : Blocks) : Type 0 where
  pub first : Block
  pub rest : Blocks
  pub is : joins b bs ≡ first ∷ rest
  pub same : first.1 ≡ b.1

headed_by : (b c : Block) (cs : Blocks) (t : Bool) → (b.1 || c.1) ≡ t → Headed b (c ∷ cs)
headed_by b c cs true e = record { first = b; rest = c ∷ cs; is = ap (λ t. if t then b ∷ c ∷ cs else (b.0 + c.0, false) ∷ cs) e; same = refl }
headed_by b c cs false e = record { first = (b.0 + c.0, false); rest = cs; is = ap (λ t. if t then b ∷ c ∷ cs else (b.0 + c.0, false) ∷ cs) e; same = sym (not_used b.1 c.1 e) }
  where
    not_used : (x y : Bool) → (x || y) ≡ false → x ≡ false
    not_used true y h = h
    not_used false y h = refl

pub headed : (b : Block) (bs : Blocks) → Headed b bs
headed b [] = record { first = b; rest = []; is = refl; same = refl }
headed b (c ∷ cs) = headed_by b c cs (b.1 || c.1) refl

-- a block is freed that is the first, or that stands behind another one
pub frees_first : (p : ℕ) (h : Heap) (b : Block) (ys : Blocks) → h.blocks ≡ b ∷ ys → p ≡ h.base → used_size p h.base h.blocks ≡ Some b.0 → frees p h ≡ joins (b.0, false) ys
frees_first p h b ys is e size = ap (frees_by p h) size ∙ ap (releases p h.base) is ∙ released p h.base [] b ys tt (omega (arith, e))

pub frees_behind : (p : ℕ) (h : Heap) (xs : Blocks) (c b : Block) (ys : Blocks) → h.blocks ≡ xs ++ c ∷ b ∷ ys → Sized h.blocks → NoneFreeBoth h.blocks → p ≡ h.base + (total xs + c.0) → used_size p h.base h.blocks ≡ Some b.0
    → frees p h ≡ xs ++ joins c (joins (b.0, false) ys)
frees_behind p h xs c b ys is sized none e size =
    let zs : Blocks = joins (b.0, false) ys in
    let g = headed c zs in
    let us : Blocks = xs ++ c ∷ [] in
    let t = total_append xs (c ∷ []) in
    let assoc : xs ++ c ∷ b ∷ ys ≡ us ++ b ∷ ys = append_one xs c (b ∷ ys) in
    let s : Sized us = sized_before us (b ∷ ys) (subst Sized (is ∙ assoc) sized) in
    ap (frees_by p h) size ∙ ap (releases p h.base) (is ∙ assoc) ∙ released p h.base us b ys s (omega (arith, e, t)) ∙ folded_last xs c zs
    ∙ ap (folded xs) g.is ∙ folded_same xs c g.first (b ∷ ys) g.rest g.same (subst NoneFreeBoth is none) ∙ ap (λ l. xs ++ l) (sym g.is)

-- ---- what `allots` makes of them

abbrev pub behind_all : Blocks → Option Given → Option Given
behind_all [] o = o
behind_all (x ∷ xs) o = behind x (behind_all xs o)

pub behind_last : (xs : Blocks) (b : Block) (o : Option Given) → behind_all xs (behind b o) ≡ behind_all (xs ++ b ∷ []) o
behind_last [] b o = refl
behind_last (x ∷ xs) b o = ap (behind x) (behind_last xs b o)

pub behind_none : (xs : Blocks) → behind_all xs None ≡ None
behind_none [] = refl
behind_none (x ∷ xs) = ap (behind x) (behind_none xs)

pub behind_some : (xs : Blocks) (g : Given) → behind_all xs (Some g) ≡ Some (record g { blocks = xs ++ g.blocks })
behind_some [] g = refl
behind_some (x ∷ xs) g = ap (behind x) (behind_some xs g)

pub allots_on : (n at : ℕ) (spare : Bool) (b : Block) (bs : Blocks) → fits n b ≡ false → allots n at spare (b ∷ bs) ≡ behind b (allots n (at + b.0) spare bs)
allots_on n at spare b bs e = ap (λ t. if t then splits n at spare b bs else behind b (allots n (at + b.0) spare bs)) e

pub allots_here : (n at : ℕ) (spare : Bool) (b : Block) (bs : Blocks) → fits n b ≡ true → allots n at spare (b ∷ bs) ≡ splits n at spare b bs
allots_here n at spare b bs e = ap (λ t. if t then splits n at spare b bs else behind b (allots n (at + b.0) spare bs)) e
