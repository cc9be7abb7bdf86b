-- The heap's linked table: lists without an entry and with it.
use Rattle.std.proofs.Common.{◌≡◌, ℕ, zero, suc, ◌+◌, ◌-◌, ◌%◌, ◌<◌, ◌≤◌, Bool, true, false, cond, List, [], ◌∷◌, ◌++◌, length, refl, sym, ap, ◌∙◌, subst, arith, inl, inr, ⊎_elim}
use Rattle.std.specs.Prelude.{◌⊎◌}
use Rattle.std.proofs.lemmas.List.{length-append}
use Rattle.std.proofs.lemmas.Bool.{cases_lt}
use Rattle.psx_base.specs.KernelState.{Heap}
use Rattle.kern_layout.specs.Fields.{Block}
use Rattle.kern_layout.specs.HeapTable.{IsEntry, entry_fields, Linked, Spare, HeapAt, cell_at}
use Rattle.kern_layout.proofs.ReadingsKept.{entry_place}

abbrev pub Blocks : Type 0
Blocks = List (ℕ × Bool)

-- ---- a word begins one list

flag_one : (a b : Bool) → ◌≡◌ {A = ℕ} (cond a 1 0) (cond b 1 0) → a ≡ b
flag_one true true e = refl
flag_one true false e = absurd (let f : ◌≡◌ {A = ℕ} 1 0 = e in omega arith)
flag_one false true e = absurd (let f : ◌≡◌ {A = ℕ} 0 1 = e in omega arith)
flag_one false false e = refl

entry_not_0 : (e : ℕ) → IsEntry e → e ≡ 0 → ⊥
entry_not_0 e h z = let p = entry_place e h in omega (arith, p.0)

pub linked_one : (w : ℕ → ℕ) (cell : ℕ) (xs ys : Blocks) → Linked w cell xs → Linked w cell ys → xs ≡ ys
linked_one w cell [] [] h k = refl
linked_one w cell [] (y ∷ ys) h k = absurd (entry_not_0 (w cell) k.0 h)
linked_one w cell (x ∷ xs) [] h k = absurd (entry_not_0 (w cell) h.0 k)
linked_one w cell (x ∷ xs) (y ∷ ys) h k =
    let size : x.0 ≡ y.0 = sym h.1.0 ∙ k.1.0 in
    let used : x.1 ≡ y.1 = flag_one x.1 y.1 (sym h.1.1.0 ∙ k.1.1.0) in
    let rest : xs ≡ ys = linked_one w (w cell) xs ys h.2 k.2 in
    λ i. (size i, used i) ∷ rest i

pub linked_length : (w : ℕ → ℕ) (c d : ℕ) (xs ys : Blocks) → c ≡ d → Linked w c xs → Linked w d ys → length xs ≡ length ys
linked_length w c d xs ys e h k = ap length (linked_one w c xs ys h (subst (λ z. Linked w z ys) (sym e) k))

pub spare_one : (w : ℕ → ℕ) (c d n m : ℕ) → c ≡ d → Spare w c n → Spare w d m → n ≡ m
spare_one w c d zero zero e h k = refl
spare_one w c d zero (suc m) e h k = absurd (entry_not_0 (w d) k.0 (ap w (sym e) ∙ h))
spare_one w c d (suc n) zero e h k = absurd (entry_not_0 (w c) h.0 (ap w e ∙ k))
spare_one w c d (suc n) (suc m) e h k = ap suc (spare_one w (w c) (w d) n m (ap w e) h.2 k.2)

-- ---- parts of a list

pub linked_behind : (w : ℕ → ℕ) (cell : ℕ) (xs zs : Blocks) → Linked w cell (xs ++ zs) → Linked w (cell_at w cell (length xs)) zs
linked_behind w cell [] zs h = h
linked_behind w cell (x ∷ xs) zs h = linked_behind w (w cell) xs zs h.2

pub cell_next : (w : ℕ → ℕ) (cell n : ℕ) → cell_at w cell (suc n) ≡ w (cell_at w cell n)
cell_next w cell zero = refl
cell_next w cell (suc n) = cell_next w (w cell) n

-- the first n entries from a word on aren't this one
abbrev pub Avoids : (ℕ → ℕ) → ℕ → ℕ → ℕ → Type 0
Avoids w cell zero e = Unit {0}
Avoids w cell (suc n) e = (w cell ≡ e → ⊥) × Avoids w (w cell) n e

avoids_longer : (w : ℕ → ℕ) (p e : ℕ) (ys zs : Blocks) → Linked w p ys → Linked w e zs → length ys ≤ length zs → Avoids w p (length ys) e
avoids_longer w p e [] zs h k le = tt
avoids_longer w p e (y ∷ ys) zs h k le = ((λ q. let l : length ys ≡ length zs = linked_length w (w p) e ys zs q h.2 k in omega arith), avoids_longer w (w p) e ys zs h.2 k (omega arith))

avoids_shorter : (w : ℕ → ℕ) (c e : ℕ) (xs zs ys : Blocks) → Linked w c (xs ++ zs) → Linked w e ys → length ys < length zs → Avoids w c (length xs) e
avoids_shorter w c e [] zs ys h k lt = tt
avoids_shorter w c e (x ∷ xs) zs ys h k lt = ((λ q. let l : length (xs ++ zs) ≡ length ys = linked_length w (w c) e (xs ++ zs) ys q h.2 k in omega (arith, l, length-append xs zs, lt)), avoids_shorter w (w c) e xs zs ys h.2 k lt)

-- sizes that aren't 0
abbrev pub Sized : Blocks → Type 0
Sized [] = Unit {0}
Sized (b ∷ bs) = (b.0 ≡ 0 → ⊥) × Sized bs

sized_behind : (xs zs : Blocks) → Sized (xs ++ zs) → Sized zs
sized_behind [] zs h = h
sized_behind (x ∷ xs) zs h = sized_behind xs zs h.1

avoids_sized : (w : ℕ → ℕ) (c e : ℕ) (xs zs : Blocks) → Linked w c (xs ++ zs) → Sized (xs ++ zs) → w (e + 4) ≡ 0 → Avoids w c (length xs) e
avoids_sized w c e [] zs h s z = tt
avoids_sized w c e (x ∷ xs) zs h s z = ((λ q. s.0 (sym h.1.0 ∙ ap (λ k. w (k + 4)) q ∙ z)), avoids_sized w (w c) e xs zs h.2 s.1 z)

avoids_all : (w : ℕ → ℕ) (c e : ℕ) (xs : Blocks) → Linked w c xs → Sized xs → w (e + 4) ≡ 0 → Avoids w c (length xs) e
avoids_all w c e [] h s z = tt
avoids_all w c e (x ∷ xs) h s z = ((λ q. s.0 (sym h.1.0 ∙ ap (λ k. w (k + 4)) q ∙ z)), avoids_all w (w c) e xs h.2 s.1 z)

-- what isn't a spare entry
abbrev pub IsNotSpare : (ℕ → ℕ) → ℕ → Type 0
IsNotSpare w d = IsEntry d → w (d + 4) ≡ 0 → ⊥

cell_not_spare : (w : ℕ → ℕ) (cell : ℕ) (xs zs : Blocks) → Linked w cell (xs ++ zs) → Sized (xs ++ zs) → IsNotSpare w cell → IsNotSpare w (cell_at w cell (length xs))
cell_not_spare w cell [] zs h s n = n
cell_not_spare w cell (x ∷ xs) zs h s n = cell_not_spare w (w cell) xs zs h.2 s.1 (λ i z. s.0 (sym h.1.0 ∙ z))

spare_avoids_used : (w : ℕ → ℕ) (p d n : ℕ) → Spare w p n → IsNotSpare w d → Avoids w p n d
spare_avoids_used w p d zero h u = tt
spare_avoids_used w p d (suc n) h u = ((λ q. u (subst IsEntry q h.0) (ap (λ k. w (k + 4)) (sym q) ∙ h.1)), spare_avoids_used w (w p) d n h.2 u)

spare_avoids_longer : (w : ℕ → ℕ) (p e n m : ℕ) → Spare w p n → Spare w e m → n ≤ m → Avoids w p n e
spare_avoids_longer w p e zero m h k le = tt
spare_avoids_longer w p e (suc n) m h k le = ((λ q. let l : n ≡ m = spare_one w (w p) e n m q h.2 k in omega arith), spare_avoids_longer w (w p) e n m h.2 k (omega arith))

-- a cell is the first one or an entry
pub cell_place : (w : ℕ → ℕ) (cell : ℕ) (xs zs : Blocks) → Linked w cell (xs ++ zs) → (cell_at w cell (length xs) ≡ cell) ⊎ IsEntry (cell_at w cell (length xs))
cell_place w cell [] zs h = inl refl
cell_place w cell (x ∷ xs) zs h = inr (⊎_elim (λ e. subst IsEntry (sym e) h.0) (λ i. i) (cell_place w (w cell) xs zs h.2))

-- ---- the words of an entry e and the next word of d are written

module _ (w x : ℕ → ℕ) (d e : ℕ) (K : (f : ℕ) → IsEntry f → (f ≡ e → ⊥) → (x (f + 4) ≡ w (f + 4)) × (x (f + 8) ≡ w (f + 8)) × ((f ≡ d → ⊥) → x f ≡ w f)) where
  -- up to d the list stays, and goes on there as it does now
  before : (c : ℕ) (xs zs ys : Blocks) → d ≡ cell_at w c (length xs) → Linked w c (xs ++ zs) → Linked w d zs → Avoids w c (length xs) e → ((c ≡ d → ⊥) → x c ≡ w c) → Linked x d ys → Linked x c (xs ++ ys)
  before c [] zs ys de h k av same new = subst (λ z. Linked x z ys) de new
  before c (b ∷ xs) zs ys de h k av same new =
      let ne : c ≡ d → ⊥ = λ q. differs q in
      let t = K (w c) h.0 av.0 in
      subst (λ z. IsEntry z × Block x z (entry_fields b) × Linked x z (xs ++ ys)) (sym (same ne))
      (h.0, (t.0 ∙ h.1.0, (t.1 ∙ h.1.1.0, tt)), before (w c) xs zs ys de h.2 k av.1 t.2 new)
    where
      differs : c ≡ d → ⊥
      differs q = let l : suc (length (xs ++ zs)) ≡ length zs = linked_length w c d (b ∷ (xs ++ zs)) zs q h k in omega (arith, l, length-append xs zs)

  -- a list that has neither stays, wherever it is named from
  behind : (p q : ℕ) (ys : Blocks) → x q ≡ w p → Linked w p ys → Avoids w p (length ys) e → Avoids w p (length ys) d → Linked x q ys
  behind p q [] same h ae ad = same ∙ h
  behind p q (b ∷ ys) same h ae ad =
      let t = K (w p) h.0 ae.0 in
      subst (λ z. IsEntry z × Block x z (entry_fields b) × Linked x z ys) (sym same)
      (h.0, (t.0 ∙ h.1.0, (t.1 ∙ h.1.1.0, tt)), behind (w p) (w p) ys (t.2 ad.0) h.2 ae.1 ad.1)

  spare_behind : (p q n : ℕ) → x q ≡ w p → Spare w p n → Avoids w p n e → Avoids w p n d → Spare x q n
  spare_behind p q zero same h ae ad = same ∙ h
  spare_behind p q (suc n) same h ae ad =
      let t = K (w p) h.0 ae.0 in
      subst (λ z. IsEntry z × (x (z + 4) ≡ 0) × Spare x z n) (sym same)
      (h.0, t.0 ∙ h.1, spare_behind (w p) (w p) n (t.2 ad.0) h.2 ae.1 ad.1)

-- ---- the table whole

-- the words from the table to its first variable are the same but for those of an entry and a cell
abbrev pub LinkKept : (w x : ℕ → ℕ) (d e : ℕ) → Type 0
LinkKept w x d e = (a : ℕ) → a % 4 ≡ 0 → 0xD000 ≤ a → a < 0xEA44 → (a ≡ d → ⊥) → (a < e) ⊎ (e + 12 ≤ a) → x a ≡ w a

-- the words of an entry lie apart from another entry
entries_apart : (f e : ℕ) → IsEntry f → IsEntry e → (f ≡ e → ⊥) → (o : ℕ) → o < 12 → (f + o < e) ⊎ (e + 12 ≤ f + o)
entries_apart f e i j ne o lt = ⊎_elim (λ l. inl (omega (arith, i.2, j.2, l))) (λ g. inr (omega (arith, i.2, j.2, g, ne))) (cases_lt i.0 j.0)

others : (w x : ℕ → ℕ) (d e : ℕ) → IsEntry e → (d ≡ 0xEA40) ⊎ IsEntry d → LinkKept w x d e → (f : ℕ) → IsEntry f → (f ≡ e → ⊥) → (x (f + 4) ≡ w (f + 4)) × (x (f + 8) ≡ w (f + 8)) × ((f ≡ d → ⊥) → x f ≡ w f)
others w x d e ie id kept f if ne =
    let at = entry_place f if in (
      kept (f + 4) (omega (arith, at.2)) (omega (arith, at.0)) (omega (arith, at.1)) (λ q. off 4 (omega arith) (omega arith) q) (out 4 (omega arith)),
      kept (f + 8) (omega (arith, at.2)) (omega (arith, at.0)) (omega (arith, at.1)) (λ q. off 8 (omega arith) (omega arith) q) (out 8 (omega arith)),
      λ nd. kept f at.2 at.0 (omega (arith, at.1)) nd (⊎_elim (λ l. inl (omega (arith, l))) (λ g. inr (omega (arith, g))) (entries_apart f e if ie ne 0 (omega arith))),
    )
  where
    out : (o : ℕ) → o < 12 → (f + o < e) ⊎ (e + 12 ≤ f + o)
    out o lt = entries_apart f e if ie ne o lt

    off : (o : ℕ) → 0 < o → o < 12 → f + o ≡ d → ⊥
    off o pos lt q = ⊎_elim (λ v. omega (arith, v, q, if.1, if.2)) (λ n. omega (arith, n.1, n.2, q, if.2)) id

-- the sizes are above 0, and so the table's first variable isn't a spare entry
first_not_spare : (w : ℕ → ℕ) → IsNotSpare w 0xEA40
first_not_spare w i z = omega (arith, i.1, i.2)

less : (h : Blocks) (xs ys : Blocks) (y z : ℕ × Bool) → h ≡ xs ++ y ∷ ys → 512 - length h ≡ 512 - length (xs ++ z ∷ ys)
less h xs ys y z is = omega (arith, ap length is, length-append xs (y ∷ ys), length-append xs (z ∷ ys))

-- a block's entry is written, but for its link
pub heap_entry : (w x : ℕ → ℕ) (h : Heap) (xs ys : Blocks) (y z : ℕ × Bool) (d e : ℕ) → h.blocks ≡ xs ++ y ∷ ys → Sized h.blocks → d ≡ cell_at w 0xEA40 (length xs) → e ≡ w d → x e ≡ w e → Block x e (entry_fields z) → ((a : ℕ) → a % 4 ≡ 0 → 0xD000 ≤ a → a < 0xEA48 → (a < e) ⊎ (e + 12 ≤ a) → x a ≡ w a) → HeapAt w h → HeapAt x record h { blocks = xs ++ z ∷ ys }
heap_entry w x h xs ys y z d e is sized de ee same new kept old =
    let all : Linked w 0xEA40 (xs ++ y ∷ ys) = subst (λ bs. Linked w 0xEA40 bs) is old.blocks in
    let k : Linked w d (y ∷ ys) = subst (λ q. Linked w q (y ∷ ys)) (sym de) (linked_behind w 0xEA40 xs (y ∷ ys) all) in
    let ie : IsEntry e = subst IsEntry (sym ee) k.0 in
    let more : Linked w e ys = subst (λ q. Linked w q ys) (sym ee) k.2 in
    let at = entry_place e ie in
    let id : (d ≡ 0xEA40) ⊎ IsEntry d = subst (λ q. (q ≡ 0xEA40) ⊎ IsEntry q) (sym de) (cell_place w 0xEA40 xs (y ∷ ys) all) in
    let ne : d ≡ e → ⊥ = λ q. let l : suc (length ys) ≡ length ys = linked_length w d e (y ∷ ys) ys q k more in omega (arith, l) in
    let K = others w x d e ie id (λ a m lo up nd out. kept a m lo (omega (arith, up)) out) in
    let xd : x d ≡ w d = ⊎_elim
    (λ v. kept d (omega (arith, v)) (omega (arith, v)) (omega (arith, v)) (inr (omega (arith, v, at.1))))
    (λ i. let p = entry_place d i in kept d p.2 p.0 (omega (arith, p.1)) (⊎_elim (λ l. inl (omega (arith, l))) (λ g. inr (omega (arith, g))) (entries_apart d e i ie ne 0 (omega arith)))) id in
    let used : IsNotSpare w e = λ i q. (sized_behind xs (y ∷ ys) (subst Sized is sized)).0 (sym k.1.0 ∙ ap (λ c. w (c + 4)) (sym ee) ∙ q) in
    let free : IsNotSpare w d = subst (λ q. IsNotSpare w q) (sym de) (cell_not_spare w 0xEA40 xs (y ∷ ys) all (subst Sized is sized) (first_not_spare w)) in
    record {
      blocks = before w x d e K 0xEA40 xs (y ∷ ys) (z ∷ ys) de all k (avoids_shorter w 0xEA40 e xs (y ∷ ys) ys all more (omega arith)) (λ nd. kept 0xEA40 refl (omega arith) (omega arith) (inr (omega (arith, at.1))))
          (subst (λ q. IsEntry q × Block x q (entry_fields z) × Linked x q ys) (ee ∙ sym xd)
          (ie, new, behind w x d e K e e ys same more (avoids_longer w e e ys ys more more (omega arith)) (avoids_longer w e d ys (y ∷ ys) more k (omega arith))));
      spare = subst (λ n. Spare x 0xEA44 n) (less h.blocks xs ys y z is)
          (spare_behind w x d e K 0xEA44 0xEA44 (512 - length h.blocks) (kept 0xEA44 refl (omega arith) (omega arith) (inr (omega (arith, at.1)))) old.spare (spare_avoids_used w 0xEA44 e (512 - length h.blocks) old.spare used) (spare_avoids_used w 0xEA44 d (512 - length h.blocks) old.spare free));
    }

-- a block is taken out: its link goes where it was named, and its entry, with the size 0, before the spare ones
pub heap_unlinked : (w x : ℕ → ℕ) (h : Heap) (xs ys : Blocks) (y : ℕ × Bool) (d e : ℕ) → h.blocks ≡ xs ++ y ∷ ys → length h.blocks ≤ 512 → Sized h.blocks → d ≡ cell_at w 0xEA40 (length xs) → e ≡ w d → x d ≡ w e → x e ≡ w 0xEA44 → x (e + 4) ≡ 0 → x 0xEA44 ≡ e → LinkKept w x d e → HeapAt w h → HeapAt x record h { blocks = xs ++ ys }
heap_unlinked w x h xs ys y d e is few sized de ee link spare zeroed first kept old =
    let all : Linked w 0xEA40 (xs ++ y ∷ ys) = subst (λ bs. Linked w 0xEA40 bs) is old.blocks in
    let k : Linked w d (y ∷ ys) = subst (λ q. Linked w q (y ∷ ys)) (sym de) (linked_behind w 0xEA40 xs (y ∷ ys) all) in
    let ie : IsEntry e = subst IsEntry (sym ee) k.0 in
    let more : Linked w e ys = subst (λ q. Linked w q ys) (sym ee) k.2 in
    let at = entry_place e ie in
    let id : (d ≡ 0xEA40) ⊎ IsEntry d = subst (λ q. (q ≡ 0xEA40) ⊎ IsEntry q) (sym de) (cell_place w 0xEA40 xs (y ∷ ys) all) in
    let K = others w x d e ie id kept in
    let used : IsNotSpare w e = λ i q. (sized_behind xs (y ∷ ys) (subst Sized is sized)).0 (sym k.1.0 ∙ ap (λ c. w (c + 4)) (sym ee) ∙ q) in
    let free : IsNotSpare w d = subst (λ q. IsNotSpare w q) (sym de) (cell_not_spare w 0xEA40 xs (y ∷ ys) all (subst Sized is sized) (first_not_spare w)) in
    let one_more : suc (512 - length h.blocks) ≡ 512 - length (xs ++ ys) = omega (arith, few, ap length is, length-append xs (y ∷ ys), length-append xs ys) in
    record {
      blocks = before w x d e K 0xEA40 xs (y ∷ ys) ys de all k (avoids_shorter w 0xEA40 e xs (y ∷ ys) ys all more (omega arith)) (λ nd. kept 0xEA40 refl (omega arith) (omega arith) (λ q. nd q) (inr (omega (arith, at.1))))
          (behind w x d e K e d ys link more (avoids_longer w e e ys ys more more (omega arith)) (avoids_longer w e d ys (y ∷ ys) more k (omega arith)));
      spare = subst (λ n. Spare x 0xEA44 n) one_more
          (subst (λ q. IsEntry q × (x (q + 4) ≡ 0) × Spare x q (512 - length h.blocks)) (sym first)
          (ie, zeroed, spare_behind w x d e K 0xEA44 e (512 - length h.blocks) spare old.spare (spare_avoids_used w 0xEA44 e (512 - length h.blocks) old.spare used) (spare_avoids_used w 0xEA44 d (512 - length h.blocks) old.spare free)));
    }

-- a block is put in: the first spare entry is written, and named where the rest was
pub heap_linked : (w x : ℕ → ℕ) (h : Heap) (xs ys : Blocks) (z : ℕ × Bool) (d e : ℕ) → h.blocks ≡ xs ++ ys → length h.blocks < 512 → Sized h.blocks → d ≡ cell_at w 0xEA40 (length xs) → e ≡ w 0xEA44 → x 0xEA44 ≡ w e → x d ≡ e → x e ≡ w d → Block x e (entry_fields z) → LinkKept w x d e → HeapAt w h → HeapAt x record h { blocks = xs ++ z ∷ ys }
heap_linked w x h xs ys z d e is few sized de ee first link next new kept old =
    let n = 511 - length h.blocks in
    let all : Linked w 0xEA40 (xs ++ ys) = subst (λ bs. Linked w 0xEA40 bs) is old.blocks in
    let k : Linked w d ys = subst (λ q. Linked w q ys) (sym de) (linked_behind w 0xEA40 xs ys all) in
    let positive : Sized (xs ++ ys) = subst Sized is sized in
    let count : 512 - length h.blocks ≡ suc n = omega (arith, few) in
    let s : Spare w 0xEA44 (suc n) = subst (λ c. Spare w 0xEA44 c) count old.spare in
    let ie : IsEntry e = subst IsEntry (sym ee) s.0 in
    let zeroed : w (e + 4) ≡ 0 = subst (λ q. w (q + 4) ≡ 0) (sym ee) s.1 in
    let more : Spare w e n = subst (λ q. Spare w q n) (sym ee) s.2 in
    let at = entry_place e ie in
    let id : (d ≡ 0xEA40) ⊎ IsEntry d = subst (λ q. (q ≡ 0xEA40) ⊎ IsEntry q) (sym de) (cell_place w 0xEA40 xs ys all) in
    let K = others w x d e ie id kept in
    let free : IsNotSpare w d = subst (λ q. IsNotSpare w q) (sym de) (cell_not_spare w 0xEA40 xs ys all positive (first_not_spare w)) in
    let left : n ≡ 512 - length (xs ++ z ∷ ys) = omega (arith, few, ap length is, length-append xs ys, length-append xs (z ∷ ys)) in
    record {
      blocks = before w x d e K 0xEA40 xs ys (z ∷ ys) de all k (avoids_sized w 0xEA40 e xs ys all positive zeroed) (λ nd. kept 0xEA40 refl (omega arith) (omega arith) (λ q. nd q) (inr (omega (arith, at.1))))
          (subst (λ q. IsEntry q × Block x q (entry_fields z) × Linked x q ys) (sym link)
          (ie, new, behind w x d e K d e ys next k (avoids_all w d e ys k (sized_behind xs ys positive) zeroed) (avoids_longer w d d ys ys k k (omega arith))));
      spare = subst (λ c. Spare x 0xEA44 c) left
          (spare_behind w x d e K e 0xEA44 n first more (spare_avoids_longer w e e n n more more (omega arith)) (spare_avoids_used w e d n more free));
    }
