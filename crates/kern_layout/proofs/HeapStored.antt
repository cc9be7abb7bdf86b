-- The state after stores in the heap's table, and in the line.
use Rattle.std.proofs.Common.{◌≡◌, ℕ, suc, ◌+◌, ◌-◌, ◌<◌, ◌≤◌, Bool, List, [], ◌∷◌, ◌++◌, length, refl, sym, ap, ◌∙◌, subst, arith, inl, inr, ⊎_elim, get_or-set_same, get_or-set_other}
use Rattle.std.specs.Prelude.{◌⊎◌, All, slice_index, slice_set}
use Rattle.std.proofs.lemmas.List.{length-set}
use Rattle.std.proofs.lemmas.Bool.{cases_eq}
use Rattle.psx_base.specs.KernelState.{Heap, KernelState}
use Rattle.kern_layout.specs.Fields.{Block}
use Rattle.kern_layout.specs.Stores.{Same, SameBytes, put, with_field}
use Rattle.kern_layout.specs.HeapTable.{IsEntry, entry_fields, Linked, HeapAt, cell_at, LinksWritten}
use Rattle.kern_layout.specs.Reads.{Reads}
use Rattle.kern_layout.specs.Valid.{Valid, BlockFits}
use Rattle.kern_layout.proofs.Blocks.{block_put, put_here, put_other}
use Rattle.kern_layout.proofs.ReadingsKept.{entry_place}
use Rattle.kern_layout.proofs.Written.{reads_heap}
use Rattle.kern_layout.proofs.Moved.{reads_line, line_more}
use Rattle.kern_layout.proofs.Stored.{put_below, put_above}
use Rattle.kern_layout.proofs.HeapLinks.{Sized, linked_behind, cell_next, cell_place, heap_entry, heap_unlinked, heap_linked}

-- no block of a valid heap has the size 0
pub sized : (bs : List (ℕ × Bool)) → All BlockFits bs → Sized bs
sized [] h = tt
sized (b ∷ bs) h = ((h 0 b (omega arith)).some, sized bs (λ k d lt. h (suc k) d (omega arith)))

-- where the entries of a list stand
cell_here : (w : ℕ → ℕ) (h : Heap) (xs zs : List (ℕ × Bool)) → h.blocks ≡ xs ++ zs → HeapAt w h → (cell_at w 0xEA40 (length xs) ≡ 0xEA40) ⊎ IsEntry (cell_at w 0xEA40 (length xs))
cell_here w h xs zs is old = cell_place w 0xEA40 xs zs (subst (λ bs. Linked w 0xEA40 bs) is old.blocks)

rest_here : (w : ℕ → ℕ) (h : Heap) (xs zs : List (ℕ × Bool)) → h.blocks ≡ xs ++ zs → HeapAt w h → Linked w (cell_at w 0xEA40 (length xs)) zs
rest_here w h xs zs is old = linked_behind w 0xEA40 xs zs (subst (λ bs. Linked w 0xEA40 bs) is old.blocks)

-- the size or the use of a block
pub block_stored : (s : KernelState) → Valid s → (w b c : ℕ → ℕ) → SameBytes 0xE900 0xEA00 b c → (xs ys : List (ℕ × Bool)) (y z : ℕ × Bool) (o v : ℕ) → s.heap.blocks ≡ xs ++ y ∷ ys → 4 ≤ o → o < 12 → with_field (entry_fields y) o v ≡ entry_fields z → Reads s w b → Reads record s { heap = record s.heap { blocks = xs ++ z ∷ ys } } (put w (cell_at w 0xEA40 (suc (length xs)) + o) v) c
block_stored s valid w b c line xs ys y z o v is lo up same old =
    let d = cell_at w 0xEA40 (length xs) in
    let e = cell_at w 0xEA40 (suc (length xs)) in
    let x = put w (e + o) v in
    let ee : e ≡ w d = cell_next w 0xEA40 (length xs) in
    let rest = rest_here w s.heap xs (y ∷ ys) is old.heap in
    let ie : IsEntry e = subst IsEntry (sym ee) rest.0 in
    let here : Block w e (entry_fields y) = subst (λ q. Block w q (entry_fields y)) (sym ee) rest.1 in
    let at = entry_place e ie in
    reads_heap s valid w x b c line (xs ++ z ∷ ys)
    (put_below w (e + o) v 0xB000 0xD000 (omega (arith, at.0)))
    (put_above w (e + o) v 0xE800 0xEA28 (omega (arith, at.1, up)))
    (heap_entry w x s.heap xs ys y z d e is (sized s.heap.blocks valid.heap.sizes) refl ee (put_other w (e + o) v e (λ q. omega (arith, q, lo)))
    (subst (λ f. Block x e f) same (block_put w e o v (entry_fields y) here))
    (λ a al low high out. put_other w (e + o) v a (λ q. ⊎_elim (λ l. omega (arith, l, q)) (λ g. omega (arith, g, q, up)) out)) old.heap) old

-- a block's entry is unlinked
pub block_unlinked : (s : KernelState) → Valid s → (w x b c : ℕ → ℕ) → SameBytes 0xE900 0xEA00 b c → (xs ys : List (ℕ × Bool)) (y : ℕ × Bool) → s.heap.blocks ≡ xs ++ y ∷ ys → let d = cell_at w 0xEA40 (length xs) in let e = w d in x d ≡ w e → x e ≡ w 0xEA44 → x (e + 4) ≡ 0 → x 0xEA44 ≡ e → LinksWritten w x d e → Reads s w b → Reads record s { heap = record s.heap { blocks = xs ++ ys } } x c
block_unlinked s valid w x b c line xs ys y is link spare zeroed first kept old =
    let d = cell_at w 0xEA40 (length xs) in
    let e = w d in
    let id = cell_here w s.heap xs (y ∷ ys) is old.heap in
    let at = entry_place e (rest_here w s.heap xs (y ∷ ys) is old.heap).0 in
    reads_heap s valid w x b c line (xs ++ ys)
    (λ a al lo up. kept a al lo (omega arith) (λ q. ⊎_elim (λ v. omega (arith, v, q)) (λ i. omega (arith, i.2, q)) id) (λ q. omega arith) (inl (omega (arith, at.0))))
    (λ a al lo up. kept a al (omega arith) (omega arith) (λ q. ⊎_elim (λ v. omega (arith, v, q)) (λ i. omega (arith, i.1, i.2, q)) id) (λ q. omega arith) (inr (omega (arith, at.1))))
    (heap_unlinked w x s.heap xs ys y d e is valid.heap.few (sized s.heap.blocks valid.heap.sizes) refl refl link spare zeroed first (λ a al lo up nd out. kept a al (omega arith) (omega arith) nd (λ q. omega arith) out) old.heap) old

-- a spare entry is linked
pub block_linked : (s : KernelState) → Valid s → (w x b c : ℕ → ℕ) → SameBytes 0xE900 0xEA00 b c → (xs ys : List (ℕ × Bool)) (z : ℕ × Bool) → s.heap.blocks ≡ xs ++ ys → length s.heap.blocks < 512 → let d = cell_at w 0xEA40 (length xs) in let e = w 0xEA44 in x 0xEA44 ≡ w e → x d ≡ e → x e ≡ w d → Block x e (entry_fields z) → LinksWritten w x d e → Reads s w b → Reads record s { heap = record s.heap { blocks = xs ++ z ∷ ys } } x c
block_linked s valid w x b c line xs ys z is few first link next new kept old =
    let d = cell_at w 0xEA40 (length xs) in
    let e = w 0xEA44 in
    let id = cell_here w s.heap xs ys is old.heap in
    let count : 512 - length s.heap.blocks ≡ suc (511 - length s.heap.blocks) = omega (arith, few) in
    let at = entry_place e (subst (λ n. Rattle.kern_layout.specs.HeapTable.Spare w 0xEA44 n) count old.heap.spare).0 in
    reads_heap s valid w x b c line (xs ++ z ∷ ys)
    (λ a al lo up. kept a al lo (omega arith) (λ q. ⊎_elim (λ v. omega (arith, v, q)) (λ i. omega (arith, i.2, q)) id) (λ q. omega arith) (inl (omega (arith, at.0))))
    (λ a al lo up. kept a al (omega arith) (omega arith) (λ q. ⊎_elim (λ v. omega (arith, v, q)) (λ i. omega (arith, i.1, i.2, q)) id) (λ q. omega arith) (inr (omega (arith, at.1))))
    (heap_linked w x s.heap xs ys z d e is few (sized s.heap.blocks valid.heap.sizes) refl refl first link next new (λ a al lo up nd out. kept a al (omega arith) (omega arith) nd (λ q. omega arith) out) old.heap) old

-- ---- the line

-- a byte of the line is stored
pub line_stored : (s : KernelState) → Valid s → (w x b c : ℕ → ℕ) (k v : ℕ) → k < length s.line → Same 0xB000 0xE900 w x → Same 0xEA00 0xEB00 w x → c (0xE900 + k) ≡ v → ((j : ℕ) → (j ≡ k → ⊥) → j < length s.line → c (0xE900 + j) ≡ b (0xE900 + j)) → Reads s w b → Reads record s { line = slice_set s.line k v } x c
line_stored s valid w x b c k v lt low high new others old =
    reads_line s valid w x b c (slice_set s.line k v) low (λ a al lo up. high a al lo (omega arith)) (λ a al lo up. high a al (omega arith) up)
    (high 0xEA20 refl (omega arith) (omega arith) ∙ old.variables.1.1.1.1.1.1.1.1.0 ∙ sym (length-set s.line k v))
    (λ j lj. ⊎_elim
    (λ (e : j ≡ k). ap (λ i. c (0xE900 + i)) e ∙ new ∙ sym (get_or-set_same s.line k v 0 lt) ∙ ap (slice_index (slice_set s.line k v)) (sym e))
    (λ (ne : j ≡ k → ⊥). let l : j < length s.line = omega (arith, lj, length-set s.line k v) in others j ne l ∙ old.line j l ∙ sym (get_or-set_other s.line k j v 0 ne))
    (cases_eq j k)) old

-- a byte is stored behind the line, and counted
pub line_appended : (s : KernelState) → Valid s → (w x b c : ℕ → ℕ) (v : ℕ) → Same 0xB000 0xE900 w x → Same 0xEA00 0xEA20 w x → Same 0xEA24 0xEB00 w x → x 0xEA20 ≡ suc (length s.line) → SameBytes 0xE900 (0xE900 + length s.line) b c → c (0xE900 + length s.line) ≡ v → Reads s w b → Reads record s { line = s.line ++ v ∷ [] } x c
line_appended s valid w x b c v low mid high count same new old =
    reads_line s valid w x b c (s.line ++ v ∷ []) low mid high (count ∙ sym (Rattle.kern_layout.proofs.Moved.longer s.line v)) (line_more b c s.line v same new old.line) old

-- the line is emptied: its length is 0
pub line_emptied : (s : KernelState) → Valid s → (w b c : ℕ → ℕ) → Reads s w b → Reads record s { line = [] } (put w 0xEA20 0) c
line_emptied s valid w b c old =
    reads_line s valid w (put w 0xEA20 0) b c [] (put_below w 0xEA20 0 0xB000 0xE900 (omega arith)) (put_below w 0xEA20 0 0xEA00 0xEA20 (omega arith)) (put_above w 0xEA20 0 0xEA24 0xEB00 (omega arith)) (put_here w 0xEA20 0) (λ k lt. absurd (omega arith)) old
