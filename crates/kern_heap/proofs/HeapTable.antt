-- The words of the heap's table behind stores: other fields of an entry, two blocks joined, a block split.
use Rattle.std.proofs.Common.{◌≡◌, ℕ, suc, ◌+◌, ◌%◌, ◌<◌, ◌≤◌, Bool, [], ◌∷◌, ◌++◌, length, refl, sym, ap, ◌∙◌, subst, arith, ⊎_elim}
use Rattle.std.proofs.lemmas.List.{length-append}
use Rattle.psx_base.specs.KernelState.{Heap}
use Rattle.kern_layout.specs.Fields.{Block}
use Rattle.kern_layout.specs.Stores.{put, with_field}
use Rattle.kern_layout.specs.HeapTable.{IsEntry, entry_fields, Linked, HeapAt, cell_at}
use Rattle.kern_layout.proofs.Blocks.{block_put, put_here, put_other}
use Rattle.kern_layout.proofs.ReadingsKept.{entry_place}
use Rattle.kern_heap.proofs.HeapLists.{append_one, length_one}
use Rattle.kern_layout.proofs.HeapLinks.{Blocks, Sized, linked_length, linked_behind, cell_next, cell_place, Avoids, heap_entry, heap_unlinked}

-- ---- where the entries of a list stand, as long as the words that name them stay

pub cells_same : (w x : ℕ → ℕ) (cell : ℕ) (bs rest : Blocks) → Linked w cell (bs ++ rest) → x cell ≡ w cell → ((f : ℕ) → IsEntry f → x f ≡ w f) → cell_at x cell (length bs) ≡ cell_at w cell (length bs)
cells_same w x cell [] rest h same K = refl
cells_same w x cell (b ∷ bs) rest h same K = ap (λ c. cell_at x c (length bs)) same ∙ cells_same w x (w cell) bs rest h.2 (K (w cell) h.0) K

cells_avoid : (w x : ℕ → ℕ) (d e cell : ℕ) (bs rest : Blocks) → Linked w cell (bs ++ rest) → ((length bs ≡ 0 → ⊥) → x cell ≡ w cell) → ((f : ℕ) → IsEntry f → (f ≡ d → ⊥) → (f ≡ e → ⊥) → x f ≡ w f)
    → Avoids w cell (length bs) d → Avoids w cell (length bs) e → cell_at x cell (length bs) ≡ cell_at w cell (length bs)
cells_avoid w x d e cell [] rest h same K ad ae = refl
cells_avoid w x d e cell (b ∷ bs) rest h same K ad ae =
    ap (λ c. cell_at x c (length bs)) (same (λ z. absurd (omega (arith, z)))) ∙ cells_avoid w x d e (w cell) bs rest h.2 (λ _. K (w cell) h.0 ad.0 ae.0) K ad.1 ae.1

avoids_shorter : (w : ℕ → ℕ) (c e : ℕ) (xs zs ys : Blocks) → Linked w c (xs ++ zs) → Linked w e ys → length ys < length zs → Avoids w c (length xs) e
avoids_shorter w c e [] zs ys h k lt = tt
avoids_shorter w c e (x ∷ xs) zs ys h k lt = ((λ q. let l : length (xs ++ zs) ≡ length ys = linked_length w (w c) e (xs ++ zs) ys q h.2 k in omega (arith, l, length-append xs zs, lt)), avoids_shorter w (w c) e xs zs ys h.2 k lt)

-- the entry of the block behind others
pub record Entry (w : ℕ → ℕ) (xs : Blocks) (b : ℕ × Bool) (ys : Blocks) (e : ℕ) : Type 0 where
  pub named : w (cell_at w 0xEA40 (length xs)) ≡ e
  pub is : IsEntry e
  pub fields : Block w e (entry_fields b)
  pub rest : Linked w e ys

pub entry_of : (w : ℕ → ℕ) (xs : Blocks) (b : ℕ × Bool) (ys : Blocks) (e : ℕ) → Linked w 0xEA40 (xs ++ b ∷ ys) → e ≡ cell_at w 0xEA40 (suc (length xs)) → Entry w xs b ys e
entry_of w xs b ys e h q =
    let k : Linked w (cell_at w 0xEA40 (length xs)) (b ∷ ys) = linked_behind w 0xEA40 xs (b ∷ ys) h in
    let n : w (cell_at w 0xEA40 (length xs)) ≡ e = sym (cell_next w 0xEA40 (length xs)) ∙ sym q in
    record { named = n; is = subst IsEntry n k.0; fields = subst (λ c. Block w c (entry_fields b)) n k.1; rest = subst (λ c. Linked w c ys) n k.2 }

-- ---- the size or the use of a block

pub record Stored (w x : ℕ → ℕ) (h : Heap) (bs : Blocks) (xs : Blocks) : Type 0 where
  pub heap : HeapAt x record h { blocks = bs }
  pub cells : cell_at x 0xEA40 (length xs) ≡ cell_at w 0xEA40 (length xs)
  pub next : cell_at x 0xEA40 (suc (length xs)) ≡ cell_at w 0xEA40 (suc (length xs))

pub field_stored : (w : ℕ → ℕ) (h : Heap) (xs ys : Blocks) (y z : ℕ × Bool) (e o v : ℕ) → h.blocks ≡ xs ++ y ∷ ys → Sized h.blocks → e ≡ cell_at w 0xEA40 (suc (length xs)) → 4 ≤ o → o < 12 → o % 4 ≡ 0 → with_field (entry_fields y) o v ≡ entry_fields z
    → HeapAt w h → Stored w (put w (e + o) v) h (xs ++ z ∷ ys) xs
field_stored w h xs ys y z e o v is sized ee lo up al same old =
    let x : ℕ → ℕ = put w (e + o) v in
    let all : Linked w 0xEA40 (xs ++ y ∷ ys) = subst (λ bs. Linked w 0xEA40 bs) is old.blocks in
    let q = entry_of w xs y ys e all ee in
    let at = entry_place e q.is in
    let K : (f : ℕ) → IsEntry f → x f ≡ w f = λ f i. put_other w (e + o) v f (λ z. let k = q.is.2 in let j = i.2 in omega (arith, z, k, j, lo, up)) in
    let first : x 0xEA40 ≡ w 0xEA40 = put_other w (e + o) v 0xEA40 (λ z. let a = at.1 in omega (arith, z, a, up)) in
    let cells = cells_same w x 0xEA40 xs (y ∷ ys) all first K in
    record {
      heap =
          heap_entry w x h xs ys y z (cell_at w 0xEA40 (length xs)) e is sized refl (sym q.named) (put_other w (e + o) v e (λ z. omega (arith, z, lo)))
          (subst (λ f. Block x e f) same (block_put w e o v (entry_fields y) q.fields))
          (λ a m low high out. put_other w (e + o) v a (λ z. ⊎_elim (λ l. omega (arith, l, z)) (λ g. omega (arith, g, z, up)) out)) old;
      cells = cells;
      next = cell_next x 0xEA40 (length xs) ∙ ap x cells ∙ ⊎_elim (λ c. ap x c ∙ first ∙ sym (ap w c)) (λ i. K (cell_at w 0xEA40 (length xs)) i) (cell_place w 0xEA40 xs (y ∷ ys) all) ∙ sym (cell_next w 0xEA40 (length xs));
    }

-- ---- a block is taken out, behind another one

abbrev pub unlink : (ℕ → ℕ) → (d e : ℕ) → ℕ → ℕ
unlink w d e = put (put (put (put w d (w e)) e (w 0xEA44)) (e + 4) 0) 0xEA44 e

pub unlinked : (w : ℕ → ℕ) (h : Heap) (xs ys : Blocks) (c y : ℕ × Bool) (d e : ℕ) → h.blocks ≡ xs ++ c ∷ y ∷ ys → length h.blocks ≤ 512 → Sized h.blocks → d ≡ cell_at w 0xEA40 (suc (length xs)) → e ≡ w d
    → HeapAt w h → (HeapAt (unlink w d e) record h { blocks = xs ++ c ∷ ys }) × (cell_at (unlink w d e) 0xEA40 (length xs) ≡ cell_at w 0xEA40 (length xs))
unlinked w h xs ys c y d e is few sized dd ee old =
    let x : ℕ → ℕ = unlink w d e in
    let v1 : ℕ → ℕ = put w d (w e) in
    let v2 : ℕ → ℕ = put v1 e (w 0xEA44) in
    let v3 : ℕ → ℕ = put v2 (e + 4) 0 in
    let us : Blocks = xs ++ c ∷ [] in
    let all : Linked w 0xEA40 (xs ++ c ∷ y ∷ ys) = subst (λ bs. Linked w 0xEA40 bs) is old.blocks in
    let p = entry_of w xs c (y ∷ ys) d all dd in
    let ie : IsEntry e = subst IsEntry (sym ee) p.rest.0 in
    let more : Linked w e ys = subst (λ z. Linked w z ys) (sym ee) p.rest.2 in
    let de : d ≡ e → ⊥ = λ z. let l : suc (length ys) ≡ length ys = linked_length w d e (y ∷ ys) ys z p.rest more in omega (arith, l) in
    let at = entry_place e ie in
    let dt = entry_place d p.is in
    let d4 : d ≡ e + 4 → ⊥ = λ z. let k = p.is.2 in let j = ie.2 in omega (arith, z, k, j) in
    let xd : x d ≡ w e =
    put_other v3 0xEA44 e d (λ z. let a = dt.1 in omega (arith, z, a)) ∙ put_other v2 (e + 4) 0 d d4 ∙ put_other v1 e (w 0xEA44) d de ∙ put_here w d (w e) in
    let xe : x e ≡ w 0xEA44 = put_other v3 0xEA44 e e (λ z. let a = at.1 in omega (arith, z, a)) ∙ put_other v2 (e + 4) 0 e (λ z. omega (arith, z)) ∙ put_here v1 e (w 0xEA44) in
    let xz : x (e + 4) ≡ 0 = put_other v3 0xEA44 e (e + 4) (λ z. let a = at.1 in omega (arith, z, a)) ∙ put_here v2 (e + 4) 0 in
    let kept : (a : ℕ) → (a ≡ 0xEA44 → ⊥) → (a ≡ d → ⊥) → (a ≡ e → ⊥) → (a ≡ e + 4 → ⊥) → x a ≡ w a =
    λ a n1 n2 n3 n4. put_other v3 0xEA44 e a n1 ∙ put_other v2 (e + 4) 0 a n4 ∙ put_other v1 e (w 0xEA44) a n3 ∙ put_other w d (w e) a n2 in
    let len : length us ≡ suc (length xs) = length_one xs c in
    let assoc : xs ++ c ∷ y ∷ ys ≡ us ++ y ∷ ys = append_one xs c (y ∷ ys) in
    let H : Blocks → Type 0 = λ bs. HeapAt x record h { blocks = bs } in (
      subst H (sym (append_one xs c ys))
          (heap_unlinked w x h us ys y d e (is ∙ assoc) few sized (dd ∙ sym (ap (cell_at w 0xEA40) len)) ee xd xe xz (put_here v3 0xEA44 e)
          (λ a m lo up nd out. kept a (λ z. omega (arith, z, up)) nd (λ z. ⊎_elim (λ l. omega (arith, l, z)) (λ g. omega (arith, g, z)) out) (λ z. ⊎_elim (λ l. omega (arith, l, z)) (λ g. omega (arith, g, z)) out)) old),
      cells_avoid w x d e 0xEA40 xs (c ∷ y ∷ ys) all (λ _. kept 0xEA40 (λ z. absurd (omega (arith, z))) (λ z. let a = dt.1 in omega (arith, z, a)) (λ z. let a = at.1 in omega (arith, z, a)) (λ z. let a = at.1 in omega (arith, z, a)))
          (λ f i nd ne. kept f (λ z. let k = i.2 in let j = i.1 in omega (arith, z, k, j)) nd ne (λ z. let k = i.2 in let j = ie.2 in omega (arith, z, k, j)))
          (avoids_shorter w 0xEA40 d xs (c ∷ y ∷ ys) (y ∷ ys) all p.rest (omega arith))
          (avoids_shorter w 0xEA40 e xs (c ∷ y ∷ ys) ys all more (omega arith)),
    )
