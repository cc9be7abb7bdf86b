-- The heap's table behind the stores of a routine: a block used whole, a block split, the first block's entry spare, and one block where there was none.
use Rattle.psx_flow.proofs.Kit.{◌≡◌, ℕ, suc, ◌+◌, ◌-◌, ◌%◌, ◌<◌, ◌≤◌, ◌++◌, [], ◌∷◌, length, true, false, refl, sym, ap, ◌∙◌, subst, arith, Memory, word, ⊎_elim, inl, inr}
use Rattle.std.proofs.Common.{Bool, inl, inr, ⊎_elim}
use Rattle.std.proofs.lemmas.List.{length-append}
use Rattle.std.proofs.lemmas.Bool.{cases_lt}
use Rattle.psx_base.specs.KernelState.{KernelState}
use Rattle.kern_layout.specs.Stores.{put}
use Rattle.kern_layout.specs.HeapTable.{IsEntry, Linked, Spare, HeapAt, cell_at}
use Rattle.kern_layout.proofs.Blocks.{put_here, put_other}
use Rattle.kern_layout.proofs.HeapLinks.{Sized, heap_linked, heap_unlinked}
use Rattle.kern_layout.proofs.ReadingsKept.{entry_place}
use Rattle.abs_kernel.specs.Heap.{Blocks}
use Rattle.kern_stay.specs.Doors.{Holds}
use Rattle.kern_heap.proofs.HeapLists.{append_one, length_one, Fit, sized_behind, sized_other}
use Rattle.kern_heap.proofs.HeapTable.{entry_of, field_stored}
use Rattle.kern_heap.proofs.TableHeld.{Puts, AreParts, puts, entry_part, link_part, Table, table, table_put, puts_words}

-- ---- a block that is given

-- with e the block's entry
pub used_table : (s : KernelState) (m : Memory) (xs : Blocks) (a : ℕ) (ys : Blocks) (e : ℕ) → Holds s m → s.heap.blocks ≡ xs ++ (a, false) ∷ ys → Fit s.heap.blocks → e ≡ cell_at (word m) 0xEA40 (suc (length xs))
    → Table s m (puts m ((e + 8, 1) ∷ [])) (xs ++ (a, true) ∷ ys)
used_table s m xs a ys e holds is fit ee =
    let w : ℕ → ℕ = word m in
    let t = table s m holds in
    let q = entry_of w xs (a, false) ys e (subst (λ bs. Linked w 0xEA40 bs) is t.heap.blocks) ee in
    let one = field_stored w s.heap xs ys (a, false) (a, true) e 8 1 is fit.sized ee (omega arith) (omega arith) refl refl t.heap in
    table_put s m m s.heap.blocks (xs ++ (a, true) ∷ ys) ((e + 8, 1) ∷ []) t (entry_part e 8 q.is (omega arith) refl, tt) one.heap

abbrev pub split_stores : (w : ℕ → ℕ) (e f n rest : ℕ) → Puts
split_stores w e f n rest = (e + 4, n) ∷ (e + 8, 1) ∷ (0xEA44, w f) ∷ (f, w e) ∷ (f + 4, rest) ∷ (f + 8, 0) ∷ (e, f) ∷ []

-- with f the spare entry
pub split_table : (s : KernelState) (m : Memory) (xs : Blocks) (a n rest : ℕ) (ys : Blocks) (e f : ℕ) → Holds s m → s.heap.blocks ≡ xs ++ (a, false) ∷ ys → Fit s.heap.blocks → length s.heap.blocks < 512 → (n ≡ 0 → ⊥) → e ≡ cell_at (word m) 0xEA40 (suc (length xs)) → f ≡ word m 0xEA44
    → Table s m (puts m (split_stores (word m) e f n rest)) (xs ++ (n, true) ∷ (rest, false) ∷ ys)
split_table s m xs a n rest ys e f holds is fit room some ee ff =
    let w : ℕ → ℕ = word m in
    let t = table s m holds in
    let q = entry_of w xs (a, false) ys e (subst (λ bs. Linked w 0xEA40 bs) is t.heap.blocks) ee in
    let count : 512 - length s.heap.blocks ≡ suc (511 - length s.heap.blocks) = omega (arith, room) in
    let sp : Spare w 0xEA44 (suc (511 - length s.heap.blocks)) = subst (λ k. Spare w 0xEA44 k) count t.heap.spare in
    let jf : IsEntry f = subst IsEntry (sym ff) sp.0 in
    let et = entry_place e q.is in
    let ft = entry_place f jf in
    let zero_f : w (f + 4) ≡ 0 = ap (λ y. w (y + 4)) ff ∙ sp.1 in
    let one = field_stored w s.heap xs ys (a, false) (n, false) e 4 n is fit.sized ee (omega arith) (omega arith) refl refl t.heap in
    let x1 : ℕ → ℕ = put w (e + 4) n in
    let h1 = record s.heap { blocks = xs ++ (n, false) ∷ ys } in
    let sized1 = sized_other xs (a, false) (n, false) ys some (subst Sized is fit.sized) in
    let two = field_stored x1 h1 xs ys (n, false) (n, true) e 8 1 refl sized1 (ee ∙ sym one.next) (omega arith) (omega arith) refl refl one.heap in
    let x2 : ℕ → ℕ = put x1 (e + 8) 1 in
    let us : Blocks = xs ++ (n, true) ∷ [] in
    let h2 = record s.heap { blocks = xs ++ (n, true) ∷ ys } in
    let sized2 = sized_other xs (n, false) (n, true) ys some sized1 in
    let len : length (xs ++ (n, true) ∷ ys) < 512 = omega (arith, room, ap length is, length-append xs ((a, false) ∷ ys), length-append xs ((n, true) ∷ ys)) in
    let link : (c : ℕ) → (c ≡ e + 4 → ⊥) → (c ≡ e + 8 → ⊥) → x2 c ≡ w c = λ c n4 n8. put_other x1 (e + 8) 1 c n8 ∙ put_other w (e + 4) n c n4 in
    let off : (c k : ℕ) → IsEntry c → 0 < k → k < 12 → c ≡ e + k → ⊥ = λ c k i pos lt z. let j = q.is.2 in let l = i.2 in omega (arith, z, j, l, pos, lt) in
    let links : (c : ℕ) → IsEntry c → x2 c ≡ w c = λ c i. link c (off c 4 i (omega arith) (omega arith)) (off c 8 i (omega arith) (omega arith)) in
    let x244 : x2 0xEA44 ≡ w 0xEA44 = link 0xEA44 (λ z. let b = et.1 in omega (arith, z, b)) (λ z. let b = et.1 in omega (arith, z, b)) in
    let ps : Puts = split_stores w e f n rest in
    let y1 : ℕ → ℕ = put x2 0xEA44 (w f) in
    let y2 : ℕ → ℕ = put y1 f (w e) in
    let y3 : ℕ → ℕ = put y2 (f + 4) rest in
    let y4 : ℕ → ℕ = put y3 (f + 8) 0 in
    let y : ℕ → ℕ = put y4 e f in
    let ef : e ≡ f → ⊥ = λ z. some_size xs a ys (subst Sized is fit.sized) (sym q.fields.0 ∙ ap (λ c. w (c + 4)) z ∙ zero_f) in
    let fe : (k : ℕ) → k < 12 → f + k ≡ e → ⊥ = λ k lt z. ⊎_elim (λ l. omega (arith, z, q.is.2, jf.2, lt, l)) (λ g. ef (omega (arith, z, q.is.2, jf.2, lt, g))) (cases_lt jf.0 q.is.0) in
    let kept : (c : ℕ) → (c ≡ 0xEA44 → ⊥) → (c ≡ f → ⊥) → (c ≡ f + 4 → ⊥) → (c ≡ f + 8 → ⊥) → (c ≡ e → ⊥) → y c ≡ x2 c =
    λ c n0 n1 n2 n3 n4. put_other y4 e f c n4 ∙ put_other y3 (f + 8) 0 c n3 ∙ put_other y2 (f + 4) rest c n2 ∙ put_other y1 f (w e) c n1 ∙ put_other x2 0xEA44 (w f) c n0 in
    let v44 : y 0xEA44 ≡ x2 f = put_other y4 e f 0xEA44 (λ z. let b = et.1 in omega (arith, z, b)) ∙ put_other y3 (f + 8) 0 0xEA44 (λ z. let b = ft.1 in omega (arith, z, b)) ∙ put_other y2 (f + 4) rest 0xEA44 (λ z. let b = ft.1 in omega (arith, z, b))
    ∙ put_other y1 f (w e) 0xEA44 (λ z. let b = ft.1 in omega (arith, z, b)) ∙ put_here x2 0xEA44 (w f) ∙ sym (links f jf) in
    let vf : y f ≡ x2 e = put_other y4 e f f (λ z. ef (sym z)) ∙ put_other y3 (f + 8) 0 f (λ z. omega (arith, z)) ∙ put_other y2 (f + 4) rest f (λ z. omega (arith, z)) ∙ put_here y1 f (w e) ∙ sym (links e q.is) in
    let vf4 : y (f + 4) ≡ rest = put_other y4 e f (f + 4) (fe 4 (omega arith)) ∙ put_other y3 (f + 8) 0 (f + 4) (λ z. omega (arith, z)) ∙ put_here y2 (f + 4) rest in
    let vf8 : y (f + 8) ≡ 0 = put_other y4 e f (f + 8) (fe 8 (omega arith)) ∙ put_here y3 (f + 8) 0 in
    let new : HeapAt y record h2 { blocks = us ++ (rest, false) ∷ ys } =
    heap_linked x2 y h2 us ys (rest, false) e f (append_one xs (n, true) ys) len sized2
    (ee ∙ sym one.next ∙ sym two.next ∙ sym (ap (cell_at x2 0xEA40) (length_one xs (n, true)))) (ff ∙ sym x244) v44 (put_here y4 e f) vf (vf4, (vf8, tt))
    (λ c al lo up nd out. kept c (λ z. omega (arith, z, up)) (λ z. ⊎_elim (λ l. omega (arith, l, z)) (λ g. omega (arith, g, z)) out) (λ z. ⊎_elim (λ l. omega (arith, l, z)) (λ g. omega (arith, g, z)) out) (λ z. ⊎_elim (λ l. omega (arith, l, z)) (λ g. omega (arith, g, z)) out) nd) two.heap in
    table_put s m m s.heap.blocks (xs ++ (n, true) ∷ (rest, false) ∷ ys) ps t
    (entry_part e 4 q.is (omega arith) refl, (entry_part e 8 q.is (omega arith) refl, ((refl, inr (inr refl)), (link_part f jf, (entry_part f 4 jf (omega arith) refl, (entry_part f 8 jf (omega arith) refl, (link_part e q.is, tt)))))))
    (subst (λ bs. HeapAt y record s.heap { blocks = bs }) (sym (append_one xs (n, true) ((rest, false) ∷ ys))) new)
  where
    some_size : (xs : Blocks) (a : ℕ) (ys : Blocks) → Sized (xs ++ (a, false) ∷ ys) → a ≡ 0 → ⊥
    some_size xs a ys h z = (sized_behind xs ((a, false) ∷ ys) h).0 z

-- ---- the first block's entry becomes spare

abbrev pub emptied : (w : ℕ → ℕ) (e : ℕ) → Puts
emptied w e = (e, w 0xEA44) ∷ (e + 4, 0) ∷ (0xEA44, e) ∷ (0xEA40, w e) ∷ []

pub record Emptied (s : KernelState) (m n : Memory) (ys : Blocks) (e : ℕ) : Type 0 where
  pub table : Table s m (puts n (emptied (word n) e)) ys
  pub first : word (puts n (emptied (word n) e)) 0xEA40 ≡ word n e
  pub spare : word (puts n (emptied (word n) e)) 0xEA44 ≡ e

pub first_emptied : (s : KernelState) (m n : Memory) (y : ℕ × Bool) (ys : Blocks) (e : ℕ) → Table s m n (y ∷ ys) → Fit (y ∷ ys) → e ≡ word n 0xEA40 → Emptied s m n ys e
first_emptied s m n y ys e t fit ee =
    let w : ℕ → ℕ = word n in
    let h = record s.heap { blocks = y ∷ ys } in
    let ie : IsEntry e = subst IsEntry (sym ee) t.heap.blocks.0 in
    let et = entry_place e ie in
    let ps : Puts = emptied w e in
    let x1 : ℕ → ℕ = put w e (w 0xEA44) in
    let x2 : ℕ → ℕ = put x1 (e + 4) 0 in
    let x3 : ℕ → ℕ = put x2 0xEA44 e in
    let x : ℕ → ℕ = put x3 0xEA40 (w e) in
    let far : (v : ℕ) → 0xE800 ≤ v → (v ≡ e → ⊥) × (v ≡ e + 4 → ⊥) = λ v g. ((λ z. let b = et.1 in omega (arith, z, b, g)), (λ z. let b = et.1 in omega (arith, z, b, g))) in
    let xe : x e ≡ w 0xEA44 = put_other x3 0xEA40 (w e) e (λ z. (far 0xEA40 (omega arith)).0 (sym z)) ∙ put_other x2 0xEA44 e e (λ z. (far 0xEA44 (omega arith)).0 (sym z)) ∙ put_other x1 (e + 4) 0 e (λ z. omega (arith, z)) ∙ put_here w e (w 0xEA44) in
    let x4 : x (e + 4) ≡ 0 = put_other x3 0xEA40 (w e) (e + 4) (λ z. (far 0xEA40 (omega arith)).1 (sym z)) ∙ put_other x2 0xEA44 e (e + 4) (λ z. (far 0xEA44 (omega arith)).1 (sym z)) ∙ put_here x1 (e + 4) 0 in
    let xs : x 0xEA44 ≡ e = put_other x3 0xEA40 (w e) 0xEA44 (λ z. absurd (omega (arith, z))) ∙ put_here x2 0xEA44 e in
    let kept : (a : ℕ) → (a ≡ 0xEA40 → ⊥) → (a ≡ 0xEA44 → ⊥) → (a ≡ e → ⊥) → (a ≡ e + 4 → ⊥) → x a ≡ w a =
    λ a n1 n2 n3 n4. put_other x3 0xEA40 (w e) a n1 ∙ put_other x2 0xEA44 e a n2 ∙ put_other x1 (e + 4) 0 a n4 ∙ put_other w e (w 0xEA44) a n3 in
    let new : HeapAt x record h { blocks = ys } =
    heap_unlinked w x h [] ys y 0xEA40 e refl fit.few fit.sized refl ee (put_here x3 0xEA40 (w e)) xe x4 xs
    (λ a al lo up nd out. kept a nd (λ z. omega (arith, z, up)) (λ z. ⊎_elim (λ l. omega (arith, l, z)) (λ g. omega (arith, g, z)) out) (λ z. ⊎_elim (λ l. omega (arith, l, z)) (λ g. omega (arith, g, z)) out)) t.heap in
    let parts : AreParts ps = (link_part e ie, (entry_part e 4 ie (omega arith) refl, ((refl, inr (inr refl)), ((refl, inr (inl refl)), tt)))) in
    let all : (a : ℕ) → a % 4 ≡ 0 → word (puts n ps) a ≡ x a = λ a al. puts_words ps n w a parts al (λ b bl. refl) in
    record { table = table_put s m n (y ∷ ys) ys ps t parts new; first = all 0xEA40 refl ∙ put_here x3 0xEA40 (w e); spare = all 0xEA44 refl ∙ xs }

-- ---- the first spare entry becomes that of the one block

abbrev pub filled : (w : ℕ → ℕ) (f size : ℕ) → Puts
filled w f size = (f + 4, size) ∷ (f + 8, 0) ∷ (f, 0) ∷ (0xEA40, f) ∷ (0xEA44, w f) ∷ []

pub one_filled : (s : KernelState) (m : Memory) (f size : ℕ) → Holds s m → s.heap.blocks ≡ [] → f ≡ word m 0xEA44 → Table s m (puts m (filled (word m) f size)) ((size, false) ∷ [])
one_filled s m f size holds none ff =
    let w : ℕ → ℕ = word m in
    let t = table s m holds in
    let h = s.heap in
    let sp : Spare w 0xEA44 512 = subst (λ bs. Spare w 0xEA44 (512 - length bs)) none t.heap.spare in
    let empty : w 0xEA40 ≡ 0 = subst (λ bs. Linked w 0xEA40 bs) none t.heap.blocks in
    let jf : IsEntry f = subst IsEntry (sym ff) sp.0 in
    let ft = entry_place f jf in
    let ps : Puts = filled w f size in
    let x1 : ℕ → ℕ = put w (f + 4) size in
    let x2 : ℕ → ℕ = put x1 (f + 8) 0 in
    let x3 : ℕ → ℕ = put x2 f 0 in
    let x4 : ℕ → ℕ = put x3 0xEA40 f in
    let x : ℕ → ℕ = put x4 0xEA44 (w f) in
    let far : (v k : ℕ) → 0xE800 ≤ v → k < 12 → f + k ≡ v → ⊥ = λ v k g lt z. (let b = ft.1 in omega (arith, z, b, g, lt)) in
    let far0 : (v : ℕ) → 0xE800 ≤ v → f ≡ v → ⊥ = λ v g z. (let b = ft.1 in omega (arith, z, b, g)) in
    let vf : x f ≡ w 0xEA40 = put_other x4 0xEA44 (w f) f (far0 0xEA44 (omega arith)) ∙ put_other x3 0xEA40 f f (far0 0xEA40 (omega arith)) ∙ put_here x2 f 0 ∙ sym empty in
    let vf4 : x (f + 4) ≡ size = put_other x4 0xEA44 (w f) (f + 4) (far 0xEA44 4 (omega arith) (omega arith)) ∙ put_other x3 0xEA40 f (f + 4) (far 0xEA40 4 (omega arith) (omega arith)) ∙ put_other x2 f 0 (f + 4) (λ z. omega (arith, z)) ∙ put_other x1 (f + 8) 0 (f + 4) (λ z. omega (arith, z)) ∙ put_here w (f + 4) size in
    let vf8 : x (f + 8) ≡ 0 = put_other x4 0xEA44 (w f) (f + 8) (far 0xEA44 8 (omega arith) (omega arith)) ∙ put_other x3 0xEA40 f (f + 8) (far 0xEA40 8 (omega arith) (omega arith)) ∙ put_other x2 f 0 (f + 8) (λ z. omega (arith, z)) ∙ put_here x1 (f + 8) 0 in
    let v40 : x 0xEA40 ≡ f = put_other x4 0xEA44 (w f) 0xEA40 (λ z. absurd (omega (arith, z))) ∙ put_here x3 0xEA40 f in
    let kept : (a : ℕ) → (a ≡ 0xEA44 → ⊥) → (a ≡ 0xEA40 → ⊥) → (a ≡ f → ⊥) → (a ≡ f + 4 → ⊥) → (a ≡ f + 8 → ⊥) → x a ≡ w a =
    λ a n1 n2 n3 n4 n5. put_other x4 0xEA44 (w f) a n1 ∙ put_other x3 0xEA40 f a n2 ∙ put_other x2 f 0 a n3 ∙ put_other x1 (f + 8) 0 a n5 ∙ put_other w (f + 4) size a n4 in
    let few : length h.blocks < 512 = omega (arith, ap length none) in
    let new : HeapAt x record h { blocks = (size, false) ∷ [] } =
    heap_linked w x h [] [] (size, false) 0xEA40 f none few (subst Sized (sym none) tt) refl ff (put_here x4 0xEA44 (w f)) v40 vf (vf4, (vf8, tt))
    (λ a al lo up nd out. kept a (λ z. omega (arith, z, up)) nd (λ z. ⊎_elim (λ l. omega (arith, l, z)) (λ g. omega (arith, g, z)) out) (λ z. ⊎_elim (λ l. omega (arith, l, z)) (λ g. omega (arith, g, z)) out) (λ z. ⊎_elim (λ l. omega (arith, l, z)) (λ g. omega (arith, g, z)) out)) t.heap in
    table_put s m m h.blocks ((size, false) ∷ []) ps t
    (entry_part f 4 jf (omega arith) refl, (entry_part f 8 jf (omega arith) refl, (link_part f jf, ((refl, inr (inl refl)), ((refl, inr (inr refl)), tt))))) new
