-- The listing of JOIN joins a free block with a free one behind it.
use Rattle.psx_flow.proofs.Kit.{◌≡◌, ℕ, suc, ◌+◌, ◌%◌, ◌^◌, ◌≤◌, ◌++◌, List, [], ◌∷◌, length, true, false, refl, sym, ap, ◌∙◌, subst, arith, Memory, word, Registers, Cop0, Access, Meets, Goal, Calls, Fair, kernel_words, Part, Anew, Count, run, ended, Sym}
use Rattle.std.proofs.Common.{inr}
use Rattle.std.proofs.lemmas.List.{length-append}
use Rattle.psx_base.specs.KernelState.{KernelState}
use Rattle.psx_flow.specs.Told.{ports}
use Rattle.psx_flow.proofs.Sound.{sound}
use Rattle.kern_layout.specs.Stores.{put}
use Rattle.kern_layout.specs.HeapTable.{IsEntry, HeapAt, cell_at}
use Rattle.kern_layout.proofs.Blocks.{put_other}
use Rattle.kern_layout.proofs.ReadingsKept.{entry_place}
use Rattle.abs_kernel.specs.Heap.{Blocks, joins}
use Rattle.kern_stay.specs.Shared.{tree}
use Rattle.kern_heap.specs.declared.places.TheConstants.{JOIN}
use Rattle.kern_heap.specs.declared.join.TheConstants.{JOIN_NODES}
use Rattle.kern_heap.proofs.HeapLists.{Fit, total_append, sized_behind, sized_other}
use Rattle.kern_heap.proofs.HeapTable.{entry_of, cells_same, Stored, field_stored, unlink, unlinked}
use Rattle.kern_heap.proofs.TableHeld.{at_entry, Puts, AreParts, puts, putted, puts_words, entry_part, link_part, Table, table_put}

-- ---- the table behind the five stores

abbrev stores : (w : ℕ → ℕ) (e d sum : ℕ) → Puts
stores w e d sum = (e + 4, sum) ∷ (e, w d) ∷ (d, w 0xEA44) ∷ (d + 4, 0) ∷ (0xEA44, d) ∷ []

pub not_0 : (e : ℕ) → IsEntry e → e ≡ 0 → ⊥
not_0 e i z = let t = entry_place e i in let a = t.0 in omega (arith, a, z)

record JoinedTable (s : KernelState) (m n x : Memory) (xs cs : Blocks) : Type 0 where
  pub table : Table s m x cs
  pub cells : cell_at (word x) 0xEA40 (length xs) ≡ cell_at (word n) 0xEA40 (length xs)

joined_table : (s : KernelState) (m n : Memory) (xs : Blocks) (a b : ℕ) (ys : Blocks) (e d : ℕ) → Table s m n (xs ++ (a, false) ∷ (b, false) ∷ ys) → Fit (xs ++ (a, false) ∷ (b, false) ∷ ys)
    → e ≡ cell_at (word n) 0xEA40 (suc (length xs)) → d ≡ word n e → JoinedTable s m n (puts n (stores (word n) e d (a + b))) xs (xs ++ (a + b, false) ∷ ys)
joined_table s m n xs a b ys e d t fit ee dd =
    let w : ℕ → ℕ = word n in
    let h = record s.heap { blocks = xs ++ (a, false) ∷ (b, false) ∷ ys } in
    let h1 = record s.heap { blocks = xs ++ (a + b, false) ∷ (b, false) ∷ ys } in
    let q = entry_of w xs (a, false) ((b, false) ∷ ys) e t.heap.blocks ee in
    let id : IsEntry d = subst IsEntry (sym dd) q.rest.0 in
    let et = entry_place e q.is in
    let dt = entry_place d id in
    let x1 : ℕ → ℕ = put w (e + 4) (a + b) in
    let one : Stored w x1 h (xs ++ (a + b, false) ∷ (b, false) ∷ ys) xs = field_stored w h xs ((b, false) ∷ ys) (a, false) (a + b, false) e 4 (a + b) refl fit.sized ee (omega arith) (omega arith) refl refl t.heap in
    let more : (c : ℕ) → IsEntry c → x1 c ≡ w c = λ c i. put_other w (e + 4) (a + b) c (λ z. let j = q.is.2 in let k = i.2 in omega (arith, z, j, k)) in
    let sized1 = sized_other xs (a, false) (a + b, false) ((b, false) ∷ ys) (λ z. (sized_behind xs ((a, false) ∷ (b, false) ∷ ys) fit.sized).0 (omega (arith, z))) fit.sized in
    let len : length (xs ++ (a + b, false) ∷ (b, false) ∷ ys) ≤ 512 = let k = fit.few in omega (arith, k, length-append xs ((a, false) ∷ (b, false) ∷ ys), length-append xs ((a + b, false) ∷ (b, false) ∷ ys)) in
    let u = unlinked x1 h1 xs ys (a + b, false) (b, false) e d refl len sized1 (ee ∙ sym one.next) (dd ∙ sym (more e q.is)) one.heap in
    let vd : x1 d ≡ w d = more d id in
    let v44 : x1 0xEA44 ≡ w 0xEA44 = put_other w (e + 4) (a + b) 0xEA44 (λ z. let k = et.1 in omega (arith, z, k)) in
    let is : unlink x1 e d ≡ putted w (stores w e d (a + b)) = λ i. put (put (put (put x1 e (vd i)) d (v44 i)) (d + 4) 0) 0xEA44 d in
    let X : Memory = puts n (stores w e d (a + b)) in
    let parts : AreParts (stores w e d (a + b)) = (entry_part e 4 q.is (omega arith) refl, (link_part e q.is, (link_part d id, (entry_part d 4 id (omega arith) refl, ((refl, inr (inr refl)), tt))))) in
    let joined : HeapAt (putted w (stores w e d (a + b))) record s.heap { blocks = xs ++ (a + b, false) ∷ ys } = subst (λ f. HeapAt f record s.heap { blocks = xs ++ (a + b, false) ∷ ys }) is u.0 in
    let new = table_put s m n (xs ++ (a, false) ∷ (b, false) ∷ ys) (xs ++ (a + b, false) ∷ ys) (stores w e d (a + b)) t parts joined in
    let all : (c : ℕ) → c % 4 ≡ 0 → word X c ≡ putted w (stores w e d (a + b)) c = λ c al. puts_words (stores w e d (a + b)) n w c parts al (λ y yl. refl) in
    record {
      table = new;
      cells = cells_same (putted w (stores w e d (a + b))) (word X) 0xEA40 xs ((a + b, false) ∷ ys) joined.blocks (all 0xEA40 refl) (λ f i. all f (entry_place f i).2)
          ∙ ap (λ f. cell_at f 0xEA40 (length xs)) (sym is) ∙ u.1 ∙ one.cells;
    }

-- ---- the listing

-- its registers, with others in r10 to r15
abbrev pub behind_join : Registers → (a10 a11 a12 a13 a14 a15 : ℕ) → Registers
behind_join c a10 a11 a12 a13 a14 a15 = record c { r10 = a10; r11 = a11; r12 = a12; r13 = a13; r14 = a14; r15 = a15 }

-- how it comes back
abbrev pub JoinKnown : Part → KernelState → Memory → Memory → (xs cs : Blocks) → Registers → List Access → Count → Type 0
JoinKnown K s m n xs cs c q p =
    (a10 a11 a12 a13 a14 a15 : ℕ) (z : Cop0) (x : Memory) (u : List Access) (p' : Count) → ports u ≡ ports q → Table s m x cs → cell_at (word x) 0xEA40 (length xs) ≡ cell_at (word n) 0xEA40 (length xs) → p'.steps ≤ p.steps + 30
    → K (behind_join c a10 a11 a12 a13 a14 a15) z x [] u p'

module _ (C : Calls) (fair : Fair C) (s : KernelState) (m n : Memory) (xs : Blocks) (a : ℕ) (c : Registers) (z : Cop0) (q : List Access) (p : Count) (K : Part) (ee : c.r9 ≡ cell_at (word n) 0xEA40 (suc (length xs))) where
  abbrev G : ℕ → Goal
  G to e = (to ≡ c.r31) × Anew K e

  comes : (a10 a11 a12 a13 a14 a15 : ℕ) (d : Cop0) (x : Memory) (u : List Access) (p' : Count) (cs : Blocks) → JoinKnown K s m n xs cs c q p → ports u ≡ ports q
      → Table s m x cs → cell_at (word x) 0xEA40 (length xs) ≡ cell_at (word n) 0xEA40 (length xs) → p'.steps ≤ p.steps + 30 → G c.r31 (run (behind_join c a10 a11 a12 a13 a14 a15) d x [] u p')
  comes a10 a11 a12 a13 a14 a15 d x u p' cs known quiet t cells few =
      (refl, record { memory = x; log = []; same = refl; sorted = tt; goes = known a10 a11 a12 a13 a14 a15 d x u p' quiet t cells few })

  goes : (ys : Blocks) → Table s m n (xs ++ (a, false) ∷ ys) → Fit (xs ++ (a, false) ∷ ys) → JoinKnown K s m n xs (xs ++ joins (a, false) ys) c q p
      → Sym C (tree JOIN_NODES) JOIN (ended (λ _. ⊥)) G c z n [] q p
  goes [] t fit known =
      let w : ℕ → ℕ = word n in
      let e = entry_of w xs (a, false) [] c.r9 t.heap.blocks ee in
      let o0 = at_entry c.r9 0 c.r9 e.is (omega arith) refl (omega arith) in
      rw (o0.here, o0.sort, o0.place) (
        λ some. absurd (some e.rest),
        λ none. comes _ _ _ _ _ _ _ _ _ _ _ known refl t refl (omega arith),
      )
  goes ((b, true) ∷ ys) t fit known =
      let w : ℕ → ℕ = word n in
      let e = entry_of w xs (a, false) ((b, true) ∷ ys) c.r9 t.heap.blocks ee in
      let d : ℕ = w c.r9 in
      let o0 = at_entry c.r9 0 c.r9 e.is (omega arith) refl (omega arith) in
      let o4 = at_entry c.r9 4 (c.r9 + 4) e.is (omega arith) refl refl in
      let d4 = at_entry d 4 (d + 4) e.rest.0 (omega arith) refl refl in
      let d8 = at_entry d 8 (d + 8) e.rest.0 (omega arith) refl refl in
      rw (o0.here, o0.sort, o0.place) (
        λ some. rw (d8.here, d8.sort, d8.place, d4.here, d4.sort, d4.place, o4.here, o4.sort, o4.place) (
          λ free. absurd (let v = e.rest.1.1.0 in omega (arith, free, v)),
          λ used. comes _ _ _ _ _ _ _ _ _ _ _ known refl t refl (omega arith),
        ),
        λ none. absurd (not_0 d e.rest.0 none),
      )
  goes ((b, false) ∷ ys) t fit known =
      let w : ℕ → ℕ = word n in
      let e = entry_of w xs (a, false) ((b, false) ∷ ys) c.r9 t.heap.blocks ee in
      let d : ℕ = w c.r9 in
      let o0 = at_entry c.r9 0 c.r9 e.is (omega arith) refl (omega arith) in
      let o4 = at_entry c.r9 4 (c.r9 + 4) e.is (omega arith) refl refl in
      let d0 = at_entry d 0 d e.rest.0 (omega arith) refl (omega arith) in
      let d4 = at_entry d 4 (d + 4) e.rest.0 (omega arith) refl refl in
      let d8 = at_entry d 8 (d + 8) e.rest.0 (omega arith) refl refl in
      let j = joined_table s m n xs a b ys c.r9 d t fit ee refl in
      let sum : (w (c.r9 + 4) + w (d + 4)) % 2 ^ 32 ≡ a + b =
      (let u = e.fields.0 in let v = e.rest.1.0 in let f = fit.small in let g = total_append xs ((a, false) ∷ (b, false) ∷ ys) in omega (arith, u, v, f, g)) in
      rw (o0.here, o0.sort, o0.place) (
        λ some. rw (d8.here, d8.sort, d8.place, d4.here, d4.sort, d4.place, o4.here, o4.sort, o4.place) (
          λ free. rw (d0.here, d0.sort, d0.place, o4.here, o4.sort, o4.place, o0.here, o0.sort, o0.place) (rw (d0.here, d0.sort, d0.place, d4.here, d4.sort, d4.place, sum) (
              comes _ _ _ _ _ _ _ _ _ _ _ known refl j.table j.cells (omega arith))),
          λ used. absurd (used e.rest.1.1.0),
        ),
        λ none. absurd (not_0 d e.rest.0 none),
      )

  pub joins_there : (ys : Blocks) → Table s m n (xs ++ (a, false) ∷ ys) → Fit (xs ++ (a, false) ∷ ys) → JoinKnown K s m n xs (xs ++ joins (a, false) ys) c q p
      → Meets kernel_words C (tree JOIN_NODES) JOIN (λ _. ⊥) G (run c z n [] q p)
  joins_there ys t fit known = sound C fair (tree JOIN_NODES) JOIN (ended (λ _. ⊥)) (λ _. ⊥) G (λ c z m w q p ok h. h) c z n [] q p tt (goes ys t fit known)
