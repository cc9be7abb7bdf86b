-- The listing of RELEASE frees the used block at an address.
use Rattle.psx_flow.proofs.Kit.{◌≡◌, ℕ, suc, ◌+◌, ◌%◌, ◌≤◌, ◌++◌, List, [], ◌∷◌, length, true, false, refl, sym, ap, ◌∙◌, subst, arith, Memory, word, Registers, Cop0, Access, Meets, Goal, Calls, calls, Tree, fair, kernel_words, Part, Anew, Calling, Count, run, ended, Entry, applied}
use Rattle.std.proofs.Common.{Bool, ⊎_elim}
use Rattle.psx_base.specs.KernelState.{KernelState}
use Rattle.psx_flow.specs.Told.{ports}
use Rattle.psx_flow.proofs.Sound.{sound}
use Rattle.psx_flow.proofs.Knows.{first_call, later_call}
use Rattle.kern_layout.specs.HeapTable.{IsEntry, Linked, cell_at}
use Rattle.kern_layout.specs.Valid.{Valid}
use Rattle.kern_layout.proofs.ReadingsKept.{entry_place}
use Rattle.abs_kernel.specs.Heap.{Blocks, joins, frees, frees_by, with_blocks, with_freed_block}
use Rattle.abs_kernel.proofs.HeapKept.{total}
use Rattle.kern_stay.specs.Shared.{tree, tested_there}
use Rattle.kern_stay.specs.Doors.{Holds}
use Rattle.kern_heap.specs.declared.places.TheConstants.{RELEASE, FIND, JOIN}
use Rattle.kern_heap.specs.declared.release.TheConstants.{RELEASE_NODES}
use Rattle.kern_heap.specs.declared.find.TheConstants.{FIND_NODES}
use Rattle.kern_heap.specs.declared.join.TheConstants.{JOIN_NODES}
use Rattle.kern_heap.proofs.HeapLists.{append_one, length_one, last_of, Fit, sized_behind, fit_behind, fit_joined, joins_used, total_append, frees_first, frees_behind}
use Rattle.kern_heap.proofs.HeapTable.{entry_of, cells_same, field_stored}
use Rattle.kern_heap.proofs.TableHeld.{at_entry, Puts, AreParts, puts, putted, puts_words, entry_part, Table, table, table_put, held}
use Rattle.kern_heap.proofs.HeapHeld.{heap_fit, heap_ends}
use Rattle.kern_heap.proofs.Joining.{JoinKnown, joins_there}
use Rattle.kern_heap.proofs.Finding.{IsFound, FindKnown, finds, flag_false, flag_true}

-- ---- the table with a block's use stored

record FreedTable (s : KernelState) (m x : Memory) (xs cs : Blocks) : Type 0 where
  pub table : Table s m x cs
  pub cells : cell_at (word x) 0xEA40 (length xs) ≡ cell_at (word m) 0xEA40 (length xs)
  pub next : cell_at (word x) 0xEA40 (suc (length xs)) ≡ cell_at (word m) 0xEA40 (suc (length xs))
  pub entry : IsEntry (cell_at (word m) 0xEA40 (suc (length xs)))

freed_table : (s : KernelState) (m : Memory) (xs : Blocks) (a : ℕ) (ys : Blocks) (e : ℕ) → Holds s m → s.heap.blocks ≡ xs ++ (a, true) ∷ ys → Fit s.heap.blocks → e ≡ cell_at (word m) 0xEA40 (suc (length xs))
    → FreedTable s m (puts m ((e + 8, 0) ∷ [])) xs (xs ++ (a, false) ∷ ys)
freed_table s m xs a ys e holds is fit ee =
    let w : ℕ → ℕ = word m in
    let t = table s m holds in
    let q = entry_of w xs (a, true) ys e (subst (λ bs. Linked w 0xEA40 bs) is t.heap.blocks) ee in
    let one = field_stored w s.heap xs ys (a, true) (a, false) e 8 0 is fit.sized ee (omega arith) (omega arith) refl refl t.heap in
    let ps : Puts = (e + 8, 0) ∷ [] in
    let parts : AreParts ps = (entry_part e 8 q.is (omega arith) refl, tt) in
    let X : Memory = puts m ps in
    let all : (c : ℕ) → c % 4 ≡ 0 → word X c ≡ putted w ps c = λ c al. puts_words ps m w c parts al (λ y yl. refl) in
    let us : Blocks = xs ++ (a, false) ∷ [] in
    let same : (bs rest : Blocks) → Linked (putted w ps) 0xEA40 (bs ++ rest) → cell_at (word X) 0xEA40 (length bs) ≡ cell_at (putted w ps) 0xEA40 (length bs) =
    λ bs rest l. cells_same (putted w ps) (word X) 0xEA40 bs rest l (all 0xEA40 refl) (λ f i. all f (entry_place f i).2) in
    let len = length_one xs (a, false) in
    record {
      table = table_put s m m s.heap.blocks (xs ++ (a, false) ∷ ys) ps t parts one.heap;
      cells = same xs ((a, false) ∷ ys) one.heap.blocks ∙ one.cells;
      next = ap (cell_at (word X) 0xEA40) (sym len) ∙ same us ys (subst (λ bs. Linked (putted w ps) 0xEA40 bs) (append_one xs (a, false) ys) one.heap.blocks) ∙ ap (cell_at (putted w ps) 0xEA40) len ∙ one.next;
      entry = subst IsEntry ee q.is;
    }

-- ---- how the listing comes back

abbrev pub ReleaseKnown : Part → KernelState → Registers → List Access → Count → Type 0
ReleaseKnown K s c q p =
    (a8 a9 a10 a11 a12 a13 a14 a15 a31 : ℕ) (z : Cop0) (x : Memory) (u : List Access) (p' : Count) → ports u ≡ ports q → Holds (with_freed_block s c.r4) x → p'.steps ≤ p.steps + 5300
    → K (record c { r7 = c.r31; r8 = a8; r9 = a9; r10 = a10; r11 = a11; r12 = a12; r13 = a13; r14 = a14; r15 = a15; r31 = a31 }) z x [] u p'

abbrev release_calls : List (ℕ × Tree)
release_calls = (FIND, tree FIND_NODES) ∷ (JOIN, tree JOIN_NODES) ∷ tested_there

module _ (s : KernelState) (valid : Valid s) (m : Memory) (holds : Holds s m) (c : Registers) (q : List Access) (p : Count) (K : Part) (known : ReleaseKnown K s c q p) where
  abbrev C : Calls
  C = calls kernel_words release_calls

  abbrev G : ℕ → Goal
  G to e = (to ≡ c.r31) × Anew K e

  fit : Fit s.heap.blocks
  fit = heap_fit s.heap valid.heap

  -- FIND and JOIN, called
  finding : (k : Part) (d : Registers) (z : Cop0) (u : List Access) (p' : Count) → FindKnown k s m d u p' → Calling C FIND d.r31 k d z m [] u p'
  finding k d z u p' known = record {
    called = λ ok. first_call FIND (tree FIND_NODES) ((JOIN, tree JOIN_NODES) ∷ tested_there) d.r31 (Anew k) (run d z m [] u p') refl
        (finds (calls kernel_words ((JOIN, tree JOIN_NODES) ∷ tested_there)) (fair kernel_words ((JOIN, tree JOIN_NODES) ∷ tested_there)) s m holds fit (heap_ends s.heap valid.heap) d u p' k known z);
  }

  joining : (k : Part) (d : Registers) (z : Cop0) (n : Memory) (w : List Entry) (u : List Access) (p' : Count) (xs : Blocks) (a : ℕ) (ys : Blocks) → d.r9 ≡ cell_at (word (applied n w)) 0xEA40 (suc (length xs))
      → Table s m (applied n w) (xs ++ (a, false) ∷ ys) → Fit (xs ++ (a, false) ∷ ys) → JoinKnown k s m (applied n w) xs (xs ++ joins (a, false) ys) d u p' → Calling C JOIN d.r31 k d z n w u p'
  joining k d z n w u p' xs a ys ee t fits known = record {
    called = λ ok. later_call JOIN (FIND, tree FIND_NODES) ((JOIN, tree JOIN_NODES) ∷ tested_there) d.r31 (Anew k) (run d z n w u p') refl
        (first_call JOIN (tree JOIN_NODES) tested_there d.r31 (Anew k) (run d z n w u p') refl
        (joins_there (calls kernel_words tested_there) (fair kernel_words tested_there) s m (applied n w) xs a d z u p' k ee ys t fits known));
  }

  -- back to the caller
  comes : (d : Registers) (z : Cop0) (x : Memory) (u : List Access) (p' : Count) → d ≡ record c { r7 = c.r31; r8 = d.r8; r9 = d.r9; r10 = d.r10; r11 = d.r11; r12 = d.r12; r13 = d.r13; r14 = d.r14; r15 = d.r15; r31 = d.r31 } → ports u ≡ ports q
      → (bs : Blocks) → frees c.r4 s.heap ≡ bs → Holds (with_blocks s bs) x → p'.steps ≤ p.steps + 5300 → G d.r7 (run d z x [] u p')
  comes d z x u p' kept quiet bs is there few = (
    ap (λ r. r.r7) kept,
    record {
      memory = x;
      log = [];
      same = refl;
      sorted = tt;
      goes = subst (λ r. K r z x [] u p') (sym kept) (known d.r8 d.r9 d.r10 d.r11 d.r12 d.r13 d.r14 d.r15 d.r31 z x u p' quiet (subst (λ y. Holds (with_blocks s y) x) (sym is) there) few);
    },
  )

  pub releases_there : (z : Cop0) → Meets kernel_words C (tree RELEASE_NODES) RELEASE (λ _. ⊥) G (run c z m [] q p)
  releases_there z =
      sound C (fair kernel_words release_calls) (tree RELEASE_NODES) RELEASE (ended (λ _. ⊥)) (λ _. ⊥) G (λ c z m w q p ok h. h) c z m [] q p tt (
      finding _ _ _ _ _ (λ a8 a9 a11 a12 a14 a15 z1 u1 p1 quiet1 found few1. (
        λ none. ⊎_elim
            (λ f. comes _ _ _ _ _ refl quiet1 s.heap.blocks (ap (frees_by c.r4 s.heap) f.1) holds (omega (arith, few1)))
            (λ (f : IsFound s m c.r4 a8 a9 a11). absurd (f.some none)) found,
        λ some. ⊎_elim
            (λ f. absurd (some f.0))
            (λ (f : IsFound s m c.r4 a8 a9 a11).
            let xs = f.before in
            let ys = f.after in
            let t = freed_table s m xs a11 ys a9 holds f.is fit f.r9 in
            let entry : IsEntry a9 = subst IsEntry (sym f.r9) t.entry in
            let o8 = at_entry a9 8 (a9 + 8) entry (omega arith) refl refl in
            let fits : Fit (xs ++ (a11, false) ∷ ys) = fit_behind xs ((a11, true) ∷ ys) ((a11, false) ∷ ys) (subst Fit f.is fit) (omega arith) refl (sized_behind xs ((a11, true) ∷ ys) (subst (λ bs. Fit bs) f.is fit).sized) in
            rw (o8.here, o8.sort, o8.place) (
            joining _ _ _ _ _ _ _ xs a11 ys (f.r9 ∙ sym t.next) t.table fits (λ b10 b11 b12 b13 b14 b15 z2 x2 u2 p2 quiet2 t2 cells2 few2.
            let fits2 = fit_joined xs (a11, false) ys fits in
            let cell : a8 ≡ cell_at (word x2) 0xEA40 (length xs) = f.r8 ∙ sym t.cells ∙ sym cells2 in
            ⊎_elim
            (λ (empty : xs ≡ []).
            let first : a8 ≡ 0xEA40 = f.r8 ∙ ap (λ l. cell_at (word m) 0xEA40 (length l)) empty in
            let is : frees c.r4 s.heap ≡ joins (a11, false) ys = frees_first c.r4 s.heap (a11, true) ys (f.is ∙ ap (λ l. l ++ (a11, true) ∷ ys) empty) (f.at ∙ ap (λ l. s.heap.base + total l) empty ∙ omega arith) f.size in (
              λ other. absurd (other first),
              λ same. comes _ _ _ _ _ refl (quiet2 ∙ quiet1) (xs ++ joins (a11, false) ys) (is ∙ ap (λ l. l ++ joins (a11, false) ys) (sym empty)) (held s valid m x2 (xs ++ joins (a11, false) ys) holds t2) (omega (arith, few1, few2)),
            ))
            (λ (l : (zs : Blocks) × (b : ℕ × Bool) × (xs ≡ zs ++ b ∷ [])).
            let zs = l.0 in
            let b = l.1 in
            let rest = joins (a11, false) ys in
            let whole : xs ++ rest ≡ zs ++ b ∷ rest = ap (λ k. k ++ rest) l.2 ∙ sym (append_one zs b rest) in
            let was : s.heap.blocks ≡ zs ++ b ∷ (a11, true) ∷ ys = f.is ∙ ap (λ k. k ++ (a11, true) ∷ ys) l.2 ∙ sym (append_one zs b ((a11, true) ∷ ys)) in
            let at : c.r4 ≡ s.heap.base + (total zs + b.0) = (let y = ap total l.2 ∙ total_append zs (b ∷ []) in omega (arith, f.at, y)) in
            let is : frees c.r4 s.heap ≡ zs ++ joins b rest = frees_behind c.r4 s.heap zs b (a11, true) ys was fit.sized valid.heap.joined at f.size in
            let t3 : Table s m x2 (zs ++ b ∷ rest) = subst (λ bs. Table s m x2 bs) whole t2 in
            let e8 : a8 ≡ cell_at (word x2) 0xEA40 (suc (length zs)) = cell ∙ ap (cell_at (word x2) 0xEA40) (ap length l.2 ∙ length_one zs b) in
            let g = entry_of (word x2) zs b rest a8 t3.heap.blocks e8 in
            let at8 = at_entry a8 8 (a8 + 8) g.is (omega arith) refl refl in
            let place8 = entry_place a8 g.is in (
              λ other. rw (at8.here, at8.sort, at8.place) (
                λ free.
                    let bf = flag_false b.1 (sym g.fields.1.0 ∙ free) in
                    let b_is : zs ++ b ∷ rest ≡ zs ++ (b.0, false) ∷ rest = ap (λ u. zs ++ (b.0, u) ∷ rest) bf in
                    joining _ _ _ _ _ _ _ zs b.0 rest e8 (subst (λ bs. Table s m x2 bs) b_is t3) (subst Fit (whole ∙ b_is) fits2) (λ d10 d11 d12 d13 d14 d15 z4 x4 u4 p4 quiet4 t4 cells4 few4.
                    comes _ _ _ _ _ refl (quiet4 ∙ quiet2 ∙ quiet1) (zs ++ joins (b.0, false) rest) (is ∙ ap (λ u. zs ++ joins (b.0, u) rest) bf) (held s valid m x4 (zs ++ joins (b.0, false) rest) holds t4) (omega (arith, few1, few2, few4))),
                λ used.
                    let bt = flag_true b.1 (λ y. used (g.fields.1.0 ∙ y)) in
                    comes _ _ _ _ _ refl (quiet2 ∙ quiet1) (zs ++ b ∷ rest) (is ∙ ap (λ k. zs ++ k) (joins_used b rest bt)) (held s valid m x2 (zs ++ b ∷ rest) holds t3) (omega (arith, few1, few2)),
              ),
              λ same. absurd (let k = place8.1 in omega (arith, same, k)),
            )) (last_of xs)))) found,
      )))
