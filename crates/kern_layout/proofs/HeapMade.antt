-- Words of the heap's table: the blocks in the first entries, in order, and the spare entries behind them.
use Rattle.std.proofs.Common.{◌≡◌, ℕ, zero, suc, ◌+◌, ◌-◌, ◌*◌, ◌/◌, ◌%◌, ◌<◌, ◌≤◌, Bool, false, cond, List, [], ◌∷◌, length, refl, sym, ap, ◌∙◌, subst, arith}
use Rattle.std.specs.Prelude.{◌||◌, nat_lt, nat_eq, slice_index_or}
use Rattle.std.proofs.lemmas.Bool.{eq-eqb, ne_eqb}
use Rattle.psx_base.specs.KernelState.{Heap}
use Rattle.kern_layout.specs.Fields.{Block}
use Rattle.kern_layout.specs.HeapTable.{IsEntry, entry_fields, Linked, Spare, HeapAt}

abbrev pub Blocks : Type 0
Blocks = List (ℕ × Bool)

abbrev pub no_block : ℕ × Bool
no_block = (0, false)

-- the link to entry k, where `len` entries are used
abbrev pub link : ℕ → ℕ → ℕ
link len k = cond (nat_eq k len || nat_eq k 512) 0 (0xD000 + 12 * k)

-- the link to the first spare entry
abbrev pub spare_link : ℕ → ℕ
spare_link k = cond (nat_eq k 512) 0 (0xD000 + 12 * k)

abbrev pub entry_word : Blocks → ℕ → ℕ → ℕ
entry_word bs k o = cond (nat_lt o 4) (link (length bs) (suc k)) (cond (nat_lt o 8) (slice_index_or bs k no_block).0 (cond (slice_index_or bs k no_block).1 1 0))

abbrev pub heap_word : Blocks → ℕ → ℕ
heap_word bs a = entry_word bs ((a - 0xD000) / 12) ((a - 0xD000) % 12)

link_end : (len k : ℕ) → k ≡ len → link len k ≡ 0
link_end len k e = ap (λ b. cond (b || nat_eq k 512) 0 (0xD000 + 12 * k)) (eq-eqb k len e)

link_on : (len k : ℕ) → (k ≡ len → ⊥) → (k ≡ 512 → ⊥) → link len k ≡ 0xD000 + 12 * k
link_on len k a b = ap (λ x. cond (x || nat_eq k 512) 0 (0xD000 + 12 * k)) (ne_eqb k len a) ∙ ap (λ x. cond x 0 (0xD000 + 12 * k)) (ne_eqb k 512 b)

link_spare : (len k : ℕ) → (k ≡ len → ⊥) → link len k ≡ spare_link k
link_spare len k a = ap (λ x. cond (x || nat_eq k 512) 0 (0xD000 + 12 * k)) (ne_eqb k len a)

spare_on : (k : ℕ) → (k ≡ 512 → ⊥) → spare_link k ≡ 0xD000 + 12 * k
spare_on k b = ap (λ x. cond x 0 (0xD000 + 12 * k)) (ne_eqb k 512 b)

module _ (w : ℕ → ℕ) (bs : Blocks) (few : length bs ≤ 512) (s : (a : ℕ) → a % 4 ≡ 0 → 0xD000 ≤ a → a < 0xE800 → w a ≡ heap_word bs a) where
  -- the words of entry k
  entry : (k o : ℕ) → k < 512 → o < 12 → o % 4 ≡ 0 → w (0xD000 + 12 * k + o) ≡ entry_word bs k o
  entry k o lt up al =
      let q : (0xD000 + 12 * k + o - 0xD000) / 12 ≡ k = omega (arith, up) in
      let r : (0xD000 + 12 * k + o - 0xD000) % 12 ≡ o = omega (arith, up) in
      s (0xD000 + 12 * k + o) (omega (arith, al)) (omega arith) (omega (arith, lt, up)) ∙ (λ j. entry_word bs (q j) (r j))

  next : (k : ℕ) → k < 512 → w (0xD000 + 12 * k) ≡ link (length bs) (suc k)
  next k lt = ap w (let e : 0xD000 + 12 * k ≡ 0xD000 + 12 * k + 0 = omega arith in e) ∙ entry k 0 lt (omega arith) refl

  linked_from : (k cell : ℕ) (rest : Blocks) → w cell ≡ link (length bs) k → k + length rest ≡ length bs → ((j : ℕ) → j < length rest → slice_index_or bs (k + j) no_block ≡ slice_index_or rest j no_block) → Linked w cell rest
  linked_from k cell [] c len same = c ∙ link_end (length bs) k (omega arith)
  linked_from k cell (b ∷ rest) c len same =
      let lt : k < 512 = omega (arith, few) in
      let e : w cell ≡ 0xD000 + 12 * k = c ∙ link_on (length bs) k (λ q. omega arith) (λ q. omega (arith, few)) in
      let here : slice_index_or bs k no_block ≡ b = ap (λ j. slice_index_or bs j no_block) (let z : k ≡ k + 0 = omega arith in z) ∙ same 0 (omega arith) in
      subst (λ z. IsEntry z × Block w z (entry_fields b) × Linked w z rest) (sym e) (
        (k, lt, refl),
        (entry k 4 lt (omega arith) refl ∙ ap (λ (x : ℕ × Bool). x.0) here, (entry k 8 lt (omega arith) refl ∙ ap (λ (x : ℕ × Bool). cond x.1 1 0) here, tt)),
        linked_from (suc k) (0xD000 + 12 * k) rest (next k lt) (omega arith) (λ j l. ap (λ i. slice_index_or bs i no_block) (let z : suc k + j ≡ k + suc j = omega arith in z) ∙ same (suc j) (omega arith)),
      )

  spare_from : (n k cell : ℕ) → w cell ≡ spare_link k → k + n ≡ 512 → length bs ≤ k → Spare w cell n
  spare_from zero k cell c len le = c ∙ ap (λ x. cond x 0 (0xD000 + 12 * k)) (eq-eqb k 512 (omega arith))
  spare_from (suc n) k cell c len le =
      let lt : k < 512 = omega arith in
      let e : w cell ≡ 0xD000 + 12 * k = c ∙ spare_on k (λ q. omega arith) in
      subst (λ z. IsEntry z × (w (z + 4) ≡ 0) × Spare w z n) (sym e) (
        (k, lt, refl),
        entry k 4 lt (omega arith) refl ∙ ap (λ (x : ℕ × Bool). x.0) (Rattle.std.proofs.lemmas.List.get_or_past bs k no_block le),
        spare_from n (suc k) (0xD000 + 12 * k) (next k lt ∙ link_spare (length bs) (suc k) (λ q. omega arith)) (omega arith) (omega arith),
      )

  pub heap_made : (h : Heap) → h.blocks ≡ bs → w 0xEA40 ≡ link (length bs) 0 → w 0xEA44 ≡ spare_link (length bs) → HeapAt w h
  heap_made h is first spare = record {
    blocks = subst (λ z. Linked w 0xEA40 z) (sym is) (linked_from 0 0xEA40 bs first (omega arith) (λ j l. ap (λ i. slice_index_or bs i no_block) (let z : 0 + j ≡ j = omega arith in z)));
    spare = subst (λ z. Spare w 0xEA44 (512 - length z)) (sym is) (spare_from (512 - length bs) (length bs) 0xEA44 spare (omega (arith, few)) (omega arith));
  }
