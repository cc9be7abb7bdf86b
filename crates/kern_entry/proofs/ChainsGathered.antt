-- The chains' elements are put into the work area, one chain behind the other, from the last one on.
use Rattle.psx_flow.proofs.Kit.{◌≡◌, ℕ, ◌+◌, ◌*◌, ◌%◌, ◌^◌, ◌<◌, ◌≤◌, ◌++◌, inl, inr, List, [], ◌∷◌, length, refl, sym, ap, ◌∙◌, subst, arith, ⊎_elim, Memory, word, Registers, Cop0, Access, Goal, Tree, Stop, Do, When, Visit, Calls, Part, Count, Sym, word_sort, Kernel, place}
use Rattle.psx_flow.specs.declared.node.Test.TheVariants.{Differ}
use Rattle.std.proofs.lemmas.List.{length-append}
use Rattle.psx_ins.specs.declared.reg.Reg.{Reg}
use Rattle.psx_ins.specs.declared.ins.Ins.TheVariants.{LW, ADDIU, SLL, ADDU}
use Rattle.psx_base.specs.KernelState.{KernelState}
use Rattle.psx_cpu.specs.Words.{sign_extended}
use Rattle.psx_flow.specs.Told.{ports}
use Rattle.kern_layout.specs.Fields.{Stack}
use Rattle.kern_layout.specs.Reads.{ChainAt, chain_at, chain, ChainsAt}
use Rattle.kern_layout.proofs.Blocks.{stack_same}
use Rattle.kern_layout.proofs.Copied.{stack_copied}
use Rattle.kern_layout.proofs.Moved.{stack_join}
use Rattle.kern_stay.specs.Copy.{WordsCopied}
use Rattle.kern_stay.proofs.Copying.{data_place, data_sort}
use Rattle.kern_stay.proofs.CopyingOn.{CopiesOn}
use Rattle.kern_entry.specs.declared.places.TheConstants.{COPY}
use Rattle.kern_entry.proofs.TasksHeld.{Sized, Behind}

abbrev r : ℕ → Reg
r n = record { 0 = n }

-- a chain, in the listing: its count is loaded by i, and its elements stand from f on
abbrev pub chain_tree : (i f : ℕ) → Tree → Tree
chain_tree i f rest = Do (LW (r 14) (r 10) i) (Do (ADDIU (r 14) (r 8) f) (When (Differ (r 10) (r 0)) (Do (SLL (r 10) (r 10) 2) (Do (ADDU (r 8) (r 10) (r 10)) (Visit COPY Stop))) rest))

-- so far these elements are there, the first one last; nothing else is written, and these accesses to ports were made
pub record Gathered (m : Memory) (es : List ℕ) (bits : ℕ) (told : List Access) (most : ℕ) (c : Registers) (n : Memory) (q : List Access) (p : Count) : Type 0 where
  pub same : Behind m n
  pub stack : Stack (word n) 0xEC00 es
  pub r2 : c.r2 ≡ 0
  pub r9 : c.r9 ≡ 0x80000000 + (0xEC00 + 4 * length es)
  pub r14 : c.r14 ≡ 0x80010000
  pub r16 : c.r16 ≡ bits
  pub told_is : ports q ≡ told
  pub within : p.steps ≤ most

-- where chain j is, as the listing reaches it
pub record Reached (j i f : ℕ) : Type 0 where
  pub here : (0x80010000 + sign_extended i) % 2 ^ 32 ≡ 0x80000000 + chain_at j
  pub from : (0x80010000 + sign_extended f) % 2 ^ 32 ≡ 0x80000000 + (chain_at j + 4)

-- the elements of a chain behind those that are there
pub copied_stack : (m n o : Memory) (from : ℕ) (xs es : List ℕ) → length es ≤ 24 → length xs ≤ 8 → Behind m n → WordsCopied n o from (0xEC00 + 4 * length es) (length xs) → Stack (word n) 0xEC00 es → Stack (word n) from xs → Stack (word o) 0xEC00 (xs ++ es)
copied_stack m n o from xs es few small same w old new =
    stack_join (word o) 0xEC00 es xs
    (stack_same (word n) (word o) 0xEC00 (0xEC00 + 4 * length es) es refl (omega arith) (λ a al lo up. w.words a al (inl (omega (arith, up)))) old)
    (stack_copied (word n) (word o) from (0xEC00 + 4 * length es) xs (λ k lt. w.copied k lt) new)

pub copied_behind : (m n o : Memory) (from to count : ℕ) → 0xEC00 ≤ to → to + 4 * count ≤ 0x10000 → Behind m n → WordsCopied n o from to count → Behind m o
copied_behind m n o from to count low high same w = record {
  words = λ a al up. w.words a al (inl (omega (arith, up, low))) ∙ same.words a al up;
  bytes = λ a out. w.bytes a (⊎_elim (λ l. inl (omega (arith, l, low))) (λ g. inr (omega (arith, g, high))) out) ∙ same.bytes a out;
}

module _ (C : Calls) (know : CopiesOn COPY C) (G : ℕ → Goal) (s : KernelState) (sz : Sized s) (m : Memory) (held : ChainsAt (word m) s.chains) (bits : ℕ) (told : List Access) where
  chain_held : (n : Memory) → Behind m n → (j : ℕ) → j < 4 → ChainAt (word n) (chain_at j) (chain s j)
  chain_held n same j lt =
      let len = sz.chains_count in
      let h = held j (omega (arith, lt, len)) in
      let small = (sz.chains j [] (omega (arith, lt, len))).few in
      record {
        count = same.words (chain_at j) (omega arith) (omega (arith, lt)) ∙ h.count;
        elements = stack_same (word m) (word n) (chain_at j + 4) (chain_at j + 0x40) (chain s j) (omega arith) (omega (arith, small)) (λ a al lo up. same.words a al (omega (arith, lt, up))) h.elements;
      }

  module _ (j i f : ℕ) (lt : j < 4) (at_chain : Reached j i f) (rest : Tree) (at : ℕ) (K : Part) (es : List ℕ) (few : length es ≤ 24) (most : ℕ) where
    abbrev xs : List ℕ
    xs = chain s j

    pub gathers : (c : Registers) (z : Cop0) (n : Memory) (q : List Access) (p : Count) → Gathered m es bits told most c n q p
        → ((d : Registers) (o : Memory) (u : List Access) (l : Count) → Gathered m (xs ++ es) bits told (most + 80) d o u l → Sym C rest (at + 4 + 4 + 24) K G d z o [] u l)
        → Sym C (chain_tree i f rest) at K G c z n [] q p
    gathers c z n q p h go =
        let chain : ChainAt (word n) (chain_at j) xs = chain_held n h.same j lt in
        let small : length xs ≤ 8 = (sz.chains j [] (let len = sz.chains_count in omega (arith, lt, len))).few in
        let sort : word_sort (0x80000000 + chain_at j) ≡ Kernel = data_sort (chain_at j) (omega arith) (omega arith) (omega (arith, lt)) in
        let at_place : place (0x80000000 + chain_at j) ≡ chain_at j = data_place (chain_at j) (omega (arith, lt)) in
        let count = chain.count in
        let within = h.within in
        rw (h.r14, at_chain.here, sort, at_place, count, at_chain.from) (
          λ some. know.copy _ _ _ _ _ _ (chain_at j + 4) (0xEC00 + 4 * length es) (length xs)
              (record {
                r8 = refl;
                r9 = h.r9;
                r10 = omega (arith, small, lt);
                even = (omega arith, omega arith);
                low = (omega arith, omega arith);
                high = (omega (arith, small, lt), omega (arith, small, few));
                apart = inl (omega (arith, small, lt));
              })
              (λ o x y v u l y_is w quiet steps. go _ o u l record {
                same = copied_behind m n o (chain_at j + 4) (0xEC00 + 4 * length es) (length xs) (omega arith) (omega (arith, small, few)) h.same w;
                stack = copied_stack m n o (chain_at j + 4) xs es few small h.same w h.stack chain.elements;
                r2 = h.r2;
                r9 = y_is ∙ (let e = length-append xs es in omega (arith, e));
                r14 = refl;
                r16 = h.r16;
                told_is = quiet ∙ h.told_is;
                within = omega (arith, steps, within, small);
              }),
          λ none.
              let empty : xs ≡ [] = no_elements xs none in
              go _ n _ _ record {
                same = h.same;
                stack = subst (λ l. Stack (word n) 0xEC00 (l ++ es)) (sym empty) h.stack;
                r2 = h.r2;
                r9 = h.r9 ∙ ap (λ l. 0x80000000 + (0xEC00 + 4 * length (l ++ es))) (sym empty);
                r14 = refl;
                r16 = h.r16;
                told_is = h.told_is;
                within = omega (arith, within);
              },
        )
      where
        no_elements : (l : List ℕ) → length l ≡ 0 → l ≡ []
        no_elements [] e = refl
        no_elements (x ∷ l) e = absurd (omega (arith, e))
