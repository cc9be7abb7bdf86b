-- The lines that are due are put into the work area, from the last one on, behind the elements and their count.
use Rattle.psx_flow.proofs.Kit.{◌≡◌, ℕ, suc, ◌+◌, ◌*◌, ◌%◌, ◌^◌, ◌<◌, ◌≤◌, ◌⊎◌, inl, inr, List, ◌∷◌, length, true, false, refl, sym, ap, ◌∙◌, subst, arith, ⊎_elim, Memory, word, put_word, Registers, Cop0, Access, Goal, Tree, Stop, Do, When, Calls, Part, Count, Sym, Entry, applied, word_sort, Kernel, place}
use Rattle.psx_flow.specs.declared.node.Test.TheVariants.{Differ}
use Rattle.std.proofs.Common.{Bool, cond, bit_and, eq-eqb, ne_eqb}
use Rattle.std.specs.Prelude.{not, nat_eq}
use Rattle.psx_ins.specs.declared.reg.Reg.{Reg}
use Rattle.psx_ins.specs.declared.ins.Ins.TheVariants.{SW, ADDIU, ANDI}
use Rattle.psx_cpu.specs.Words.{sign_extended}
use Rattle.psx_flow.specs.Told.{ports}
use Rattle.psx_flow.proofs.Log.{KernelWord}
use Rattle.kern_layout.specs.Fields.{Stack}
use Rattle.kern_layout.proofs.Blocks.{put_here, put_other, stack_same}
use Rattle.kern_layout.proofs.MemoryStored.{word_stored}
use Rattle.kern_stay.proofs.Copying.{data_place, data_sort}
use Rattle.kern_entry.proofs.TasksHeld.{Behind, behind_put}

abbrev r : ℕ → Reg
r n = record { 0 = n }

-- a line, in the listing: its bit is taken by b, its number is n, and it is stored by f
abbrev pub line_tree : (b n f : ℕ) → Tree → Tree
line_tree b n f rest = Do (ANDI (r 16) (r 11) b) (When (Differ (r 11) (r 0)) (Do (ADDIU (r 0) (r 11) n) (Do (SW (r 13) (r 11) f) (Do (ADDIU (r 13) (r 13) 4) Stop))) rest)

-- line 0 has its number in r0
abbrev pub first_tree : (b f : ℕ) → Tree → Tree
first_tree b f rest = Do (ANDI (r 16) (r 11) b) (When (Differ (r 11) (r 0)) (Do (SW (r 13) (r 0) f) (Do (ADDIU (r 13) (r 13) 4) Stop)) rest)

-- the memory has the elements, their count, and these lines so far
pub record HasTasks (m : Memory) (es ls : List ℕ) (n : Memory) : Type 0 where
  pub same : Behind m n
  pub elements : Stack (word n) 0xEC00 es
  pub count : word n 0xEBA8 ≡ length es
  pub lines : Stack (word n) 0xEBB0 ls

pub record Lined (m : Memory) (es ls : List ℕ) (bits ra : ℕ) (told : List Access) (most : ℕ) (c : Registers) (n : Memory) (w : List Entry) (q : List Access) (p : Count) : Type 0 where
  pub has : HasTasks m es ls (applied n w)
  pub r2 : c.r2 ≡ 0
  pub r13 : c.r13 ≡ 0x80010000 + 4 * length ls
  pub r14 : c.r14 ≡ 0x80010000
  pub r16 : c.r16 ≡ bits
  pub r31 : c.r31 ≡ ra
  pub told_is : ports q ≡ told
  pub within : p.steps ≤ most

-- a line is stored before those that are there
pub has_more : (m : Memory) (es ls : List ℕ) (n : Memory) (l v : ℕ) → v ≡ l → length es ≤ 32 → length ls ≤ 3 → HasTasks m es ls n → HasTasks m es (l ∷ ls) (put_word n (0xEBB0 + 4 * length ls) v)
has_more m es ls n l v v_is few small h =
    let at : ℕ = 0xEBB0 + 4 * length ls in
    let o : Memory = put_word n at v in
    let kept : (a : ℕ) → a % 4 ≡ 0 → (a < at) ⊎ (at < a) → word o a ≡ word n a = λ a al out. word_stored n at v a (omega arith) al ∙ put_other (word n) at v a (λ e. ⊎_elim (λ lo. omega (arith, e, lo)) (λ hi. omega (arith, e, hi)) out) in
    record {
      same = behind_put m n at v (omega arith) (omega arith) (omega (arith, small)) h.same;
      elements = stack_same (word n) (word o) 0xEC00 0xEC80 es refl (omega (arith, few)) (λ a al lo up. kept a al (inr (omega (arith, lo, small)))) h.elements;
      count = kept 0xEBA8 refl (inl (omega arith)) ∙ h.count;
      lines = (
        word_stored n at v at (omega arith) (omega arith) ∙ put_here (word n) at v ∙ v_is,
        stack_same (word n) (word o) 0xEBB0 at ls refl (omega arith) (λ a al lo up. kept a al (inl up)) h.lines,
      );
    }

module _ (bits : ℕ) where
  abbrev pub bit_of : (line : ℕ) → Bool
  bit_of line = not (nat_eq (bit_and bits (2 ^ line)) 0)

  -- with the line where its bit is there
  abbrev pub with_line : (line : ℕ) → List ℕ → List ℕ
  with_line line ls = cond (bit_of line) (line ∷ ls) ls

  has_bit : (line v : ℕ) → v ≡ bit_and bits (2 ^ line) → (v ≡ 0 → ⊥) → bit_of line ≡ true
  has_bit line v e ne = ap not (ne_eqb (bit_and bits (2 ^ line)) 0 (λ z. ne (e ∙ z)))

  no_bit : (line v : ℕ) → v ≡ bit_and bits (2 ^ line) → v ≡ 0 → bit_of line ≡ false
  no_bit line v e z = ap not (eq-eqb (bit_and bits (2 ^ line)) 0 (sym e ∙ z))

module _ (C : Calls) (G : ℕ → Goal) (m : Memory) (es : List ℕ) (few : length es ≤ 32) (bits ra : ℕ) (told : List Access) where
  module _ (line : ℕ) (ls : List ℕ) (small : length ls ≤ 3) (most : ℕ) (n : Memory) (q : List Access) where
    -- where a line is stored
    record Slot : Type 0 where
      here : (0x80010000 + 4 * length ls + 0xFFFFEBB0) % 2 ^ 32 ≡ 0x80000000 + (0xEBB0 + 4 * length ls)
      sort : word_sort (0x80000000 + (0xEBB0 + 4 * length ls)) ≡ Kernel
      at : place (0x80000000 + (0xEBB0 + 4 * length ls)) ≡ 0xEBB0 + 4 * length ls

    slot : Slot
    slot = record {
      here = omega (arith, small);
      sort = data_sort (0xEBB0 + 4 * length ls) (omega arith) (omega arith) (omega (arith, small));
      at = data_place (0xEBB0 + 4 * length ls) (omega (arith, small));
    }

    stored : (c d : Registers) (w : List Entry) (u : List Access) (p l : Count) (v : ℕ) → v ≡ line → Lined m es ls bits ra told most c n w q p → bit_of bits line ≡ true → d.r2 ≡ c.r2 → d.r13 ≡ (0x80010000 + 4 * length ls + 4) % 2 ^ 32 → d.r14 ≡ c.r14 → d.r16 ≡ c.r16 → d.r31 ≡ c.r31 → ports u ≡ ports q → l.steps ≤ p.steps + 6
        → Lined m es (with_line bits line ls) bits ra told (most + 6) d n (KernelWord (0xEBB0 + 4 * length ls) v ∷ w) u l
    stored c d w u p l v v_is h due r2 r13 r14 r16 r31 quiet steps =
        let within = h.within in
        subst (λ b. Lined m es (cond b (line ∷ ls) ls) bits ra told (most + 6) d n (KernelWord (0xEBB0 + 4 * length ls) v ∷ w) u l) (sym due) record {
          has = has_more m es ls (applied n w) line v v_is few small h.has;
          r2 = r2 ∙ h.r2;
          r13 = r13 ∙ (let e : (0x80010000 + 4 * length ls + 4) % 2 ^ 32 ≡ 0x80010000 + 4 * suc (length ls) = omega (arith, small) in e);
          r14 = r14 ∙ h.r14;
          r16 = r16 ∙ h.r16;
          r31 = r31 ∙ h.r31;
          told_is = quiet ∙ h.told_is;
          within = omega (arith, within, steps);
        }

    passed : (c d : Registers) (w : List Entry) (p l : Count) → Lined m es ls bits ra told most c n w q p → bit_of bits line ≡ false → d.r2 ≡ c.r2 → d.r13 ≡ c.r13 → d.r14 ≡ c.r14 → d.r16 ≡ c.r16 → d.r31 ≡ c.r31 → l.steps ≤ p.steps + 6
        → Lined m es (with_line bits line ls) bits ra told (most + 6) d n w q l
    passed c d w p l h not_due r2 r13 r14 r16 r31 steps =
        let within = h.within in
        subst (λ b. Lined m es (cond b (line ∷ ls) ls) bits ra told (most + 6) d n w q l) (sym not_due) record {
          has = h.has;
          r2 = r2 ∙ h.r2;
          r13 = r13 ∙ h.r13;
          r14 = r14 ∙ h.r14;
          r16 = r16 ∙ h.r16;
          r31 = r31 ∙ h.r31;
          told_is = h.told_is;
          within = omega (arith, within, steps);
        }

    module _ (rest : Tree) (at : ℕ) (K : Part) where
      abbrev Goes : Cop0 → ℕ → Type 0
      Goes z behind = (d : Registers) (w : List Entry) (u : List Access) (l : Count) → Lined m es (with_line bits line ls) bits ra told (most + 6) d n w u l → Sym C rest behind K G d z n w u l

      pub gathers_line : (b number : ℕ) → b ≡ 2 ^ line → number ≡ line → sign_extended line ≡ line → line < 0x8000 → (c : Registers) (z : Cop0) (w : List Entry) (p : Count) → Lined m es ls bits ra told most c n w q p → Goes z (at + 4 + 20) → Sym C (line_tree b number 0xEBB0 rest) at K G c z n w q p
      gathers_line b number b_is number_is low few_line c z w p h go =
          let s = slot in
          let bit : bit_and bits b ≡ bit_and bits (2 ^ line) = ap (bit_and bits) b_is in
          let whole : (0 + sign_extended number) % 2 ^ 32 ≡ line = ap (λ x. (0 + sign_extended x) % 2 ^ 32) number_is ∙ (let e : (0 + sign_extended line) % 2 ^ 32 ≡ line = omega (arith, low, few_line) in e) in
          rw (h.r16, h.r13, s.here, s.sort, s.at, whole) (
            λ some. go _ _ _ _ (stored c _ w _ p _ line refl h (has_bit bits line (bit_and bits b) bit some) refl refl refl (sym h.r16) refl refl (omega arith)),
            λ none. go _ _ _ _ (passed c _ w p _ h (no_bit bits line (bit_and bits b) bit none) refl (sym h.r13) refl (sym h.r16) refl (omega arith)),
          )

      pub gathers_first : (b : ℕ) → b ≡ 2 ^ line → line ≡ 0 → (c : Registers) (z : Cop0) (w : List Entry) (p : Count) → Lined m es ls bits ra told most c n w q p → Goes z (at + 4 + 16) → Sym C (first_tree b 0xEBB0 rest) at K G c z n w q p
      gathers_first b b_is is c z w p h go =
          let s = slot in
          let bit : bit_and bits b ≡ bit_and bits (2 ^ line) = ap (bit_and bits) b_is in
          rw (h.r16, h.r13, s.here, s.sort, s.at) (
            λ some. go _ _ _ _ (stored c _ w _ p _ 0 (sym is) h (has_bit bits line (bit_and bits b) bit some) refl refl refl (sym h.r16) refl refl (omega arith)),
            λ none. go _ _ _ _ (passed c _ w p _ h (no_bit bits line (bit_and bits b) bit none) refl (sym h.r13) refl (sym h.r16) refl (omega arith)),
          )
