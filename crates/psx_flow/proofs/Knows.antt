-- What a routine takes of the listings of `tested` that it calls, wherever they stand.
use Rattle.psx_flow.proofs.Kit.{◌≡◌, ℕ, ◌^◌, ◌<◌, List, [], ◌∷◌, true, false, refl, sym, subst, Memory, Registers, Cop0, Goal, Calls, calls, Access, Run, Tree, Meets, Fair, fair, Part, Anew, Calling, Count, run, Entry, kernel_words}
use Rattle.std.proofs.Common.{cond, eq-eqb}
use Rattle.std.specs.Prelude.{nat_eq}
use Rattle.psx_flow.specs.declared.kinds.Tested.TheVariants.{ReadByte, WriteByte, ReadWord, WriteWord}
use Rattle.psx_flow.specs.Meets.{MeetsEach}
use Rattle.psx_flow.proofs.Rules.{no_jump, by_no_jump}
use Rattle.psx_flow.proofs.TestedTrees.{tree}
use Rattle.psx_flow.proofs.Accesses.{ReadsByte, WritesByte, ReadsWord, WritesWord, reads_byte, writes_byte, reads_word, writes_word}

-- the addresses of the four listings
pub record Places : Type 0 where
  pub read_byte : ℕ
  pub write_byte : ℕ
  pub read_word : ℕ
  pub write_word : ℕ

-- no two are the same
pub record Apart (P : Places) : Type 0 where
  pub write_byte : nat_eq P.write_byte P.read_byte ≡ false
  pub read_word : nat_eq P.read_word P.read_byte ≡ false
  pub read_word' : nat_eq P.read_word P.write_byte ≡ false
  pub write_word : nat_eq P.write_word P.read_byte ≡ false
  pub write_word' : nat_eq P.write_word P.write_byte ≡ false
  pub write_word'' : nat_eq P.write_word P.read_word ≡ false

abbrev pub tested_at : Places → List (ℕ × Tree)
tested_at P = (P.read_byte, tree ReadByte) ∷ (P.write_byte, tree WriteByte) ∷ (P.read_word, tree ReadWord) ∷ (P.write_word, tree WriteWord) ∷ []

pub record Knows (P : Places) (C : Calls) : Type 1 where
  pub fair : Fair C
  pub read_byte : (k : Part) (c : Registers) (z : Cop0) (m : Memory) (w : List Entry) (q : List Access) (p : Count) → c.r8 < 2 ^ 32 → ReadsByte k c z m w q p → Calling C P.read_byte c.r31 k c z m w q p
  pub write_byte : (k : Part) (c : Registers) (z : Cop0) (m : Memory) (w : List Entry) (q : List Access) (p : Count) → c.r8 < 2 ^ 32 → WritesByte k c z m w q p → Calling C P.write_byte c.r31 k c z m w q p
  pub read_word : (k : Part) (c : Registers) (z : Cop0) (m : Memory) (w : List Entry) (q : List Access) (p : Count) → c.r8 < 2 ^ 32 → ReadsWord k c z m w q p → Calling C P.read_word c.r31 k c z m w q p
  pub write_word : (k : Part) (c : Registers) (z : Cop0) (m : Memory) (w : List Entry) (q : List Access) (p : Count) → c.r8 < 2 ^ 32 → WritesWord k c z m w q p → Calling C P.write_word c.r31 k c z m w q p

-- a call of the first listing, which holds no Jump, and of one behind it
pub first_call : (a : ℕ) (T : Tree) (ls : List (ℕ × Tree)) (back : ℕ) (K : Goal) (s : Run) → no_jump T ≡ true → Meets kernel_words (calls kernel_words ls) T a (λ _. ⊥) (λ b m. (b ≡ back) × K m) s → calls kernel_words ((a, T) ∷ ls) a back K s
first_call a T ls back K s none h =
    subst (λ b. cond b (MeetsEach kernel_words (calls kernel_words ls) T a (λ _. ⊥) (λ _ _. ⊥) (λ b m. (b ≡ back) × K m) s) (calls kernel_words ls a back K s)) (sym (eq-eqb a a refl))
    (by_no_jump kernel_words (calls kernel_words ls) (fair kernel_words ls) T a _ _ _ _ s none (λ m x. x) h)

pub later_call : (a : ℕ) (l : ℕ × Tree) (ls : List (ℕ × Tree)) (back : ℕ) (K : Goal) (s : Run) → nat_eq a l.0 ≡ false → calls kernel_words ls a back K s → calls kernel_words (l ∷ ls) a back K s
later_call a l ls back K s e h = subst (λ b. cond b (MeetsEach kernel_words (calls kernel_words ls) l.1 l.0 (λ _. ⊥) (λ _ _. ⊥) (λ b m. (b ≡ back) × K m) s) (calls kernel_words ls a back K s)) (sym e) h

-- the four
pub knows_tested : (P : Places) → Apart P → Knows P (calls kernel_words (tested_at P))
knows_tested P far =
    let l0 : ℕ × Tree = (P.read_byte, tree ReadByte) in
    let l1 : ℕ × Tree = (P.write_byte, tree WriteByte) in
    let l2 : ℕ × Tree = (P.read_word, tree ReadWord) in
    let l3 : ℕ × Tree = (P.write_word, tree WriteWord) in
    let ls2 : List (ℕ × Tree) = l3 ∷ [] in
    let ls1 : List (ℕ × Tree) = l2 ∷ ls2 in
    let ls0 : List (ℕ × Tree) = l1 ∷ ls1 in
    record {
      fair = fair kernel_words (tested_at P);
      read_byte = λ k c z m w q p h x. record {
        called = λ ok. first_call P.read_byte (tree ReadByte) ls0 c.r31 (Anew k) (run c z m w q p) refl (reads_byte (calls kernel_words ls0) (fair kernel_words ls0) k P.read_byte c z m w q p h ok x);
      };
      write_byte = λ k c z m w q p h x. record {
        called = λ ok. later_call P.write_byte l0 ls0 c.r31 (Anew k) (run c z m w q p) far.write_byte
            (first_call P.write_byte (tree WriteByte) ls1 c.r31 (Anew k) (run c z m w q p) refl (writes_byte (calls kernel_words ls1) (fair kernel_words ls1) k P.write_byte c z m w q p h ok x));
      };
      read_word = λ k c z m w q p h x. record {
        called = λ ok. later_call P.read_word l0 ls0 c.r31 (Anew k) (run c z m w q p) far.read_word
            (later_call P.read_word l1 ls1 c.r31 (Anew k) (run c z m w q p) far.read_word'
            (first_call P.read_word (tree ReadWord) ls2 c.r31 (Anew k) (run c z m w q p) refl (reads_word (calls kernel_words ls2) (fair kernel_words ls2) k P.read_word c z m w q p h ok x)));
      };
      write_word = λ k c z m w q p h x. record {
        called = λ ok. later_call P.write_word l0 ls0 c.r31 (Anew k) (run c z m w q p) far.write_word
            (later_call P.write_word l1 ls1 c.r31 (Anew k) (run c z m w q p) far.write_word'
            (later_call P.write_word l2 ls2 c.r31 (Anew k) (run c z m w q p) far.write_word''
            (first_call P.write_word (tree WriteWord) [] c.r31 (Anew k) (run c z m w q p) refl (writes_word (calls kernel_words []) (fair kernel_words []) k P.write_word c z m w q p h ok x))));
      };
    }

-- and they before listings that stand elsewhere
pub record Elsewhere (P : Places) (a : ℕ) : Type 0 where
  pub read_byte : nat_eq P.read_byte a ≡ false
  pub write_byte : nat_eq P.write_byte a ≡ false
  pub read_word : nat_eq P.read_word a ≡ false
  pub write_word : nat_eq P.write_word a ≡ false

pub knows_more : (P : Places) (l : ℕ × Tree) (ls : List (ℕ × Tree)) → Elsewhere P l.0 → Knows P (calls kernel_words ls) → Knows P (calls kernel_words (l ∷ ls))
knows_more P l ls far know = record {
  fair = fair kernel_words (l ∷ ls);
  read_byte = λ k c z m w q p h x. record { called = λ ok. later_call P.read_byte l ls c.r31 (Anew k) (run c z m w q p) far.read_byte ((know.read_byte k c z m w q p h x).called ok) };
  write_byte = λ k c z m w q p h x. record { called = λ ok. later_call P.write_byte l ls c.r31 (Anew k) (run c z m w q p) far.write_byte ((know.write_byte k c z m w q p h x).called ok) };
  read_word = λ k c z m w q p h x. record { called = λ ok. later_call P.read_word l ls c.r31 (Anew k) (run c z m w q p) far.read_word ((know.read_word k c z m w q p h x).called ok) };
  write_word = λ k c z m w q p h x. record { called = λ ok. later_call P.write_word l ls c.r31 (Anew k) (run c z m w q p) far.write_word ((know.write_word k c z m w q p h x).called ok) };
}
