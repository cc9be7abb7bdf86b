-- A call of COPY that goes on from where the words have gone to.
use Rattle.psx_flow.proofs.Kit.{◌≡◌, ℕ, ◌+◌, ◌*◌, ◌≤◌, List, [], ◌∷◌, refl, sym, subst, Memory, Registers, Run, Meets, Calls, calls, Tree, kernel_words, Fair, fair, Part, Anew, Count, counted, Calling, run, Access, Cop0}
use Rattle.std.specs.Prelude.{nat_eq, false}
use Rattle.psx_flow.specs.Told.{ports}
use Rattle.psx_flow.proofs.Rules.{meets_mono}
use Rattle.psx_flow.proofs.Knows.{first_call, later_call}
use Rattle.kern_stay.specs.Shared.{tree}
use Rattle.kern_stay.specs.declared.copy.TheConstants.{COPY_NODES}
use Rattle.kern_stay.specs.Copy.{WordsCopied, NamesBlocks, Copied}
use Rattle.kern_stay.proofs.Copying.{copies}

-- what goes on with the run, where no store is logged
abbrev pub OnCopied : Part → Registers → Cop0 → Memory → List Access → Count → (from to count : ℕ) → Type 0
OnCopied k c z m q p from to count =
    (n : Memory) (x y v : ℕ) (seen : List Access) (later : Count) → y ≡ 0x80000000 + (to + 4 * count) → WordsCopied m n from to count → ports seen ≡ ports q → later.steps ≤ p.steps + (8 * count + 4) → k (record c { r8 = x; r9 = y; r12 = v }) z n [] seen later

module _ (C : Calls) (fair : Fair C) (k : Part) (c : Registers) (z : Cop0) (m : Memory) (q : List Access) (p : Count) (from to count : ℕ) (names : NamesBlocks c from to count) (known : OnCopied k c z m q p from to count) where
  goes : (to_at : ℕ) (e : Run) → Copied (run c z m [] q p) from to count to_at e → (to_at ≡ c.r31) × Anew k e
  goes to_at e h =
      let there : k (record c { r8 = e.regs.r8; r9 = e.regs.r9; r12 = e.regs.r12 }) z e.bytes [] e.seen (counted e) = known e.bytes e.regs.r8 e.regs.r9 e.regs.r12 e.seen (counted e) h.next h.words h.ports h.within in
      (h.back, record { memory = e.bytes; log = []; same = refl; sorted = tt; goes = subst (λ x. k x e.cop0 e.bytes [] e.seen (counted e)) (sym h.regs) (subst (λ x. k (record c { r8 = e.regs.r8; r9 = e.regs.r9; r12 = e.regs.r12 }) x e.bytes [] e.seen (counted e)) (sym h.cop0) there) })

  pub gives_on : (place : ℕ) → Meets kernel_words C (tree COPY_NODES) place (λ _. ⊥) (λ b e. (b ≡ c.r31) × Anew k e) (run c z m [] q p)
  gives_on place =
      meets_mono kernel_words C fair (tree COPY_NODES) place (λ _. ⊥) (λ _. ⊥) (λ b e. Copied (run c z m [] q p) from to count b e) (λ b e. (b ≡ c.r31) × Anew k e) (run c z m [] q p) (λ e x. x) (λ b e h. goes b e h)
      (copies C fair place (run c z m [] q p) from to count names)

-- where it stands
pub record CopiesOn (place : ℕ) (C : Calls) : Type 1 where
  pub copy : (k : Part) (c : Registers) (z : Cop0) (m : Memory) (q : List Access) (p : Count) (from to count : ℕ) → NamesBlocks c from to count → OnCopied k c z m q p from to count → Calling C place c.r31 k c z m [] q p

pub copies_on : (place : ℕ) (ls : List (ℕ × Tree)) → CopiesOn place (calls kernel_words ((place, tree COPY_NODES) ∷ ls))
copies_on place ls = record {
  copy = λ k c z m q p from to count names known. record {
    called = λ ok. first_call place (tree COPY_NODES) ls c.r31 (Anew k) (run c z m [] q p) refl (gives_on (calls kernel_words ls) (fair kernel_words ls) k c z m q p from to count names known place);
  };
}

-- and behind a listing that stands elsewhere
pub copies_on_behind : (place : ℕ) (l : ℕ × Tree) (ls : List (ℕ × Tree)) → nat_eq place l.0 ≡ false → CopiesOn place (calls kernel_words ls) → CopiesOn place (calls kernel_words (l ∷ ls))
copies_on_behind place l ls far know = record {
  copy = λ k c z m q p from to count names known. record { called = λ ok. later_call place l ls c.r31 (Anew k) (run c z m [] q p) far ((know.copy k c z m q p from to count names known).called ok) };
}
