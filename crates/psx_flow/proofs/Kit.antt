-- The rules by which a routine is proved, and the names that its proof cites.
pub use Rattle.std.proofs.Common.{◌≡◌, ◌≢◌, ℕ, suc, ◌+◌, ◌-◌, ◌*◌, ◌%◌, ◌^◌, ◌<◌, ◌≤◌, ◌++◌, ◌⊎◌, inl, inr, List, [], ◌∷◌, length, true, false, refl, sym, ap, ◌∙◌, subst, arith, ⊎_elim}
use Rattle.std.proofs.Common.{zero}
pub use Rattle.psx_base.specs.Memory.{Memory, byte, word, put_byte, put_word}
pub use Rattle.psx_base.specs.Registers.{Registers}
pub use Rattle.psx_base.specs.Addresses.{place, user}
pub use Rattle.psx_cpu.specs.Processor.{Cop0}
pub use Rattle.psx_flow.specs.declared.node.Test.{Test}
pub use Rattle.psx_flow.specs.declared.node.Test.TheVariants.{Same, Differ, NotAbove, Above, Negative, NotNegative}
pub use Rattle.psx_flow.specs.Tree.{Tree, Stop, Do, When, Choose, Loop, Visit, Go, GoTo, size}
pub use Rattle.psx_flow.specs.Lowered.{opposite}
pub use Rattle.psx_flow.specs.Run.{Run, Access, Load, Store, PortRead, PortWrite}
pub use Rattle.psx_flow.specs.Meets.{Meets, Goal, Calls, calls, passing}
use Rattle.psx_flow.specs.Meets.{branching, Turns}
pub use Rattle.psx_flow.specs.Kernel.{kernel_words}
pub use Rattle.psx_flow.proofs.Rules.{Fair, fair}
pub use Rattle.psx_flow.proofs.Log.{Entry, applied, Sorted, word_sort, byte_sort, User, Kernel}
pub use Rattle.psx_flow.proofs.Sym.{Sym, Asks, Anew, Part, Calling, Count, counted, by_one, by_two, by_branch, run, load_byte_by, load_word_by, store_byte_by, store_word_by, Next}
use Rattle.psx_flow.proofs.Sound.{sound, asks_is}

-- a goal at the parts of a state
abbrev pub ended : Goal → Part
ended L c z m w q p = L (run c z m w q p)

-- a routine, from all registers
pub start : (C : Calls) → Fair C → (T : Tree) (at : ℕ) (L : Goal) (G : ℕ → Goal) (s : Run) → Sym C T at (ended L) G s.regs s.cop0 s.bytes [] s.seen (counted s) → Meets kernel_words C T at L G s
start C fair T at L G s h = sound C fair T at (ended L) L G (λ c z m w q p ok k. k) s.regs s.cop0 s.bytes [] s.seen (counted s) tt h

-- One turn: either the loop is left, or the invariant holds again at a smaller x, behind the branch back.
pub record Turn (C : Calls) (t : Test) (a : Tree) (at : ℕ) (K : Part) (G : ℕ → Goal) (X : Type 0) (measure : X → ℕ) (Inv : X → Goal) (x : X) (e : Run) : Type 0 where
  pub leave : Asks (opposite t) e.regs (λ P. P → K e.regs e.cop0 e.bytes [] e.seen (by_two (counted e)))
  pub again : Asks t e.regs (λ P. P → Sym C a (at + 8) (λ c z m w q p. (y : X) × (measure y < measure x) × Inv y (run c z m w q (by_branch p))) G e.regs e.cop0 e.bytes [] e.seen (by_two (counted e)))

module _ (C : Calls) (fair : Fair C) (t : Test) (a : Tree) (at : ℕ) (K : Part) (G : ℕ → Goal) (X : Type 0) (measure : X → ℕ) (Inv : X → Goal)
    (turn : (x : X) (e : Run) → Inv x e → Turn C t a at K G X measure Inv x e) where
  most : (n : ℕ) (x : X) (e : Run) → measure x < n → Inv x e → Turns n t (λ L. Meets kernel_words C a (at + 8) L G) (Anew K) e
  most zero x e lt inv = absurd (omega arith)
  most (suc n) x e lt inv =
      let r = turn x e inv in (
        λ y. record { memory = e.bytes; log = []; same = refl; sorted = tt; goes = asks_is (opposite t) e.regs (λ P. P → K e.regs e.cop0 e.bytes [] e.seen (by_two (counted e))) r.leave y },
        λ y. sound C fair a (at + 8) (λ c z m w q p. (y : X) × (measure y < measure x) × Inv y (run c z m w q (by_branch p))) (λ m. Turns n t (λ L. Meets kernel_words C a (at + 8) L G) (Anew K) (branching m)) G
            (λ c z m w q p ok i. most n i.0 (run c z m w q (by_branch p)) (omega (arith, i.1, lt)) i.2) e.regs e.cop0 e.bytes [] e.seen (by_two (counted e)) tt
            (asks_is t e.regs (λ P. P → _) r.again y),
      )

  -- a loop, where its invariant holds at the head
  pub while : (x : X) (e : Run) → Inv x e → Meets kernel_words C (Loop t a Stop) at (Anew K) G e
  while x e inv = (suc (measure x), most (suc (measure x)) x e (omega arith) inv)
