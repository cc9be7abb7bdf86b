-- The runs of a listing, as a relation: each read of a port gives some value, and bit 10 of Cause is either way at each instruction.
use Rattle.std.specs.Prelude.{◌≡◌, ℕ, zero, suc, ◌+◌, ◌*◌, ◌^◌, ◌<◌, ◌⊎◌, Bool, true, cond, nat_eq, List, [], ◌∷◌, None}
use Rattle.psx_ins.specs.declared.ins.Ins.{Ins}
use Rattle.psx_base.specs.Registers.{register}
use Rattle.psx_base.specs.Context.{Context}
use Rattle.psx_cpu.specs.Processor.{Bus}
use Rattle.psx_cpu.specs.Traps.{trap_of}
use Rattle.psx_flow.specs.declared.node.Test.{Test}
use Rattle.psx_flow.specs.Tree.{Tree, Stop, Do, When, Choose, Loop, Visit, Go, GoTo, size}
use Rattle.psx_flow.specs.Lowered.{opposite}
use Rattle.psx_flow.specs.Run.{Run, state_at, done}
use Rattle.psx_flow.specs.Meets.{TestHolds, passing, branching, linking}

-- behind the last word, or by a Jump or a JumpTo to an address
pub data Ending : Type 0 where
  Falls : Run → Ending
  Jumps : ℕ → Run → Ending
  JumpsTo : ℕ → Run → Ending

abbrev pub IsJump : Ending → Type 0
IsJump (Falls e) = ⊥
IsJump (Jumps a e) = Unit {0}
IsJump (JumpsTo a e) = Unit {0}

-- one part, and what follows it unless the part jumps
abbrev pub Then : (Run → Ending → Type 0) → (Run → Ending → Type 0) → Run → Ending → Type 0
Then A B s e = ((m : Run) × A s (Falls m) × B m e) ⊎ (IsJump e × A s e)

-- fewer than n turns, and what follows the loop
abbrev pub TurnsOf : ℕ → Test → (Run → Ending → Type 0) → (Run → Ending → Type 0) → Run → Ending → Type 0
TurnsOf zero t A B s e = ⊥
TurnsOf (suc n) t A B s e = (TestHolds (opposite t) s.regs × B (passing s) e) ⊎ (TestHolds t s.regs × Then A (λ m. TurnsOf n t A B (branching m)) (passing s) e)

-- what calls come to: the callee's address, that behind the call, the states before and behind
abbrev pub Called : Type 1
Called = ℕ → ℕ → Run → Run → Type 0

-- `may` says which instructions the runs in question make: of the relation itself, `any`.
abbrev pub any : Ins → Context → Bool
any i c = true

module _ (may : Ins → Context → Bool) where
  -- from s, the tree that stands at `at` comes to this ending
  abbrev pub Runs : Called → Tree → ℕ → Run → Ending → Type 0
  Runs R Stop at s e = e ≡ Falls s
  Runs R (Do i r) at s e = (trap_of i (state_at s at).context ≡ None) × (may i (state_at s at).context ≡ true) × ((bus : Bus) × (bus.value < 2 ^ 32) × Runs R r (at + 4) (done i s at bus) e)
  Runs R (When t a r) at s e = (TestHolds t s.regs × Then (Runs R a (at + 8)) (Runs R r (at + (8 + 4 * size a))) (passing s) e) ⊎ (TestHolds (opposite t) s.regs × Runs R r (at + (8 + 4 * size a)) (passing s) e)
  Runs R (Choose t a b r) at s e =
      (TestHolds t s.regs × Then (Runs R a (at + 8)) (λ m. Runs R r (at + (16 + 4 * size a + 4 * size b)) (branching m)) (passing s) e)
      ⊎ (TestHolds (opposite t) s.regs × Then (Runs R b (at + (16 + 4 * size a))) (Runs R r (at + (16 + 4 * size a + 4 * size b))) (passing s) e)
  Runs R (Loop t a r) at s e = (n : ℕ) × TurnsOf n t (Runs R a (at + 8)) (Runs R r (at + (16 + 4 * size a))) s e
  Runs R (Visit a r) at s e = (m : Run) × R a (at + 8) (linking s (at + 8)) m × Runs R r (at + 8) m e
  Runs R (Go a r) at s e = e ≡ Jumps a (passing s)
  Runs R (GoTo n r) at s e = e ≡ JumpsTo (register s.regs n.0) (passing s)

  -- the listings with their addresses, each of which calls only those behind it: a call runs to a JumpTo whose register holds the address behind the call
  abbrev pub called : List (ℕ × Tree) → Called
  called [] a back s m = ⊥
  called (l ∷ ls) a back s m = cond (nat_eq a l.0) (Runs (called ls) l.1 l.0 s (JumpsTo back m)) (called ls a back s m)
