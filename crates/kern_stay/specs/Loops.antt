-- Routines with a loop that accesses ports. The loop is a listing of its own, which jumps to itself: each turn pays by its accesses for the steps that it makes.
use Rattle.std.specs.Prelude.{◌≡◌, ℕ, zero, suc, ◌+◌, ◌-◌, ◌*◌, ◌≤◌, cond, nat_eq, List, [], ◌∷◌, ◌++◌}
use Rattle.psx_base.specs.Memory.{Memory}
use Rattle.psx_base.specs.Registers.{Registers}
use Rattle.psx_base.specs.KernelState.{KernelState}
use Rattle.psx_cpu.specs.Processor.{Cop0}
use Rattle.psx_flow.specs.Tree.{Tree}
use Rattle.psx_flow.specs.Run.{Run, Access, Load, Store, PortRead, PortWrite}
use Rattle.psx_flow.specs.Told.{ports}
use Rattle.psx_flow.specs.Kernel.{kernel_words}
use Rattle.psx_flow.specs.Reaches.{IsPlaced, ArePlaced}
use Rattle.psx_flow.specs.Meets.{Goal, Meets, calls}
use Rattle.abs_kernel.specs.Stay.{Stay, Return, Halt, Ask, Tell, Write, Touch}
use Rattle.abs_kernel.specs.Answered.{registers_of}
use Rattle.kern_stay.specs.Follows.{after, Follows}
use Rattle.kern_stay.specs.Shared.{tested_there}
use Rattle.kern_stay.specs.Doors.{Ends, Arrives, called_with, begun}

-- the units of a stay up to its next access to a port, that one among them
abbrev pub units : Stay → ℕ
units (Return state) = 0
units (Halt stop memory) = 0
units (Ask port next) = 1
units (Tell port value next) = 1
units (Write byte next) = 1
units (Touch bytes next) = bytes + units next

-- the units up to the last of accesses, newest first
abbrev pub earned : Stay → List Access → ℕ
earned stay [] = 0
earned stay (Load size at value ∷ q) = earned stay q
earned stay (Store size at value ∷ q) = earned stay q
earned stay (PortRead at value ∷ q) = earned stay q + units (after stay q)
earned stay (PortWrite at value ∷ q) = earned stay q + units (after stay q)

-- a stay comes through a door, or to the loop's address, with accesses behind which the rest is left
pub record Passes (loop : ℕ) (again : List Access → Stay → Goal) (stay : Stay) (most to : ℕ) (e : Run) : Type 0 where
  pub told : List Access
  pub ports : ports e.seen ≡ told
  pub follows : Follows stay told
  pub ends : cond (nat_eq to loop) (again told (after stay told) e) (Ends 0 (after stay told) most to e)

-- From the loop's address the stay is made in at most so many turns. A turn makes so many steps, and where it isn't the last it has earned them: a unit is worth 128 steps. No turn makes more than `most`.
abbrev pub Repeats : (own : List (ℕ × Tree)) → (most loop : ℕ) → Tree → (turns : ℕ) → Stay → Goal
Repeats own most loop T zero stay e = ⊥
Repeats own most loop T (suc n) stay e =
    (few : ℕ) × (few ≤ most)
    × Meets kernel_words (calls kernel_words (own ++ tested_there)) T loop (λ _. ⊥) (λ to f. Passes loop (λ told rest g. (g.steps ≤ few) × (few ≤ 128 * earned stay told) × Repeats own most loop T n rest g) stay few to f) (begun e.regs e.cop0 e.bytes)

-- A listing at an address serves a call, with a loop that it jumps to. What it makes before the loop and what a turn makes are at most so many steps together.
abbrev pub ServesBy : (own : List (ℕ × Tree)) → (most : ℕ) → (KernelState → Stay) → ℕ → Tree → ℕ → Tree → Type 0
ServesBy own most stay at T loop L =
    (s : KernelState) (d : Registers) (z : Cop0) (m : Memory) → Arrives s m
    → Meets kernel_words (calls kernel_words (own ++ tested_there)) T at (λ _. ⊥) (λ to e. Passes loop (λ told rest g. (g.steps ≤ most) × ((n : ℕ) × Repeats own (most - g.steps) loop L n rest g)) (stay s) most to e) (begun (called_with (registers_of s) d) z m)

-- a call is served by two listings that stand at their addresses, and so do those of its own range that they call
pub record IsServedBy (m : Memory) (most : ℕ) (stay : KernelState → Stay) (at : ℕ) : Type 0 where
  pub there : at ≡ 0 → ⊥
  pub own : List (ℕ × Tree)
  pub own_placed : ArePlaced kernel_words m own
  pub listing : Tree
  pub placed : IsPlaced kernel_words m at listing
  pub loop : ℕ
  pub turns : Tree
  pub turns_placed : IsPlaced kernel_words m loop turns
  pub serves : ServesBy own most stay at listing loop turns
