-- Routines of any number of listings that jump to one another. Each listing, run by itself, is a stage: it brings the stay on, and comes through a door or to another listing.
use Rattle.std.specs.Prelude.{◌≡◌, ℕ, zero, suc, ◌+◌, ◌*◌, ◌<◌, ◌≤◌, ◌⊎◌, cond, nat_eq, List, [], ◌∷◌, ◌++◌}
use Rattle.psx_base.specs.Memory.{Memory}
use Rattle.psx_base.specs.Registers.{Registers}
use Rattle.psx_base.specs.KernelState.{KernelState}
use Rattle.psx_cpu.specs.Processor.{Cop0}
use Rattle.psx_flow.specs.Tree.{Tree}
use Rattle.psx_flow.specs.Run.{Run, Access}
use Rattle.psx_flow.specs.Told.{ports}
use Rattle.psx_flow.specs.Kernel.{kernel_words}
use Rattle.psx_flow.specs.Reaches.{ArePlaced}
use Rattle.psx_flow.specs.Meets.{Goal, Meets, calls}
use Rattle.abs_kernel.specs.Stay.{Stay, Touch}
use Rattle.abs_kernel.specs.Answered.{registers_of}
use Rattle.kern_stay.specs.Follows.{after, Follows}
use Rattle.kern_stay.specs.Shared.{tested_there}
use Rattle.kern_stay.specs.Doors.{Ends, Arrives, called_with, begun}
use Rattle.kern_stay.specs.Loops.{earned}

-- what is asked at a listing's address, by the steps that are in the bank and what is left of the stay
abbrev pub Asked : Type 1
Asked = (at bank : ℕ) → Stay → Goal

-- a stay that touches so many units, one number for each touch, before the rest
abbrev pub touching : List ℕ → Stay → Stay
touching [] rest = rest
touching (n ∷ ns) rest = Touch n (touching ns rest)

-- the units of touches in all
abbrev pub in_all : List ℕ → ℕ
in_all [] = 0
in_all (n ∷ ns) = n + in_all ns

-- A stage comes to a listing with the rest, behind its accesses to ports and what it touched after the last of them. It spends its steps from the bank, and each unit, an access to a port or a byte touched, puts 128 in.
pub record GoesOn (asked : Asked) (bank : ℕ) (stay : Stay) (told : List Access) (to : ℕ) (e : Run) : Type 0 where
  pub touched : List ℕ
  pub rest : Stay
  pub left : ℕ
  pub is : after stay told ≡ touching touched rest
  pub few : e.steps ≤ bank
  pub pays : left + e.steps ≤ bank + 128 * (earned stay told + in_all touched)
  pub holds : asked to left rest e

-- a stage ends: the stay comes through a door, or goes on from a listing
pub record Leads (asked : Asked) (bank : ℕ) (stay : Stay) (to : ℕ) (e : Run) : Type 0 where
  pub told : List Access
  pub ports : ports e.seen ≡ told
  pub follows : Follows stay told
  pub ends : Ends 0 (after stay told) bank to e ⊎ GoesOn asked bank stay told to e

-- the listing that stands at an address among these is run by itself
abbrev pub RunsAt : (own parts : List (ℕ × Tree)) → (at : ℕ) → (ℕ → Goal) → Goal
RunsAt own [] at G e = ⊥
RunsAt own (l ∷ ls) at G e = cond (nat_eq at l.0) (Meets kernel_words (calls kernel_words (own ++ tested_there)) l.1 l.0 (λ _. ⊥) G (begun e.regs e.cop0 e.bytes)) (RunsAt own ls at G e)

-- from a listing's address the stay is made in fewer than so many stages
abbrev pub Stages : (own parts : List (ℕ × Tree)) → (stages : ℕ) → Asked
Stages own parts zero at bank stay e = ⊥
Stages own parts (suc n) at bank stay e = RunsAt own parts at (λ to f. Leads (Stages own parts n) bank stay to f) e

-- The listings, of which one is at this address, serve a call. The bank has so many steps when it begins.
abbrev pub ServesIn : (own parts : List (ℕ × Tree)) → (most : ℕ) → (KernelState → Stay) → ℕ → Type 0
ServesIn own parts most stay at =
    (s : KernelState) (d : Registers) (z : Cop0) (m : Memory) → Arrives s m
    → (n : ℕ) × Stages own parts n at most (stay s) (begun (called_with (registers_of s) d) z m)

-- a call is served by listings that stand at their addresses, and so do those of its own range that they call
pub record IsServedIn (m : Memory) (most : ℕ) (stay : KernelState → Stay) (at : ℕ) : Type 0 where
  pub there : at ≡ 0 → ⊥
  pub own : List (ℕ × Tree)
  pub own_placed : ArePlaced kernel_words m own
  pub parts : List (ℕ × Tree)
  pub parts_placed : ArePlaced kernel_words m parts
  pub serves : ServesIn own parts most stay at

-- ---- one listing by itself

-- what holds at each listing's address, where a measure of what is to do is known
abbrev pub Interface : Type 1
Interface = (todo : ℕ) → Asked

-- the same, with less to do
abbrev pub Less : Interface → (todo : ℕ) → Asked
Less I todo at bank stay e = (less : ℕ) × (less < todo) × I less at bank stay e

-- A listing is a stage: from each state that the interface has at its address it comes through a door, or to another listing as the interface has it there, with less to do.
abbrev pub IsStage : (own : List (ℕ × Tree)) → Interface → ℕ → Tree → Type 0
IsStage own I at T =
    (todo bank : ℕ) (stay : Stay) (e : Run) → I todo at bank stay e
    → Meets kernel_words (calls kernel_words (own ++ tested_there)) T at (λ _. ⊥) (λ to f. Leads (Less I todo) bank stay to f) (begun e.regs e.cop0 e.bytes)
