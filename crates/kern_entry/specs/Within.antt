-- Words that come to a goal step by step, whatever the bus brings at each of them.
use Rattle.std.specs.Prelude.{ℕ, zero, suc, ◌^◌, ◌<◌, ◌⊎◌, List, Option, Some, None}
use Rattle.psx_cpu.specs.Processor.{Core, Bus}
use Rattle.psx_cpu.specs.Step.{step}
use Rattle.psx_flow.specs.Run.{Access}
use Rattle.psx_flow.specs.Plain.{went, seen_at}

-- a processor with its memory, and the accesses so far, newest first
abbrev pub Aim : Type 1
Aim = Core → List Access → Type 0

-- a step goes on
abbrev pub Onto : Aim → Option Core → List Access → Type 0
Onto P None q = ⊥
Onto P (Some next) q = P next q

-- the next step goes on, whether the interrupt line is set or not, and whatever word a port answers
abbrev pub Steps : Aim → Aim
Steps P k q = (bus : Bus) → bus.value < 2 ^ 32 → Onto P (went (step k bus)) (seen_at k bus q)

-- within so many steps, none of which raises an exception or leaves the kernel, it comes to the goal
abbrev pub Within : Aim → ℕ → Aim
Within Z zero k q = Z k q
Within Z (suc n) k q = Z k q ⊎ Steps (Within Z n) k q
