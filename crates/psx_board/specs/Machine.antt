-- The board: the processor with its memory, the history of the ports, and the entries of the schedule that are still to come.
use Rattle.std.specs.Prelude.{ℕ, Bool, false, List, []}
use Rattle.psx_base.specs.declared.stop.Sizes.{Sizes}
use Rattle.psx_sched.specs.declared.schedule.Entry.{Entry}
use Rattle.psx_exe.specs.declared.exe.Exe.{Exe}
use Rattle.psx_exe.specs.Placed.{placed, stack_top}
use Rattle.psx_ram.specs.Parts.{reset_memory}
use Rattle.psx_cpu.specs.Processor.{Core}
use Rattle.psx_cpu.specs.Exceptions.{reset}
use Rattle.psx_ports.specs.History.{Given, History}

-- The history's count is the number of finished steps. began says whether the first return to the user side has been.
pub record Machine : Type 0 where
  pub core : Core
  pub history : History
  pub waiting : List Entry
  pub began : Bool

-- what the start ports read
abbrev pub given : Exe → Sizes → Given
given exe sizes = record { pc = exe.pc; gp = exe.gp; sp = stack_top exe; threads = sizes.threads; events = sizes.events }

-- the board at reset, with a program placed in its memory, the sizes at the start ports, and a schedule before it
abbrev pub start : List ℕ → Exe → Sizes → List Entry → Machine
start rom exe sizes schedule = record {
  core = record { processor = reset; bytes = placed (reset_memory rom) exe };
  history = record { given = given exe sizes; events = []; now = 0 };
  waiting = schedule;
  began = false;
}
