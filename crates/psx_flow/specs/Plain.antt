-- Steps of the processor on the kernel's side that raise no exception.
use Rattle.std.specs.Prelude.{ℕ, zero, suc, true, List, Option, Some, None}
use Rattle.psx_ins.specs.declared.ins.Ins.{Ins}
use Rattle.psx_ins.specs.Decoding.{instruction_of}
use Rattle.psx_cpu.specs.Processor.{Core, Bus, State, state_of}
use Rattle.psx_cpu.specs.DataAccess.{read_word}
use Rattle.psx_cpu.specs.Step.{Move, Goes, Reads, Writes, step}
use Rattle.psx_flow.specs.Run.{Access, Run, state_at, accessed}

-- the processor with its memory, the accesses so far, newest first, and the number of steps
pub record Execution : Type 0 where
  pub core : Core
  pub seen : List Access
  pub clock : ℕ

-- the core behind a step that goes on
abbrev pub went : Move → Option Core
went (Goes next) = Some next
went (Reads next at value) = Some next
went (Writes next at value) = Some next
went _ = None

-- the accesses with that of the instruction at pc
abbrev pub seen_by : Option Ins → State → Bus → List Access → List Access
seen_by None x bus q = q
seen_by (Some i) x bus q = accessed i x bus q

abbrev pub seen_at : Core → Bus → List Access → List Access
seen_at k bus q = seen_by (instruction_of (read_word k.bytes k.processor.context.pc)) (state_of k.processor k.bytes) bus q

abbrev pub onward : Execution → Bus → Option Core → Option Execution
onward x bus None = None
onward x bus (Some core) = Some (record { core = core; seen = seen_at x.core bus x.seen; clock = suc x.clock })

-- one step with what the bus brings at its count, where it goes on
abbrev pub plain_step : (ℕ → Bus) → Execution → Option Execution
plain_step bus x = onward x (bus x.clock) (went (step x.core (bus x.clock)))

abbrev pub on : Option Execution → (Execution → Option Execution) → Option Execution
on None f = None
on (Some x) f = f x

abbrev pub steps : (ℕ → Bus) → ℕ → Execution → Option Execution
steps bus zero x = Some x
steps bus (suc n) x = on (plain_step bus x) (steps bus n)

-- the kernel's side in a state
abbrev pub kernel_core : State → Core
kernel_core x = record { processor = record { context = x.context; cop0 = x.cop0; latch = true }; bytes = x.bytes }

-- a run at an address, with nothing pending, at a count
abbrev pub executing : Run → ℕ → ℕ → Execution
executing s at c = record { core = kernel_core (state_at s at); seen = s.seen; clock = c }
