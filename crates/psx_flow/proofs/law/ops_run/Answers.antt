-- The run in which the bus brings nothing.
use Rattle.std.proofs.Common.{refl, arith}
use Rattle.psx_cpu.specs.Processor.{idle}
use Rattle.psx_flow.specs.Run.{done}
use Rattle.psx_flow.proofs.law.ops_run.Goals as goal

pub returns : goal.returns
returns a = λ i at s ls none. (done i s at idle, (none, refl, (idle, omega arith, refl)))
