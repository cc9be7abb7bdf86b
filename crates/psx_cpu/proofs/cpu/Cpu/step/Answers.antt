use Rattle.psx_cpu.proofs.Moves.{step-told_port}
use Rattle.psx_cpu.proofs.cpu.Cpu.step.Goals as goal

pub returns-clause-port : goal.returns-clause-port
returns-clause-port c = step-told_port _ _ _ _ c.step_once.ensures
