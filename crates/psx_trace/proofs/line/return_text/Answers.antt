use Rattle.std.proofs.Common.{arith}
use Rattle.psx_trace.proofs.AllRegisters.{all_registers}
use Rattle.psx_trace.proofs.line.return_text.Goals as goal

pub returns-clause-items : goal.returns-clause-items
returns-clause-items c =
    let all = all_registers c.args.regs.0 c.args.hi c.args.lo (omega arith) in
    cc
