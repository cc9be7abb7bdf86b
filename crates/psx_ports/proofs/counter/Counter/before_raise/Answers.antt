use Rattle.std.proofs.Common.{sym, ◌∙◌, arith}
use Rattle.psx_ports.proofs.Looking.{quiet-armed, quiet-disarmed}
use Rattle.psx_ports.proofs.counter.Counter.before_raise.Goals as goal

pub returns-then-is_armed-clause-quiet : goal.returns-then-is_armed-clause-quiet
returns-then-is_armed-clause-quiet c = λ n later below.
    quiet-armed c.args.self.now n (c.before_target.ensures.quiet n later (omega arith)) (c.before_top.ensures.quiet n later (omega arith))

pub returns-else-is_armed-clause-quiet : goal.returns-else-is_armed-clause-quiet
returns-else-is_armed-clause-quiet c = λ n later below. quiet-disarmed c.args.self.now n (sym c.is_armed.ensures ∙ c.if-is_armed.false)
