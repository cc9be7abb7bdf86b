use Rattle.std.proofs.Common.{inr, arith}
use Rattle.psx_asm.proofs.Whole.{gives_object, gives_fault, gives_only, too_long}
use Rattle.psx_asm.proofs.assembly.assemble.Goals as goal

pub returns-then-text-gt-LONGEST-clause-fault : goal.returns-then-text-gt-LONGEST-clause-fault
returns-then-text-gt-LONGEST-clause-fault c = inr (too_long c.args.text.now c.args.from c.args.to (omega arith))

pub returns-clause-object : goal.returns-clause-object
returns-clause-object c = gives_object c.args.text.now c.args.from c.args.to (omega arith) c.assembled.result c.assembled.ensures

pub returns-clause-fault : goal.returns-clause-fault
returns-clause-fault c = gives_fault c.args.text.now c.args.from c.args.to (omega arith) c.assembled.result c.assembled.ensures

pub returns-clause-only : goal.returns-clause-only
returns-clause-only c = gives_only c.args.text.now c.args.from c.args.to (omega arith) c.assembled.result c.assembled.ensures
