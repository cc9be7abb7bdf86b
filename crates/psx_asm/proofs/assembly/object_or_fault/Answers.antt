use Rattle.psx_asm.proofs.Whole.{each_text}
use Rattle.psx_asm.proofs.assembly.object_or_fault.Goals as goal

pub returns : goal.returns
returns c = each_text c.args.text.now c.args.from c.args.to
