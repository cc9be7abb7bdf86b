use Rattle.psx_asm.proofs.Aligned.{address_given}
use Rattle.psx_asm.proofs.encode.of_address.Goals as goal

pub returns : goal.returns
returns c = address_given _ c.args.at c.args.general.reg _ _ _ c.in_ok-word.ensures c.in_ok-aligned.ensures.given c.in_ok-pair_of.ensures
