use Rattle.std.proofs.Common.{◌≡◌, true, sym, ap, ◌∙◌, arith, Some}
use Rattle.psx_base.specs.Addresses.{user}
use Rattle.psx_base.proofs.Ranges.{within, beyond, end_of-above}
use Rattle.psx_base.proofs.address.first_bad.Goals as goal

pub overflow_sub-end : goal.overflow_sub-end
overflow_sub-end c = let is : user c.args.start ≡ true = grind arith in let h = end_of-above c.args.start (omega arith) is in omega (arith, h, c.end_of-end.ensures)

pub returns-then-len-end : goal.returns-then-len-end
returns-then-len-end c = let is : user c.args.start ≡ true = grind arith in sym (within c.args.len c.args.start (omega arith) is (omega (arith, c.end_of-end.ensures, c.if-len-end.true)))

pub returns-else-len-end : goal.returns-else-len-end
returns-else-len-end c = let is : user c.args.start ≡ true = grind arith in ap Some c.end_of-end.ensures ∙ sym (beyond c.args.len c.args.start (omega arith) is (omega (arith, c.end_of-end.ensures, c.if-len-end.false)))
