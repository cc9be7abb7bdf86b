use Rattle.std.proofs.Common.{refl}
use Rattle.kern_layout.specs.declared.ranges.TheConstants.{RANGES}
use Rattle.kern_layout.proofs.RangeLemmas.{rising-apart, rising-below_user}
use Rattle.kern_layout.proofs.ranges.ranges_apart.Goals as goal

pub returns-clause-apart : goal.returns-clause-apart
returns-clause-apart c = rising-apart RANGES 0 0x10000 refl

pub returns-clause-below_user : goal.returns-clause-below_user
returns-clause-below_user c = rising-below_user RANGES 0 refl
