use Rattle.std.proofs.Common.{◌++◌, ap, drop}
use Rattle.psx_text.specs.Digits.{hex8}
use Rattle.psx_trace.specs.Digits.{field}
use Rattle.psx_trace.proofs.candidate.read_of.Goals as goal

pub returns-clause-value : goal.returns-clause-value
unfolding hex8
returns-clause-value c at value rest at_fits value_fits e =
    let first = c.word_after-at.ensures at (field value ++ rest) at_fits e in
    let second = c.word_after-value.ensures value rest value_fits (ap (drop 9) e) in
    cc (first, second)
