use Rattle.std.proofs.Common.{◌++◌, take}
use Rattle.std.proofs.KnownBytes.{Appends-trans}
use Rattle.psxk.proofs.Pieces.{front-kept, front-more, split-more}
use Rattle.psxk.proofs.file_host.write_to.Goals as goal

pub returns-in-Ok-eq0-clause-front : goal.returns-in-Ok-eq0-clause-front
returns-in-Ok-eq0-clause-front g c =
    let (done, split, written) = c.loop-left.invariant in
    front-more _ _ _ _ done c.loop-left.left.now c.in-Ok-eq0.field-0 split written c.in-Ok-eq0.ensures.bytes

pub loop-left-preserved : goal.loop-left-preserved
loop-left-preserved g c =
    let (done, split, written) = c.loop-left.invariant in
    let left = c.loop-left.left.now in
    (done ++ take c.in-Ok.count left, split-more _ done left c.in-Ok.count split, Appends-trans _ _ _ _ _ written c.in-Ok.ensures.bytes)

pub returns-in-Err-clause-front : goal.returns-in-Err-clause-front
returns-in-Err-clause-front g c =
    let (done, split, written) = c.loop-left.invariant in
    front-kept _ _ _ _ done c.loop-left.left.now split written c.in-Err.ensures.bytes
