use Rattle.std.proofs.Common.{◌<◌, ◌^◌, length, arith}
use Rattle.psxk_run.proofs.PlacedBytes.{lowest-more, highest-more}
use Rattle.psxk_run.proofs.assembling.widen.Goals as goal

pub loop-place-preserved : goal.loop-place-preserved
loop-place-preserved c =
    let part = c.args.part.now in
    let small : part.at < 2 ^ 32 = omega arith in
    let inside : c.loop-place.place < length part.bytes = rw (← c.as_slice-place-end.ensures) c.loop-place-test.true in
    record {
      at = omega (arith, c.loop-place.invariant.at);
      low = rw (lowest-more c.args.span.low part.at c.loop-place.at part.bytes c.loop-place.place small inside c.loop-place.invariant.at, ← c.loop-place.invariant.low) c.min.ensures;
      high = rw (highest-more c.args.span.high part.at c.loop-place.at part.bytes c.loop-place.place small inside c.loop-place.invariant.at, ← c.loop-place.invariant.high) c.max.ensures;
    }
