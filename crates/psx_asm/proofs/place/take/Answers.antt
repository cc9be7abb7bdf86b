use Rattle.std.proofs.Common.{◌<◌, ◌≤◌, ◌^◌, length, ap, ◌∙◌, ◌++◌, arith}
use Rattle.std.proofs.lemmas.List.{take_all}
use Rattle.psx_asm.specs.Placing.{addressed, is_taken}
use Rattle.psx_asm.proofs.Addresses.{taken_more}
use Rattle.psx_asm.proofs.place.take.Goals as goal

pub loop-preserved : goal.loop-preserved
loop-preserved c = record {
  here = omega (arith, c.next-address.ensures, c.loop.invariant.here);
  so_far = λ placed bytes taken len q.
      let below : c.loop.counter < length bytes = omega arith in
      let small : c.args.at < 2 ^ 32 = omega (arith, c.ranges.at.fits) in
      taken_more placed c.args.at c.loop.address c.loop.counter q bytes _ _ small below c.loop.invariant.here (c.loop.invariant.so_far placed bytes taken len q) (c.in_ok-insert.ensures.updates.0 q);
}

pub returns : goal.returns
returns c = λ placed bytes taken len q.
    let all : length bytes ≤ c.loop.counter = omega (arith, c.loop-test.false) in
    c.loop.invariant.so_far placed bytes taken len q ∙ ap (λ l. is_taken (placed ++ addressed c.args.at l) q) (take_all c.loop.counter bytes all)
