use Rattle.std.proofs.Common.{arith}
use Rattle.psx_asm.specs.Walking.{shown_line}
use Rattle.psx_asm.proofs.Behind.{line_fails, line_passes}
use Rattle.psx_asm.proofs.assembly.first_round.Goals as goal

pub returns-in-Err : goal.returns-in-Err
returns-in-Err c = λ readings read. rw c.at_line.ensures
    (line_fails c.args.text.now readings c.loop-from.from c.loop-from.walk _ c.line_at-line.result.now c.in-Err.failure
    (c.loop-from.invariant.so_far readings read) c.loop-from-test.true c.line_at-line.ensures c.in-Err.ensures)

pub loop-from-preserved : goal.loop-from-preserved
loop-from-preserved c = record {
  few = omega (arith, c.in-Ok-pass.ensures.number, c.loop-from.invariant.few);
  so_far = λ readings read.
      line_passes c.args.text.now readings c.loop-from.from c.loop-from.walk c.pass.new.walk _ _ c.line_at-line.result.now (shown_line c.in-Ok.found)
      (c.loop-from.invariant.so_far readings read) c.loop-from-test.true c.line_at-line.ensures c.in-Ok.ensures c.in-Ok-pass.ensures.walk c.in-Ok-pass.ensures.items;
}
