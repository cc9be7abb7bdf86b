use Rattle.std.proofs.Common.{◌≡◌, ◌+◌, ◌%◌, ◌^◌, take}
use Rattle.psx_asm.specs.Placing.{addressed}
use Rattle.psxk_run.specs.Assembling.{put}
use Rattle.psxk_run.proofs.assembling.put_part.Given as goal

abbrev pub invariant-loop-place : goal.invariant-loop-place
invariant-loop-place l = record {
  at : l.at ≡ (l.part.at + l.place) % 2 ^ 32;
  text : l.text ≡ put l.dest l.initial.text (addressed l.part.at (take l.place l.part.bytes));
}
