use Rattle.std.proofs.Common.{◌≡◌, take}
use Rattle.psx_asm.specs.Placing.{bytes_of_parts}
use Rattle.psxk_run.specs.Assembling.{put}
use Rattle.psxk_run.proofs.assembling.put_parts.Given as goal

abbrev pub invariant-loop-part : goal.invariant-loop-part
invariant-loop-part l = l.text ≡ put l.dest l.initial.text (bytes_of_parts (take l.part-index l.parts))
