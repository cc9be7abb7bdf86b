use Rattle.std.proofs.Common.{arith}
use Rattle.psxk_run.proofs.inputs.accepted.Goals as goal

pub returns : goal.returns
returns c = record { readable = c.requires; word = omega arith; bytes = rw (← c.as_slice.ensures) c.are_bytes.ensures }
