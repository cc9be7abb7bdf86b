use Rattle.psxk_run.proofs.inputs.load_exe.Goals as goal

pub returns-in-Ok-read-clause-program : goal.returns-in-Ok-read-clause-program
returns-in-Ok-read-clause-program g c = record { bytes = c.in-Ok.bytes.items; known = c.in-Ok.ensures.bytes; is = rw c.deref.ensures.value at c.in-Ok-read.ensures.program }
