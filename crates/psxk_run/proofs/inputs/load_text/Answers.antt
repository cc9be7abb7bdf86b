use Rattle.psxk_run.specs.Assembling.{window_from, window_to}
use Rattle.psxk_run.proofs.Windowed.{in_window-of}
use Rattle.psxk_run.proofs.inputs.load_text.Goals as goal

pub returns-in-Ok-assemble-clause-placed : goal.returns-in-Ok-assemble-clause-placed
returns-in-Ok-assemble-clause-placed g c = record { text = c.in-Ok.text.items; known = c.in-Ok.ensures.bytes; is = rw c.deref.ensures.value at c.in-Ok-assemble.ensures.object }

pub returns-in-Ok-assemble-clause-window : goal.returns-in-Ok-assemble-clause-window
returns-in-Ok-assemble-clause-window g c = in_window-of _ window_from window_to _ c.in-Ok-assemble.ensures.object
