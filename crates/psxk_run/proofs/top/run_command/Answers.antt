use Rattle.psxk_run.specs.Ends.{ByWork}
use Rattle.psxk_run.proofs.top.run_command.Goals as goal

pub returns-in-Image-clause-ends : goal.returns-in-Image-clause-ends
returns-in-Image-clause-ends g c = rw c.in-Image.is (ByWork (record { sends = c.send_image.ensures.sends; front = c.send_image.ensures.front }))
