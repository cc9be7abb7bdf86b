use Rattle.kern_text.proofs.Served.{text_serves}
use Rattle.kern_text.proofs.placing.text_serves.Goals as goal

pub returns : goal.returns
returns c = text_serves
