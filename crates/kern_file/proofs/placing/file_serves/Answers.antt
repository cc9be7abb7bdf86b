use Rattle.kern_file.proofs.Served.{file_serves}
use Rattle.kern_file.proofs.placing.file_serves.Goals as goal

pub returns : goal.returns
returns c = file_serves
