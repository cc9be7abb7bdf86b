use Rattle.kern_file.proofs.A3dGets.{serves}
use Rattle.kern_file.proofs.a3d_gets.gets.Goals as goal

pub returns-clause-serves : goal.returns-clause-serves
returns-clause-serves c = serves
