use Rattle.psx_gen.proofs.Readable.{readable}
use Rattle.psx_gen.proofs.generate.workload.Goals as goal

pub returns-clause-readable : goal.returns-clause-readable
returns-clause-readable c = rw c.in_ok-exe.ensures (readable c.args.rounds)
