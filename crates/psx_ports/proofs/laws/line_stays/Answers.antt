use Rattle.psx_ports.proofs.Deadlines.{line-stays, deadline-later}
use Rattle.psx_ports.proofs.laws.line_stays.Goals as goal

pub returns-clause-line : goal.returns-clause-line
returns-clause-line c = line-stays

pub returns-clause-later : goal.returns-clause-later
returns-clause-later c = deadline-later
