use Rattle.std.proofs.Common.{ap, ◌∙◌}
use Rattle.psx_ports.specs.Stands.{KeptPorts}
use Rattle.psx_ports.proofs.Standing.{line-kept}
use Rattle.psx_ports.proofs.ports.Ports.line.Goals as goal

pub returns-clause-line : goal.returns-clause-line
returns-clause-line c = λ h s. ap (λ (k : KeptPorts). k.interrupts.line) c.self.view_is ∙ line-kept c.args.self.now h s
