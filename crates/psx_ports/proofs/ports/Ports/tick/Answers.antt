use Rattle.std.proofs.Common.{sym, subst, arith}
use Rattle.psx_ports.specs.contracts.ports.Ports.{the_view}
use Rattle.psx_ports.specs.Stands.{KeptPorts, StandsFor}
use Rattle.psx_ports.proofs.Standing.{stands-before}
use Rattle.psx_ports.proofs.ports.Ports.tick.Goals as goal

pub returns-then-count-self-clause-stands : goal.returns-then-count-self-clause-stands
returns-then-count-self-clause-stands c = λ h s.
    let opened = subst (λ (k : KeptPorts). StandsFor k h) (sym c.self.view_is) s in
    stands-before (the_view c.self.inside) h c.args.count opened (omega (arith, s.now, c.requires)) c.if-count-self.true
