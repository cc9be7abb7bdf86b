use Rattle.std.proofs.Common.{List, ℕ, sym, subst}
use Rattle.psx_ports.specs.contracts.ports.Ports.{the_view}
use Rattle.psx_ports.specs.History.{Give, then_event}
use Rattle.psx_ports.specs.Stands.{KeptPorts, StandsFor}
use Rattle.psx_ports.proofs.Events.{stands-given}
use Rattle.psx_ports.proofs.ports.Ports.give.Goals as goal

pub returns-clause-stands : goal.returns-clause-stands
returns-clause-stands c = λ h s.
    let k = the_view c.self.inside in
    let opened = subst (λ (k : KeptPorts). StandsFor k h) (sym c.self.view_is) s in
    subst (λ (bytes : List ℕ). StandsFor (record k { console = bytes }) (then_event h (Give h.now c.args.byte))) (sym c.give.ensures) (stands-given k h c.args.byte opened)
