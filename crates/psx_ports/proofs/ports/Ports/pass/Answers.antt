use Rattle.std.proofs.Common.{◌≤◌, sym, subst, arith}
use Rattle.psx_ports.specs.contracts.ports.Ports.{the_view}
use Rattle.psx_ports.specs.declared.interrupts.Interrupts.{Interrupts}
use Rattle.psx_ports.specs.History.{at_count}
use Rattle.psx_ports.specs.Stands.{KeptPorts, StandsFor}
use Rattle.psx_ports.proofs.Standing.{stands-passed}
use Rattle.psx_ports.proofs.ports.Ports.pass.Goals as goal

pub returns-clause-stands : goal.returns-clause-stands
returns-clause-stands c = λ h s.
    let k = the_view c.self.inside in
    let opened = subst (λ (k : KeptPorts). StandsFor k h) (sym c.self.view_is) s in
    let now : h.now ≤ c.args.count = omega (arith, s.now, c.requires) in
    let n = c.args.count in
    subst (λ (i : Interrupts). StandsFor (record k { counters = c.turn_to-lines.new.self; interrupts = i; now = n; deadline = c.next-self-inside.result }) (at_count h n)) (sym c.raise.ensures)
    (stands-passed k h n c.turn_to-lines.result c.next-self-inside.result c.turn_to-lines.new.self opened now
    (c.turn_to-lines.ensures.raised h.events h.now opened.counters now) (c.turn_to-lines.ensures.stands h.events h.now opened.counters now) c.next-self-inside.ensures)
