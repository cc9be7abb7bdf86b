use Rattle.std.proofs.Common.{◌≡◌, ◌^◌, sym, ap, subst, ◌∙◌}
use Rattle.std.specs.Prelude.{bit_or}
use Rattle.psx_ports.specs.contracts.ports.Ports.{the_view}
use Rattle.psx_ports.specs.declared.interrupts.Interrupts.{Interrupts}
use Rattle.psx_ports.specs.Interrupts.{with_pending}
use Rattle.psx_ports.specs.History.{Raise, then_event}
use Rattle.psx_ports.specs.Stands.{KeptPorts, StandsFor}
use Rattle.psx_ports.proofs.Words.{shifted}
use Rattle.psx_ports.proofs.Events.{stands-raised}
use Rattle.psx_ports.proofs.ports.Ports.raise.Goals as goal

pub returns-clause-stands : goal.returns-clause-stands
returns-clause-stands c = λ h s.
    let k = the_view c.self.inside in
    let opened = subst (λ (k : KeptPorts). StandsFor k h) (sym c.self.view_is) s in
    let new : c.raise.new.self ≡ with_pending k.interrupts (bit_or k.interrupts.pending (2 ^ c.args.line)) =
    c.raise.ensures ∙ ap (λ word. with_pending k.interrupts (bit_or k.interrupts.pending word)) (shifted c.args.line c.requires) in
    subst (λ (i : Interrupts). StandsFor (record k { interrupts = i }) (then_event h (Raise h.now c.args.line))) (sym new) (stands-raised k h c.args.line opened c.requires)
