use Rattle.std.proofs.Common.{ℕ, List, ◌∷◌, sym, ap, subst, ◌∙◌, arith}
use Rattle.std.proofs.lemmas.Bool.Decides.{nat_tests}
use Rattle.psx_base.specs.Ports.{CONSOLE_DATA}
use Rattle.psx_ports.specs.contracts.ports.Ports.{the_view}
use Rattle.psx_ports.specs.History.{Read, then_event, answer, counters_answer, first_of}
use Rattle.psx_ports.specs.Stands.{KeptPorts, StandsFor, CountersStand}
use Rattle.psx_ports.proofs.Events.{stands-looked, stands-taken, stands-read}
use Rattle.psx_ports.proofs.Answering.{answer-data, answer-counter}
use Rattle.psx_ports.proofs.ports.Ports.read.Goals as goal

pub returns-then-at-eq-CONSOLE_DATA-clause-value : goal.returns-then-at-eq-CONSOLE_DATA-clause-value
returns-then-at-eq-CONSOLE_DATA-clause-value c = λ h s.
    let opened = subst (λ (k : KeptPorts). StandsFor k h) (sym c.self.view_is) s in
    c.take.ensures.byte ∙ ap first_of opened.console ∙ sym (answer-data h) ∙ ap (answer h) (sym c.if-at-eq-CONSOLE_DATA.true)

pub returns-then-at-eq-CONSOLE_DATA-clause-stands : goal.returns-then-at-eq-CONSOLE_DATA-clause-stands
returns-then-at-eq-CONSOLE_DATA-clause-stands c = λ h s.
    let k = the_view c.self.inside in
    let opened = subst (λ (k : KeptPorts). StandsFor k h) (sym c.self.view_is) s in
    subst (λ (at : ℕ). StandsFor (record k { console = c.take.new.self }) (then_event h (Read h.now at))) (sym c.if-at-eq-CONSOLE_DATA.true)
    (subst (λ (bytes : List ℕ). StandsFor (record k { console = bytes }) (then_event h (Read h.now CONSOLE_DATA))) (sym c.take.ensures.rest) (stands-taken k h opened))

pub returns-then-is_counter_port-clause-value : goal.returns-then-is_counter_port-clause-value
returns-then-is_counter_port-clause-value c = λ h s.
    let k = the_view c.self.inside in
    let opened = subst (λ (k : KeptPorts). StandsFor k h) (sym c.self.view_is) s in
    c.read-value.ensures.value h.events (subst (λ (n : ℕ). CountersStand k.counters h.events n) (sym opened.now) opened.counters)
    ∙ ap (λ n. counters_answer h.events n c.args.at) opened.now ∙ sym (answer-counter h c.args.at (sym c.is_counter_port.ensures ∙ c.if-is_counter_port.true))

pub returns-then-is_counter_port-clause-stands : goal.returns-then-is_counter_port-clause-stands
returns-then-is_counter_port-clause-stands c = λ h s.
    let k = the_view c.self.inside in
    let opened = subst (λ (k : KeptPorts). StandsFor k h) (sym c.self.view_is) s in
    stands-read k h c.args.at c.next-self-inside.result c.read-value.new.self opened (sym c.is_counter_port.ensures ∙ c.if-is_counter_port.true)
    (subst (λ (n : ℕ). CountersStand c.read-value.new.self (Read n c.args.at ∷ h.events) n) opened.now
    (c.read-value.ensures.stands h.events (subst (λ (n : ℕ). CountersStand k.counters h.events n) (sym opened.now) opened.counters)))
    c.next-self-inside.ensures

pub returns-clause-stands : goal.returns-clause-stands
returns-clause-stands c = λ h s.
    stands-looked c.args.self.now h c.args.at s (sym c.is_counter_port.ensures ∙ c.if-is_counter_port.false) (grind (arith, nat_tests))
