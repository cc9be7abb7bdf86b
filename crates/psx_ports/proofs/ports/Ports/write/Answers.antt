use Rattle.std.proofs.Common.{ℕ, ◌∷◌, rules, sym, subst, ◌∙◌, refl, arith}
use Rattle.std.proofs.lemmas.Bool.Decides.{nat_tests}
use Rattle.psx_base.specs.Ports.{I_STAT, I_MASK, CONSOLE_DATA, HALT}
use Rattle.psx_ports.specs.contracts.ports.Ports.{the_view}
use Rattle.psx_ports.specs.declared.interrupts.Interrupts.{Interrupts}
use Rattle.psx_ports.specs.History.{Write, then_event}
use Rattle.psx_ports.specs.Stands.{KeptPorts, StandsFor, CountersStand}
use Rattle.psx_ports.proofs.Events.{stands-written, stands-acknowledged, stands-masked, stands-kept}
use Rattle.psx_ports.proofs.ports.Ports.write.Goals as goal

pub returns-then-is_counter_port-clause-stands : goal.returns-then-is_counter_port-clause-stands
returns-then-is_counter_port-clause-stands c = λ h s.
    let k = the_view c.self.inside in
    let opened = subst (λ (k : KeptPorts). StandsFor k h) (sym c.self.view_is) s in
    stands-written k h c.args.at c.args.value c.next-self-inside.result c.write.new.self opened (sym c.is_counter_port.ensures ∙ c.if-is_counter_port.true)
    (subst (λ (n : ℕ). CountersStand c.write.new.self (Write n c.args.at c.args.value ∷ h.events) n) opened.now
    (c.write.ensures.stands h.events (subst (λ (n : ℕ). CountersStand k.counters h.events n) (sym opened.now) opened.counters)))
    c.next-self-inside.ensures

pub returns-in-528490756-clause-stands : goal.returns-in-528490756-clause-stands
returns-in-528490756-clause-stands c = λ h s.
    let k = c.args.self.now in
    subst (λ at. StandsFor k (then_event h (Write h.now at c.args.value))) (sym c.in-528490756.is) (stands-kept k h CONSOLE_DATA c.args.value k.a k.b k.c s refl refl refl refl refl refl)

pub returns-in-528490772-clause-stands : goal.returns-in-528490772-clause-stands
returns-in-528490772-clause-stands c = λ h s.
    let k = c.args.self.now in
    subst (λ at. StandsFor k (then_event h (Write h.now at c.args.value))) (sym c.in-528490772.is) (stands-kept k h HALT c.args.value k.a k.b k.c s refl refl refl refl refl refl)

pub returns-in-528486512-clause-stands : goal.returns-in-528486512-clause-stands
returns-in-528486512-clause-stands c = λ h s.
    let k = the_view c.self.inside in
    let opened = subst (λ (k : KeptPorts). StandsFor k h) (sym c.self.view_is) s in
    subst (λ at. StandsFor (record k { interrupts = c.acknowledge.new.self }) (then_event h (Write h.now at c.args.value))) (sym c.in-528486512.is)
    (subst (λ (i : Interrupts). StandsFor (record k { interrupts = i }) (then_event h (Write h.now I_STAT c.args.value))) (sym c.acknowledge.ensures) (stands-acknowledged k h c.args.value opened))

pub returns-in-528486516-clause-stands : goal.returns-in-528486516-clause-stands
returns-in-528486516-clause-stands c = λ h s.
    let k = the_view c.self.inside in
    let opened = subst (λ (k : KeptPorts). StandsFor k h) (sym c.self.view_is) s in
    subst (λ at. StandsFor (record k { interrupts = c.set_mask.new.self }) (then_event h (Write h.now at c.args.value))) (sym c.in-528486516.is)
    (subst (λ (i : Interrupts). StandsFor (record k { interrupts = i }) (then_event h (Write h.now I_MASK c.args.value))) (sym c.set_mask.ensures) (stands-masked k h c.args.value opened))

pub returns-in_default-clause-stands : goal.returns-in_default-clause-stands
returns-in_default-clause-stands c = λ h s.
    let k = the_view c.self.inside in
    let opened = subst (λ (k : KeptPorts). StandsFor k h) (sym c.self.view_is) s in
    stands-kept k h c.args.at c.args.value c.write-in_default.new.self.a c.write-in_default.new.self.b c.write-in_default.new.self.c opened (sym c.is_counter_port.ensures ∙ c.if-is_counter_port.false)
    (search rules) (grind (arith, nat_tests)) c.write-in_default.ensures.a c.write-in_default.ensures.b c.write-in_default.ensures.c
