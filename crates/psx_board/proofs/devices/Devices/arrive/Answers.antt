use Rattle.std.proofs.Common.{◌≡◌, ℕ, ◌-◌, List, take, drop, length, sym, ap, subst, ◌∙◌, arith}
use Rattle.std.proofs.lemmas.List.{drop-drop}
use Rattle.std.proofs.lemmas.List.Elements.{All-drop, All-take}
use Rattle.psx_sched.specs.Schedule.{IsPlausible}
use Rattle.psx_sched.specs.declared.schedule.Entry.{Entry}
use Rattle.psx_ports.specs.Stands.{StandsFor}
use Rattle.psx_board.specs.Delivery.{due, later, all_arrived}
use Rattle.psx_board.proofs.Again.{all_arrived-now}
use Rattle.psx_board.proofs.Delivering.{plausible, taken_whole}
use Rattle.psx_board.proofs.Lagging.{ticked_to, carried}
use Rattle.psx_board.proofs.devices.Devices.arrive.Goals as goal

pub deliver-number-requires-clause-plausible : goal.deliver-number-requires-clause-plausible
deliver-number-requires-clause-plausible c = All-take IsPlausible _ _ (All-drop IsPlausible c.self.inside.place c.entries.result.now (rw c.entries.ensures.list (plausible 0 _ c.entries.ensures.schedule.ordered)))

pub returns-clause-carries : goal.returns-clause-carries
returns-clause-carries c h rest stands at waiting =
    let all = c.entries.result.now in
    let place = c.self.inside.place in
    let slice : List Entry = take (length all - place) (drop place all) in
    let number = c.deliver-number.result in
    let count = c.args.count in
    let left : drop place c.self.inside.schedule ≡ rest = rw (← c.self.view_is) at waiting in
    let whole : slice ≡ rest = taken_whole place all ∙ ap (drop place) c.entries.ensures.list ∙ left in
    let now = ticked_to c.self.inside.ports h count c.tick.new.self (rw (← c.self.view_is) at stands) at c.tick.ensures.stands in
    let Is : ℕ → List Entry → Type 0 = λ n es. StandsFor c.deliver-number.new.ports (all_arrived h (due n es)) in
    let counted : c.planned-self-inside.result - (c.planned-self-inside.result - count) ≡ h.now = omega (arith, at, c.planned-self-inside.ensures.least) in
    carried _ (all_arrived h (due h.now rest)) (later h.now rest)
    (subst (λ (n : ℕ). Is n rest) at (subst (λ (es : List Entry). Is count es) whole (c.deliver-number.ensures.arrived h now)))
    (counted ∙ sym (all_arrived-now h (due h.now rest)))
    (sym (drop-drop number place c.self.inside.schedule) ∙ ap (drop number) (left ∙ sym whole) ∙ c.deliver-number.ensures.later ∙ ap (later count) whole ∙ ap (λ (n : ℕ). later n rest) at)
