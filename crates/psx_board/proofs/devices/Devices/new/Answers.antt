use Rattle.std.proofs.Common.{◌≡◌, ℕ, refl, sym, subst, ◌∙◌}
use Rattle.psx_ports.specs.History.{at_count}
use Rattle.psx_ports.specs.Stands.{StandsFor}
use Rattle.psx_board.specs.Delivery.{due, later, all_arrived}
use Rattle.psx_board.specs.Devices.{Carries}
use Rattle.psx_board.proofs.devices.Devices.new.Goals as goal

pub returns-clause-carries : goal.returns-clause-carries
returns-clause-carries c h s =
    let none : h.now ≡ 0 = sym s.now ∙ c.requires.fresh in
    let At : ℕ → Type 0 = λ n. Carries c.arrive.new.self (all_arrived h (due n c.args.schedule)) (later n c.args.schedule) in
    subst At none (c.arrive.ensures.carries h c.args.schedule (subst (λ (n : ℕ). StandsFor c.args.ports (at_count h n)) (sym s.now) s) (sym none) refl)
