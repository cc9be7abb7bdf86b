use Rattle.std.proofs.Common.{◌≡◌, ℕ, ◌+◌, sym, ap, refl, ◌∙◌, arith}
use Rattle.psx_cpu.specs.Views.{core_of}
use Rattle.psx_board.specs.Delivery.{delivered}
use Rattle.psx_board.specs.Machine.{Machine}
use Rattle.psx_board.specs.Turn.{asked, answered, turn}
use Rattle.psx_board.specs.StepDid.{step_did}
use Rattle.psx_board.specs.Stands.{View, Stands, Turned}
use Rattle.psx_board.specs.Finished.{finished}
use Rattle.psx_board.proofs.Kernel.{step-counts}
use Rattle.psx_board.proofs.Turning.{turned-step}
use Rattle.psx_board.proofs.Steps.{one_more_step}
use Rattle.psx_board.proofs.board.Board.step.Goals as goal

-- the view of what the step left
abbrev view : goal.After-keep → View
view c = record { core = core_of c.step-did.new.self c.step-did.new.ram; devices = c.finish-did.new.devices; taken = c.finish-did.new.devices.count; stopped = c.keep.new.stopped }

-- what it leaves, and what it did
made : (c : goal.After-keep) (m : Machine) → Stands c.args.self.now m → Turned m (turn m) c.finish-did.result (view c) × (c.finish-did.result ≡ step_did m)
made c m s =
    let now = rw (← c.self.view_is) at s in
    let d = delivered m in
    let l = c.line-line.ensures d.history d.waiting now.devices in
    let f = c.finish-did.ensures.ended _ d.waiting (c.ask-value.ensures.carries d now.core l now.devices) in
    turned-step m (view c) _ c.line-line.result c.ask-value.result c.step-did.result c.finish-did.result now.core l (c.ask-value.ensures.value d now.core l now.devices) c.step-did.ensures.does
    (c.ask-value.ensures.same d (answered d.history (asked d)) now.core l) f refl c.keep.ensures

pub returns-clause-turns : goal.returns-clause-turns
returns-clause-turns c m s = (made c m s).0

pub returns-clause-did : goal.returns-clause-did
returns-clause-did c m s = (made c m s).1

pub returns-clause-after : goal.returns-clause-after
returns-clause-after c calls m a = one_more_step calls m c.args.self.now (view c) c.finish-did.result a c.requires.running (returns-clause-turns c)

pub invariant_of-self : goal.invariant_of-self
invariant_of-self c none =
    absurd (step-counts (core_of c.self.inside.cpu c.self.inside.ram) _ c.step-did.result (core_of c.step-did.new.self c.step-did.new.ram) c.self.inside.devices.count c.finish-did.new.devices.count
    (λ fresh. (c.self.invariant fresh).latch) c.step-did.ensures.does (c.finish-did.ensures.counted ∙ ap (λ (n : ℕ). n + finished c.step-did.result) c.ask-value.ensures.counted) none)

pub returns-clause-went : goal.returns-clause-went
returns-clause-went c went =
    let old : c.args.self.now.taken ≡ c.self.inside.devices.count = ap (λ (b : View). b.taken) (sym c.self.view_is) in
    omega (arith, old, c.finish-did.ensures.counted, c.finish-did.ensures.went went, c.ask-value.ensures.counted)
