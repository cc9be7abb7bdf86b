use Rattle.std.proofs.Common.{◌≡◌, ℕ, Option, Some, true, sym, subst, ◌∙◌, arith}
use Rattle.psx_base.specs.PortAddresses.{port}
use Rattle.psx_cpu.specs.Step.{step, port_read}
use Rattle.psx_cpu.proofs.Moves.{step-read_port}
use Rattle.psx_board.specs.Turn.{asked}
use Rattle.psx_board.specs.Devices.{Carries}
use Rattle.psx_board.specs.Finished.{after_read}
use Rattle.psx_board.proofs.board.ask.Goals as goal

pub read-requires : goal.read-requires
read-requires c = let is : port c.in-Some.read.at ≡ true = step-read_port _ _ _ (sym (c.in-Some.ensures 0)) in grind arith

pub returns-in-Some-clause-carries : goal.returns-in-Some-clause-carries
returns-in-Some-clause-carries c m k l carries =
    let e : asked m ≡ Some c.in-Some.read.at = sym (c.in-Some.ensures 0 ∙ (λ i. port_read (step (k i) (record { line = l i; value = 0 })))) in
    let At : Option ℕ → Type 0 = λ o. Carries c.read.new.self (after_read m.history o) m.waiting in
    subst At (sym e) (c.read.ensures.carries m.history m.waiting carries)
