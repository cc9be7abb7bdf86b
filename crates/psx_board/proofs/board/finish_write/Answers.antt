use Rattle.std.proofs.Common.{refl, subst}
use Rattle.psx_cpu.specs.declared.step.Did.TheVariants.{PortWrite, Stopped}
use Rattle.psx_ports.specs.History.{Write, then_event}
use Rattle.psx_board.specs.Finished.{Wrote}
use Rattle.psx_board.proofs.board.finish_write.Goals as goal

pub returns-in-Halt-clause-ended : goal.returns-in-Halt-clause-ended
returns-in-Halt-clause-ended c h waiting s =
    let counted = c.advance.ensures.carries (then_event h (Write h.now c.args.at c.args.value)) waiting (c.in-Halt.ensures.carries h waiting s) in
    subst (λ d. Wrote h waiting c.args.at c.args.value d (Stopped c.in-Halt.stop) c.advance.new.self) (c.in-Halt.ensures.did h waiting s) (refl, counted)

pub returns-in-Quiet-clause-ended : goal.returns-in-Quiet-clause-ended
returns-in-Quiet-clause-ended c h waiting s =
    let counted = c.advance.ensures.carries (then_event h (Write h.now c.args.at c.args.value)) waiting (c.in-Quiet.ensures.carries h waiting s) in
    subst (λ d. Wrote h waiting c.args.at c.args.value d (PortWrite c.args.at c.args.value) c.advance.new.self) (c.in-Quiet.ensures.did h waiting s) (refl, counted)

pub returns-in-Tty-clause-ended : goal.returns-in-Tty-clause-ended
returns-in-Tty-clause-ended c h waiting s =
    let counted = c.advance.ensures.carries (then_event h (Write h.now c.args.at c.args.value)) waiting (c.in-Tty.ensures.carries h waiting s) in
    subst (λ d. Wrote h waiting c.args.at c.args.value d (PortWrite c.args.at c.args.value) c.advance.new.self) (c.in-Tty.ensures.did h waiting s) (refl, counted)
