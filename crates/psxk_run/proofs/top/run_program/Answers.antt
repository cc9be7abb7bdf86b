use Rattle.std.proofs.Common.{ℕ, List, refl, subst, inl}
use Rattle.psx_board.specs.Machine.{start}
use Rattle.psx_board.specs.Run.{run}
use Rattle.psxk_run.specs.InPart.{HasFronts}
use Rattle.psxk_run.proofs.top.run_program.Goals as goal

pub returns-in-Ok-new-clause-fronts : goal.returns-in-Ok-new-clause-fronts
returns-in-Ok-new-clause-fronts g c =
    let h = g.H.Host in
    let of = λ (rom : List ℕ). HasFronts (h.sent c.args.host.now) (h.sent c.run_board.new.host) (run c.args.budget (start rom c.args.inputs.exe c.args.inputs.sizes c.args.inputs.schedule)) in
    inl (subst of c.rom.ensures.bytes (c.run_board.ensures.fronts _ c.in-Ok-new.ensures.stands refl))
