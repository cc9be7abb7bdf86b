use Rattle.std.proofs.Common.{length, sym, ap, ◌∙◌, Ok}
use Rattle.psx_asm.specs.Output.{shown_output}
use Rattle.psx_asm.proofs.Window.{placed_free, placed_taken, placed_failed}
use Rattle.psx_asm.proofs.place.placed.Goals as goal

pub returns-in-Err-clause-placed : goal.returns-in-Err-clause-placed
returns-in-Err-clause-placed c = placed_failed _ _ _ c.args.at (shown_output c.args.output) _ c.in-Err.failure c.in-Err.ensures

pub returns-then-is_overlap-clause-placed : goal.returns-then-is_overlap-clause-placed
returns-then-is_overlap-clause-placed c =
    let len = ap length (sym c.as_slice-count.ensures.value) in
    placed_taken _ _ _ c.args.at (shown_output c.args.output) _ c.in-Ok.bytes.items c.in-Ok.ensures
    (sym (c.if-is_overlap.ensures (shown_output c.args.output) c.in-Ok.bytes.items c.requires len))

pub returns-clause-placed : goal.returns-clause-placed
returns-clause-placed c =
    let len = ap length (sym c.as_slice-count.ensures.value) in
    placed_free _ _ _ c.args.at (shown_output c.args.output) _ c.in-Ok.bytes.items c.in-Ok.ensures
    (sym (c.if-is_overlap.ensures (shown_output c.args.output) c.in-Ok.bytes.items c.requires len))
    ∙ ap Ok (sym c.in_ok-with.ensures)
