use Rattle.std.proofs.Common.{◌∙◌, sym, arith}
use Rattle.kern_stay.proofs.Trees.{spelled, front}
use Rattle.kern_stay.specs.Shared.{tree}
use Rattle.kern_stay.proofs.placing.put_listing.Goals as goal

pub slice_bounds-words-end : goal.slice_bounds-words-end
slice_bounds-words-end c = omega (arith, c.size_of-size.ensures.value (tree c.args.nodes.now) (spelled c.args.nodes.now c.requires.well))

pub slice_bounds-put_lowered-end : goal.slice_bounds-put_lowered-end
slice_bounds-put_lowered-end c = front c.size_of-size.result _ (omega (arith, c.size_of-size.ensures.value (tree c.args.nodes.now) (spelled c.args.nodes.now c.requires.well)))

pub put_lowered-requires-clause-room : goal.put_lowered-requires-clause-room
put_lowered-requires-clause-room c =
    let e = c.size_of-size.ensures.value (tree c.args.nodes.now) (spelled c.args.nodes.now c.requires.well) in
    sym (front c.size_of-size.result _ (omega (arith, e))) ∙ e
