use Rattle.std.proofs.Common.{ℕ, List, ◌∙◌, ap, sym}
use Rattle.psx_asm.specs.Placing.{addressed}
use Rattle.psxk_run.specs.Assembling.{put}
use Rattle.psxk_run.proofs.PlacedBytes.{put-parts}
use Rattle.psxk_run.proofs.assembling.put_parts.Goals as goal

pub loop-part-preserved : goal.loop-part-preserved
loop-part-preserved c =
    let ps = c.args.parts.now in
    let i = c.loop-part.part-index in
    let p = c.part-item.result in
    c.put_part.ensures ∙ ap (λ (t : List ℕ). put c.args.dest t (addressed p.at p.bytes)) c.loop-part.invariant ∙ sym (put-parts c.args.dest c.args.text.now ps i p c.loop-part-test.true c.part-item.is)
