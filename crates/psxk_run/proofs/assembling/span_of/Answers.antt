use Rattle.std.proofs.Common.{ℕ, ◌∙◌, ap, sym}
use Rattle.psx_asm.specs.Placing.{addressed}
use Rattle.psxk_run.specs.Assembling.{lowest, highest, window_from, window_to}
use Rattle.psxk_run.proofs.PlacedBytes.{lowest-parts, highest-parts}
use Rattle.psxk_run.proofs.assembling.span_of.Goals as goal

pub loop-part-preserved : goal.loop-part-preserved
loop-part-preserved c =
    let ps = c.args.parts.now in
    let i = c.loop-part.part-index in
    let p = c.part-item.result in
    record {
      low = c.widen-span.ensures.low ∙ ap (λ (a : ℕ). lowest a (addressed p.at p.bytes)) c.loop-part.invariant.low ∙ sym (lowest-parts window_to ps i p c.loop-part-test.true c.part-item.is);
      high = c.widen-span.ensures.high ∙ ap (λ (a : ℕ). highest a (addressed p.at p.bytes)) c.loop-part.invariant.high ∙ sym (highest-parts window_from ps i p c.loop-part-test.true c.part-item.is);
    }
