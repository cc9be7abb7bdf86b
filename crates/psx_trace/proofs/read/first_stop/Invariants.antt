use Rattle.std.proofs.Common.{ℕ, ◌<◌, get_or}
use Rattle.psx_base.specs.declared.stop.Stop.TheVariants.{Exit}
use Rattle.psx_trace.specs.declared.item.Item.TheVariants.{S}
use Rattle.psx_trace.specs.Reading.{BeginsWith}
use Rattle.psx_trace.proofs.read.first_stop.Given as goal

abbrev pub invariant-loop-stop : goal.invariant-loop-stop
invariant-loop-stop l = (k : ℕ) → k < l.stop-index → BeginsWith l.text (S l.count (get_or l.stops k (Exit 0))) → ⊥
