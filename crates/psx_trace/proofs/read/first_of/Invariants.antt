use Rattle.std.proofs.Common.{ℕ, ◌<◌, get_or}
use Rattle.psx_trace.specs.declared.item.Item.TheVariants.{B}
use Rattle.psx_trace.specs.Reading.{BeginsWith}
use Rattle.psx_trace.proofs.read.first_of.Given as goal

abbrev pub invariant-loop-item : goal.invariant-loop-item
invariant-loop-item l = (k : ℕ) → k < l.item-index → BeginsWith l.text (get_or l.items k (B 0)) → ⊥
