use Rattle.std.proofs.Common.{◌≡◌}
use Rattle.std.specs.Prelude.{replicate}
use Rattle.psx_base.specs.Memory.{put_bytes}
use Rattle.psx_ram.proofs.Ram.fill.Given as goal

abbrev pub invariant-loop-i : goal.invariant-loop-i
invariant-loop-i l = l.self ≡ put_bytes l.initial.self l.at (replicate l.i 0)
