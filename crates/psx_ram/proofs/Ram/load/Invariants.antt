use Rattle.std.proofs.Common.{◌≡◌, take}
use Rattle.psx_base.specs.Memory.{put_bytes}
use Rattle.psx_ram.proofs.Ram.load.Given as goal

abbrev pub invariant-loop-i : goal.invariant-loop-i
invariant-loop-i l = l.self ≡ put_bytes l.initial.self l.at (take l.i l.bytes)
