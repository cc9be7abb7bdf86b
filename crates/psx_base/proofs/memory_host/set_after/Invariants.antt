use Rattle.std.proofs.Common.{◌≡◌, drop}
use Rattle.psx_base.specs.Calls.{after_of}
use Rattle.psx_base.proofs.memory_host.set_after.Given as goal

-- no setting that was passed is of this call
abbrev pub invariant-loop-number : goal.invariant-loop-number
invariant-loop-number l = after_of (drop l.number-index l.calls) l.call ≡ after_of l.calls l.call
