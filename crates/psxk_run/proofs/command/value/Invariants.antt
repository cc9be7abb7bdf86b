use Rattle.std.proofs.Common.{◌≡◌, ◌≤◌, ◌*◌, ◌+◌, drop}
use Rattle.psxk_run.specs.Command.{value_of}
use Rattle.psxk_run.proofs.command.value.Given as goal

abbrev pub invariant-loop-digit : goal.invariant-loop-digit
invariant-loop-digit l = record {
  so_far : value_of l.value (drop l.digit-index l.digits) ≡ value_of 0 l.digits;
  small : l.value ≤ 4000000000 * 10 + 9;
}
