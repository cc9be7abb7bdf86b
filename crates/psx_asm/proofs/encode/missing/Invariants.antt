use Rattle.std.proofs.Common.{◌≡◌, drop}
use Rattle.psx_asm.specs.Encoding.{missing}
use Rattle.psx_asm.specs.Names.{names}
use Rattle.psx_asm.specs.Shown.{shown_values}
use Rattle.psx_asm.proofs.encode.missing.Given as goal

abbrev pub invariant-loop-value : goal.invariant-loop-value
invariant-loop-value l = missing (names l.known) (shown_values (drop l.value-index l.values)) ≡ missing (names l.known) (shown_values l.values)
