use Rattle.std.proofs.Common.{◌≡◌, drop}
use Rattle.psx_asm.specs.Encoding.{elements}
use Rattle.psx_asm.specs.Names.{names}
use Rattle.psx_asm.specs.Shown.{shown_values}
use Rattle.psx_asm.proofs.Front.{in_front}
use Rattle.psx_asm.proofs.encode.elements.Given as goal

abbrev pub invariant-loop-value : goal.invariant-loop-value
invariant-loop-value l = in_front l.bytes.items (elements (names l.known) l.width (shown_values (drop l.value-index l.values))) ≡ elements (names l.known) l.width (shown_values l.values)
