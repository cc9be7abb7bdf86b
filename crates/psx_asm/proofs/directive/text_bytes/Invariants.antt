use Rattle.std.proofs.Common.{◌≡◌, ◌++◌, drop, false}
use Rattle.psx_asm.specs.Directives.{meant}
use Rattle.psx_asm.proofs.directive.text_bytes.Given as goal

abbrev pub invariant-loop-byte : goal.invariant-loop-byte
invariant-loop-byte l = l.bytes.items ++ meant l.escaped (drop l.byte-index l.inner) ≡ meant false l.inner
