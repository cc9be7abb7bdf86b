-- What the code's list of names says of a name.
use Rattle.std.specs.Prelude.{bytes_eq}
use Rattle.indexmap.specs.IndexMap.{get_by}
use Rattle.psx_asm.specs.declared.symbols.Symbols.{Symbols}
use Rattle.psx_asm.specs.Operands.{Known}

-- by the names' bytes
abbrev pub names : Symbols → Known
names s q = get_by (λ k. bytes_eq q k.now) s.map
