-- What the code holds of placed bytes. Only private contracts cite it: `Placing` and `Assembly` say what is promised.
use Rattle.std.specs.Prelude.{◌≡◌, ℕ, List, ◌++◌, not, nat_eq, find, Result, Ok}
use Rattle.std.specs.HashSet.{HashSet, contains}
use Rattle.std.specs.declared.hash.FoldHasher.{FoldHasher}
use Rattle.std.specs.declared.hash.BuildHasherDefault.{BuildHasherDefault}
use Rattle.psx_asm.specs.declared.place.Output.{Output}
use Rattle.psx_asm.specs.declared.fault.AsmFault.{AsmFault}
use Rattle.psx_asm.specs.Operands.{Known}
use Rattle.psx_asm.specs.Statement.{Statement}
use Rattle.psx_asm.specs.Line.{◌>>=◌}
use Rattle.psx_asm.specs.Encoding.{encoded}
use Rattle.psx_asm.specs.Placing.{addressed, is_inside, in_window, is_taken, placing, bytes_of_parts}

-- the bytes of whole parts and of the one that may still grow
abbrev pub shown_output : Output → List (ℕ × ℕ)
shown_output o = bytes_of_parts o.parts.items ++ addressed o.at o.bytes.items

-- the set has the addresses of these bytes
abbrev pub IsTakenBy : HashSet ℕ (BuildHasherDefault FoldHasher) → List (ℕ × ℕ) → Type 0
IsTakenBy set placed = (at : ℕ) → contains nat_eq set at ≡ is_taken placed at

-- the bytes of a statement in the window, without their addresses
unfoldable pub bytes_inside : Known → (from to : ℕ) → ℕ → Statement → Result (List ℕ) AsmFault
bytes_inside known from to at s = do
  bytes ← encoded known at s
  new ← in_window (addressed at bytes) (find (λ p. not (is_inside from to p.0)) (addressed at bytes))
  Ok bytes

-- placed bytes, and those of a statement behind them
unfoldable pub placed_behind : Known → (from to : ℕ) → ℕ → List (ℕ × ℕ) → Statement → Result (List (ℕ × ℕ)) AsmFault
placed_behind known from to at placed s = do
  new ← placing known from to at placed s
  Ok (placed ++ new)
