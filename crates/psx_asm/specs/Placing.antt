-- The bytes that a statement places, each at its address.
use Rattle.std.specs.Prelude.{ℕ, ◌+◌, ◌%◌, ◌^◌, Bool, not, nat_le, ◌&&◌, ◌==◌, List, [], ◌∷◌, find, flat_map, Option, Some, None, Result, Ok, Err, if◌then◌else◌}
use Rattle.std.specs.List.{list_any}
use Rattle.psx_asm.specs.declared.object.Part.{Part}
use Rattle.psx_asm.specs.declared.fault.AsmFault.{AsmFault}
use Rattle.psx_asm.specs.declared.fault.AsmFault.TheVariants.{Range, Overlap}
use Rattle.psx_asm.specs.Operands.{Known}
use Rattle.psx_asm.specs.Statement.{Statement}
use Rattle.psx_asm.specs.Line.{◌>>=◌}
use Rattle.psx_asm.specs.Encoding.{encoded}

-- bytes from an address on, modulo 2 ^ 32
abbrev pub addressed : ℕ → List ℕ → List (ℕ × ℕ)
addressed at [] = []
addressed at (b ∷ bs) = (at, b) ∷ addressed ((at + 1) % 2 ^ 32) bs

-- whether an address stands in the window, both ends within it
abbrev pub is_inside : ℕ → ℕ → ℕ → Bool
is_inside from to at = nat_le from at && nat_le at to

-- the bytes of a line, where the first of their addresses that isn't in the window is none
abbrev pub in_window : List (ℕ × ℕ) → Option (ℕ × ℕ) → Result (List (ℕ × ℕ)) AsmFault
in_window new (Some p) = Err (Range p.0)
in_window new None = Ok new

-- whether a byte stands at an address
abbrev pub is_taken : List (ℕ × ℕ) → ℕ → Bool
is_taken placed at = list_any (λ p. p.0 == at) placed

-- whether a byte stands at an address of others
abbrev pub is_overlap : List (ℕ × ℕ) → List (ℕ × ℕ) → Bool
is_overlap placed new = list_any (λ p. is_taken placed p.0) new

-- the bytes that a statement places in the window at an address, behind what lines before it placed, or its fault of the second round
unfoldable pub placing : Known → (from to : ℕ) → ℕ → List (ℕ × ℕ) → Statement → Result (List (ℕ × ℕ)) AsmFault
placing known from to at placed s = do
  bytes ← encoded known at s
  new ← in_window (addressed at bytes) (find (λ p. not (is_inside from to p.0)) (addressed at bytes))
  if is_overlap placed new then Err Overlap else Ok new

-- the bytes of parts, one part behind the other
abbrev pub bytes_of_parts : List Part → List (ℕ × ℕ)
bytes_of_parts parts = flat_map (λ p. addressed p.at p.bytes) parts
