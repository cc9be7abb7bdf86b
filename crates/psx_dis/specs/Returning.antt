-- What the printed form of words assembles to.
use Rattle.std.specs.Prelude.{◌≡◌, ℕ, ◌+◌, ◌*◌, ◌/◌, ◌%◌, ◌^◌, ◌<◌, ◌≤◌, List, [], ◌∷◌, length, ◌↔◌, None, Result, Ok}
use Rattle.psx_asm.specs.declared.fault.AsmError.{AsmError}
use Rattle.psx_asm.specs.Assembly.{Placed, IsAssemblyOf}
use Rattle.psx_dis.specs.Printed.{printed}

-- the bytes of words, of each the lowest first, behind their addresses, where the first word stands at an address
abbrev pub word_bytes : ℕ → List ℕ → List (ℕ × ℕ)
word_bytes at [] = []
word_bytes at (w ∷ ws) = (at, w % 2 ^ 8) ∷ (at + 1, w / 2 ^ 8 % 2 ^ 8) ∷ (at + 2, w / 2 ^ 16 % 2 ^ 8) ∷ (at + 3, w / 2 ^ 24) ∷ word_bytes (at + 4) ws

-- these words and no label `start`
abbrev pub words_alone : ℕ → List ℕ → Placed
words_alone start words = record { bytes = word_bytes start words; start = None }

-- a window has these addresses, so many from one on
abbrev pub IsHeld : (from to at count : ℕ) → Type 0
IsHeld from to at count = (k : ℕ) → k < count → (from ≤ at + k) × (at + k ≤ to)

-- in each window that has the words' addresses, what the printed form of the words gives is these words and nothing else, without a fault
abbrev pub AssemblesBack : ℕ → List ℕ → Type 0
AssemblesBack start words = (from to : ℕ) → IsHeld from to start (4 * length words)
    → (answer : Result Placed AsmError) → IsAssemblyOf (printed start words) from to answer ↔ (answer ≡ Ok (words_alone start words))
