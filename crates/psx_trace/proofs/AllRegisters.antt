-- The 31 registers are their list.
use Rattle.std.specs.Prelude.{◌≡◌, ℕ, zero, suc, List, [], ◌∷◌, length, slice_index, refl}
use Rattle.std.proofs.Common.{arith, ap}
use Rattle.psx_trace.specs.Line.{general_registers}
use Rattle.psx_trace.specs.Plain.{registers_of}

abbrev pub tabulate : ℕ → (ℕ → ℕ) → List ℕ
tabulate zero f = []
tabulate (suc n) f = f 0 ∷ tabulate n (λ k. f (suc k))

-- a list is its items by their numbers
pub rebuilt : (n : ℕ) (xs : List ℕ) → length xs ≡ n → tabulate n (slice_index xs) ≡ xs
rebuilt zero [] e = refl
rebuilt zero (x ∷ xs) e = absurd (omega arith)
rebuilt (suc n) [] e = absurd (omega arith)
rebuilt (suc n) (x ∷ xs) e = ap (λ l. x ∷ l) (rebuilt n xs (omega arith))

-- r1 to r31 of the registers that a list of 31 words makes are that list
pub all_registers : (words : List ℕ) (hi lo : ℕ) → length words ≡ 31 → general_registers (registers_of words hi lo) ≡ words
unfolding general_registers
all_registers words hi lo e = rebuilt 31 words e
