-- A word by its four bytes.
use Rattle.std.proofs.Common.{◌≡◌, ℕ, ◌+◌, ◌*◌, ◌^◌, List, get_or, sym}
use Rattle.psx_base.specs.Memory.{Memory, byte, word}
use Rattle.psx_ram.specs.Words.{word_at}

-- words of the same four bytes are the same
pub word_by_bytes : (m n : Memory) (a b : ℕ) → byte m a ≡ byte n b → byte m (a + 1) ≡ byte n (b + 1) → byte m (a + 2) ≡ byte n (b + 2) → byte m (a + 3) ≡ byte n (b + 3) → word m a ≡ word n b
unfolding word
word_by_bytes m n a b p0 p1 p2 p3 = λ i. p0 i + p1 i * 2 ^ 8 + p2 i * 2 ^ 16 + p3 i * 2 ^ 24

-- and so is the number of the same four bytes of a list
pub word_of : (m : Memory) (q : ℕ) (xs : List ℕ) (i : ℕ)
    → byte m q ≡ get_or xs i 0 → byte m (q + 1) ≡ get_or xs (i + 1) 0 → byte m (q + 2) ≡ get_or xs (i + 2) 0 → byte m (q + 3) ≡ get_or xs (i + 3) 0
    → word_at xs i ≡ word m q
unfolding word
word_of m q xs i a b c d = sym (λ k. a k + b k * 2 ^ 8 + c k * 2 ^ 16 + d k * 2 ^ 24)
