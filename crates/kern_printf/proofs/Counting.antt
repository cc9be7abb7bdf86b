-- How many bytes are written, from a listing to the next one.
use Rattle.std.proofs.Common.{◌≡◌, ℕ, ◌+◌, ◌%◌, ◌^◌, arith}
use Rattle.kern_printf.specs.Writing.{CountsTo}

-- one byte more is written
pub counts_on : {count now more : ℕ} (less : ℕ) → less + 1 ≡ more → CountsTo count now more → CountsTo count ((now + 1) % 2 ^ 32) less
counts_on less e h = record { small = omega arith; all = omega (arith, e, h.all) }

-- so many more are to come than were written
pub counts_from : (count now all more : ℕ) → now ≡ count % 2 ^ 32 → all ≡ more → CountsTo (count + all) now more
counts_from count now all more h e = record { small = omega (arith, h); all = omega (arith, e, h) }

-- the same number, written otherwise
pub counts_as : {count now more : ℕ} (same : ℕ) → same ≡ more → CountsTo count now more → CountsTo count now same
counts_as same e h = record { small = h.small; all = omega (arith, e, h.all) }

-- nothing more is to come
pub counts_all : {count now more : ℕ} → more ≡ 0 → CountsTo count now more → now ≡ count % 2 ^ 32
counts_all e h = omega (arith, e, h.all, h.small)
