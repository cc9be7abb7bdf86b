-- Whether a file is open for reading, by the lowest bit of its mode.
use Rattle.std.proofs.Common.{◌≡◌, ℕ, ◌*◌, ◌%◌, ◌^◌, true, false, Option, Some, None, refl, arith, eq-eqb, ne_eqb}
use Rattle.abs_kernel.specs.Files.{is_readable}
use Rattle.kern_file.proofs.FilesHeld.{mode_of}

pub readable : (f : Option ℕ) → (mode_of f * 2 ^ 31 % 2 ^ 32 ≡ 0 → ⊥) → is_readable f ≡ true
readable None ne = absurd (ne refl)
readable (Some mode) ne = eq-eqb (mode % 2) 1 (omega (arith, ne))

pub unreadable : (f : Option ℕ) → mode_of f * 2 ^ 31 % 2 ^ 32 ≡ 0 → is_readable f ≡ false
unreadable None z = refl
unreadable (Some mode) z = ne_eqb (mode % 2) 1 (λ e. omega (arith, e, z))
