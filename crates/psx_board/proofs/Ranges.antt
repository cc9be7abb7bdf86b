-- A range of user memory lies in memory that can be written.
use Rattle.std.proofs.Common.{◌≡◌, ℕ, ◌<◌, ◌^◌, None, IsTrue, arith, inl, inr}
use Rattle.std.specs.Prelude.{◌⊎◌}
use Rattle.psx_base.specs.Addresses.{place}
use Rattle.psx_base.specs.FirstBad.{first_bad_of}
use Rattle.psx_base.specs.Memory.{is_mapped}
use Rattle.psx_exe.proofs.Placing.{InMain, InScratchpad, range}

mapped : (p n : ℕ) → InMain p n ⊎ InScratchpad p n → IsTrue (is_mapped p n)
mapped p n (inl main) = let a = main.above in let b = main.below in grind arith
mapped p n (inr scratchpad) = let a = scratchpad.above in let b = scratchpad.below in grind arith

below_rom : (p n : ℕ) → InMain p n ⊎ InScratchpad p n → 0 < n → p < 0x1FC00000
below_rom p n (inl main) some = let a = main.above in let b = main.below in omega arith
below_rom p n (inr scratchpad) some = let a = scratchpad.above in let b = scratchpad.below in omega arith

pub user_mapped : (a n : ℕ) → a < 2 ^ 32 → 0 < n → first_bad_of a n ≡ None → IsTrue (is_mapped (place a) n)
user_mapped a n small some none = mapped (place a) n (range a n small some none)

pub user_writable : (a n : ℕ) → a < 2 ^ 32 → 0 < n → first_bad_of a n ≡ None → place a < 0x1FC00000
user_writable a n small some none = below_rom (place a) n (range a n small some none) some
