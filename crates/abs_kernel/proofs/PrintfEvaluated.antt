-- The evaluated conversions of printf.
use Rattle.std.proofs.Common.{refl}
use Rattle.abs_kernel.specs.ConversionsShown.{KindsShown, NumbersShown, FlagsShown, OthersShown, ManyDigits}

pub kinds_shown : KindsShown
kinds_shown = (refl, refl, refl, refl, refl, refl, refl)

pub numbers_shown : NumbersShown
numbers_shown = (refl, refl, refl, refl, refl, refl)

pub flags_shown : FlagsShown
flags_shown = (refl, refl, refl, refl)

pub others_shown : OthersShown
others_shown = (refl, refl, refl, refl)

pub many_digits : ManyDigits
many_digits = (refl, refl)
