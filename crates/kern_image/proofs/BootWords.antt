-- The boot code's words as instructions: before the loop, in it, and behind it up to the return.
use Rattle.std.proofs.Common.{◌≡◌, ℕ, zero, suc, ◌+◌, ◌*◌, List, [], ◌∷◌, Some, refl, arith}
use Rattle.std.specs.Prelude.{slice_index}
use Rattle.psx_ins.specs.declared.ins.Ins.TheVariants.{RFE}
use Rattle.psx_ins.specs.Decoding.{instruction_of}
use Rattle.kern_image.specs.declared.boot.TheConstants.{BOOT}
use Rattle.kern_image.proofs.BootWalk.{Act, Lui, Add, Or, ToSr, Jump, Differ, Load, Ask, Store, IsAt, more}

unfoldable pub first : List Act
first = Lui 8 0xBFC1 ∷ Lui 9 0x8000 ∷ Lui 10 0xBFC2 ∷ []

-- a turn, but for its branch and the slot
unfoldable pub copy : List Act
copy = Load 8 11 0 ∷ Load 8 12 4 ∷ Load 8 13 8 ∷ Load 8 14 12 ∷ Load 8 15 16 ∷ Load 8 16 20 ∷ Load 8 17 24 ∷ Load 8 18 28 ∷ Add 8 8 32 ∷ Store 9 11 0 ∷ Store 9 12 4 ∷ Store 9 13 8 ∷ Store 9 14 12 ∷ Store 9 15 16 ∷ Store 9 16 20 ∷ Store 9 17 24 ∷ Store 9 18 28 ∷ []

unfoldable pub back : List Act
back = Differ 8 10 0xFFEE ∷ Add 9 9 32 ∷ []

unfoldable pub last : List Act
last = Lui 8 0x1F80 ∷ Ask 8 26 0x2118 ∷ Ask 8 28 0x211C ∷ Ask 8 29 0x2120 ∷ Ask 8 10 0x2124 ∷ Ask 8 11 0x2128 ∷ Or 29 0 30 ∷ Store 9 10 0xEA0C ∷ Store 9 11 0xEA10 ∷ Add 0 4 1 ∷ Add 0 31 0xD0 ∷ Add 0 8 0x404 ∷ ToSr 8 ∷ Or 0 0 8 ∷ Or 0 0 9 ∷ Or 0 0 10 ∷ Or 0 0 11 ∷ Or 0 0 12 ∷ Or 0 0 13 ∷ Or 0 0 14 ∷ Or 0 0 15 ∷ Or 0 0 16 ∷ Or 0 0 17 ∷ Or 0 0 18 ∷ Jump 26 ∷ []

pub is_first : IsAt 0 first
unfolding first instruction_of
is_first = assumption

pub is_copy : IsAt 3 copy
unfolding copy instruction_of
is_copy = assumption

pub is_back : IsAt 20 back
unfolding back instruction_of
is_back = assumption

pub is_last : IsAt 22 last
unfolding last instruction_of
is_last = assumption

pub is_return : instruction_of (slice_index BOOT 47) ≡ Some RFE
unfolding instruction_of
is_return = refl

-- ---- how many steps

-- so many turns, and one more
unfoldable pub steps : ℕ → ℕ → ℕ
steps zero left = more copy (more back left)
steps (suc t) left = more copy (more back (steps t left))

steps_are : (t left : ℕ) → steps t left ≡ 19 * (t + 1) + left
unfolding steps copy back
steps_are zero left = omega arith
steps_are (suc t) left = let e = steps_are t left in omega arith

pub all_steps : more first (steps 2047 (more last 1)) ≡ 38941
unfolding first last
all_steps = let e = steps_are 2047 (more last 1) in omega (arith, e)
