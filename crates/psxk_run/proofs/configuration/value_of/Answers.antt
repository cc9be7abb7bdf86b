use Rattle.std.proofs.Common.{ℕ, zero, suc, ◌^◌, ◌<◌, ◌≤◌, List, [], ◌∷◌, length, get_or, arith}
use Rattle.std.specs.Char.{digit_value}
use Rattle.std.specs.Str.Parse.{AllDigits}
use Rattle.std.proofs.Math.Nat.{pow-le-pow_right}
use Rattle.psxk_run.proofs.configuration.value_of.Goals as goal

digit_small : (ds : List ℕ) (i : ℕ) → AllDigits 16 ds → i < length ds → digit_value (get_or ds i 0) < 16
digit_small [] i all below = absurd (omega arith)
digit_small (d ∷ ds) zero all below = all.0
digit_small (d ∷ ds) (suc i) all below = digit_small ds i all.1 (omega arith)

eight : (v i : ℕ) → v < 16 ^ i → i ≤ 8 → v < 2 ^ 32
eight v i small few = let most : 16 ^ i ≤ 16 ^ 8 = pow-le-pow_right (omega arith) few in omega arith

pub unreachable-requires : goal.unreachable-requires
unreachable-requires c = c.in_default.ensures.value (digit_small c.args.digits.now c.loop-digit.digit-index c.requires.digits.1 c.loop-digit-test.true)

pub overflow_mul-value : goal.overflow_mul-value
overflow_mul-value c =
    omega (arith, eight c.loop-digit.value c.loop-digit.digit-index c.loop-digit.invariant.small (omega arith))

pub overflow_add-value : goal.overflow_add-value
overflow_add-value c =
    omega (arith, c.in-Some.ensures.value, eight c.loop-digit.value c.loop-digit.digit-index c.loop-digit.invariant.small (omega arith))

pub overflow_cast-result : goal.overflow_cast-result
overflow_cast-result c =
    omega (arith, eight c.loop-digit.value c.loop-digit.digit-index c.loop-digit.invariant.small (omega arith))
