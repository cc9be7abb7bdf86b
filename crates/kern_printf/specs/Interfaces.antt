-- What each listing of printf is asked for, by its address.
use Rattle.std.specs.Prelude.{ℕ, cond, nat_eq}
use Rattle.psx_base.specs.KernelState.{KernelState}
use Rattle.psx_flow.specs.Tree.{Tree}
use Rattle.kern_stay.specs.Stages.{Interface, IsStage}
use Rattle.kern_printf.specs.Own.{own}
use Rattle.kern_printf.specs.declared.places.TheConstants as places
use Rattle.kern_printf.specs.Walking.{AtPrintf, AtFormat, AtConversion, AtFlag, AtWidth, AtPrecision, AtLength, AtKind}
use Rattle.kern_printf.specs.Taking.{AtArgument, AtNumber, AtByte, AtText, AtFill, AtCount, AtZeros, AtNullText, AtMeasure}
use Rattle.kern_printf.specs.Writing.{AtPadding, AtLeft, AtSign, AtDigits, AtTextBytes, AtNullBytes, AtRight}

-- a listing of the walk, one that takes an argument, or one that writes
abbrev pub interface : KernelState → Interface
interface s todo at bank stay e =
    cond (nat_eq at places.PRINTF) (AtPrintf s todo bank stay e) (
    cond (nat_eq at places.FORMAT) (AtFormat s todo bank stay e) (
    cond (nat_eq at places.CONVERSION) (AtConversion s todo bank stay e) (
    cond (nat_eq at places.FLAG) (AtFlag s todo bank stay e) (
    cond (nat_eq at places.WIDTH) (AtWidth s todo bank stay e) (
    cond (nat_eq at places.PRECISION) (AtPrecision s todo bank stay e) (
    cond (nat_eq at places.LENGTH) (AtLength s todo bank stay e) (
    cond (nat_eq at places.KIND) (AtKind s todo bank stay e) (
    cond (nat_eq at places.ARGUMENT) (AtArgument s todo bank stay e) (
    cond (nat_eq at places.NUMBER) (AtNumber s todo bank stay e) (
    cond (nat_eq at places.BYTE) (AtByte s todo bank stay e) (
    cond (nat_eq at places.TEXT) (AtText s todo bank stay e) (
    cond (nat_eq at places.FILL) (AtFill s todo bank stay e) (
    cond (nat_eq at places.COUNT) (AtCount s todo bank stay e) (
    cond (nat_eq at places.ZEROS) (AtZeros s todo bank stay e) (
    cond (nat_eq at places.NULL_TEXT) (AtNullText s todo bank stay e) (
    cond (nat_eq at places.MEASURE) (AtMeasure s todo bank stay e) (
    cond (nat_eq at places.PADDING) (AtPadding s todo bank stay e) (
    cond (nat_eq at places.LEFT) (AtLeft s todo bank stay e) (
    cond (nat_eq at places.SIGN) (AtSign s todo bank stay e) (
    cond (nat_eq at places.DIGITS) (AtDigits s todo bank stay e) (
    cond (nat_eq at places.TEXT_BYTES) (AtTextBytes s todo bank stay e) (
    cond (nat_eq at places.NULL_BYTES) (AtNullBytes s todo bank stay e) (
    cond (nat_eq at places.RIGHT) (AtRight s todo bank stay e) (
    ⊥))))))))))))))))))))))))

-- a listing does what it is asked for
abbrev pub Does : ℕ → Tree → Type 0
Does at T = (s : KernelState) → IsStage own (interface s) at T
