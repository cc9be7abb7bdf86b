-- The listings of printf serve it: each is a stage.
use Rattle.std.proofs.Common.{◌≡◌, ℕ, ◌+◌, true, refl, arith}
use Rattle.std.specs.Prelude.{nat_eq}
use Rattle.psx_base.specs.KernelState.{KernelState}
use Rattle.psx_flow.specs.Run.{Run}
use Rattle.abs_kernel.specs.Stay.{Stay}
use Rattle.abs_kernel.specs.UserBytes.{longest}
use Rattle.abs_kernel.specs.Printf.{printf}
use Rattle.kern_stay.specs.Doors.{most_steps}
use Rattle.kern_stay.specs.Stages.{ServesIn}
use Rattle.kern_stay.proofs.Staging.{AllStages, named, staged, named_behind, by_interface}
use Rattle.kern_printf.specs.Own.{own}
use Rattle.kern_printf.specs.Parts.{parts}
use Rattle.kern_printf.specs.Walking.{turns}
use Rattle.kern_printf.specs.Interfaces.{interface}
use Rattle.kern_printf.specs.declared.places.TheConstants as places
use Rattle.kern_printf.proofs.PrintfStage as of_printf
use Rattle.kern_printf.proofs.FormatStage as of_format
use Rattle.kern_printf.proofs.ConversionStage as of_conversion
use Rattle.kern_printf.proofs.FlagStage as of_flag
use Rattle.kern_printf.proofs.WidthStage as of_width
use Rattle.kern_printf.proofs.PrecisionStage as of_precision
use Rattle.kern_printf.proofs.LengthStage as of_length
use Rattle.kern_printf.proofs.KindStage as of_kind
use Rattle.kern_printf.proofs.ArgumentStage as of_argument
use Rattle.kern_printf.proofs.NumberStage as of_number
use Rattle.kern_printf.proofs.ByteStage as of_byte
use Rattle.kern_printf.proofs.TextStage as of_text
use Rattle.kern_printf.proofs.FillStage as of_fill
use Rattle.kern_printf.proofs.CountStage as of_count
use Rattle.kern_printf.proofs.ZerosStage as of_zeros
use Rattle.kern_printf.proofs.NullTextStage as of_null_text
use Rattle.kern_printf.proofs.MeasureStage as of_measure
use Rattle.kern_printf.proofs.PaddingStage as of_padding
use Rattle.kern_printf.proofs.LeftStage as of_left
use Rattle.kern_printf.proofs.SignStage as of_sign
use Rattle.kern_printf.proofs.DigitsStage as of_digits
use Rattle.kern_printf.proofs.TextBytesStage as of_text_bytes
use Rattle.kern_printf.proofs.NullBytesStage as of_null_bytes
use Rattle.kern_printf.proofs.RightStage as of_right

-- the interface names no other address
only_named : (s : KernelState) (todo at bank : ℕ) (stay : Stay) (e : Run) → interface s todo at bank stay e → named at parts ≡ true
only_named s todo at bank stay e h =
    named_behind _ _ (nat_eq at places.PRINTF) _ h (λ h0.
    named_behind _ _ (nat_eq at places.FORMAT) _ h0 (λ h1.
    named_behind _ _ (nat_eq at places.CONVERSION) _ h1 (λ h2.
    named_behind _ _ (nat_eq at places.FLAG) _ h2 (λ h3.
    named_behind _ _ (nat_eq at places.WIDTH) _ h3 (λ h4.
    named_behind _ _ (nat_eq at places.PRECISION) _ h4 (λ h5.
    named_behind _ _ (nat_eq at places.LENGTH) _ h5 (λ h6.
    named_behind _ _ (nat_eq at places.KIND) _ h6 (λ h7.
    named_behind _ _ (nat_eq at places.ARGUMENT) _ h7 (λ h8.
    named_behind _ _ (nat_eq at places.NUMBER) _ h8 (λ h9.
    named_behind _ _ (nat_eq at places.BYTE) _ h9 (λ h10.
    named_behind _ _ (nat_eq at places.TEXT) _ h10 (λ h11.
    named_behind _ _ (nat_eq at places.FILL) _ h11 (λ h12.
    named_behind _ _ (nat_eq at places.COUNT) _ h12 (λ h13.
    named_behind _ _ (nat_eq at places.ZEROS) _ h13 (λ h14.
    named_behind _ _ (nat_eq at places.NULL_TEXT) _ h14 (λ h15.
    named_behind _ _ (nat_eq at places.MEASURE) _ h15 (λ h16.
    named_behind _ _ (nat_eq at places.PADDING) _ h16 (λ h17.
    named_behind _ _ (nat_eq at places.LEFT) _ h17 (λ h18.
    named_behind _ _ (nat_eq at places.SIGN) _ h18 (λ h19.
    named_behind _ _ (nat_eq at places.DIGITS) _ h19 (λ h20.
    named_behind _ _ (nat_eq at places.TEXT_BYTES) _ h20 (λ h21.
    named_behind _ _ (nat_eq at places.NULL_BYTES) _ h21 (λ h22.
    named_behind _ _ (nat_eq at places.RIGHT) _ h22 (λ h23.
    absurd h23))))))))))))))))))))))))

-- a fact and those behind it
pub beside : {A B : Type 0} → A → B → A × B
beside a b = (a, b)

stages : (s : KernelState) → AllStages own (interface s) parts
stages s =
    beside (of_printf.stage s) (beside (of_format.stage s) (beside (of_conversion.stage s) (beside (of_flag.stage s) (beside (of_width.stage s) (
    beside (of_precision.stage s) (beside (of_length.stage s) (beside (of_kind.stage s) (beside (of_argument.stage s) (beside (of_number.stage s) (
    beside (of_byte.stage s) (beside (of_text.stage s) (beside (of_fill.stage s) (beside (of_count.stage s) (beside (of_zeros.stage s) (beside (of_null_text.stage s) (
    beside (of_measure.stage s) (beside (of_padding.stage s) (beside (of_left.stage s) (beside (of_sign.stage s) (beside (of_digits.stage s) (
    beside (of_text_bytes.stage s) (beside (of_null_bytes.stage s) (beside (of_right.stage s) (tt))))))))))))))))))))))))

pub serves : ServesIn own parts most_steps printf places.PRINTF
serves s d z m h = (
  turns longest 1 + 1,
  by_interface own parts (interface s) (λ todo at bank stay e h. staged own (interface s) todo at bank stay e h parts (stages s) (only_named s todo at bank stay e h)) (turns longest 1 + 1) (turns longest 1) places.PRINTF most_steps (printf s) _
      (omega arith)
      (record { holds = h.holds; words = h.words; r4 = refl; r5 = refl; r6 = refl; r7 = refl; r29 = refl; is = refl; to_do = omega arith; paid = omega arith }),
)
