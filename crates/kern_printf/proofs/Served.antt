-- Each listing stands at its address, and together they serve printf.
use Rattle.std.proofs.Common.{refl, arith, inr}
use Rattle.psx_base.specs.Memory.{Memory, word}
use Rattle.psx_flow.specs.Kernel.{kernel_words}
use Rattle.psx_flow.specs.Reaches.{ArePlaced}
use Rattle.abs_kernel.specs.Printf.{printf}
use Rattle.kern_stay.specs.Shared.{tree}
use Rattle.kern_stay.specs.declared.room.TheConstants.{ROOM_NODES}
use Rattle.kern_stay.specs.Words.{Stand}
use Rattle.kern_stay.specs.Doors.{most_steps}
use Rattle.kern_stay.specs.Stages.{IsServedIn}
use Rattle.kern_stay.proofs.Standing.{placed_by}
use Rattle.kern_printf.specs.Own.{own}
use Rattle.kern_printf.specs.Parts.{parts}
use Rattle.kern_printf.specs.PrintfWords.{printf_pieces}
use Rattle.kern_printf.specs.PrintfLaws.{PrintfServes}
use Rattle.kern_printf.specs.declared.places.TheConstants as places
use Rattle.kern_printf.specs.declared.format.TheConstants.{PRINTF_NODES, FORMAT_NODES}
use Rattle.kern_printf.specs.declared.conversion.TheConstants.{CONVERSION_NODES, FLAG_NODES, WIDTH_NODES, PRECISION_NODES, LENGTH_NODES}
use Rattle.kern_printf.specs.declared.kind.TheConstants.{KIND_NODES, ARGUMENT_NODES}
use Rattle.kern_printf.specs.declared.number.TheConstants.{NUMBER_NODES, FILL_NODES, COUNT_NODES, ZEROS_NODES, BYTE_NODES}
use Rattle.kern_printf.specs.declared.text.TheConstants.{TEXT_NODES, NULL_TEXT_NODES, MEASURE_NODES}
use Rattle.kern_printf.specs.declared.padding.TheConstants.{PADDING_NODES, LEFT_NODES, RIGHT_NODES}
use Rattle.kern_printf.specs.declared.emission.TheConstants.{SIGN_NODES, DIGITS_NODES, TEXT_BYTES_NODES, NULL_BYTES_NODES}
use Rattle.kern_printf.proofs.Joined.{beside, serves}

placed : (m : Memory) → Stand (word m) printf_pieces → ArePlaced kernel_words m parts
placed m r =
    beside (placed_by m places.PRINTF (tree PRINTF_NODES) refl refl refl refl (r.0)) (beside (placed_by m places.FORMAT (tree FORMAT_NODES) refl refl refl refl (r.1.0)) (
    beside (placed_by m places.CONVERSION (tree CONVERSION_NODES) refl refl refl refl (r.1.1.0)) (
    beside (placed_by m places.FLAG (tree FLAG_NODES) refl refl refl refl (r.1.1.1.0)) (
    beside (placed_by m places.WIDTH (tree WIDTH_NODES) refl refl refl refl (r.1.1.1.1.0)) (
    beside (placed_by m places.PRECISION (tree PRECISION_NODES) refl refl refl refl (r.1.1.1.1.1.0)) (
    beside (placed_by m places.LENGTH (tree LENGTH_NODES) refl refl refl refl (r.1.1.1.1.1.1.0)) (
    beside (placed_by m places.KIND (tree KIND_NODES) refl refl refl refl (r.1.1.1.1.1.1.1.0)) (
    beside (placed_by m places.ARGUMENT (tree ARGUMENT_NODES) refl refl refl refl (r.1.1.1.1.1.1.1.1.0)) (
    beside (placed_by m places.NUMBER (tree NUMBER_NODES) refl refl refl refl (r.1.1.1.1.1.1.1.1.1.0)) (
    beside (placed_by m places.BYTE (tree BYTE_NODES) refl refl refl refl (r.1.1.1.1.1.1.1.1.1.1.1.1.1.0)) (
    beside (placed_by m places.TEXT (tree TEXT_NODES) refl refl refl refl (r.1.1.1.1.1.1.1.1.1.1.1.1.1.1.0)) (
    beside (placed_by m places.FILL (tree FILL_NODES) refl refl refl refl (r.1.1.1.1.1.1.1.1.1.1.0)) (
    beside (placed_by m places.COUNT (tree COUNT_NODES) refl refl refl refl (r.1.1.1.1.1.1.1.1.1.1.1.0)) (
    beside (placed_by m places.ZEROS (tree ZEROS_NODES) refl refl refl refl (r.1.1.1.1.1.1.1.1.1.1.1.1.0)) (
    beside (placed_by m places.NULL_TEXT (tree NULL_TEXT_NODES) refl refl refl refl (r.1.1.1.1.1.1.1.1.1.1.1.1.1.1.1.0)) (
    beside (placed_by m places.MEASURE (tree MEASURE_NODES) refl refl refl refl (r.1.1.1.1.1.1.1.1.1.1.1.1.1.1.1.1.0)) (
    beside (placed_by m places.PADDING (tree PADDING_NODES) refl refl refl refl (r.1.1.1.1.1.1.1.1.1.1.1.1.1.1.1.1.1.0)) (
    beside (placed_by m places.LEFT (tree LEFT_NODES) refl refl refl refl (r.1.1.1.1.1.1.1.1.1.1.1.1.1.1.1.1.1.1.0)) (
    beside (placed_by m places.SIGN (tree SIGN_NODES) refl refl refl refl (r.1.1.1.1.1.1.1.1.1.1.1.1.1.1.1.1.1.1.1.0)) (
    beside (placed_by m places.DIGITS (tree DIGITS_NODES) refl refl refl refl (r.1.1.1.1.1.1.1.1.1.1.1.1.1.1.1.1.1.1.1.1.0)) (
    beside (placed_by m places.TEXT_BYTES (tree TEXT_BYTES_NODES) refl refl refl refl (r.1.1.1.1.1.1.1.1.1.1.1.1.1.1.1.1.1.1.1.1.1.0)) (
    beside (placed_by m places.NULL_BYTES (tree NULL_BYTES_NODES) refl refl refl refl (r.1.1.1.1.1.1.1.1.1.1.1.1.1.1.1.1.1.1.1.1.1.1.0)) (
    beside (placed_by m places.RIGHT (tree RIGHT_NODES) refl refl refl refl (r.1.1.1.1.1.1.1.1.1.1.1.1.1.1.1.1.1.1.1.1.1.1.1.0)) (tt))))))))))))))))))))))))

printf_served : (m : Memory) → Stand (word m) printf_pieces → IsServedIn m most_steps printf places.PRINTF
printf_served m r = record {
  there = λ e. absurd (omega (arith, e));
  own = own;
  own_placed = (placed_by m places.ROOM (tree ROOM_NODES) refl refl refl refl (r.1.1.1.1.1.1.1.1.1.1.1.1.1.1.1.1.1.1.1.1.1.1.1.1.0), tt);
  parts = parts;
  parts_placed = placed m r;
  serves = serves;
}

pub printf_serves : PrintfServes
printf_serves m r = (inr (inr (printf_served m r)), tt)
