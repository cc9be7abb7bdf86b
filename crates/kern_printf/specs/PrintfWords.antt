-- The words of the crate's listings.
use Rattle.std.specs.Prelude.{ℕ, List, [], ◌∷◌}
use Rattle.kern_stay.specs.Words.{listing}
use Rattle.kern_stay.specs.declared.room.TheConstants.{ROOM_NODES}
use Rattle.kern_printf.specs.declared.places.TheConstants as place
use Rattle.kern_printf.specs.declared.format.TheConstants.{PRINTF_NODES, FORMAT_NODES}
use Rattle.kern_printf.specs.declared.conversion.TheConstants.{CONVERSION_NODES, FLAG_NODES, WIDTH_NODES, PRECISION_NODES, LENGTH_NODES}
use Rattle.kern_printf.specs.declared.kind.TheConstants.{KIND_NODES, ARGUMENT_NODES}
use Rattle.kern_printf.specs.declared.number.TheConstants.{NUMBER_NODES, FILL_NODES, COUNT_NODES, ZEROS_NODES, BYTE_NODES}
use Rattle.kern_printf.specs.declared.text.TheConstants.{TEXT_NODES, NULL_TEXT_NODES, MEASURE_NODES}
use Rattle.kern_printf.specs.declared.padding.TheConstants.{PADDING_NODES, LEFT_NODES, RIGHT_NODES}
use Rattle.kern_printf.specs.declared.emission.TheConstants.{SIGN_NODES, DIGITS_NODES, TEXT_BYTES_NODES, NULL_BYTES_NODES}

-- in the order of their addresses
abbrev pub printf_pieces : List (ℕ × List ℕ)
printf_pieces =
    listing place.PRINTF PRINTF_NODES ∷ listing place.FORMAT FORMAT_NODES ∷ listing place.CONVERSION CONVERSION_NODES ∷ listing place.FLAG FLAG_NODES ∷
    listing place.WIDTH WIDTH_NODES ∷ listing place.PRECISION PRECISION_NODES ∷ listing place.LENGTH LENGTH_NODES ∷ listing place.KIND KIND_NODES ∷
    listing place.ARGUMENT ARGUMENT_NODES ∷ listing place.NUMBER NUMBER_NODES ∷ listing place.FILL FILL_NODES ∷ listing place.COUNT COUNT_NODES ∷
    listing place.ZEROS ZEROS_NODES ∷ listing place.BYTE BYTE_NODES ∷ listing place.TEXT TEXT_NODES ∷ listing place.NULL_TEXT NULL_TEXT_NODES ∷
    listing place.MEASURE MEASURE_NODES ∷ listing place.PADDING PADDING_NODES ∷ listing place.LEFT LEFT_NODES ∷ listing place.SIGN SIGN_NODES ∷
    listing place.DIGITS DIGITS_NODES ∷ listing place.TEXT_BYTES TEXT_BYTES_NODES ∷ listing place.NULL_BYTES NULL_BYTES_NODES ∷ listing place.RIGHT RIGHT_NODES ∷
    listing place.ROOM ROOM_NODES ∷ []
