-- The listings of printf that jump to one another.
use Rattle.std.specs.Prelude.{ℕ, List, [], ◌∷◌}
use Rattle.psx_flow.specs.Tree.{Tree}
use Rattle.kern_stay.specs.Shared.{tree}
use Rattle.kern_printf.specs.declared.places.TheConstants as places
use Rattle.kern_printf.specs.declared.format.TheConstants.{PRINTF_NODES, FORMAT_NODES}
use Rattle.kern_printf.specs.declared.conversion.TheConstants.{CONVERSION_NODES, FLAG_NODES, WIDTH_NODES, PRECISION_NODES, LENGTH_NODES}
use Rattle.kern_printf.specs.declared.kind.TheConstants.{KIND_NODES, ARGUMENT_NODES}
use Rattle.kern_printf.specs.declared.number.TheConstants.{NUMBER_NODES, BYTE_NODES, FILL_NODES, COUNT_NODES, ZEROS_NODES}
use Rattle.kern_printf.specs.declared.text.TheConstants.{TEXT_NODES, NULL_TEXT_NODES, MEASURE_NODES}
use Rattle.kern_printf.specs.declared.padding.TheConstants.{PADDING_NODES, LEFT_NODES, RIGHT_NODES}
use Rattle.kern_printf.specs.declared.emission.TheConstants.{SIGN_NODES, DIGITS_NODES, TEXT_BYTES_NODES, NULL_BYTES_NODES}

-- each with its address
abbrev pub parts : List (ℕ × Tree)
parts =
    (places.PRINTF, tree PRINTF_NODES) ∷ (places.FORMAT, tree FORMAT_NODES) ∷ (places.CONVERSION, tree CONVERSION_NODES) ∷ (places.FLAG, tree FLAG_NODES) ∷
    (places.WIDTH, tree WIDTH_NODES) ∷ (places.PRECISION, tree PRECISION_NODES) ∷ (places.LENGTH, tree LENGTH_NODES) ∷ (places.KIND, tree KIND_NODES) ∷
    (places.ARGUMENT, tree ARGUMENT_NODES) ∷ (places.NUMBER, tree NUMBER_NODES) ∷ (places.BYTE, tree BYTE_NODES) ∷ (places.TEXT, tree TEXT_NODES) ∷
    (places.FILL, tree FILL_NODES) ∷ (places.COUNT, tree COUNT_NODES) ∷ (places.ZEROS, tree ZEROS_NODES) ∷ (places.NULL_TEXT, tree NULL_TEXT_NODES) ∷
    (places.MEASURE, tree MEASURE_NODES) ∷ (places.PADDING, tree PADDING_NODES) ∷ (places.LEFT, tree LEFT_NODES) ∷ (places.SIGN, tree SIGN_NODES) ∷
    (places.DIGITS, tree DIGITS_NODES) ∷ (places.TEXT_BYTES, tree TEXT_BYTES_NODES) ∷ (places.NULL_BYTES, tree NULL_BYTES_NODES) ∷ (places.RIGHT, tree RIGHT_NODES) ∷ []
