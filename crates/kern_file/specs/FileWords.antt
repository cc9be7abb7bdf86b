-- The words of the crate's listings.
use Rattle.std.specs.Prelude.{ℕ, List, [], ◌∷◌}
use Rattle.kern_stay.specs.Words.{listing}
use Rattle.kern_stay.specs.declared.room.TheConstants.{ROOM_NODES}
use Rattle.kern_file.specs.declared.places.TheConstants.{PUTS, PUTS_LOOP, ROOM, PUTCHAR, GET_LAST_ERROR, PUTC, CLOSE, WRITE, WRITE_LOOP, OPEN, GETCHAR, GETC, READ, READ_LOOP, GETS, GETS_LOOP}
use Rattle.kern_file.specs.declared.a3c_putchar.TheConstants as putchar
use Rattle.kern_file.specs.declared.a3e_puts.TheConstants as puts
use Rattle.kern_file.specs.declared.b54_get_last_error.TheConstants as get_last_error
use Rattle.kern_file.specs.declared.a09_putc.TheConstants as putc
use Rattle.kern_file.specs.declared.a04_close.TheConstants as close
use Rattle.kern_file.specs.declared.a03_write.TheConstants as write
use Rattle.kern_file.specs.declared.a00_open.TheConstants as open_file
use Rattle.kern_file.specs.declared.a3b_getchar.TheConstants as getchar
use Rattle.kern_file.specs.declared.a08_getc.TheConstants as getc
use Rattle.kern_file.specs.declared.a02_read.TheConstants as read
use Rattle.kern_file.specs.declared.a3d_gets.TheConstants as gets

-- in the order of their addresses
abbrev pub file_pieces : List (ℕ × List ℕ)
file_pieces =
    listing PUTS puts.NODES ∷ listing PUTS_LOOP puts.LOOP_NODES ∷ listing ROOM ROOM_NODES ∷ listing PUTCHAR putchar.NODES ∷ listing GET_LAST_ERROR get_last_error.NODES ∷
    listing PUTC putc.NODES ∷ listing CLOSE close.NODES ∷ listing WRITE write.NODES ∷ listing WRITE_LOOP write.LOOP_NODES ∷ listing OPEN open_file.NODES ∷
    listing GETCHAR getchar.NODES ∷ listing GETC getc.NODES ∷ listing READ read.NODES ∷ listing READ_LOOP read.LOOP_NODES ∷ listing GETS gets.NODES ∷
    listing GETS_LOOP gets.LOOP_NODES ∷ []
