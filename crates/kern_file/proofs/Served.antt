-- Each listing stands at its address, and serves its calls.
use Rattle.std.proofs.Common.{[], ◌∷◌, refl, arith, inl, inr}
use Rattle.psx_base.specs.Memory.{Memory, word}
use Rattle.abs_kernel.specs.declared.calls.CallId.TheVariants.{A02, A08, A3B, A3D, B34, B3A, B3C, B3E}
use Rattle.abs_kernel.specs.Putchar.{putchar}
use Rattle.abs_kernel.specs.Puts.{puts}
use Rattle.abs_kernel.specs.GetLastError.{get_last_error}
use Rattle.abs_kernel.specs.Putc.{putc}
use Rattle.abs_kernel.specs.Close.{close}
use Rattle.abs_kernel.specs.WriteFile.{write}
use Rattle.abs_kernel.specs.Open.{open_file}
use Rattle.abs_kernel.specs.Getchar.{getchar}
use Rattle.abs_kernel.specs.Getc.{getc}
use Rattle.abs_kernel.specs.ReadFile.{read}
use Rattle.abs_kernel.specs.Gets.{gets}
use Rattle.kern_stay.specs.Shared.{tree}
use Rattle.kern_stay.specs.declared.room.TheConstants.{ROOM_NODES}
use Rattle.kern_stay.specs.Words.{Stand}
use Rattle.kern_stay.specs.Doors.{IsServed, most_steps}
use Rattle.kern_stay.specs.Loops.{IsServedBy}
use Rattle.kern_stay.specs.Served.{AllServed}
use Rattle.kern_stay.proofs.Standing.{placed_by}
use Rattle.kern_file.specs.declared.places.TheConstants.{PUTS, PUTS_LOOP, ROOM, PUTCHAR, GET_LAST_ERROR, PUTC, CLOSE, WRITE, WRITE_LOOP, OPEN, GETCHAR, GETC, READ, READ_LOOP, GETS, GETS_LOOP}
use Rattle.kern_file.specs.declared.a3c_putchar.TheConstants as putchar_is
use Rattle.kern_file.specs.declared.a3e_puts.TheConstants as puts_is
use Rattle.kern_file.specs.declared.b54_get_last_error.TheConstants as get_last_error_is
use Rattle.kern_file.specs.declared.a09_putc.TheConstants as putc_is
use Rattle.kern_file.specs.declared.a04_close.TheConstants as close_is
use Rattle.kern_file.specs.declared.a03_write.TheConstants as write_is
use Rattle.kern_file.specs.declared.a00_open.TheConstants as open_file_is
use Rattle.kern_file.specs.declared.a3b_getchar.TheConstants as getchar_is
use Rattle.kern_file.specs.declared.a08_getc.TheConstants as getc_is
use Rattle.kern_file.specs.declared.a02_read.TheConstants as read_is
use Rattle.kern_file.specs.declared.a3d_gets.TheConstants as gets_is
use Rattle.kern_file.specs.Own.{own}
use Rattle.kern_file.specs.FileWords.{file_pieces}
use Rattle.kern_file.specs.FileLaws.{FileServes}
use Rattle.kern_file.proofs.A3cPutchar as of_putchar
use Rattle.kern_file.proofs.A3ePuts as of_puts
use Rattle.kern_file.proofs.B54GetLastError as of_get_last_error
use Rattle.kern_file.proofs.A09Putc as of_putc
use Rattle.kern_file.proofs.A04Close as of_close
use Rattle.kern_file.proofs.A03Write as of_write
use Rattle.kern_file.proofs.A00Open as of_open_file
use Rattle.kern_file.proofs.A3bGetchar as of_getchar
use Rattle.kern_file.proofs.A08Getc as of_getc
use Rattle.kern_file.proofs.A02Read as of_read
use Rattle.kern_file.proofs.A3dGets as of_gets

putchar_served : (m : Memory) → Stand (word m) file_pieces → IsServed m most_steps putchar PUTCHAR
putchar_served m r = record {
  there = λ e. absurd (omega (arith, e));
  own = [];
  own_placed = tt;
  listing = tree putchar_is.NODES;
  placed = placed_by m PUTCHAR (tree putchar_is.NODES) refl refl refl refl (r.1.1.1.0);
  serves = of_putchar.serves;
}

puts_served : (m : Memory) → Stand (word m) file_pieces → IsServedBy m most_steps puts PUTS
puts_served m r = record {
  there = λ e. absurd (omega (arith, e));
  own = own;
  own_placed = (placed_by m ROOM (tree ROOM_NODES) refl refl refl refl (r.1.1.0), tt);
  listing = tree puts_is.NODES;
  placed = placed_by m PUTS (tree puts_is.NODES) refl refl refl refl (r.0);
  loop = PUTS_LOOP;
  turns = tree puts_is.LOOP_NODES;
  turns_placed = placed_by m PUTS_LOOP (tree puts_is.LOOP_NODES) refl refl refl refl (r.1.0);
  serves = of_puts.serves;
}

get_last_error_served : (m : Memory) → Stand (word m) file_pieces → IsServed m most_steps get_last_error GET_LAST_ERROR
get_last_error_served m r = record {
  there = λ e. absurd (omega (arith, e));
  own = [];
  own_placed = tt;
  listing = tree get_last_error_is.NODES;
  placed = placed_by m GET_LAST_ERROR (tree get_last_error_is.NODES) refl refl refl refl (r.1.1.1.1.0);
  serves = of_get_last_error.serves;
}

putc_served : (m : Memory) → Stand (word m) file_pieces → IsServed m most_steps putc PUTC
putc_served m r = record {
  there = λ e. absurd (omega (arith, e));
  own = [];
  own_placed = tt;
  listing = tree putc_is.NODES;
  placed = placed_by m PUTC (tree putc_is.NODES) refl refl refl refl (r.1.1.1.1.1.0);
  serves = of_putc.serves;
}

close_served : (m : Memory) → Stand (word m) file_pieces → IsServed m most_steps close CLOSE
close_served m r = record {
  there = λ e. absurd (omega (arith, e));
  own = [];
  own_placed = tt;
  listing = tree close_is.NODES;
  placed = placed_by m CLOSE (tree close_is.NODES) refl refl refl refl (r.1.1.1.1.1.1.0);
  serves = of_close.serves;
}

write_served : (m : Memory) → Stand (word m) file_pieces → IsServedBy m most_steps write WRITE
write_served m r = record {
  there = λ e. absurd (omega (arith, e));
  own = own;
  own_placed = (placed_by m ROOM (tree ROOM_NODES) refl refl refl refl (r.1.1.0), tt);
  listing = tree write_is.NODES;
  placed = placed_by m WRITE (tree write_is.NODES) refl refl refl refl (r.1.1.1.1.1.1.1.0);
  loop = WRITE_LOOP;
  turns = tree write_is.LOOP_NODES;
  turns_placed = placed_by m WRITE_LOOP (tree write_is.LOOP_NODES) refl refl refl refl (r.1.1.1.1.1.1.1.1.0);
  serves = of_write.serves;
}

open_file_served : (m : Memory) → Stand (word m) file_pieces → IsServed m most_steps open_file OPEN
open_file_served m r = record {
  there = λ e. absurd (omega (arith, e));
  own = own;
  own_placed = (placed_by m ROOM (tree ROOM_NODES) refl refl refl refl (r.1.1.0), tt);
  listing = tree open_file_is.NODES;
  placed = placed_by m OPEN (tree open_file_is.NODES) refl refl refl refl (r.1.1.1.1.1.1.1.1.1.0);
  serves = of_open_file.serves;
}

getchar_served : (m : Memory) → Stand (word m) file_pieces → IsServed m most_steps getchar GETCHAR
getchar_served m r = record {
  there = λ e. absurd (omega (arith, e));
  own = [];
  own_placed = tt;
  listing = tree getchar_is.NODES;
  placed = placed_by m GETCHAR (tree getchar_is.NODES) refl refl refl refl (r.1.1.1.1.1.1.1.1.1.1.0);
  serves = of_getchar.serves;
}

getc_served : (m : Memory) → Stand (word m) file_pieces → IsServed m most_steps getc GETC
getc_served m r = record {
  there = λ e. absurd (omega (arith, e));
  own = [];
  own_placed = tt;
  listing = tree getc_is.NODES;
  placed = placed_by m GETC (tree getc_is.NODES) refl refl refl refl (r.1.1.1.1.1.1.1.1.1.1.1.0);
  serves = of_getc.serves;
}

read_served : (m : Memory) → Stand (word m) file_pieces → IsServedBy m most_steps read READ
read_served m r = record {
  there = λ e. absurd (omega (arith, e));
  own = own;
  own_placed = (placed_by m ROOM (tree ROOM_NODES) refl refl refl refl (r.1.1.0), tt);
  listing = tree read_is.NODES;
  placed = placed_by m READ (tree read_is.NODES) refl refl refl refl (r.1.1.1.1.1.1.1.1.1.1.1.1.0);
  loop = READ_LOOP;
  turns = tree read_is.LOOP_NODES;
  turns_placed = placed_by m READ_LOOP (tree read_is.LOOP_NODES) refl refl refl refl (r.1.1.1.1.1.1.1.1.1.1.1.1.1.0);
  serves = of_read.serves;
}

gets_served : (m : Memory) → Stand (word m) file_pieces → IsServedBy m most_steps gets GETS
gets_served m r = record {
  there = λ e. absurd (omega (arith, e));
  own = own;
  own_placed = (placed_by m ROOM (tree ROOM_NODES) refl refl refl refl (r.1.1.0), tt);
  listing = tree gets_is.NODES;
  placed = placed_by m GETS (tree gets_is.NODES) refl refl refl refl (r.1.1.1.1.1.1.1.1.1.1.1.1.1.1.0);
  loop = GETS_LOOP;
  turns = tree gets_is.LOOP_NODES;
  turns_placed = placed_by m GETS_LOOP (tree gets_is.LOOP_NODES) refl refl refl refl (r.1.1.1.1.1.1.1.1.1.1.1.1.1.1.1.0);
  serves = of_gets.serves;
}

-- the calls that wait
waiting_serves : (m : Memory) → Stand (word m) file_pieces
    → AllServed m most_steps ((A3B, GETCHAR) ∷ (B3C, GETCHAR) ∷ (A08, GETC) ∷ (B3A, GETC) ∷ (A02, READ) ∷ (B34, READ) ∷ (A3D, GETS) ∷ (B3E, GETS) ∷ [])
waiting_serves m r = (
  inl (getchar_served m r),
  (
    inl (getchar_served m r),
    (
      inl (getc_served m r),
      (
        inl (getc_served m r),
        (
          inr (inl (read_served m r)),
          (
            inr (inl (read_served m r)),
            (inr (inl (gets_served m r)), (inr (inl (gets_served m r)), tt)),
          ),
        ),
      ),
    ),
  ),
)

pub file_serves : FileServes
file_serves m r = (
  inl (putchar_served m r),
  (
    inr (inl (puts_served m r)),
    (
      inl (putchar_served m r),
      (
        inr (inl (puts_served m r)),
        (
          inl (get_last_error_served m r),
          (
            inl (putc_served m r),
            (
              inl (putc_served m r),
              (
                inl (close_served m r),
                (
                  inl (close_served m r),
                  (
                    inr (inl (write_served m r)),
                    (
                      inr (inl (write_served m r)),
                      (
                        inl (open_file_served m r),
                        (inl (open_file_served m r), waiting_serves m r),
                      ),
                    ),
                  ),
                ),
              ),
            ),
          ),
        ),
      ),
    ),
  ),
)
