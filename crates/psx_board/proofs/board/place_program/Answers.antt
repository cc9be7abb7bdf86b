use Rattle.std.proofs.Common.{sym, ap, ◌∙◌, arith, replicate}
use Rattle.psx_base.specs.Addresses.{place}
use Rattle.psx_base.specs.Memory.{Memory, put_bytes}
use Rattle.psx_exe.proofs.Placing.{safe, placed-safe}
use Rattle.psx_board.proofs.board.place_program.Goals as goal

pub copy-requires : goal.copy-requires
copy-requires c = rw c.as_slice.ensures (safe c.args.exe.now c.requires).text

pub clear-requires : goal.clear-requires
clear-requires c = (safe c.args.exe.now c.requires).fill

pub returns : goal.returns
returns c =
    let e = c.args.exe.now in
    c.clear.ensures ∙ ap (λ (m : Memory). put_bytes m (place e.fill_start) (replicate e.fill_size 0)) (rw (← c.as_slice.ensures) c.copy.ensures)
    ∙ sym (placed-safe c.args.ram.now e (safe e c.requires) (omega arith) (omega arith))
