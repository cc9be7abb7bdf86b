-- putchar meets its stay.
use Rattle.psx_flow.proofs.Kit.{ℕ, ◌%◌, ◌^◌, refl, sym, ap, arith, calls, kernel_words, fair, start, inl, []}
use Rattle.abs_kernel.specs.Answered.{registers_of, answered}
use Rattle.abs_kernel.specs.Putchar.{putchar}
use Rattle.abs_kernel.specs.declared.calls.CallId.TheVariants.{A3C}
use Rattle.abs_kernel.specs.Calls.{call}
use Rattle.kern_stay.specs.Shared.{tree, tested_there}
use Rattle.kern_stay.specs.Doors.{Through, Serves, called_with, begun, most_steps}
use Rattle.kern_stay.proofs.Ending.{low_byte}
use Rattle.kern_stay.proofs.Passing.{answers_now}
use Rattle.kern_file.specs.declared.places.TheConstants.{PUTCHAR}
use Rattle.kern_file.specs.declared.a3c_putchar.TheConstants.{NODES}

pub serves : Serves [] most_steps (call A3C) PUTCHAR (tree NODES)
serves s d z m h =
    let v : ℕ = (registers_of s).r4 in
    start (calls kernel_words tested_there) (fair kernel_words tested_there) (tree NODES) PUTCHAR (λ _. ⊥) (λ to e. Through (putchar s) most_steps to e) (begun (called_with (registers_of s) d) z m)
    (record { told = _; ports = refl; follows = (tt, (refl, refl)); ends = inl (answers_now s most_steps _ (answered s (v % 2 ^ 8)) (ap (answered s) (sym (low_byte v))) h.holds (omega arith)) })
