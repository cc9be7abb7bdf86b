-- A call that waits is the same call again.
use Rattle.std.proofs.Common.{◌≡◌, ℕ, ◌+◌, ◌-◌, ◌%◌, ◌^◌, refl, sym, ap, subst}
use Rattle.std.specs.Prelude.{if◌then◌else◌}
use Rattle.psx_base.specs.Context.{settle}
use Rattle.psx_base.specs.KernelState.{KernelState}
use Rattle.abs_kernel.specs.Stay.{Stay, Return}
use Rattle.abs_kernel.specs.Cause.{entry_of}
use Rattle.abs_kernel.proofs.Waiting.{entered_again}
use Rattle.kern_file.specs.LineLaws.{TriesAgain, TriesAreTheSameCall}

abbrev state_of : Stay → KernelState → KernelState
state_of (Return t) s = t
state_of _ s = s

pub tries_are_the_same_call : TriesAreTheSameCall
tries_are_the_same_call s t out h =
    let c = s.running.context in
    let back : ℕ = (c.pc + (2 ^ 32 - 4)) % 2 ^ 32 in
    subst (TriesAgain s) (ap (λ x. state_of x s) h) (record {
      pc = ap (λ b. if b then back else c.pc) out;
      registers = ap (λ b. record (settle c).regs { r26 = if b then back else c.pc; r27 = 0 }) out;
      rest = refl;
      entry = λ code. (let again = entered_again s code out in subst (λ u. entry_of u.running.context code ≡ entry_of c code) (ap (λ x. state_of x s) (sym again.1)) again.2);
    })
