-- The call that takes up another thread (PSX-SPX, Kernel (BIOS), Thread Functions: ChangeThread), where no frame is there.
use Rattle.std.specs.Prelude.{ℕ, slice_index_or, slice_set}
use Rattle.psx_base.specs.Context.{taken}
use Rattle.psx_base.specs.KernelState.{ThreadContext, Thread, Free, Used, KernelState}
use Rattle.kern_layout.specs.Reads.{thread, no_context}
use Rattle.abs_kernel.specs.Answered.{registers_of, with_answer}

-- the caller goes on at r31, with 1 in r2, when it is taken up again
abbrev pub caller : KernelState → ThreadContext
caller s = record { context = with_answer (taken s.running.context (registers_of s).r31) 1; interrupts = s.running.interrupts }

-- a slot that is used keeps a context, and a free one nothing
abbrev pub keeps : ThreadContext → Thread → Thread
keeps t Free = Free
keeps t (Used u) = Used t

abbrev pub context_of : Thread → ThreadContext
context_of Free = no_context
context_of (Used t) = t

-- the running slot keeps the caller, and thread n's context is taken up
abbrev pub switched : KernelState → (n : ℕ) → KernelState
switched s n =
    let threads = slice_set s.threads s.current (keeps (caller s) (thread s s.current)) in
    record s { threads = threads; current = n; running = context_of (slice_index_or threads n Free) }
