-- The taking up of a context when no task is left (PSX-SPX, Kernel (BIOS), Thread Functions and ReturnFromException).
use Rattle.std.specs.Prelude.{ℕ, List, [], ◌∷◌, Option, Some, None, slice_set}
use Rattle.psx_base.specs.Context.{taken}
use Rattle.psx_base.specs.KernelState.{ThreadContext, Frame, KernelState}
use Rattle.kern_layout.specs.Reads.{thread}
use Rattle.abs_kernel.specs.Stay.{Stay, Return}
use Rattle.abs_kernel.specs.Switching.{keeps, context_of}

-- the context goes on where it was
abbrev pub taken_up : ThreadContext → ThreadContext
taken_up c = record c { context = taken c.context c.context.pc }

-- the running slot keeps the context, and thread n, which a callback has named, is taken up in its stead
abbrev pub gives_way : KernelState → ThreadContext → (n : ℕ) → KernelState
gives_way s c n = record s {
  threads = slice_set s.threads s.current (keeps (taken_up c) (thread s s.current));
  current = n;
  running = context_of (thread s n);
  next = None;
}

-- that is so where a thread is named and the last frame has gone; else the context becomes the running one
abbrev pub resumed_by : KernelState → ThreadContext → (next : Option ℕ) → (frames : List Frame) → KernelState
resumed_by s c None frames = record s { running = taken_up c }
resumed_by s c (Some n) [] = gives_way s c n
resumed_by s c (Some n) (f ∷ fs) = record s { running = taken_up c }

abbrev pub resumed : KernelState → ThreadContext → Stay
resumed s c = Return (resumed_by s c s.next s.frames)
