-- What the kernel's words and bytes show of a state: all but the user's memory, the running context, and the context that the running thread's slot keeps.
use Rattle.std.specs.Prelude.{slice_set}
use Rattle.psx_base.specs.Memory.{no_bytes}
use Rattle.psx_base.specs.KernelState.{Thread, Free, Used, KernelState}
use Rattle.kern_layout.specs.Reads.{thread, no_context}

-- whether a slot is used
abbrev pub only_status : Thread → Thread
only_status Free = Free
only_status (Used t) = Used no_context

-- the state as far as they show it
abbrev pub shown : KernelState → KernelState
shown s = record s { memory = no_bytes; running = no_context; threads = slice_set s.threads s.current (only_status (thread s s.current)) }
