-- States whose numbers are 32-bit words and bytes, as a processor makes them, and memories of bytes.
use Rattle.std.specs.Prelude.{ℕ, ◌^◌, ◌<◌, Bool, List, All}
use Rattle.psx_base.specs.Registers.{register}
use Rattle.psx_base.specs.Memory.{Memory, byte}
use Rattle.psx_base.specs.KernelState.{ThreadContext, Thread, Free, Used, Event, Task, Element, Second, Line, Scan, Frame, KernelState}

abbrev pub IsWord : ℕ → Type 0
IsWord v = v < 2 ^ 32

pub record ContextInWords (t : ThreadContext) : Type 0 where
  pub registers : (n : ℕ) → IsWord (register t.context.regs n)
  pub hi : IsWord t.context.regs.hi
  pub lo : IsWord t.context.regs.lo
  pub pc : IsWord t.context.pc

abbrev pub ThreadInWords : Thread → Type 0
ThreadInWords Free = Unit {0}
ThreadInWords (Used t) = ContextInWords t

pub record EventInWords (e : Event) : Type 0 where
  pub status : IsWord e.status
  pub class : IsWord e.class
  pub spec : IsWord e.spec
  pub mode : IsWord e.mode
  pub function : IsWord e.function

abbrev pub TaskInWords : Task → Type 0
TaskInWords (Element e) = IsWord e
TaskInWords (Second e) = IsWord e
TaskInWords (Line n) = IsWord n
TaskInWords (Scan class spec i) = IsWord class × IsWord spec × IsWord i

pub record FrameInWords (f : Frame) : Type 0 where
  pub context : ContextInWords f.context
  pub tasks : All TaskInWords f.tasks

-- the numbers that memory holds of a state; the line's are bytes
pub record StateInWords (s : KernelState) : Type 0 where
  pub threads : All ThreadInWords s.threads
  pub events : All EventInWords s.events
  pub frames : All FrameInWords s.frames
  pub chains : All (λ (es : List ℕ). All IsWord es) s.chains
  pub base : IsWord s.heap.base
  pub sizes : All (λ (b : ℕ × Bool). IsWord b.0) s.heap.blocks
  pub random : IsWord s.random
  pub token : IsWord s.token
  pub errno : IsWord s.errno
  pub line : All (λ (v : ℕ). v < 2 ^ 8) s.line

-- each byte of a memory is one
abbrev pub InBytes : Memory → Type 0
InBytes m = (a : ℕ) → byte m a < 2 ^ 8
