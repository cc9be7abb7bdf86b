-- The state of the written kernel machine.
use Rattle.std.specs.Prelude.{ℕ, Bool, List, Option}
use Rattle.psx_base.specs.Memory.{Memory}
use Rattle.psx_base.specs.Context.{Context}

-- a context of a program, and whether interrupts are on in it
pub record ThreadContext : Type 0 where
  pub context : Context
  pub interrupts : Bool

-- a thread's slot: free, or used with a context at rest
pub data Thread : Type 0 where
  Free : Thread
  Used : (context : ThreadContext) → Thread

-- an event, by the words of its control block (PSX-SPX, Kernel (BIOS), Event Functions)
pub record Event : Type 0 where
  pub status : ℕ
  pub class : ℕ
  pub spec : ℕ
  pub mode : ℕ
  pub function : ℕ

-- What is still to be done in a stay: the first or the second function of an element of a chain, the handling of a line, the scan of the events from a number on.
pub data Task : Type 0 where
  Element : (element : ℕ) → Task
  Second : (element : ℕ) → Task
  Line : (line : ℕ) → Task
  Scan : (class spec from : ℕ) → Task

-- what goes on when a callback has returned
pub record Frame : Type 0 where
  pub context : ThreadContext
  pub tasks : List Task

-- the heap: its base, and the sizes of its blocks with whether each is used
pub record Heap : Type 0 where
  pub base : ℕ
  pub blocks : List (ℕ × Bool)

-- The memory of the user; the running context and thread; the thread to take up when the last frame has gone; the tables; the four chains of elements, by address;
-- a file's mode where it is open; the state of random numbers, strtok's place, the line of gets, errno.
pub record KernelState : Type 0 where
  pub memory : Memory
  pub running : ThreadContext
  pub threads : List Thread
  pub current : ℕ
  pub next : Option ℕ
  pub events : List Event
  pub frames : List Frame
  pub chains : List (List ℕ)
  pub heap : Heap
  pub files : List (Option ℕ)
  pub random : ℕ
  pub token : ℕ
  pub line : List ℕ
  pub errno : ℕ
