-- What a stay may change of the kernel's state, by its call.
use Rattle.std.specs.Prelude.{◌≡◌, ℕ, suc, Bool, true, false, Option, Some, None}
use Rattle.psx_base.specs.declared.stop.Table.TheVariants.{A, B, C}
use Rattle.psx_base.specs.Items.{Entrance, ByA, ByB, ByC, BySyscall, ByInterrupt, ByDone, ByBack, ByTrap}
use Rattle.psx_base.specs.KernelState.{KernelState}
use Rattle.abs_kernel.specs.declared.calls.CallId.{CallId}
use Rattle.abs_kernel.specs.declared.calls.CallId.TheVariants.{A00, A02, A03, A04, A08, A09, A0C, A0D, A13, A15, A16, A19, A1A, A23, A27, A28, A2A, A2B, A2C, A2F, A30, A33, A34, A37, A38, A39, A3D, B07, B08, B09, B0A, B0B, B0C, B0D, B0E, B0F, B10, B17, B20, B32, B34, B35, B36, B3A, B3B, B3E, C02, C03}
use Rattle.abs_kernel.specs.CallTable.{served_call}
use Rattle.abs_kernel.specs.Cause.{entry_of}

-- The running context alone; or beside it the user's memory, the random state, the memory and strtok's place, the files and the last error, the memory and the last error, the memory and the line,
-- the threads, the events, the memory and the chains, the heap, the memory and the heap, the threads and the events and the frames.
pub data Part : Type 0 where
  ContextAlone : Part
  AndMemory : Part
  AndRandom : Part
  AndPlace : Part
  AndFiles : Part
  AndInput : Part
  AndLine : Part
  AndThreads : Part
  AndEvents : Part
  AndChains : Part
  AndHeap : Part
  AndHeapMemory : Part
  AndFrames : Part

-- a call that isn't named changes the running context alone
abbrev pub changes : CallId → Part
changes A00 = AndFiles
changes A02 = AndInput
changes A03 = AndFiles
changes A04 = AndFiles
changes A08 = AndFiles
changes A09 = AndFiles
changes A0C = AndMemory
changes A0D = AndMemory
changes A13 = AndMemory
changes A15 = AndMemory
changes A16 = AndMemory
changes A19 = AndMemory
changes A1A = AndMemory
changes A23 = AndPlace
changes A27 = AndMemory
changes A28 = AndMemory
changes A2A = AndMemory
changes A2B = AndMemory
changes A2C = AndMemory
changes A2F = AndRandom
changes A30 = AndRandom
changes A33 = AndHeap
changes A34 = AndHeap
changes A37 = AndHeapMemory
changes A38 = AndHeapMemory
changes A39 = AndHeap
changes A3D = AndLine
changes B07 = AndFrames
changes B08 = AndEvents
changes B09 = AndEvents
changes B0A = AndEvents
changes B0B = AndEvents
changes B0C = AndEvents
changes B0D = AndEvents
changes B0E = AndThreads
changes B0F = AndThreads
changes B10 = AndThreads
changes B17 = AndFrames
changes B20 = AndEvents
changes B32 = AndFiles
changes B34 = AndInput
changes B35 = AndFiles
changes B36 = AndFiles
changes B3A = AndFiles
changes B3B = AndFiles
changes B3E = AndLine
changes C02 = AndChains
changes C03 = AndChains
changes _ = ContextAlone

-- the same where no call is served
abbrev pub changes_of : Option CallId → Part
changes_of None = ContextAlone
changes_of (Some id) = changes id

-- a SYSCALL above 3 delivers
abbrev pub changes_by_syscall : (number : ℕ) → Part
changes_by_syscall (suc (suc (suc (suc n)))) = AndFrames
changes_by_syscall _ = ContextAlone

-- by its entrance and its number
abbrev pub changes_by : Entrance → (number : ℕ) → Part
changes_by ByA number = changes_of (served_call A number)
changes_by ByB number = changes_of (served_call B number)
changes_by ByC number = changes_of (served_call C number)
changes_by BySyscall number = changes_by_syscall number
changes_by ByInterrupt number = AndFrames
changes_by ByDone number = ContextAlone
changes_by ByBack number = AndFrames
changes_by ByTrap number = ContextAlone

-- what the stay of an entry may change
abbrev pub changed : KernelState → (code : ℕ) → Part
changed s code = let e = entry_of s.running.context code in changes_by e.gate e.number

-- nothing else is changed
abbrev pub Changed : Part → (s t : KernelState) → Type 0
Changed ContextAlone s t = t ≡ record s { running = t.running }
Changed AndMemory s t = t ≡ record s { running = t.running; memory = t.memory }
Changed AndRandom s t = t ≡ record s { running = t.running; random = t.random }
Changed AndFiles s t = t ≡ record s { running = t.running; files = t.files; errno = t.errno }
Changed AndInput s t = t ≡ record s { running = t.running; memory = t.memory; errno = t.errno }
Changed AndLine s t = t ≡ record s { running = t.running; memory = t.memory; line = t.line }
Changed AndThreads s t = t ≡ record s { running = t.running; threads = t.threads; current = t.current; next = t.next }
Changed AndEvents s t = t ≡ record s { running = t.running; events = t.events }
Changed AndChains s t = t ≡ record s { running = t.running; memory = t.memory; chains = t.chains }
Changed AndHeap s t = t ≡ record s { running = t.running; heap = t.heap }
Changed AndHeapMemory s t = t ≡ record s { running = t.running; memory = t.memory; heap = t.heap }
Changed AndFrames s t = t ≡ record s { running = t.running; threads = t.threads; current = t.current; next = t.next; events = t.events; frames = t.frames }
Changed AndPlace s t = t ≡ record s { running = t.running; memory = t.memory; token = t.token }

-- another thread's context may be taken up by the calls on threads, and where a callback's return takes up a context
abbrev pub takes_up_another : Part → Bool
takes_up_another AndThreads = true
takes_up_another AndFrames = true
takes_up_another _ = false

abbrev pub keeps_memory : Part → Bool
keeps_memory ContextAlone = true
keeps_memory AndMemory = false
keeps_memory AndRandom = true
keeps_memory AndFiles = true
keeps_memory AndInput = false
keeps_memory AndLine = false
keeps_memory AndThreads = true
keeps_memory AndEvents = true
keeps_memory AndChains = false
keeps_memory AndPlace = false
keeps_memory AndHeap = true
keeps_memory AndHeapMemory = false
keeps_memory AndFrames = true
