-- The words of the data ranges as the image has them, before the boot code stores the two sizes and leaves to the program.
use Rattle.std.specs.Prelude.{◌≡◌, ℕ, ◌+◌, ◌-◌, ◌*◌, ◌%◌, ◌<◌, ◌≤◌, ◌&&◌, nat_eq, nat_lt, nat_le, if◌then◌else◌}
use Rattle.psx_base.specs.declared.stop.Sizes.{Sizes}
use Rattle.psx_base.specs.Memory.{Memory}
use Rattle.kern_layout.specs.Reads.{Reads}
use Rattle.kern_layout.specs.Stores.{put}
use Rattle.kern_layout.specs.Start.{start, SizesFit}
use Rattle.kern_layout.specs.declared.places.TheConstants.{THREAD_SIZE, THREAD_FREE, THREAD_USED, HEAP_ENTRIES, HEAP_ENTRY_SIZE, FILE_SIZE, THREAD_COUNT, EVENT_COUNT, HEAP_SPARE}
use Rattle.kern_layout.specs.Numbers.{threads_at, events_at, heap_table_at, files_at}

-- among the thread control blocks, by the place behind the first: thread 0 is used, and the others are free
abbrev pub thread_opening : ℕ → ℕ
thread_opening o = if nat_eq o 0 then THREAD_USED else (if nat_eq (o % THREAD_SIZE) 0 then THREAD_FREE else 0)

-- in the heap's table, by the place behind the first entry: each entry names the next one, and the last none
abbrev pub heap_opening : ℕ → ℕ
heap_opening o = if nat_eq (o % HEAP_ENTRY_SIZE) 0 && nat_lt (o + HEAP_ENTRY_SIZE) (HEAP_ENTRIES * HEAP_ENTRY_SIZE) then heap_table_at + (o + HEAP_ENTRY_SIZE) else 0

-- elsewhere: file 0 is open for reading and file 1 for writing, and the first entry of the heap's table is the first spare one
abbrev pub other_opening : ℕ → ℕ
other_opening a = if nat_eq a files_at then 1 else (if nat_eq a (files_at + FILE_SIZE) then 2 else (if nat_eq a HEAP_SPARE then heap_table_at else 0))

-- the word at an address from B000h on
abbrev pub opening_at : ℕ → ℕ
opening_at a = if nat_lt a events_at then thread_opening (a - threads_at) else (if nat_le heap_table_at a && nat_lt a files_at then heap_opening (a - heap_table_at) else other_opening a)

-- the words at multiples of 4 in the data ranges are these
abbrev pub Opens : (ℕ → ℕ) → Type 0
Opens w = (a : ℕ) → a % 4 ≡ 0 → threads_at ≤ a → a < 0x10000 → w a ≡ opening_at a

-- with the two sizes stored they read as the state at a program's begin, whatever program it is
abbrev pub OpensAsStart : Type 0
OpensAsStart = (w b : ℕ → ℕ) (pc gp stack : ℕ) (m : Memory) (sizes : Sizes) → SizesFit sizes → Opens w → Reads (start pc gp stack m sizes) (put (put w THREAD_COUNT sizes.threads) EVENT_COUNT sizes.events) b
