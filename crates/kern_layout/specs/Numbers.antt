-- Addresses by the numbers of the layout, which stand in src/places.rt and src/ranges.rt.
use Rattle.std.specs.Prelude.{ℕ, ◌+◌, ◌*◌}
use Rattle.kern_layout.specs.declared.places.TheConstants.{SAVED_REGISTERS}
use Rattle.kern_layout.specs.declared.ranges.TheConstants.{THREADS, EVENTS, FRAMES, CHAINS, HEAP_TABLE, FILES, LINE, VARIABLES}

-- register n of a saved context
abbrev pub saved_register : ℕ → ℕ
saved_register n = SAVED_REGISTERS + 4 * n

-- ---- the tables' first blocks

abbrev pub threads_at : ℕ
threads_at = THREADS.from

abbrev pub events_at : ℕ
events_at = EVENTS.from

abbrev pub frames_at : ℕ
frames_at = FRAMES.from

abbrev pub chains_at : ℕ
chains_at = CHAINS.from

abbrev pub heap_table_at : ℕ
heap_table_at = HEAP_TABLE.from

abbrev pub files_at : ℕ
files_at = FILES.from

abbrev pub line_at : ℕ
line_at = LINE.from

abbrev pub variables_at : ℕ
variables_at = VARIABLES.from

-- the bytes of the variables that are numbers of the state
abbrev pub variables_size : ℕ
variables_size = 0x28
