-- That the crate's calls are served.
use Rattle.std.specs.Prelude.{ℕ, List, [], ◌∷◌}
use Rattle.psx_base.specs.Memory.{Memory, word}
use Rattle.abs_kernel.specs.declared.calls.CallId.{CallId}
use Rattle.abs_kernel.specs.declared.calls.CallId.TheVariants.{A33, A34, A37, A38, A39}
use Rattle.kern_stay.specs.Words.{Stand}
use Rattle.kern_stay.specs.Doors.{most_heap_steps}
use Rattle.kern_stay.specs.Served.{AllServed}
use Rattle.kern_heap.specs.declared.places.TheConstants.{MALLOC, FREE, CALLOC, REALLOC, INIT_HEAP}
use Rattle.kern_heap.specs.HeapWords.{heap_pieces}

-- the calls, each with its listing's address
abbrev pub heap_calls : List (CallId × ℕ)
heap_calls = (A33, MALLOC) ∷ (A34, FREE) ∷ (A37, CALLOC) ∷ (A38, REALLOC) ∷ (A39, INIT_HEAP) ∷ []

-- where its words stand
abbrev pub HeapServes : Type 0
HeapServes = (m : Memory) → Stand (word m) heap_pieces → AllServed m most_heap_steps heap_calls
