-- That the crate's calls are served.
use Rattle.std.specs.Prelude.{ℕ, List, [], ◌∷◌}
use Rattle.psx_base.specs.Memory.{Memory, word}
use Rattle.abs_kernel.specs.declared.calls.CallId.{CallId}
use Rattle.abs_kernel.specs.declared.calls.CallId.TheVariants.{B0E, B0F, B10, B17}
use Rattle.kern_stay.specs.Words.{Stand}
use Rattle.kern_stay.specs.Doors.{most_steps}
use Rattle.kern_stay.specs.Served.{AllServed}
use Rattle.kern_thread.specs.declared.places.TheConstants.{CHANGE_THREAD, CLOSE_THREAD, OPEN_THREAD, RETURN_FROM_EXCEPTION}
use Rattle.kern_thread.specs.ThreadWords.{thread_pieces}

-- the calls, each with its listing's address
abbrev pub thread_calls : List (CallId × ℕ)
thread_calls = (B10, CHANGE_THREAD) ∷ (B0F, CLOSE_THREAD) ∷ (B0E, OPEN_THREAD) ∷ (B17, RETURN_FROM_EXCEPTION) ∷ []

-- where its words stand
abbrev pub ThreadServes : Type 0
ThreadServes = (m : Memory) → Stand (word m) thread_pieces → AllServed m most_steps thread_calls
