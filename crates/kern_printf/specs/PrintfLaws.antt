-- That printf is served.
use Rattle.std.specs.Prelude.{ℕ, List, [], ◌∷◌}
use Rattle.psx_base.specs.Memory.{Memory, word}
use Rattle.abs_kernel.specs.declared.calls.CallId.{CallId}
use Rattle.abs_kernel.specs.declared.calls.CallId.TheVariants.{A3F}
use Rattle.kern_stay.specs.Words.{Stand}
use Rattle.kern_stay.specs.Doors.{most_steps}
use Rattle.kern_stay.specs.Served.{AllServed}
use Rattle.kern_printf.specs.declared.places.TheConstants.{PRINTF}
use Rattle.kern_printf.specs.PrintfWords.{printf_pieces}

-- the calls, each with its listing's address
abbrev pub printf_calls : List (CallId × ℕ)
printf_calls = (A3F, PRINTF) ∷ []

-- where its words stand
abbrev pub PrintfServes : Type 0
PrintfServes = (m : Memory) → Stand (word m) printf_pieces → AllServed m most_steps printf_calls
