-- That the crate's calls are served.
use Rattle.std.specs.Prelude.{ℕ, List, [], ◌∷◌}
use Rattle.psx_base.specs.Memory.{Memory, word}
use Rattle.abs_kernel.specs.declared.calls.CallId.{CallId}
use Rattle.abs_kernel.specs.declared.calls.CallId.TheVariants.{B02, B03, B04, B05, B06}
use Rattle.kern_stay.specs.Words.{Stand}
use Rattle.kern_stay.specs.Doors.{most_steps}
use Rattle.kern_stay.specs.Served.{AllServed}
use Rattle.kern_timer.specs.declared.places.TheConstants.{INIT_TIMER, GET_TIMER, ENABLE_TIMER_IRQ, DISABLE_TIMER_IRQ, RESTART_TIMER}
use Rattle.kern_timer.specs.TimerWords.{timer_pieces}

-- the calls, each with its listing's address
abbrev pub timer_calls : List (CallId × ℕ)
timer_calls =
    (B02, INIT_TIMER)
    ∷ (B03, GET_TIMER)
    ∷ (B04, ENABLE_TIMER_IRQ)
    ∷ (B05, DISABLE_TIMER_IRQ)
    ∷ (B06, RESTART_TIMER)
    ∷ []

-- where its words stand
abbrev pub TimerServes : Type 0
TimerServes = (m : Memory) → Stand (word m) timer_pieces → AllServed m most_steps timer_calls
