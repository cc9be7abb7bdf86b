-- That the crate's calls are served.
use Rattle.std.specs.Prelude.{ℕ, List, [], ◌∷◌}
use Rattle.psx_base.specs.Memory.{Memory, word}
use Rattle.abs_kernel.specs.declared.calls.CallId.{CallId}
use Rattle.abs_kernel.specs.declared.calls.CallId.TheVariants.{B07, B08, B09, B0A, B0B, B0C, B0D, B20, C02, C03}
use Rattle.kern_stay.specs.Words.{Stand}
use Rattle.kern_stay.specs.Doors.{most_steps}
use Rattle.kern_stay.specs.Served.{AllServed}
use Rattle.kern_event.specs.declared.places.TheConstants.{OPEN_EVENT, CLOSE_EVENT, ENABLE_EVENT, DISABLE_EVENT, TEST_EVENT, WAIT_EVENT, UNDELIVER_EVENT, SYS_ENQ_INT_RP, SYS_DEQ_INT_RP, DELIVER_EVENT}
use Rattle.kern_event.specs.EventWords.{event_pieces}

-- the calls, each with its listing's address
abbrev pub event_calls : List (CallId × ℕ)
event_calls =
    (B08, OPEN_EVENT)
    ∷ (B09, CLOSE_EVENT)
    ∷ (B0C, ENABLE_EVENT)
    ∷ (B0D, DISABLE_EVENT)
    ∷ (B0B, TEST_EVENT)
    ∷ (B0A, WAIT_EVENT)
    ∷ (B20, UNDELIVER_EVENT)
    ∷ (C02, SYS_ENQ_INT_RP)
    ∷ (C03, SYS_DEQ_INT_RP)
    ∷ (B07, DELIVER_EVENT)
    ∷ []

-- where its words stand
abbrev pub EventServes : Type 0
EventServes = (m : Memory) → Stand (word m) event_pieces → AllServed m most_steps event_calls
