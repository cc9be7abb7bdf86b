-- That the crate's calls are served.
use Rattle.std.specs.Prelude.{ℕ, List, [], ◌∷◌}
use Rattle.psx_base.specs.Memory.{Memory, word}
use Rattle.abs_kernel.specs.declared.calls.CallId.{CallId}
use Rattle.abs_kernel.specs.declared.calls.CallId.TheVariants.{A13, A14, A27, A28, A29, A2A, A2B, A2C, A2D, A2E, A2F, A30, A44}
use Rattle.kern_stay.specs.Words.{Stand}
use Rattle.kern_stay.specs.Doors.{most_steps}
use Rattle.kern_stay.specs.Served.{AllServed}
use Rattle.kern_mem.specs.declared.places.TheConstants.{MEMCPY, MEMSET, MEMCHR, RAND, SRAND, MEMCMP, MEMMOVE, BCOPY, BZERO, SETJMP, LONGJMP, FLUSH_CACHE}
use Rattle.kern_mem.specs.MemWords.{mem_pieces}

-- the calls, each with its listing's address
abbrev pub mem_calls : List (CallId × ℕ)
mem_calls =
    (A2A, MEMCPY) ∷ (A2B, MEMSET) ∷ (A2E, MEMCHR) ∷ (A2F, RAND) ∷ (A30, SRAND) ∷ (A29, MEMCMP) ∷ (A2D, MEMCMP) ∷ (A2C, MEMMOVE) ∷ (A27, BCOPY) ∷ (A28, BZERO) ∷ (A13, SETJMP) ∷
    (A14, LONGJMP) ∷ (A44, FLUSH_CACHE) ∷ []

-- where its words stand
abbrev pub MemServes : Type 0
MemServes = (m : Memory) → Stand (word m) mem_pieces → AllServed m most_steps mem_calls
