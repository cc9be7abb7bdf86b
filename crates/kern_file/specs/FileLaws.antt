-- That the crate's calls are served.
use Rattle.std.specs.Prelude.{ℕ, List, [], ◌∷◌}
use Rattle.psx_base.specs.Memory.{Memory, word}
use Rattle.abs_kernel.specs.declared.calls.CallId.{CallId}
use Rattle.abs_kernel.specs.declared.calls.CallId.TheVariants.{A00, A02, A03, A04, A08, A09, A3B, A3C, A3D, A3E, B32, B34, B35, B36, B3A, B3B, B3C, B3D, B3E, B3F, B54}
use Rattle.kern_stay.specs.Words.{Stand}
use Rattle.kern_stay.specs.Doors.{most_steps}
use Rattle.kern_stay.specs.Served.{AllServed}
use Rattle.kern_file.specs.declared.places.TheConstants.{PUTCHAR, PUTS, GET_LAST_ERROR, PUTC, CLOSE, WRITE, OPEN, GETCHAR, GETC, READ, GETS}
use Rattle.kern_file.specs.FileWords.{file_pieces}

-- the calls, each with its listing's address
abbrev pub file_calls : List (CallId × ℕ)
file_calls =
    (A3C, PUTCHAR) ∷ (A3E, PUTS) ∷ (B3D, PUTCHAR) ∷ (B3F, PUTS) ∷ (B54, GET_LAST_ERROR) ∷ (A09, PUTC) ∷ (B3B, PUTC) ∷ (A04, CLOSE) ∷ (B36, CLOSE) ∷ (A03, WRITE) ∷ (B35, WRITE) ∷
    (A00, OPEN) ∷ (B32, OPEN) ∷ (A3B, GETCHAR) ∷ (B3C, GETCHAR) ∷ (A08, GETC) ∷ (B3A, GETC) ∷ (A02, READ) ∷ (B34, READ) ∷ (A3D, GETS) ∷ (B3E, GETS) ∷ []

-- where its words stand
abbrev pub FileServes : Type 0
FileServes = (m : Memory) → Stand (word m) file_pieces → AllServed m most_steps file_calls
