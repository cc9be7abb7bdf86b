-- That the crate's calls are served.
use Rattle.std.specs.Prelude.{ℕ, List, [], ◌∷◌}
use Rattle.psx_base.specs.Memory.{Memory, word}
use Rattle.abs_kernel.specs.declared.calls.CallId.{CallId}
use Rattle.abs_kernel.specs.declared.calls.CallId.TheVariants.{A0C, A0D, A0E, A0F, A10, A11, A15, A16, A17, A18, A19, A1A, A1B, A1C, A1D, A1E, A1F, A20, A21, A22, A23, A24, A25, A26}
use Rattle.kern_stay.specs.Words.{Stand}
use Rattle.kern_stay.specs.Doors.{most_steps}
use Rattle.kern_stay.specs.Served.{AllServed}
use Rattle.kern_text.specs.declared.places.TheConstants.{STRLEN, TOUPPER, TOLOWER, STRCPY, STRCAT, STRNCAT, STRNCPY, STRCMP, STRNCMP, STRCHR, STRRCHR, STRPBRK, STRSPN, STRCSPN, STRTOK, STRSTR, ABS, STRTOL, ATOI}
use Rattle.kern_text.specs.TextWords.{text_pieces}

-- the calls, each with its listing's address
abbrev pub text_calls : List (CallId × ℕ)
text_calls =
    (A1B, STRLEN) ∷ (A25, TOUPPER) ∷ (A26, TOLOWER) ∷ (A19, STRCPY) ∷ (A15, STRCAT) ∷ (A16, STRNCAT) ∷ (A1A, STRNCPY) ∷ (A17, STRCMP) ∷ (A18, STRNCMP) ∷ (A1C, STRCHR) ∷
    (A1E, STRCHR) ∷ (A1D, STRRCHR) ∷ (A1F, STRRCHR) ∷ (A20, STRPBRK) ∷ (A21, STRSPN) ∷ (A22, STRCSPN) ∷ (A23, STRTOK) ∷ (A24, STRSTR) ∷ (A0E, ABS) ∷ (A0F, ABS) ∷
    (A0C, STRTOL) ∷ (A0D, STRTOL) ∷ (A10, ATOI) ∷ (A11, ATOI) ∷ []

-- where its words stand
abbrev pub TextServes : Type 0
TextServes = (m : Memory) → Stand (word m) text_pieces → AllServed m most_steps text_calls
