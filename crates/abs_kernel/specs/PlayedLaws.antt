-- What holds of stays with a list of answers.
use Rattle.std.specs.Prelude.{◌≡◌, ◌≢◌, ℕ, true, List, ◌++◌}
use Rattle.psx_base.specs.declared.stop.Stop.{Stop}
use Rattle.psx_base.specs.Memory.{Memory}
use Rattle.psx_base.specs.KernelState.{KernelState}
use Rattle.kern_layout.specs.Valid.{Valid}
use Rattle.abs_kernel.specs.Changes.{changed, Changed, keeps_memory}
use Rattle.abs_kernel.specs.Stay.{Stay}
use Rattle.abs_kernel.specs.KernelStep.{stay_of}
use Rattle.abs_kernel.specs.Played.{Access, Returned, Halted, Short, played, answers_of}

-- with any answers a stay keeps the state valid, and changes what its call may change alone
abbrev pub PlayedKeeps : Type 0
PlayedKeeps = (s t : KernelState) (code : ℕ) (answers : List ℕ) → (played (stay_of s code) answers).end ≡ Returned t → (Valid s → Valid t) × Changed (changed s code) s t

-- and where it stops, one that may not change the user's memory left it as it was
abbrev pub HaltedKeeps : Type 0
HaltedKeeps = (s : KernelState) (code : ℕ) (answers : List ℕ) (stop : Stop) (memory : Memory) → keeps_memory (changed s code) ≡ true → (played (stay_of s code) answers).end ≡ Halted stop memory → memory ≡ s.memory

-- the answers are used in order, one for each read, from the first on
abbrev pub AnswersInOrder : Type 0
AnswersInOrder = (stay : Stay) (answers : List ℕ) → (rest : List ℕ) × (answers ≡ answers_of (played stay answers).accesses ++ rest)

-- the accesses before a read don't depend on later answers
abbrev pub MoreAnswers : Type 0
MoreAnswers = (stay : Stay) (answers more : List ℕ) → (rest : List Access) × ((played stay (answers ++ more)).accesses ≡ (played stay answers).accesses ++ rest)

-- answers behind the ones that a stay uses change nothing
abbrev pub EnoughAnswers : Type 0
EnoughAnswers = (stay : Stay) (answers more : List ℕ) → (played stay answers).end ≢ Short → played stay (answers ++ more) ≡ played stay answers
