-- A command, as the code has it.
use Rattle.std.specs.Prelude.{List, ℕ, ◌<◌, ◌≤◌, Option}
use Rattle.std.specs.Option.{option_map}
use Rattle.std.specs.Borrow.{Bor}
use Rattle.psxk_run.specs.Command.{RunWords, Command, ToRun, ToImage, ToPrint, ToAssemble, ToGenerate}
use Rattle.psxk_run.specs.declared.command.Run.{Run}
use Rattle.psxk_run.specs.declared.command.Request.{Request}
use Rattle.psxk_run.specs.declared.command.Request.TheVariants.{Run as RunRequest, Image, Print, Assemble, Generate}

-- the bytes of a word, where there is one
abbrev pub word_of : Option (Bor (List ℕ)) → Option (List ℕ)
word_of word = option_map (λ (w : Bor (List ℕ)). w.now) word

abbrev pub told_run : Run → RunWords
told_run r = record { name = r.name.now; schedule = word_of r.schedule; budget = r.budget; config = word_of r.config }

abbrev pub told : Request → Command
told (RunRequest r) = ToRun (told_run r)
told Image = ToImage
told (Print name) = ToPrint name.now
told (Assemble name) = ToAssemble name.now
told (Generate rounds) = ToGenerate rounds

-- a run's budget isn't 0, and the workload has 1 to 1,000 rounds
abbrev pub IsInRange : Request → Type 0
IsInRange (RunRequest r) = 0 < r.budget
IsInRange (Generate rounds) = (0 < rounds) × (rounds ≤ 1000)
IsInRange _ = Unit {0}
