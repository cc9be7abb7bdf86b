-- The words of the command line.
use Rattle.std.specs.Prelude.{ℕ, List, map, IsSomeAnd}
use Rattle.std.specs.Borrow.{Bor}
use Rattle.psxk_run.specs.Command.{Command, command_of}

-- the bytes of each word
abbrev pub words_of : List (Bor (List ℕ)) → List (List ℕ)
words_of words = map (λ (w : Bor (List ℕ)). w.now) words

-- the words are a command's, of which this holds
abbrev pub IfCommand : List (Bor (List ℕ)) → (Command → Type 0) → Type 0
IfCommand words P = IsSomeAnd (command_of (words_of words)) P
