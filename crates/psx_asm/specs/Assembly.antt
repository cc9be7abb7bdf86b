-- What a text places, by its lines, their statements and their sizes, or its first fault. The language is this project's own.
use Rattle.std.specs.Prelude.{◌≡◌, ℕ, ◌+◌, nat_lt, ◌==◌, List, [], ◌∷◌, ◌++◌, length, codes, Option, Some, None, Result, Ok, Err, if◌then◌else◌}
use Rattle.std.specs.List.{slice_split}
use Rattle.psx_asm.specs.declared.symbol.Symbol.{Symbol}
use Rattle.psx_asm.specs.declared.symbol.Symbol.TheVariants as symbols
use Rattle.psx_asm.specs.declared.object.Object.{Object}
use Rattle.psx_asm.specs.declared.fault.AsmFault.{AsmFault}
use Rattle.psx_asm.specs.declared.fault.AsmError.{AsmError}
use Rattle.psx_asm.specs.declared.fault.AsmError.TheVariants as errors
use Rattle.psx_asm.specs.Piece.{Piece, IsReadAs}
use Rattle.psx_asm.specs.Operands.{Known}
use Rattle.psx_asm.specs.Line.{Line, ◌>>=◌, line_after, address, known}
use Rattle.psx_asm.specs.Placing.{placing, bytes_of_parts}

-- the most bytes that a text may have
abbrev pub longest : ℕ
longest = 4194304

-- the lines of a text, without their line feeds
abbrev pub lines_of : List ℕ → List (List ℕ)
lines_of text = slice_split (λ b. b == 10) text

-- what each line is read as
abbrev pub AreReadAs : List (List ℕ) → List (Option (List Piece)) → Type 0
AreReadAs [] [] = Unit {0}
AreReadAs [] (reading ∷ readings) = ⊥
AreReadAs (line ∷ lines) [] = ⊥
AreReadAs (line ∷ lines) (reading ∷ readings) = IsReadAs line reading × AreReadAs lines readings

-- what stands on a line, or the line's fault with its number
abbrev pub numbered : {A : Type 0} → ℕ → Result A AsmFault → Result A AsmError
numbered number (Ok x) = Ok x
numbered number (Err fault) = Err (errors.Line number fault)

-- the lines, or the first that has a fault of the first round: behind lines without one
abbrev pub first_round : List Line → List (Option (List Piece)) → Result (List Line) AsmError
first_round before [] = Ok before
first_round before (reading ∷ readings) = do
  line ← numbered (length before + 1) (line_after (known before) reading)
  first_round (before ++ line ∷ []) readings

-- the bytes that lines place in the window, or the first line that has a fault of the second round: by all names of the text, behind
-- lines without such a fault and what they placed
abbrev pub second_round : Known → (from to : ℕ) → List (ℕ × ℕ) → List Line → List Line → Result (List (ℕ × ℕ)) AsmError
second_round names from to placed before [] = Ok placed
second_round names from to placed before (line ∷ lines) = do
  new ← numbered (length before + 1) (placing names from to (address before) placed line.statement)
  second_round names from to (placed ++ new) (before ++ line ∷ []) lines

-- what a text gives
pub record Placed : Type 0 where
  -- bytes, each behind its address
  pub bytes : List (ℕ × ℕ)
  -- the address of the label `start`
  pub start : Option ℕ

-- the address of a label
abbrev pub label_address : Option Symbol → Option ℕ
label_address (Some (symbols.Address at)) = Some at
label_address (Some (symbols.Number n)) = None
label_address None = None

-- what these lines give in the window
abbrev pub assembled : (from to : ℕ) → List (Option (List Piece)) → Result Placed AsmError
assembled from to readings = do
  lines ← first_round [] readings
  bytes ← second_round (known lines) from to [] [] lines
  Ok (record { bytes = bytes; start = label_address (known lines (codes "start")) })

-- a text gives this in a window, or has this first fault, of which its length comes before all
pub record IsAssemblyOf (text : List ℕ) (from to : ℕ) (answer : Result Placed AsmError) : Type 0 where
  pub readings : List (Option (List Piece))
  pub read : AreReadAs (lines_of text) readings
  pub is : answer ≡ (if nat_lt longest (length text) then Err (errors.TooLong longest) else assembled from to readings)

-- what an object has
abbrev pub placed_by : Object → Placed
placed_by o = record { bytes = bytes_of_parts o.parts; start = o.start }

-- each text gives one thing in a window, or has one first fault
abbrev pub HasOneAnswer : List ℕ → ℕ → ℕ → Type 0
HasOneAnswer text from to = (answer : Result Placed AsmError) × IsAssemblyOf text from to answer
    × ((other : Result Placed AsmError) → IsAssemblyOf text from to other → other ≡ answer)
