-- What the code's rounds return. Only private contracts cite it: `Assembly` says what is promised.
use Rattle.std.specs.Prelude.{◌≡◌, ℕ, List, [], ◌∷◌, map, Result, Ok, Err}
use Rattle.psx_asm.specs.declared.object.Object.{Object}
use Rattle.psx_asm.specs.declared.fault.AsmError.{AsmError}
use Rattle.psx_asm.specs.declared.fault.AsmError.TheVariants as errors
use Rattle.psx_asm.specs.declared.fault.Failure.{Failure}
use Rattle.psx_asm.specs.declared.fault.Failure.TheVariants as failures
use Rattle.psx_asm.specs.declared.assembly.Round as rounds
use Rattle.psx_asm.specs.Operands.{Known}
use Rattle.psx_asm.specs.Line.{Line, ◌>>=◌, known}
use Rattle.psx_asm.specs.Names.{names}
use Rattle.psx_asm.specs.Walking.{Item, shown_item, items_behind}
use Rattle.psx_asm.specs.Output.{placed_behind}
use Rattle.psx_asm.specs.Assembly.{numbered, Placed, placed_by}

-- an error is the definition's, unless memory ran out
abbrev pub IsErrorOf : {Y : Type 0} → AsmError → Result Y AsmError → Type 0
IsErrorOf errors.Memory given = Unit {0}
IsErrorOf (errors.Line number fault) given = given ≡ Err (errors.Line number fault)
IsErrorOf (errors.TooLong limit) given = given ≡ Err (errors.TooLong limit)

-- a line's failure as an error
abbrev pub error_at : ℕ → Failure → AsmError
error_at number failures.Memory = errors.Memory
error_at number (failures.Fault fault) = errors.Line number fault

-- the code holds what these lines give
pub record Holds (round : rounds.Round) (lines : List Line) : Type 0 where
  pub known : (w : List ℕ) → names round.walk.symbols w ≡ known lines w
  pub items : map shown_item round.items.items ≡ items_behind [] lines

-- what the first round returned is what the definition gives, unless memory ran out
abbrev pub GivesRound : Result rounds.Round AsmError → Result (List Line) AsmError → Type 0
GivesRound (Ok round) given = (lines : List Line) × (given ≡ Ok lines) × Holds round lines
GivesRound (Err e) given = IsErrorOf e given

-- the bytes that items place behind others, or the first fault
abbrev pub placed_items : Known → (from to : ℕ) → List (ℕ × ℕ) → List Item → Result (List (ℕ × ℕ)) AsmError
placed_items known from to placed [] = Ok placed
placed_items known from to placed (i ∷ is) = do
  more ← numbered i.number (placed_behind known from to i.at placed i.statement)
  placed_items known from to more is

-- what the second round returned is what the definition gives, unless memory ran out
abbrev pub GivesPlaced : {X : Type 0} → (X → List (ℕ × ℕ)) → Result X AsmError → Result (List (ℕ × ℕ)) AsmError → Type 0
GivesPlaced view (Ok x) given = given ≡ Ok (view x)
GivesPlaced view (Err e) given = IsErrorOf e given

-- what the code returned is what the definition gives, unless memory ran out
abbrev pub GivesObject : Result Object AsmError → Result Placed AsmError → Type 0
GivesObject (Ok o) given = given ≡ Ok (placed_by o)
GivesObject (Err e) given = IsErrorOf e given
