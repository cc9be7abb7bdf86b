-- How the code goes over a text's lines: what it holds behind some of them. Only private contracts cite it: `Assembly` says what is promised.
use Rattle.std.specs.Prelude.{◌≡◌, ℕ, ◌+◌, List, [], ◌∷◌, ◌++◌, length, bytes_eq, Option, Some, None, if◌then◌else◌}
use Rattle.psx_asm.specs.declared.symbol.Symbol.{Symbol}
use Rattle.psx_asm.specs.declared.symbol.Symbol.TheVariants as symbols
use Rattle.psx_asm.specs.declared.line.Line as coded
use Rattle.psx_asm.specs.declared.line.Item as items
use Rattle.psx_asm.specs.declared.line.Walk as walks
use Rattle.psx_asm.specs.Statement.{Statement, Empty}
use Rattle.psx_asm.specs.Line.{Line, address, known}
use Rattle.psx_asm.specs.Names.{names}
use Rattle.psx_asm.specs.Shown.{shown_statement, shown_label}

-- a line
abbrev pub shown_line : coded.Line → Line
shown_line l = record { label = shown_label l.label; statement = shown_statement l.statement }

-- a statement that isn't empty, with its line's number and address
pub record Item : Type 0 where
  pub number : ℕ
  pub at : ℕ
  pub statement : Statement

abbrev pub shown_item : items.Item → Item
shown_item i = record { number = i.number; at = i.at; statement = shown_statement i.statement }

-- the item of a line
abbrev pub item : ℕ → ℕ → Statement → List Item
item number at Empty = []
item number at s = record { number = number; at = at; statement = s } ∷ []

-- the items of lines behind others
abbrev pub items_behind : List Line → List Line → List Item
items_behind before [] = []
items_behind before (l ∷ ls) = item (length before + 1) (address before) l.statement ++ items_behind (before ++ l ∷ []) ls

-- what a label says of a name
abbrev pub labelled : ℕ → Option (List ℕ) → List ℕ → Option Symbol
labelled at (Some label) w = if bytes_eq label w then Some (symbols.Address at) else None
labelled at None w = None

-- what is said last, or else what was said before
abbrev pub over : Option Symbol → Option Symbol → Option Symbol
over (Some symbol) old = Some symbol
over None old = old

-- the code stands behind these lines
pub record StandsBehind (before : List Line) (walk : walks.Walk) : Type 0 where
  pub known : (w : List ℕ) → names walk.symbols w ≡ known before w
  pub at : walk.at ≡ address before
  pub number : walk.number ≡ length before
