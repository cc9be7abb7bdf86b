-- A text as the lines of the stays of its trace, or why it isn't shown.
use Rattle.std.specs.Prelude.{◌≡◌, ℕ, ◌<◌, List, length, Some, None}
use Rattle.psx_trace.specs.Reading.{IsTraceOf, IsFirstBad}
use Rattle.psx_trace.specs.declared.item.Item.{Item}
use Rattle.psx_calls.specs.declared.numbers.Numbers.{Numbers}
use Rattle.psx_calls.specs.declared.places.TheConstants.{START}
use Rattle.psx_calls.specs.declared.shown.Fault.{Fault}
use Rattle.psx_calls.specs.declared.shown.Fault.TheVariants.{TooLong, BadLine, Misplaced, Memory}
use Rattle.psx_calls.specs.declared.shown.TheConstants.{LIMIT}
use Rattle.psx_calls.specs.Places.{first_misplaced}
use Rattle.psx_calls.specs.Lines.{lines_from}

-- each item may stand where it stands, and these are the lines that they give
pub record IsLines (numbers : Numbers) (items : List Item) (out : List ℕ) : Type 0 where
  pub in_place : first_misplaced 1 START items ≡ None
  pub lines : out ≡ lines_from numbers START items

-- a text of at most LIMIT bytes is a trace, and these are the lines of its items
pub record Shows (numbers : Numbers) (text out : List ℕ) : Type 0 where
  pub items : List Item
  pub trace : IsTraceOf text items
  pub shown : IsLines numbers items out

-- the error of the line of the first misplaced item, or want of memory, which tells nothing
abbrev pub IsMisplaced : List Item → Fault → Type 0
IsMisplaced items (Misplaced line) = first_misplaced 1 START items ≡ Some line
IsMisplaced items Memory = Unit {0}
IsMisplaced items (TooLong limit) = ⊥
IsMisplaced items (BadLine line) = ⊥

-- what a fault tells of a text
abbrev pub Tells : List ℕ → Fault → Type 0
Tells text (TooLong limit) = (limit ≡ LIMIT) × (LIMIT < length text)
Tells text (BadLine line) = IsFirstBad text line
Tells text (Misplaced line) = (items : List Item) × IsTraceOf text items × (first_misplaced 1 START items ≡ Some line)
Tells text Memory = Unit {0}
