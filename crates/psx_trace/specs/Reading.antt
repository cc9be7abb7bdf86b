-- A text as the lines of items.
use Rattle.std.specs.Prelude.{◌≡◌, ◌≢◌, ℕ, ◌+◌, ◌<◌, ◌^◌, List, [], ◌++◌, length, All}
use Rattle.std.specs.List.{flat_map}
use Rattle.psx_base.specs.declared.stop.Stop.{Stop}
use Rattle.psx_base.specs.declared.stop.Stop.TheVariants.{Exit, Budget, UserFetch, UserData, Protected, SlotBranch, Exception, Unserved, BadPointer, BadThread, Deep, BadReturn}
use Rattle.psx_trace.specs.declared.item.Item.{Item}
use Rattle.psx_trace.specs.declared.item.Item.TheVariants.{B, E, R, W, X, S}
use Rattle.psx_trace.specs.declared.read.TraceError.{TraceError}
use Rattle.psx_trace.specs.declared.read.TraceError.TheVariants.{BadLine, Memory}
use Rattle.psx_trace.specs.Line.{line}
use Rattle.psx_trace.specs.Plain.{item_of}

-- a number of 32 bits
abbrev pub IsWord : ℕ → Type 0
IsWord w = w < 2 ^ 32

-- the numbers of a stop fit 32 bits
abbrev pub IsStop : Stop → Type 0
IsStop (Exit code) = IsWord code
IsStop Budget = Unit {0}
IsStop (UserFetch at) = IsWord at
IsStop (UserData pc at) = IsWord pc × IsWord at
IsStop (Protected pc) = IsWord pc
IsStop (SlotBranch pc) = IsWord pc
IsStop (Exception code pc) = IsWord code × IsWord pc
IsStop (Unserved table number ra) = IsWord number × IsWord ra
IsStop (BadPointer at ra) = IsWord at × IsWord ra
IsStop (BadThread number ra) = IsWord number × IsWord ra
IsStop (Deep ra) = IsWord ra
IsStop (BadReturn ra) = IsWord ra

-- the numbers of an item fit: a count 64 bits, others 32, and there are 31 registers
abbrev pub IsItem : Item → Type 0
IsItem (B count) = count < 2 ^ 64
IsItem (E count cause epc gate number) = (count < 2 ^ 64) × IsWord cause × IsWord epc × IsWord number
IsItem (R count at value) = (count < 2 ^ 64) × IsWord at × IsWord value
IsItem (W count at value) = (count < 2 ^ 64) × IsWord at × IsWord value
IsItem (X count pc sr hi lo regs) = (count < 2 ^ 64) × IsWord pc × IsWord sr × IsWord hi × IsWord lo × (length regs.0 ≡ 31) × All IsWord regs.0
IsItem (S count stop) = (count < 2 ^ 64) × IsStop stop

-- a text begins with the line of an item
abbrev pub BeginsWith : List ℕ → Item → Type 0
BeginsWith text item = (rest : List ℕ) × (text ≡ line (item_of item) ++ rest)

-- a text begins with no item's line
abbrev pub BeginsWithNone : List ℕ → Type 0
BeginsWithNone text = (item : Item) → IsItem item → ¬ BeginsWith text item

-- the lines of items, in order
abbrev pub lines_of : List Item → List ℕ
lines_of items = flat_map (λ item. line (item_of item)) items

-- a text is the lines of items, in order
pub record IsTraceOf (text : List ℕ) (items : List Item) : Type 0 where
  pub fit : All IsItem items
  pub is : text ≡ lines_of items

-- the lines of a text before the one of this number are lines of items, and that one isn't
pub record IsFirstBad (text : List ℕ) (number : ℕ) : Type 0 where
  pub items : List Item
  pub fit : All IsItem items
  pub rest : List ℕ
  pub is : text ≡ lines_of items ++ rest
  pub number_is : number ≡ length items + 1
  pub some : rest ≢ []
  pub bad : BeginsWithNone rest

-- what an error tells of a text: want of memory tells nothing
abbrev pub Tells : List ℕ → TraceError → Type 0
Tells text (BadLine number) = IsFirstBad text number
Tells text Memory = Unit {0}
