-- The line of an item.
use Rattle.std.specs.Prelude.{ℕ, List, ◌∷◌, ◌++◌, decimal, codes, drop}
use Rattle.psx_base.specs.Items.{Item, Entrance, ByA, ByB, ByC, BySyscall, ByInterrupt, ByDone, ByBack, ByTrap, B, E, R, W, X, S}
use Rattle.psx_base.specs.Registers.{Registers, registers}
use Rattle.psx_trace.specs.Digits.{field, fields, mark}
use Rattle.psx_trace.specs.StopText.{stop_text}

-- the letter of an entrance
abbrev pub gate_letter : Entrance → ℕ
gate_letter ByA = 65
gate_letter ByB = 66
gate_letter ByC = 67
gate_letter BySyscall = 89
gate_letter ByInterrupt = 73
gate_letter ByDone = 80
gate_letter ByBack = 75
gate_letter ByTrap = 84

-- r1 to r31
unfoldable pub general_registers : Registers → List ℕ
general_registers regs = drop 1 (registers regs)

-- an item's letter, and its count in decimal without leading zeros
abbrev pub head : ℕ → ℕ → List ℕ
head letter count = letter ∷ 32 ∷ decimal count

-- the item's letter and its fields in order, parted by single spaces
unfoldable pub item_text : Item → List ℕ
item_text (B count) = head 66 count
item_text (E count cause epc gate number) = head 69 count ++ field cause ++ field epc ++ mark (gate_letter gate) ++ field number
item_text (R count at value) = head 82 count ++ field at ++ field value
item_text (W count at value) = head 87 count ++ field at ++ field value
item_text (X count pc sr regs) = head 88 count ++ field pc ++ field sr ++ field regs.hi ++ field regs.lo ++ fields (general_registers regs)
item_text (S count stop) = head 83 count ++ codes " " ++ stop_text stop

-- the line of an item: its text and a line feed
abbrev pub line : Item → List ℕ
line item = item_text item ++ codes "\n"
