-- The lines that items give. A stay gives its line at its return or at the stop; the tries of a call that waits give one line, at the next item that isn't one of them.
use Rattle.std.specs.Prelude.{ℕ, ◌*◌, bit_and, nat_eq, if◌then◌else◌, List, [], ◌∷◌, ◌++◌, take, drop, slice_index, Option, Some, None, codes, decimal}
use Rattle.std.specs.List.{flat_map}
use Rattle.psx_base.specs.declared.stop.Stop.{Stop}
use Rattle.psx_text.specs.Digits.{hex8}
use Rattle.psx_trace.specs.Digits.{field}
use Rattle.psx_trace.specs.StopText.{stop_text}
use Rattle.psx_trace.specs.declared.item.Entered.{Entered}
use Rattle.psx_trace.specs.declared.item.Entered.TheVariants.{A, B as TableB, C, Sys, Interrupt, Done, Back, Trap}
use Rattle.psx_trace.specs.declared.item.Item.{Item}
use Rattle.psx_trace.specs.declared.item.Item.TheVariants.{B, E, R, W, X, S}
use Rattle.abs_kernel.specs.declared.calls.CallId.{CallId}
use Rattle.abs_kernel.specs.CallTable.{arguments, name_of}
use Rattle.psx_calls.specs.declared.entries.Entry.{Entry}
use Rattle.psx_calls.specs.declared.lines.TheConstants.{LINES}
use Rattle.psx_calls.specs.declared.numbers.Numbers.{Numbers}
use Rattle.psx_calls.specs.declared.places.Place.{Place}
use Rattle.psx_calls.specs.declared.places.Stage.{Stage}
use Rattle.psx_calls.specs.declared.places.Stage.TheVariants.{Kernel}
use Rattle.psx_calls.specs.Numbers.{number_text}
use Rattle.psx_calls.specs.Entries.{call_of, same_call, is_try, begins_function, is_answered}
use Rattle.psx_calls.specs.Places.{behind}

-- ---- what entered the kernel

-- the lines whose bits are in a word, each behind a space
abbrev pub due_line : (due : ℕ) → ℕ × ℕ → List ℕ
due_line due line = if nat_eq (bit_and due line.1) 0 then [] else codes " " ++ decimal line.0

abbrev pub due_lines : (due : ℕ) → List (ℕ × ℕ) → List ℕ
due_lines due lines = flat_map (due_line due) lines

-- a call's name, or its table's letter and a number that has no row, as in a stop
abbrev pub name_or_number : (letter : ℕ) → Option CallId → (number : ℕ) → List ℕ
name_or_number letter None number = letter ∷ field number
name_or_number letter (Some call) number = name_of call

abbrev pub called_by : Numbers → Entered → Entry → List ℕ
called_by n A entry = name_or_number 65 (call_of entry) entry.number
called_by n TableB entry = name_or_number 66 (call_of entry) entry.number
called_by n C entry = name_or_number 67 (call_of entry) entry.number
called_by n Sys entry = codes "SYSCALL " ++ number_text n entry.number
called_by n Interrupt entry = codes "interrupt" ++ due_lines (bit_and entry.stat entry.mask) LINES
called_by n Done entry = codes "program returns " ++ number_text n entry.number
called_by n Back entry = codes "function returns " ++ number_text n entry.number
called_by n Trap entry = codes "exception " ++ number_text n entry.number

unfoldable pub called : Numbers → Entry → List ℕ
called n entry = called_by n entry.gate entry

-- ---- how a stay returned; the words are r1 to r31

-- numbers, parted by a comma and a space
abbrev pub listed_more : Numbers → List ℕ → List ℕ
listed_more n words = flat_map (λ w. codes ", " ++ number_text n w) words

abbrev pub listed : Numbers → List ℕ → List ℕ
listed n [] = []
listed n (first ∷ rest) = number_text n first ++ listed_more n rest

abbrev pub in_parentheses : Numbers → List ℕ → List ℕ
in_parentheses n words = codes "(" ++ listed n words ++ codes ")"

-- how many arguments a call takes
unfoldable pub argument_count : CallId → ℕ
argument_count call = arguments call

-- a call's arguments by their number, from r4 on; a SYSCALL has none beside its number
abbrev pub given : Numbers → Option CallId → List ℕ → List ℕ
given n None words = []
given n (Some call) words = in_parentheses n (take (argument_count call) (drop 3 words))

-- the answer is r2
unfoldable pub answer : Numbers → Option CallId → List ℕ → List ℕ
answer n call words = given n call words ++ (codes " = " ++ number_text n (slice_index words 1))

-- a function that begins, with its argument; the answer to the caller; or else where another context, or the same one without an answer, goes on
unfoldable pub return_text : Numbers → Place → (pc sr : ℕ) → List ℕ → List ℕ
return_text n p pc sr words =
    if begins_function p.entry sr words then codes " calls " ++ hex8 pc ++ in_parentheses n (take 1 (drop 3 words))
    else (if is_answered p.entry p.frames then answer n (call_of p.entry) words else codes " -> " ++ hex8 pc)

-- ---- lines

-- the count, and two spaces for each function at work, of which the kernel has at most 8
unfoldable pub line_head : (count frames : ℕ) → List ℕ
line_head count frames = decimal count ++ codes " " ++ take (2 * frames) (codes "                ")

-- the tries of a call that has waited, with the count of the first
unfoldable pub waiting : Numbers → Place → List ℕ
waiting n p = if nat_eq p.tries 0 then [] else line_head p.first p.frames ++ called n p.entry ++ codes " waits, tries: " ++ decimal p.tries ++ codes "\n"

-- a stay under way
abbrev pub stay_head : Numbers → Place → List ℕ
stay_head n p = line_head p.entry.count p.frames ++ called n p.entry

-- a return's line, but for a try
unfoldable pub return_line : Numbers → Place → (pc sr : ℕ) → List ℕ → List ℕ
return_line n p pc sr words = if is_try p.entry pc then [] else waiting n p ++ stay_head n p ++ return_text n p pc sr words ++ codes "\n"

-- the stay that a stop ends
abbrev pub stay_under_way : Numbers → Stage → Place → List ℕ
stay_under_way n Kernel p = stay_head n p ++ codes "\n"
stay_under_way n _ p = []

-- the stop comes last, as the trace has it
unfoldable pub stop_line : Numbers → Place → (count : ℕ) → Stop → List ℕ
stop_line n p count stop = waiting n p ++ stay_under_way n p.stage p ++ decimal count ++ codes " " ++ stop_text stop ++ codes "\n"

-- the lines that an item gives where it stands
abbrev pub item_line : Numbers → Place → Item → List ℕ
item_line n p (B count) = []
item_line n p (E count cause epc gate number) = if same_call p.entry gate number then [] else waiting n p
item_line n p (R count at value) = []
item_line n p (W count at value) = []
item_line n p (X count pc sr hi lo regs) = return_line n p pc sr regs.0
item_line n p (S count stop) = stop_line n p count stop

-- the lines of items from a place on; at a front of a trace the tries so far
abbrev pub lines_from : Numbers → Place → List Item → List ℕ
lines_from n p [] = waiting n p
lines_from n p (item ∷ rest) = item_line n p item ++ lines_from n (behind p item) rest
