-- What is known behind some items of a trace.
use Rattle.std.specs.Prelude.{ℕ, ◌+◌, ◌-◌, ◌^◌, min, Bool, true, false, nat_eq, if◌then◌else◌, List, [], ◌∷◌, Option, Some, None}
use Rattle.psx_base.specs.declared.ports.TheConstants.{I_STAT, I_MASK}
use Rattle.psx_trace.specs.declared.item.Item.{Item}
use Rattle.psx_trace.specs.declared.item.Item.TheVariants.{B, E, R, W, X, S}
use Rattle.psx_calls.specs.declared.entries.Entry.{Entry}
use Rattle.psx_calls.specs.declared.places.Place.{Place}
use Rattle.psx_calls.specs.declared.places.Stage.{Stage}
use Rattle.psx_calls.specs.declared.places.Stage.TheVariants.{Boot, User, Kernel, End}
use Rattle.psx_calls.specs.Entries.{same_call, is_try, begins_function, leaves_frame}

-- which items may stand where
abbrev pub in_boot : Item → Bool
in_boot (B count) = true
in_boot (S count stop) = true
in_boot _ = false

abbrev pub in_program : Item → Bool
in_program (E count cause epc gate number) = true
in_program (S count stop) = true
in_program _ = false

abbrev pub in_stay : Item → Bool
in_stay (B count) = false
in_stay (E count cause epc gate number) = false
in_stay _ = true

abbrev pub may_stand : Stage → Item → Bool
may_stand Boot item = in_boot item
may_stand User item = in_program item
may_stand Kernel item = in_stay item
may_stand End item = false

-- the tries of the same call go on at its next entry
abbrev pub behind_entry : Place → Entry → Place
behind_entry p entry = record p { stage = Kernel; entry = entry; tries = if same_call p.entry entry.gate entry.number then p.tries else 0 }

-- the stay keeps what it has read last of I_STAT and of I_MASK
abbrev pub behind_read : Entry → (at value : ℕ) → Entry
behind_read entry at value = if nat_eq at I_STAT then record entry { stat = value } else (if nat_eq at I_MASK then record entry { mask = value } else entry)

-- one try more; a count stands still at its type's end
abbrev pub behind_try : Place → Place
behind_try p = record p { stage = User; tries = min (p.tries + 1) (2 ^ 64 - 1); first = if nat_eq p.tries 0 then p.entry.count else p.first }

-- a frame is left, and a function that begins is one more
abbrev pub frames_behind : Place → (sr : ℕ) → (words : List ℕ) → ℕ
frames_behind p sr words =
    let left = if leaves_frame p.entry then p.frames - 1 else p.frames in
    if begins_function p.entry sr words then min (left + 1) (2 ^ 32 - 1) else left

abbrev pub behind_return : Place → (pc sr : ℕ) → (words : List ℕ) → Place
behind_return p pc sr words = if is_try p.entry pc then behind_try p else record p { stage = User; frames = frames_behind p sr words; tries = 0 }

abbrev pub behind : Place → Item → Place
behind p (B count) = record p { stage = User }
behind p (E count cause epc gate number) = behind_entry p (record { count = count; epc = epc; gate = gate; number = number; stat = 0; mask = 0 })
behind p (R count at value) = record p { entry = behind_read p.entry at value }
behind p (W count at value) = p
behind p (X count pc sr hi lo regs) = behind_return p pc sr regs.0
behind p (S count stop) = record p { stage = End }

-- the number of the first item, the first of them having this one, that may not stand where it stands
abbrev pub first_misplaced : (number : ℕ) → Place → List Item → Option ℕ
first_misplaced number p [] = None
first_misplaced number p (item ∷ rest) = if may_stand p.stage item then first_misplaced (number + 1) (behind p item) rest else Some number
