-- The tables of routines: at each number that is served, the address of its call's listing.
use Rattle.std.specs.Prelude.{ℕ, List, [], ◌∷◌, if◌then◌else◌}
use Rattle.psx_base.specs.declared.stop.Table.{Table}
use Rattle.psx_base.specs.declared.stop.Table.TheVariants.{A, B, C}
use Rattle.kern_layout.specs.declared.ranges.TheConstants.{TABLE_A, TABLE_B, TABLE_C}
use Rattle.abs_kernel.specs.declared.calls.CallId.{CallId}
use Rattle.abs_kernel.specs.CallTable.{same_call, served_call}
use Rattle.kern_entry.specs.Tables.{table_word}
use Rattle.kern_image.specs.Words.{listed}
use Rattle.kern_image.specs.declared.places.Place.{Place}
use Rattle.kern_image.specs.declared.places.TheConstants.{PLACES}

-- the address that places have for a call, 0 where it has none
abbrev pub place_of : List Place → CallId → ℕ
place_of [] id = 0
place_of (p ∷ ps) id = if same_call p.call id then p.at else place_of ps id

abbrev pub routine_of : CallId → ℕ
routine_of id = place_of PLACES id

abbrev pub table_words : Table → (count : ℕ) → List ℕ
table_words table count = listed (λ n. table_word routine_of (served_call table n)) count

-- in the order of their addresses
abbrev pub table_pieces : List (ℕ × List ℕ)
table_pieces = (TABLE_A.from, table_words A 0xC0) ∷ (TABLE_C.from, table_words C 0x20) ∷ (TABLE_B.from, table_words B 0x5F) ∷ []
