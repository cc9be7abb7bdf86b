-- The calls that are served, read from the rows (PSX-SPX, Kernel (BIOS), function summary).
use Rattle.std.specs.Prelude.{◌≡◌, ℕ, ◌+◌, ◌*◌, ◌^◌, nat_eq, nat_lt, Bool, true, false, ◌&&◌, List, [], ◌∷◌, Option, option_map, unwrap_or, find, count_by, All}
use Rattle.psx_base.specs.declared.stop.Table.{Table}
use Rattle.psx_base.specs.declared.stop.Table.TheVariants.{A, B, C, Sys}
use Rattle.psx_base.specs.contracts.stop.TablePartialEq.TheImpl as tables
use Rattle.abs_kernel.specs.declared.calls.CallId.{CallId}
use Rattle.abs_kernel.specs.declared.calls.TheConstants.{ROWS}
use Rattle.abs_kernel.specs.contracts.calls.CallIdPartialEq.TheImpl as calls

-- a table, a number, its call, how many arguments it takes, and its name
abbrev pub Row : Type 0
Row = Table × ℕ × CallId × ℕ × record { now : List ℕ }

abbrev pub same_table : Table → Table → Bool
same_table t u = tables.ghosts.eq t u

abbrev pub same_call : CallId → CallId → Bool
same_call i j = calls.ghosts.eq i j

-- the call that a table has at a number
abbrev pub served_call : Table → ℕ → Option CallId
served_call table number = option_map (λ (row : Row). row.2) (find (λ (row : Row). same_table row.0 table && nat_eq row.1 number) ROWS)

-- how many arguments a call takes
abbrev pub arguments : CallId → ℕ
arguments id = unwrap_or (option_map (λ (row : Row). row.3) (find (λ (row : Row). same_call row.2 id) ROWS)) 0

-- a call's name
abbrev pub name_of : CallId → List ℕ
name_of id = unwrap_or (option_map (λ (row : Row). row.4.now) (find (λ (row : Row). same_call row.2 id) ROWS)) []

-- ---- what holds of the rows

-- the place of a row in the order: by table, then by number
abbrev pub place_of_table : Table → ℕ
place_of_table A = 0
place_of_table B = 1
place_of_table C = 2
place_of_table Sys = 3

abbrev pub place_of_row : Row → ℕ
place_of_row row = place_of_table row.0 * 2 ^ 32 + row.1

-- each row comes behind the one before it
abbrev pub rising : List Row → Bool
rising [] = true
rising (row ∷ []) = true
rising (row ∷ next ∷ rows) = nat_lt (place_of_row row) (place_of_row next) && rising (next ∷ rows)

-- each call has exactly one row
abbrev pub OneEach : List Row → Type 0
OneEach rows = (id : CallId) → count_by (λ (row : Row). same_call row.2 id) rows ≡ 1

-- no row is a SYSCALL's
abbrev pub OfCalls : List Row → Type 0
OfCalls rows = All (λ (row : Row). same_table row.0 Sys ≡ false) rows
