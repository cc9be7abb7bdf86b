-- What a search of the rows finds.
use Rattle.std.proofs.Common.{◌≡◌, ℕ, List, [], ◌∷◌, Bool, true, false, cond, Option, Some, ap, sym, refl, ◌∙◌, Bor}
use Rattle.std.specs.Prelude.{option_map, find, map}
use Rattle.psx_base.specs.declared.stop.Table.{Table}
use Rattle.abs_kernel.specs.declared.calls.CallId.{CallId}
use Rattle.abs_kernel.specs.declared.calls.TheConstants.{ROWS}
use Rattle.abs_kernel.specs.CallTable.{Row}

-- a row as the code has it, and as the definitions have it
abbrev pub CodeRow : Type 0
CodeRow = Table × ℕ × CallId × ℕ × Bor (List ℕ)

abbrev pub row_of : CodeRow → Row
row_of r = (r.0, r.1, r.2, r.3, record { now = r.4.now })

cond_mapped : (b : Bool) (x : CodeRow) (o : Option CodeRow) → option_map row_of (cond b (Some x) o) ≡ cond b (Some (row_of x)) (option_map row_of o)
cond_mapped true x o = refl
cond_mapped false x o = refl

find_mapped : (test : Row → Bool) (rows : List CodeRow) → option_map row_of (find (λ r. test (row_of r)) rows) ≡ find test (map row_of rows)
find_mapped test [] = refl
find_mapped test (r ∷ rows) = cond_mapped (test (row_of r)) r _ ∙ ap (cond (test (row_of r)) (Some (row_of r))) (find_mapped test rows)

-- what is read of the answer of a search
abbrev pub read_of : {X : Type 0} → (Option Row → X) → Option (Bor CodeRow) → X
read_of read o = read (option_map row_of (option_map (λ b. b.now) o))

-- a search of the rows in the code finds what the definition finds
pub found : {X : Type 0} (test : Row → Bool) (read : Option Row → X) (rows : List CodeRow) (o p : Option (Bor CodeRow)) → o ≡ p → option_map (λ b. b.now) o ≡ find (λ r. test (row_of r)) rows → map row_of rows ≡ ROWS → read_of read p ≡ read (find test ROWS)
found test read rows o p e f is = ap (read_of read) (sym e) ∙ ap (λ q. read (option_map row_of q)) f ∙ ap read (find_mapped test rows) ∙ ap (λ l. read (find test l)) is
