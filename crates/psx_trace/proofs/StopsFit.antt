-- The stops that are tried have words for numbers.
use Rattle.std.proofs.Common.{ℕ, zero, suc, List, [], ◌∷◌, All, arith}
use Rattle.psx_base.specs.declared.stop.Stop.{Stop}
use Rattle.psx_base.specs.declared.stop.Stop.TheVariants.{Exit, Budget, UserFetch, UserData, Protected, SlotBranch, Exception, Unserved, BadPointer, BadThread, Deep, BadReturn}
use Rattle.psx_base.specs.declared.stop.Table.{Table}
use Rattle.psx_trace.specs.Reading.{IsWord, IsStop}

abbrev Each : List Stop → Type 0
Each [] = Unit {0}
Each (x ∷ xs) = IsStop x × Each xs

all_from_each : (xs : List Stop) → Each xs → All IsStop xs
all_from_each [] e k d below = absurd (omega arith)
all_from_each (x ∷ xs) e zero d below = e.0
all_from_each (x ∷ xs) e (suc k) d below = all_from_each xs e.1 k d (omega arith)

abbrev pub tried : Table → ℕ → ℕ → ℕ → ℕ → ℕ → ℕ → ℕ → List Stop
tried table four eight nine ten second_eight second_nine ra = Exit four ∷ Budget ∷ UserFetch nine ∷ UserData eight second_eight ∷ Protected nine ∷ SlotBranch ten
    ∷ Exception nine second_nine ∷ Unserved table ten ra ∷ BadPointer ten ra ∷ BadThread nine second_nine ∷ Deep four ∷ BadReturn nine ∷ []

pub tried_fit : (table : Table) (four eight nine ten second_eight second_nine ra : ℕ) → IsWord four → IsWord eight → IsWord nine → IsWord ten → IsWord second_eight → IsWord second_nine → IsWord ra
    → All IsStop (tried table four eight nine ten second_eight second_nine ra)
tried_fit table four eight nine ten second_eight second_nine ra a b d e f g h =
    all_from_each (tried table four eight nine ten second_eight second_nine ra)
    (a, (tt, (d, ((b, f), (d, (e, ((d, g), ((e, h), ((e, h), ((d, g), (a, (d, tt))))))))))))
