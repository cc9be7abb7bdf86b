-- Facts of calls that return or fail.
use Rattle.std.proofs.Common.{Result, Ok, Err, OnOk}

-- a fact that holds whatever a call returned
pub always : {A E : Type 0} (r : Result A E) {P : Type 0} → P → OnOk r P
always (Ok x) p = p
always (Err e) p = tt
