-- Lists made one by one, where one may fail.
use Rattle.std.proofs.Common.{List, ◌++◌, Result, Ok, Err}

-- a list before one that may have failed
abbrev pub in_front : {A E : Type 0} → List A → Result (List A) E → Result (List A) E
in_front xs (Ok ys) = Ok (xs ++ ys)
in_front xs (Err e) = Err e
