-- Values up to a line's end, one by one.
use Rattle.std.proofs.Common.{◌≡◌, ℕ, ◌<◌, Bool, true, false, ◌==◌, List, [], ◌∷◌, ◌++◌, length, drop, Option, Some, None, refl, sym, ap, ◌∙◌, append_assoc, length-drop, if◌then◌else◌, arith}
use Rattle.std.proofs.lemmas.List.{length-map}
use Rattle.psx_asm.specs.declared.piece.Piece as lexed
use Rattle.psx_asm.specs.Shown.{shown}
use Rattle.psx_asm.specs.Piece.{Piece, Name, Directive, Number, Quoted, Mark}
use Rattle.psx_asm.specs.Operands.{Value, Sum, value, values, before, sum_from}

-- values before others
abbrev pub joined : List Value → Option (List Value) → Option (List Value)
joined vs (Some ws) = Some (vs ++ ws)
joined vs None = None

-- the values behind the first one
abbrev pub behind : Option (Value × List Piece) → Option (List Value)
behind (Some x) = before x.0 (values x.1)
behind None = None

-- the first value, and those behind it
pub values_step : (p : Piece) (ps : List Piece) → values (p ∷ ps) ≡ behind (value (p ∷ ps))
values_step (Number n) ps = refl
values_step (Directive w) ps = refl
values_step (Quoted w) ps = refl
values_step (Mark c) ps = refl
values_step (Name w) [] = refl
values_step (Name w) (Name v ∷ ps) = refl
values_step (Name w) (Directive v ∷ ps) = refl
values_step (Name w) (Number n ∷ ps) = refl
values_step (Name w) (Quoted v ∷ ps) = refl
values_step (Name w) (Mark c ∷ []) = refl
values_step (Name w) (Mark c ∷ Name v ∷ ps) = refl
values_step (Name w) (Mark c ∷ Directive v ∷ ps) = refl
values_step (Name w) (Mark c ∷ Quoted v ∷ ps) = refl
values_step (Name w) (Mark c ∷ Mark d ∷ ps) = refl
values_step (Name w) (Mark c ∷ Number n ∷ ps) = by (c == 43)
  where
    by : (b : Bool) → (if b then before (Sum w n) (values ps) else None) ≡ behind (sum_from w (Mark c ∷ Number n ∷ ps) (if b then Some (n, ps) else None))
    by true = refl
    by false = refl

-- the values of some pieces
values_some : (ps : List Piece) → 0 < length ps → values ps ≡ behind (value ps)
values_some [] some = absurd (omega arith)
values_some (p ∷ ps) some = values_step p ps

joined_before : (vs : List Value) (v : Value) (ws : Option (List Value)) → joined vs (before v ws) ≡ joined (vs ++ v ∷ []) ws
joined_before vs v (Some ws) = ap Some (sym (append_assoc vs (v ∷ []) ws))
joined_before vs v None = refl

-- the pieces at a place in the code's words
some_left : (ps : List lexed.Piece) (at : ℕ) → at < length ps → 0 < length (shown (drop at ps))
some_left ps at below = simp (length-map, length-drop) (omega arith)

-- where no value begins, there are no values
pub joined_none : (vs : List Value) (ps : List lexed.Piece) (at : ℕ) (all : Option (List Value)) → at < length ps → None ≡ value (shown (drop at ps))
    → joined vs (values (shown (drop at ps))) ≡ all → None ≡ all
joined_none vs ps at all below none so_far = sym (ap (joined vs) (values_some _ (some_left ps at below) ∙ ap behind (sym none))) ∙ so_far

-- where one begins, it is one more
pub joined_some : (vs : List Value) (ps : List lexed.Piece) (at : ℕ) (all : Option (List Value)) (v : Value) (rest : List Piece) → at < length ps
    → Some (v, rest) ≡ value (shown (drop at ps)) → joined vs (values (shown (drop at ps))) ≡ all → joined (vs ++ v ∷ []) (values rest) ≡ all
joined_some vs ps at all v rest below some so_far =
    sym (joined_before vs v (values rest)) ∙ sym (ap (joined vs) (values_some _ (some_left ps at below) ∙ ap behind (sym some))) ∙ so_far
