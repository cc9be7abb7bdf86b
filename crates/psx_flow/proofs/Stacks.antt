-- The innermost of a vector's brackets.
use Rattle.std.proofs.Common.{◌≡◌, ◌<◌, List, [], ◌∷◌, ◌++◌, length, get_or, reverse, Option, Some, None, IfSome, refl, ap, ◌∙◌, subst, arith, length-append}
use Rattle.std.proofs.lemmas.List.{reverse-append, get_or_at}
use Rattle.std.specs.List.{All}
use Rattle.std.specs.Option.{option_to_list}
use Rattle.psx_flow.specs.declared.emit.Bracket.{Bracket}
use Rattle.psx_flow.specs.Emit.{BracketFits}

-- what is taken from the end stands first from the inside
pub popped : (o : Option Bracket) (old new : List Bracket) → All BracketFits old → old ≡ new ++ option_to_list o → IfSome o (λ b. (reverse old ≡ b ∷ reverse new) × BracketFits b)
popped None old new fit e = tt
popped (Some b) old new fit e =
    let more : length new < length old = omega (arith, ap length e, length-append new (b ∷ [])) in
    let last : get_or old (length new) b ≡ b = ap (λ l. get_or l (length new) b) e ∙ get_or_at new b [] b (length new) refl in
    (ap reverse e ∙ reverse-append new (b ∷ []), subst BracketFits last (fit (length new) b more))
