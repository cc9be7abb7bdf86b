-- What was sent, piece after piece.
use Rattle.std.proofs.Common.{ℕ, List, ◌++◌, Option, None, Some, ap, ◌∙◌, append_assoc}
use Rattle.psxk_run.specs.Sent.{Grew}

pub grew_more : (a b c : Option (List ℕ)) (x y : List ℕ) → Grew a b x → Grew b c y → Grew a c (x ++ y)
grew_more None b c x y f g = tt
grew_more (Some u) b c x y f g = let h = rw f at g in h ∙ ap Some (append_assoc u x y)
