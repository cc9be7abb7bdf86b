use Rattle.std.proofs.Common.{ℕ, [], ◌∷◌, subst}
use Rattle.kern_layout.specs.BlockWords.{IsBlock}
use Rattle.kern_stay.specs.Words.{over}
use Rattle.kern_entry.proofs.placing.put_gate.Goals as goal

pub returns : goal.returns
returns c = λ f r.
    let P : ℕ → Type 0 = λ x. IsBlock c.put_words.new.block (over c.args.at (x ∷ []) f) in
    subst P c.encode.ensures (c.put_words.ensures f r)
