use Rattle.std.proofs.Common.{ℕ, [], ◌∷◌, subst}
use Rattle.kern_layout.specs.BlockWords.{IsBlock}
use Rattle.kern_stay.specs.Words.{over}
use Rattle.psx_ins.specs.declared.ins.Ins.TheVariants.{JR}
use Rattle.psx_ins.specs.Words.{word}
use Rattle.kern_entry.specs.EntryWords.{k0}
use Rattle.kern_entry.proofs.placing.put_return.Goals as goal

pub returns : goal.returns
returns c = λ f r.
    let new = c.put_words.new.block in
    let P : ℕ → Type 0 = λ x. IsBlock new (over c.args.at (x ∷ c.encode.result ∷ []) f) in
    let Q : ℕ → Type 0 = λ x. IsBlock new (over c.args.at (word (JR k0) ∷ x ∷ []) f) in
    subst Q c.encode.ensures (subst P c.encode-jump.ensures (c.put_words.ensures f r))
