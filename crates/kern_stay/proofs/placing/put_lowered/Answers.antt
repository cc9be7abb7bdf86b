use Rattle.std.proofs.Common.{◌≡◌, ℕ, List, ◌-◌, ◌%◌, ◌^◌, length, ap, subst, arith}
use Rattle.psx_flow.specs.Reading.{tree_of}
use Rattle.psx_flow.specs.Lowered.{lowered}
use Rattle.psx_flow.proofs.Emits.{lowered_length}
use Rattle.kern_layout.specs.BlockWords.{IsBlock}
use Rattle.kern_stay.specs.Words.{over}
use Rattle.kern_stay.specs.Shared.{tree}
use Rattle.kern_stay.proofs.Trees.{spelled, if_some}
use Rattle.kern_stay.proofs.placing.put_lowered.Goals as goal

pub lower-requires-clause-room : goal.lower-requires-clause-room
lower-requires-clause-room c = if_some (tree_of c.args.nodes.now) _ c.requires.room

pub lower-requires-clause-reach : goal.lower-requires-clause-reach
lower-requires-clause-reach c = if_some (tree_of c.args.nodes.now) _ c.requires.reach

pub put_words-requires-clause-within : goal.put_words-requires-clause-within
put_words-requires-clause-within c =
    let e = c.lower.ensures (tree c.args.nodes.now) (spelled c.args.nodes.now c.requires.well) in
    omega (arith, ap length e, lowered_length (tree c.args.nodes.now) c.args.at)

pub returns : goal.returns
returns c = λ f r.
    let e = c.lower.ensures (tree c.args.nodes.now) (spelled c.args.nodes.now c.requires.well) in
    let low : c.args.at - 0x80000000 ≡ c.args.at % 2 ^ 29 = omega arith in
    let new = c.put_words.new.block in
    let from : ℕ → Type 0 = λ a. IsBlock new (over a (lowered (tree c.args.nodes.now) c.args.at) f) in
    let words : List ℕ → Type 0 = λ ws. IsBlock new (over (c.args.at - 0x80000000) ws f) in
    subst from low (subst words e (c.put_words.ensures f r))
