use Rattle.std.proofs.Common.{◌/◌, arith}
use Rattle.kern_stay.proofs.Over.{block_none, block_more, block_all}
use Rattle.kern_stay.proofs.placing.put_words.Goals as goal

pub loop-word-init : goal.loop-word-init
loop-word-init c = record { place = omega arith; so_far = λ f r. block_none _ _ c.args.words.now f r }

pub loop-word-preserved : goal.loop-word-preserved
loop-word-preserved c = record {
  place = omega arith;
  so_far = λ f r. rw c.put_word.ensures.set (block_more c.loop-word.block c.args.at (c.loop-word.place / 4) c.loop-word.word-index c.args.words.now f (omega arith) (omega arith) (omega arith) (c.loop-word.invariant.so_far f r));
}

pub returns : goal.returns
returns c = λ f r. block_all _ _ c.loop-word.word-index _ f (omega arith) (c.loop-word.invariant.so_far f r)
