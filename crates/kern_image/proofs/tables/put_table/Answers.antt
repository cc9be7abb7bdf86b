use Rattle.std.proofs.Common.{◌≡◌, ℕ, ◌+◌, ◌*◌, ◌/◌, List, length, get_or, sym, ◌∙◌, arith}
use Rattle.kern_stay.proofs.Over.{block_none, block_more, block_all}
use Rattle.kern_image.specs.Tables.{table_words}
use Rattle.kern_image.proofs.Bytes.{length-listed, get_or-listed}
use Rattle.kern_image.proofs.tables.put_table.Goals as goal

pub loop-number-init : goal.loop-number-init
loop-number-init c = λ f r. block_none _ _ (table_words c.args.table c.args.count) f r

pub loop-number-preserved : goal.loop-number-preserved
loop-number-preserved c = λ f r.
    let ws : List ℕ = table_words c.args.table c.args.count in
    let n : ℕ = c.loop-number.number in
    let len : length ws ≡ c.args.count = length-listed _ c.args.count in
    let e : c.word_at.result ≡ get_or ws n 0 = c.word_at.ensures ∙ sym (get_or-listed _ c.args.count n c.loop-number-test.true) in
    rw c.put_word.ensures.set (rw e (block_more c.loop-number.block c.args.at ((c.args.at + 4 * n) / 4) n ws f (omega arith) (omega (arith, len)) (omega arith) (c.loop-number.invariant f r)))

pub returns : goal.returns
returns c = λ f r.
    let len : length (table_words c.args.table c.args.count) ≡ c.args.count = length-listed _ c.args.count in
    block_all _ _ c.loop-number.number _ f (omega (arith, len)) (c.loop-number.invariant f r)
