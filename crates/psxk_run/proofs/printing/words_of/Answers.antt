use Rattle.std.proofs.Common.{◌≡◌, ◌∙◌, ap, zero-add, map, arith}
use Rattle.std.specs.List.{range_with_len}
use Rattle.std.proofs.lemmas.List.FromFn.{map-range_with_len_more}
use Rattle.psxk_run.specs.Printing.{word_at, word_count, words_of}
use Rattle.psxk_run.proofs.printing.words_of.Goals as goal

pub loop-number-preserved : goal.loop-number-preserved
loop-number-preserved c =
    let more = map-range_with_len_more (word_at c.args.exe.now) 0 c.loop-number.number c.loop-number.number (zero-add c.loop-number.number) in
    let pushed = c.in_ok-push.ensures.items in
    let word = c.word_at.ensures in
    rw more (rw (← c.loop-number.invariant, ← word) pushed)

pub returns : goal.returns
unfolding words_of
returns c =
    let count : c.loop-number.number ≡ word_count c.args.exe.now = rw (← c.len.ensures) (omega arith) in
    c.loop-number.invariant ∙ ap (λ n. map (word_at c.args.exe.now) (range_with_len 0 n)) count
