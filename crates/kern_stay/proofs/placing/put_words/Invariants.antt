use Rattle.std.proofs.Common.{◌≡◌, ℕ, ◌+◌, ◌*◌, take}
use Rattle.kern_layout.specs.BlockWords.{IsBlock}
use Rattle.kern_stay.specs.Words.{over}
use Rattle.kern_stay.proofs.placing.put_words.Given as goal

abbrev pub invariant-loop-word : goal.invariant-loop-word
invariant-loop-word l = record {
  place : l.place ≡ l.fn.at + 4 * l.word-index;
  so_far : (f : ℕ → ℕ) → IsBlock l.fn.block f → IsBlock l.block (over l.fn.at (take l.word-index l.words) f);
}
