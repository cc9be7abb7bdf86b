use Rattle.std.proofs.Common.{◌≡◌, ℕ, ◌*◌, ◌<◌, length, get_or}
use Rattle.kern_image.specs.Rom.{rom_word}
use Rattle.kern_image.proofs.image.words_of.Given as goal

abbrev pub invariant-loop-place : goal.invariant-loop-place
invariant-loop-place l = record {
  size : length l.words.items ≡ l.place;
  so_far : (k : ℕ) → k < l.place → get_or l.words.items k 0 ≡ rom_word (4 * k);
}
