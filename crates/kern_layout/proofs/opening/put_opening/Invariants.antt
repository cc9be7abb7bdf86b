use Rattle.std.proofs.Common.{◌≡◌, ℕ, ◌+◌, ◌*◌, ◌<◌, get_or}
use Rattle.kern_layout.specs.Opening.{opening_at}
use Rattle.kern_layout.proofs.opening.put_opening.Given as goal

abbrev pub invariant-loop-word : goal.invariant-loop-word
invariant-loop-word l = record {
  done : (k : ℕ) → k < l.word → get_or l.block (0x2C00 + k) 0 ≡ opening_at (0xB000 + 4 * k);
  below : (k : ℕ) → k < 0x2C00 → get_or l.block k 0 ≡ get_or l.fn.block k 0;
}
