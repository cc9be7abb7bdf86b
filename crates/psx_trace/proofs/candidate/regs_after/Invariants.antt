use Rattle.std.proofs.Common.{◌≡◌, ◌<◌, ℕ, List, ◌++◌, All, length, drop, get_or}
use Rattle.psx_trace.specs.declared.item.Regs.{Regs}
use Rattle.psx_trace.specs.Digits.{fields}
use Rattle.psx_trace.specs.Reading.{IsWord}
use Rattle.psx_trace.proofs.candidate.regs_after.Given as goal

abbrev pub invariant-loop-number : goal.invariant-loop-number
invariant-loop-number l = record {
  len : length l.words ≡ 31;
  fit : All IsWord l.words;
  same : (regs : Regs) (rest : List ℕ) → length regs.0 ≡ 31 → All IsWord regs.0 → drop l.at l.text ≡ fields regs.0 ++ rest
      → (k : ℕ) → k < l.number → get_or l.words k 0 ≡ get_or regs.0 k 0;
}
