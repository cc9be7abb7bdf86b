use Rattle.std.proofs.Common.{◌≡◌, ℕ, ◌+◌, ◌<◌, length, get_or}
use Rattle.psx_base.specs.Registers.{register}
use Rattle.psxk_run.proofs.items.registers.Given as goal

-- the registers so far
abbrev pub invariant-loop-n : goal.invariant-loop-n
invariant-loop-n l = record {
  len : length l.words ≡ 31;
  so_far : (k : ℕ) → k < l.n → get_or l.words k 0 ≡ register l.cpu.context.regs (k + 1);
}
