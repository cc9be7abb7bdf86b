-- What the trace shows of an entry into the kernel and of a return.
use Rattle.std.specs.Prelude.{ℕ, ◌+◌, ◌^◌, Bool, true, false, nat_le, if◌then◌else◌}
use Rattle.psx_base.specs.Items.{Item, B, E, X}
use Rattle.psx_base.specs.Entrances.{entrance, number}
use Rattle.psx_cpu.specs.Processor.{Core}

-- the item of an entry at a count, from the core after it, whose registers are settled: bit 31 of Cause says whether it was in a delay slot, and EPC where it stood
abbrev pub entry : ℕ → ℕ → Bool → Core → Item
entry count code line k =
    let gate = entrance code (nat_le (2 ^ 31) k.processor.cop0.cause) k.processor.cop0.epc in
    E count (k.processor.cop0.cause + (if line then 2 ^ 10 else 0)) k.processor.cop0.epc gate (number gate code k.processor.context.regs)

-- the item of a return after a count, the first or a further one
abbrev pub return : ℕ → Bool → Core → Item
return count false k = B (count + 1)
return count true k = X (count + 1) k.processor.context.pc k.processor.cop0.sr k.processor.context.regs
