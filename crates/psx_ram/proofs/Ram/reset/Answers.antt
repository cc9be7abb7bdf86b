use Rattle.std.proofs.Common.{length, ap, ◌∙◌}
use Rattle.psx_ram.proofs.Reset.{length-zeros, reset_is}
use Rattle.psx_ram.proofs.Ram.reset.Goals as goal

pub invariant_of-result : goal.invariant_of-result
invariant_of-result c =
    (ap length c.in_ok-main.ensures ∙ length-zeros 0x200000, ap length c.in_ok-scratchpad.ensures ∙ length-zeros 0x400, ap length c.in_ok-rom.ensures.items ∙ c.requires)

pub returns : goal.returns
returns c = reset_is c.in_ok-main.main.items c.in_ok-scratchpad.scratchpad.items c.in_ok-rom.rom.items c.args.rom.now c.in_ok-main.ensures c.in_ok-scratchpad.ensures c.in_ok-rom.ensures.items
