use Rattle.std.proofs.Common.{◌-◌, arith, ap, ◌∙◌}
use Rattle.psx_base.specs.Memory.{Memory, put_byte}
use Rattle.psx_ram.proofs.Parts.{set_main, set_scratchpad}
use Rattle.psx_ram.proofs.Ram.set_byte.Goals as goal

pub returns-then-at-lt2097152 : goal.returns-then-at-lt2097152
returns-then-at-lt2097152 c =
    let a = c.self.inside in
    set_main a.main.items a.scratchpad.items a.rom.items c.args.at c.args.value (omega arith) (omega arith)
    ∙ ap (λ (m : Memory). put_byte m c.args.at c.args.value) c.self.view_is

pub returns-else-at-lt2097152 : goal.returns-else-at-lt2097152
returns-else-at-lt2097152 c =
    let a = c.self.inside in
    set_scratchpad a.main.items a.scratchpad.items a.rom.items (c.args.at - 0x1F800000) c.args.at c.args.value (omega arith) (grind arith) (grind arith)
    ∙ ap (λ (m : Memory). put_byte m c.args.at c.args.value) c.self.view_is
