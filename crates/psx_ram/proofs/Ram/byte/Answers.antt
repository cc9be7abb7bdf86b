use Rattle.std.proofs.Common.{◌<◌, ◌-◌, length, arith, sym, ap, ◌∙◌}
use Rattle.std.proofs.lemmas.List.{get_or_default}
use Rattle.psx_base.specs.Memory.{Memory, byte}
use Rattle.psx_ram.proofs.Parts.{byte_main, byte_scratchpad, byte_rom}
use Rattle.psx_ram.proofs.Ram.byte.Goals as goal

pub returns-then-at-lt2097152 : goal.returns-then-at-lt2097152
returns-then-at-lt2097152 c =
    let a = c.self.inside in
    let within : c.args.at < length a.main.items = grind arith in
    c.index.ensures ∙ get_or_default a.main.items c.args.at c.index.result.now 0 within
    ∙ sym (byte_main a.main.items a.scratchpad.items a.rom.items c.args.at (omega arith) within)
    ∙ ap (λ (m : Memory). byte m c.args.at) c.self.view_is

pub returns-then-at-lt528483328 : goal.returns-then-at-lt528483328
returns-then-at-lt528483328 c =
    let a = c.self.inside in
    let i = c.args.at - 0x1F800000 in
    let within : i < length a.scratchpad.items = grind arith in
    c.index-then-at-lt528483328.ensures ∙ get_or_default a.scratchpad.items i c.index-then-at-lt528483328.result.now 0 within
    ∙ sym (byte_scratchpad a.main.items a.scratchpad.items a.rom.items c.args.at i (omega arith) (grind arith) within)
    ∙ ap (λ (m : Memory). byte m c.args.at) c.self.view_is

pub returns-else-at-lt528483328 : goal.returns-else-at-lt528483328
returns-else-at-lt528483328 c =
    let a = c.self.inside in
    let i = c.args.at - 0x1FC00000 in
    let within : i < length a.rom.items = grind arith in
    c.index-else-at-lt528483328.ensures ∙ get_or_default a.rom.items i c.index-else-at-lt528483328.result.now 0 within
    ∙ sym (byte_rom a.main.items a.scratchpad.items a.rom.items c.args.at i (grind arith) within)
    ∙ ap (λ (m : Memory). byte m c.args.at) c.self.view_is
