use Rattle.std.proofs.Common.{◌-◌, ℕ, List, arith, ap, ◌∙◌}
use Rattle.psx_base.specs.Memory.{Memory, word}
use Rattle.psx_ram.specs.Words.{word_at}
use Rattle.psx_ram.proofs.Parts.{word_main, word_scratchpad, word_rom}
use Rattle.psx_ram.proofs.Ram.word.Goals as goal

pub returns-then-at-lt2097152 : goal.returns-then-at-lt2097152
returns-then-at-lt2097152 c =
    let a = c.self.inside in
    c.word_in.ensures ∙ ap (λ (xs : List ℕ). word_at xs c.args.at) c.deref.ensures.value
    ∙ word_main a.main.items a.scratchpad.items a.rom.items c.args.at (omega arith) (grind arith)
    ∙ ap (λ (m : Memory). word m c.args.at) c.self.view_is

pub returns-then-at-lt528483328 : goal.returns-then-at-lt528483328
returns-then-at-lt528483328 c =
    let a = c.self.inside in
    let i = c.args.at - 0x1F800000 in
    c.word_in-then-at-lt528483328.ensures ∙ ap (λ (xs : List ℕ). word_at xs i) c.deref-then-at-lt528483328.ensures.value
    ∙ word_scratchpad a.main.items a.scratchpad.items a.rom.items c.args.at i (omega arith) (grind arith) (grind arith)
    ∙ ap (λ (m : Memory). word m c.args.at) c.self.view_is

pub returns-else-at-lt528483328 : goal.returns-else-at-lt528483328
returns-else-at-lt528483328 c =
    let a = c.self.inside in
    let i = c.args.at - 0x1FC00000 in
    c.word_in-else-at-lt528483328.ensures ∙ ap (λ (xs : List ℕ). word_at xs i) c.deref-else-at-lt528483328.ensures.value
    ∙ word_rom a.main.items a.scratchpad.items a.rom.items c.args.at i (grind arith) (grind arith)
    ∙ ap (λ (m : Memory). word m c.args.at) c.self.view_is
