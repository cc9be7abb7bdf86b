use Rattle.std.proofs.Common.{◌≡◌, ◌+◌, ◌-◌, ℕ, List, arith, ap, ◌∙◌}
use Rattle.std.proofs.lemmas.List.{with_items_is}
use Rattle.psx_base.specs.Memory.{Memory, put_word}
use Rattle.psx_ram.specs.Parts.{of_parts}
use Rattle.psx_ram.specs.Words.{with_word}
use Rattle.psx_ram.proofs.Parts.{put_word_main, put_word_scratchpad}
use Rattle.psx_ram.proofs.Ram.set_word.Goals as goal

pub returns-then-at-lt2097152 : goal.returns-then-at-lt2097152
returns-then-at-lt2097152 c =
    let a = c.self.inside in
    let written = with_items_is a.main c.set_word_in.new.bytes (c.set_word_in.auto.bytes ∙ c.deref_mut.ensures.len) ∙ c.set_word_in.ensures in
    ap (λ (xs : List ℕ). of_parts xs a.scratchpad.items a.rom.items) written
    ∙ ap (λ (xs : List ℕ). of_parts (with_word xs c.args.at c.args.value) a.scratchpad.items a.rom.items) c.deref_mut.ensures.value
    ∙ put_word_main a.main.items a.scratchpad.items a.rom.items c.args.at c.args.value (omega arith) (grind arith)
    ∙ ap (λ (m : Memory). put_word m c.args.at c.args.value) c.self.view_is

pub returns-else-at-lt2097152 : goal.returns-else-at-lt2097152
returns-else-at-lt2097152 c =
    let a = c.self.inside in
    let i = c.args.at - 0x1F800000 in
    let set_in = c.set_word_in-else-at-lt2097152 in
    let lent = c.deref_mut-else-at-lt2097152 in
    let written = with_items_is a.scratchpad set_in.new.bytes (set_in.auto.bytes ∙ lent.ensures.len) ∙ set_in.ensures in
    let place : 0x1F800000 + i ≡ c.args.at = grind arith in
    ap (λ (xs : List ℕ). of_parts a.main.items xs a.rom.items) written
    ∙ ap (λ (xs : List ℕ). of_parts a.main.items (with_word xs i c.args.value) a.rom.items) lent.ensures.value
    ∙ put_word_scratchpad a.main.items a.scratchpad.items a.rom.items i c.args.value (omega arith) (grind arith)
    ∙ (λ k. put_word (c.self.view_is k) (place k) c.args.value)
