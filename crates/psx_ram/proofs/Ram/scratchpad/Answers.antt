use Rattle.std.proofs.Common.{◌+◌, ℕ, List, get_or, refl, arith, sym, ap, ◌∙◌}
use Rattle.psx_base.specs.Memory.{Memory, byte}
use Rattle.psx_ram.proofs.Parts.{byte_scratchpad}
use Rattle.psx_ram.proofs.Ram.scratchpad.Goals as goal

pub returns-clause-bytes : goal.returns-clause-bytes
returns-clause-bytes c k h =
    let a = c.self.inside in
    ap (λ (xs : List ℕ). get_or xs k 0) c.deref.ensures.value
    ∙ sym (byte_scratchpad a.main.items a.scratchpad.items a.rom.items (0x1F800000 + k) k (omega arith) refl (omega arith))
    ∙ ap (λ (m : Memory). byte m (0x1F800000 + k)) c.self.view_is
