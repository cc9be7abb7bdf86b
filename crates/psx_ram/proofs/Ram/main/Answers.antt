use Rattle.std.proofs.Common.{ℕ, List, get_or, arith, sym, ap, ◌∙◌}
use Rattle.psx_base.specs.Memory.{Memory, byte}
use Rattle.psx_ram.proofs.Parts.{byte_main}
use Rattle.psx_ram.proofs.Ram.main.Goals as goal

pub returns-clause-bytes : goal.returns-clause-bytes
returns-clause-bytes c k h =
    let a = c.self.inside in
    ap (λ (xs : List ℕ). get_or xs k 0) c.deref.ensures.value
    ∙ sym (byte_main a.main.items a.scratchpad.items a.rom.items k (omega arith) (omega arith))
    ∙ ap (λ (m : Memory). byte m k) c.self.view_is
