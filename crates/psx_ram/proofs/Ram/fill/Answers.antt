use Rattle.std.proofs.Common.{◌+◌, sym, ap, ◌∙◌}
use Rattle.psx_base.specs.Memory.{Memory, put_byte}
use Rattle.psx_ram.proofs.Bytes.{put_bytes-nil, put_bytes-replicate_more}
use Rattle.psx_ram.proofs.Ram.fill.Goals as goal

pub loop-i-init : goal.loop-i-init
loop-i-init c = sym (put_bytes-nil c.args.self.now c.args.at)

pub loop-i-preserved : goal.loop-i-preserved
loop-i-preserved c =
    c.set_byte.ensures
    ∙ ap (λ (m : Memory). put_byte m (c.args.at + c.loop-i.i) 0) c.loop-i.invariant
    ∙ sym (put_bytes-replicate_more c.args.self.now c.args.at c.loop-i.i 0)
