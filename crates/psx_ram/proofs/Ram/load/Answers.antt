use Rattle.std.proofs.Common.{◌+◌, get_or, arith, sym, ap, ◌∙◌}
use Rattle.psx_base.specs.Memory.{Memory, put_byte}
use Rattle.psx_ram.proofs.Bytes.{put_bytes-nil, put_bytes-take_more}
use Rattle.psx_ram.proofs.Ram.load.Goals as goal

pub loop-i-init : goal.loop-i-init
loop-i-init c = sym (put_bytes-nil c.args.self.now c.args.at)

pub loop-i-preserved : goal.loop-i-preserved
loop-i-preserved c =
    c.set_byte.ensures
    ∙ ap (λ (m : Memory). put_byte m (c.args.at + c.loop-i.i) (get_or c.args.bytes.now c.loop-i.i 0)) c.loop-i.invariant
    ∙ sym (put_bytes-take_more c.args.self.now c.args.at c.args.bytes.now c.loop-i.i (omega arith))
