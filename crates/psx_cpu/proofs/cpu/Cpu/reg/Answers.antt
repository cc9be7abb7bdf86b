use Rattle.std.proofs.Common.{sym, ap, ◌∙◌}
use Rattle.psx_base.specs.Registers.{register}
use Rattle.psx_cpu.specs.Processor.{Processor}
use Rattle.psx_cpu.proofs.Views.{register-registers_of}
use Rattle.psx_cpu.proofs.cpu.Cpu.reg.Goals as goal

pub returns : goal.returns
returns c =
    let a = c.self.inside in
    sym (register-registers_of a.regs a.hi a.lo c.args.n.0 c.self.invariant.zero c.requires)
    ∙ ap (λ (p : Processor). register p.context.regs c.args.n.0) c.self.view_is
