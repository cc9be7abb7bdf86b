use Rattle.std.proofs.Common.{◌≡◌, None, sym, ap, subst, ◌∙◌}
use Rattle.psx_base.specs.Context.{settle}
use Rattle.psx_cpu.specs.Processor.{Processor}
use Rattle.psx_cpu.specs.Views.{registers_of}
use Rattle.psx_cpu.specs.Changes.{with_value}
use Rattle.psx_cpu.proofs.Pending.{settled-coming}
use Rattle.psx_cpu.proofs.cpu.Cpu.settle.Goals as goal

-- with none pending
abbrev bare : Processor → Processor
bare p = record p { context = record p.context { pending = None } }

pub returns : goal.returns
returns c =
    let a = c.put.inside in
    let Settles : Processor → Type 0 = λ p. bare (record p { context = with_value p.context a.pending a.pending_value }) ≡ record p { context = settle p.context } in
    ap bare (c.self.view_is ∙ c.put-2.ensures)
    ∙ subst Settles c.put.view_is (λ i. record {
      context = record { regs = sym (settled-coming (registers_of a.regs a.hi a.lo) a.pending a.pending_value) i; pending = None; pc = a.pc; next = a.next_pc; in_slot = a.in_slot };
      cop0 = record { sr = a.sr; cause = a.cause; epc = a.epc; bad_address = a.bad_address };
      latch = a.latch;
    })
