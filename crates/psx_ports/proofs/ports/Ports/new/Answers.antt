use Rattle.std.proofs.Common.{◌≡◌, refl, sym, ap, subst, arith}
use Rattle.std.specs.Prelude.{not, nat_eq, bit_and}
use Rattle.psx_ports.specs.declared.interrupts.Interrupts.{Interrupts}
use Rattle.psx_ports.specs.Counter.{happens}
use Rattle.psx_ports.specs.History.{i_stat}
use Rattle.psx_ports.proofs.ports.Ports.new.Goals as goal

pub returns : goal.returns
unfolding i_stat happens
returns c =
    let zero = c.new-2.ensures in
    record {
      given = refl;
      a = refl;
      b = refl;
      c = refl;
      console = c.in_ok-new.ensures;
      pending = ap (λ (i : Interrupts). i.pending) zero;
      mask = ap (λ (i : Interrupts). i.mask) zero;
      line = subst (λ (i : Interrupts). i.line ≡ not (nat_eq (bit_and i.pending i.mask) 0)) (sym zero) refl;
      counters = c.new-counters.ensures;
      now = refl;
      latest = omega arith;
      deadline = c.next-deadline.ensures;
    }
