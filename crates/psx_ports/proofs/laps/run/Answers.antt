use Rattle.std.proofs.Common.{◌≡◌, ◌+◌, ◌-◌, ◌%◌, sym, ap, ◌∙◌, arith}
use Rattle.psx_ports.specs.Laps.{top_of}
use Rattle.psx_ports.proofs.Reckoning.{lap-first, lap-later, top-above}
use Rattle.psx_ports.proofs.laps.run.Goals as goal

pub returns-then-turns-left-clause-value : goal.returns-then-turns-left-clause-value
returns-then-turns-left-clause-value c =
    let high = top-above c.args.value c.args.limit (omega arith) in
    sym (lap-first c.args.value c.args.limit c.args.turns (omega arith))

pub returns-else-turns-left-clause-value : goal.returns-else-turns-left-clause-value
returns-else-turns-left-clause-value c =
    let high = top-above c.args.value c.args.limit (omega arith) in
    let e : c.args.turns - (c.top.result - c.args.value) - 1 ≡ c.args.value + c.args.turns - (top_of c.args.value c.args.limit + 1) = omega arith in
    ap (λ n. n % (c.args.limit + 1)) e ∙ sym (lap-later c.args.value c.args.limit c.args.turns (omega arith))
