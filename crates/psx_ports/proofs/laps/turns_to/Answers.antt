use Rattle.std.proofs.Common.{◌+◌, ◌-◌, ◌<◌, sym, subst, arith}
use Rattle.psx_ports.specs.Laps.{top_of, IsFirst}
use Rattle.psx_ports.proofs.Reckoning.{is-first-on, is-first-later, is-never}
use Rattle.psx_ports.proofs.laps.turns_to.Goals.{else-value-x-via-then-value-x+else-x-top, else-value-x-via-else-value-x}
use Rattle.psx_ports.proofs.laps.turns_to.Goals as goal

pub returns-then-x-top-clause-some : goal.returns-then-x-top-clause-some
returns-then-x-top-clause-some c = is-first-on c.args.value c.args.limit c.args.x (omega arith) (omega arith) c.if-value-x.true (omega arith)

pub returns-then-x-limit-clause-some : goal.returns-then-x-limit-clause-some
returns-then-x-limit-clause-some c =
    let past : c.args.value < c.args.x → top_of c.args.value c.args.limit < c.args.x = elim c.else-value-x.branch [
      | else-value-x-via-then-value-x+else-x-top w ↦ λ h. omega (arith, w.if-x-top.false)
      | else-value-x-via-else-value-x w ↦ λ h. absurd (omega (arith, w.if-value-x.false))
    ] in
    subst (λ t. IsFirst c.args.value c.args.limit c.args.x (t - c.args.value + 1 + c.args.x)) (sym c.top-top.ensures)
    (is-first-later c.args.value c.args.limit c.args.x (omega arith) (omega arith) past (omega arith))

pub returns-else-x-limit-clause-none : goal.returns-else-x-limit-clause-none
returns-else-x-limit-clause-none c =
    let past : c.args.value < c.args.x → top_of c.args.value c.args.limit < c.args.x = elim c.else-value-x.branch [
      | else-value-x-via-then-value-x+else-x-top w ↦ λ h. omega (arith, w.if-x-top.false)
      | else-value-x-via-else-value-x w ↦ λ h. absurd (omega (arith, w.if-value-x.false))
    ] in
    is-never c.args.value c.args.limit c.args.x past c.if-x-limit.false
