use Rattle.std.proofs.Common.{◌≡◌, true, false, arith}
use Rattle.std.specs.Prelude.{nat_eq, nat_le, ◌&&◌}
use Rattle.std.proofs.lemmas.Bool.{ne_eqb}
use Rattle.psx_base.specs.declared.ports.TheConstants.{CONSOLE_DATA, CONSOLE_STATUS, HALT}
use Rattle.psxk_run.proofs.Tellings.{tells-none}
use Rattle.psxk_run.proofs.lines.Lines.write.Goals as goal

pub returns-then-at-le-HALT-clause-tells : goal.returns-then-at-le-HALT-clause-tells
returns-then-at-le-HALT-clause-tells g c =
    let apart : nat_eq c.args.at CONSOLE_DATA ≡ false = ne_eqb c.args.at CONSOLE_DATA c.if-at-eq-CONSOLE_DATA.false in
    let among : (nat_le CONSOLE_STATUS c.args.at && nat_le c.args.at HALT) ≡ true = grind arith in
    rw (apart, among) (tells-none _ _ _)
