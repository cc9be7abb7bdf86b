use Rattle.std.proofs.Common.{sym, arith, rules}
use Rattle.std.proofs.lemmas.Bool.Decides.{nat_tests}
use Rattle.psx_ports.proofs.Answering.{answer-other}
use Rattle.psx_ports.proofs.ports.Ports.look.Goals as goal

pub returns-in_default : goal.returns-in_default
returns-in_default c = λ h s.
    sym (answer-other h c.args.at c.requires.counter (search rules) (search rules) (search rules) (grind (arith, nat_tests)) (search rules) (search rules) (search rules) (search rules) (search rules))
