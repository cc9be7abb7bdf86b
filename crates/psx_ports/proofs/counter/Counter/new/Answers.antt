use Rattle.std.proofs.Common.{refl, arith}
use Rattle.psx_ports.specs.Counter.{setting, since_last, asks}
use Rattle.psx_ports.specs.KeptCounter.{raises_line}
use Rattle.psx_ports.proofs.counter.Counter.new.Goals as goal

pub returns-clause-follows : goal.returns-clause-follows
unfolding setting since_last
returns-clause-follows c = record {
  latest = omega arith;
  since = omega arith;
  mode = refl;
  target = refl;
  value = λ n h. refl;
  reached_target = λ n h. refl;
  reached_top = λ n h. refl;
  asked = λ n h. refl;
  quiet = λ n a b. absurd (omega arith);
}

pub returns-clause-ahead : goal.returns-clause-ahead
unfolding raises_line asks
returns-clause-ahead c = record { quiet = λ n a b. refl }
