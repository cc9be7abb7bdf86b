-- Until the deadline no count changes the interrupt line.
use Rattle.std.proofs.Common.{◌≡◌, ℕ, ◌-◌, ◌^◌, ◌≤◌, ◌<◌, ap, arith}
use Rattle.std.specs.Prelude.{not, nat_eq, bit_and}
use Rattle.psx_ports.specs.History.{History, at_count, i_mask, line}
use Rattle.psx_ports.specs.Stands.{KeptPorts, StandsFor}
use Rattle.psx_ports.proofs.Standing.{stat-before}

pub line-stays : (k : KeptPorts) (h : History) (n : ℕ) → StandsFor k h → h.now ≤ n → n < k.deadline → line (at_count h n) ≡ line h
unfolding line
line-stays k h n s a b = ap (λ stat. not (nat_eq (bit_and stat (i_mask h)) 0)) (stat-before k h n s a b)

pub deadline-later : (k : KeptPorts) (h : History) → StandsFor k h → k.now < 2 ^ 64 - 1 → k.now < k.deadline
deadline-later k h s l =
    let zero = s.counters.zero.later (omega (arith, s.now)) in
    let one = s.counters.one.later (omega (arith, s.now)) in
    let two = s.counters.two.later (omega (arith, s.now)) in
    omega (arith, s.now, s.deadline)
