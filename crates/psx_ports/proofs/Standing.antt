-- Ports that stand for a history stand for it with an event more, and at a later count.
use Rattle.std.proofs.Common.{◌≡◌, ℕ, zero, suc, ◌≤◌, ◌<◌, false, List, refl, sym, ap₂, subst, ◌∙◌, arith}
use Rattle.std.specs.Prelude.{not, nat_eq, bit_and, bit_or}
use Rattle.psx_ports.specs.Counter.{happens, raises}
use Rattle.psx_ports.specs.KeptCounter.{KeptCounter}
use Rattle.psx_ports.specs.Interrupts.{with_pending}
use Rattle.psx_ports.specs.History.{History, Event, at_count, acts_of, turned, word_of, i_stat, line}
use Rattle.psx_ports.specs.Stands.{KeptPorts, KeptCounters, StandsFor, CounterStands, CountersStand, least_next}
use Rattle.psx_ports.proofs.Following.{follows-later, nothing-raised}
use Rattle.psx_ports.proofs.Pending.{stat-later, stat-stays}

-- ---- a later count

counter-quiet : (t : ℕ) (k : KeptCounter) (events : List Event) (now n : ℕ) → CounterStands t k events now → n < k.next → happens (raises t (acts_of t events)) now n ≡ false
counter-quiet t k events now n s h =
    subst (λ t'. happens (raises t' (acts_of t events)) now n ≡ false) s.number (nothing-raised k (acts_of t events) now n s.follows s.ahead h)

quiet : (k : KeptCounters) (events : List Event) (now n : ℕ) → CountersStand k events now → n < least_next k → (t : ℕ) → t ≤ 2 → happens (raises t (acts_of t events)) now n ≡ false
quiet k events now n s h zero l = counter-quiet 0 k.zero events now n s.zero (omega arith)
quiet k events now n s h (suc zero) l = counter-quiet 1 k.one events now n s.one (omega arith)
quiet k events now n s h (suc (suc zero)) l = counter-quiet 2 k.two events now n s.two (omega arith)
quiet k events now n s h (suc (suc (suc t))) l = absurd (omega arith)

counter-later : (t : ℕ) (k : KeptCounter) (events : List Event) (now n : ℕ) → CounterStands t k events now → now ≤ n → n < k.next → CounterStands t k events n
counter-later t k events now n s h l = record { number = s.number; follows = follows-later k (acts_of t events) now n s.follows s.ahead h l; ahead = s.ahead; later = λ a. l }

-- before the deadline no line is raised
pub stat-before : (k : KeptPorts) (h : History) (n : ℕ) → StandsFor k h → h.now ≤ n → n < k.deadline → i_stat (at_count h n) ≡ i_stat h
stat-before k h n s a b = stat-stays h n s.latest a (quiet k.counters h.events h.now n s.counters (omega (arith, s.deadline)))

pub stands-before : (k : KeptPorts) (h : History) (n : ℕ) → StandsFor k h → h.now ≤ n → n < k.deadline → StandsFor (record k { now = n }) (at_count h n)
stands-before k h n s a b = record {
  given = s.given;
  a = s.a;
  b = s.b;
  c = s.c;
  console = s.console;
  pending = s.pending ∙ sym (stat-before k h n s a b);
  mask = s.mask;
  line = s.line;
  counters = record {
    zero = counter-later 0 k.counters.zero h.events h.now n s.counters.zero a (omega (arith, s.deadline));
    one = counter-later 1 k.counters.one h.events h.now n s.counters.one a (omega (arith, s.deadline));
    two = counter-later 2 k.counters.two h.events h.now n s.counters.two a (omega (arith, s.deadline));
  };
  now = refl;
  latest = omega (arith, s.latest);
  deadline = s.deadline;
}

-- the turns up to a count that isn't before it
pub stands-passed : (k : KeptPorts) (h : History) (n lines deadline : ℕ) (counters : KeptCounters) → StandsFor k h → h.now ≤ n
    → lines ≡ word_of (λ m. turned m h.events h.now n) 11 → CountersStand counters h.events n → deadline ≡ least_next counters
    → StandsFor (record k { counters = counters; interrupts = with_pending k.interrupts (bit_or k.interrupts.pending lines); now = n; deadline = deadline }) (at_count h n)
stands-passed k h n lines deadline counters s a is stands least = record {
  given = s.given;
  a = s.a;
  b = s.b;
  c = s.c;
  console = s.console;
  pending = ap₂ bit_or s.pending is ∙ sym (stat-later h n s.latest a);
  mask = s.mask;
  line = refl;
  counters = stands;
  now = refl;
  latest = omega (arith, s.latest);
  deadline = least;
}

-- the line is the one of the history
pub line-kept : (k : KeptPorts) (h : History) → StandsFor k h → k.interrupts.line ≡ line h
unfolding line
line-kept k h s = s.line ∙ ap₂ (λ stat mask. not (nat_eq (bit_and stat mask) 0)) s.pending s.mask
