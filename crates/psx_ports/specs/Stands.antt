-- That ports, which keep no history, stand for one.
use Rattle.std.specs.Prelude.{◌≡◌, ℕ, ◌-◌, ◌^◌, ◌≤◌, ◌<◌, not, nat_eq, bit_and, min, List, [], ◌∷◌}
use Rattle.psx_base.specs.Ports.{HALT_A, HALT_B, HALT_C}
use Rattle.psx_ports.specs.declared.interrupts.Interrupts.{Interrupts}
use Rattle.psx_ports.specs.KeptCounter.{KeptCounter, Follows, IsAhead}
use Rattle.psx_ports.specs.History.{Given, History, Event, moment, last_written, acts_of, i_stat, i_mask, line, at_count, due}

-- ---- the counters

-- the three counters
pub record KeptCounters : Type 0 where
  pub zero : KeptCounter
  pub one : KeptCounter
  pub two : KeptCounter

-- no setting is later than a count
pub record AreSince (k : KeptCounters) (count : ℕ) : Type 0 where
  pub zero : k.zero.setting.since ≤ count
  pub one : k.one.setting.since ≤ count
  pub two : k.two.setting.since ≤ count

-- counter t stands for the accesses among the events
pub record CounterStands (t : ℕ) (k : KeptCounter) (events : List Event) (now : ℕ) : Type 0 where
  pub number : k.number ≡ t
  pub follows : Follows k (acts_of t events) now
  pub ahead : IsAhead k
  pub later : now < 2 ^ 64 - 1 → now < k.next

-- and so do all three
pub record CountersStand (k : KeptCounters) (events : List Event) (now : ℕ) : Type 0 where
  pub zero : CounterStands 0 k.zero events now
  pub one : CounterStands 1 k.one events now
  pub two : CounterStands 2 k.two events now

-- ---- all ports

-- what the ports keep. No counter changes the interrupt line before the deadline, which is 2^64 - 1 where none is known to
pub record KeptPorts : Type 0 where
  pub given : Given
  pub a : ℕ
  pub b : ℕ
  pub c : ℕ
  pub console : List ℕ
  pub interrupts : Interrupts
  pub counters : KeptCounters
  pub now : ℕ
  pub deadline : ℕ

-- the count of the last event, or 0
abbrev pub last_moment : List Event → ℕ
last_moment [] = 0
last_moment (event ∷ before) = moment event

-- the least of the counts before which a counter raises nothing
abbrev pub least_next : KeptCounters → ℕ
least_next k = min k.zero.next (min k.one.next k.two.next)

-- the ports answer as the history says, now and later
pub record StandsFor (kept : KeptPorts) (h : History) : Type 0 where
  pub given : kept.given ≡ h.given
  pub a : kept.a ≡ last_written h.events HALT_A
  pub b : kept.b ≡ last_written h.events HALT_B
  pub c : kept.c ≡ last_written h.events HALT_C
  pub console : kept.console ≡ due h.events
  pub pending : kept.interrupts.pending ≡ i_stat h
  pub mask : kept.interrupts.mask ≡ i_mask h
  pub line : kept.interrupts.line ≡ not (nat_eq (bit_and kept.interrupts.pending kept.interrupts.mask) 0)
  pub counters : CountersStand kept.counters h.events h.now
  pub now : kept.now ≡ h.now
  pub latest : last_moment h.events ≤ h.now
  pub deadline : kept.deadline ≡ least_next kept.counters

-- before the deadline no count changes the line
abbrev pub LineStays : Type 0
LineStays = (k : KeptPorts) (h : History) (n : ℕ) → StandsFor k h → h.now ≤ n → n < k.deadline → line (at_count h n) ≡ line h

-- the deadline is later than the last tick
abbrev pub DeadlineIsLater : Type 0
DeadlineIsLater = (k : KeptPorts) (h : History) → StandsFor k h → k.now < 2 ^ 64 - 1 → k.now < k.deadline
