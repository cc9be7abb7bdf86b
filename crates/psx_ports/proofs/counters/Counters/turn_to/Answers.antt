use Rattle.std.proofs.Common.{◌≡◌, ℕ, ◌-◌, ◌^◌, ◌≤◌, ◌<◌, List, ap, sym, subst, ◌∙◌}
use Rattle.psx_ports.specs.Counter.{Act}
use Rattle.psx_ports.specs.History.{Event, acts_of}
use Rattle.psx_ports.specs.KeptCounter.{KeptCounter, Follows, IsAhead}
use Rattle.psx_ports.specs.Stands.{KeptCounters, CounterStands}
use Rattle.psx_ports.proofs.counters.Counters.turn_to.Goals as goal

-- a counter whose turns are made stands for the same events
turned : (t : ℕ) (old k new : KeptCounter) (events : List Event) (m count : ℕ) → k ≡ old → CounterStands t old events m → m ≤ count
    → ((acts : List Act) (m : ℕ) → Follows k acts m → m ≤ count → Follows new acts count) → new.number ≡ k.number → IsAhead new → (count < 2 ^ 64 - 1 → count < new.next)
    → CounterStands t new events count
turned t old k new events m count same s h follows number ahead later = record {
  number = number ∙ ap (λ (k : KeptCounter). k.number) same ∙ s.number;
  follows = follows (acts_of t events) m (subst (λ (k : KeptCounter). Follows k (acts_of t events) m) (sym same) s.follows) h;
  ahead = ahead;
  later = later;
}

pub returns-clause-stands : goal.returns-clause-stands
returns-clause-stands c = λ events m s h.
    let view = c.self.view_is in
    record {
      zero = turned 0 c.args.self.now.zero _ c.turn_to.new.self events m c.args.count (ap (λ (k : KeptCounters). k.zero) view) s.zero h c.turn_to.ensures.follows c.turn_to.ensures.number c.turn_to.ensures.ahead c.turn_to.ensures.later;
      one = turned 1 c.args.self.now.one _ c.turn_to-2.new.self events m c.args.count (ap (λ (k : KeptCounters). k.one) view) s.one h c.turn_to-2.ensures.follows c.turn_to-2.ensures.number c.turn_to-2.ensures.ahead c.turn_to-2.ensures.later;
      two = turned 2 c.args.self.now.two _ c.turn_to-3.new.self events m c.args.count (ap (λ (k : KeptCounters). k.two) view) s.two h c.turn_to-3.ensures.follows c.turn_to-3.ensures.number c.turn_to-3.ensures.ahead c.turn_to-3.ensures.later;
    }
