-- Ports that lag behind the count show the line of the count.
use Rattle.std.proofs.Common.{◌≡◌, ◌≢◌, ◌⊎◌, ℕ, zero, suc, ◌+◌, ◌-◌, ◌^◌, ◌<◌, ◌≤◌, List, refl, sym, ap, subst, inl, inr, arith}
use Rattle.psx_sched.specs.declared.schedule.Entry.{Entry}
use Rattle.psx_ports.specs.History.{History, at_count, line}
use Rattle.psx_ports.specs.Stands.{KeptPorts, StandsFor}
use Rattle.psx_ports.proofs.Deadlines.{line-stays}
use Rattle.psx_board.specs.Devices.{KeptDevices, Carries}

line-by : (d : KeptDevices) (h : History) (rest : List Entry) → Carries d h rest → (h.now < d.ports.deadline) ⊎ (d.ports.now ≡ h.now) → line (at_count h d.ports.now) ≡ line h
line-by d h rest c (inl early) = sym (line-stays d.ports (at_count h d.ports.now) h.now c.ports c.past early)
line-by d h rest c (inr same) = ap (λ (n : ℕ). line (at_count h n)) same

pub line-carried : (d : KeptDevices) (h : History) (rest : List Entry) → Carries d h rest → line (at_count h d.ports.now) ≡ line h
line-carried d h rest c = line-by d h rest c c.quiet

-- ports that were ticked to the count stand for the history
pub ticked_to : (old : KeptPorts) (h : History) (count : ℕ) (new : KeptPorts) → StandsFor old (at_count h old.now) → count ≡ h.now → ((g : History) → StandsFor old g → StandsFor new (at_count g count)) → StandsFor new h
ticked_to old h count new s c tick = subst (λ (n : ℕ). StandsFor new (at_count h n)) c (tick (at_count h old.now) s)

pub ticked : (d : KeptDevices) (h : History) (rest : List Entry) (new : KeptPorts) → Carries d h rest → ((g : History) → StandsFor d.ports g → StandsFor new (at_count g d.count)) → StandsFor new h
ticked d h rest new c tick = ticked_to d.ports h d.count new c.ports c.counted tick

-- ports that stand for the history at its count carry it
pub carried : (d : KeptDevices) (h : History) (rest : List Entry) → StandsFor d.ports h → d.count ≡ h.now → d.waiting ≡ rest → Carries d h rest
carried d h rest s c w = record {
  ports = subst (λ (n : ℕ). StandsFor d.ports (at_count h n)) (sym s.now) s;
  past = let e : d.ports.now ≡ h.now = s.now in omega (arith, e);
  quiet = inr s.now;
  counted = c;
  waiting = w;
}

-- ports before whose deadline a step is counted
pub carries_on : (d : KeptDevices) (h : History) (rest : List Entry) (count : ℕ) → Carries d h rest → count ≡ h.now + 1 → count < d.ports.deadline → Carries (record d { count = count }) (at_count h (h.now + 1)) rest
carries_on d h rest count c is early = record {
  ports = c.ports;
  past = omega (arith, c.past);
  quiet = inl (omega (arith, is, early));
  counted = is;
  waiting = c.waiting;
}

-- a count that isn't the last, before a next count that isn't the coming one
pub counts_on : (next left count : ℕ) → count ≡ next - left → left ≤ next → (left ≡ 0 → next ≡ 2 ^ 64 - 1) → count < 2 ^ 64 - 1 → left ≢ 1 → 1 < left
counts_on next zero count is within last small other = absurd (omega (arith, is, last refl, small))
counts_on next (suc zero) count is within last small other = absurd (other refl)
counts_on next (suc (suc left)) count is within last small other = omega arith
