-- The devices as the board keeps them: the ports, which may lag behind the count while nothing happens, and the rest of the schedule.
use Rattle.std.specs.Prelude.{◌≡◌, ◌⊎◌, ℕ, ◌+◌, ◌-◌, ◌^◌, ◌<◌, ◌≤◌, List, [], ◌∷◌, length}
use Rattle.psx_sched.specs.declared.schedule.Entry.{Entry}
use Rattle.psx_ports.specs.History.{History, at_count}
use Rattle.psx_ports.specs.Stands.{KeptPorts, StandsFor}

-- the ports, the entries to come, and the count of finished steps
pub record KeptDevices : Type 0 where
  pub ports : KeptPorts
  pub waiting : List Entry
  pub count : ℕ

-- The ports stand for the history as it was at their last tick, since which nothing has happened to a line.
pub record Carries (d : KeptDevices) (h : History) (rest : List Entry) : Type 0 where
  pub ports : StandsFor d.ports (at_count h d.ports.now)
  pub past : d.ports.now ≤ h.now
  pub quiet : (h.now < d.ports.deadline) ⊎ (d.ports.now ≡ h.now)
  pub counted : d.count ≡ h.now
  pub waiting : d.waiting ≡ rest

-- no entry is due before this count
abbrev pub NotBefore : ℕ → List Entry → Type 0
NotBefore next [] = Unit {0}
NotBefore next (e ∷ es) = next ≤ e.count

-- So many steps are left to the next count, none at the last count alone. Before it nothing happens, unless it is the coming one;
-- and there is room in the console's queue for each byte to come.
pub record IsPlanned (d : KeptDevices) (next left : ℕ) : Type 0 where
  pub within : left ≤ next
  pub last : left ≡ 0 → next ≡ 2 ^ 64 - 1
  pub past : d.ports.now ≤ d.count
  pub deadline : 1 < left → next ≤ d.ports.deadline
  pub entries : 1 < left → NotBefore next d.waiting
  pub room : length d.ports.console + length d.waiting ≤ 65536
