-- A counter that keeps no accesses, and that it follows a list of them.
use Rattle.std.specs.Prelude.{◌≡◌, ℕ, ◌-◌, ◌≤◌, ◌<◌, Bool, false, not, ◌&&◌, ◌||◌, List, [], ◌∷◌}
use Rattle.psx_ports.specs.Counter.{Setting, Act, time, bit, happens, value_at, setting, meets_target, meets_top, asks, reached_target, reached_top, asked}

-- what a counter keeps: its number, its setting as of its last access, whether up to then the target and FFFFh were reached and an interrupt was asked for, and a count before which it raises nothing
pub record KeptCounter : Type 0 where
  pub number : ℕ
  pub setting : Setting
  pub target : Bool
  pub top : Bool
  pub asked : Bool
  pub next : ℕ

-- a turn that raises the line, by what the counter keeps
unfoldable pub raises_line : KeptCounter → ℕ → Bool
raises_line k count = asks k.number k.setting count && (bit k.setting.mode 6 || not (k.asked || happens (asks k.number k.setting) k.setting.since (count - 1)))

-- the count of the last access, or 0
abbrev pub last_time : List Act → ℕ
last_time [] = 0
last_time (act ∷ before) = time act

-- the registers are those of the accesses, now and at each later count, and nothing was raised since the setting
pub record Follows (k : KeptCounter) (acts : List Act) (now : ℕ) : Type 0 where
  pub latest : last_time acts ≤ now
  pub since : k.setting.since ≤ now
  pub mode : k.setting.mode ≡ (setting k.number acts).mode
  pub target : k.setting.target ≡ (setting k.number acts).target
  pub value : (n : ℕ) → now ≤ n → value_at k.number k.setting n ≡ value_at k.number (setting k.number acts) n
  pub reached_target : (n : ℕ) → now ≤ n → (k.target || happens (meets_target k.number k.setting) k.setting.since n) ≡ reached_target k.number acts n
  pub reached_top : (n : ℕ) → now ≤ n → (k.top || happens (meets_top k.number k.setting) k.setting.since n) ≡ reached_top k.number acts n
  pub asked : (n : ℕ) → now ≤ n → (k.asked || happens (asks k.number k.setting) k.setting.since n) ≡ asked k.number acts n
  pub quiet : (n : ℕ) → k.setting.since < n → n ≤ now → raises_line k n ≡ false

-- nothing is raised before the next count that it keeps
pub record IsAhead (k : KeptCounter) : Type 0 where
  pub quiet : (n : ℕ) → k.setting.since < n → n < k.next → raises_line k n ≡ false
