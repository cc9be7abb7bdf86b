-- A counter's values as laps: it goes on to the top of its first lap, and then again and again from 0 to its limit.
use Rattle.std.specs.Prelude.{◌≡◌, ◌≢◌, ℕ, ◌+◌, ◌-◌, ◌%◌, ◌^◌, ◌≤◌, ◌<◌, true, false, nat_le, if◌then◌else◌}
use Rattle.psx_ports.specs.Counter.{Setting, resets, meets}

abbrev pub limit_of : Setting → ℕ
limit_of s = if resets s then s.target else 0xFFFF

-- the last value of the first lap: one behind the limit goes on to FFFFh
abbrev pub top_of : ℕ → ℕ → ℕ
top_of value limit = if nat_le value limit then limit else 0xFFFF

-- the value after k turns
unfoldable pub lap : ℕ → ℕ → ℕ → ℕ
lap value limit k = if nat_le (value + k) (top_of value limit) then value + k else (value + k - (top_of value limit + 1)) % (limit + 1)

-- after d turns the value is x, for the first time
pub record IsFirst (value limit x d : ℕ) : Type 0 where
  pub positive : 0 < d
  pub small : d ≤ 2 ^ 17
  pub there : lap value limit d ≡ x
  pub not_before : (k : ℕ) → 0 < k → k < d → lap value limit k ≢ x

-- the value is never x again
abbrev pub IsNever : ℕ → ℕ → ℕ → Type 0
IsNever value limit x = (k : ℕ) → 0 < k → lap value limit k ≢ x

-- a turn at count n is the first that brings the value to x
pub record IsFirstMeeting (t : ℕ) (s : Setting) (x n : ℕ) : Type 0 where
  pub later : s.since < n
  pub there : meets t s x n ≡ true
  pub not_before : (m : ℕ) → s.since < m → m < n → meets t s x m ≡ false
