-- Ranges of addresses that have nothing in common.
use Rattle.std.specs.Prelude.{ℕ, ◌+◌, Bool, ◌||◌, nat_le}

-- whether len bytes from a on and size bytes from b on have none in common
abbrev pub apart : ℕ → ℕ → ℕ → ℕ → Bool
apart a len b size = nat_le (a + len) b || nat_le (b + size) a
