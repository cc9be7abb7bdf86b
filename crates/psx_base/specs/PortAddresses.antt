-- Which physical addresses are ports.
use Rattle.std.specs.Prelude.{ℕ, ◌+◌, ◌%◌, Bool, ◌&&◌, ◌||◌, nat_eq, nat_le}
use Rattle.psx_base.specs.Ports.{I_STAT, I_MASK, COUNTERS, CONSOLE_STATUS, START_EVENTS}

-- the value, mode and target of the three root counters
abbrev pub counter_port : ℕ → Bool
counter_port p = (nat_le COUNTERS p && nat_le p (COUNTERS + 0x28)) && (nat_le (p % 16) 8 && nat_eq (p % 4) 0)

-- whether a physical address is a port's
unfoldable pub port : ℕ → Bool
port p = (nat_eq p I_STAT || nat_eq p I_MASK) || (counter_port p || ((nat_le CONSOLE_STATUS p && nat_le p START_EVENTS) && nat_eq (p % 4) 0))
