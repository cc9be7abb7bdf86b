-- The first of a range of addresses that isn't user memory.
use Rattle.std.specs.Prelude.{ℕ, zero, suc, ◌+◌, ◌*◌, ◌%◌, ◌^◌, Option, Some, None, nat_lt, if◌then◌else◌}
use Rattle.psx_base.specs.Addresses.{user, low, top}

-- the first of so many addresses from one on, modulo 2 ^ 32, that isn't user memory
abbrev pub first_bad_of : ℕ → ℕ → Option ℕ
first_bad_of at zero = None
first_bad_of at (suc count) = if user at then first_bad_of ((at + 1) % 2 ^ 32) count else Some at

-- the address behind the range of user memory that an address stands in
abbrev pub end_of : ℕ → ℕ
end_of at = top at * 2 ^ 29 + (if nat_lt (low at) 0x200000 then 0x200000 else 0x1F800400)
