-- Where a branch or a jump goes (R3000A manual, jump and branch instructions), by the address of its delay slot. This is the
-- branch's address and 4 as a whole number: behind the last word of the 32 bits it is 2 ^ 32.
use Rattle.std.specs.Prelude.{ℕ, ◌+◌, ◌-◌, ◌*◌, ◌/◌, ◌%◌, ◌^◌, nat_lt, nat_le, Option, Some, None, if◌then◌else◌}

-- the 26 bits of a jump are a word's number in the 256 MB of its slot
abbrev pub jump_target : ℕ → ℕ → ℕ
jump_target slot target = slot % 2 ^ 32 / 2 ^ 28 * 2 ^ 28 + target * 4

-- a branch of 16 bits goes so many words on from its slot, or back where they are negative; none where that passes an end of the 32 bits
abbrev pub branch_target : ℕ → ℕ → Option ℕ
branch_target slot imm =
    if nat_lt imm (2 ^ 15)
    then (if nat_lt (slot + 4 * imm) (2 ^ 32) then Some (slot + 4 * imm) else None)
    else (if nat_le (4 * (2 ^ 16 - imm)) slot then Some (slot - 4 * (2 ^ 16 - imm)) else None)
