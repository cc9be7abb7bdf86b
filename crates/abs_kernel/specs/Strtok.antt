-- strtok (PSX-SPX, Kernel (BIOS), String functions: strtok). A pointer 0 to the set answers 0 and touches nothing.
use Rattle.std.specs.Prelude.{ℕ, ◌%◌, ◌^◌, true, false, ◌||◌, nat_eq, if◌then◌else◌}
use Rattle.psx_base.specs.KernelState.{KernelState}
use Rattle.abs_kernel.specs.Stay.{Stay}
use Rattle.abs_kernel.specs.Answered.{registers_of, answered}
use Rattle.abs_kernel.specs.UserBytes.{writes_byte, following, longest}
use Rattle.abs_kernel.specs.ByteSets.{skips}

-- the state with another place
abbrev pub with_place : KernelState → ℕ → KernelState
with_place s at = record s { token = at }

-- Bytes in set are skipped. The token's first byte is known not to be in it. The byte in set that ends the token becomes 0, and the place is behind it; where a zero ends all, the place is 0.
abbrev pub next_token : KernelState → (set at : ℕ) → Stay
next_token s set at = skips true longest s set at (λ ended start.
    if ended then answered (with_place s 0) 0 else skips false longest s set (following start) (λ ended end.
    if ended then answered (with_place s 0) start else writes_byte s end 0 (λ t. answered (with_place t (following end)) start)))

-- strtok(s, set) answers the next token from s on, or where s is 0 from the kept place on, which is a word; a place 0 answers 0
abbrev pub strtok : KernelState → Stay
strtok s =
    let r = registers_of s in
    let from = if nat_eq r.r4 0 then s.token % 2 ^ 32 else r.r4 in
    if nat_eq r.r5 0 || nat_eq from 0 then answered s 0 else next_token s r.r5 from
