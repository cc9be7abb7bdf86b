-- strcpy (PSX-SPX, Kernel (BIOS), String functions: strcpy). A pointer 0, either of the two, answers 0 and touches nothing.
use Rattle.std.specs.Prelude.{ℕ, zero, suc, ◌%◌, ◌^◌, ◌||◌, nat_eq, if◌then◌else◌}
use Rattle.psx_base.specs.KernelState.{KernelState}
use Rattle.abs_kernel.specs.Stay.{Stay}
use Rattle.abs_kernel.specs.Answered.{registers_of, answered}
use Rattle.abs_kernel.specs.UserBytes.{reads_byte, writes_byte, following, longest}

-- The bytes of a text before its zero are copied one by one, at most n of them, each read as memory is then.
-- Then the stay goes on, by how many of the n didn't come, and where the next byte is to go.
abbrev pub copy_text : (n : ℕ) → KernelState → (to from : ℕ) → (next : (left : ℕ) → KernelState → (to : ℕ) → Stay) → Stay
copy_text zero s to from next = next 0 s to
copy_text (suc n) s to from next = reads_byte s from (λ b. if nat_eq b 0 then next (suc n) s to else writes_byte s to (b % 2 ^ 8) (λ t. copy_text n t (following to) (following from) next))

-- a zero is written behind them, and d is the answer
abbrev pub closes : (d left : ℕ) → KernelState → (to : ℕ) → Stay
closes d left s to = writes_byte s to 0 (λ t. answered t d)

-- strcpy(d, s) copies s with its zero, and answers d
abbrev pub strcpy : KernelState → Stay
strcpy s = let r = registers_of s in if nat_eq r.r4 0 || nat_eq r.r5 0 then answered s 0 else copy_text longest s r.r4 r.r5 (closes r.r4)
