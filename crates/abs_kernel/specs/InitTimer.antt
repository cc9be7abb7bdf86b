-- init_timer (PSX-SPX, Kernel (BIOS), Timer Functions: init_timer; Timers: the bits of the mode).
use Rattle.std.specs.Prelude.{ℕ, ◌+◌, ◌-◌, ◌*◌}
use Rattle.std.specs.Int.{bit_at}
use Rattle.psx_base.specs.Ports.{mode_port, target_port}
use Rattle.psx_base.specs.KernelState.{KernelState}
use Rattle.abs_kernel.specs.Stay.{Stay, Tell}
use Rattle.abs_kernel.specs.Answered.{registers_of, answered}
use Rattle.abs_kernel.specs.Counters.{of_counter}

-- The mode word: the value comes back to 0 behind the target (8h), and the line is raised each time (40h).
-- Flag 4 adds synchronisation (1h), flag 12 an interrupt at the target (10h), and without flag 0 source 1 in the place of source 0 (100h).
abbrev pub mode_of : (flags : ℕ) → ℕ
mode_of flags = 0x48 + bit_at flags 4 + 0x100 * (1 - bit_at flags 0) + 0x10 * bit_at flags 12

-- init_timer(t, target, flags) writes mode 0, the target and then the new mode, and answers 1
abbrev pub init_timer : KernelState → Stay
init_timer s = let r = registers_of s in of_counter s (λ t. Tell (mode_port t) 0 (Tell (target_port t) r.r5 (Tell (mode_port t) (mode_of r.r6) (answered s 1))))
