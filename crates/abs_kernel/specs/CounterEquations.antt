-- The calls on root counters evaluated, on states in which thread 0 of four runs.
use Rattle.std.specs.Prelude.{◌≡◌, ℕ, true}
use Rattle.psx_base.specs.KernelState.{KernelState}
use Rattle.abs_kernel.specs.Stay.{Stay, Ask, Tell}
use Rattle.abs_kernel.specs.Answered.{answered}
use Rattle.abs_kernel.specs.KernelStep.{stay_of}
use Rattle.abs_kernel.specs.Equations.{state, at, caller}

-- a caller of a number of table B, with three arguments
abbrev pub calling : (number a b c : ℕ) → KernelState
calling number a b c = state (at 0xB0 (record (caller number) { r4 = a; r5 = b; r6 = c })) true

-- the accesses of init_timer(t, target, flags), of counter 2 with an interrupt at its target; the mode is 58h
abbrev pub BeginsSystem : Type 0
BeginsSystem = let s = calling 2 2 20000 0x1001 in stay_of s 8 ≡ Tell 0x1F801124 0 (Tell 0x1F801128 20000 (Tell 0x1F801124 0x58 (answered s 1)))

-- of counter 0 with the dot clock, and of counter 1 with flag 4
abbrev pub BeginsDots : Type 0
BeginsDots = let s = calling 2 0 0x12345 0 in stay_of s 8 ≡ Tell 0x1F801104 0 (Tell 0x1F801108 0x12345 (Tell 0x1F801104 0x148 (answered s 1)))

abbrev pub BeginsLines : Type 0
BeginsLines = let s = calling 2 1 7 0xFFFFEFFF in stay_of s 8 ≡ Tell 0x1F801114 0 (Tell 0x1F801118 7 (Tell 0x1F801114 0x49 (answered s 1)))

-- no counter has the number 3
abbrev pub NoCounter : Type 0
NoCounter =
    (stay_of (calling 2 3 1 1) 8 ≡ answered (calling 2 3 1 1) 0) × (stay_of (calling 3 3 1 1) 8 ≡ answered (calling 3 3 1 1) 0)
    × (stay_of (calling 6 0x80000000 1 1) 8 ≡ answered (calling 6 0x80000000 1 1) 0)

-- a value is answered as it was read
abbrev pub Gets : Type 0
Gets = let s = calling 3 1 5 6 in stay_of s 8 ≡ Ask 0x1F801110 (λ value. answered s value)

abbrev pub Restarts : Type 0
Restarts = let s = calling 6 2 5 6 in stay_of s 8 ≡ Tell 0x1F801120 0 (answered s 1)

-- the mask that is written where another was read
abbrev pub masked : Stay → (mask : ℕ) → Stay
masked (Ask port next) mask = next mask
masked stay mask = stay

abbrev pub Enables : Type 0
Enables = let s = calling 4 2 5 6 in masked (stay_of s 8) 0x21 ≡ Tell 0x1F801074 0x61 (answered s 1)

abbrev pub EnablesBlank : Type 0
EnablesBlank = let s = calling 4 3 5 6 in masked (stay_of s 8) 0x7F0 ≡ Tell 0x1F801074 0x7F1 (answered s 1)

abbrev pub Disables : Type 0
Disables = let s = calling 5 0 5 6 in masked (stay_of s 8) 0x7FF ≡ Tell 0x1F801074 0x7EF (answered s 1)

abbrev pub NoLine : Type 0
NoLine = (stay_of (calling 4 4 5 6) 8 ≡ answered (calling 4 4 5 6) 0) × (stay_of (calling 5 4 5 6) 8 ≡ answered (calling 5 4 5 6) 0)
