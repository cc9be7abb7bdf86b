-- gets (PSX-SPX, Kernel (BIOS), TTY Console (std_io): gets). The line so far is kept where the call waits.
use Rattle.std.specs.Prelude.{ℕ, zero, suc, ◌-◌, ◌%◌, ◌^◌, Bool, ◌||◌, nat_eq, List, [], ◌∷◌, ◌++◌, length, if◌then◌else◌}
use Rattle.psx_base.specs.KernelState.{KernelState}
use Rattle.abs_kernel.specs.Stay.{Stay}
use Rattle.abs_kernel.specs.Answered.{registers_of, answered, waits}
use Rattle.abs_kernel.specs.UserBytes.{writes_byte, following}
use Rattle.abs_kernel.specs.ConsoleBytes.{takes_byte}

-- the state with another line
abbrev pub with_line : KernelState → List ℕ → KernelState
with_line s line = record s { line = line }

-- bytes are written one by one
abbrev pub store_bytes : List ℕ → KernelState → (at : ℕ) → (KernelState → Stay) → Stay
store_bytes [] s at next = next s
store_bytes (b ∷ bs) s at next = writes_byte s at (b % 2 ^ 8) (λ t. store_bytes bs t (following at) next)

-- a line and a zero are written at r4, which is the answer, and the buffer is empty
abbrev pub gives_line : KernelState → List ℕ → Stay
gives_line s line = let p = (registers_of s).r4 in store_bytes (line ++ 0 ∷ []) (with_line s []) p (λ t. answered t p)

-- the bytes that end a line, and are dropped
abbrev pub ends_line : (byte : ℕ) → Bool
ends_line byte = nat_eq byte 0x0A || nat_eq byte 0x0D

-- the line, where it has room for n bytes
abbrev pub gather_line : (n : ℕ) → KernelState → Stay
gather_line zero s = gives_line s s.line
gather_line (suc n) s = takes_byte (waits s) (λ b. if ends_line b then gives_line s s.line else gather_line n (with_line s (s.line ++ b ∷ [])))

-- gets(p) gives a line of at most 255 bytes; p 0 answers 0 and takes nothing
abbrev pub gets : KernelState → Stay
gets s = if nat_eq (registers_of s).r4 0 then answered s 0 else gather_line (255 - length s.line) s
