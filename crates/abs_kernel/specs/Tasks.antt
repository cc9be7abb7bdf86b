-- What the kernel still has to do before it takes up a context (PSX-SPX, Kernel (BIOS), Interrupt/Exception Handling: the chains of handlers, and Event Functions).
use Rattle.std.specs.Prelude.{ℕ, ◌+◌, ◌-◌, ◌^◌, List, [], ◌∷◌, length, nat_eq, if◌then◌else◌}
use Rattle.psx_base.specs.Addresses.{place}
use Rattle.psx_base.specs.Memory.{word}
use Rattle.psx_base.specs.Ports.{I_STAT}
use Rattle.psx_base.specs.KernelState.{ThreadContext, Task, Element, Second, Line, Scan, KernelState}
use Rattle.abs_kernel.specs.Stay.{Stay, Tell, Touch}
use Rattle.abs_kernel.specs.Callback.{calls_back}
use Rattle.abs_kernel.specs.Scan.{scan}
use Rattle.abs_kernel.specs.TakingUp.{resumed}

-- where an element of a chain has its two functions; the twelve bytes of an element are user memory, so that no read of them stops
abbrev pub second_of : (element : ℕ) → ℕ
second_of element = element + 4

abbrev pub first_of : (element : ℕ) → ℕ
first_of element = element + 8

-- a word of an element is read, and the stay goes on by it
abbrev pub reads_function : KernelState → (at : ℕ) → (ℕ → Stay) → Stay
reads_function s at next = Touch 4 (next (word s.memory (place at)))

-- a line is taken back by a write of all ones but its own bit
abbrev pub without_line : (line : ℕ) → ℕ
without_line line = 2 ^ 32 - 1 - 2 ^ line

-- the class of a line's events: VBLANK is line 0, and the counters 0 to 2 are the lines 4 to 6; and their spec
abbrev pub class_of_line : (line : ℕ) → ℕ
class_of_line line = if nat_eq line 0 then 0xF2000003 else 0xF2000000 + (line - 4)

abbrev pub SPEC_OF_LINES : ℕ
SPEC_OF_LINES = 2

-- What is left with these tasks before context c is taken up. `value` is the answer of the function that has returned, and `ra` is what a stop names.
abbrev pub work : KernelState → (c : ThreadContext) → List Task → (value ra : ℕ) → Stay
work s c [] value ra = resumed s c
work s c (Element e ∷ ts) value ra = reads_function s (first_of e) (λ f. if nat_eq f 0 then work s c ts value ra else calls_back s c (Second e ∷ ts) f 0 ra)
work s c (Second e ∷ ts) value ra =
    if nat_eq value 0 then work s c ts value ra
    else reads_function s (second_of e) (λ f. if nat_eq f 0 then work s c ts value ra else calls_back s c ts f value ra)
work s c (Line n ∷ ts) value ra =
    Tell I_STAT (without_line n) (scan (length s.events) (class_of_line n) SPEC_OF_LINES 0 s (λ t. work t c ts value ra) (λ t f i. calls_back t c (Scan (class_of_line n) SPEC_OF_LINES i ∷ ts) f 0 ra))
work s c (Scan class spec from ∷ ts) value ra =
    scan (length s.events - from) class spec from s (λ t. work t c ts value ra) (λ t f i. calls_back t c (Scan class spec i ∷ ts) f 0 ra)
