-- setjmp and longjmp (PSX-SPX, Kernel (BIOS), function summary: setjmp, longjmp). A pointer 0 is no case of its own: no user memory is there, so it stops as BadPointer.
use Rattle.std.specs.Prelude.{ℕ, zero, suc, ◌+◌, ◌%◌, ◌^◌, List, [], ◌∷◌}
use Rattle.psx_base.specs.Registers.{Registers, nth}
use Rattle.psx_base.specs.KernelState.{KernelState}
use Rattle.abs_kernel.specs.Stay.{Stay}
use Rattle.abs_kernel.specs.Answered.{registers_of, with_running, answered}
use Rattle.abs_kernel.specs.UserWords.{reads_word, writes_word}

-- what a buffer holds: the return address r31, sp, fp, r16 to r23, gp
abbrev pub jump_words : Registers → List ℕ
jump_words r = r.r31 ∷ r.r29 ∷ r.r30 ∷ r.r16 ∷ r.r17 ∷ r.r18 ∷ r.r19 ∷ r.r20 ∷ r.r21 ∷ r.r22 ∷ r.r23 ∷ r.r28 ∷ []

-- registers with these twelve from a list
abbrev pub with_jump_words : Registers → List ℕ → Registers
with_jump_words r w =
    record r { r31 = nth w 0; r29 = nth w 1; r30 = nth w 2; r16 = nth w 3; r17 = nth w 4; r18 = nth w 5; r19 = nth w 6; r20 = nth w 7; r21 = nth w 8; r22 = nth w 9; r23 = nth w 10; r28 = nth w 11 }

-- the address of the next word
abbrev pub following_word : ℕ → ℕ
following_word at = (at + 4) % 2 ^ 32

-- words are written one by one
abbrev pub writes_words : List ℕ → KernelState → (at : ℕ) → (KernelState → Stay) → Stay
writes_words [] s at next = next s
writes_words (w ∷ ws) s at next = writes_word s at w (λ t. writes_words ws t (following_word at) next)

-- n words are read one by one
abbrev pub reads_words : (n : ℕ) → KernelState → (at : ℕ) → (List ℕ → Stay) → Stay
reads_words zero s at next = next []
reads_words (suc n) s at next = reads_word s at (λ w. reads_words n s (following_word at) (λ ws. next (w ∷ ws)))

-- the state with other running registers
abbrev pub with_registers : KernelState → Registers → KernelState
with_registers s r = with_running s (record s.running.context { regs = r })

-- setjmp(buf) answers 0
abbrev pub setjmp : KernelState → Stay
setjmp s = let r = registers_of s in writes_words (jump_words r) s r.r4 (λ t. answered t 0)

-- with these words the program goes on where setjmp returned to, since r31 is the first of them
abbrev pub jumps : KernelState → List ℕ → Stay
jumps s ws = let r = registers_of s in answered (with_registers s (with_jump_words r ws)) r.r5

-- longjmp(buf, v) reads them from buf, and answers v
abbrev pub longjmp : KernelState → Stay
longjmp s = reads_words 12 s (registers_of s).r4 (jumps s)
