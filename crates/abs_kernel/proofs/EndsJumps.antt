-- The ends of setjmp and longjmp.
use Rattle.std.proofs.Common.{ℕ, zero, suc, Bool, List, [], ◌∷◌}
use Rattle.psx_base.specs.declared.stop.Stop.{Stop}
use Rattle.psx_base.specs.Memory.{Memory, word, put_word}
use Rattle.psx_base.specs.Addresses.{place}
use Rattle.psx_base.specs.Registers.{Registers}
use Rattle.psx_base.specs.Context.{Context, taken, IsAtRest}
use Rattle.psx_base.specs.KernelState.{KernelState}
use Rattle.abs_kernel.specs.Answered.{registers_of, with_answer, answered}
use Rattle.abs_kernel.specs.Stay.{Stay}
use Rattle.abs_kernel.specs.UserWords.{user_word}
use Rattle.abs_kernel.specs.Jumps.{following_word, writes_words, reads_words, with_registers, with_jump_words, jumps, longjmp}
use Rattle.abs_kernel.specs.StayLaws.{EachEnd}
use Rattle.abs_kernel.proofs.Ending.{running_in, answer_at_rest, if_ends}
use Rattle.abs_kernel.proofs.EndsMemory.{back}

module _ (P : KernelState → Type 0) (Q : Stop → Memory → Type 0) (s : KernelState)
    (halts : (stop : Stop) → Q stop s.memory) (returns : (c : Context) (on : Bool) → IsAtRest c → P (running_in s c on)) where
  words_read_ends : (n at : ℕ) (next : List ℕ → Stay) → ((ws : List ℕ) → EachEnd P Q (next ws)) → EachEnd P Q (reads_words n s at next)
  words_read_ends zero at next h = h []
  words_read_ends (suc n) at next h = if_ends P Q (user_word at) _ _ (words_read_ends n (following_word at) _ (λ ws. h (word s.memory (place at) ∷ ws))) (halts _)

  jumped_ends : (r : Registers) (value : ℕ) → EachEnd P Q (answered (with_registers s r) value)
  jumped_ends r value = let c : Context = record s.running.context { regs = r } in returns (with_answer (taken c r.r31) value) s.running.interrupts (answer_at_rest c r.r31 value)

  pub longjmp_ends : EachEnd P Q (longjmp s)
  longjmp_ends = let r = registers_of s in words_read_ends 12 r.r4 (jumps s) (λ ws. jumped_ends (with_jump_words r ws) r.r5)

module _ (P : KernelState → Type 0) (Q : Stop → Memory → Type 0) (s : KernelState)
    (halts : (stop : Stop) (m : Memory) → Q stop m) (returns : (m : Memory) (c : Context) (on : Bool) → IsAtRest c → P (running_in (record s { memory = m }) c on)) where
  pub words_written_ends : (ws : List ℕ) (m : Memory) (at value : ℕ) → EachEnd P Q (writes_words ws (record s { memory = m }) at (λ t. answered t value))
  words_written_ends [] m at value = back P Q s halts returns m value
  words_written_ends (w ∷ ws) m at value = if_ends P Q (user_word at) _ _ (words_written_ends ws (put_word m (place at) w) (following_word at) value) (halts _ _)
