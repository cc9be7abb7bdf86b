-- The ends of the calls on numbers.
use Rattle.std.proofs.Common.{ℕ, zero, suc, Bool, false, List, [], ◌∷◌, ◌++◌, length}
use Rattle.std.specs.Prelude.{◌||◌, ◌&&◌, nat_eq, nat_lt, if◌then◌else◌}
use Rattle.psx_base.specs.declared.stop.Stop.{Stop}
use Rattle.psx_base.specs.Memory.{Memory, byte, put_word}
use Rattle.psx_base.specs.Addresses.{place, user}
use Rattle.psx_base.specs.Context.{Context, IsAtRest}
use Rattle.psx_base.specs.KernelState.{KernelState}
use Rattle.abs_kernel.specs.Answered.{registers_of}
use Rattle.abs_kernel.specs.Stay.{Stay}
use Rattle.abs_kernel.specs.UserBytes.{reads_byte, following, longest}
use Rattle.abs_kernel.specs.UserWords.{user_word}
use Rattle.abs_kernel.specs.Strtol.{is_blank, passes_blanks, takes_sign, digit_of, takes_x, takes_prefix, takes_digits, word_of, tells_rest, ends_number, reads_number, is_base, strtol, atoi}
use Rattle.abs_kernel.specs.StayLaws.{EachEnd}
use Rattle.abs_kernel.proofs.Ending.{running_in, if_ends, answered_ends, pointer_ends}
use Rattle.abs_kernel.proofs.EndsMemory.{back}

-- ---- a number of a text, before what follows

module _ (P : KernelState → Type 0) (Q : Stop → Memory → Type 0) (s : KernelState) (halts : (stop : Stop) → Q stop s.memory) where
  -- what follows a byte that is read
  abbrev Follows : (ℕ → ℕ → Stay) → Type 0
  Follows next = (at b : ℕ) → EachEnd P Q (next at b)

  read_ends : (at : ℕ) (next : ℕ → Stay) → ((b : ℕ) → EachEnd P Q (next b)) → EachEnd P Q (reads_byte s at next)
  read_ends at next h = if_ends P Q (user at) _ _ (h (byte s.memory (place at))) (halts _)

  blanks_end : (n at : ℕ) (next : ℕ → ℕ → Stay) → Follows next → EachEnd P Q (passes_blanks n s at next)
  blanks_end zero at next h = halts _
  blanks_end (suc n) at next h =
      let b : ℕ = byte s.memory (place at) in
      if_ends P Q (user at) _ _ (if_ends P Q (is_blank b) _ _ (blanks_end n (following at) next h) (h at b)) (halts _)

  sign_ends : (next : Bool → ℕ → ℕ → Stay) → ((minus : Bool) → Follows (next minus)) → Follows (takes_sign s next)
  sign_ends next h at b = if_ends P Q (nat_eq b 0x2B || nat_eq b 0x2D) _ _ (read_ends (following at) (next (nat_eq b 0x2D) (following at)) (h (nat_eq b 0x2D) (following at))) (h false at b)

  prefix_ends : (base : ℕ) (next : ℕ → List ℕ → ℕ → ℕ → Stay) → ((base : ℕ) (ds : List ℕ) → Follows (next base ds)) → Follows (takes_prefix s base next)
  prefix_ends base next h at b =
      if_ends P Q (nat_eq b 0x30 && (nat_eq base 0 || nat_eq base 16)) _ _ (x_ends (if nat_eq base 0 then 8 else 16) (following at)) (h (if nat_eq base 0 then 10 else base) [] at b)
    where
      x_ends : (base at : ℕ) → EachEnd P Q (takes_x s base next at)
      x_ends base at =
          let x : ℕ = byte s.memory (place at) in
          let behind : ℕ = following at in
          let c : ℕ = byte s.memory (place behind) in
          if_ends P Q (user at) _ _
          (if_ends P Q (nat_eq x 0x58 || nat_eq x 0x78) _ _
          (if_ends P Q (user behind) _ _ (if_ends P Q (nat_lt (digit_of c) 16) _ _ (h 16 [] behind c) (h base (0 ∷ []) at x)) (halts _)) (h base (0 ∷ []) at x)) (halts _)

  digits_end : (n base : ℕ) (next : List ℕ → ℕ → Stay) → ((ds : List ℕ) (at : ℕ) → EachEnd P Q (next ds at)) → Follows (takes_digits n s base next)
  digits_end zero base next h at b = halts _
  digits_end (suc n) base next h at b =
      if_ends P Q (nat_lt (digit_of b) base) _ _ (read_ends (following at) (takes_digits n s base (λ ds. next (digit_of b ∷ ds)) (following at)) (digits_end n base (λ ds. next (digit_of b ∷ ds)) (λ ds. h (digit_of b ∷ ds)) (following at))) (h [] at)

  pub number_ends : (start end base : ℕ) → ((rest value : ℕ) → EachEnd P Q (tells_rest s end rest value)) → EachEnd P Q (reads_number s start end base)
  number_ends start end base h =
      let number : Bool → ℕ → List ℕ → List ℕ → ℕ → Stay = λ minus base before ds. ends_number s start end minus base (before ++ ds) in
      let digits : Bool → ℕ → List ℕ → ℕ → ℕ → Stay = λ minus base before. takes_digits longest s base (number minus base before) in
      blanks_end longest start _ (sign_ends (λ minus. takes_prefix s base (digits minus)) (λ minus. prefix_ends base (digits minus) (λ base before. digits_end longest base (number minus base before)
      (λ ds at. h (if nat_eq (length (before ++ ds)) 0 then start else at) (word_of minus base (before ++ ds))))))

-- ---- a call that answers alone

module _ (P : KernelState → Type 0) (Q : Stop → Memory → Type 0) (s : KernelState)
    (halts : (stop : Stop) → Q stop s.memory) (returns : (c : Context) (on : Bool) → IsAtRest c → P (running_in s c on)) where
  pub atoi_ends : EachEnd P Q (atoi s)
  atoi_ends = pointer_ends P Q s halts returns _ (number_ends P Q s halts (registers_of s).r4 0 10 (λ rest. answered_ends P Q s halts returns))

-- ---- one that writes where the rest is

module _ (P : KernelState → Type 0) (Q : Stop → Memory → Type 0) (s : KernelState)
    (halts : (stop : Stop) (m : Memory) → Q stop m) (returns : (m : Memory) (c : Context) (on : Bool) → IsAtRest c → P (running_in (record s { memory = m }) c on)) where
  told_ends : (end rest value : ℕ) → EachEnd P Q (tells_rest s end rest value)
  told_ends end rest value =
      if_ends P Q (nat_eq end 0) _ _ (back P Q s halts returns s.memory value) (if_ends P Q (user_word end) _ _ (back P Q s halts returns (put_word s.memory (place end) rest) value) (halts _ _))

  pub strtol_ends : EachEnd P Q (strtol s)
  strtol_ends =
      let r = registers_of s in
      if_ends P Q (nat_eq r.r4 0) _ _ (back P Q s halts returns s.memory 0)
      (if_ends P Q (is_base r.r6) _ _ (number_ends P Q s (λ stop. halts stop s.memory) r.r4 r.r5 r.r6 (told_ends r.r5)) (told_ends r.r5 r.r4 0))
