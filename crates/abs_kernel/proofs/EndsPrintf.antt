-- The ends of printf.
use Rattle.std.proofs.Common.{ℕ, zero, suc, ◌+◌, ◌-◌, ◌*◌, ◌%◌, ◌^◌, Bool, Option, Some, None, List, [], ◌∷◌}
use Rattle.std.specs.Prelude.{nat_eq, nat_lt, length, take}
use Rattle.psx_base.specs.declared.stop.Stop.{Stop}
use Rattle.psx_base.specs.Memory.{Memory, byte}
use Rattle.psx_base.specs.Addresses.{place, user}
use Rattle.psx_base.specs.Context.{Context, IsAtRest}
use Rattle.psx_base.specs.KernelState.{KernelState}
use Rattle.abs_kernel.specs.Answered.{registers_of}
use Rattle.abs_kernel.specs.Stay.{Stay}
use Rattle.abs_kernel.specs.UserBytes.{following}
use Rattle.abs_kernel.specs.UserWords.{user_word}
use Rattle.abs_kernel.specs.Conversion.{Conversion, with_next, Kind, Number, Byte, Text, Alone, kind_of, limited, spaces, padded, number_text, null_text}
use Rattle.abs_kernel.specs.Printf.{writes, writes_from, measures, argument, writes_padded, most_of, writes_text, converts, takes_within, takes_format_byte, print_format}
use Rattle.abs_kernel.specs.StayLaws.{EachEnd}
use Rattle.abs_kernel.proofs.Ending.{running_in, if_ends, answered_ends}

module _ (P : KernelState → Type 0) (Q : Stop → Memory → Type 0) (s : KernelState)
    (halts : (stop : Stop) → Q stop s.memory) (returns : (c : Context) (on : Bool) → IsAtRest c → P (running_in s c on)) where
  text_ends : (bytes : List ℕ) (next : Stay) → EachEnd P Q next → EachEnd P Q (writes bytes next)
  text_ends [] next h = h
  text_ends (b ∷ bytes) next h = text_ends bytes next h

  from_ends : (n at : ℕ) (next : Stay) → EachEnd P Q next → EachEnd P Q (writes_from n s at next)
  from_ends zero at next h = h
  from_ends (suc n) at next h = if_ends P Q (user at) _ _ (from_ends n (following at) next h) (halts _)

  measured_ends : (n at size : ℕ) (next : ℕ → Stay) → ((m : ℕ) → EachEnd P Q (next m)) → EachEnd P Q (measures n s at size next)
  measured_ends zero at size next h = h size
  measured_ends (suc n) at size next h = if_ends P Q (user at) _ _ (if_ends P Q (nat_eq (byte s.memory (place at)) 0) _ _ (h size) (measured_ends n (following at) (size + 1) next h)) (halts _)

  argument_ends : (taken : ℕ) (next : ℕ → Stay) → ((value : ℕ) → EachEnd P Q (next value)) → EachEnd P Q (argument s taken next)
  argument_ends taken next h = if_ends P Q (nat_lt taken 3) _ _ (h _) (if_ends P Q (user_word (((registers_of s).r29 + 4 * (taken + 1)) % 2 ^ 32)) _ _ (h _) (halts _))

  padded_ends : (c : Conversion) (text : List ℕ) (count : ℕ) (next : ℕ → Stay) → ((n : ℕ) → EachEnd P Q (next n)) → EachEnd P Q (writes_padded c text count next)
  padded_ends c text count next h = text_ends (padded c text) _ (h _)

  written_text_ends : (c : Conversion) (at count : ℕ) (next : ℕ → Stay) → ((n : ℕ) → EachEnd P Q (next n)) → EachEnd P Q (writes_text c s at count next)
  written_text_ends c at count next h =
      if_ends P Q (nat_eq at 0) _ _ (padded_ends c (take (most_of c.precision) null_text) count next h)
      (measured_ends (most_of c.precision) at 0 _ (λ size.
      let room : ℕ = limited c.width - size in
      let on : Stay = next (count + (room + size)) in
      if_ends P Q c.left _ _ (from_ends size at (writes (spaces room) on) (text_ends (spaces room) on (h _))) (text_ends (spaces room) (writes_from size s at on) (from_ends size at on (h _)))))

  converted_ends : (kind : Kind) (c : Conversion) (b taken count : ℕ) (next : ℕ → ℕ → Stay) → ((t n : ℕ) → EachEnd P Q (next t n)) → EachEnd P Q (converts kind c s b taken count next)
  converted_ends (Number with_sign base letter) c b taken count next h = argument_ends taken (λ value. let text = number_text c with_sign base letter value in writes text (next (taken + 1) (count + length text)))
      (λ value. text_ends (number_text c with_sign base letter value) _ (h _ _))
  converted_ends Byte c b taken count next h = argument_ends taken (λ value. writes_padded c (value % 2 ^ 8 ∷ []) count (next (taken + 1))) (λ value. padded_ends c (value % 2 ^ 8 ∷ []) count (next (taken + 1)) (h (taken + 1)))
  converted_ends Text c b taken count next h = argument_ends taken (λ value. writes_text c s value count (next (taken + 1))) (λ value. written_text_ends c value count (next (taken + 1)) (h (taken + 1)))
  converted_ends Alone c b taken count next h = h taken (count + 1)

  within_ends : (d : Option Conversion) (c : Conversion) (b taken count : ℕ) (next : ℕ → ℕ → Option Conversion → Stay) → ((t n : ℕ) (o : Option Conversion) → EachEnd P Q (next t n o)) → EachEnd P Q (takes_within d c s b taken count next)
  within_ends (Some d) c b taken count next h = h taken count (Some d)
  within_ends None c b taken count next h = converted_ends (kind_of b) c b taken count (λ t n. next t n None) (λ t n. h t n None)

  byte_ends : (o : Option Conversion) (b taken count : ℕ) (next : ℕ → ℕ → Option Conversion → Stay) → ((t n : ℕ) (d : Option Conversion) → EachEnd P Q (next t n d)) → EachEnd P Q (takes_format_byte o s b taken count next)
  byte_ends None b taken count next h = if_ends P Q (nat_eq b 0x25) _ _ (h _ _ _) (h _ _ _)
  byte_ends (Some c) b taken count next h = within_ends (with_next c.reading c b) c b taken count next h

  pub format_ends : (n at taken count : ℕ) (c : Option Conversion) → EachEnd P Q (print_format n s at taken count c)
  format_ends zero at taken count c = halts _
  format_ends (suc n) at taken count c =
      let b : ℕ = byte s.memory (place at) in
      if_ends P Q (user at) _ _ (if_ends P Q (nat_eq b 0) _ _ (answered_ends P Q s halts returns (count % 2 ^ 32)) (byte_ends c b taken count _ (λ t m d. format_ends n (following at) t m d))) (halts _)
