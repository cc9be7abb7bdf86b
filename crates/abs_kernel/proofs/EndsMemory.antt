-- The ends of the memory calls.
use Rattle.std.proofs.Common.{ℕ, zero, suc, ◌%◌, ◌^◌, Bool}
use Rattle.std.specs.Prelude.{◌||◌, nat_eq}
use Rattle.psx_base.specs.declared.stop.Stop.{Stop}
use Rattle.psx_base.specs.Memory.{Memory, byte, put_byte}
use Rattle.psx_base.specs.Addresses.{place, user}
use Rattle.psx_base.specs.Context.{Context, IsAtRest}
use Rattle.psx_base.specs.KernelState.{KernelState}
use Rattle.abs_kernel.specs.Answered.{registers_of, answered}
use Rattle.abs_kernel.specs.Stay.{Stay}
use Rattle.abs_kernel.specs.UserBytes.{following, count_of, tests_bytes}
use Rattle.abs_kernel.specs.Memchr.{find_byte}
use Rattle.abs_kernel.specs.Memset.{fill, fills}
use Rattle.abs_kernel.specs.Memcpy.{copy_bytes, copies}
use Rattle.abs_kernel.specs.Memmove.{moved, memmove}
use Rattle.abs_kernel.specs.Memcmp.{compare_bytes}
use Rattle.abs_kernel.specs.StayLaws.{EachEnd}
use Rattle.abs_kernel.proofs.Ending.{running_in, if_ends, answered_ends}

-- ---- one that reads

module _ (P : KernelState → Type 0) (Q : Stop → Memory → Type 0) (s : KernelState)
    (halts : (stop : Stop) → Q stop s.memory) (returns : (c : Context) (on : Bool) → IsAtRest c → P (running_in s c on)) where
  -- a call that answers at once
  pub at_once : (value : ℕ) → EachEnd P Q (answered s value)
  at_once = answered_ends P Q s halts returns

  pub found_ends : (n at c : ℕ) → EachEnd P Q (find_byte n s at c)
  found_ends zero at c = at_once 0
  found_ends (suc n) at c = if_ends P Q (user at) _ _ (if_ends P Q (nat_eq (byte s.memory (place at)) c) _ _ (at_once at) (found_ends n (following at) c)) (halts _)

  pub compared_bytes_ends : (n a b : ℕ) → EachEnd P Q (compare_bytes n s a b)
  compared_bytes_ends zero a b = at_once 0
  compared_bytes_ends (suc n) a b =
      let same = compared_bytes_ends n (following a) (following b) in
      if_ends P Q (user a) _ _ (if_ends P Q (user b) _ _ (if_ends P Q (nat_eq (byte s.memory (place a)) (byte s.memory (place b))) _ _ same (at_once _)) (halts _)) (halts _)

-- ---- one that writes

module _ (P : KernelState → Type 0) (Q : Stop → Memory → Type 0) (s : KernelState)
    (halts : (stop : Stop) (m : Memory) → Q stop m) (returns : (m : Memory) (c : Context) (on : Bool) → IsAtRest c → P (running_in (record s { memory = m }) c on)) where
  pub back : (m : Memory) (value : ℕ) → EachEnd P Q (answered (record s { memory = m }) value)
  back m value = answered_ends P Q (record s { memory = m }) (λ stop. halts stop m) (returns m) value

  pub filled_ends : (n : ℕ) (m : Memory) (at v value : ℕ) → EachEnd P Q (fill n (record s { memory = m }) at v (λ t. answered t value))
  filled_ends zero m at v value = back m value
  filled_ends (suc n) m at v value = if_ends P Q (user at) _ _ (filled_ends n (put_byte m (place at) v) (following at) v value) (halts _ _)

  pub copied_ends : (n : ℕ) (m : Memory) (to from value : ℕ) → EachEnd P Q (copy_bytes n (record s { memory = m }) to from (λ t. answered t value))
  copied_ends zero m to from value = back m value
  copied_ends (suc n) m to from value =
      if_ends P Q (user from) _ _ (if_ends P Q (user to) _ _ (copied_ends n (put_byte m (place to) (byte m (place from) % 2 ^ 8)) (following to) (following from) value) (halts _ _)) (halts _ _)

  pub tested_ends : (n at : ℕ) (next : Stay) → EachEnd P Q next → EachEnd P Q (tests_bytes n s at next)
  tested_ends zero at next h = h
  tested_ends (suc n) at next h = if_ends P Q (user at) _ _ (tested_ends n (following at) next h) (halts _ _)

  pub fills_end : (to v n : ℕ) → EachEnd P Q (fills s to v n)
  fills_end to v n = if_ends P Q (nat_eq to 0) _ _ (back s.memory 0) (filled_ends (count_of n) s.memory to (v % 2 ^ 8) to)

  pub copies_end : (to from n : ℕ) → EachEnd P Q (copies s to from n)
  copies_end to from n = if_ends P Q (nat_eq to 0 || nat_eq from 0) _ _ (back s.memory 0) (copied_ends (count_of n) s.memory to from to)

  pub memmove_ends : EachEnd P Q (memmove s)
  memmove_ends =
      let r = registers_of s in
      let n : ℕ = count_of r.r6 in
      let to : ℕ = r.r4 in
      let from : ℕ = r.r5 in
      if_ends P Q (nat_eq to 0 || nat_eq from 0) _ _ (back s.memory 0) (tested_ends n from _ (tested_ends n to _ (back (moved n s.memory (place to) (place from)) to)))
