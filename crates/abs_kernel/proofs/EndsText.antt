-- The ends of the text calls.
use Rattle.std.proofs.Common.{ℕ, zero, suc, ◌%◌, ◌^◌, Bool, true, false}
use Rattle.std.specs.Prelude.{◌+◌, ◌||◌, nat_eq, if◌then◌else◌}
use Rattle.psx_base.specs.declared.stop.Stop.{Stop}
use Rattle.psx_base.specs.Memory.{Memory, byte, put_byte}
use Rattle.psx_base.specs.Addresses.{place, user}
use Rattle.psx_base.specs.Context.{Context, IsAtRest}
use Rattle.psx_base.specs.KernelState.{KernelState}
use Rattle.abs_kernel.specs.Answered.{registers_of, answered}
use Rattle.abs_kernel.specs.Stay.{Stay}
use Rattle.abs_kernel.specs.UserBytes.{following, count_of, longest, writes_byte}
use Rattle.abs_kernel.specs.Strlen.{count_bytes}
use Rattle.abs_kernel.specs.Strcpy.{copy_text, closes, strcpy}
use Rattle.abs_kernel.specs.Strcat.{find_end, strcat}
use Rattle.abs_kernel.specs.Strncat.{strncat}
use Rattle.abs_kernel.specs.Strncpy.{pads, strncpy}
use Rattle.abs_kernel.specs.Memcmp.{difference}
use Rattle.abs_kernel.specs.Strcmp.{compare_texts}
use Rattle.abs_kernel.specs.Strchr.{find_first}
use Rattle.abs_kernel.specs.Strrchr.{find_last}
use Rattle.abs_kernel.specs.ByteSets.{in_set, skips}
use Rattle.abs_kernel.specs.Strtok.{with_place, strtok}
use Rattle.abs_kernel.specs.Strstr.{stands, find_text}
use Rattle.abs_kernel.specs.StayLaws.{EachEnd}
use Rattle.abs_kernel.proofs.Ending.{running_in, if_ends, answered_ends}
use Rattle.abs_kernel.proofs.EndsMemory.{back, filled_ends}

-- ---- one that reads

module _ (P : KernelState → Type 0) (Q : Stop → Memory → Type 0) (s : KernelState)
    (halts : (stop : Stop) → Q stop s.memory) (returns : (c : Context) (on : Bool) → IsAtRest c → P (running_in s c on)) where
  -- a call that answers at once
  pub at_once : (value : ℕ) → EachEnd P Q (answered s value)
  at_once = answered_ends P Q s halts returns

  pub counted_ends : (n at count : ℕ) → EachEnd P Q (count_bytes n s at count)
  counted_ends zero at count = halts _
  counted_ends (suc n) at count = if_ends P Q (user at) _ _ (if_ends P Q (nat_eq (byte s.memory (place at)) 0) _ _ (at_once count) (counted_ends n (following at) (count + 1))) (halts _)

  pub compared_ends : (n a b : ℕ) → EachEnd P Q (compare_texts n s a b)
  compared_ends zero a b = at_once 0
  compared_ends (suc n) a b =
      let x : ℕ = byte s.memory (place a) in
      let y : ℕ = byte s.memory (place b) in
      let same = if_ends P Q (nat_eq x 0) _ _ (at_once 0) (compared_ends n (following a) (following b)) in
      if_ends P Q (user a) _ _ (if_ends P Q (user b) _ _ (if_ends P Q (nat_eq x y) _ _ same (at_once (difference x y))) (halts _)) (halts _)

  pub first_ends : (n at c : ℕ) → EachEnd P Q (find_first n s at c)
  first_ends zero at c = halts _
  first_ends (suc n) at c =
      let b : ℕ = byte s.memory (place at) in
      if_ends P Q (user at) _ _ (if_ends P Q (nat_eq b c) _ _ (at_once at) (if_ends P Q (nat_eq b 0) _ _ (at_once 0) (first_ends n (following at) c))) (halts _)

  pub last_ends : (n at c found : ℕ) → EachEnd P Q (find_last n s at c found)
  last_ends zero at c found = halts _
  last_ends (suc n) at c found =
      let b : ℕ = byte s.memory (place at) in
      let last : ℕ = if nat_eq b c then at else found in
      if_ends P Q (user at) _ _ (if_ends P Q (nat_eq b 0) _ _ (at_once last) (last_ends n (following at) c last)) (halts _)

  pub found_text_ends : (n at t : ℕ) → EachEnd P Q (find_text n s at t)
  found_text_ends zero at t = halts _
  found_text_ends (suc n) at t = stood_ends longest at t (answered s at) (find_text n s (following at) t) (at_once at) (found_text_ends n (following at) t)
    where
      stood_ends : (n at t : ℕ) (match other : Stay) → EachEnd P Q match → EachEnd P Q other → EachEnd P Q (stands n s at t match other)
      stood_ends zero at t match other h g = halts _
      stood_ends (suc n) at t match other h g =
          let c : ℕ = byte s.memory (place at) in
          let other_ends = if_ends P Q (nat_eq c (byte s.memory (place t))) _ _ (stood_ends n (following at) (following t) match other h g) g in
          if_ends P Q (user t) _ _ (if_ends P Q (nat_eq (byte s.memory (place t)) 0) _ _ h (if_ends P Q (user at) _ _ (if_ends P Q (nat_eq c 0) _ _ (at_once 0) other_ends) (halts _))) (halts _)

-- ---- one over sets of bytes, before what follows

module _ (P : KernelState → Type 0) (Q : Stop → Memory → Type 0) (s : KernelState) (halts : (stop : Stop) → Q stop s.memory) where
  pub set_ends : (n at b : ℕ) (found absent : Stay) → EachEnd P Q found → EachEnd P Q absent → EachEnd P Q (in_set n s at b found absent)
  set_ends zero at b found absent h g = halts _
  set_ends (suc n) at b found absent h g =
      let v : ℕ = byte s.memory (place at) in
      if_ends P Q (user at) _ _ (if_ends P Q (nat_eq v b) _ _ h (if_ends P Q (nat_eq v 0) _ _ g (set_ends n (following at) b found absent h g))) (halts _)

  pub skipped_ends : (inside : Bool) (n set at : ℕ) (next : Bool → ℕ → Stay) → ((ended : Bool) (x : ℕ) → EachEnd P Q (next ended x)) → EachEnd P Q (skips inside n s set at next)
  skipped_ends inside zero set at next h = halts _
  skipped_ends inside (suc n) set at next h =
      let b : ℕ = byte s.memory (place at) in
      let more = skips inside n s set (following at) next in
      let over = next false at in
      let rest = skipped_ends inside n set (following at) next h in
      if_ends P Q (user at) _ _ (if_ends P Q (nat_eq b 0) _ _ (h true at)
      (set_ends longest set b _ _ (if_ends P Q inside more over rest (h false at)) (if_ends P Q inside over more (h false at) rest))) (halts _)

-- ---- one that writes

module _ (P : KernelState → Type 0) (Q : Stop → Memory → Type 0) (s : KernelState)
    (halts : (stop : Stop) (m : Memory) → Q stop m) (returns : (m : Memory) (c : Context) (on : Bool) → IsAtRest c → P (running_in (record s { memory = m }) c on)) where
  -- what may follow the bytes of a text, or its zero
  pub text_ends : (next : ℕ → KernelState → ℕ → Stay) → ((left : ℕ) (m : Memory) (to : ℕ) → EachEnd P Q (next left (record s { memory = m }) to))
      → (n : ℕ) (m : Memory) (to from : ℕ) → EachEnd P Q (copy_text n (record s { memory = m }) to from next)
  text_ends next h zero m to from = h 0 m to
  text_ends next h (suc n) m to from =
      if_ends P Q (user from) _ _
      (if_ends P Q (nat_eq (byte m (place from)) 0) _ _ (h (suc n) m to)
      (if_ends P Q (user to) _ _ (text_ends next h n (put_byte m (place to) (byte m (place from) % 2 ^ 8)) (following to) (following from)) (halts _ _))) (halts _ _)

  pub end_ends : (next : ℕ → Stay) → ((at : ℕ) → EachEnd P Q (next at)) → (n at : ℕ) → EachEnd P Q (find_end n s at next)
  end_ends next h zero at = halts _ _
  end_ends next h (suc n) at = if_ends P Q (user at) _ _ (if_ends P Q (nat_eq (byte s.memory (place at)) 0) _ _ (h at) (end_ends next h n (following at))) (halts _ _)

  pub closed_ends : (d left : ℕ) (m : Memory) (to : ℕ) → EachEnd P Q (closes d left (record s { memory = m }) to)
  closed_ends d left m to = if_ends P Q (user to) _ _ (back P Q s halts returns (put_byte m (place to) 0) d) (halts _ _)

  pub padded_ends : (d left : ℕ) (m : Memory) (to : ℕ) → EachEnd P Q (pads d left (record s { memory = m }) to)
  padded_ends d left m to = filled_ends P Q s halts returns left m to 0 d

  -- a call whose first two arguments are pointers, where 0 answers 0
  pub pointers_back : (stay : Stay) → EachEnd P Q stay → EachEnd P Q (if nat_eq (registers_of s).r4 0 || nat_eq (registers_of s).r5 0 then answered s 0 else stay)
  pointers_back stay h = let r = registers_of s in if_ends P Q (nat_eq r.r4 0 || nat_eq r.r5 0) _ _ (back P Q s halts returns s.memory 0) h

  pub copied_text_ends : (n at : ℕ) (next : ℕ → KernelState → ℕ → Stay)
      → ((left : ℕ) (m : Memory) (to : ℕ) → EachEnd P Q (next left (record s { memory = m }) to)) → EachEnd P Q (copy_text n s at (registers_of s).r5 next)
  copied_text_ends n at next h = text_ends next h n s.memory at (registers_of s).r5

  pub strcpy_ends : EachEnd P Q (strcpy s)
  strcpy_ends = let r = registers_of s in pointers_back _ (copied_text_ends longest r.r4 (closes r.r4) (closed_ends r.r4))

  pub strcat_ends : EachEnd P Q (strcat s)
  strcat_ends = let r = registers_of s in pointers_back _ (end_ends _ (λ at. copied_text_ends longest at (closes r.r4) (closed_ends r.r4)) longest r.r4)

  pub strncat_ends : EachEnd P Q (strncat s)
  strncat_ends = let r = registers_of s in pointers_back _ (end_ends _ (λ at. copied_text_ends (count_of r.r6) at (closes r.r4) (closed_ends r.r4)) longest r.r4)

  pub strncpy_ends : EachEnd P Q (strncpy s)
  strncpy_ends = let r = registers_of s in pointers_back _ (copied_text_ends (count_of r.r6) r.r4 (pads r.r4) (padded_ends r.r4))

-- ---- one that changes strtok's place too

module _ (P : KernelState → Type 0) (Q : Stop → Memory → Type 0) (s : KernelState)
    (halts : (stop : Stop) (m : Memory) → Q stop m) (returns : (m : Memory) (place : ℕ) (c : Context) (on : Bool) → IsAtRest c → P (running_in (record s { memory = m; token = place }) c on)) where
  pub placed_back : (m : Memory) (place value : ℕ) → EachEnd P Q (answered (record s { memory = m; token = place }) value)
  placed_back m place value = answered_ends P Q (record s { memory = m; token = place }) (λ stop. halts stop m) (returns m place) value

  pub strtok_ends : EachEnd P Q (strtok s)
  strtok_ends =
      let r = registers_of s in
      let from : ℕ = if nat_eq r.r4 0 then s.token % 2 ^ 32 else r.r4 in
      let stops : (stop : Stop) → Q stop s.memory = λ stop. halts stop s.memory in
      let token_ends : (start : ℕ) (ended : Bool) (end : ℕ)
      → EachEnd P Q (if ended then answered (with_place s 0) start else writes_byte s end 0 (λ t. answered (with_place t (following end)) start)) =
      λ start ended end. if_ends P Q ended _ _ (placed_back s.memory 0 start) (if_ends P Q (user end) _ _ (placed_back (put_byte s.memory (place end) 0) (following end) start) (halts _ _)) in
      if_ends P Q (nat_eq r.r5 0 || nat_eq from 0) _ _ (placed_back s.memory s.token 0)
      (skipped_ends P Q s stops true longest r.r5 from _
      (λ ended start. if_ends P Q ended _ _ (placed_back s.memory 0 0) (skipped_ends P Q s stops false longest r.r5 (following start) _ (token_ends start))))
