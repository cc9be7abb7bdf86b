-- No text is as long as the definitions go on at most.
use Rattle.std.proofs.Common.{◌≡◌, ℕ, zero, suc, ◌+◌, ◌^◌, ◌<◌, false, sym, ap, ◌∙◌, arith}
use Rattle.std.specs.Prelude.{nat_eq, if◌then◌else◌}
use Rattle.psx_base.specs.Addresses.{user}
use Rattle.psx_base.specs.KernelState.{KernelState}
use Rattle.abs_kernel.specs.Stay.{Stay, Touch}
use Rattle.abs_kernel.specs.Answered.{answered}
use Rattle.abs_kernel.specs.UserBytes.{reads_byte, bad_pointer, following, longest}
use Rattle.abs_kernel.specs.Memcmp.{difference}
use Rattle.abs_kernel.specs.Strcmp.{compare_texts}
use Rattle.abs_kernel.specs.Strchr.{find_first}
use Rattle.abs_kernel.specs.Strrchr.{find_last}
use Rattle.kern_stay.specs.Room.{room}
use Rattle.kern_stay.proofs.RoomLeft.{room_is_left}
use Rattle.kern_text.specs.Texts.{byte_at, LengthIsNoLimit}
use Rattle.kern_text.proofs.A1bStrlen.{room_short}
use Rattle.kern_text.proofs.A18Strncmp.{one}
use Rattle.kern_text.proofs.A1eStrchr as first
use Rattle.kern_text.proofs.A1fStrrchr as last

-- k bytes on from an address there is one that isn't user memory
record Bad (at k : ℕ) : Type 0 where
  high : at + k < 2 ^ 32
  bad : user (at + k) ≡ false

here : (at : ℕ) → Bad at 0 → user at ≡ false
here at h = let e : at ≡ at + 0 = omega arith in ap user e ∙ h.bad

behind : (at k : ℕ) → Bad at (suc k) → Bad (following at) k
behind at k h =
    let up = h.high in
    let e : following at + k ≡ at + suc k = omega (arith, up) in
    record { high = omega (arith, e, up); bad = ap user e ∙ h.bad }

-- where the first byte is bad, what would be read of it doesn't matter
same_bad : (s : KernelState) (at : ℕ) (f g : ℕ → Stay) → Bad at 0 → reads_byte s at f ≡ reads_byte s at g
same_bad s at f g h =
    let u = here at h in
    ap (λ b. Touch 1 (if b then f (byte_at s at) else bad_pointer s at)) u ∙ sym (ap (λ b. Touch 1 (if b then g (byte_at s at) else bad_pointer s at)) u)

same_read : (s : KernelState) (at : ℕ) (f g : ℕ → Stay) → f (byte_at s at) ≡ g (byte_at s at) → reads_byte s at f ≡ reads_byte s at g
same_read s at f g e = ap (λ stay. Touch 1 (if user at then stay else bad_pointer s at)) e

module _ (s : KernelState) where
  first_same : (n m k at c : ℕ) → k < n → k < m → Bad at k → find_first n s at c ≡ find_first m s at c
  first_same zero m k at c p q h = absurd (omega (arith, p))
  first_same (suc n) zero k at c p q h = absurd (omega (arith, q))
  first_same (suc n) (suc m) zero at c p q h = same_bad s at (first.seen n s at c) (first.seen m s at c) h
  first_same (suc n) (suc m) (suc k) at c p q h =
      let b : ℕ = byte_at s at in
      let e = first_same n m k (following at) c (omega (arith, p)) (omega (arith, q)) (behind at k h) in
      same_read s at (first.seen n s at c) (first.seen m s at c) (ap (λ (rest : Stay). if nat_eq b c then answered s at else (if nat_eq b 0 then answered s 0 else rest)) e)

  last_same : (n m k at c found : ℕ) → k < n → k < m → Bad at k → find_last n s at c found ≡ find_last m s at c found
  last_same zero m k at c found p q h = absurd (omega (arith, p))
  last_same (suc n) zero k at c found p q h = absurd (omega (arith, q))
  last_same (suc n) (suc m) zero at c found p q h =
      same_bad s at (last.seen n s at c found) (last.seen m s at c found) h
  last_same (suc n) (suc m) (suc k) at c found p q h =
      let b : ℕ = byte_at s at in
      let kept : ℕ = if nat_eq b c then at else found in
      let e = last_same n m k (following at) c kept (omega (arith, p)) (omega (arith, q)) (behind at k h) in
      same_read s at (last.seen n s at c found) (last.seen m s at c found) (ap (λ (rest : Stay). if nat_eq b 0 then answered s kept else rest) e)

  compared_same : (n m k a b : ℕ) → k < n → k < m → Bad a k → compare_texts n s a b ≡ compare_texts m s a b
  compared_same zero m k a b p q h = absurd (omega (arith, p))
  compared_same (suc n) zero k a b p q h = absurd (omega (arith, q))
  compared_same (suc n) (suc m) zero a b p q h = same_bad s a (one n s a b) (one m s a b) h
  compared_same (suc n) (suc m) (suc k) a b p q h =
      let e = compared_same n m k (following a) (following b) (omega (arith, p)) (omega (arith, q)) (behind a k h) in
      let x : ℕ = byte_at s a in
      let y : ℕ = byte_at s b in
      let both = λ (rest : Stay). if nat_eq x y then (if nat_eq x 0 then answered s 0 else rest) else answered s (difference x y) in
      same_read s a (one n s a b) (one m s a b) (ap (λ rest. Touch 1 (if user b then both rest else bad_pointer s b)) e)

pub length_is_no_limit : LengthIsNoLimit
length_is_no_limit n s a b c found small le =
    let l = room_is_left a small in
    let few = room_short a in
    let h : Bad a (room a) = record { high = l.within; bad = l.bad } in
    let lt : room a < longest = omega (arith, few) in
    let more : room a < n = omega (arith, lt, le) in
    (first_same s n longest (room a) a c more lt h, last_same s n longest (room a) a c found more lt h, compared_same s n longest (room a) a b more lt h)
