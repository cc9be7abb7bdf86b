-- Bytes that are tested before any is read or written.
use Rattle.std.proofs.Common.{◌≡◌, ℕ, zero, suc, ◌+◌, ◌*◌, ◌^◌, ◌<◌, ◌≤◌, true, false, sym, subst, arith}
use Rattle.psx_base.specs.Addresses.{user}
use Rattle.psx_base.specs.KernelState.{KernelState}
use Rattle.abs_kernel.specs.Stay.{Stay}
use Rattle.abs_kernel.specs.UserBytes.{bad_pointer, following, tests_bytes}
use Rattle.kern_stay.specs.Room.{room}
use Rattle.kern_stay.proofs.RoomLeft.{room_is_left, room_few}
use Rattle.kern_stay.proofs.Ending.{Left, left_written, left_unwritten}

-- n bytes from an address on are user memory
pub record Fine (at n : ℕ) : Type 0 where
  pub good : (i : ℕ) → i < n → user (at + i) ≡ true
  pub within : at + n < 2 ^ 32
  pub few : n ≤ 0x1F0000

pub fine : (at n : ℕ) → at < 2 ^ 32 → n ≤ room at → Fine at n
fine at n small le = let l = room_is_left at small in record { good = λ i lt. l.good i (omega arith); within = omega (arith, l.within); few = omega (arith, room_few at) }

-- without the first one
first_user : (at n : ℕ) → Fine at (suc n) → user at ≡ true
first_user at n f = let e : at + 0 ≡ at = omega arith in subst (λ x. user x ≡ true) e (f.good 0 (omega arith))

next_is : (at n : ℕ) → Fine at (suc n) → following at ≡ at + 1
next_is at n f = omega (arith, f.within)

rest_fine : (at n : ℕ) → Fine at (suc n) → Fine (following at) n
rest_fine at n f =
    let e = next_is at n f in
    record {
      good = λ i lt. (let same : at + suc i ≡ following at + i = omega (arith, e) in subst (λ x. user x ≡ true) same (f.good (suc i) (omega arith)));
      within = omega (arith, e, f.within);
      few = omega (arith, f.few);
    }

-- the stay goes on behind them
pub left_tested : {flat : ℕ} (stay : Stay) (s : KernelState) (n at : ℕ) (next : Stay) (most : ℕ)
    → Fine at n → Left flat stay (tests_bytes n s at next) most → Left flat stay next (most + 128 * n)
left_tested {flat} stay s zero at next most f l = let e : most ≡ most + 128 * 0 = omega arith in subst (Left flat stay next) e l
left_tested {flat} stay s (suc n) at next most f l =
    let first = left_written stay s at 0 (λ t. tests_bytes n s (following at) next) most (first_user at n f) l in
    let all = left_tested stay s n (following at) next (most + 128) (rest_fine at n f) first in
    let e : most + 128 + 128 * n ≡ most + 128 * suc n = omega arith in
    subst (Left flat stay next) e all

-- or stops at the first that isn't user memory, behind m that are
pub left_untested : {flat : ℕ} (stay : Stay) (s : KernelState) (n m at : ℕ) (next : Stay) (most : ℕ) → m < n → Fine at m → user (at + m) ≡ false
    → Left flat stay (tests_bytes n s at next) most → Left flat stay (bad_pointer s (at + m)) (most + 128 * (m + 1))
left_untested {flat} stay s zero m at next most lt f bad l = absurd (omega arith)
left_untested {flat} stay s (suc n) zero at next most lt f bad l =
    let here : at + 0 ≡ at = omega arith in
    let e : most + 128 ≡ most + 128 * (0 + 1) = omega arith in
    let stopped = left_unwritten stay s at 0 (λ t. tests_bytes n s (following at) next) most (subst (λ x. user x ≡ false) here bad) l in
    subst (λ x. Left flat stay (bad_pointer s x) (most + 128 * (0 + 1))) (sym here) (subst (Left flat stay (bad_pointer s at)) e stopped)
left_untested {flat} stay s (suc n) (suc m) at next most lt f bad l =
    let here : at + suc m ≡ following at + m = omega (arith, next_is at m f) in
    let e : most + 128 + 128 * (m + 1) ≡ most + 128 * (suc m + 1) = omega arith in
    let first = left_written stay s at 0 (λ t. tests_bytes n s (following at) next) most (first_user at m f) l in
    let stopped = left_untested stay s n m (following at) next (most + 128) (omega arith) (rest_fine at m f) (subst (λ x. user x ≡ false) here bad) first in
    subst (λ x. Left flat stay (bad_pointer s x) (most + 128 * (suc m + 1))) (sym here) (subst (Left flat stay (bad_pointer s (following at + m))) e stopped)
