-- A pointer on its way over n bytes of user memory, with k to come.
use Rattle.std.proofs.Common.{◌≡◌, ℕ, ◌+◌, ◌-◌, ◌%◌, ◌^◌, ◌<◌, ◌≤◌, true, false, ap, ◌∙◌, arith, eq-eqb, ne_eqb}
use Rattle.std.specs.Prelude.{nat_eq, if◌then◌else◌}
use Rattle.psx_base.specs.Addresses.{user}
use Rattle.psx_flow.proofs.Log.{byte_sort, User}
use Rattle.psx_flow.proofs.Users.{sort_user}
use Rattle.abs_kernel.specs.Stay.{Stay}
use Rattle.kern_stay.proofs.RoomLeft.{Span}

pub record Cursor (a n stop k x : ℕ) : Type 0 where
  pub low : a ≤ x
  pub high : x ≤ stop
  pub count : x + k ≡ a + n

-- where it isn't at its end, a byte of user memory is to come
pub record Coming (a n stop k x : ℕ) : Type 0 where
  pub user : user x ≡ true
  pub here : (x + 0) % 2 ^ 32 ≡ x
  pub sort : byte_sort x ≡ User
  pub some : 0 < k
  pub less : k - 1 < k
  pub back : ((x + 1) % 2 ^ 32 + 0xFFFFFFFF) % 2 ^ 32 ≡ x
  pub next : Cursor a n stop (k - 1) ((x + 1) % 2 ^ 32)

pub coming : (a n stop flag k x : ℕ) → Span a n stop flag → Cursor a n stop k x → (x ≡ stop → ⊥) → Coming a n stop k x
coming a n stop flag k x s h ne =
    let lt : x < stop = omega (arith, h.high, ne) in
    let u = s.good x h.low lt in
    let step : (x + 1) % 2 ^ 32 ≡ x + 1 = omega (arith, lt, s.within) in
    let some : 0 < k = omega (arith, lt, s.high, h.count) in
    record {
      user = u;
      here = omega (arith, lt, s.within);
      sort = sort_user x u;
      some = some;
      less = omega (arith, some);
      back = omega (arith, lt, s.within);
      next = record { low = omega (arith, step, h.low); high = omega (arith, step, lt); count = omega (arith, step, h.count, some) };
    }

-- at its end: all bytes are done, or the next one is bad
pub done_all : (a n stop flag k x : ℕ) → Span a n stop flag → Cursor a n stop k x → x ≡ stop → flag ≡ 0 → k ≡ 0
done_all a n stop flag k x s h e z = let all = s.all z in omega (arith, h.count, e, all)

pub record Bad (k x : ℕ) : Type 0 where
  pub some : 0 < k
  pub user : user x ≡ false

pub done_bad : (a n stop flag k x : ℕ) → Span a n stop flag → Cursor a n stop k x → x ≡ stop → (flag ≡ 0 → ⊥) → Bad k x
done_bad a n stop flag k x s h e ne = let b = s.some ne in record { some = omega (arith, h.count, e, b.0); user = ap user e ∙ b.1 }

-- how a call with a pointer begins: 0 is answered at once
pub null : (p : ℕ) (x y : Stay) → p ≡ 0 → (if nat_eq p 0 then x else y) ≡ x
null p x y e = ap (λ b. if b then x else y) (eq-eqb p 0 e)

pub not_null : (p : ℕ) (x y : Stay) → (p ≡ 0 → ⊥) → (if nat_eq p 0 then x else y) ≡ y
not_null p x y ne = ap (λ b. if b then x else y) (ne_eqb p 0 ne)
