-- Two pointers on their way over n bytes each, in step, with k to come: at the first a byte is read, and at the other it is written.
use Rattle.std.proofs.Common.{◌≡◌, ℕ, ◌+◌, ◌-◌, ◌%◌, ◌^◌, ◌<◌, ◌≤◌, true, false, refl, ap, ◌∙◌, arith}
use Rattle.psx_base.specs.Addresses.{user}
use Rattle.psx_flow.proofs.Log.{byte_sort, User}
use Rattle.psx_flow.proofs.Users.{sort_user}
use Rattle.kern_stay.specs.Room.{room}
use Rattle.kern_stay.proofs.RoomLeft.{room_is_left}
use Rattle.kern_stay.proofs.Cursor.{Bad}

-- From a and from b on m bytes are user memory. Where the flag isn't 0, they are fewer than n, and one of the two behind them is bad: that behind a where `second` is 0, and else that behind b alone.
pub record Pair (a b n m flag second : ℕ) : Type 0 where
  pub first : (i : ℕ) → i < m → user (a + i) ≡ true
  pub other : (i : ℕ) → i < m → user (b + i) ≡ true
  pub within : (a + m < 2 ^ 32) × (b + m < 2 ^ 32)
  pub most : m ≤ n
  pub all : flag ≡ 0 → m ≡ n
  pub some : (flag ≡ 0 → ⊥) → m < n
  pub bad_first : (flag ≡ 0 → ⊥) → second ≡ 0 → user (a + m) ≡ false
  pub bad_other : (flag ≡ 0 → ⊥) → (second ≡ 0 → ⊥) → (user (a + m) ≡ true) × (user (b + m) ≡ false)

module _ (a b n flag second : ℕ) (small_a : a < 2 ^ 32) (small_b : b < 2 ^ 32) where
  -- where both rooms are enough
  pub pair_all : flag ≡ 0 → n ≤ room a → n ≤ room b → Pair a b n n flag second
  pair_all z in_a in_b =
      let la = room_is_left a small_a in
      let lb = room_is_left b small_b in
      record {
        first = λ i lt. la.good i (omega arith);
        other = λ i lt. lb.good i (omega arith);
        within = (omega (arith, la.within), omega (arith, lb.within));
        most = omega arith;
        all = λ q. refl;
        some = λ ne. absurd (ne z);
        bad_first = λ ne q. absurd (ne z);
        bad_other = λ ne q. absurd (ne z);
      }

  -- where that of b isn't the lesser one
  pub pair_first : (flag ≡ 0 → ⊥) → second ≡ 0 → room a < n → room a ≤ room b → Pair a b n (room a) flag second
  pair_first nz z few le =
      let la = room_is_left a small_a in
      let lb = room_is_left b small_b in
      record {
        first = la.good;
        other = λ i lt. lb.good i (omega arith);
        within = (la.within, omega (arith, lb.within));
        most = omega arith;
        all = λ q. absurd (nz q);
        some = λ ne. few;
        bad_first = λ ne q. la.bad;
        bad_other = λ ne q. absurd (q z);
      }

  -- where it is
  pub pair_other : (flag ≡ 0 → ⊥) → (second ≡ 0 → ⊥) → room b < n → room b < room a → Pair a b n (room b) flag second
  pair_other nz sz few lt =
      let la = room_is_left a small_a in
      let lb = room_is_left b small_b in
      record {
        first = λ i low. la.good i (omega arith);
        other = lb.good;
        within = (omega (arith, la.within), lb.within);
        most = omega arith;
        all = λ q. absurd (nz q);
        some = λ ne. few;
        bad_first = λ ne q. absurd (sz q);
        bad_other = λ ne q. (la.good (room b) lt, lb.bad);
      }

-- where the pointers stand
pub record Cursors (a b n m k x y : ℕ) : Type 0 where
  pub first : x + k ≡ a + n
  pub other : y + k ≡ b + n
  pub most : k ≤ n
  pub room : n ≤ k + m

-- where the first isn't at its end, a byte is to come at each
pub record Both (a b n m k x y : ℕ) : Type 0 where
  pub user_x : user x ≡ true
  pub user_y : user y ≡ true
  pub here_x : (x + 0) % 2 ^ 32 ≡ x
  pub here_y : (y + 0) % 2 ^ 32 ≡ y
  pub sort_x : byte_sort x ≡ User
  pub sort_y : byte_sort y ≡ User
  pub some : 0 < k
  pub less : k - 1 < k
  pub next : Cursors a b n m (k - 1) ((x + 1) % 2 ^ 32) ((y + 1) % 2 ^ 32)

module _ (a b n m flag second k x y : ℕ) (p : Pair a b n m flag second) (c : Cursors a b n m k x y) where
  abbrev done : ℕ
  done = n - k

  at_x : x ≡ a + done
  at_x = omega (arith, c.first, c.most)

  at_y : y ≡ b + done
  at_y = omega (arith, c.other, c.most)

  pub both_come : (x ≡ (a + m) % 2 ^ 32 → ⊥) → Both a b n m k x y
  both_come ne =
      let lt : done < m = omega (arith, at_x, c.most, c.room, p.within, ne) in
      let ux : user x ≡ true = ap user at_x ∙ p.first done lt in
      let uy : user y ≡ true = ap user at_y ∙ p.other done lt in
      let some : 0 < k = omega (arith, lt, p.most) in
      record {
        user_x = ux;
        user_y = uy;
        here_x = omega (arith, lt, at_x, p.within);
        here_y = omega (arith, lt, at_y, p.within);
        sort_x = sort_user x ux;
        sort_y = sort_user y uy;
        some = some;
        less = omega (arith, some);
        next = record {
          first = omega (arith, lt, at_x, c.first, p.within, some);
          other = omega (arith, lt, at_y, c.other, p.within, some);
          most = omega (arith, c.most);
          room = omega (arith, lt, c.most, some);
        };
      }

  -- and at its end all bytes are done, or a bad one is to come
  at_end : x ≡ (a + m) % 2 ^ 32 → done ≡ m
  at_end e = omega (arith, e, at_x, c.most, c.room, p.within)

  pub both_done : x ≡ (a + m) % 2 ^ 32 → flag ≡ 0 → k ≡ 0
  both_done e z = omega (arith, at_end e, p.all z, c.most)

  pub first_bad : x ≡ (a + m) % 2 ^ 32 → (flag ≡ 0 → ⊥) → second ≡ 0 → Bad k x
  first_bad e ne z = record { some = omega (arith, at_end e, p.some ne, c.most); user = ap user (at_x ∙ ap (λ i. a + i) (at_end e)) ∙ p.bad_first ne z }

  pub other_bad : x ≡ (a + m) % 2 ^ 32 → (flag ≡ 0 → ⊥) → (second ≡ 0 → ⊥) → (user x ≡ true) × Bad k y
  other_bad e ne nz =
      let bad = p.bad_other ne nz in (
        ap user (at_x ∙ ap (λ i. a + i) (at_end e)) ∙ bad.0,
        record { some = omega (arith, at_end e, p.some ne, c.most); user = ap user (at_y ∙ ap (λ i. b + i) (at_end e)) ∙ bad.1 },
      )
