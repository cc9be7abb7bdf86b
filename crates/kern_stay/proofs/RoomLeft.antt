-- What the number of ROOM is.
use Rattle.std.proofs.Common.{◌≡◌, ℕ, ◌+◌, ◌-◌, ◌%◌, ◌^◌, ◌<◌, ◌≤◌, ◌⊎◌, inl, inr, Bool, true, false, refl, ap, ◌∙◌, subst, arith, ⊎_elim}
use Rattle.std.specs.Prelude.{nat_le, nat_lt, ◌&&◌, if◌then◌else◌}
use Rattle.std.proofs.lemmas.Bool.{cases_lt, lt-ltb, le-leb, leb-true, and_parts}
use Rattle.psx_base.specs.Addresses.{user}
use Rattle.psx_flow.proofs.Users.{user_0, user_1, user_2, user_3, user_4, user_5, user_6, user_7, user_8, user_9, user_10}
use Rattle.kern_stay.specs.Room.{left_in, room, IsLeft, RoomIsLeft}

pub left_within : (a from to k : ℕ) → from ≤ a → a < to → left_in a from to k ≡ to - a
left_within a from to k h g = λ i. if (le-leb from a h i && lt-ltb a to g i) then to - a else k

above : (a from : ℕ) → a < from → nat_le from a ≡ false
above a from h = grind arith

behind : (a to : ℕ) → to ≤ a → nat_lt a to ≡ false
behind a to h = grind arith

and_false : (b : Bool) → (b && false) ≡ false
and_false true = refl
and_false false = refl

pub left_out : (a from to k : ℕ) → (a < from) ⊎ (to ≤ a) → left_in a from to k ≡ k
left_out a from to k (inl h) = λ i. if (above a from h i && nat_lt a to) then to - a else k
left_out a from to k (inr h) = (λ i. if (nat_le from a && behind a to h i) then to - a else k) ∙ ap (λ b. if b then to - a else k) (and_false (nat_le from a))

-- within each range, and outside of all
pub room_5 : (a : ℕ) → 0x80010000 ≤ a → a < 0x80200000 → room a ≡ 0x80200000 - a
unfolding room
room_5 a h g = left_within a 0x80010000 0x80200000 _ h g

pub room_1 : (a : ℕ) → 0x10000 ≤ a → a < 0x200000 → room a ≡ 0x200000 - a
unfolding room
room_1 a h g = left_out a 0x80010000 0x80200000 _ (inl (omega arith)) ∙ left_within a 0x10000 0x200000 _ h g

pub room_9 : (a : ℕ) → 0xA0010000 ≤ a → a < 0xA0200000 → room a ≡ 0xA0200000 - a
unfolding room
room_9 a h g = left_out a 0x80010000 0x80200000 _ (inr (omega arith)) ∙ left_out a 0x10000 0x200000 _ (inr (omega arith)) ∙ left_within a 0xA0010000 0xA0200000 _ h g

pub room_3 : (a : ℕ) → 0x1F800000 ≤ a → a < 0x1F800400 → room a ≡ 0x1F800400 - a
unfolding room
room_3 a h g = left_out a 0x80010000 0x80200000 _ (inl (omega arith)) ∙ left_out a 0x10000 0x200000 _ (inr (omega arith)) ∙ left_out a 0xA0010000 0xA0200000 _ (inl (omega arith)) ∙ left_within a 0x1F800000 0x1F800400 _ h g

pub room_7 : (a : ℕ) → 0x9F800000 ≤ a → a < 0x9F800400 → room a ≡ 0x9F800400 - a
unfolding room
room_7 a h g =
    left_out a 0x80010000 0x80200000 _ (inr (omega arith)) ∙ left_out a 0x10000 0x200000 _ (inr (omega arith)) ∙ left_out a 0xA0010000 0xA0200000 _ (inl (omega arith)) ∙ left_out a 0x1F800000 0x1F800400 _ (inr (omega arith)) ∙ left_within a 0x9F800000 0x9F800400 _ h g

abbrev pub Out : (a from to : ℕ) → Type 0
Out a from to = (a < from) ⊎ (to ≤ a)

pub room_none : (a : ℕ) → Out a 0x80010000 0x80200000 → Out a 0x10000 0x200000 → Out a 0xA0010000 0xA0200000 → Out a 0x1F800000 0x1F800400 → Out a 0x9F800000 0x9F800400 → room a ≡ 0
unfolding room
room_none a h1 h2 h3 h4 h5 = left_out a 0x80010000 0x80200000 _ h1 ∙ left_out a 0x10000 0x200000 _ h2 ∙ left_out a 0xA0010000 0xA0200000 _ h3 ∙ left_out a 0x1F800000 0x1F800400 _ h4 ∙ left_out a 0x9F800000 0x9F800400 _ h5

-- ---- what is left

some_left : (from to a n : ℕ) → from ≤ a → a < to → to < 2 ^ 32 → n ≡ to - a → ((x : ℕ) → from ≤ x → x < to → user x ≡ true) → user to ≡ false → IsLeft a n
some_left from to a n low high small e good bad =
    let s : a + n ≡ to = omega arith in
    record { good = λ i lt. good (a + i) (omega arith) (omega arith); bad = ap user s ∙ bad; within = omega arith }

none_left : (a n : ℕ) → n ≡ 0 → a < 2 ^ 32 → user a ≡ false → IsLeft a n
none_left a n e small bad =
    let s : a + n ≡ a = omega arith in
    record { good = λ i lt. absurd (omega arith); bad = ap user s ∙ bad; within = omega arith }

none_at : (a : ℕ) → a < 2 ^ 32 → user a ≡ false → Out a 0x80010000 0x80200000 → Out a 0x10000 0x200000 → Out a 0xA0010000 0xA0200000 → Out a 0x1F800000 0x1F800400 → Out a 0x9F800000 0x9F800400 → IsLeft a (room a)
none_at a small bad h1 h2 h3 h4 h5 = none_left a (room a) (room_none a h1 h2 h3 h4 h5) small bad

pub room_is_left : RoomIsLeft
room_is_left a h =
    ⊎_elim (λ l. none_at a h (user_0 a l) (inl (omega arith)) (inl l) (inl (omega arith)) (inl (omega arith)) (inl (omega arith)))
    (λ g1. ⊎_elim (λ l. some_left 0x10000 0x200000 a (room a) g1 l (omega arith) (room_1 a g1 l) user_1 (user_2 0x200000 (omega arith) (omega arith)))
    (λ g2. ⊎_elim (λ l. none_at a h (user_2 a g2 l) (inl (omega arith)) (inr g2) (inl (omega arith)) (inl l) (inl (omega arith)))
    (λ g3. ⊎_elim (λ l. some_left 0x1F800000 0x1F800400 a (room a) g3 l (omega arith) (room_3 a g3 l) user_3 (user_4 0x1F800400 (omega arith) (omega arith)))
    (λ g4. ⊎_elim (λ l. none_at a h (user_4 a g4 l) (inl l) (inr (omega arith)) (inl (omega arith)) (inr g4) (inl (omega arith)))
    (λ g5. ⊎_elim (λ l. some_left 0x80010000 0x80200000 a (room a) g5 l (omega arith) (room_5 a g5 l) user_5 (user_6 0x80200000 (omega arith) (omega arith)))
    (λ g6. ⊎_elim (λ l. none_at a h (user_6 a g6 l) (inr g6) (inr (omega arith)) (inl (omega arith)) (inr (omega arith)) (inl l))
    (λ g7. ⊎_elim (λ l. some_left 0x9F800000 0x9F800400 a (room a) g7 l (omega arith) (room_7 a g7 l) user_7 (user_8 0x9F800400 (omega arith) (omega arith)))
    (λ g8. ⊎_elim (λ l. none_at a h (user_8 a g8 l) (inr (omega arith)) (inr (omega arith)) (inl l) (inr (omega arith)) (inr g8))
    (λ g9. ⊎_elim (λ l. some_left 0xA0010000 0xA0200000 a (room a) g9 l (omega arith) (room_9 a g9 l) user_9 (user_10 0xA0200000 (omega arith) (omega arith)))
    (λ g10. none_at a h (user_10 a g10 h) (inr (omega arith)) (inr (omega arith)) (inr g10) (inr (omega arith)) (inr (omega arith)))
    (cases_lt a 0xA0200000)) (cases_lt a 0xA0010000)) (cases_lt a 0x9F800400)) (cases_lt a 0x9F800000)) (cases_lt a 0x80200000)) (cases_lt a 0x80010000)) (cases_lt a 0x1F800400)) (cases_lt a 0x1F800000)) (cases_lt a 0x200000)) (cases_lt a 0x10000)

-- ---- where a loop over n bytes from a on comes to: to their end, or to the first that isn't user memory

-- from a to `stop` lie user bytes; where the flag isn't 0, that is before the n bytes end, and the next one is bad
pub record Span (a n stop flag : ℕ) : Type 0 where
  pub good : (x : ℕ) → a ≤ x → x < stop → user x ≡ true
  pub within : stop < 2 ^ 32
  pub low : a ≤ stop
  pub high : stop ≤ a + n
  pub all : flag ≡ 0 → stop ≡ a + n
  pub some : (flag ≡ 0 → ⊥) → (stop < a + n) × (user stop ≡ false)

good_at : (a n x : ℕ) → IsLeft a n → a ≤ x → x < a + n → user x ≡ true
good_at a n x l low lt = let e : a + (x - a) ≡ x = omega arith in subst (λ y. user y ≡ true) e (l.good (x - a) (omega arith))

pub span_all : (a n flag : ℕ) → a < 2 ^ 32 → flag ≡ 0 → n ≤ room a → Span a n ((a + n) % 2 ^ 32) flag
span_all a n flag small z le =
    let l = room_is_left a small in
    let e : (a + n) % 2 ^ 32 ≡ a + n = omega (arith, l.within) in
    record {
      good = λ x low lt. good_at a (room a) x l low (omega (arith, e));
      within = omega arith;
      low = omega (arith, e);
      high = omega (arith, e);
      all = λ q. e;
      some = λ ne. absurd (ne z);
    }

pub span_some : (a n flag : ℕ) → a < 2 ^ 32 → (flag ≡ 0 → ⊥) → room a < n → Span a n ((a + room a) % 2 ^ 32) flag
span_some a n flag small nz lt =
    let l = room_is_left a small in
    let e : (a + room a) % 2 ^ 32 ≡ a + room a = omega (arith, l.within) in
    record {
      good = λ x low up. good_at a (room a) x l low (omega (arith, e));
      within = omega arith;
      low = omega (arith, e);
      high = omega (arith, e);
      all = λ q. absurd (nz q);
      some = λ ne. (omega (arith, e), ap user e ∙ l.bad);
    }

-- no range has more than main memory's bytes
left_few : (a from to k most : ℕ) → to ≤ from + most → k ≤ most → left_in a from to k ≤ most
left_few a from to k most h few = go (nat_le from a && nat_lt a to) refl
  where
    go : (b : Bool) → (nat_le from a && nat_lt a to) ≡ b → (if b then to - a else k) ≤ most
    go true e = let p = leb-true from a (and_parts (nat_le from a) (nat_lt a to) e).0 in omega (arith, p, h)
    go false e = few

pub room_few : (a : ℕ) → room a ≤ 0x1F0000
unfolding room
room_few a = left_few a 0x80010000 0x80200000 _ 0x1F0000 (omega arith) (left_few a 0x10000 0x200000 _ 0x1F0000 (omega arith) (left_few a 0xA0010000 0xA0200000 _ 0x1F0000 (omega arith) (left_few a 0x1F800000 0x1F800400 _ 0x1F0000 (omega arith) (left_few a 0x9F800000 0x9F800400 0 0x1F0000 (omega arith) (omega arith)))))
