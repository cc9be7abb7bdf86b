-- What strlen and strcmp answer for texts.
use Rattle.std.proofs.Common.{◌≡◌, ℕ, zero, suc, ◌+◌, ◌^◌, ◌<◌, ◌≤◌, ⊎_elim, Bool, true, false, refl, sym, ap, ◌∙◌, subst, arith, eq-eqb, ne_eqb}
use Rattle.std.specs.Prelude.{nat_eq, if◌then◌else◌}
use Rattle.std.proofs.lemmas.Bool.{false≢true, cases_lt, eqb-true}
use Rattle.psx_base.specs.Addresses.{user}
use Rattle.psx_base.specs.KernelState.{KernelState}
use Rattle.kern_layout.specs.Fits.{InBytes}
use Rattle.abs_kernel.specs.Stay.{Stay, Touch}
use Rattle.abs_kernel.specs.Answered.{registers_of, answered}
use Rattle.abs_kernel.specs.UserBytes.{bad_pointer, following, longest}
use Rattle.abs_kernel.specs.Strlen.{count_bytes}
use Rattle.abs_kernel.specs.Memcmp.{difference}
use Rattle.abs_kernel.specs.Strcmp.{compare_texts}
use Rattle.kern_stay.specs.Room.{room}
use Rattle.kern_stay.proofs.RoomLeft.{room_is_left}
use Rattle.kern_stay.proofs.Cursor.{not_null}
use Rattle.kern_text.specs.Texts.{byte_at, IsText, SameText, behind_bytes, StrlenCounts, Tells, StrcmpTells}
use Rattle.kern_text.proofs.A1bStrlen.{room_short}
use Rattle.kern_text.proofs.A18Strncmp.{both, none_null}

-- ---- where a text stands

not_user : (a : ℕ) → 2 ^ 32 ≤ a → user a ≡ false
unfolding user
not_user a h = grind arith

small : (a : ℕ) → user a ≡ true → a < 2 ^ 32
small a u = ⊎_elim (λ l. l) (λ g. absurd (false≢true (sym (not_user a g) ∙ u))) (cases_lt a (2 ^ 32))

low_not_user : (a : ℕ) → a ≡ 0 → user a ≡ false
unfolding user
low_not_user a e = grind arith

module _ (s : KernelState) (at n : ℕ) (t : IsText s at n) where
  first_within : user at ≡ true
  first_within = let e : at ≡ at + 0 = omega arith in ap user e ∙ t.within 0 (omega arith)

  text_small : at < 2 ^ 32
  text_small = small at first_within

  text_there : at ≡ 0 → ⊥
  text_there e = false≢true (sym (low_not_user at e) ∙ first_within)

  -- and it is short
  text_short : n < longest
  text_short =
      let l = room_is_left at text_small in
      let few = room_short at in
      ⊎_elim (λ lt. omega (arith, few, lt)) (λ ge. absurd (false≢true (sym l.bad ∙ t.within (room at) ge))) (cases_lt n (room at))

-- behind its first byte there is a text again
next_at : (s : KernelState) (at n : ℕ) → IsText s at (suc n) → following at ≡ at + 1
next_at s at n t = let lt = small (at + 1) (t.within 1 (omega arith)) in omega (arith, lt)

text_behind : (s : KernelState) (at n : ℕ) → IsText s at (suc n) → IsText s (following at) n
text_behind s at n t =
    let e : (i : ℕ) → following at + i ≡ at + suc i = λ i. let f = next_at s at n t in omega (arith, f) in
    record {
      within = λ i le. ap user (e i) ∙ t.within (suc i) (omega (arith, le));
      some = λ i lt z. t.some (suc i) (omega (arith, lt)) (ap (byte_at s) (sym (e i)) ∙ z);
      ends = ap (byte_at s) (e n) ∙ t.ends;
    }

first_is : (s : KernelState) (at n : ℕ) → IsText s at (suc n) → byte_at s at ≡ 0 → ⊥
first_is s at n t z = let e : at + 0 ≡ at = omega arith in t.some 0 (omega arith) (ap (byte_at s) e ∙ z)

end_is : (s : KernelState) (at : ℕ) → IsText s at 0 → byte_at s at ≡ 0
end_is s at t = let e : at ≡ at + 0 = omega arith in ap (byte_at s) e ∙ t.ends

-- ---- strlen

counted : (f n : ℕ) (s : KernelState) (at count : ℕ) → IsText s at n → n < f → count_bytes f s at count ≡ behind_bytes (suc n) (answered s (count + n))
counted zero n s at count t lt = absurd (omega (arith, lt))
counted (suc f) zero s at count t lt =
    let more : Stay = count_bytes f s (following at) (count + 1) in
    let e : count ≡ count + 0 = omega arith in
    ap (λ b. Touch 1 (if b then (if nat_eq (byte_at s at) 0 then answered s count else more) else bad_pointer s at)) (first_within s at 0 t)
    ∙ ap (λ b. Touch 1 (if b then answered s count else more)) (eq-eqb (byte_at s at) 0 (end_is s at t))
    ∙ ap (λ c. Touch 1 (answered s c)) e
counted (suc f) (suc n) s at count t lt =
    let more : Stay = count_bytes f s (following at) (count + 1) in
    let e : count + 1 + n ≡ count + suc n = omega arith in
    ap (λ b. Touch 1 (if b then (if nat_eq (byte_at s at) 0 then answered s count else more) else bad_pointer s at)) (first_within s at (suc n) t)
    ∙ ap (λ b. Touch 1 (if b then answered s count else more)) (ne_eqb (byte_at s at) 0 (first_is s at n t))
    ∙ ap (Touch 1) (counted f n s (following at) (count + 1) (text_behind s at n t) (omega (arith, lt)))
    ∙ ap (λ c. Touch 1 (behind_bytes (suc n) (answered s c))) e

pub strlen_counts : StrlenCounts
strlen_counts s n t =
    let a : ℕ = (registers_of s).r4 in
    let e : suc n ≡ n + 1 = omega arith in
    let count : 0 + n ≡ n = omega arith in
    not_null a (answered s 0) (count_bytes longest s a 0) (text_there s a n t) ∙ counted longest n s a 0 t (text_short s a n t) ∙ (λ i. behind_bytes (e i) (answered s (count i)))

-- ---- strcmp

no_difference : (x y : ℕ) → x < 2 ^ 8 → y < 2 ^ 8 → difference x y ≡ 0 → x ≡ y
no_difference x y p q e = omega (arith, p, q, e)

-- equal texts behind their first bytes
on_by_one : (s : KernelState) (at n i : ℕ) → IsText s at (suc n) → byte_at s (following at + i) ≡ byte_at s (at + suc i)
on_by_one s at n i t = let f = next_at s at n t in let e : following at + i ≡ at + suc i = omega (arith, f) in ap (byte_at s) e

same_behind : (s : KernelState) (a m b n : ℕ) → IsText s a (suc m) → IsText s b (suc n) → SameText s a (suc m) b (suc n) → SameText s (following a) m (following b) n
same_behind s a m b n t u q = let e = q.0 in (omega (arith, e), λ i lt. on_by_one s a m i t ∙ q.1 (suc i) (omega (arith, lt)) ∙ sym (on_by_one s b n i u))

same_first : (s : KernelState) (a m b n : ℕ) → SameText s a (suc m) b (suc n) → byte_at s a ≡ byte_at s b
same_first s a m b n q =
    let at_a : a ≡ a + 0 = omega arith in
    let at_b : b + 0 ≡ b = omega arith in
    ap (byte_at s) at_a ∙ q.1 0 (omega arith) ∙ ap (byte_at s) at_b

same_before : (s : KernelState) (a m b n : ℕ) → IsText s a (suc m) → IsText s b (suc n) → byte_at s a ≡ byte_at s b → SameText s (following a) m (following b) n → SameText s a (suc m) b (suc n)
same_before s a m b n t u first q = let e = q.0 in (omega (arith, e), each)
  where
    each : (i : ℕ) → i < suc m → byte_at s (a + i) ≡ byte_at s (b + i)
    each zero lt = let at_a : a + 0 ≡ a = omega arith in let at_b : b ≡ b + 0 = omega arith in ap (byte_at s) at_a ∙ first ∙ ap (byte_at s) at_b
    each (suc i) lt = sym (on_by_one s a m i t) ∙ q.1 i (omega (arith, lt)) ∙ on_by_one s b n i u

module _ (s : KernelState) (bytes : InBytes s.memory) where
  -- two bytes are read
  abbrev seen : (f a b : ℕ) → Stay
  seen f a b = both f s a b (byte_at s a) (byte_at s b)

  read : (f a b : ℕ) → user a ≡ true → user b ≡ true
      → compare_texts (suc f) s a b ≡ Touch 1 (Touch 1 (seen f a b))
  read f a b u w =
      let rest : Stay = seen f a b in
      ap (λ c. Touch 1 (if c then Touch 1 (if user b then rest else bad_pointer s b) else bad_pointer s a)) u ∙ ap (λ c. Touch 1 (Touch 1 (if c then rest else bad_pointer s b))) w

  both_end : (f a b : ℕ) → byte_at s a ≡ 0 → byte_at s a ≡ byte_at s b
      → Touch 1 (Touch 1 (seen f a b))
      ≡ behind_bytes 2 (answered s 0)
  both_end f a b z e =
      let more : Stay = compare_texts f s (following a) (following b) in
      let other : Stay = answered s (difference (byte_at s a) (byte_at s b)) in
      ap (λ c. Touch 1 (Touch 1 (if c then (if nat_eq (byte_at s a) 0 then answered s 0 else more) else other))) (eq-eqb _ _ e)
      ∙ ap (λ c. Touch 1 (Touch 1 (if c then answered s 0 else more))) (eq-eqb _ _ z)

  goes_on : (f a b : ℕ) → (byte_at s a ≡ 0 → ⊥) → byte_at s a ≡ byte_at s b
      → Touch 1 (Touch 1 (seen f a b))
      ≡ Touch 1 (Touch 1 (compare_texts f s (following a) (following b)))
  goes_on f a b nz e =
      let more : Stay = compare_texts f s (following a) (following b) in
      let other : Stay = answered s (difference (byte_at s a) (byte_at s b)) in
      ap (λ c. Touch 1 (Touch 1 (if c then (if nat_eq (byte_at s a) 0 then answered s 0 else more) else other))) (eq-eqb _ _ e)
      ∙ ap (λ c. Touch 1 (Touch 1 (if c then answered s 0 else more))) (ne_eqb _ _ nz)

  -- they differ
  differ : (f m n a b : ℕ) → user a ≡ true → user b ≡ true → (byte_at s a ≡ byte_at s b → ⊥) → (SameText s a m b n → ⊥) → Tells s a m b n (compare_texts (suc f) s a b)
  differ f m n a b u w ne never =
      let x : ℕ = byte_at s a in
      let y : ℕ = byte_at s b in
      let more : Stay = if nat_eq x 0 then answered s 0 else compare_texts f s (following a) (following b) in
      record {
        bytes = 2;
        answer = difference x y;
        is = read f a b u w ∙ ap (λ c. Touch 1 (Touch 1 (if c then more else answered s (difference x y)))) (ne_eqb x y ne);
        equal = λ e. absurd (ne (no_difference x y (bytes _) (bytes _) e));
        zero = λ q. absurd (never q);
      }

  -- they are equal, and more follow, or they differ
  longer : (f m n a b : ℕ) → IsText s a (suc m) → IsText s b (suc n) → (c : Bool) → nat_eq (byte_at s a) (byte_at s b) ≡ c
      → Tells s (following a) m (following b) n (compare_texts f s (following a) (following b)) → Tells s a (suc m) b (suc n) (compare_texts (suc f) s a b)
  longer f m n a b t u true e h = record {
    bytes = suc (suc h.bytes);
    answer = h.answer;
    is = read f a b (first_within s a (suc m) t) (first_within s b (suc n) u) ∙ goes_on f a b (first_is s a m t) (eqb-true _ _ e) ∙ ap (λ k. Touch 1 (Touch 1 k)) h.is;
    equal = λ z. same_before s a m b n t u (eqb-true _ _ e) (h.equal z);
    zero = λ q. h.zero (same_behind s a m b n t u q);
  }
  longer f m n a b t u false e h =
      let ne : byte_at s a ≡ byte_at s b → ⊥ = λ q. false≢true (sym e ∙ eq-eqb _ _ q) in
      differ f (suc m) (suc n) a b (first_within s a (suc m) t) (first_within s b (suc n) u) ne (λ q. ne (same_first s a m b n q))

  tells : (f m n a b : ℕ) → IsText s a m → IsText s b n → m < f → Tells s a m b n (compare_texts f s a b)
  tells zero m n a b t u lt = absurd (omega (arith, lt))
  tells (suc f) zero zero a b t u lt =
      let z = end_is s a t in
      record {
        bytes = 2;
        answer = 0;
        is = read f a b (first_within s a 0 t) (first_within s b 0 u) ∙ both_end f a b z (z ∙ sym (end_is s b u));
        equal = λ e. (refl, λ i low. absurd (omega (arith, low)));
        zero = λ q. refl;
      }
  tells (suc f) zero (suc n) a b t u lt =
      differ f 0 (suc n) a b (first_within s a 0 t) (first_within s b (suc n) u) (λ e. first_is s b n u (sym e ∙ end_is s a t)) (λ q. let e = q.0 in absurd (omega (arith, e)))
  tells (suc f) (suc m) zero a b t u lt =
      differ f (suc m) 0 a b (first_within s a (suc m) t) (first_within s b 0 u) (λ e. first_is s a m t (e ∙ end_is s b u)) (λ q. let e = q.0 in absurd (omega (arith, e)))
  tells (suc f) (suc m) (suc n) a b t u lt =
      longer f m n a b t u (nat_eq (byte_at s a) (byte_at s b)) refl (tells f m n (following a) (following b) (text_behind s a m t) (text_behind s b n u) (omega (arith, lt)))

pub strcmp_tells : StrcmpTells
strcmp_tells s m n bytes t u =
    let r = registers_of s in
    let go : Stay = compare_texts longest s r.r4 r.r5 in
    let is = none_null r.r4 r.r5 (answered s 0) go (text_there s r.r4 m t) (text_there s r.r5 n u) in
    subst (Tells s r.r4 m r.r5 n) (sym is) (tells s bytes longest m n r.r4 r.r5 t u (text_short s r.r4 m t))
