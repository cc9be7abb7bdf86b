-- What strtok gives over its calls are the maximal runs of bytes that aren't in the set.
use Rattle.std.proofs.Common.{◌≡◌, ◌≢◌, ℕ, zero, suc, ◌+◌, ◌-◌, ◌%◌, ◌^◌, ◌<◌, ◌≤◌, Bool, true, false, List, [], ◌∷◌, ◌++◌, length, refl, sym, ap, ◌∙◌, subst, arith, ⊎_elim, eq-eqb, ne_eqb}
use Rattle.std.specs.Prelude.{nat_eq, ◌||◌, if◌then◌else◌}
use Rattle.std.proofs.lemmas.Bool.{cases_lt, false≢true}
use Rattle.psx_base.specs.Addresses.{place, user}
use Rattle.psx_base.specs.Memory.{Memory, byte, put_byte}
use Rattle.psx_base.specs.KernelState.{KernelState}
use Rattle.psx_ram.proofs.Laws.{byte-put_byte_apart, byte-put_byte_same}
use Rattle.abs_kernel.specs.Stay.{Stay}
use Rattle.abs_kernel.specs.Answered.{registers_of, answered}
use Rattle.abs_kernel.specs.UserBytes.{reads_byte, bad_pointer, with_byte, following, longest}
use Rattle.abs_kernel.specs.ByteSets.{in_set, skips}
use Rattle.abs_kernel.specs.Strtok.{with_place, next_token, strtok}
use Rattle.abs_kernel.specs.Played.{Played, played}
use Rattle.kern_stay.specs.Room.{room}
use Rattle.kern_stay.proofs.RoomLeft.{room_is_left, room_few}
use Rattle.kern_text.proofs.A23Strtok.{behind_token, behind_bytes}
use Rattle.kern_text.specs.TokenLaws.{TextAt, Away, NoneShared, is_among, runs, GivesTexts, TokensAreRuns}

-- ---- addresses of user memory

user_low : (a : ℕ) → user a ≡ true → a < 0xC0000000
unfolding user
user_low a u = grind arith

pub user_some : (a : ℕ) → user a ≡ true → 0 < a
unfolding user
user_some a u = grind arith

place_low : (a : ℕ) → user a ≡ true → place a ≡ a % 2 ^ 29
unfolding user
place_low a u = grind arith

next_is : (a : ℕ) → user a ≡ true → following a ≡ a + 1
next_is a u = let low = user_low a u in omega (arith, low)

far : (a b : ℕ) → user a ≡ true → user b ≡ true → a < b → b < a + 2 ^ 29 → place b ≡ place a → ⊥
far a b u v lt up e = let p = place_low a u in let q = place_low b v in omega (arith, p, q, e, lt, up)

-- a text is short, since user memory isn't joined
all_user : (m : Memory) (at : ℕ) (xs : List ℕ) (i : ℕ) → TextAt m at xs → i ≤ length xs → user (at + i) ≡ true
all_user m at [] i t le = let e : at ≡ at + i = omega (arith, le) in subst (λ a. user a ≡ true) e t.0
all_user m at (x ∷ xs) zero t le = let e : at ≡ at + 0 = omega arith in subst (λ a. user a ≡ true) e t.0
all_user m at (x ∷ xs) (suc i) t le =
    let e : following at + i ≡ at + suc i = omega (arith, next_is at t.0) in
    subst (λ a. user a ≡ true) e (all_user m (following at) xs i t.3 (omega (arith, le)))

pub starts : (m : Memory) (at : ℕ) (xs : List ℕ) → TextAt m at xs → user at ≡ true
starts m at [] t = t.0
starts m at (x ∷ xs) t = t.0

few : (m : Memory) (at : ℕ) (xs : List ℕ) → TextAt m at xs → length xs < 0x1F0000
few m at xs t =
    let left = room_is_left at (let low = user_low at (starts m at xs t) in omega (arith, low)) in
    let most = room_few at in
    ⊎_elim (λ lt. omega (arith, lt, most)) (λ le. absurd (false≢true (sym left.bad ∙ all_user m at xs (room at) t le))) (cases_lt (length xs) (room at))

pub few_longest : (m : Memory) (at : ℕ) (xs : List ℕ) → TextAt m at xs → length xs < longest
unfolding longest
few_longest m at xs t = let h = few m at xs t in omega (arith, h)

-- ---- a byte is written elsewhere

kept_apart : (m : Memory) (p : ℕ) (at : ℕ) (xs : List ℕ) → TextAt m at xs → Away p at xs → TextAt (put_byte m p 0) at xs
kept_apart m p at [] t away = (t.0, byte-put_byte_apart m p 0 (place at) (λ e. away (sym e)) ∙ t.1)
kept_apart m p at (x ∷ xs) t away = (t.0, byte-put_byte_apart m p 0 (place at) (λ e. away.0 (sym e)) ∙ t.1, t.2, kept_apart m p (following at) xs t.3 away.1)

away_behind : (m : Memory) (p at : ℕ) (xs : List ℕ) → TextAt m at xs → user p ≡ true → p < at → at + length xs < p + 2 ^ 29 → Away (place p) at xs
away_behind m p at [] t u lt up = λ e. far p at u t.0 lt (omega (arith, up)) (sym e)
away_behind m p at (x ∷ xs) t u lt up =
    let e = next_is at t.0 in
    (λ e. far p at u t.0 lt (omega (arith, up)) (sym e), away_behind m p (following at) xs t.3 u (omega (arith, e, lt)) (omega (arith, e, up)))

-- ---- a run that is open: its bytes stand from an address up to another

abbrev Open : Memory → (start at : ℕ) → List ℕ → Type 0
Open m start at [] = start ≡ at
Open m start at (b ∷ w) = (user start ≡ true) × (byte m (place start) ≡ b) × (b ≢ 0) × Open m (following start) at w

opened : (m : Memory) (start at : ℕ) (w : List ℕ) (x : ℕ) → Open m start at w → user at ≡ true → byte m (place at) ≡ x → x ≢ 0 → Open m start (following at) (w ++ (x ∷ []))
opened m start at [] x o u e nz = (subst (λ a. user a ≡ true) (sym o) u, ap (λ a. byte m (place a)) o ∙ e, nz, ap following o)
opened m start at (b ∷ w) x o u e nz = (o.0, o.1, o.2, opened m (following start) at w x o.3 u e nz)

-- where a memory has the same bytes up to a zero, they are a text there
ended_by : (m k : Memory) (start at : ℕ) (w : List ℕ) → Open m start at w → at ≡ start + length w → user at ≡ true → byte k (place at) ≡ 0
    → ((a : ℕ) → user a ≡ true → start ≤ a → a < at → byte k (place a) ≡ byte m (place a)) → TextAt k start w
ended_by m k start at [] o far_is u z same = (subst (λ a. user a ≡ true) (sym o) u, ap (λ a. byte k (place a)) o ∙ z)
ended_by m k start at (b ∷ w) o far_is u z same =
    let e = next_is start o.0 in (
      o.0,
      same start o.0 (omega arith) (omega (arith, far_is)) ∙ o.1,
      o.2,
      ended_by m k (following start) at w o.3 (omega (arith, far_is, e)) u z (λ a v low up. same a v (omega (arith, low, e)) up),
    )

-- ---- what the definition does with a text

reads : (s : KernelState) (at : ℕ) (next : ℕ → Stay) (v : ℕ) → user at ≡ true → byte s.memory (place at) ≡ v → played (reads_byte s at next) [] ≡ played (next v) []
reads s at next v u e = ap (λ b. played (if b then next (byte s.memory (place at)) else bad_pointer s at) []) u ∙ ap (λ x. played (next x) []) e

either : (c d : Bool) (x y z : Stay) → played z [] ≡ played (if d then x else y) [] → played (if c then x else z) [] ≡ played (if c || d then x else y) []
either true d x y z h = refl
either false d x y z h = h

set_plays : (n : ℕ) (s : KernelState) (at b : ℕ) (ys : List ℕ) (found absent : Stay) → length ys < n → b ≢ 0 → TextAt s.memory at ys
    → played (in_set n s at b found absent) [] ≡ played (if is_among b ys then found else absent) []
set_plays zero s at b ys found absent lt nz t = absurd (omega (arith, lt))
set_plays (suc n) s at b [] found absent lt nz t =
    reads s at (λ v. if nat_eq v b then found else (if nat_eq v 0 then absent else in_set n s (following at) b found absent)) 0 t.0 t.1
    ∙ ap (λ c. played (if c then found else absent) []) (ne_eqb 0 b (λ e. nz (sym e)))
set_plays (suc n) s at b (y ∷ ys) found absent lt nz t =
    let rest = in_set n s (following at) b found absent in
    reads s at (λ v. if nat_eq v b then found else (if nat_eq v 0 then absent else rest)) y t.0 t.1
    ∙ ap (λ c. played (if nat_eq y b then found else (if c then absent else rest)) []) (ne_eqb y 0 t.2)
    ∙ either (nat_eq y b) (is_among b ys) found absent rest (set_plays n s (following at) b ys found absent (omega (arith, lt)) nz t.3)

skips_end : (inside : Bool) (n : ℕ) (s : KernelState) (set at : ℕ) (next : Bool → ℕ → Stay) → 0 < n → user at ≡ true → byte s.memory (place at) ≡ 0
    → played (skips inside n s set at next) [] ≡ played (next true at) []
skips_end inside zero s set at next lt u e = absurd (omega (arith, lt))
skips_end inside (suc n) s set at next lt u e =
    let more : Stay = skips inside n s set (following at) next in
    reads s at (λ b. if nat_eq b 0 then next true at else in_set longest s set b (if inside then more else next false at) (if inside then next false at else more)) 0 u e

skips_step : (inside : Bool) (n : ℕ) (s : KernelState) (set at x : ℕ) (ys : List ℕ) (next : Bool → ℕ → Stay) → 0 < n → user at ≡ true → byte s.memory (place at) ≡ x → x ≢ 0 → TextAt s.memory set ys
    → let more = skips inside (n - 1) s set (following at) next in
    played (skips inside n s set at next) [] ≡ played (if is_among x ys then (if inside then more else next false at) else (if inside then next false at else more)) []
skips_step inside zero s set at x ys next lt u e nz t = absurd (omega (arith, lt))
skips_step inside (suc n) s set at x ys next lt u e nz t =
    let same : n ≡ suc n - 1 = omega arith in
    let all : ℕ → Stay = λ j. if inside then skips inside j s set (following at) next else next false at in
    let none : ℕ → Stay = λ j. if inside then next false at else skips inside j s set (following at) next in
    reads s at (λ b. if nat_eq b 0 then next true at else in_set longest s set b (all n) (none n)) x u e
    ∙ ap (λ c. played (if c then next true at else in_set longest s set x (all n) (none n)) []) (ne_eqb x 0 nz)
    ∙ set_plays longest s set x ys (all n) (none n) (few_longest s.memory set ys t) nz t
    ∙ ap (λ j. played (if is_among x ys then all j else none j) []) same

-- ---- the calls

-- a call with 0 for the text begins at the place
begins : (u : KernelState) (from set : ℕ) → (registers_of u).r4 ≡ 0 → (registers_of u).r5 ≡ set → u.token ≡ from → 0 < set → 0 < from → from < 2 ^ 32 → strtok u ≡ next_token u set from
begins u from set r4 r5 place some there small =
    let b : ℕ = (registers_of u).r5 in
    let at : ℕ = u.token % 2 ^ 32 in
    ap (λ c. let x = if c then at else (registers_of u).r4 in if nat_eq b 0 || nat_eq x 0 then answered u 0 else next_token u b x) (eq-eqb (registers_of u).r4 0 r4)
    ∙ ap (λ c. if c || nat_eq at 0 then answered u 0 else next_token u b at) (ne_eqb b 0 (λ e. omega (arith, e, r5, some)))
    ∙ ap (λ c. if c then answered u 0 else next_token u b at) (ne_eqb at 0 (λ e. omega (arith, e, place, there, small)))
    ∙ ap (λ x. next_token u x at) r5 ∙ ap (next_token u set) (let e : at ≡ from = omega (arith, place, small) in e)

-- and answers 0 where the place is 0
ends : (set : ℕ) (u : KernelState) → (registers_of u).r4 ≡ 0 → u.token ≡ 0 → (registers_of u).r5 ≡ set → 0 < set → GivesTexts set [] u
ends set u r4 place r5 some =
    let b : ℕ = (registers_of u).r5 in
    let at : ℕ = u.token % 2 ^ 32 in
    let is : strtok u ≡ answered u 0 =
    ap (λ c. let x = if c then at else (registers_of u).r4 in if nat_eq b 0 || nat_eq x 0 then answered u 0 else next_token u b x) (eq-eqb (registers_of u).r4 0 r4)
    ∙ ap (λ c. if c || nat_eq at 0 then answered u 0 else next_token u b at) (ne_eqb b 0 (λ e. omega (arith, e, r5, some)))
    ∙ ap (λ c. if c then answered u 0 else next_token u b at) (eq-eqb at 0 (omega (arith, place))) in
    (_, ap (λ y. (played y []).end) is, refl)

-- and one with a text there
begins_given : (s : KernelState) → let r = registers_of s in 0 < r.r4 → 0 < r.r5 → strtok s ≡ next_token s r.r5 r.r4
begins_given s there some =
    let r = registers_of s in
    ap (λ c. let x = if c then s.token % 2 ^ 32 else r.r4 in if nat_eq r.r5 0 || nat_eq x 0 then answered s 0 else next_token s r.r5 x) (ne_eqb r.r4 0 (λ e. omega (arith, e, there)))
    ∙ ap (λ c. if c || nat_eq r.r4 0 then answered s 0 else next_token s r.r5 r.r4) (ne_eqb r.r5 0 (λ e. omega (arith, e, some)))
    ∙ ap (λ c. if c then answered s 0 else next_token s r.r5 r.r4) (ne_eqb r.r4 0 (λ e. omega (arith, e, there)))

length_more : (w : List ℕ) (x : ℕ) → length (w ++ (x ∷ [])) ≡ suc (length w)
length_more [] x = refl
length_more (b ∷ w) x = ap suc (length_more w x)

-- by a byte that is in the set or isn't
decide : (c : Bool) (P : List (List ℕ) → KernelState → Type 0) (vs ws : List (List ℕ)) (s : KernelState) (y z : Stay) (p : Played)
    → p ≡ played (if c then y else z) [] → (p ≡ played y [] → P vs s) → (p ≡ played z [] → P ws s) → P (if c then vs else ws) s
decide true P vs ws s y z p e f g = f e
decide false P vs ws s y z p e f g = g e

module _ (set : ℕ) (ys : List ℕ) (some : 0 < set) where
  -- what stands when the rest of the text begins at an address
  record Stands (s : KernelState) (at : ℕ) (xs : List ℕ) : Type 0 where
    text : TextAt s.memory at xs
    bytes : TextAt s.memory set ys
    apart : NoneShared at xs set ys

  mutual
    -- before a run
    before : (xs : List ℕ) (n : ℕ) (s : KernelState) (at : ℕ) → Stands s at xs → length xs < n
        → played (strtok s) [] ≡ played (skips true n s set at (behind_bytes s set)) [] → GivesTexts set (runs ys [] xs) s
    before [] n s at h lt is = (_, ap (λ p. p.end) (is ∙ skips_end true n s set at (behind_bytes s set) lt h.text.0 h.text.1), refl)
    before (x ∷ xs) n s at h lt is =
        let t = h.text in
        let all = is ∙ skips_step true n s set at x ys (behind_bytes s set) (omega (arith, lt)) t.0 t.1 t.2 h.bytes in
        decide (is_among x ys) (GivesTexts set) (runs ys [] xs) (runs ys (x ∷ []) xs) s
        (skips true (n - 1) s set (following at) (behind_bytes s set)) (behind_bytes s set false at) (played (strtok s) []) all
        (λ e. before xs (n - 1) s (following at) (record { text = t.3; bytes = h.bytes; apart = h.apart.1 }) (omega (arith, lt)) e)
        (λ e. inside xs longest s (following at) at x [] (record { text = t.3; bytes = h.bytes; apart = h.apart.1 }) (few_longest s.memory (following at) xs t.3)
        (t.0, t.1, t.2, refl) (omega (arith, next_is at t.0)) (let f = few s.memory (following at) xs t.3 in omega (arith, f)) e)

    -- behind the bytes b and w of one, which began at an address
    inside : (xs : List ℕ) (n : ℕ) (s : KernelState) (at start b : ℕ) (w : List ℕ) → Stands s at xs → length xs < n → Open s.memory start at (b ∷ w)
        → at ≡ start + length (b ∷ w) → length (b ∷ w) + length xs < 2 ^ 29
        → played (strtok s) [] ≡ played (skips false n s set at (behind_token s start)) [] → GivesTexts set (runs ys (b ∷ w) xs) s
    inside [] n s at start b w h lt o far_is short is = (
      _,
      ap (λ p. p.end) (is ∙ skips_end false n s set at (behind_token s start) lt h.text.0 h.text.1),
      ended_by s.memory s.memory start at (b ∷ w) o far_is h.text.0 h.text.1 (λ a v low up. refl),
      λ u again. ends set u again.r4 again.token again.r5 some,
    )
    inside (x ∷ xs) n s at start b w h lt o far_is short is =
        let t = h.text in
        let next : ℕ = following at in
        let e = next_is at t.0 in
        let all = is ∙ skips_step false n s set at x ys (behind_token s start) (omega (arith, lt)) t.0 t.1 t.2 h.bytes in
        let m : Memory = put_byte s.memory (place at) 0 in
        let there = starts s.memory next xs t.3 in
        let rest_few = few s.memory next xs t.3 in
        decide (is_among x ys) (GivesTexts set) ((b ∷ w) ∷ runs ys [] xs) (runs ys (b ∷ (w ++ (x ∷ []))) xs) s
        (behind_token s start false at) (skips false (n - 1) s set next (behind_token s start)) (played (strtok s) []) all
        (λ q. (
          _,
          ap (λ p. p.end) (q ∙ ap (λ c. played (if c then answered (with_place (with_byte s at 0) next) start else bad_pointer s at) []) t.0),
          ended_by s.memory m start at (b ∷ w) o far_is t.0 (byte-put_byte_same s.memory (place at) 0)
              (λ a v low up. byte-put_byte_apart s.memory (place at) 0 (place a) (λ p. far a at v t.0 up (omega (arith, low, far_is, short)) (sym p))),
          λ u again.
              let same : TextAt u.memory next xs =
              subst (λ k. TextAt k next xs) (sym again.memory)
              (kept_apart s.memory (place at) next xs t.3 (away_behind s.memory at next xs t.3 t.0 (omega (arith, e)) (omega (arith, e, rest_few)))) in
              let bytes : TextAt u.memory set ys = subst (λ k. TextAt k set ys) (sym again.memory) (kept_apart s.memory (place at) set ys h.bytes h.apart.0) in
              before xs longest u next (record { text = same; bytes = bytes; apart = h.apart.1 }) (few_longest u.memory next xs same)
              (ap (λ y. played y []) (begins u next set again.r4 again.r5 again.token some (user_some next there) (let low = user_low next there in omega (arith, low)))),
        ))
        (λ q. inside xs (n - 1) s next start b (w ++ (x ∷ [])) (record { text = t.3; bytes = h.bytes; apart = h.apart.1 }) (omega (arith, lt)) (opened s.memory start at (b ∷ w) x o t.0 t.1 t.2)
        (omega (arith, far_is, e, length_more w x)) (omega (arith, short, length_more w x)) q)

pub tokens_are_runs : TokensAreRuns
tokens_are_runs s xs ys text bytes apart =
    let r = registers_of s in
    let there = starts s.memory r.r4 xs text in
    let set_there = starts s.memory r.r5 ys bytes in
    let some = user_some r.r5 set_there in
    before r.r5 ys some xs longest s r.r4 (record { text = text; bytes = bytes; apart = apart }) (few_longest s.memory r.r4 xs text)
    (ap (λ y. played y []) (begins_given s (user_some r.r4 there) some))
