-- memset and memcpy leave the bytes that they are to leave.
use Rattle.std.proofs.Common.{◌≡◌, ◌≢◌, ℕ, zero, suc, ◌+◌, ◌-◌, ◌*◌, ◌/◌, ◌%◌, ◌^◌, ◌<◌, ◌≤◌, true, false, refl, sym, ap, ◌∙◌, subst, arith, ⊎_elim, ne_eqb}
use Rattle.std.specs.Prelude.{nat_eq, ◌||◌, if◌then◌else◌}
use Rattle.std.proofs.lemmas.Bool.{cases_lt, cases_Bool, false≢true}
use Rattle.psx_base.specs.Addresses.{place, user}
use Rattle.psx_base.specs.Memory.{Memory, byte, put_byte}
use Rattle.psx_base.specs.KernelState.{KernelState}
use Rattle.psx_ram.proofs.Laws.{byte-put_byte_apart, byte-put_byte_same}
use Rattle.abs_kernel.specs.Stay.{Stay}
use Rattle.abs_kernel.specs.StayLaws.{EachReturn}
use Rattle.abs_kernel.specs.Answered.{registers_of, answered}
use Rattle.abs_kernel.specs.UserBytes.{bad_pointer, count_of, following}
use Rattle.abs_kernel.specs.Memset.{fill}
use Rattle.abs_kernel.specs.Memcpy.{copy_bytes}
use Rattle.kern_mem.specs.Laws.{byte_place, Written, MemsetFills, NoneShared, MemcpyCopies}

-- ---- places

-- a user address is a word, and its place its low 29 bits
pub user_small : (a : ℕ) → user a ≡ true → a < 0xC0000000
unfolding user
user_small a u = grind arith

pub user_low : (a : ℕ) → user a ≡ true → place a ≡ a % 2 ^ 29
unfolding user
user_low a u = grind arith

-- where a segment begins, no user memory stands
no_user : (q : ℕ) → user (q * 2 ^ 29) ≡ false
unfolding user
no_user q = grind arith

-- two bytes of a range of user memory have two places
differ : (x y : ℕ) → x < y → ((z : ℕ) → x ≤ z → z ≤ y → user z ≡ true) → place x ≢ place y
differ x y lt good e =
    let q : ℕ = x / 2 ^ 29 + 1 in
    let px = user_low x (good x (omega arith) (omega (arith, lt))) in
    let py = user_low y (good y (omega (arith, lt)) (omega arith)) in
    ⊎_elim
    (λ (near : y < q * 2 ^ 29). omega (arith, px, py, e, lt, near))
    (λ (far : q * 2 ^ 29 ≤ y). false≢true (sym (no_user q) ∙ good (q * 2 ^ 29) (omega arith) far))
    (cases_lt y (q * 2 ^ 29))

-- ---- k bytes from d on are written

record Upto (m : Memory) (d : ℕ) (value : ℕ → ℕ) (k : ℕ) (n : Memory) : Type 0 where
  bytes : (i : ℕ) → i < k → byte n (place (d + i)) ≡ value i
  others : (p : ℕ) → ((i : ℕ) → i < k → p ≢ place (d + i)) → byte n p ≡ byte m p
  good : (i : ℕ) → i < k → user (d + i) ≡ true

upto_none : (m : Memory) (d : ℕ) (value : ℕ → ℕ) → Upto m d value 0 m
upto_none m d value = record { bytes = λ i lt. absurd (omega (arith, lt)); others = λ p h. refl; good = λ i lt. absurd (omega (arith, lt)) }

upto_more : (m : Memory) (d : ℕ) (value : ℕ → ℕ) (k : ℕ) (n : Memory) → Upto m d value k n → user (d + k) ≡ true → Upto m d value (k + 1) (put_byte n (place (d + k)) (value k))
upto_more m d value k n h u =
    let good : (i : ℕ) → i < k + 1 → user (d + i) ≡ true
    = λ i lt. ⊎_elim (λ (l : i < k). h.good i l) (λ (g : k ≤ i). (let e : i ≡ k = omega (arith, lt, g) in subst (λ j. user (d + j) ≡ true) (sym e) u)) (cases_lt i k) in
    let apart : (i : ℕ) → i < k → place (d + i) ≢ place (d + k) = λ i lt. differ (d + i) (d + k) (omega (arith, lt))
    (λ z lo up. (let e : d + (z - d) ≡ z = omega (arith, lo) in subst (λ y. user y ≡ true) e (good (z - d) (omega (arith, lo, up))))) in
    record {
      bytes = λ i lt. ⊎_elim
          (λ (l : i < k). byte-put_byte_apart n (place (d + k)) (value k) (place (d + i)) (apart i l) ∙ h.bytes i l)
          (λ (g : k ≤ i). (let e : i ≡ k = omega (arith, lt, g) in
          subst (λ j. byte (put_byte n (place (d + k)) (value k)) (place (d + j)) ≡ value j) (sym e) (byte-put_byte_same n (place (d + k)) (value k))))
          (cases_lt i k);
      others = λ p out. byte-put_byte_apart n (place (d + k)) (value k) p (out k (omega arith)) ∙ h.others p (λ i lt. out i (omega (arith, lt)));
      good = good;
    }

-- the next address, behind a byte of user memory
follows : (d k : ℕ) → user (d + k) ≡ true → following (d + k) ≡ d + (k + 1)
follows d k u = let small = user_small (d + k) u in omega (arith, small)

-- where all are written, the call is done
done : (s : KernelState) (d n : ℕ) (value : ℕ → ℕ) (m : Memory) → Upto s.memory d value n m → EachReturn (λ t. Written s d n value t) (answered (record s { memory = m }) d)
done s d n value m h =
    let here : (i : ℕ) → i < n → byte_place d i ≡ place (d + i) = λ i lt. (let small = user_small (d + i) (h.good i lt) in let e : (d + i) % 2 ^ 32 ≡ d + i = omega (arith, small) in ap place e) in
    record {
      bytes = λ i lt. ap (byte m) (here i lt) ∙ h.bytes i lt;
      others = λ p out. h.others p (λ i lt e. out i lt (e ∙ sym (here i lt)));
      answer = refl;
      rest = refl;
    }

-- a stay that goes on at a byte of user memory, or stops
if_user : (at : ℕ) (P : KernelState → Type 0) (x : Stay) (s : KernelState) → (user at ≡ true → EachReturn P x) → EachReturn P (if user at then x else bad_pointer s at)
if_user at P x s h = ⊎_elim
    (λ (u : user at ≡ true). subst (λ b. EachReturn P (if b then x else bad_pointer s at)) (sym u) (h u))
    (λ (u : user at ≡ false). subst (λ b. EachReturn P (if b then x else bad_pointer s at)) (sym u) tt)
    (cases_Bool (user at))

-- ---- memset

filled : (s : KernelState) (d v n k j : ℕ) (m : Memory) → k + j ≡ n → Upto s.memory d (λ i. v) k m
    → EachReturn (λ t. Written s d n (λ i. v) t) (fill j (record s { memory = m }) (d + k) v (λ t. answered t d))
filled s d v n k zero m e h = let same : k ≡ n = omega (arith, e) in done s d n (λ i. v) m (subst (λ x. Upto s.memory d (λ i. v) x m) same h)
filled s d v n k (suc j) m e h = if_user (d + k) (λ t. Written s d n (λ i. v) t) _ (record s { memory = m }) (λ u.
    let w : Memory = put_byte m (place (d + k)) v in
    subst (λ x. EachReturn (λ t. Written s d n (λ i. v) t) (fill j (record s { memory = w }) x v (λ t. answered t d))) (sym (follows d k u))
    (filled s d v n (k + 1) j w (omega (arith, e)) (upto_more s.memory d (λ i. v) k m h u)))

pub memset_fills : MemsetFills
memset_fills s ne =
    let r = registers_of s in
    let n : ℕ = count_of r.r6 in
    let v : ℕ = r.r5 % 2 ^ 8 in
    let P : KernelState → Type 0 = λ t. Written s r.r4 n (λ i. v) t in
    let zero_on : r.r4 + 0 ≡ r.r4 = omega arith in
    subst (λ b. EachReturn P (if b then answered s 0 else fill n s r.r4 v (λ t. answered t r.r4))) (sym (ne_eqb r.r4 0 ne))
    (subst (λ x. EachReturn P (fill n s x v (λ t. answered t r.r4))) zero_on (filled s r.r4 v n 0 n s.memory (omega arith) (upto_none s.memory r.r4 (λ i. v))))

-- ---- memcpy

module _ (s : KernelState) (d from n : ℕ) (none : NoneShared d from n) where
  abbrev value : ℕ → ℕ
  value i = byte s.memory (byte_place from i) % 2 ^ 8

  -- byte k of the source is as it was
  unwritten : (k : ℕ) (m : Memory) → k < n → Upto s.memory d value k m → user (from + k) ≡ true → byte m (place (from + k)) ≡ byte s.memory (byte_place from k)
  unwritten k m lt h u =
      let small = user_small (from + k) u in
      let e : (from + k) % 2 ^ 32 ≡ from + k = omega (arith, small) in
      ap (λ x. byte m (place x)) (sym e) ∙ h.others (byte_place from k) (λ i less q.
      let near = user_small (d + i) (h.good i less) in
      let f : (d + i) % 2 ^ 32 ≡ d + i = omega (arith, near) in
      none k i lt (omega (arith, less, lt)) (q ∙ sym (ap place f)))

  copied : (k j : ℕ) (m : Memory) → k + j ≡ n → Upto s.memory d value k m → EachReturn (λ t. Written s d n value t) (copy_bytes j (record s { memory = m }) (d + k) (from + k) (λ t. answered t d))
  copied k zero m e h = let same : k ≡ n = omega (arith, e) in done s d n value m (subst (λ x. Upto s.memory d value x m) same h)
  copied k (suc j) m e h = if_user (from + k) (λ t. Written s d n value t) _ (record s { memory = m }) (λ u. if_user (d + k) (λ t. Written s d n value t) _ (record s { memory = m }) (λ v.
      let b : ℕ = byte m (place (from + k)) in
      let w : Memory = put_byte m (place (d + k)) (b % 2 ^ 8) in
      let is : b % 2 ^ 8 ≡ value k = ap (λ x. x % 2 ^ 8) (unwritten k m (omega (arith, e)) h u) in
      let on : Upto s.memory d value (k + 1) w = subst (λ x. Upto s.memory d value (k + 1) (put_byte m (place (d + k)) x)) (sym is) (upto_more s.memory d value k m h v) in
      subst (λ x. EachReturn (λ t. Written s d n value t) (copy_bytes j (record s { memory = w }) x (following (from + k)) (λ t. answered t d))) (sym (follows d k v))
      (subst (λ x. EachReturn (λ t. Written s d n value t) (copy_bytes j (record s { memory = w }) (d + (k + 1)) x (λ t. answered t d))) (sym (follows from k u))
      (copied (k + 1) j w (omega (arith, e)) on))))

pub memcpy_copies : MemcpyCopies
memcpy_copies s nd ns none =
    let r = registers_of s in
    let n : ℕ = count_of r.r6 in
    let P : KernelState → Type 0 = λ t. Written s r.r4 n (value s r.r4 r.r5 n none) t in
    let go : Stay = copy_bytes n s r.r4 r.r5 (λ t. answered t r.r4) in
    let first : r.r4 + 0 ≡ r.r4 = omega arith in
    let other : r.r5 + 0 ≡ r.r5 = omega arith in
    let all = copied s r.r4 r.r5 n none 0 n s.memory (omega arith) (upto_none s.memory r.r4 (value s r.r4 r.r5 n none)) in
    let at_d = subst (λ x. EachReturn P (copy_bytes n s x (r.r5 + 0) (λ t. answered t r.r4))) first all in
    subst (λ b. EachReturn P (if b || nat_eq r.r5 0 then answered s 0 else go)) (sym (ne_eqb r.r4 0 nd))
    (subst (λ b. EachReturn P (if b then answered s 0 else go)) (sym (ne_eqb r.r5 0 ns)) (subst (λ x. EachReturn P (copy_bytes n s r.r4 x (λ t. answered t r.r4))) other at_d))
