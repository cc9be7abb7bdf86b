-- Results of arithmetic that are words.
use Rattle.std.proofs.Common.{◌≡◌, ℕ, zero, suc, ◌-◌, ◌*◌, ◌/◌, ◌%◌, ◌^◌, ◌<◌, ◌≤◌, Bool, true, false, refl, sym, subst, arith}
use Rattle.std.specs.Prelude.{if◌then◌else◌, nat_lt, ℤ, pos, negsuc, neg_ℤ, nat_abs, int_div, int_rem, ◌*ℤ◌}
use Rattle.std.specs.Int.{w32, w64, cast_unsigned}
use native.Mathlib.Nat.{mod-le, div-le_self, mul-le-mul}
use Rattle.psx_cpu.specs.Words.{signed, byte_extended, sign_extended, truth, shifted_signed, quotient, remainder, quotient_signed, remainder_signed}
use Rattle.psx_cpu.specs.DataAccess.{loaded_left, loaded_right, stored_left, stored_right}
use Rattle.kern_layout.specs.Fits.{IsWord}

pub mod-word : (x : ℕ) → IsWord (x % 2 ^ 32)
mod-word x = omega arith

pub div-word : (x k : ℕ) → IsWord x → IsWord (x / k)
div-word x k h = let e = div-le_self x k in omega (arith, e)

pub if-word : (b : Bool) (x y : ℕ) → IsWord x → IsWord y → IsWord (if b then x else y)
if-word true x y h g = h
if-word false x y h g = g

pub truth-word : (b : Bool) → IsWord (truth b)
truth-word true = omega arith
truth-word false = omega arith

pub shifted-word : (t n : ℕ) → IsWord t → IsWord (shifted_signed t n)
shifted-word t n h = if-word (nat_lt t (2 ^ 31)) _ _ (div-word t (2 ^ n) h) (omega arith)

pub sign-word : (v : ℕ) → v < 2 ^ 16 → IsWord (sign_extended v)
sign-word v h = if-word (nat_lt v (2 ^ 15)) _ _ (omega arith) (omega arith)

pub byte-word : (v : ℕ) → v < 2 ^ 8 → IsWord (byte_extended v)
byte-word v h = if-word (nat_lt v (2 ^ 7)) _ _ (omega arith) (omega arith)

pub quotient-word : (s t : ℕ) → IsWord s → IsWord (quotient s t)
quotient-word s zero h = omega arith
quotient-word s (suc t) h = div-word s (suc t) h

pub remainder-word : (s t : ℕ) → IsWord s → IsWord (remainder s t)
remainder-word s zero h = h
remainder-word s (suc t) h = let e = mod-le s (suc t) in omega (arith, e)

-- ---- signed

abs-neg : (n : ℕ) → nat_abs (neg_ℤ (pos n)) ≡ n
abs-neg zero = refl
abs-neg (suc n) = refl

cast-32 : (z : ℤ) → nat_abs z < 2 ^ 32 → IsWord (cast_unsigned w32 z)
cast-32 (pos n) h = h
cast-32 (negsuc n) h = omega arith

cast-64 : (z : ℤ) → nat_abs z < 2 ^ 64 → cast_unsigned w64 z < 2 ^ 64
cast-64 (pos n) h = h
cast-64 (negsuc n) h = omega arith

signed-abs : (n : ℕ) → IsWord n → nat_abs (signed n) ≤ 2 ^ 31
signed-abs n h = grind arith

quot-abs : (a b : ℤ) → nat_abs (int_div a b) ≤ nat_abs a
quot-abs (pos a) (pos b) = div-le_self a b
quot-abs (pos a) (negsuc b) = subst (λ (x : ℕ). x ≤ a) (sym (abs-neg (a / suc b))) (div-le_self a (suc b))
quot-abs (negsuc a) (pos b) = subst (λ (x : ℕ). x ≤ suc a) (sym (abs-neg (suc a / b))) (div-le_self (suc a) b)
quot-abs (negsuc a) (negsuc b) = div-le_self (suc a) (suc b)

rem-abs : (a d : ℤ) → nat_abs (int_rem a d) ≤ nat_abs a
rem-abs (pos a) d = mod-le a (nat_abs d)
rem-abs (negsuc a) d = subst (λ (x : ℕ). x ≤ suc a) (sym (abs-neg (suc a % nat_abs d))) (mod-le (suc a) (nat_abs d))

mul-abs : (a b : ℤ) → nat_abs (a *ℤ b) ≡ nat_abs a * nat_abs b
mul-abs (pos a) (pos b) = refl
mul-abs (pos a) (negsuc b) = abs-neg (a * suc b)
mul-abs (negsuc a) (pos b) = abs-neg (suc a * b)
mul-abs (negsuc a) (negsuc b) = refl

pub quotient_signed-word : (s t : ℕ) → IsWord s → IsWord (quotient_signed s t)
quotient_signed-word s zero h = if-word (nat_lt s (2 ^ 31)) _ _ (omega arith) (omega arith)
quotient_signed-word s (suc t) h =
    let small = signed-abs s h in
    let less = quot-abs (signed s) (signed (suc t)) in
    cast-32 (int_div (signed s) (signed (suc t))) (omega (arith, small, less))

pub remainder_signed-word : (s t : ℕ) → IsWord s → IsWord (remainder_signed s t)
remainder_signed-word s zero h = h
remainder_signed-word s (suc t) h =
    let small = signed-abs s h in
    let less = rem-abs (signed s) (signed (suc t)) in
    cast-32 (int_rem (signed s) (signed (suc t))) (omega (arith, small, less))

pub product-word : (s t : ℕ) → IsWord s → IsWord t → IsWord (cast_unsigned w64 (signed s *ℤ signed t) / 2 ^ 32)
product-word s t h g =
    let bound : nat_abs (signed s) * nat_abs (signed t) ≤ 2 ^ 31 * 2 ^ 31 = mul-le-mul (signed-abs s h) (signed-abs t g) in
    let same = mul-abs (signed s) (signed t) in
    let low : cast_unsigned w64 (signed s *ℤ signed t) < 2 ^ 64 = cast-64 (signed s *ℤ signed t) (omega (arith, bound, same)) in
    omega (arith, low)

pub product_unsigned-word : (s t : ℕ) → IsWord s → IsWord t → IsWord (s * t / 2 ^ 32)
product_unsigned-word s t h g =
    let bound : s * t ≤ (2 ^ 32 - 1) * (2 ^ 32 - 1) = mul-le-mul {n₁ = s} {m₁ = t} {n₂ = 2 ^ 32 - 1} {m₂ = 2 ^ 32 - 1} (omega arith) (omega arith) in
    omega (arith, bound)

-- ---- parts of words, by the low two bits of an address

abbrev AllFour : (ℕ → Type 0) → Type 0
AllFour P = P 0 × P 1 × P 2 × P 3

four : (P : ℕ → Type 0) → AllFour P → (k : ℕ) → k < 4 → P k
four P h zero less = h.0
four P h (suc zero) less = h.1
four P h (suc (suc zero)) less = h.2
four P h (suc (suc (suc zero))) less = h.3
four P h (suc (suc (suc (suc k)))) less = absurd (omega arith)

pub loaded_left-word : (k t w : ℕ) → k < 4 → IsWord t → IsWord w → IsWord (loaded_left k t w)
loaded_left-word k t w less h g = four (λ (j : ℕ). IsWord (loaded_left j t w)) (omega arith, omega arith, omega arith, omega arith) k less

pub loaded_right-word : (k t w : ℕ) → k < 4 → IsWord t → IsWord w → IsWord (loaded_right k t w)
loaded_right-word k t w less h g = four (λ (j : ℕ). IsWord (loaded_right j t w)) (omega arith, omega arith, omega arith, omega arith) k less

pub stored_left-word : (k t w : ℕ) → k < 4 → IsWord t → IsWord w → IsWord (stored_left k t w)
stored_left-word k t w less h g = four (λ (j : ℕ). IsWord (stored_left j t w)) (omega arith, omega arith, omega arith, omega arith) k less

pub stored_right-word : (k t w : ℕ) → k < 4 → IsWord t → IsWord w → IsWord (stored_right k t w)
stored_right-word k t w less h g = four (λ (j : ℕ). IsWord (stored_right j t w)) (omega arith, omega arith, omega arith, omega arith) k less
