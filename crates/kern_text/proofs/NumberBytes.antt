-- The bytes of a number as the words look at them, and the definition byte by byte.
use Rattle.psx_flow.proofs.Kit.{◌≡◌, ℕ, suc, ◌+◌, ◌-◌, ◌%◌, ◌^◌, ◌<◌, ◌≤◌, List, [], ◌∷◌, true, false, refl, sym, ap, ◌∙◌, arith, ⊎_elim}
use Rattle.std.proofs.Common.{zero, Bool, eq-eqb, ne_eqb, tests, rules}
use Rattle.std.specs.Prelude.{nat_eq, nat_lt, if◌then◌else◌}
use Rattle.std.proofs.lemmas.Bool.{cases_lt, cases_eq, lt-ltb}
use Rattle.psx_base.specs.KernelState.{KernelState}
use Rattle.psx_cpu.specs.Words.{truth}
use Rattle.abs_kernel.specs.Stay.{Stay}
use Rattle.abs_kernel.specs.UserBytes.{reads_byte, following}
use Rattle.abs_kernel.specs.Strtol.{is_blank, passes_blanks, digit_of, takes_digits}

-- ---- tests of ranges

pub not_below : (x y : ℕ) → y ≤ x → nat_lt x y ≡ false
not_below x y h = grind arith

pub one : (x y : ℕ) → x < y → truth (nat_lt x y) ≡ 1
one x y h = ap truth (lt-ltb x y h)

pub none : (x y : ℕ) → y ≤ x → truth (nat_lt x y) ≡ 0
none x y h = ap truth (not_below x y h)

-- 1 for a byte from one on and below another, as two tests and a difference make it
abbrev pub between : (from to b : ℕ) → ℕ
between from to b = (truth (nat_lt b to) + 2 ^ 32 - truth (nat_lt b from)) % 2 ^ 32

-- for one byte alone
pub is_one : (c b : ℕ) → between c (c + 1) b ≡ truth (nat_eq b c)
is_one c b =
    ⊎_elim (λ lt. let x = one b (c + 1) (omega (arith, lt)) in let y = one b c lt in let e = ap truth (ne_eqb b c (λ q. omega (arith, q, lt))) in omega (arith, x, y, e))
    (λ ge. ⊎_elim (λ (is : b ≡ c). let x = one b (c + 1) (omega (arith, is)) in let y = none b c ge in let e = ap truth (eq-eqb b c is) in omega (arith, x, y, e))
    (λ (isnt : b ≡ c → ⊥). let x = none b (c + 1) (omega (arith, ge, isnt)) in let y = none b c ge in let e = ap truth (ne_eqb b c isnt) in omega (arith, x, y, e)) (cases_eq b c))
    (cases_lt b c)

-- ---- blanks

abbrev pub blank_flag : ℕ → ℕ
blank_flag b = ((between 0x09 0x0E b + truth (nat_lt b 0x21)) % 2 ^ 32 + 2 ^ 32 - truth (nat_lt b 0x20)) % 2 ^ 32

blank_low : (b : ℕ) → b < 0x09 → is_blank b ≡ false
blank_low b h = search (tests, arith, rules)

blank_first : (b : ℕ) → 0x09 ≤ b → b < 0x0E → is_blank b ≡ true
blank_first b h g = search (tests, arith, rules)

blank_between : (b : ℕ) → 0x0E ≤ b → b < 0x20 → is_blank b ≡ false
blank_between b h g = search (tests, arith, rules)

blank_high : (b : ℕ) → 0x21 ≤ b → is_blank b ≡ false
blank_high b h = search (tests, arith, rules)

pub blank_is : (b : ℕ) → truth (is_blank b) ≡ blank_flag b
blank_is b =
    ⊎_elim (λ l. let p = one b 0x09 l in let q = one b 0x0E (omega (arith, l)) in let r = one b 0x20 (omega (arith, l)) in let t = one b 0x21 (omega (arith, l)) in let e = ap truth (blank_low b l) in omega (arith, p, q, r, t, e))
    (λ g. ⊎_elim (λ l. let p = none b 0x09 g in let q = one b 0x0E l in let r = one b 0x20 (omega (arith, l)) in let t = one b 0x21 (omega (arith, l)) in let e = ap truth (blank_first b g l) in omega (arith, p, q, r, t, e))
    (λ g. ⊎_elim (λ l. let p = none b 0x09 (omega (arith, g)) in let q = none b 0x0E g in let r = one b 0x20 l in let t = one b 0x21 (omega (arith, l)) in let e = ap truth (blank_between b g l) in omega (arith, p, q, r, t, e))
    (λ g. ⊎_elim (λ l. let p = none b 0x09 (omega (arith, g)) in let q = none b 0x0E (omega (arith, g)) in let r = none b 0x20 g in let t = one b 0x21 l in
    let is : b ≡ 0x20 = omega (arith, g, l) in let e : truth (is_blank b) ≡ 1 = ap (λ x. truth (is_blank x)) is in omega (arith, p, q, r, t, e))
    (λ g. let p = none b 0x09 (omega (arith, g)) in let q = none b 0x0E (omega (arith, g)) in let r = none b 0x20 (omega (arith, g)) in let t = none b 0x21 g in let e = ap truth (blank_high b g) in omega (arith, p, q, r, t, e))
    (cases_lt b 0x21)) (cases_lt b 0x20)) (cases_lt b 0x0E)) (cases_lt b 0x09)

pub yes : (b : Bool) (n : ℕ) → truth b ≡ n → (n ≡ 0 → ⊥) → b ≡ true
yes true n e ne = refl
yes false n e ne = absurd (ne (sym e))

pub no : (b : Bool) (n : ℕ) → truth b ≡ n → n ≡ 0 → b ≡ false
no false n e z = refl
no true n e z = absurd (omega (arith, e, z))

pub passes_more : (n : ℕ) (s : KernelState) (at : ℕ) (next : ℕ → ℕ → Stay) → 0 < n
    → passes_blanks n s at next ≡ reads_byte s at (λ b. if is_blank b then passes_blanks (n - 1) s (following at) next else next at b)
passes_more zero s at next h = absurd (omega arith)
passes_more (suc n) s at next h =
    let e : suc n - 1 ≡ n = omega arith in
    ap (λ j. reads_byte s at (λ b. if is_blank b then passes_blanks j s (following at) next else next at b)) (sym e)

-- ---- digits

pub digit_low : (b : ℕ) → b < 0x30 → digit_of b ≡ 36
digit_low b h = search (tests, arith, rules)

pub digit_figure : (b : ℕ) → 0x30 ≤ b → b < 0x3A → digit_of b ≡ b - 0x30
digit_figure b h g = search (tests, arith, rules)

pub digit_mark : (b : ℕ) → 0x3A ≤ b → b < 0x41 → digit_of b ≡ 36
digit_mark b h g = search (tests, arith, rules)

pub digit_capital : (b : ℕ) → 0x41 ≤ b → b < 0x5B → digit_of b ≡ b - 0x37
digit_capital b h g = search (tests, arith, rules)

pub digit_other : (b : ℕ) → 0x5B ≤ b → b < 0x61 → digit_of b ≡ 36
digit_other b h g = search (tests, arith, rules)

pub digit_small : (b : ℕ) → 0x61 ≤ b → b < 0x7B → digit_of b ≡ b - 0x57
digit_small b h g = search (tests, arith, rules)

pub digit_high : (b : ℕ) → 0x7B ≤ b → digit_of b ≡ 36
digit_high b h = search (tests, arith, rules)

pub digits_more : (n : ℕ) (s : KernelState) (base : ℕ) (next : List ℕ → ℕ → Stay) (at b : ℕ) → 0 < n → digit_of b < base
    → takes_digits n s base next at b ≡ reads_byte s (following at) (takes_digits (n - 1) s base (λ ds. next (digit_of b ∷ ds)) (following at))
digits_more zero s base next at b h lt = absurd (omega arith)
digits_more (suc n) s base next at b h lt =
    let e : suc n - 1 ≡ n = omega arith in
    let more : ℕ → Stay = λ j. reads_byte s (following at) (takes_digits j s base (λ ds. next (digit_of b ∷ ds)) (following at)) in
    ap (λ t. if t then more n else next [] at) (lt-ltb (digit_of b) base lt) ∙ ap more (sym e)

pub digits_stop : (n : ℕ) (s : KernelState) (base : ℕ) (next : List ℕ → ℕ → Stay) (at b : ℕ) → 0 < n → base ≤ digit_of b → takes_digits n s base next at b ≡ next [] at
digits_stop zero s base next at b h le = absurd (omega arith)
digits_stop (suc n) s base next at b h le =
    ap (λ t. if t then reads_byte s (following at) (takes_digits n s base (λ ds. next (digit_of b ∷ ds)) (following at)) else next [] at) (not_below (digit_of b) base le)
