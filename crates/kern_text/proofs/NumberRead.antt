-- The digits of a number in the definition, and where the listing of DIGITS takes them up.
use Rattle.psx_flow.proofs.Kit.{◌≡◌, ℕ, suc, ◌+◌, ◌-◌, ◌*◌, ◌%◌, ◌^◌, ◌≤◌, ◌++◌, List, [], ◌∷◌, length, true, false, refl, sym, ap, ◌∙◌, subst, arith, ⊎_elim, byte, place}
use Rattle.std.proofs.Common.{Bool, eq-eqb, ne_eqb}
use Rattle.std.specs.Prelude.{nat_eq, nat_lt, ◌&&◌, ◌||◌, if◌then◌else◌}
use Rattle.std.proofs.lemmas.Bool.{cases_eq, cases_lt, false≢true}
use Rattle.psx_base.specs.KernelState.{KernelState}
use Rattle.psx_cpu.specs.Words.{truth}
use Rattle.abs_kernel.specs.Stay.{Stay}
use Rattle.abs_kernel.specs.UserBytes.{following, longest}
use Rattle.abs_kernel.specs.Numeral.{value_of}
use Rattle.abs_kernel.specs.Strtol.{digit_of, takes_x, takes_prefix, takes_digits, tells_rest, ends_number}
use Rattle.kern_stay.proofs.RoomLeft.{Span}
use Rattle.kern_stay.proofs.Ending.{left_is}
use Rattle.kern_stay.proofs.Cursor.{coming}
use Rattle.kern_text.proofs.NumberBytes.{one, none, between, is_one, digits_stop}
use Rattle.kern_text.proofs.Peeking.{Peeks}
use Rattle.kern_text.proofs.DigitsTaken.{Ready, signed}

-- what follows the digits of the text at a, where so many were taken before
abbrev pub number : KernelState → (a end : ℕ) → (minus : Bool) → (base : ℕ) → (before ds : List ℕ) → (at : ℕ) → Stay
number s a end minus base before ds = ends_number s a end minus base (before ++ ds)

-- what follows the choice of the base
abbrev pub digits : KernelState → (a end : ℕ) → (minus : Bool) → (base : ℕ) → (before : List ℕ) → (at byte : ℕ) → Stay
digits s a end minus base before = takes_digits longest s base (number s a end minus base before)

abbrev pub ending : KernelState → (end : ℕ) → (minus : Bool) → (rest word : ℕ) → Stay
ending s end minus rest word = tells_rest s end rest (signed minus word)

pub nothing : (x v : ℕ) → v ≡ 0 * x + v
nothing x v = grind arith

-- behind a digit the rest is where the digits end
pub taken : (s : KernelState) (a end : ℕ) (minus : Bool) (base d : ℕ) (ds : List ℕ) (at : ℕ) → ends_number s a end minus base (d ∷ ds) at ≡ ending s end minus at (value_of base (d ∷ ds) % 2 ^ 32)
taken s a end minus base d ds at =
    ap (λ t. tells_rest s end (if t then a else at) (signed minus (value_of base (d ∷ ds) % 2 ^ 32))) (ne_eqb (suc (length ds)) 0 (λ e. omega (arith, e)))

-- from an address on, where nothing was taken or a 0
pub ready_from : (stay : Stay) (s : KernelState) (base end : ℕ) (minus : Bool) (next : List ℕ → ℕ → Stay) (a n stop x rest most : ℕ) → Span a n stop 1 → n ≤ longest
    → (h : Peeks stay s (takes_digits longest s base next) a n stop x most)
    → ((d : ℕ) (ds : List ℕ) (at : ℕ) → next (d ∷ ds) at ≡ ending s end minus at ((0 * base ^ suc (length ds) + value_of base (d ∷ ds)) % 2 ^ 32)) → next [] x ≡ ending s end minus rest 0
    → Ready stay s base (ending s end minus) a n stop h.to_come x 0 rest most
ready_from stay s base end minus next a n stop x rest most span enough h shape none =
    let c = h.cursor in record {
      fuel = longest;
      some = omega (arith, enough, c.low, c.count);
      cursor = c;
      next = next;
      shape = shape;
      bad = h.bad;
      digit = λ ne lt. h.good ne;
      other = λ ne le.
          let g = coming a n stop 1 h.to_come x span c ne in
          left_is stay _ _ most (digits_stop longest s base next x (byte s.memory (place x)) (omega (arith, enough, c.low, c.count, g.some)) le ∙ none) (h.good ne);
    }

-- where registers have these numbers
pub ready_at : (stay : Stay) (s : KernelState) (end : ℕ) (minus : Bool) (a n stop k base x word rest most r6 r8 r2 r13 : ℕ) → r6 ≡ base → r8 ≡ x → r2 ≡ word → r13 ≡ rest
    → Ready stay s base (ending s end minus) a n stop k x word rest most → Ready stay s r6 (ending s end minus) a n stop k r8 r2 r13 most
ready_at stay s end minus a n stop k base x word rest most r6 r8 r2 r13 e6 e8 e2 e13 h =
    subst (λ b. Ready stay s b (ending s end minus) a n stop k r8 r2 r13 most) (sym e6) (subst (λ y. Ready stay s base (ending s end minus) a n stop k y r2 r13 most) (sym e8)
    (subst (λ w. Ready stay s base (ending s end minus) a n stop k x w r13 most) (sym e2) (subst (λ t. Ready stay s base (ending s end minus) a n stop k x word t most) (sym e13) h)))

-- a number that begins at an address, in a base that is known
pub begins : (stay : Stay) (s : KernelState) (base end : ℕ) (minus : Bool) (a n stop x most : ℕ) → Span a n stop 1 → n ≤ longest → (h : Peeks stay s (digits s a end minus base []) a n stop x most)
    → Ready stay s base (ending s end minus) a n stop h.to_come x 0 a most
begins stay s base end minus a n stop x most span enough h =
    ready_from stay s base end minus (number s a end minus base []) a n stop x a most span enough h
    (λ d ds at. taken s a end minus base d ds at ∙ ap (λ v. ending s end minus at (v % 2 ^ 32)) (nothing (base ^ suc (length ds)) (value_of base (d ∷ ds)))) refl

-- ---- the prefix in the definition

-- where it can't be one
pub no_prefix : (s : KernelState) (base : ℕ) (next : ℕ → List ℕ → ℕ → ℕ → Stay) (at b : ℕ) → (base ≡ 0 → ⊥) → (base ≡ 16 → ⊥) → takes_prefix s base next at b ≡ next base [] at b
no_prefix s base next at b some other =
    ap (λ t. if nat_eq b 0x30 && (t || nat_eq base 16) then takes_x s (if t then 8 else 16) next (following at) else next (if t then 10 else base) [] at b) (ne_eqb base 0 some)
    ∙ ap (λ t. if nat_eq b 0x30 && t then takes_x s 16 next (following at) else next base [] at b) (ne_eqb base 16 other) ∙ never (nat_eq b 0x30)
  where
    never : (t : Bool) → (if t && false then takes_x s 16 next (following at) else next base [] at b) ≡ next base [] at b
    never true = refl
    never false = refl

-- where it may be, by the base behind a first 0 and that of another number
abbrev pub by_zero : KernelState → (plain top : ℕ) → (next : ℕ → List ℕ → ℕ → ℕ → Stay) → (at b : ℕ) → Stay
by_zero s plain top next at b = if nat_eq b 0x30 then takes_x s top next (following at) else next plain [] at b

always : (t : Bool) (x y : Stay) → (if t && true then x else y) ≡ (if t then x else y)
always true x y = refl
always false x y = refl

pub prefix_of_0 : (s : KernelState) (base : ℕ) (next : ℕ → List ℕ → ℕ → ℕ → Stay) (at b : ℕ) → base ≡ 0 → takes_prefix s base next at b ≡ by_zero s 10 8 next at b
prefix_of_0 s base next at b e = ap (λ t. takes_prefix s t next at b) e ∙ always (nat_eq b 0x30) (takes_x s 8 next (following at)) (next 10 [] at b)

pub prefix_of_16 : (s : KernelState) (base : ℕ) (next : ℕ → List ℕ → ℕ → ℕ → Stay) (at b : ℕ) → base ≡ 16 → takes_prefix s base next at b ≡ by_zero s 16 16 next at b
prefix_of_16 s base next at b e = ap (λ t. takes_prefix s t next at b) e ∙ always (nat_eq b 0x30) (takes_x s 16 next (following at)) (next 16 [] at b)

-- whether a byte is an x
abbrev pub is_x : ℕ → Bool
is_x b = nat_eq b 0x58 || nat_eq b 0x78

abbrev pub x_flag : ℕ → ℕ
x_flag b = ((between 0x58 0x59 b + truth (nat_lt b 0x79)) % 2 ^ 32 + 2 ^ 32 - truth (nat_lt b 0x78)) % 2 ^ 32

pub x_is : (b : ℕ) → truth (is_x b) ≡ x_flag b
x_is b =
    let first = is_one 0x58 b in
    ⊎_elim (λ (e : b ≡ 0x58).
    let i = ap (λ t. truth (t || nat_eq b 0x78)) (eq-eqb b 0x58 e) in let f = ap truth (eq-eqb b 0x58 e) in
    let p = one b 0x79 (omega (arith, e)) in let q = one b 0x78 (omega (arith, e)) in omega (arith, first, f, i, p, q))
    (λ (ne : b ≡ 0x58 → ⊥).
    let i = ap (λ t. truth (t || nat_eq b 0x78)) (ne_eqb b 0x58 ne) in let f = ap truth (ne_eqb b 0x58 ne) in
    ⊎_elim (λ l. let p = one b 0x79 (omega (arith, l)) in let q = one b 0x78 l in let t = ap truth (ne_eqb b 0x78 (λ e. omega (arith, e, l))) in omega (arith, first, f, i, p, q, t))
    (λ g. ⊎_elim (λ l. let p = one b 0x79 l in let q = none b 0x78 g in let t = ap truth (eq-eqb b 0x78 (omega (arith, g, l))) in omega (arith, first, f, i, p, q, t))
    (λ g. let p = none b 0x79 g in let q = none b 0x78 (omega (arith, g)) in let t = ap truth (ne_eqb b 0x78 (λ e. omega (arith, e, g))) in omega (arith, first, f, i, p, q, t))
    (cases_lt b 0x79)) (cases_lt b 0x78)) (cases_eq b 0x58)

-- an x is no digit of base 16 or below
pub x_high : (b : ℕ) → is_x b ≡ true → digit_of b ≡ 33
x_high b h =
    ⊎_elim (λ (e : b ≡ 0x58). ap digit_of e) (λ (ne : b ≡ 0x58 → ⊥). ⊎_elim (λ (e : b ≡ 0x78). ap digit_of e)
    (λ (isnt : b ≡ 0x78 → ⊥). absurd (let i : is_x b ≡ false = ap (λ t. t || nat_eq b 0x78) (ne_eqb b 0x58 ne) ∙ ne_eqb b 0x78 isnt in false≢true (sym i ∙ h))) (cases_eq b 0x78)) (cases_eq b 0x58)
