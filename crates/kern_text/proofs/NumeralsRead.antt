-- What strtol and atoi answer for the numeral of a word.
use Rattle.std.proofs.Common.{◌≡◌, ℕ, ◌+◌, ◌-◌, ◌%◌, ◌^◌, ◌<◌, ◌≤◌, ◌⊎◌, Bool, true, false, List, [], ◌∷◌, ◌++◌, length, refl, sym, ap, ◌∙◌, arith, ⊎_elim, eq-eqb, ne_eqb, tests, rules}
use Rattle.std.specs.Prelude.{nat_eq, nat_lt, ◌||◌, if◌then◌else◌}
use Rattle.std.proofs.lemmas.Bool.{cases_eq, cases_lt, lt-ltb}
use Rattle.std.proofs.Math.Nat.{pow-le-pow_left}
use Rattle.psx_base.specs.Addresses.{place, user}
use Rattle.psx_base.specs.Memory.{Memory, byte}
use Rattle.psx_base.specs.KernelState.{KernelState}
use Rattle.abs_kernel.specs.Stay.{Stay}
use Rattle.abs_kernel.specs.Answered.{registers_of, answered}
use Rattle.abs_kernel.specs.UserBytes.{reads_byte, bad_pointer, following, longest}
use Rattle.abs_kernel.specs.Numeral.{value_of, AreDigits, numeral}
use Rattle.abs_kernel.specs.Strtol.{is_blank, passes_blanks, takes_sign, digit_of, takes_x, takes_prefix, takes_digits, word_of, tells_rest, reads_number, is_base, strtol}
use Rattle.abs_kernel.specs.Played.{played}
use Rattle.abs_kernel.proofs.Numerals.{numeral_is_one}
use Rattle.kern_stay.proofs.Cursor.{not_null}
use Rattle.kern_text.specs.TokenLaws.{TextAt}
use Rattle.kern_text.specs.NumberLaws.{digit_byte, written, with_sign, signed_word, StrtolReadsNumerals, StrtolReadsPrefixed, AtoiReadsDecimals}
use Rattle.kern_text.proofs.NumberBytes.{not_below, passes_more, digit_figure, digit_capital, digit_small, digits_more, digits_stop}
use Rattle.kern_text.proofs.NumberRead.{number, digits, no_prefix, by_zero, prefix_of_0, prefix_of_16, is_x, x_high}
use Rattle.kern_text.proofs.Tokens.{user_some, starts, few_longest}

-- ---- a digit as it is written

back : (capitals : Bool) (d : ℕ) → d < 36 → digit_of (digit_byte capitals d) ≡ d
back capitals d h = ⊎_elim
    (λ l. ap (λ t. digit_of (if t then 0x30 + d else (if capitals then 0x37 + d else 0x57 + d))) (lt-ltb d 10 l) ∙ (let e = digit_figure (0x30 + d) (omega arith) (omega (arith, l)) in omega (arith, e)))
    (λ g. ap (λ t. digit_of (if t then 0x30 + d else (if capitals then 0x37 + d else 0x57 + d))) (not_below d 10 g) ∙ letter capitals g) (cases_lt d 10)
  where
    letter : (capitals : Bool) → 10 ≤ d → digit_of (if capitals then 0x37 + d else 0x57 + d) ≡ d
    letter true g = let e = digit_capital (0x37 + d) (omega (arith, g)) (omega (arith, h)) in omega (arith, e)
    letter false g = let e = digit_small (0x57 + d) (omega (arith, g)) (omega (arith, h)) in omega (arith, e)

-- a byte that is a digit is neither a blank nor a sign, nor an x in base 16
high : (b : ℕ) → digit_of b < 36 → 0x30 ≤ b
high b h = ⊎_elim (λ l. absurd (let e = low b l in omega (arith, e, h))) (λ g. g) (cases_lt b 0x30)
  where
    low : (b : ℕ) → b < 0x30 → digit_of b ≡ 36
    low b l = search (tests, arith, rules)

no_blank : (b : ℕ) → 0x30 ≤ b → is_blank b ≡ false
no_blank b h = search (tests, arith, rules)

no_x : (b : ℕ) → (digit_of b ≡ 33 → ⊥) → is_x b ≡ false
no_x b h = either (is_x b) refl
  where
    either : (t : Bool) → is_x b ≡ t → t ≡ false
    either false e = refl
    either true e = absurd (h (x_high b e))

-- ---- the definition over a text

reads : (s : KernelState) (at : ℕ) (next : ℕ → Stay) → user at ≡ true → played (reads_byte s at next) [] ≡ played (next (byte s.memory (place at))) []
reads s at next u = ap (λ b. played (if b then next (byte s.memory (place at)) else bad_pointer s at) []) u

module _ (s : KernelState) (capitals : Bool) (base : ℕ) (two : 2 ≤ base) (few : base ≤ 36) where
  digits_play : (ds : List ℕ) (fuel at : ℕ) (next : List ℕ → ℕ → Stay) → AreDigits base ds → TextAt s.memory at (written capitals ds) → length ds < fuel
      → (end : ℕ) × (played (takes_digits fuel s base next at (byte s.memory (place at))) [] ≡ played (next ds end) [])
  digits_play [] fuel at next h t lt = (
    at,
    ap (λ b. played (takes_digits fuel s base next at b) []) t.1 ∙ ap (λ y. played y []) (digits_stop fuel s base next at 0 (omega (arith, lt)) few),
  )
  digits_play (d ∷ ds) fuel at next h t lt =
      let b : ℕ = digit_byte capitals d in
      let y : ℕ = following at in
      let is : digit_of b ≡ d = back capitals d (omega (arith, h.0, few)) in
      let rest = digits_play ds (fuel - 1) y (λ ds. next (d ∷ ds)) h.1 t.3 (omega (arith, lt)) in (
        rest.0,
        ap (λ b. played (takes_digits fuel s base next at b) []) t.1
            ∙ ap (λ y. played y []) (digits_more fuel s base next at b (omega (arith, lt)) (omega (arith, is, h.0)))
            ∙ ap (λ v. played (reads_byte s y (takes_digits (fuel - 1) s base (λ ds. next (v ∷ ds)) y)) []) is
            ∙ reads s y (takes_digits (fuel - 1) s base (λ ds. next (d ∷ ds)) y) (starts s.memory y (written capitals ds) t.3) ∙ rest.1,
      )

  first_digit : (d : ℕ) (ds : List ℕ) (at : ℕ) → AreDigits base (d ∷ ds) → TextAt s.memory at (written capitals (d ∷ ds)) → digit_of (byte s.memory (place at)) ≡ d
  first_digit d ds at h t = ap digit_of t.1 ∙ back capitals d (omega (arith, h.0, few))

  first_high : (d : ℕ) (ds : List ℕ) (at : ℕ) → AreDigits base (d ∷ ds) → TextAt s.memory at (written capitals (d ∷ ds)) → 0x30 ≤ byte s.memory (place at)
  first_high d ds at h t = high (byte s.memory (place at)) (let e = first_digit d ds at h t in omega (arith, e, h.0, few))

  -- behind the choice of the base, with the digits that were taken before
  all_play : (start : ℕ) (minus : Bool) (before ds : List ℕ) (at : ℕ) → AreDigits base ds → TextAt s.memory at (written capitals ds) → length ds < longest
      → played (digits s start 0 minus base before at (byte s.memory (place at))) [] ≡ played (answered s (word_of minus base (before ++ ds))) []
  all_play start minus before ds at h t short = (digits_play ds longest at (number s start 0 minus base before) h t short).1

  -- no byte of digits is an x, nor the zero behind them
  not_x : base ≡ 16 → (ds : List ℕ) (at : ℕ) → AreDigits base ds → TextAt s.memory at (written capitals ds) → is_x (byte s.memory (place at)) ≡ false
  not_x e [] at h t = ap is_x t.1
  not_x e (d ∷ ds) at h t = no_x (byte s.memory (place at)) (λ q. let i = first_digit d ds at h t in omega (arith, i, q, e, h.0))

  -- a first 0 in base 16 is a digit
  zero_plays : base ≡ 16 → (start : ℕ) (minus : Bool) (d : ℕ) (ds : List ℕ) (at : ℕ) → AreDigits base (d ∷ ds) → TextAt s.memory at (written capitals (d ∷ ds)) → length (d ∷ ds) < longest → byte s.memory (place at) ≡ 0x30
      → played (takes_x s 16 (digits s start 0 minus) (following at)) [] ≡ played (answered s (word_of minus base (d ∷ ds))) []
  zero_plays e start minus d ds at h t short is =
      let y : ℕ = following at in
      let next : ℕ → List ℕ → ℕ → ℕ → Stay = digits s start 0 minus in
      let prefixed : ℕ → Stay = λ x. reads_byte s (following y) (λ h. if nat_lt (digit_of h) 16 then next 16 [] (following y) h else next 16 (0 ∷ []) y x) in
      let x : ℕ = byte s.memory (place y) in
      reads s y (λ x. if is_x x then prefixed x else next 16 (0 ∷ []) y x) (starts s.memory y (written capitals ds) t.3)
      ∙ ap (λ c. played (if c then prefixed x else next 16 (0 ∷ []) y x) []) (not_x e ds y h.1 t.3)
      ∙ ap (λ b. played (next b (0 ∷ []) y x) []) (sym e)
      ∙ all_play start minus (0 ∷ []) ds y h.1 t.3 (omega (arith, short))
      ∙ ap (λ z. played (answered s (word_of minus base (z ∷ ds))) []) (sym (ap digit_of is) ∙ first_digit d ds at h t)

  number_plays : (start : ℕ) (minus : Bool) (ds : List ℕ) (at : ℕ) → 0 < length ds → AreDigits base ds → TextAt s.memory at (written capitals ds) → length ds < longest
      → played (takes_prefix s base (digits s start 0 minus) at (byte s.memory (place at))) [] ≡ played (answered s (word_of minus base ds)) []
  number_plays start minus [] at some h t short = absurd (omega (arith, some))
  number_plays start minus (d ∷ ds) at some h t short =
      let v : ℕ = byte s.memory (place at) in
      let next : ℕ → List ℕ → ℕ → ℕ → Stay = digits s start 0 minus in
      let all = all_play start minus [] (d ∷ ds) at h t short in
      let zero : Stay = takes_x s 16 next (following at) in
      ⊎_elim (λ (e : base ≡ 16).
      ap (λ y. played y []) (prefix_of_16 s base next at v e)
      ∙ ⊎_elim (λ (is : v ≡ 0x30). ap (λ c. played (if c then zero else next 16 [] at v) []) (eq-eqb v 0x30 is) ∙ zero_plays e start minus d ds at h t short is)
      (λ (isnt : v ≡ 0x30 → ⊥). ap (λ c. played (if c then zero else next 16 [] at v) []) (ne_eqb v 0x30 isnt) ∙ ap (λ b. played (next b [] at v) []) (sym e) ∙ all) (cases_eq v 0x30))
      (λ (other : base ≡ 16 → ⊥). ap (λ y. played y []) (no_prefix s base next at v (λ e. omega (arith, e, two)) other) ∙ all) (cases_eq base 16)

-- the prefix of base 16
prefix_plays : (s : KernelState) (capitals : Bool) (base start : ℕ) (minus : Bool) (x : ℕ) (ds : List ℕ) (at : ℕ) → (base ≡ 0) ⊎ (base ≡ 16) → is_x x ≡ true → 0 < length ds → AreDigits 16 ds → TextAt s.memory at (0x30 ∷ x ∷ written capitals ds) → length ds < longest
    → played (takes_prefix s base (digits s start 0 minus) at (byte s.memory (place at))) [] ≡ played (answered s (word_of minus 16 ds)) []
prefix_plays s capitals base start minus x [] at either is some h t short = absurd (omega (arith, some))
prefix_plays s capitals base start minus x (d ∷ ds) at either is some h t short =
    let v : ℕ = byte s.memory (place at) in
    let y : ℕ = following at in
    let z : ℕ = following y in
    let next : ℕ → List ℕ → ℕ → ℕ → Stay = digits s start 0 minus in
    let digit : ℕ → ℕ → ℕ → Stay = λ top x h. if nat_lt (digit_of h) 16 then next 16 [] z h else next top (0 ∷ []) y x in
    let second : ℕ → ℕ → Stay = λ top x. if is_x x then reads_byte s z (digit top x) else next top (0 ∷ []) y x in
    let all = all_play s capitals 16 (omega arith) (omega arith) start minus [] (d ∷ ds) z h t.3.3 short in
    let first = first_digit s capitals 16 (omega arith) (omega arith) d ds z h t.3.3 in
    let rest : (top : ℕ) → played (takes_x s top next y) [] ≡ played (answered s (word_of minus 16 (d ∷ ds))) [] = λ top.
    reads s y (second top) t.3.0 ∙ ap (λ b. played (second top b) []) t.3.1
    ∙ ap (λ c. played (if c then reads_byte s z (digit top x) else next top (0 ∷ []) y x) []) is
    ∙ reads s z (digit top x) (starts s.memory z (written capitals (d ∷ ds)) t.3.3)
    ∙ ap (λ c. played (if c then next 16 [] z (byte s.memory (place z)) else next top (0 ∷ []) y x) []) (lt-ltb (digit_of (byte s.memory (place z))) 16 (omega (arith, first, h.0))) ∙ all in
    ⊎_elim (λ e. ap (λ y. played y []) (prefix_of_0 s base next at v e) ∙ ap (λ b. played (by_zero s 10 8 next at b) []) t.1 ∙ rest 8)
    (λ e. ap (λ y. played y []) (prefix_of_16 s base next at v e) ∙ ap (λ b. played (by_zero s 16 16 next at b) []) t.1 ∙ rest 16) either

-- ---- the sign

-- what begins neither with a blank nor with a sign, behind a minus or not
signed_plays : (s : KernelState) (base at : ℕ) (text : List ℕ) (word : Bool → ℕ) (minus : Bool) → TextAt s.memory at (with_sign minus text)
    → ((y : ℕ) → TextAt s.memory y text → 0x30 ≤ byte s.memory (place y))
    → ((m : Bool) (y : ℕ) → TextAt s.memory y text → played (takes_prefix s base (digits s at 0 m) y (byte s.memory (place y))) [] ≡ played (answered s (word m)) [])
    → played (reads_number s at 0 base) [] ≡ played (answered s (word minus)) []
signed_plays s base at text word minus t from body = begins minus t
  where
    v : ℕ
    v = byte s.memory (place at)

    sign : ℕ → ℕ → Stay
    sign = takes_sign s (λ minus. takes_prefix s base (digits s at 0 minus))

    some : 0 < longest
    some = let h = few_longest s.memory at (with_sign minus text) t in omega (arith, h)

    passed : user at ≡ true → is_blank v ≡ false → played (reads_number s at 0 base) [] ≡ played (sign at v) []
    passed u is =
        ap (λ y. played y []) (passes_more longest s at sign some) ∙ reads s at (λ b. if is_blank b then passes_blanks (longest - 1) s (following at) sign else sign at b) u
        ∙ ap (λ c. played (if c then passes_blanks (longest - 1) s (following at) sign else sign at v) []) is

    begins : (minus : Bool) → TextAt s.memory at (with_sign minus text) → played (reads_number s at 0 base) [] ≡ played (answered s (word minus)) []
    begins true t =
        passed t.0 (ap is_blank t.1) ∙ ap (λ b. played (sign at b) []) t.1
        ∙ reads s (following at) (takes_prefix s base (digits s at 0 true) (following at)) (starts s.memory (following at) text t.3) ∙ body true (following at) t.3
    begins false t =
        let low = from at t in
        let plain : Stay = takes_prefix s base (digits s at 0 false) at v in
        let signed : Stay = reads_byte s (following at) (takes_prefix s base (digits s at 0 (nat_eq v 0x2D)) (following at)) in
        passed (starts s.memory at text t) (no_blank v low)
        ∙ ap (λ c. played (if c || nat_eq v 0x2D then signed else plain) []) (ne_eqb v 0x2B (λ e. omega (arith, e, low)))
        ∙ ap (λ c. played (if c then signed else plain) []) (ne_eqb v 0x2D (λ e. omega (arith, e, low))) ∙ body false at t

-- ---- numerals

numeral_short : (n base : ℕ) → 2 ≤ base → n < 2 ^ 32 → length (numeral base n) < longest
unfolding longest
numeral_short n base two small =
    let p = pow-le-pow_left two 32 in
    let h = (numeral_is_one base n two small).fewest 32 (omega arith) (omega (arith, p, small)) in omega (arith, h)

word_is : (minus : Bool) (base n : ℕ) → 2 ≤ base → n < 2 ^ 32 → word_of minus base (numeral base n) ≡ signed_word minus n
word_is minus base n two small =
    let is = numeral_is_one base n two small in
    ap (λ w. if minus then (2 ^ 32 - w) % 2 ^ 32 else w) (let e : value_of base (numeral base n) % 2 ^ 32 ≡ n = omega (arith, is.value, small) in e)

numeral_high : (s : KernelState) (capitals : Bool) (base : ℕ) (ds : List ℕ) → 2 ≤ base → base ≤ 36 → 0 < length ds → AreDigits base ds → (y : ℕ) → TextAt s.memory y (written capitals ds) → 0x30 ≤ byte s.memory (place y)
numeral_high s capitals base [] two few some h y t = absurd (omega (arith, some))
numeral_high s capitals base (d ∷ ds) two few some h y t = first_high s capitals base two few d ds y h t

reads_numeral : (s : KernelState) (minus capitals : Bool) (base n at : ℕ) → 2 ≤ base → base ≤ 36 → n < 2 ^ 32 → TextAt s.memory at (with_sign minus (written capitals (numeral base n)))
    → played (reads_number s at 0 base) [] ≡ played (answered s (signed_word minus n)) []
reads_numeral s minus capitals base n at two few small t =
    let is = numeral_is_one base n two small in
    let ds = numeral base n in
    signed_plays s base at (written capitals ds) (λ m. word_of m base ds) minus t (numeral_high s capitals base ds two few is.some is.below)
    (λ m y u. number_plays s capitals base two few at m ds y is.some is.below u (numeral_short n base two small))
    ∙ ap (λ v. played (answered s v) []) (word_is minus base n two small)

reads_prefixed : (s : KernelState) (minus capitals : Bool) (base x n at : ℕ) → (base ≡ 0) ⊎ (base ≡ 16) → is_x x ≡ true → n < 2 ^ 32 → TextAt s.memory at (with_sign minus (0x30 ∷ x ∷ written capitals (numeral 16 n)))
    → played (reads_number s at 0 base) [] ≡ played (answered s (signed_word minus n)) []
reads_prefixed s minus capitals base x n at either x_is small t =
    let is = numeral_is_one 16 n (omega arith) small in
    let ds = numeral 16 n in
    signed_plays s base at (0x30 ∷ x ∷ written capitals ds) (λ m. word_of m 16 ds) minus t (λ y u. let e = u.1 in omega (arith, e))
    (λ m y u. prefix_plays s capitals base at m x ds y either x_is is.some is.below u (numeral_short n 16 (omega arith) small))
    ∙ ap (λ v. played (answered s v) []) (word_is minus 16 n (omega arith) small)

there : (m : Memory) (at : ℕ) (xs : List ℕ) → TextAt m at xs → at ≡ 0 → ⊥
there m at xs t e = let some = user_some at (starts m at xs t) in omega (arith, e, some)

base_is : (b : ℕ) → 2 ≤ b → b ≤ 36 → is_base b ≡ true
base_is b h g = search (tests, arith, rules)

-- strtol at a text, in a base, with the end 0
strtol_reads : (s : KernelState) (text : List ℕ) → TextAt s.memory (registers_of s).r4 text → (registers_of s).r5 ≡ 0 → is_base (registers_of s).r6 ≡ true
    → played (strtol s) [] ≡ played (reads_number s (registers_of s).r4 0 (registers_of s).r6) []
strtol_reads s text t e5 is =
    let r = registers_of s in
    ap (λ y. played y []) (not_null r.r4 (answered s 0) (if is_base r.r6 then reads_number s r.r4 r.r5 r.r6 else tells_rest s r.r5 r.r4 0) (there s.memory r.r4 text t))
    ∙ ap (λ c. played (if c then reads_number s r.r4 r.r5 r.r6 else tells_rest s r.r5 r.r4 0) []) is
    ∙ ap (λ x. played (reads_number s r.r4 x r.r6) []) e5

pub strtol_reads_numerals : StrtolReadsNumerals
strtol_reads_numerals s minus capitals base n two few small e5 e6 t =
    let r = registers_of s in
    let plays = strtol_reads s (with_sign minus (written capitals (numeral base n))) t e5 (ap is_base e6 ∙ base_is base two few) ∙ ap (λ x. played (reads_number s r.r4 0 x) []) e6
    ∙ reads_numeral s minus capitals base n r.r4 two few small t in
    (_, ap (λ p. p.end) plays, refl)

pub strtol_reads_prefixed : StrtolReadsPrefixed
strtol_reads_prefixed s minus capitals x n either letter small e5 t =
    let r = registers_of s in
    let plays = strtol_reads s (with_sign minus (0x30 ∷ x ∷ written capitals (numeral 16 n))) t e5 (⊎_elim (λ e. ap is_base e) (λ e. ap is_base e) either)
    ∙ reads_prefixed s minus capitals r.r6 x n r.r4 either (⊎_elim (λ e. ap is_x e) (λ e. ap is_x e) letter) small t in
    (_, ap (λ p. p.end) plays, refl)

pub atoi_reads_decimals : AtoiReadsDecimals
atoi_reads_decimals s minus n small t =
    let a : ℕ = (registers_of s).r4 in
    let plays =
    ap (λ y. played y []) (not_null a (answered s 0) (reads_number s a 0 10) (there s.memory a _ t)) ∙ reads_numeral s minus false 10 n a (omega arith) (omega arith) small t in
    (_, ap (λ p. p.end) plays, refl)
