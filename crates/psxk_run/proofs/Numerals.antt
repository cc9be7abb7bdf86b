-- The numbers of the command line by their decimal numerals.
use Rattle.std.specs.Prelude.{if◌then◌else◌, nat_le, ◌==◌, decimal}
use Rattle.std.proofs.Common.{◌≡◌, ℕ, ◌+◌, ◌-◌, ◌*◌, ◌<◌, ◌≤◌, Bool, true, false, ◌&&◌, List, [], ◌∷◌, get_or, Option, None, Some, refl, sym, ap, ◌∙◌, arith, rules, tests}
use Rattle.std.proofs.lemmas.Bool.{and_parts, leb-true, le-leb, eqb-false, ne_eqb}
use Rattle.std.proofs.lemmas.Str.{digit_value_digit}
use Rattle.std.proofs.lemmas.Str.Parse.{numerals_by_value, tells_digits, digit_from_value}
use Rattle.std.proofs.lemmas.Fmt.{decimal_is_IsNumeral, decimal-digits_value, first_decimal}
use Rattle.std.specs.Str.Parse.{AllDigits, digits_value_after, digits_value}
use Rattle.std.specs.Char.{digit_value}
use Rattle.psxk_run.specs.Command.{value_of, budget_of, few, rounds_of}
use Rattle.psxk_run.specs.Numbers.{BudgetsAreNumerals, RoundsAreNumerals}

-- ---- tests that gave a number

then_some : (b : Bool) (x : Option ℕ) (n : ℕ) → (if b then x else None) ≡ Some n → (b ≡ true) × (x ≡ Some n)
then_some true x n e = (refl, e)
then_some false x n e = absurd (search (tests, rules))

else_some : (b : Bool) (x : Option ℕ) (n : ℕ) → (if b then None else x) ≡ Some n → (b ≡ false) × (x ≡ Some n)
else_some true x n e = absurd (search (tests, rules))
else_some false x n e = (refl, e)

same_number : (m n : ℕ) → Some m ≡ Some n → m ≡ n
same_number m n e = search (tests, rules)

-- ---- digits behind a number

digit_is : (c : ℕ) → 48 ≤ c → c ≤ 57 → digit_value c ≡ c - 48
digit_is c low high = let k : digit_value c + 48 ≡ c = digit_value_digit c (low, high) in omega arith

no_smaller : (before : ℕ) (ds : List ℕ) → before ≤ digits_value_after 10 before ds
no_smaller before [] = omega arith
no_smaller before (c ∷ cs) = omega (arith, no_smaller (before * 10 + digit_value c) cs)

-- what a digit's being read says
step : (before c : ℕ) (cs : List ℕ) (n : ℕ) → value_of before (c ∷ cs) ≡ Some n → ((48 ≤ c) × (c ≤ 57)) × (value_of (before * 10 + (c - 48)) cs ≡ Some n)
step before c cs n e =
    let g = then_some (nat_le before 4000000000 && (nat_le 48 c && nat_le c 57)) (value_of (before * 10 + (c - 48)) cs) n e in
    let digit = and_parts (nat_le 48 c) (nat_le c 57) (and_parts (nat_le before 4000000000) (nat_le 48 c && nat_le c 57) g.0).1 in
    ((leb-true 48 c digit.0, leb-true c 57 digit.1), g.1)

-- digits that are read are digits, and give their number
read : (before : ℕ) (ds : List ℕ) (n : ℕ) → value_of before ds ≡ Some n → AllDigits 10 ds × ((digits_value_after 10 before ds ≡ n) × (n ≤ 4000000000))
read before [] n e =
    let g = then_some (nat_le before 4000000000) (Some before) n e in
    let same : before ≡ n = same_number before n g.1 in
    let low : before ≤ 4000000000 = leb-true before 4000000000 g.0 in
    (tt, (same, omega arith))
read before (c ∷ cs) n e =
    let s = step before c cs n e in
    let r = read (before * 10 + (c - 48)) cs n s.1 in
    let v : digit_value c ≡ c - 48 = digit_is c s.0.0 s.0.1 in
    let high : c ≤ 57 = s.0.1 in
    ((omega arith, r.0), (ap (λ m. digits_value_after 10 (before * 10 + m) cs) v ∙ r.1.0, r.1.1))

-- and digits of a number that isn't too large are read
read_back : (before : ℕ) (ds : List ℕ) → AllDigits 10 ds → digits_value_after 10 before ds ≤ 4000000000 → value_of before ds ≡ Some (digits_value_after 10 before ds)
read_back before [] d small = rw (le-leb before 4000000000 small) refl
read_back before (c ∷ cs) d small =
    let k = digit_from_value c d.0 in
    let v : digit_value c ≡ c - 48 = digit_is c k.0 k.1 in
    let low : before ≤ 4000000000 = omega (arith, small, no_smaller (before * 10 + digit_value c) cs) in
    let more : value_of (before * 10 + (c - 48)) cs ≡ Some (digits_value_after 10 (before * 10 + digit_value c) cs) =
    ap (λ m. value_of (before * 10 + m) cs) (sym v) ∙ read_back (before * 10 + digit_value c) cs d.1 small in
    rw (le-leb before 4000000000 low, le-leb 48 c k.0, le-leb c 57 k.1) more

-- ---- budgets

budget-read : (word : List ℕ) (n : ℕ) → budget_of word ≡ Some n → ((1 ≤ n) × (n ≤ 4000000000)) × (word ≡ decimal n)
budget-read [] n e = absurd (search (tests, rules))
budget-read (c ∷ cs) n e =
    let o = else_some (c == 48) (value_of 0 (c ∷ cs)) n e in
    let no : c ≡ 48 → ⊥ = eqb-false c 48 o.0 in
    let s = step 0 c cs n o.1 in
    let r = read 0 (c ∷ cs) n o.1 in
    let rest = read (0 * 10 + (c - 48)) cs n s.1 in
    let low : 48 ≤ c = s.0.0 in
    let least : 0 * 10 + (c - 48) ≤ n = omega (arith, rest.1.0, no_smaller (0 * 10 + (c - 48)) cs) in
    let value : digits_value 10 (c ∷ cs) ≡ n = r.1.0 in
    let most : n ≤ 4000000000 = r.1.1 in
    let whole : decimal (digits_value 10 (c ∷ cs)) ≡ c ∷ cs =
    decimal-digits_value (numerals_by_value (AllDigits 10) tells_digits) (c ∷ cs) r.0 (omega arith) (λ z. absurd (no z)) (omega arith) in
    ((omega arith, most), sym whole ∙ ap decimal value)

budget-first : (ds : List ℕ) → 48 < get_or ds 0 0 → AllDigits 10 ds → digits_value 10 ds ≤ 4000000000 → budget_of ds ≡ Some (digits_value 10 ds)
budget-first [] first d small = absurd (omega arith)
budget-first (c ∷ cs) first d small = rw (ne_eqb c 48 (λ z. omega arith)) (read_back 0 (c ∷ cs) d small)

budget-back : (n : ℕ) → 1 ≤ n → n ≤ 4000000000 → budget_of (decimal n) ≡ Some n
budget-back n least most =
    let k = decimal_is_IsNumeral n (omega arith) in
    let value : digits_value 10 (decimal n) ≡ n = k.1 in
    budget-first (decimal n) (first_decimal n (omega arith) (omega arith)) k.0.1 (omega arith) ∙ ap Some value

pub budgets : BudgetsAreNumerals
budgets word n = (budget-read word n, λ is. ap budget_of is.1 ∙ budget-back n is.0.0 is.0.1)

-- ---- rounds

few-read : (o : Option ℕ) (n : ℕ) → few o ≡ Some n → (o ≡ Some n) × (n ≤ 1000)
few-read None n e = absurd (search (tests, rules))
few-read (Some m) n e =
    let g = then_some (nat_le m 1000) (Some m) n e in
    let same : m ≡ n = same_number m n g.1 in
    let low : m ≤ 1000 = leb-true m 1000 g.0 in
    (g.1, omega arith)

few-back : (n : ℕ) → n ≤ 1000 → few (Some n) ≡ Some n
few-back n most = rw (le-leb n 1000 most) refl

rounds-read : (word : List ℕ) (n : ℕ) → rounds_of word ≡ Some n → ((1 ≤ n) × (n ≤ 1000)) × (word ≡ decimal n)
rounds-read word n e =
    let f = few-read (budget_of word) n e in
    let b = budget-read word n f.0 in
    ((b.0.0, f.1), b.1)

rounds-back : (n : ℕ) → 1 ≤ n → n ≤ 1000 → rounds_of (decimal n) ≡ Some n
rounds-back n least most = ap few (budget-back n least (omega arith)) ∙ few-back n most

pub rounds : RoundsAreNumerals
rounds word n = (rounds-read word n, λ is. ap rounds_of is.1 ∙ rounds-back n is.0.0 is.0.1)
