-- The parts of a line of a configuration text.
use Rattle.std.proofs.Common.{◌≡◌, ℕ, zero, suc, ◌+◌, ◌<◌, ◌≤◌, Bool, true, false, cond, List, [], ◌∷◌, ◌++◌, length, drop, take, slice_index, refl, sym, ap, subst, ◌∙◌, append-nil, arith}
use Rattle.std.specs.Char.{digit_value, is_digit}
use Rattle.std.specs.List.{AllPass, prefix_len}
use Rattle.std.specs.Str.Parse.{AllDigits, IsNumeral, digits_value}
use Rattle.std.proofs.lemmas.Bool.{lt-ltb, ltb-true}
use Rattle.std.proofs.lemmas.Bool.Decides.{nat_tests}
use Rattle.std.proofs.lemmas.List.{get_or-take, take-append-drop}
use Rattle.std.proofs.lemmas.List.Folds.{length-prefix_len}
use Rattle.std.proofs.lemmas.List.Sums.{prefix_len_passes}
use Rattle.std.proofs.Math.Seq.{take-append_seam, drop-append_seam}
use Rattle.psxk_run.specs.Config.{is_blank, behind, Assigns, IsHexadecimal}

-- how many elements pass before one that doesn't
pub front_then : (p : ℕ → Bool) (xs ys : List ℕ) → AllPass p xs → p (slice_index ys 0) ≡ false → prefix_len p (xs ++ ys) ≡ length xs
front_then p [] [] all stop = refl
front_then p [] (y ∷ ys) all stop = ap (λ b. cond b (1 + prefix_len p ys) 0) stop
front_then p (x ∷ xs) ys all stop =
    let more : 1 + prefix_len p (xs ++ ys) ≡ length (x ∷ xs) = omega (arith, front_then p xs ys (λ k d below. all (suc k) d (omega arith)) stop) in
    ap (λ b. cond b (1 + prefix_len p (xs ++ ys)) 0) (all 0 x (omega arith)) ∙ more

-- a list is the elements that pass, and the others
pub fronts : (p : ℕ → Bool) (xs : List ℕ) → AllPass p (take (prefix_len p xs) xs) × (xs ≡ take (prefix_len p xs) xs ++ drop (prefix_len p xs) xs)
fronts p xs =
    let len = length-prefix_len p xs in (
      λ k d below. let few : k < prefix_len p xs = omega arith in ap p (get_or-take (prefix_len p xs) xs k d few) ∙ prefix_len_passes p xs k d few,
      sym (take-append-drop (prefix_len p xs) xs),
    )

behind_then : (xs ys : List ℕ) → AllPass is_blank xs → is_blank (slice_index ys 0) ≡ false → behind (xs ++ ys) ≡ ys
behind_then xs ys all stop = ap (λ k. drop k (xs ++ ys)) (front_then is_blank xs ys all stop) ∙ drop-append_seam xs ys

pub first_of : (xs ys : List ℕ) → 0 < length xs → slice_index (xs ++ ys) 0 ≡ slice_index xs 0
first_of [] ys some = absurd (omega arith)
first_of (x ∷ xs) ys some = refl

-- where a line assigns a value to a key, the key stands behind its first blanks
pub key_part : (line key value : List ℕ) → 0 < length key → is_blank (slice_index key 0) ≡ false → (a : Assigns line key value) → behind line ≡ key ++ (a.between ++ (61 ∷ value))
key_part line key value some no_blank a =
    ap behind a.is ∙ behind_then a.before (key ++ (a.between ++ (61 ∷ value))) a.before_blank (ap is_blank (first_of key (a.between ++ (61 ∷ value)) some) ∙ no_blank)

-- and `=` and the value behind the blanks that follow
pub value_part : (line key value : List ℕ) → 0 < length key → is_blank (slice_index key 0) ≡ false → Assigns line key value → behind (drop (length key) (behind line)) ≡ 61 ∷ value
value_part line key value some no_blank a =
    ap behind (ap (drop (length key)) (key_part line key value some no_blank a) ∙ drop-append_seam key (a.between ++ (61 ∷ value)))
    ∙ behind_then a.between (61 ∷ value) a.between_blank refl

pub same_value : (line key a b : List ℕ) → 0 < length key → is_blank (slice_index key 0) ≡ false → Assigns line key a → Assigns line key b → a ≡ b
same_value line key a b some no_blank at_a at_b =
    ap (drop 1) (sym (value_part line key a some no_blank at_a) ∙ value_part line key b some no_blank at_b)

-- a line whose parts are found assigns a value to a key
pub assigns : (line key rest value : List ℕ) → behind line ≡ key ++ rest → behind rest ≡ 61 ∷ value → Assigns line key value
assigns line key rest value is_key is_value = record {
  before = take (prefix_len is_blank line) line;
  between = take (prefix_len is_blank rest) rest;
  before_blank = (fronts is_blank line).0;
  between_blank = (fronts is_blank rest).0;
  is = (fronts is_blank line).1 ∙ ap (λ l. take (prefix_len is_blank line) line ++ l)
      (is_key ∙ ap (λ l. key ++ l) ((fronts is_blank rest).1 ∙ ap (λ l. take (prefix_len is_blank rest) rest ++ l) is_value));
}

-- only blanks
pub all_blank : (xs : List ℕ) → behind xs ≡ [] → AllPass is_blank xs
all_blank xs none =
    let front = take (prefix_len is_blank xs) xs in
    let is : xs ≡ front = (fronts is_blank xs).1 ∙ ap (λ l. front ++ l) none ∙ append-nil front in
    subst (AllPass is_blank) (sym is) (fronts is_blank xs).0

pub none_behind : (xs : List ℕ) → AllPass is_blank xs → behind xs ≡ []
none_behind xs all = ap behind (sym (append-nil xs)) ∙ behind_then xs [] all refl

blank_is_no_digit : (c : ℕ) → is_blank c ≡ true → is_digit c 16 ≡ false
blank_is_no_digit c blank = grind (arith, nat_tests)

digit_is_no_blank : (c : ℕ) → digit_value c < 16 → is_blank c ≡ false
digit_is_no_blank c digit = grind (arith, nat_tests)

no_digit_first : (xs : List ℕ) → AllPass is_blank xs → is_digit (slice_index xs 0) 16 ≡ false
no_digit_first [] all = refl
no_digit_first (x ∷ xs) all = blank_is_no_digit x (all 0 x (omega arith))

no_blank_first : (ds rest : List ℕ) → IsNumeral 16 ds → is_blank (slice_index (ds ++ rest) 0) ≡ false
no_blank_first [] rest numeral = absurd (omega arith)
no_blank_first (d ∷ ds) rest numeral = digit_is_no_blank d numeral.1.0

digits_pass : (ds : List ℕ) → AllDigits 16 ds → AllPass (λ c. is_digit c 16) ds
digits_pass [] all k x below = absurd (omega arith)
digits_pass (d ∷ ds) all zero x below = lt-ltb (digit_value d) 16 all.0
digits_pass (d ∷ ds) all (suc k) x below = digits_pass ds all.1 k x (omega arith)

pub digits_from : (ds : List ℕ) → AllPass (λ c. is_digit c 16) ds → AllDigits 16 ds
digits_from [] all = tt
digits_from (d ∷ ds) all = (ltb-true (digit_value d) 16 (all 0 d (omega arith)), digits_from ds (λ k x below. all (suc k) x (omega arith)))

-- how many digits stand behind the first blanks of a value
abbrev pub digits_end : List ℕ → ℕ
digits_end value = prefix_len (λ c. is_digit c 16) (behind value)

digits_part : (value : List ℕ) (n : ℕ) → (h : IsHexadecimal value n) → behind value ≡ h.digits ++ h.after
digits_part value n h = ap behind h.is ∙ behind_then h.before (h.digits ++ h.after) h.before_blank (no_blank_first h.digits h.after h.numeral)

pub digits_len_is : (value : List ℕ) (n : ℕ) → (h : IsHexadecimal value n) → digits_end value ≡ length h.digits
digits_len_is value n h =
    ap (prefix_len (λ c. is_digit c 16)) (digits_part value n h) ∙ front_then (λ c. is_digit c 16) h.digits h.after (digits_pass h.digits h.numeral.1) (no_digit_first h.after h.after_blank)

digits_are : (value : List ℕ) (n : ℕ) → (h : IsHexadecimal value n) → take (digits_end value) (behind value) ≡ h.digits
digits_are value n h = (λ i. take (digits_len_is value n h i) (digits_part value n h i)) ∙ take-append_seam h.digits h.after

pub nothing_after : (value : List ℕ) (n : ℕ) → IsHexadecimal value n → behind (drop (digits_end value) (behind value)) ≡ []
nothing_after value n h =
    ap behind ((λ i. drop (digits_len_is value n h i) (digits_part value n h i)) ∙ drop-append_seam h.digits h.after) ∙ none_behind h.after h.after_blank

pub same_number : (value : List ℕ) (m n : ℕ) → IsHexadecimal value m → IsHexadecimal value n → m ≡ n
same_number value m n h k = h.number ∙ ap (digits_value 16) (sym (digits_are value m h) ∙ digits_are value n k) ∙ sym k.number

pub digits_found : (value : List ℕ) → 0 < digits_end value → IsNumeral 16 (take (digits_end value) (behind value))
digits_found value some =
    (omega (arith, length-prefix_len (λ c. is_digit c 16) (behind value)), digits_from (take (digits_end value) (behind value)) (fronts (λ c. is_digit c 16) (behind value)).0)

-- a value whose parts are found is a number
pub hexadecimal : (value : List ℕ) (n : ℕ) → 0 < digits_end value → digits_end value ≤ 8 → behind (drop (digits_end value) (behind value)) ≡ []
    → n ≡ digits_value 16 (take (digits_end value) (behind value)) → IsHexadecimal value n
hexadecimal value n some few none is = record {
  before = take (prefix_len is_blank value) value;
  digits = take (digits_end value) (behind value);
  after = drop (digits_end value) (behind value);
  before_blank = (fronts is_blank value).0;
  after_blank = all_blank (drop (digits_end value) (behind value)) none;
  numeral = digits_found value some;
  short = omega (arith, length-prefix_len (λ c. is_digit c 16) (behind value));
  number = is;
  is = (fronts is_blank value).1 ∙ ap (λ l. take (prefix_len is_blank value) value ++ l) (fronts (λ c. is_digit c 16) (behind value)).1;
}
