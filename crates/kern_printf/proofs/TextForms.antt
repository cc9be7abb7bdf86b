-- The texts of printf in the form in which the listings have them.
use Rattle.std.proofs.Common.{◌≡◌, ℕ, ◌≤◌, ◌+◌, ◌-◌, ◌%◌, ◌^◌, Bool, true, false, List, [], ◌∷◌, ◌++◌, length, refl, sym, ap, ◌∙◌, arith}
use Rattle.std.specs.Prelude.{map, replicate, max, nat_le, ◌&&◌, not, is_none, unwrap_or, if◌then◌else◌}
use Rattle.std.proofs.lemmas.List.{append_assoc, length-append, length-replicate, length-map, replicate-append-replicate}
use Rattle.psx_cpu.specs.Words.{truth}
use Rattle.psx_base.specs.KernelState.{KernelState}
use Rattle.abs_kernel.specs.Stay.{Stay, Write}
use Rattle.abs_kernel.specs.Numeral.{lowest_digits}
use Rattle.abs_kernel.specs.Conversion.{Conversion, limited, spaces, padded, significant, byte_of_digit, at_least, number_text}
use Rattle.abs_kernel.specs.Printf.{writes}
use Rattle.abs_kernel.proofs.Numerals.{lowest_length}
use Rattle.kern_printf.specs.Texts.{signs, digits_of, least, figures, Body, figure_bytes, shows, size_of, within}

pub truth_few : (b : Bool) → truth b ≤ 1
truth_few true = omega arith
truth_few false = omega arith

-- ---- texts behind one another

pub writes_joined : (xs ys : List ℕ) (next : Stay) → writes (xs ++ ys) next ≡ writes xs (writes ys next)
writes_joined [] ys next = refl
writes_joined (x ∷ xs) ys next = ap (Write x) (writes_joined xs ys next)

-- a text that is padded is one within its width
pub padded_within : (c : Conversion) (text : List ℕ) (next : Stay) (b : Body) (s : KernelState) → ((rest : Stay) → shows b s rest ≡ writes text rest) → size_of b ≡ length text
    → writes (padded c text) next ≡ within c.left (limited c.width) b s next
padded_within c text next b s is size = either c.left
  where
    room : ℕ
    room = limited c.width - length text

    same : limited c.width - size_of b ≡ room
    same = ap (λ n. limited c.width - n) size

    either : (t : Bool) → writes (if t then text ++ spaces room else spaces room ++ text) next
        ≡ (if t then shows b s (writes (spaces (limited c.width - size_of b)) next) else writes (spaces (limited c.width - size_of b)) (shows b s next))
    either true = writes_joined text (spaces room) next ∙ sym (is (writes (spaces room) next)) ∙ ap (λ n. shows b s (writes (spaces n) next)) (sym same)
    either false = writes_joined (spaces room) text next ∙ ap (writes (spaces room)) (sym (is next)) ∙ ap (λ n. writes (spaces n) (shows b s next)) (sym same)

pub padded_length : (c : Conversion) (text : List ℕ) → length (padded c text) ≡ length text + (limited c.width - length text)
padded_length c text = either c.left
  where
    room : List ℕ
    room = spaces (limited c.width - length text)

    l : length room ≡ limited c.width - length text
    l = length-replicate (limited c.width - length text) 0x20

    either : (t : Bool) → length (if t then text ++ room else room ++ text) ≡ length text + (limited c.width - length text)
    either true = let j = length-append text room in omega (arith, j, l)
    either false = let j = length-append room text in omega (arith, j, l)

pub limited_small : (n : ℕ) → limited n ≤ 255
limited_small n = grind arith

-- ---- least counts of digits

pub at_least_length : (n : ℕ) (ds : List ℕ) → length (at_least n ds) ≡ n - length ds + length ds
at_least_length n ds = length-append (replicate (n - length ds) 0x30) ds ∙ ap (λ k. k + length ds) (length-replicate (n - length ds) 0x30)

-- one least count behind another is the greater of both
pub at_least_twice : (n k : ℕ) (ds : List ℕ) → at_least n (at_least k ds) ≡ at_least (max n k) ds
at_least_twice n k ds =
    let l = at_least_length k ds in
    let m : ℕ = length ds in
    let e : n - length (at_least k ds) + (k - m) ≡ max n k - m = greater n k m (length (at_least k ds)) l in
    sym (append_assoc (replicate (n - length (at_least k ds)) 0x30) (replicate (k - m) 0x30) ds)
    ∙ ap (λ z. z ++ ds) (replicate-append-replicate (n - length (at_least k ds)) (k - m) 0x30 ∙ ap (λ j. replicate j 0x30) e)
  where
    greater : (n k m l : ℕ) → l ≡ k - m + m → n - l + (k - m) ≡ max n k - m
    greater n k m l e = grind arith

-- the text of a number, by its sign and its value without it
pub number_is : (c : Conversion) (with_sign : Bool) (base letter value : ℕ) → let negative = with_sign && nat_le (2 ^ 31) value in
    number_text c with_sign base letter value ≡ padded c (figures negative (least c negative) base letter (if negative then 2 ^ 32 - value else value))
number_is c with_sign base letter value =
    let negative : Bool = with_sign && nat_le (2 ^ 31) value in
    let filled : ℕ = if c.zeros && (not c.left && is_none c.precision) then limited c.width - length (signs negative) else 0 in
    ap (λ ds. padded c (signs negative ++ ds)) (at_least_twice filled (limited (unwrap_or c.precision 1)) (digits_of base letter (if negative then 2 ^ 32 - value else value)))

-- zeros and digits, where it is known how many
pub figures_are : (negative : Bool) (n zs k base letter value : ℕ) → significant base value ≡ lowest_digits k base value → zs ≡ n - k
    → figures negative n base letter value ≡ figure_bytes negative 0x2D zs k value base letter
figures_are negative n zs k base letter value is e =
    let ds : List ℕ = map (byte_of_digit letter) (lowest_digits k base value) in
    let l : length ds ≡ k = length-map (lowest_digits k base value) (byte_of_digit letter) ∙ lowest_length k base value in
    ap (λ xs. signs negative ++ at_least n (map (byte_of_digit letter) xs)) is
    ∙ ap (λ z. signs negative ++ (replicate z 0x30 ++ ds)) (ap (λ j. n - j) l ∙ sym e)

pub figure_length : (ahead : Bool) (byte zeros digits value base letter : ℕ) → length (figure_bytes ahead byte zeros digits value base letter) ≡ truth ahead + (zeros + digits)
figure_length ahead byte zeros digits value base letter =
    let ds : List ℕ = map (byte_of_digit letter) (lowest_digits digits base value) in
    let l : length ds ≡ digits = length-map (lowest_digits digits base value) (byte_of_digit letter) ∙ lowest_length digits base value in
    let z : length (replicate zeros 0x30 ++ ds) ≡ zeros + digits = length-append (replicate zeros 0x30) ds ∙ ap (λ n. n + length ds) (length-replicate zeros 0x30) ∙ ap (λ n. zeros + n) l in
    behind ahead (replicate zeros 0x30 ++ ds) z
  where
    behind : (a : Bool) (xs : List ℕ) → length xs ≡ zeros + digits → length ((if a then byte % 2 ^ 8 ∷ [] else []) ++ xs) ≡ truth a + (zeros + digits)
    behind true xs z = omega (arith, z)
    behind false xs z = omega (arith, z)
