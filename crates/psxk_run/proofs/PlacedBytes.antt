-- Bytes that are placed, part by part and byte by byte.
use Rattle.std.proofs.Common.{◌≡◌, ℕ, suc, ◌+◌, ◌-◌, ◌%◌, ◌^◌, ◌<◌, ◌≤◌, List, [], ◌∷◌, ◌++◌, length, take, get_or, Option, refl, sym, ap, ◌∙◌, arith, append-nil, length-take-le}
use Rattle.std.specs.Prelude.{slice_set, min, max, All, replicate}
use Rattle.std.proofs.lemmas.List.{take_more, length-set, length-replicate}
use Rattle.std.proofs.lemmas.Grind.{flat_map-append}
use Rattle.psx_asm.specs.declared.object.Part.{Part}
use Rattle.psx_asm.specs.Placing.{addressed, bytes_of_parts}
use Rattle.psxk_run.specs.Assembling.{lowest, highest, put, program, program_with, spanned, up, down, window_from, window_to}

lowest-append : (a : ℕ) (xs ys : List (ℕ × ℕ)) → lowest a (xs ++ ys) ≡ lowest (lowest a xs) ys
lowest-append a [] ys = refl
lowest-append a (x ∷ xs) ys = lowest-append (min a x.0) xs ys

highest-append : (a : ℕ) (xs ys : List (ℕ × ℕ)) → highest a (xs ++ ys) ≡ highest (highest a xs) ys
highest-append a [] ys = refl
highest-append a (x ∷ xs) ys = highest-append (max a x.0) xs ys

put-append : (dest : ℕ) (text : List ℕ) (xs ys : List (ℕ × ℕ)) → put dest text (xs ++ ys) ≡ put dest (put dest text xs) ys
put-append dest text [] ys = refl
put-append dest text (x ∷ xs) ys = put-append dest (slice_set text (x.0 - dest) x.1) xs ys

-- one byte more
addressed-more : (at : ℕ) (xs : List ℕ) (b : ℕ) → at < 2 ^ 32 → addressed at (xs ++ b ∷ []) ≡ addressed at xs ++ ((at + length xs) % 2 ^ 32, b) ∷ []
addressed-more at [] b small = let e : (at + 0) % 2 ^ 32 ≡ at = omega arith in ap (λ (a : ℕ). (a, b) ∷ []) (sym e)
addressed-more at (x ∷ xs) b small =
    let less : (at + 1) % 2 ^ 32 < 2 ^ 32 = omega arith in
    let e : ((at + 1) % 2 ^ 32 + length xs) % 2 ^ 32 ≡ (at + suc (length xs)) % 2 ^ 32 = omega arith in
    ap (λ (t : List (ℕ × ℕ)). (at, x) ∷ t) (addressed-more ((at + 1) % 2 ^ 32) xs b less ∙ ap (λ (a : ℕ). addressed ((at + 1) % 2 ^ 32) xs ++ (a, b) ∷ []) e)

placed-more : (at now : ℕ) (bs : List ℕ) (i : ℕ) → at < 2 ^ 32 → i < length bs → now ≡ (at + i) % 2 ^ 32 → addressed at (take (i + 1) bs) ≡ addressed at (take i bs) ++ (now, get_or bs i 0) ∷ []
placed-more at now bs i small inside is =
    let len : length (take i bs) ≡ i = length-take-le i bs (omega arith) in
    ap (addressed at) (take_more bs i 0 inside) ∙ addressed-more at (take i bs) (get_or bs i 0) small
    ∙ ap (λ (a : ℕ). addressed at (take i bs) ++ (a, get_or bs i 0) ∷ []) (ap (λ (n : ℕ). (at + n) % 2 ^ 32) len ∙ sym is)

pub lowest-more : (least at now : ℕ) (bs : List ℕ) (i : ℕ) → at < 2 ^ 32 → i < length bs → now ≡ (at + i) % 2 ^ 32
    → lowest least (addressed at (take (i + 1) bs)) ≡ min (lowest least (addressed at (take i bs))) now
lowest-more least at now bs i small inside is = ap (lowest least) (placed-more at now bs i small inside is) ∙ lowest-append least (addressed at (take i bs)) ((now, get_or bs i 0) ∷ [])

pub highest-more : (most at now : ℕ) (bs : List ℕ) (i : ℕ) → at < 2 ^ 32 → i < length bs → now ≡ (at + i) % 2 ^ 32
    → highest most (addressed at (take (i + 1) bs)) ≡ max (highest most (addressed at (take i bs))) now
highest-more most at now bs i small inside is = ap (highest most) (placed-more at now bs i small inside is) ∙ highest-append most (addressed at (take i bs)) ((now, get_or bs i 0) ∷ [])

pub put-more : (dest : ℕ) (text : List ℕ) (at now : ℕ) (bs : List ℕ) (i : ℕ) → at < 2 ^ 32 → i < length bs → now ≡ (at + i) % 2 ^ 32
    → put dest text (addressed at (take (i + 1) bs)) ≡ slice_set (put dest text (addressed at (take i bs))) (now - dest) (get_or bs i 0)
put-more dest text at now bs i small inside is = ap (put dest text) (placed-more at now bs i small inside is) ∙ put-append dest text (addressed at (take i bs)) ((now, get_or bs i 0) ∷ [])

-- one part more
parts-more : (ps : List Part) (i : ℕ) (p : Part) → i < length ps → p ≡ get_or ps i p → bytes_of_parts (take (i + 1) ps) ≡ bytes_of_parts (take i ps) ++ addressed p.at p.bytes
parts-more ps i p inside is =
    ap bytes_of_parts (take_more ps i p inside) ∙ flat_map-append (λ (q : Part). addressed q.at q.bytes) (take i ps) (get_or ps i p ∷ [])
    ∙ ap (λ (t : List (ℕ × ℕ)). bytes_of_parts (take i ps) ++ t) (append-nil (addressed (get_or ps i p).at (get_or ps i p).bytes) ∙ ap (λ (q : Part). addressed q.at q.bytes) (sym is))

pub lowest-parts : (least : ℕ) (ps : List Part) (i : ℕ) (p : Part) → i < length ps → p ≡ get_or ps i p → lowest least (bytes_of_parts (take (i + 1) ps)) ≡ lowest (lowest least (bytes_of_parts (take i ps))) (addressed p.at p.bytes)
lowest-parts least ps i p inside is = ap (lowest least) (parts-more ps i p inside is) ∙ lowest-append least (bytes_of_parts (take i ps)) (addressed p.at p.bytes)

pub highest-parts : (most : ℕ) (ps : List Part) (i : ℕ) (p : Part) → i < length ps → p ≡ get_or ps i p → highest most (bytes_of_parts (take (i + 1) ps)) ≡ highest (highest most (bytes_of_parts (take i ps))) (addressed p.at p.bytes)
highest-parts most ps i p inside is = ap (highest most) (parts-more ps i p inside is) ∙ highest-append most (bytes_of_parts (take i ps)) (addressed p.at p.bytes)

pub put-parts : (dest : ℕ) (text : List ℕ) (ps : List Part) (i : ℕ) (p : Part) → i < length ps → p ≡ get_or ps i p
    → put dest text (bytes_of_parts (take (i + 1) ps)) ≡ put dest (put dest text (bytes_of_parts (take i ps))) (addressed p.at p.bytes)
put-parts dest text ps i p inside is = ap (put dest text) (parts-more ps i p inside is) ∙ put-append dest text (bytes_of_parts (take i ps)) (addressed p.at p.bytes)

-- the lowest and the highest address stand in the window
pub highest-below : (most to : ℕ) (xs : List (ℕ × ℕ)) → most ≤ to → All (λ (p : ℕ × ℕ). p.0 ≤ to) xs → highest most xs ≤ to
highest-below most to [] low all = low
highest-below most to (x ∷ xs) low all =
    let first : x.0 ≤ to = all 0 x (omega arith) in
    highest-below (max most x.0) to xs (omega arith) (λ k d less. all (suc k) d (omega arith))

pub lowest-above : (least from : ℕ) (xs : List (ℕ × ℕ)) → from ≤ least → All (λ (p : ℕ × ℕ). from ≤ p.0) xs → from ≤ lowest least xs
lowest-above least from [] high all = high
lowest-above least from (x ∷ xs) high all =
    let first : from ≤ x.0 = all 0 x (omega arith) in
    lowest-above (min least x.0) from xs (omega arith) (λ k d less. all (suc k) d (omega arith))

lowest-least : (a : ℕ) (xs : List (ℕ × ℕ)) → lowest a xs ≤ a
lowest-least a [] = omega arith
lowest-least a (x ∷ xs) = let h = lowest-least (min a x.0) xs in omega arith

highest-most : (a : ℕ) (xs : List (ℕ × ℕ)) → a ≤ highest a xs
highest-most a [] = omega arith
highest-most a (x ∷ xs) = let h = highest-most (max a x.0) xs in omega arith

-- where no byte is placed, and where some is
pub program-none : (start : Option ℕ) (xs : List (ℕ × ℕ)) → highest window_from xs < lowest window_to xs → program_with start xs ≡ program window_from window_from []
program-none start [] less = refl
program-none start (x ∷ xs) less =
    let low = lowest-least (min window_to x.0) xs in
    let high = highest-most (max window_from x.0) xs in
    absurd (omega arith)

pub program-some : (start : Option ℕ) (xs : List (ℕ × ℕ)) → lowest window_to xs ≤ highest window_from xs → program_with start xs ≡ spanned start xs (lowest window_to xs) (highest window_from xs)
program-some start [] some = absurd (omega arith)
program-some start (x ∷ xs) some = refl

length-put : (dest : ℕ) (text : List ℕ) (xs : List (ℕ × ℕ)) → length (put dest text xs) ≡ length text
length-put dest text [] = refl
length-put dest text (x ∷ xs) = length-put dest (slice_set text (x.0 - dest) x.1) xs ∙ length-set text (x.0 - dest) x.1

-- so the text of a program has few bytes
pub spanned-small : (start : Option ℕ) (xs : List (ℕ × ℕ)) (low high : ℕ) → window_from ≤ low → high ≤ window_to → length (spanned start xs low high).text < 2 ^ 31
spanned-small start xs low high above below =
    rw (length-put (down low) (replicate (up high - down low) 0) xs, length-replicate) (span low high above below)
  where
    span : (low high : ℕ) → window_from ≤ low → high ≤ window_to → up high - down low < 2 ^ 31
    span low high above below = omega arith
