-- Bytes at addresses, one by one.
use Rattle.std.proofs.Common.{◌≡◌, ℕ, suc, ◌+◌, ◌%◌, ◌^◌, ◌<◌, Bool, true, false, not, cond, ◌||◌, ◌==◌, nat_eq, List, [], ◌∷◌, ◌++◌, length, get_or, take, drop, find, Some, option_map, refl, sym, ap, ◌∙◌, append_assoc, add-one, arith}
use Rattle.std.proofs.lemmas.List.{take_more, length-take-le}
use Rattle.std.proofs.lemmas.List.Folds.{list_any-append}
use Rattle.std.proofs.Math.Seq.{drop-cons}
use Rattle.psx_asm.specs.Placing.{addressed, is_inside, is_taken, is_overlap}

-- the byte at a place, and those behind it
addressed-drop : (a : ℕ) (bytes : List ℕ) (i : ℕ) → i < length bytes
    → addressed a (drop i bytes) ≡ (a, get_or bytes i 0) ∷ addressed ((a + 1) % 2 ^ 32) (drop (i + 1) bytes)
addressed-drop a bytes i below =
    let split : drop i bytes ≡ get_or bytes i 0 ∷ drop (i + 1) bytes = rw add-one (drop-cons bytes i 0 below) in
    ap (addressed a) split

-- bytes behind others
pub addressed-append : (a : ℕ) (xs ys : List ℕ) → a < 2 ^ 32 → addressed a (xs ++ ys) ≡ addressed a xs ++ addressed ((a + length xs) % 2 ^ 32) ys
addressed-append a [] ys small = ap (λ n. addressed n ys) (omega arith)
addressed-append a (x ∷ xs) ys small =
    let next : (a + 1) % 2 ^ 32 < 2 ^ 32 = omega arith in
    let same : ((a + 1) % 2 ^ 32 + length xs) % 2 ^ 32 ≡ (a + suc (length xs)) % 2 ^ 32 = omega arith in
    ap (λ rest. (a, x) ∷ rest) (addressed-append ((a + 1) % 2 ^ 32) xs ys next ∙ ap (λ n. addressed ((a + 1) % 2 ^ 32) xs ++ addressed n ys) same)

abbrev pub outside : ℕ → ℕ → ℕ × ℕ → Bool
outside from to p = not (is_inside from to p.0)

-- an address outside of the window is the first
pub outside_found : (from to at a i : ℕ) (bytes : List ℕ) → i < length bytes → is_inside from to a ≡ false
    → find (outside from to) (addressed at bytes) ≡ find (outside from to) (addressed a (drop i bytes))
    → Some a ≡ option_map (λ p. p.0) (find (outside from to) (addressed at bytes))
outside_found from to at a i bytes below out so_far =
    sym (ap (option_map (λ p. p.0)) (so_far ∙ ap (find (outside from to)) (addressed-drop a bytes i below)
    ∙ ap (λ b. cond (not b) (Some (a, get_or bytes i 0)) (find (outside from to) (addressed ((a + 1) % 2 ^ 32) (drop (i + 1) bytes)))) out))

-- one within it isn't
pub outside_on : (from to at a b i : ℕ) (bytes : List ℕ) → i < length bytes → is_inside from to a ≡ true → b ≡ (a + 1) % 2 ^ 32
    → find (outside from to) (addressed at bytes) ≡ find (outside from to) (addressed a (drop i bytes))
    → find (outside from to) (addressed at bytes) ≡ find (outside from to) (addressed b (drop (i + 1) bytes))
outside_on from to at a b i bytes below within next so_far =
    so_far ∙ ap (find (outside from to)) (addressed-drop a bytes i below)
    ∙ ap (λ b. cond (not b) (Some (a, get_or bytes i 0)) (find (outside from to) (addressed ((a + 1) % 2 ^ 32) (drop (i + 1) bytes)))) within
    ∙ ap (λ n. find (outside from to) (addressed n (drop (i + 1) bytes))) (sym next)

-- a taken address overlaps
pub overlap_found : (placed : List (ℕ × ℕ)) (at a i : ℕ) (bytes : List ℕ) → i < length bytes → is_taken placed a ≡ true
    → is_overlap placed (addressed at bytes) ≡ is_overlap placed (addressed a (drop i bytes)) → true ≡ is_overlap placed (addressed at bytes)
overlap_found placed at a i bytes below taken so_far =
    sym (so_far ∙ ap (is_overlap placed) (addressed-drop a bytes i below) ∙ ap (λ b. b || is_overlap placed (addressed ((a + 1) % 2 ^ 32) (drop (i + 1) bytes))) taken)

-- one that isn't taken doesn't
pub overlap_on : (placed : List (ℕ × ℕ)) (at a b i : ℕ) (bytes : List ℕ) → i < length bytes → is_taken placed a ≡ false → b ≡ (a + 1) % 2 ^ 32
    → is_overlap placed (addressed at bytes) ≡ is_overlap placed (addressed a (drop i bytes))
    → is_overlap placed (addressed at bytes) ≡ is_overlap placed (addressed b (drop (i + 1) bytes))
overlap_on placed at a b i bytes below free next so_far =
    so_far ∙ ap (is_overlap placed) (addressed-drop a bytes i below)
    ∙ ap (λ b. b || is_overlap placed (addressed ((a + 1) % 2 ^ 32) (drop (i + 1) bytes))) free
    ∙ ap (λ n. is_overlap placed (addressed n (drop (i + 1) bytes))) (sym next)

cond_or : (b c : Bool) → cond b true c ≡ (c || (b || false))
cond_or true true = refl
cond_or true false = refl
cond_or false true = refl
cond_or false false = refl

-- one more address is taken
pub taken_more : (placed : List (ℕ × ℕ)) (at a i q : ℕ) (bytes : List ℕ) (old new : Bool) → at < 2 ^ 32 → i < length bytes → a ≡ (at + i) % 2 ^ 32
    → old ≡ is_taken (placed ++ addressed at (take i bytes)) q → new ≡ cond (nat_eq a q) true old
    → new ≡ is_taken (placed ++ addressed at (take (i + 1) bytes)) q
taken_more placed at a i q bytes old new small below here so_far updated =
    let xs = addressed at (take i bytes) in
    let len : length (take i bytes) ≡ i = length-take-le i bytes (omega arith) in
    let last : addressed at (take (i + 1) bytes) ≡ xs ++ (a, get_or bytes i 0) ∷ [] =
    ap (addressed at) (take_more bytes i 0 below) ∙ addressed-append at (take i bytes) (get_or bytes i 0 ∷ []) small
    ∙ ap (λ n. xs ++ (n, get_or bytes i 0) ∷ []) (ap (λ n. (at + n) % 2 ^ 32) len ∙ sym here) in
    updated ∙ cond_or (nat_eq a q) old ∙ ap (λ b. b || (nat_eq a q || false)) so_far
    ∙ sym (list_any-append (λ p. p.0 == q) (placed ++ xs) ((a, get_or bytes i 0) ∷ []))
    ∙ ap (λ l. is_taken l q) (append_assoc placed xs ((a, get_or bytes i 0) ∷ []) ∙ ap (λ l. placed ++ l) (sym last))
