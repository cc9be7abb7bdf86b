-- What an assembly text places stands in the window.
use Rattle.std.proofs.Common.{◌≡◌, ℕ, ◌≤◌, arith, get_or, List, [], ◌∷◌, ◌++◌, true, false, Bool, Option, None, Some, Result, Ok, Err, refl}
use Rattle.std.specs.Prelude.{All, find, not, nat_lt, length, codes, ◌+◌, if◌then◌else◌}
use Rattle.std.proofs.lemmas.List.Elements.{All-cons, All-append}
use Rattle.std.proofs.lemmas.Bool.Decides.{nat_tests}
use Rattle.psx_asm.specs.declared.fault.AsmFault.{AsmFault}
use Rattle.psx_asm.specs.declared.fault.AsmFault.TheVariants.{Overlap}
use Rattle.psx_asm.specs.declared.fault.AsmError.{AsmError}
use Rattle.psx_asm.specs.declared.fault.AsmError.TheVariants as errors
use Rattle.psx_asm.specs.Piece.{Piece}
use Rattle.psx_asm.specs.Operands.{Known}
use Rattle.psx_asm.specs.Statement.{Statement}
use Rattle.psx_asm.specs.Line.{Line, ◌>>=◌, address, known}
use Rattle.psx_asm.specs.Encoding.{encoded}
use Rattle.psx_asm.specs.Placing.{addressed, is_inside, in_window, is_overlap, placing}
use Rattle.psx_asm.specs.Assembly.{Placed, IsAssemblyOf, longest, numbered, label_address, first_round, second_round, assembled}

abbrev pub InWindow : (from to : ℕ) → List (ℕ × ℕ) → Type 0
InWindow from to xs = All (λ (p : ℕ × ℕ). (from ≤ p.0) × (p.0 ≤ to)) xs

-- ---- a line

find-none : (p : ℕ × ℕ → Bool) (xs : List (ℕ × ℕ)) → find p xs ≡ None → All (λ (x : ℕ × ℕ). p x ≡ false) xs
find-none p [] e = λ k d less. absurd (omega arith)
find-none p (x ∷ xs) e = go (p x) refl (find-none p xs) e
  where
    go : (b : Bool) → p x ≡ b → (find p xs ≡ None → All (λ (y : ℕ × ℕ). p y ≡ false) xs) → (if b then Some x else find p xs) ≡ None → All (λ (y : ℕ × ℕ). p y ≡ false) (x ∷ xs)
    go true is rest h = absurd cc
    go false is rest h = All-cons (λ (y : ℕ × ℕ). p y ≡ false) x xs is (rest h)

inside-le : (from to at : ℕ) → not (is_inside from to at) ≡ false → (from ≤ at) × (at ≤ to)
inside-le from to at e = (grind (arith, nat_tests), grind (arith, nat_tests))

-- bytes of which the first outside the window is none stand in it
inside-window : (from to : ℕ) (new : List (ℕ × ℕ)) → find (λ (p : ℕ × ℕ). not (is_inside from to p.0)) new ≡ None → InWindow from to new
inside-window from to new e = λ k d less. inside-le from to (get_or new k d).0 (find-none (λ (p : ℕ × ℕ). not (is_inside from to p.0)) new e k d less)

abbrev Bytes : Type 0
Bytes = Result (List (ℕ × ℕ)) AsmFault

-- what is given of bytes where none of them overlaps
no-overlap : (b : Bool) (new other : List (ℕ × ℕ)) → ◌≡◌ {A = Bytes} (if b then Err Overlap else Ok new) (Ok other) → other ≡ new
no-overlap true new other e = absurd cc
no-overlap false new other e = cc

-- and of the first outside the window
window-ok : (from to : ℕ) (placed new other : List (ℕ × ℕ)) (o : Option (ℕ × ℕ)) → find (λ (p : ℕ × ℕ). not (is_inside from to p.0)) new ≡ o
    → ◌≡◌ {A = Bytes} ((in_window new o) >>= (λ (n : List (ℕ × ℕ)). if is_overlap placed n then Err Overlap else Ok n)) (Ok other) → InWindow from to other
window-ok from to placed new other (Some p) is e = absurd cc
window-ok from to placed new other None is e = rw (no-overlap (is_overlap placed new) new other e) (inside-window from to new is)

encoded-ok : (from to at : ℕ) (placed new : List (ℕ × ℕ)) (r : Result (List ℕ) AsmFault)
    → ◌≡◌ {A = Bytes} (r >>= (λ (bytes : List ℕ).
    (in_window (addressed at bytes) (find (λ (p : ℕ × ℕ). not (is_inside from to p.0)) (addressed at bytes))) >>= (λ (n : List (ℕ × ℕ)). if is_overlap placed n then Err Overlap else Ok n))) (Ok new)
    → InWindow from to new
encoded-ok from to at placed new (Err fault) e = absurd cc
encoded-ok from to at placed new (Ok bytes) e = window-ok from to placed (addressed at bytes) new (find (λ (p : ℕ × ℕ). not (is_inside from to p.0)) (addressed at bytes)) refl e

placing-inside : (k : Known) (from to at : ℕ) (placed new : List (ℕ × ℕ)) (s : Statement) → placing k from to at placed s ≡ Ok new → InWindow from to new
unfolding placing
placing-inside k from to at placed new s e = encoded-ok from to at placed new (encoded k at s) e

-- ---- all lines

second-inside : (names : Known) (from to : ℕ) (placed : List (ℕ × ℕ)) (before lines : List Line) (bytes : List (ℕ × ℕ)) → InWindow from to placed → second_round names from to placed before lines ≡ Ok bytes → InWindow from to bytes
second-inside names from to placed before [] bytes inside e =
    let same : bytes ≡ placed = cc in
    rw same inside
second-inside names from to placed before (line ∷ lines) bytes inside e = go (placing names from to (address before) placed line.statement) refl (λ new. second-inside names from to (placed ++ new) (before ++ line ∷ []) lines bytes) e
  where
    go : (r : Bytes) → placing names from to (address before) placed line.statement ≡ r
        → ((new : List (ℕ × ℕ)) → InWindow from to (placed ++ new) → second_round names from to (placed ++ new) (before ++ line ∷ []) lines ≡ Ok bytes → InWindow from to bytes)
        → (numbered (length before + 1) r >>= (λ (new : List (ℕ × ℕ)). second_round names from to (placed ++ new) (before ++ line ∷ []) lines)) ≡ Ok bytes → InWindow from to bytes
    go (Err fault) is rest h = absurd cc
    go (Ok new) is rest h = rest new (All-append (λ (p : ℕ × ℕ). (from ≤ p.0) × (p.0 ≤ to)) placed new inside (placing-inside names from to (address before) placed new line.statement is)) h

abbrev Whole : Type 0
Whole = Result Placed AsmError

rounds-inside : (from to : ℕ) (placed : Placed) (start : Option ℕ) (r : Result (List (ℕ × ℕ)) AsmError) → ((bytes : List (ℕ × ℕ)) → r ≡ Ok bytes → InWindow from to bytes)
    → ◌≡◌ {A = Whole} (Ok placed) (r >>= (λ (bytes : List (ℕ × ℕ)). Ok (record { bytes = bytes; start = start }))) → InWindow from to placed.bytes
rounds-inside from to placed start (Err fault) inside e = absurd cc
rounds-inside from to placed start (Ok bytes) inside e =
    let same : placed.bytes ≡ bytes = cc in
    rw same (inside bytes refl)

assembled-inside : (from to : ℕ) (placed : Placed) (readings : List (Option (List Piece))) → ◌≡◌ {A = Whole} (Ok placed) (assembled from to readings) → InWindow from to placed.bytes
assembled-inside from to placed readings e = go (first_round [] readings) e
  where
    go : (r : Result (List Line) AsmError)
        → ◌≡◌ {A = Whole} (Ok placed) (r >>= (λ (lines : List Line). second_round (known lines) from to [] [] lines >>= (λ (bytes : List (ℕ × ℕ)). Ok (record { bytes = bytes; start = label_address (known lines (codes "start")) }))))
        → InWindow from to placed.bytes
    go (Err fault) h = absurd cc
    go (Ok lines) h = rounds-inside from to placed (label_address (known lines (codes "start"))) (second_round (known lines) from to [] [] lines) (λ bytes. second-inside (known lines) from to [] [] lines bytes (λ k d less. absurd (omega arith))) h

pub in_window-of : (text : List ℕ) (from to : ℕ) (placed : Placed) → IsAssemblyOf text from to (Ok placed) → InWindow from to placed.bytes
in_window-of text from to placed is = go (nat_lt longest (length text)) is.is
  where
    go : (b : Bool) → ◌≡◌ {A = Whole} (Ok placed) (if b then Err (errors.TooLong longest) else assembled from to is.readings) → InWindow from to placed.bytes
    go true h = absurd cc
    go false h = assembled-inside from to placed is.readings h
