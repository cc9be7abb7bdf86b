-- What is known of names, and the address, behind one line more.
use Rattle.std.proofs.Common.{◌≡◌, ℕ, Bool, true, false, ◌||◌, List, [], ◌∷◌, ◌++◌, bytes_eq, is_some, ℤ, Option, Some, None, Result, Ok, Err, refl, sym, ap, ◌∙◌, if◌then◌else◌}
use Rattle.std.proofs.lemmas.Slice.Eq.{bytes_eq-Decides}
use Rattle.psx_asm.specs.declared.symbol.Symbol.{Symbol}
use Rattle.psx_asm.specs.declared.symbol.Symbol.TheVariants as symbols
use Rattle.psx_asm.specs.declared.fault.AsmFault.TheVariants.{Twice}
use Rattle.psx_asm.specs.Piece.{Piece}
use Rattle.psx_asm.specs.Operands.{Known}
use Rattle.psx_asm.specs.Statement.{Statement, Empty, Alone, Pair, Branches, Jumps, Address, Values, Text, Space, Align, Org, Equ}
use Rattle.psx_asm.specs.Line.{Line, ◌>>=◌, is_label, checked_label, checked_name, read_line, line_after, or_later, named, given, known_from, known, address_from, address, after, first_address}
use Rattle.psx_asm.specs.Walking.{labelled, over}

or_later_assoc : (a b c : Option Symbol) → or_later (or_later a b) c ≡ or_later a (or_later b c)
or_later_assoc (Some s) b c = refl
or_later_assoc None b c = refl

or_later-none : (a : Option Symbol) → a ≡ or_later a None
or_later-none (Some s) = refl
or_later-none None = refl

-- the last line says what the others don't
known_from-push : (at : ℕ) (ls : List Line) (l : Line) (w : List ℕ)
    → known_from at (ls ++ l ∷ []) w ≡ or_later (known_from at ls w) (given (address_from at ls) l w)
known_from-push at [] l w = sym (or_later-none (given at l w))
known_from-push at (x ∷ xs) l w =
    ap (or_later (given at x w)) (known_from-push (after at x.statement) xs l w)
    ∙ sym (or_later_assoc (given at x w) (known_from (after at x.statement) xs w) (given (address_from (after at x.statement) xs) l w))

-- and stands before the next address
pub address_from-push : (at : ℕ) (ls : List Line) (l : Line) → address_from at (ls ++ l ∷ []) ≡ after (address_from at ls) l.statement
address_from-push at [] l = refl
address_from-push at (x ∷ xs) l = address_from-push (after at x.statement) xs l

-- no name of a line was given before, and its label isn't its name of `.equ`
record IsNew (k : Known) (l : Line) : Type 0 where
  label : (w : List ℕ) → is_label l.label w ≡ true → k w ≡ None
  name : (w : List ℕ) → is_some (named l.statement w) ≡ true → (k w ≡ None) × (is_label l.label w ≡ false)

same : (v w : List ℕ) → bytes_eq v w ≡ true → v ≡ w
same v w e = (bytes_eq-Decides v w).0 e

unknown : (s : Option Symbol) → is_some s ≡ false → s ≡ None
unknown (Some s) e = cc
unknown None e = refl

-- a label that passes the check
new_label : (k : Known) (l m : Line) (label : Option (List ℕ)) → checked_label k l label ≡ Ok m
    → (l ≡ m) × ((w : List ℕ) → is_label label w ≡ true → k w ≡ None)
new_label k l m None e = (cc, λ w h. cc)
new_label k l m (Some v) e = by (is_some (k v)) refl e
  where
    by : (b : Bool) → is_some (k v) ≡ b → (if b then Err (Twice v) else Ok l) ≡ Ok m → (l ≡ m) × ((w : List ℕ) → bytes_eq v w ≡ true → k w ≡ None)
    by true t f = cc
    by false t f = (cc, λ w h. ap k (sym (same v w h)) ∙ unknown (k v) t)

-- a name that passes the check
abbrev NewName : Known → Line → Statement → Type 0
NewName k l s = (w : List ℕ) → is_some (named s w) ≡ true → (k w ≡ None) × (is_label l.label w ≡ false)

both_false : (a b : Bool) → (a || b) ≡ false → (a ≡ false) × (b ≡ false)
both_false true b e = cc
both_false false b e = (refl, e)

new_equ : (k : Known) (l m : Line) (v : List ℕ) (n : ℤ) → checked_name k l (Equ v n) ≡ Ok m → (l ≡ m) × NewName k l (Equ v n)
new_equ k l m v n e = by (is_some (k v) || is_label l.label v) refl e
  where
    is_same : (w : List ℕ) (b : Bool) → bytes_eq v w ≡ b → is_some (if b then Some (symbols.Number n) else None) ≡ true → v ≡ w
    is_same w true t h = same v w t
    is_same w false t h = cc

    by : (b : Bool) → (is_some (k v) || is_label l.label v) ≡ b → (if b then Err (Twice v) else Ok l) ≡ Ok m → (l ≡ m) × NewName k l (Equ v n)
    by true t f = cc
    by false t f = (
      cc,
      λ w h.
          let e : v ≡ w = is_same w (bytes_eq v w) refl h in
          let both = both_false (is_some (k v)) (is_label l.label v) t in
          (ap k (sym e) ∙ unknown (k v) both.0, ap (is_label l.label) (sym e) ∙ both.1),
    )

new_name : (k : Known) (l m : Line) (s : Statement) → checked_name k l s ≡ Ok m → (l ≡ m) × NewName k l s
new_name k l m (Equ v n) e = new_equ k l m v n e
new_name k l m Empty e = (cc, λ w h. cc)
new_name k l m (Alone i) e = (cc, λ w h. cc)
new_name k l m (Pair i j) e = (cc, λ w h. cc)
new_name k l m (Branches i v) e = (cc, λ w h. cc)
new_name k l m (Jumps i v) e = (cc, λ w h. cc)
new_name k l m (Address t v) e = (cc, λ w h. cc)
new_name k l m (Values x v) e = (cc, λ w h. cc)
new_name k l m (Text b) e = (cc, λ w h. cc)
new_name k l m (Space n) e = (cc, λ w h. cc)
new_name k l m (Align n) e = (cc, λ w h. cc)
new_name k l m (Org n) e = (cc, λ w h. cc)

-- what a bind gave came from something
pub bind_ok : {A B E : Type 0} (r : Result A E) (f : A → Result B E) (y : B) → (r >>= f) ≡ Ok y → (x : A) × (r ≡ Ok x) × (f x ≡ Ok y)
bind_ok (Ok x) f y e = (x, refl, e)
bind_ok (Err d) f y e = cc

-- a line without a fault gives new names
is_new : (k : Known) (reading : Option (List Piece)) (l : Line) → line_after k reading ≡ Ok l → IsNew k l
is_new k reading l e =
    let read = bind_ok (read_line k reading) _ l e in
    let labelled = bind_ok (checked_label k read.0 read.0.label) _ l read.2 in
    let first = new_label k read.0 labelled.0 read.0.label labelled.1 in
    let second = new_name k labelled.0 l labelled.0.statement labelled.2 in
    let whole : read.0 ≡ l = first.0 ∙ second.0 in
    record {
      label = λ w h. first.1 w (ap (λ x. is_label x.label w) whole ∙ h);
      name = λ w h. let found = second.1 w (ap (λ x. is_some (named x.statement w)) second.0 ∙ h) in
          (found.0, ap (λ x. is_label x.label w) (sym second.0) ∙ found.1);
    }

-- what is said last of a new name is what is said first of it
over_given : (k : Known) (at : ℕ) (l : Line) → IsNew k l → (w : List ℕ)
    → over (named l.statement w) (over (labelled at l.label w) (k w)) ≡ or_later (k w) (given at l w)
over_given k at l new w = by l.label (named l.statement w) (k w) (new.label w) (new.name w)
  where
    by : (label : Option (List ℕ)) (s old : Option Symbol) → (is_label label w ≡ true → old ≡ None) → (is_some s ≡ true → (old ≡ None) × (is_label label w ≡ false))
        → over s (over (labelled at label w) old) ≡ or_later old (if is_label label w then Some (symbols.Address at) else s)
    by None None None first second = refl
    by None None (Some o) first second = refl
    by None (Some s) None first second = refl
    by None (Some s) (Some o) first second = let e : Some o ≡ None = (second refl).0 in cc
    by (Some v) s old first second = test (bytes_eq v w) s old first second
      where
        test : (b : Bool) (s old : Option Symbol) → (b ≡ true → old ≡ None) → (is_some s ≡ true → (old ≡ None) × (b ≡ false))
            → over s (over (if b then Some (symbols.Address at) else None) old) ≡ or_later old (if b then Some (symbols.Address at) else s)
        test true None None first second = refl
        test true None (Some o) first second = let e : Some o ≡ None = first refl in cc
        test true (Some s) old first second = let e : true ≡ false = (second refl).1 in cc
        test false None None first second = refl
        test false None (Some o) first second = refl
        test false (Some s) None first second = refl
        test false (Some s) (Some o) first second = let e : Some o ≡ None = (second refl).0 in cc

-- the names that are known behind one line more
pub known-push : (before : List Line) (l : Line) (reading : Option (List Piece)) → line_after (known before) reading ≡ Ok l → (w : List ℕ)
    → over (named l.statement w) (over (labelled (address before) l.label w) (known before w)) ≡ known (before ++ l ∷ []) w
known-push before l reading read w =
    over_given (known before) (address before) l (is_new (known before) reading l read) w ∙ sym (known_from-push first_address before l w)
