use Rattle.std.proofs.Common.{◌≡◌, ◌≤◌, ◌+◌, ℕ, suc, ℤ, pos, neg_ℤ, ◌-ℤ◌, to_z, of_z, w64, List, sym, subst, ◌∙◌, arith}
use Rattle.std.proofs.lemmas.Int.{ints}
use Rattle.psx_lex.specs.declared.token.Kind.TheVariants.{Number}
use Rattle.psx_lex.specs.Lexeme.{IsLongest, Fits, BeginsToken}
use Rattle.psx_lex.specs.Magnitude.{IsLongestMagnitude, HasNoMagnitude}
use Rattle.psx_lex.proofs.Numbers.{plain_longest, no_plain, minus_longest, no_minus, minus_fits, minus_large}
use Rattle.psx_lex.proofs.OneKind.{none_fits}
use Rattle.psx_lex.proofs.first.number.Goals as goal

-- the numbers that a value of 64 bits is
minus_value : (v : ℕ) → v ≤ 2147483648 → neg_ℤ (pos v) ≡ to_z w64 (of_z w64 (pos 0 -ℤ to_z w64 v))
minus_value v small = omega (arith, ints)

plain_value : (v : ℕ) → v ≤ 4294967295 → pos v ≡ to_z w64 v
plain_value v small = omega (arith, ints)

token : (text : List ℕ) (z w : ℤ) (m n : ℕ) → z ≡ w → m ≡ n → IsLongest text (Number z) m → Fits (Number z) m → BeginsToken text (Number w) n
token text z w m n value len longest fits =
    subst (BeginsToken text (Number w)) len (subst (λ (z : ℤ). BeginsToken text (Number z) m) value (record { lexeme = longest; fits = fits }))

pub returns-in_default-clause-none : goal.returns-in_default-clause-none
returns-in_default-clause-none c =
    no_minus c.args.text.now (sym c.byte_at.ensures ∙ c.if-byte_at-eq45.true) (subst HasNoMagnitude c.skip.ensures c.in_default.ensures.none)

pub returns-then-read-gt2147483648-clause-none : goal.returns-then-read-gt2147483648-clause-none
returns-then-read-gt2147483648-clause-none c =
    let read = subst (λ (t : List ℕ). IsLongestMagnitude t c.in-Some.read.len c.in-Some.read.value) c.skip.ensures c.in-Some.ensures.found in
    none_fits c.args.text.now (Number (neg_ℤ (pos c.in-Some.read.value))) (suc c.in-Some.read.len)
    (minus_longest c.args.text.now c.in-Some.read.len c.in-Some.read.value (sym c.byte_at.ensures ∙ c.if-byte_at-eq45.true) read)
    (λ fits. minus_large c.in-Some.read.value c.if-read-gt2147483648.true fits.0)

pub returns-then-byte_at-eq45-clause-found : goal.returns-then-byte_at-eq45-clause-found
returns-then-byte_at-eq45-clause-found c =
    let read = subst (λ (t : List ℕ). IsLongestMagnitude t c.in-Some.read.len c.in-Some.read.value) c.skip.ensures c.in-Some.ensures.found in
    let v = c.in-Some.read.value in
    let small = c.if-read-gt2147483648.false in
    token c.args.text.now (neg_ℤ (pos v)) (to_z w64 (of_z w64 (pos 0 -ℤ to_z w64 v))) (suc c.in-Some.read.len) (c.in-Some.read.len + 1) (minus_value v small) (omega arith)
    (minus_longest c.args.text.now c.in-Some.read.len v (sym c.byte_at.ensures ∙ c.if-byte_at-eq45.true) read) (minus_fits v small)

pub returns-in_default-magnitude-clause-none : goal.returns-in_default-magnitude-clause-none
returns-in_default-magnitude-clause-none c =
    no_plain c.args.text.now c.requires (λ e. c.if-byte_at-eq45.false (c.byte_at.ensures ∙ e)) c.in_default-magnitude.ensures.none

pub returns-then-read-gt4294967295-clause-none : goal.returns-then-read-gt4294967295-clause-none
returns-then-read-gt4294967295-clause-none c =
    let v = c.in-Some-magnitude.read.value in
    none_fits c.args.text.now (Number (pos v)) c.in-Some-magnitude.read.len
    (plain_longest c.args.text.now c.in-Some-magnitude.read.len v c.requires (λ e. c.if-byte_at-eq45.false (c.byte_at.ensures ∙ e)) c.in-Some-magnitude.ensures.found)
    (λ fits. absurd (omega (arith, ints, fits.1)))

pub returns-clause-found : goal.returns-clause-found
returns-clause-found c =
    let v = c.in-Some-magnitude.read.value in
    let small = c.if-read-gt4294967295.false in
    token c.args.text.now (pos v) (to_z w64 v) c.in-Some-magnitude.read.len c.in-Some-magnitude.read.len (plain_value v small) (λ i. c.in-Some-magnitude.read.len)
    (plain_longest c.args.text.now c.in-Some-magnitude.read.len v c.requires (λ e. c.if-byte_at-eq45.false (c.byte_at.ensures ∙ e)) c.in-Some-magnitude.ensures.found)
    (omega (arith, ints), omega (arith, ints))
