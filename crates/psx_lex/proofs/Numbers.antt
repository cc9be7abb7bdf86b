-- The number that a text begins with, with its sign.
use Rattle.std.proofs.Common.{◌≡◌, ◌≢◌, ℕ, zero, suc, ◌<◌, ◌≤◌, ℤ, pos, negsuc, neg_ℤ, ◌≤ℤ◌, ◌||◌, ◌==◌, List, [], ◌∷◌, length, take, drop, slice_index, refl, sym, ap, subst, ◌∙◌, inl, inr, ⊎_elim, arith}
use Rattle.std.proofs.lemmas.Bool.{cond-false, or_parts}
use Rattle.std.proofs.lemmas.Int.{ints}
use Rattle.psx_lex.specs.declared.token.Kind.{Kind}
use Rattle.psx_lex.specs.declared.token.Kind.TheVariants.{Name, Directive, Number, Text, Mark}
use Rattle.psx_lex.specs.Lexeme.{is_name_start, is_mark, IsMagnitude, IsNumber, IsLexeme, IsLongest, Fits, BeginsNone}
use Rattle.psx_lex.specs.Magnitude.{IsLongestMagnitude, HasNoMagnitude, BeginsNoOther}
use Rattle.psx_lex.proofs.Starts.{rank, rank_at, rank_of, some_bytes}
use Rattle.psx_lex.proofs.OneKind.{not_minus}

rank_other : (c : ℕ) → BeginsNoOther c → rank_at c ≡ 2
rank_other c none =
    let a = or_parts (is_name_start c) (c == 46 || (c == 34 || is_mark c)) none in
    let b = or_parts (c == 46) (c == 34 || is_mark c) a.1 in
    let d = or_parts (c == 34) (is_mark c) b.1 in
    cond-false (is_name_start c) 0 _ a.0 ∙ cond-false (c == 46) 1 _ b.0 ∙ cond-false (c == 34) 3 _ d.0 ∙ cond-false (is_mark c) 4 2 d.1

only_number : (k : Kind) → rank k ≡ 2 → (value : ℤ) × (k ≡ Number value)
only_number (Number value) e = (value, refl)
only_number Name e = absurd (omega arith)
only_number Directive e = absurd (omega arith)
only_number Text e = absurd (omega arith)
only_number Mark e = absurd (omega arith)

first_of : (b : ℕ) (text rest : List ℕ) (n : ℕ) → take n text ≡ b ∷ rest → slice_index text 0 ≡ b
first_of b text rest zero e = cc
first_of b [] rest (suc n) e = cc
first_of b (c ∷ cs) rest (suc n) e = cc

-- a lexeme there is a number
number_there : (text : List ℕ) (k : Kind) (n : ℕ) → BeginsNoOther (slice_index text 0) → n ≤ length text → IsLexeme k (take n text)
    → (value : ℤ) × (k ≡ Number value) × IsNumber (take n text) value
number_there text k n none within form =
    let number = only_number k (rank_of text k n within form ∙ rank_other (slice_index text 0) none) in
    (number.0, number.1, subst (λ (k : Kind). IsLexeme k (take n text)) number.1 form)

-- where no minus sign stands
plain_there : (text : List ℕ) (k : Kind) (n : ℕ) → BeginsNoOther (slice_index text 0) → slice_index text 0 ≢ 45 → n ≤ length text → IsLexeme k (take n text)
    → (m : ℕ) × (k ≡ Number (pos m)) × IsMagnitude (take n text) m
plain_there text k n none plus within form =
    let number = number_there text k n none within form in
    ⊎_elim (λ plain. (plain.0, number.1 ∙ ap Number plain.2, plain.1)) (λ minus. absurd (plus (first_of 45 text minus.0 n minus.2))) number.2

pub plain_longest : (text : List ℕ) (m v : ℕ) → BeginsNoOther (slice_index text 0) → slice_index text 0 ≢ 45 → IsLongestMagnitude text m v → IsLongest text (Number (pos v)) m
plain_longest text m v none plus longest = record {
  within = longest.within;
  form = inl (v, longest.form, refl);
  longest = λ other more within form. let there = plain_there text other more none plus within form in longest.longest more there.0 within there.2;
}

pub no_plain : (text : List ℕ) → BeginsNoOther (slice_index text 0) → slice_index text 0 ≢ 45 → HasNoMagnitude text → BeginsNone text
no_plain text none plus nothing k n token =
    let there = plain_there text k n none plus token.lexeme.within token.lexeme.form in
    let fits = subst (λ (k : Kind). Fits k n) there.1 token.fits in
    nothing n there.0 (omega (arith, ints, fits.1)) (record {
      within = token.lexeme.within;
      form = there.2;
      longest = λ more other within form. token.lexeme.longest (Number (pos other)) more within (inl (other, form, refl));
    })

-- where one does
minus_there : (c : ℕ) (cs : List ℕ) (k : Kind) (n : ℕ) → c ≡ 45 → n ≤ length (c ∷ cs) → IsLexeme k (take n (c ∷ cs))
    → (m v : ℕ) × (n ≡ suc m) × (k ≡ Number (neg_ℤ (pos v))) × IsMagnitude (take m cs) v
minus_there c cs k zero sign within form = absurd (omega (arith, some_bytes (c ∷ cs) k zero form))
minus_there c cs k (suc n) sign within form =
    let none : BeginsNoOther c = subst BeginsNoOther (sym sign) refl in
    let number = number_there (c ∷ cs) k (suc n) none within form in
    ⊎_elim (λ plain. absurd (not_minus (c ∷ take n cs) (take n cs) plain.0 plain.1 (ap (λ (b : ℕ). b ∷ take n cs) sign)))
    (λ minus.
    let same : minus.0 ≡ take n cs = cc (minus.2) in
    (n, minus.1, refl, number.1 ∙ ap Number minus.4, subst (λ (w : List ℕ). IsMagnitude w minus.1) same minus.3)) number.2

pub minus_longest : (text : List ℕ) (m v : ℕ) → slice_index text 0 ≡ 45 → IsLongestMagnitude (drop 1 text) m v → IsLongest text (Number (neg_ℤ (pos v))) (suc m)
minus_longest [] m v sign longest = absurd (omega arith)
minus_longest (c ∷ cs) m v sign longest = record {
  within = omega (arith, longest.within);
  form = inr (take m cs, v, (λ i. sign i ∷ take m cs), longest.form, refl);
  longest = λ other more within form.
      let there = minus_there c cs other more sign within form in
      omega (arith, longest.longest there.0 there.1 (omega (arith, there.2)) there.4, there.2);
}

pub no_minus : (text : List ℕ) → slice_index text 0 ≡ 45 → HasNoMagnitude (drop 1 text) → BeginsNone text
no_minus [] sign nothing k n token = absurd (omega arith)
no_minus (c ∷ cs) sign nothing k n token =
    let there = minus_there c cs k n sign token.lexeme.within token.lexeme.form in
    let fits = subst (λ (k : Kind). Fits k n) there.3 token.fits in
    let within : suc there.0 ≤ length (c ∷ cs) = omega (arith, there.2, token.lexeme.within) in
    nothing there.0 there.1 (omega (arith, ints, fits.0)) (record {
      within = omega (arith, within);
      form = there.4;
      longest = λ more other within form.
          omega (arith, there.2, token.lexeme.longest (Number (neg_ℤ (pos other))) (suc more) (omega arith) (inr (take more cs, other, (λ i. sign i ∷ take more cs), form, refl)));
    })

pub minus_fits : (v : ℕ) → v ≤ 2147483648 → (negsuc 2147483647 ≤ℤ neg_ℤ (pos v)) × (neg_ℤ (pos v) ≤ℤ pos 4294967295)
minus_fits v small = (omega (arith, ints), omega (arith, ints))

pub minus_large : (v : ℕ) → 2147483648 < v → negsuc 2147483647 ≤ℤ neg_ℤ (pos v) → ⊥
minus_large v large fits = absurd (omega (arith, ints))
