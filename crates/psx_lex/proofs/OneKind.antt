-- A lexeme has one kind, so a text begins with one token at most.
use Rattle.std.proofs.Common.{◌≡◌, ℕ, ℤ, pos, neg_ℤ, List, [], ◌∷◌, take, refl, sym, ap, subst, ◌∙◌, ⊎_elim, arith}
use Rattle.std.specs.Str.Parse.{AllDigits, digits_value}
use Rattle.std.proofs.lemmas.Bool.{false≢true}
use Rattle.psx_lex.specs.declared.token.Kind.{Kind}
use Rattle.psx_lex.specs.declared.token.Kind.TheVariants.{Name, Directive, Number, Text, Mark}
use Rattle.psx_lex.specs.Lexeme.{IsMagnitude, IsNumber, IsLexeme, IsLongest, Fits, BeginsNone}
use Rattle.psx_lex.proofs.Starts.{magnitude_starts, rank_of, rank, only_name, only_directive, only_text, only_mark}

not_digits : (c : ℕ) (word cs : List ℕ) → AllDigits 10 word → (d : ℕ) → word ≡ d ∷ c ∷ cs → c ≡ 120 → ⊥
not_digits c word cs digits d e x =
    let all : AllDigits 10 (d ∷ 120 ∷ cs) = subst (AllDigits 10) (e ∙ ap (λ (b : ℕ). d ∷ b ∷ cs) x) digits in
    absurd (omega (arith, all.1.0))

not_quote : (word cs : List ℕ) → AllDigits 10 word → word ≡ 39 ∷ cs → ⊥
not_quote word cs digits e =
    let all : AllDigits 10 (39 ∷ cs) = subst (AllDigits 10) e digits in
    absurd (omega (arith, all.0))

two_bytes : (a b : ℕ) (word xs ys : List ℕ) → word ≡ a ∷ xs → word ≡ b ∷ ys → a ≡ b
two_bytes a b word xs ys e f = cc

pub magnitude_same : (word : List ℕ) (m n : ℕ) → IsMagnitude word m → IsMagnitude word n → m ≡ n
magnitude_same word m n = ⊎_elim
    (λ decimal. ⊎_elim (λ other. decimal.1 ∙ sym other.1)
    (⊎_elim (λ hex. absurd (not_digits 120 word hex.0 decimal.0.1 48 hex.1 refl)) (λ quoted. absurd (not_quote word (n ∷ 39 ∷ []) decimal.0.1 quoted.0))))
    (⊎_elim
    (λ hex. ⊎_elim (λ decimal. absurd (not_digits 120 word hex.0 decimal.0.1 48 hex.1 refl))
    (⊎_elim (λ other. let same : hex.0 ≡ other.0 = cc (hex.1, other.1) in hex.3 ∙ ap (digits_value 16) same ∙ sym other.3)
    (λ quoted. let wrong : 48 ≡ 39 = two_bytes 48 39 word (120 ∷ hex.0) (n ∷ 39 ∷ []) hex.1 quoted.0 in absurd (omega arith))))
    (λ quoted. ⊎_elim (λ decimal. absurd (not_quote word (m ∷ 39 ∷ []) decimal.0.1 quoted.0))
    (⊎_elim (λ hex. let wrong : 48 ≡ 39 = two_bytes 48 39 word (120 ∷ hex.0) (m ∷ 39 ∷ []) hex.1 quoted.0 in absurd (omega arith))
    (λ other. cc (quoted.0, other.0)))))

pub not_minus : (word magnitude : List ℕ) (m : ℕ) → IsMagnitude word m → word ≡ 45 ∷ magnitude → ⊥
not_minus word magnitude m form e = ⊎_elim (λ digit. false≢true digit) (λ quote. absurd (omega arith))
    (magnitude_starts 45 magnitude m (subst (λ (w : List ℕ). IsMagnitude w m) e form))

number_same : (word : List ℕ) (a b : ℤ) → IsNumber word a → IsNumber word b → a ≡ b
number_same word a b = ⊎_elim
    (λ plain. ⊎_elim (λ other. plain.2 ∙ ap pos (magnitude_same word plain.0 other.0 plain.1 other.1) ∙ sym other.2)
    (λ minus. absurd (not_minus word minus.0 plain.0 plain.1 minus.2)))
    (λ minus. ⊎_elim (λ plain. absurd (not_minus word minus.0 plain.0 plain.1 minus.2))
    (λ other.
    let same : other.0 ≡ minus.0 = cc (minus.2, other.2) in
    let form = subst (λ (w : List ℕ). IsMagnitude w other.1) same other.3 in
    minus.4 ∙ ap (λ (n : ℕ). neg_ℤ (pos n)) (magnitude_same minus.0 minus.1 other.1 minus.3 form) ∙ sym other.4))

same_rank : (k l : Kind) (word : List ℕ) → rank k ≡ rank l → IsLexeme k word → IsLexeme l word → k ≡ l
same_rank Name l word e a b = sym (only_name l (sym e))
same_rank Directive l word e a b = sym (only_directive l (sym e))
same_rank Text l word e a b = sym (only_text l (sym e))
same_rank Mark l word e a b = sym (only_mark l (sym e))
same_rank (Number x) (Number y) word e a b = ap Number (number_same word x y a b)
same_rank (Number x) Name word e a b = absurd (omega arith)
same_rank (Number x) Directive word e a b = absurd (omega arith)
same_rank (Number x) Text word e a b = absurd (omega arith)
same_rank (Number x) Mark word e a b = absurd (omega arith)

pub same_longest : (text : List ℕ) (k l : Kind) (m n : ℕ) → IsLongest text k m → IsLongest text l n → (k ≡ l) × (m ≡ n)
same_longest text k l m n a b =
    let len : m ≡ n = omega (arith, a.longest l n b.within b.form, b.longest k m a.within a.form) in
    let rank = rank_of text k m a.within a.form ∙ sym (rank_of text l n b.within b.form) in
    (same_rank k l (take n text) rank (subst (λ (i : ℕ). IsLexeme k (take i text)) len a.form) b.form, len)

-- where the longest lexeme is no token, none is
pub none_fits : (text : List ℕ) (k : Kind) (m : ℕ) → IsLongest text k m → (Fits k m → ⊥) → BeginsNone text
none_fits text k m longest bad l n token =
    let same = same_longest text k l m n longest token.lexeme in
    bad (subst (λ (i : ℕ). Fits k i) (sym same.1) (subst (λ (j : Kind). Fits j n) (sym same.0) token.fits))
