-- A line put together of words and of what parts them, and the pieces that it is read as.
use Rattle.std.proofs.Common.{◌≡◌, ℕ, zero, suc, ◌+◌, ◌-◌, ◌<◌, Bool, true, List, [], ◌∷◌, ◌++◌, length, take, drop, slice_index, Some, refl, sym, ap, subst, ◌∙◌, append_assoc, length-append, arith}
use Rattle.std.specs.List.{list_all}
use Rattle.std.proofs.lemmas.Bool.{and_parts}
use Rattle.std.proofs.lemmas.List.{get_or_append_left, get_or-append_right, drop_at, take_at}
use Rattle.psx_lex.specs.declared.token.Kind.{Kind}
use Rattle.psx_lex.specs.declared.token.Token.{Token}
use Rattle.psx_lex.specs.Lexeme.{BeginsToken}
use Rattle.psx_lex.specs.Line.{is_blank, IsBlank, HasTokens}
use Rattle.psx_asm.specs.Piece.{Piece, piece_of, pieces, IsReadAs}

-- a word behind blanks, and what kind of token it is
pub record Spelled : Type 0 where
  pub before : List ℕ
  pub word : List ℕ
  pub kind : Kind

-- the text of spelled words
abbrev pub spelled_text : List Spelled → List ℕ
spelled_text [] = []
spelled_text (p ∷ ps) = p.before ++ (p.word ++ spelled_text ps)

-- the tokens of spelled words of which the first stands at a place
abbrev pub tokens_from : ℕ → List Spelled → List Token
tokens_from at [] = []
tokens_from at (p ∷ ps) =
    record { kind = p.kind; from = at + length p.before; to = at + length p.before + length p.word } ∷ tokens_from (at + length p.before + length p.word) ps

-- blanks part the words, and each is a token
abbrev pub AreSpelled : List Spelled → Type 0
AreSpelled [] = Unit {0}
AreSpelled (p ∷ ps) = (list_all is_blank p.before ≡ true) × BeginsToken (p.word ++ spelled_text ps) p.kind (length p.word) × AreSpelled ps

all_at : (p : ℕ → Bool) (xs : List ℕ) (k : ℕ) → list_all p xs ≡ true → k < length xs → p (slice_index xs k) ≡ true
all_at p [] k all below = absurd (omega arith)
all_at p (x ∷ xs) zero all below = (and_parts (p x) (list_all p xs) all).0
all_at p (x ∷ xs) (suc k) all below = all_at p xs k (and_parts (p x) (list_all p xs) all).1 (omega arith)

blank_between : (front before rest : List ℕ) → list_all is_blank before ≡ true → IsBlank (front ++ (before ++ rest)) (length front) (length front + length before)
blank_between front before rest all = record {
  order = omega arith;
  within = omega (arith, length-append front (before ++ rest), length-append before rest);
  blank = λ k low high.
      let there = get_or-append_right front (before ++ rest) (length front) k 0 refl low ∙ get_or_append_left before rest 0 (k - length front) (omega arith) in
      subst (λ (c : ℕ). is_blank c ≡ true) (sym there) (all_at is_blank before (k - length front) all (omega arith));
}

-- spelled words are tokens wherever they stand
spelled_tokens : (front : List ℕ) (ps : List Spelled) → AreSpelled ps
    → HasTokens (front ++ spelled_text ps) (length front) (tokens_from (length front) ps) (length (front ++ spelled_text ps))
spelled_tokens front [] are = record {
  order = omega (arith, length-append front []);
  within = omega arith;
  blank = λ k low high. absurd (omega (arith, length-append front []));
}
spelled_tokens front (p ∷ ps) are =
    let rest = spelled_text ps in
    let more = front ++ (p.before ++ p.word) in
    let from = length front + length p.before in
    let whole : more ++ rest ≡ front ++ (p.before ++ (p.word ++ rest)) = simp append_assoc in
    let end : length more ≡ from + length p.word = omega (arith, length-append front (p.before ++ p.word), length-append p.before p.word) in
    let here : drop from (front ++ (p.before ++ (p.word ++ rest))) ≡ p.word ++ rest =
    ap (drop from) (sym (append_assoc front p.before (p.word ++ rest))) ∙ drop_at (front ++ p.before) (p.word ++ rest) from (length-append front p.before) in
    let size : length p.word ≡ (from + length p.word) - from = omega arith in (
      blank_between front p.before (p.word ++ rest) are.0,
      omega arith,
      subst (λ (t : List ℕ). BeginsToken t p.kind ((from + length p.word) - from)) (sym here) (subst (BeginsToken (p.word ++ rest) p.kind) size are.1),
      subst (λ (l : List ℕ). HasTokens l (from + length p.word) (tokens_from (from + length p.word) ps) (length l)) whole
          (subst (λ (n : ℕ). HasTokens (more ++ rest) n (tokens_from n ps) (length (more ++ rest))) end (spelled_tokens more ps are.2)),
    )

-- what each is read as
abbrev pub read_as : List Spelled → List Piece
read_as [] = []
read_as (p ∷ ps) = piece_of p.kind p.word ∷ read_as ps

cut_word : (front word rest : List ℕ) (from : ℕ) → length front ≡ from → take ((from + length word) - from) (drop from (front ++ (word ++ rest))) ≡ word
cut_word front word rest from e =
    let size : (from + length word) - from ≡ length word = omega arith in
    (λ i. take (size i) (drop_at front (word ++ rest) from e i)) ∙ take_at word rest (length word) refl

spelled_pieces : (front : List ℕ) (ps : List Spelled) → pieces (front ++ spelled_text ps) (tokens_from (length front) ps) ≡ read_as ps
spelled_pieces front [] = refl
spelled_pieces front (p ∷ ps) =
    let rest = spelled_text ps in
    let more = front ++ (p.before ++ p.word) in
    let from = length front + length p.before in
    let whole : more ++ rest ≡ front ++ (p.before ++ (p.word ++ rest)) = simp append_assoc in
    let end : length more ≡ from + length p.word = omega (arith, length-append front (p.before ++ p.word), length-append p.before p.word) in
    let here : take ((from + length p.word) - from) (drop from (front ++ (p.before ++ (p.word ++ rest)))) ≡ p.word =
    ap (λ (l : List ℕ). take ((from + length p.word) - from) (drop from l)) (sym (append_assoc front p.before (p.word ++ rest)))
    ∙ cut_word (front ++ p.before) p.word rest from (length-append front p.before) in
    let behind : pieces (front ++ (p.before ++ (p.word ++ rest))) (tokens_from (from + length p.word) ps) ≡ read_as ps =
    (λ i. pieces (sym whole i) (tokens_from (sym end i) ps)) ∙ spelled_pieces more ps in
    λ i. piece_of p.kind (here i) ∷ behind i

-- the line of spelled words is read as their pieces
pub spelled_read : (ps : List Spelled) → AreSpelled ps → IsReadAs (spelled_text ps) (Some (read_as ps))
spelled_read ps are = (tokens_from 0 ps, (length (spelled_text ps), spelled_tokens [] ps are, λ more. absurd (omega arith)), sym (spelled_pieces [] ps))
