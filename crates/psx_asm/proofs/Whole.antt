-- A text's one answer, and what the code returned of it.
use Rattle.std.proofs.Common.{◌≡◌, ◌⊎◌, inl, inr, ℕ, ◌≤◌, ◌<◌, nat_lt, List, [], ◌∷◌, length, Option, Some, None, Result, Ok, Err, IfOk, IfErr, MatchResult, codes, refl, sym, ap, subst, ◌∙◌, if◌then◌else◌}
use Rattle.std.proofs.lemmas.Bool.{le-ltb, lt-ltb}
use Rattle.psx_lex.specs.declared.token.Token.{Token}
use Rattle.psx_lex.specs.declared.token.LexError.{LexError}
use Rattle.psx_lex.specs.declared.token.LexError.TheVariants as lexed
use Rattle.psx_lex.specs.Line.{IsTokensOf}
use Rattle.psx_lex.proofs.EachLine.{has_one_answer}
use Rattle.psx_asm.specs.declared.fault.AsmError.{AsmError}
use Rattle.psx_asm.specs.declared.fault.AsmError.TheVariants as errors
use Rattle.psx_asm.specs.declared.object.Object.{Object}
use Rattle.psx_asm.specs.Operands.{Known}
use Rattle.psx_asm.specs.Line.{Line, ◌>>=◌, known}
use Rattle.psx_asm.specs.Walking.{Item, items_behind}
use Rattle.psx_asm.specs.Rounds.{IsErrorOf, GivesObject, placed_items}
use Rattle.psx_asm.proofs.Rounds.{second_round-items}
use Rattle.psx_asm.specs.Piece.{Piece, pieces, IsReadAs}
use Rattle.psx_asm.specs.Assembly.{lines_of, AreReadAs, assembled, first_round, second_round, label_address, placed_by, longest, Placed, IsAssemblyOf, HasOneAnswer}

-- what a line is read as
reading_of : (line : List ℕ) (answer : Result (List Token) LexError) → IsTokensOf line answer → (reading : Option (List Piece)) × IsReadAs line reading
reading_of line (Ok tokens) is = (Some (pieces line tokens), (tokens, is, refl))
reading_of line (Err (lexed.BadToken at)) is = (None, (at, is))
reading_of line (Err lexed.Memory) is = absurd is

-- it is read as nothing else
one_reading : (line : List ℕ) (a b : Option (List Piece)) → IsReadAs line a → IsReadAs line b → a ≡ b
one_reading line (Some ps) (Some qs) x y =
    let one = (has_one_answer line).2 in
    let same : Ok x.0 ≡ Ok y.0 = one (Ok x.0) x.1 ∙ sym (one (Ok y.0) y.1) in
    let tokens : x.0 ≡ y.0 = cc in
    ap Some (x.2 ∙ ap (pieces line) tokens ∙ sym y.2)
one_reading line (Some ps) None x y =
    let one = (has_one_answer line).2 in
    let same : Ok x.0 ≡ Err (lexed.BadToken y.0) = one (Ok x.0) x.1 ∙ sym (one (Err (lexed.BadToken y.0)) y.1) in cc
one_reading line None (Some qs) x y =
    let one = (has_one_answer line).2 in
    let same : Err (lexed.BadToken x.0) ≡ Ok y.0 = one (Err (lexed.BadToken x.0)) x.1 ∙ sym (one (Ok y.0) y.1) in cc
one_reading line None None x y = refl

-- lines are read as something
pub all_read : (lines : List (List ℕ)) → (readings : List (Option (List Piece))) × AreReadAs lines readings
all_read [] = ([], tt)
all_read (l ∷ ls) =
    let found = has_one_answer l in
    let first = reading_of l found.0 found.1 in
    let others = all_read ls in
    (first.0 ∷ others.0, (first.1, others.1))

-- and as nothing else
one_list : (lines : List (List ℕ)) (a b : List (Option (List Piece))) → AreReadAs lines a → AreReadAs lines b → a ≡ b
one_list [] [] [] x y = refl
one_list [] [] (q ∷ qs) x y = absurd y
one_list [] (p ∷ ps) b x y = absurd x
one_list (l ∷ ls) [] b x y = absurd x
one_list (l ∷ ls) (p ∷ ps) [] x y = absurd y
one_list (l ∷ ls) (p ∷ ps) (q ∷ qs) x y = ap (λ r. r ∷ ps) (one_reading l p q x.0 y.0) ∙ ap (λ rs. q ∷ rs) (one_list ls ps qs x.1 y.1)

abbrev pub answer_of : List ℕ → ℕ → ℕ → List (Option (List Piece)) → Result Placed AsmError
answer_of text from to readings = if nat_lt longest (length text) then Err (errors.TooLong longest) else assembled from to readings

-- the answer by some readings is the one
pub one_answer : (text : List ℕ) (from to : ℕ) (readings : List (Option (List Piece))) → AreReadAs (lines_of text) readings → (other : Result Placed AsmError)
    → IsAssemblyOf text from to other → other ≡ answer_of text from to readings
one_answer text from to readings read other is = is.is ∙ ap (answer_of text from to) (one_list (lines_of text) is.readings readings is.read read)

pub each_text : (text : List ℕ) (from to : ℕ) → HasOneAnswer text from to
each_text text from to =
    let found = all_read (lines_of text) in
    (answer_of text from to found.0, record { readings = found.0; read = found.1; is = refl }, one_answer text from to found.0 found.1)

-- the rounds by what the code holds
pub assembled_by : (from to : ℕ) (readings : List (Option (List Piece))) (lines : List Line) (names : Known) (items : List Item) → first_round [] readings ≡ Ok lines
    → ((w : List ℕ) → names w ≡ known lines w) → items ≡ items_behind [] lines
    → assembled from to readings ≡ (placed_items names from to [] items >>= λ bytes. Ok (record { bytes = bytes; start = label_address (names (codes "start")) }))
assembled_by from to readings lines names items round held kept =
    let F : Known → Result Placed AsmError = λ k. second_round k from to [] [] lines >>= λ bytes. Ok (record { bytes = bytes; start = label_address (k (codes "start")) }) in
    let G : Result (List (ℕ × ℕ)) AsmError → Result Placed AsmError = λ r. r >>= λ bytes. Ok (record { bytes = bytes; start = label_address (names (codes "start")) }) in
    ap (λ r. r >>= λ ls. second_round (known ls) from to [] [] ls >>= λ bytes. Ok (record { bytes = bytes; start = label_address (known ls (codes "start")) })) round
    ∙ ap F (λ i w. sym (held w) i)
    ∙ ap G (second_round-items names from to [] [] lines ∙ ap (placed_items names from to []) (sym kept))

-- an error stays
pub error_stays : {A B : Type 0} (e : AsmError) (r : Result A AsmError) (f : A → Result B AsmError) → IsErrorOf e r → IsErrorOf e (r >>= f)
error_stays errors.Memory r f h = tt
error_stays (errors.Line n d) r f h = ap (λ q. q >>= f) h
error_stays (errors.TooLong n) r f h = ap (λ q. q >>= f) h

-- an error that the definition gives
is_fault : (text : List ℕ) (from to : ℕ) (e : AsmError) (given : Result Placed AsmError) → IsErrorOf e given → IsAssemblyOf text from to given
    → (e ≡ errors.Memory) ⊎ IsAssemblyOf text from to (Err e)
is_fault text from to errors.Memory given h is = inl refl
is_fault text from to (errors.Line n d) given h is = inr (subst (IsAssemblyOf text from to) h is)
is_fault text from to (errors.TooLong n) given h is = inr (subst (IsAssemblyOf text from to) h is)

short : (text : List ℕ) (from to : ℕ) (readings : List (Option (List Piece))) → length text ≤ longest → answer_of text from to readings ≡ assembled from to readings
short text from to readings few = ap (λ b. if b then Err (errors.TooLong longest) else assembled from to readings) (le-ltb longest (length text) few)

-- what stands for a text that isn't too long
is_answer : (text : List ℕ) (from to : ℕ) → length text ≤ longest → IsAssemblyOf text from to (assembled from to (all_read (lines_of text)).0)
is_answer text from to few =
    let found = all_read (lines_of text) in
    record { readings = found.0; read = found.1; is = sym (short text from to found.0 few) }

module _ (text : List ℕ) (from to : ℕ) (few : length text ≤ longest) (result : Result Object AsmError)
    (gives : (readings : List (Option (List Piece))) → AreReadAs (lines_of text) readings → GivesObject result (assembled from to readings)) where
  here : GivesObject result (assembled from to (all_read (lines_of text)).0)
  here = gives (all_read (lines_of text)).0 (all_read (lines_of text)).1

  pub gives_object : IfOk result (λ o. IsAssemblyOf text from to (Ok (placed_by o)))
  gives_object = by result here
    where
      by : (r : Result Object AsmError) → GivesObject r (assembled from to (all_read (lines_of text)).0) → IfOk r (λ o. IsAssemblyOf text from to (Ok (placed_by o)))
      by (Ok o) h = subst (IsAssemblyOf text from to) h (is_answer text from to few)
      by (Err e) h = tt

  pub gives_fault : IfErr result (λ e. (e ≡ errors.Memory) ⊎ IsAssemblyOf text from to (Err e))
  gives_fault = by result here
    where
      by : (r : Result Object AsmError) → GivesObject r (assembled from to (all_read (lines_of text)).0) → IfErr r (λ e. (e ≡ errors.Memory) ⊎ IsAssemblyOf text from to (Err e))
      by (Ok o) h = tt
      by (Err e) h = is_fault text from to e _ h (is_answer text from to few)

  pub gives_only : (answer : Result Placed AsmError) → IsAssemblyOf text from to answer
      → MatchResult result (λ o. answer ≡ Ok (placed_by o)) (λ e. (e ≡ errors.Memory) ⊎ (answer ≡ Err e))
  gives_only answer is = by result here (one_answer text from to (all_read (lines_of text)).0 (all_read (lines_of text)).1 answer is ∙ short text from to (all_read (lines_of text)).0 few)
    where
      error : (e : AsmError) (given : Result Placed AsmError) → IsErrorOf e given → answer ≡ given → (e ≡ errors.Memory) ⊎ (answer ≡ Err e)
      error errors.Memory given h same = inl refl
      error (errors.Line n d) given h same = inr (same ∙ h)
      error (errors.TooLong n) given h same = inr (same ∙ h)

      by : (r : Result Object AsmError) → GivesObject r (assembled from to (all_read (lines_of text)).0) → answer ≡ assembled from to (all_read (lines_of text)).0
          → MatchResult r (λ o. answer ≡ Ok (placed_by o)) (λ e. (e ≡ errors.Memory) ⊎ (answer ≡ Err e))
      by (Ok o) h same = same ∙ h
      by (Err e) h same = error e _ h same

-- a text that is too long
pub too_long : (text : List ℕ) (from to : ℕ) → longest < length text → IsAssemblyOf text from to (Err (errors.TooLong longest))
too_long text from to many =
    let found = all_read (lines_of text) in
    record { readings = found.0; read = found.1; is = ap (λ b. if b then Err (errors.TooLong longest) else assembled from to found.0) (sym (lt-ltb longest (length text) many)) }
