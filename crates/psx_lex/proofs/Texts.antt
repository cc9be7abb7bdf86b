-- The text in double quotes that a text begins with.
use Rattle.std.proofs.Common.{◌≡◌, ◌≢◌, ℕ, zero, suc, ◌+◌, ◌<◌, ◌≤◌, Bool, true, false, cond, ◌||◌, ◌==◌, nat_lt, List, [], ◌∷◌, ◌++◌, length, take, drop, slice_index, All, Option, Some, None, refl, sym, ap, subst, ◌∙◌, ◌⊎◌, inl, inr, ⊎_elim, append_assoc, length-append, length-take, get_or, arith}
use Rattle.std.specs.List.{flat_map}
use Rattle.std.proofs.lemmas.Bool.{cond-true, cond-false, cases_Bool, cases_eq, eqb-true, eqb-false, eq-eqb, ne_eqb, ltb-false, lt-ltb, le-ltb, or_cases}
use Rattle.std.proofs.lemmas.List.{take-append-drop, at_drop_more, at_drop_all}
use Rattle.std.proofs.lemmas.List.Elements.{All-nil, All-cons, All-head, All-tail}
use Rattle.std.proofs.Math.Seq.{take-append_seam}
use Rattle.psx_lex.specs.declared.token.Kind.{Kind}
use Rattle.psx_lex.specs.declared.token.Kind.TheVariants.{Text}
use Rattle.psx_lex.specs.Lexeme.{written, IsWritable, is_escape, IsLexeme, IsLongest, BeginsNone}
use Rattle.psx_lex.proofs.Starts.{rank_at, rank_of, lexeme_some, only_text}

-- the number of bytes up to the closing quote, behind some that were passed and perhaps a backslash
abbrev pub text_end : Bool → ℕ → List ℕ → Option ℕ
text_end escaped n [] = None
text_end true n (c ∷ cs) = cond (is_escape c) (text_end false (n + 1) cs) None
text_end false n (c ∷ cs) = cond (c == 34) (Some (n + 1)) (cond (nat_lt c 32) None (text_end (c == 92) (n + 1) cs))

-- bytes that stand as they are
plain : (c : ℕ) → 32 ≤ c → c ≢ 92 → c ≢ 34 → written c ≡ c ∷ []
plain c low slash quote =
    cond-false (c == 10) _ _ (ne_eqb c 10 (λ e. absurd (omega arith))) ∙ cond-false (c == 9) _ _ (ne_eqb c 9 (λ e. absurd (omega arith)))
    ∙ cond-false (c == 0) _ _ (ne_eqb c 0 (λ e. absurd (omega arith))) ∙ cond-false (c == 92) _ _ (ne_eqb c 92 slash) ∙ cond-false (c == 34) _ _ (ne_eqb c 34 quote)

step_plain : (c n : ℕ) (cs : List ℕ) → 32 ≤ c → c ≢ 92 → c ≢ 34 → text_end false n (c ∷ cs) ≡ text_end false (n + 1) cs
step_plain c n cs low slash quote =
    cond-false (c == 34) _ _ (ne_eqb c 34 quote) ∙ cond-false (nat_lt c 32) _ _ (le-ltb c 32 low) ∙ ap (λ (b : Bool). text_end b (n + 1) cs) (ne_eqb c 92 slash)

-- what a backslash and the byte behind it write
escaped : (e : ℕ) → is_escape e ≡ true → (b : ℕ) × IsWritable b × (written b ≡ 92 ∷ e ∷ [])
escaped e holds =
    let at = λ (x b : ℕ) (can : IsWritable b) (same : written b ≡ 92 ∷ x ∷ []) (is : (e == x) ≡ true).
    (let pair : (b : ℕ) × IsWritable b × (written b ≡ 92 ∷ e ∷ []) = (b, can, same ∙ ap (λ (y : ℕ). 92 ∷ y ∷ []) (sym (eqb-true e x is))) in pair) in
    ⊎_elim (λ one. ⊎_elim (at 110 10 (inr (inl refl)) refl) (at 116 9 (inr (inr (inl refl))) refl) (or_cases (e == 110) (e == 116) one))
    (λ other. ⊎_elim (at 48 0 (inr (inr (inr refl))) refl)
    (λ rest. ⊎_elim (at 92 92 (inl (omega arith)) refl) (at 34 34 (inl (omega arith)) refl) (or_cases (e == 92) (e == 34) rest))
    (or_cases (e == 48) (e == 92 || e == 34) other)) (or_cases (e == 110 || e == 116) (e == 48 || (e == 92 || e == 34)) holds)

-- bytes that a text writes, and a closing quote behind them
record IsEnd (cs : List ℕ) (k n : ℕ) : Type 0 where
  bytes : List ℕ
  after : List ℕ
  can : All IsWritable bytes
  is : cs ≡ flat_map written bytes ++ (34 ∷ after)
  len : n ≡ k + length (flat_map written bytes) + 1

-- the same behind a backslash
abbrev Found : Bool → List ℕ → ℕ → ℕ → Type 0
Found false cs k n = IsEnd cs k n
Found true cs k n = (e : ℕ) × (rest : List ℕ) × (cs ≡ e ∷ rest) × (is_escape e ≡ true) × IsEnd rest (k + 1) n

cond_some : (b : Bool) (x y : Option ℕ) (n : ℕ) → cond b x y ≡ Some n → ((b ≡ true) × (x ≡ Some n)) ⊎ ((b ≡ false) × (y ≡ Some n))
cond_some true x y n e = inl (refl, e)
cond_some false x y n e = inr (refl, e)

abbrev nothing : Option ℕ
nothing = None

none_some : (n : ℕ) {A : Type 0} → nothing ≡ Some n → A
none_some n e = cc

more_bytes : (b : ℕ) (front cs rest : List ℕ) (k m n : ℕ) → IsWritable b → written b ≡ front → cs ≡ front ++ rest → m ≡ k + length front → IsEnd rest m n → IsEnd cs k n
more_bytes b front cs rest k m n can same is at found = record {
  bytes = b ∷ found.bytes;
  after = found.after;
  can = All-cons IsWritable b found.bytes can found.can;
  is = is ∙ ap (λ (l : List ℕ). front ++ l) found.is ∙ sym (append_assoc front (flat_map written found.bytes) (34 ∷ found.after))
      ∙ ap (λ (l : List ℕ). l ++ flat_map written found.bytes ++ (34 ∷ found.after)) (sym same);
  len =
      omega (arith, found.len, length-append (written b) (flat_map written found.bytes), ap length same);
}

sound : (escaped : Bool) (cs : List ℕ) (k n : ℕ) → text_end escaped k cs ≡ Some n → Found escaped cs k n
sound true [] k n e = none_some n e
sound false [] k n e = none_some n e
sound true (c ∷ cs) k n e = ⊎_elim (λ go. (c, cs, refl, go.0, sound false cs (k + 1) n go.1)) (λ stop. none_some n stop.1)
    (cond_some (is_escape c) (text_end false (k + 1) cs) None n e)
sound false (c ∷ cs) k n e = ⊎_elim
    (λ quote. record { bytes = []; after = cs; can = All-nil IsWritable; is = ap (λ (b : ℕ). b ∷ cs) (eqb-true c 34 quote.0); len = let same : k + 1 ≡ n = cc (quote.1) in omega arith })
    (λ on. ⊎_elim (λ low. none_some n low.1)
    (λ go. ⊎_elim
    (λ slash.
    let next = sound true cs (k + 1) n (subst (λ (b : Bool). text_end b (k + 1) cs ≡ Some n) slash go.1) in
    let byte = escaped next.0 next.3 in
    more_bytes byte.0 (92 ∷ next.0 ∷ []) (c ∷ cs) next.1 k (k + 1 + 1) n byte.1 byte.2 (λ i. eqb-true c 92 slash i ∷ next.2 i) (omega arith) next.4)
    (λ other.
    let next = sound false cs (k + 1) n (subst (λ (b : Bool). text_end b (k + 1) cs ≡ Some n) other go.1) in
    let low = ltb-false c 32 go.0 in
    more_bytes c (c ∷ []) (c ∷ cs) cs k (k + 1) n (inl low) (plain c low (eqb-false c 92 other) (eqb-false c 34 on.0)) refl (omega arith) next)
    (cases_Bool (c == 92)))
    (cond_some (nat_lt c 32) None (text_end (c == 92) (k + 1) cs) n on.1))
    (cond_some (c == 34) (Some (k + 1)) (cond (nat_lt c 32) None (text_end (c == 92) (k + 1) cs)) n e)

step_written : (b k : ℕ) (rest : List ℕ) → IsWritable b → text_end false k (written b ++ rest) ≡ text_end false (k + length (written b)) rest
step_written b k rest can =
    let two : text_end false (k + 1 + 1) rest ≡ text_end false (k + 2) rest = ap (λ (i : ℕ). text_end false i rest) (omega arith) in
    let at = λ (b : ℕ). text_end false k (written b ++ rest) ≡ text_end false (k + length (written b)) rest in
    ⊎_elim
    (λ low. ⊎_elim (λ slash. subst at (sym slash) two)
    (λ slash. ⊎_elim (λ quote. subst at (sym quote) two)
    (λ quote. ap (λ (w : List ℕ). text_end false k (w ++ rest)) (plain b low slash quote) ∙ step_plain b k rest low slash quote
    ∙ ap (λ (w : List ℕ). text_end false (k + length w) rest) (sym (plain b low slash quote))) (cases_eq b 34)) (cases_eq b 92))
    (⊎_elim (λ feed. subst at (sym feed) two) (⊎_elim (λ tab. subst at (sym tab) two) (λ zero. subst at (sym zero) two))) can

complete : (bytes after : List ℕ) (k : ℕ) → All IsWritable bytes → text_end false k (flat_map written bytes ++ (34 ∷ after)) ≡ Some (k + length (flat_map written bytes) + 1)
complete [] after k can = ap Some (omega arith)
complete (b ∷ bytes) after k can =
    ap (text_end false k) (append_assoc (written b) (flat_map written bytes) (34 ∷ after))
    ∙ step_written b k (flat_map written bytes ++ (34 ∷ after)) (All-head IsWritable b bytes can)
    ∙ complete bytes after (k + length (written b)) (All-tail IsWritable b bytes can)
    ∙ ap Some (omega (arith, length-append (written b) (flat_map written bytes)))

-- a text in quotes ends where its first bare quote stands
end_of : (c : ℕ) (cs : List ℕ) (m : ℕ) → m ≤ length cs → IsLexeme Text (c ∷ take m cs) → text_end false 0 cs ≡ Some m
end_of c cs m within form =
    let inside = flat_map written form.0 in
    let quoted : take m cs ≡ inside ++ (34 ∷ []) = cc (form.1.1) in
    let whole : cs ≡ inside ++ (34 ∷ drop m cs) = sym (take-append-drop m cs) ∙ ap (λ (l : List ℕ). l ++ drop m cs) quoted ∙ append_assoc inside (34 ∷ []) (drop m cs) in
    ap (text_end false 0) whole ∙ complete form.0 (drop m cs) 0 form.1.0
    ∙ ap Some (omega (arith, ap length quoted, length-append inside (34 ∷ []), length-take m cs))

texts_end : (text : List ℕ) (n : ℕ) → n ≤ length text → IsLexeme Text (take n text) → (m : ℕ) × (n ≡ suc m) × (text_end false 0 (drop 1 text) ≡ Some m)
texts_end text zero within form = absurd (lexeme_some Text form)
texts_end [] (suc n) within form = absurd (omega arith)
texts_end (c ∷ cs) (suc n) within form = (n, refl, end_of c cs n (omega arith) form)

only_texts : (text : List ℕ) (k : Kind) (n : ℕ) → slice_index text 0 ≡ 34 → n ≤ length text → IsLexeme k (take n text) → k ≡ Text
only_texts text k n quote within form = only_text k (rank_of text k n within form ∙ ap rank_at quote)

text_form : (c : ℕ) (cs : List ℕ) (n : ℕ) → c ≡ 34 → IsEnd cs 0 n → (n ≤ length cs) × IsLexeme Text (c ∷ take n cs)
text_form c cs n quote found =
    let inside = flat_map written found.bytes in
    let len : length (inside ++ (34 ∷ [])) ≡ n = omega (arith, length-append inside (34 ∷ []), found.len) in
    let whole : cs ≡ inside ++ (34 ∷ []) ++ found.after = found.is ∙ sym (append_assoc inside (34 ∷ []) found.after) in
    let front : take n cs ≡ inside ++ (34 ∷ []) = ap (λ (m : ℕ). take m cs) (sym len) ∙ ap (take (length (inside ++ (34 ∷ [])))) whole ∙ take-append_seam (inside ++ (34 ∷ [])) found.after in (
      omega (arith, ap length whole, length-append (inside ++ (34 ∷ [])) found.after),
      (found.bytes, (found.can, λ i. quote i ∷ front i)),
    )

pub text_longest : (text : List ℕ) (n : ℕ) → slice_index text 0 ≡ 34 → text_end false 0 (drop 1 text) ≡ Some n → IsLongest text Text (n + 1)
text_longest [] n quote e = absurd (omega arith)
text_longest (c ∷ cs) n quote e =
    let here = text_form c cs n quote (sound false cs 0 n e) in
    subst (IsLongest (c ∷ cs) Text) (let one : suc n ≡ n + 1 = omega arith in one) (record {
      within = omega (arith, here.0);
      form = here.1;
      longest = λ other more within form.
          let found = texts_end (c ∷ cs) more within (subst (λ (k : Kind). IsLexeme k (take more (c ∷ cs))) (only_texts (c ∷ cs) other more quote within form) form) in
          let same : found.0 ≡ n = cc (found.2, e) in
          omega (arith, found.1);
    })

pub no_text : (text : List ℕ) → slice_index text 0 ≡ 34 → text_end false 0 (drop 1 text) ≡ None → BeginsNone text
no_text text quote e k n token =
    let form = token.lexeme.form in
    let found = texts_end text n token.lexeme.within (subst (λ (k : Kind). IsLexeme k (take n text)) (only_texts text k n quote token.lexeme.within form) form) in
    none_some found.0 (sym e ∙ found.2)

-- where the loop ends
stop_escaped : (items : List ℕ) (i : ℕ) → i < length items → is_escape (get_or items i 0) ≡ false → text_end true i (drop i items) ≡ None
stop_escaped items i below fail = at_drop_more (text_end true i) items i 0 below ∙ cond-false (is_escape (get_or items i 0)) (text_end false (i + 1) (drop (i + 1) items)) None fail

stop_quote : (items : List ℕ) (i : ℕ) → i < length items → get_or items i 0 ≡ 34 → text_end false i (drop i items) ≡ Some (i + 1)
stop_quote items i below quote = at_drop_more (text_end false i) items i 0 below ∙ cond-true (get_or items i 0 == 34) _ _ (eq-eqb (get_or items i 0) 34 quote)

stop_low : (items : List ℕ) (i : ℕ) → i < length items → get_or items i 0 ≢ 34 → get_or items i 0 < 32 → text_end false i (drop i items) ≡ None
stop_low items i below quote low =
    at_drop_more (text_end false i) items i 0 below ∙ cond-false (get_or items i 0 == 34) _ _ (ne_eqb (get_or items i 0) 34 quote)
    ∙ cond-true (nat_lt (get_or items i 0) 32) _ _ (lt-ltb (get_or items i 0) 32 low)

never : (escaped : Bool) (items : List ℕ) (i : ℕ) → length items ≤ i → text_end escaped i (drop i items) ≡ None
never true items i past = at_drop_all (text_end true i) items i past
never false items i past = at_drop_all (text_end false i) items i past

-- what the loop has passed, as far as it came
pub record IsPassed (text items : List ℕ) (escaped : Bool) (i : ℕ) : Type 0 where
  pub quote : slice_index text 0 ≡ 34
  pub items_are : items ≡ drop 1 text
  pub far : text_end escaped i (drop i items) ≡ text_end false 0 items

none_at : (text items : List ℕ) (escaped : Bool) (i : ℕ) → IsPassed text items escaped i → text_end escaped i (drop i items) ≡ None → BeginsNone text
none_at text items escaped i passed e = no_text text passed.quote (ap (text_end false 0) (sym passed.items_are) ∙ sym passed.far ∙ e)

pub bad_escape : (text items : List ℕ) (escaped : Bool) (i : ℕ) → IsPassed text items escaped i → escaped ≡ true → i < length items → is_escape (get_or items i 0) ≡ false → BeginsNone text
bad_escape text items escaped i passed on below fail =
    none_at text items escaped i passed (ap (λ (b : Bool). text_end b i (drop i items)) on ∙ stop_escaped items i below fail)

pub low_byte : (text items : List ℕ) (escaped : Bool) (i : ℕ) → IsPassed text items escaped i → escaped ≡ false → i < length items → get_or items i 0 ≢ 34 → get_or items i 0 < 32 → BeginsNone text
low_byte text items escaped i passed off below quote low =
    none_at text items escaped i passed (ap (λ (b : Bool). text_end b i (drop i items)) off ∙ stop_low items i below quote low)

pub no_quote : (text items : List ℕ) (escaped : Bool) (i : ℕ) → IsPassed text items escaped i → length items ≤ i → BeginsNone text
no_quote text items escaped i passed past = none_at text items escaped i passed (never escaped items i past)

pub closed : (text items : List ℕ) (escaped : Bool) (i : ℕ) → IsPassed text items escaped i → escaped ≡ false → i < length items → get_or items i 0 ≡ 34 → IsLongest text Text (i + 2)
closed text items escaped i passed off below quote =
    let ends : text_end false 0 (drop 1 text) ≡ Some (i + 1) =
    ap (text_end false 0) (sym passed.items_are) ∙ sym passed.far ∙ ap (λ (b : Bool). text_end b i (drop i items)) off ∙ stop_quote items i below quote in
    let two : i + 1 + 1 ≡ i + 2 = omega arith in
    subst (IsLongest text Text) two (text_longest text (i + 1) passed.quote ends)
