-- A configuration text has one answer.
use Rattle.std.proofs.Common.{◌≡◌, ℕ, ◌+◌, ◌<◌, ◌≤◌, false, List, [], ◌∷◌, ◌++◌, length, drop, get_or, slice_index, slice_index_or, codes, Result, Ok, Err, refl, sym, ap, subst, ◌∙◌, ◌⊎◌, inl, inr, ⊎_elim, append_assoc, append-nil, arith}
use Rattle.std.specs.List.{AllZip}
use Rattle.std.proofs.lemmas.Bool.{cases_lt}
use Rattle.psx_base.specs.declared.stop.Sizes.{Sizes}
use Rattle.psxk_run.specs.declared.configuration.Setting.{Setting}
use Rattle.psxk_run.specs.declared.configuration.Setting.TheVariants.{Nothing, Threads, Events}
use Rattle.psxk_run.specs.declared.configuration.ConfError.{ConfError}
use Rattle.psxk_run.specs.declared.configuration.ConfError.TheVariants.{TooLong, BadLine, Range}
use Rattle.psxk_run.specs.Config.{longest, config_lines, is_blank, behind, HasKey, IsHexadecimal, Says, threads_of, events_of, IsOnce, AreRight, IsSecond, IsOutside, IsLineFault, IsFirstFault, IsConfigOf}
use Rattle.psxk_run.proofs.ConfigParts.{key_part, same_value, same_number, none_behind, first_of}
use Rattle.psxk_run.proofs.ConfigSettings.{threads_of-append, events_of-append}

-- the first byte of a line that is no blank
abbrev mark : List ℕ → ℕ
mark line = slice_index (behind line) 0

key_mark : (line key : List ℕ) → 0 < length key → is_blank (slice_index key 0) ≡ false → HasKey line key → mark line ≡ slice_index key 0
key_mark line key some no_blank has =
    ap (λ (l : List ℕ). slice_index l 0) (key_part line key has.0 some no_blank has.1) ∙ first_of key (has.1.between ++ (61 ∷ has.0)) some

nothing_mark : (line : List ℕ) → Says line Nothing → (mark line ≡ 0) ⊎ ((mark line ≡ 66) ⊎ (mark line ≡ 83))
nothing_mark line says = ⊎_elim
    (λ blank. inl (ap (λ (l : List ℕ). slice_index l 0) (none_behind line blank)))
    (⊎_elim (λ has. inr (inl (key_mark line (codes "BOOT") (omega arith) refl has))) (λ has. inr (inr (key_mark line (codes "STACK") (omega arith) refl has)))) says

threads_mark : (line : List ℕ) (n : ℕ) → Says line (Threads n) → mark line ≡ 84
threads_mark line n says = key_mark line (codes "TCB") (omega arith) refl (says.0, says.1)

events_mark : (line : List ℕ) (n : ℕ) → Says line (Events n) → mark line ≡ 69
events_mark line n says = key_mark line (codes "EVENT") (omega arith) refl (says.0, says.1)

not_threads : (m : ℕ) → (m ≡ 0) ⊎ ((m ≡ 66) ⊎ (m ≡ 83)) → m ≡ 84 → ⊥
not_threads m is e = ⊎_elim (λ a. omega arith) (⊎_elim (λ a. omega arith) (λ a. omega arith)) is

not_events : (m : ℕ) → (m ≡ 0) ⊎ ((m ≡ 66) ⊎ (m ≡ 83)) → m ≡ 69 → ⊥
not_events m is e = ⊎_elim (λ a. omega arith) (⊎_elim (λ a. omega arith) (λ a. omega arith)) is

apart : (m : ℕ) → m ≡ 84 → m ≡ 69 → ⊥
apart m a b = omega arith

-- a line says one setting at most
same_setting : (line : List ℕ) (a b : Setting) → Says line a → Says line b → a ≡ b
same_setting line Nothing Nothing a b = refl
same_setting line Nothing (Threads n) a b = absurd (not_threads (mark line) (nothing_mark line a) (threads_mark line n b))
same_setting line Nothing (Events n) a b = absurd (not_events (mark line) (nothing_mark line a) (events_mark line n b))
same_setting line (Threads m) Nothing a b = absurd (not_threads (mark line) (nothing_mark line b) (threads_mark line m a))
same_setting line (Threads m) (Threads n) a b =
    let value = same_value line (codes "TCB") a.0 b.0 (omega arith) refl a.1 b.1 in
    ap Threads (same_number b.0 m n (subst (λ (v : List ℕ). IsHexadecimal v m) value a.2) b.2)
same_setting line (Threads m) (Events n) a b = absurd (apart (mark line) (threads_mark line m a) (events_mark line n b))
same_setting line (Events m) Nothing a b = absurd (not_events (mark line) (nothing_mark line b) (events_mark line m a))
same_setting line (Events m) (Threads n) a b = absurd (apart (mark line) (threads_mark line n b) (events_mark line m a))
same_setting line (Events m) (Events n) a b =
    let value = same_value line (codes "EVENT") a.0 b.0 (omega arith) refl a.1 b.1 in
    ap Events (same_number b.0 m n (subst (λ (v : List ℕ). IsHexadecimal v m) value a.2) b.2)

once_front : (least most : ℕ) (xs ys : List ℕ) → IsOnce least most (xs ++ ys) → IsOnce least most xs
once_front least most [] ys once = tt
once_front least most (x ∷ []) [] once = once
once_front least most (x ∷ []) (y ∷ ys) once = absurd once
once_front least most (x ∷ z ∷ xs) ys once = absurd once

once_last : (least most : ℕ) (xs : List ℕ) (n : ℕ) → IsOnce least most (xs ++ n ∷ []) → (xs ≡ []) × (least ≤ n) × (n ≤ most)
once_last least most [] n once = (refl, once.0, once.1)
once_last least most (x ∷ []) n once = absurd once
once_last least most (x ∷ y ∷ xs) n once = absurd once

right_front : (xs ys : List Setting) → AreRight (xs ++ ys) → AreRight xs
right_front xs ys right = record {
  threads = once_front 4 16 (threads_of xs) (threads_of ys) (subst (IsOnce 4 16) (threads_of-append xs ys) right.threads);
  events = once_front 16 64 (events_of xs) (events_of ys) (subst (IsOnce 16 64) (events_of-append xs ys) right.events);
}

threads_last : (before : List Setting) (n : ℕ) → AreRight (before ++ Threads n ∷ []) → (threads_of before ≡ []) × (4 ≤ n) × (n ≤ 16)
threads_last before n right = once_last 4 16 (threads_of before) n (subst (IsOnce 4 16) (threads_of-append before (Threads n ∷ [])) right.threads)

events_last : (before : List Setting) (n : ℕ) → AreRight (before ++ Events n ∷ []) → (events_of before ≡ []) × (16 ≤ n) × (n ≤ 64)
events_last before n right = once_last 16 64 (events_of before) n (subst (IsOnce 16 64) (events_of-append before (Events n ∷ [])) right.events)

second_is_wrong : (before : List Setting) (s : Setting) → IsSecond before s → AreRight (before ++ s ∷ []) → ⊥
second_is_wrong before Nothing second right = second
second_is_wrong before (Threads n) second right = second (threads_last before n right).0
second_is_wrong before (Events n) second right = second (events_last before n right).0

outside_is_wrong : (before : List Setting) (s : Setting) → IsOutside s → AreRight (before ++ s ∷ []) → ⊥
outside_is_wrong before Nothing outside right = outside
outside_is_wrong before (Threads n) outside right = let last = threads_last before n right in ⊎_elim (λ low. omega arith) (λ high. omega arith) outside
outside_is_wrong before (Events n) outside right = let last = events_last before n right in ⊎_elim (λ low. omega arith) (λ high. omega arith) outside

-- no further line is right
abbrev GoesNoFurther : List Setting → List (List ℕ) → Type 0
GoesNoFurther settings rest = (line : List ℕ) (after : List (List ℕ)) (s : Setting) → rest ≡ line ∷ after → Says line s → AreRight (settings ++ s ∷ []) → ⊥

record Same (xs ys : List (List ℕ)) (ss ts : List Setting) (r q : List (List ℕ)) : Type 0 where
  lines : xs ≡ ys
  settings : ss ≡ ts
  rest : r ≡ q

same_split : (given ss ts : List Setting) (xs ys r q : List (List ℕ)) → AllZip Says xs ss → AllZip Says ys ts → AreRight (given ++ ss) → AreRight (given ++ ts)
    → xs ++ r ≡ ys ++ q → GoesNoFurther (given ++ ss) r → GoesNoFurther (given ++ ts) q → Same xs ys ss ts r q
same_split given [] [] [] [] r q said_x said_y right_x right_y e ends_x ends_y = record { lines = refl; settings = refl; rest = e }
same_split given [] (t ∷ ts) [] (y ∷ ys) r q said_x said_y right_x right_y e ends_x ends_y =
    let regrouped = sym (append_assoc given (t ∷ []) ts) in
    let first = right_front (given ++ t ∷ []) ts (subst AreRight regrouped right_y) in
    absurd (ends_x y (ys ++ q) t e said_y.0 (subst (λ (l : List Setting). AreRight (l ++ t ∷ [])) (sym (append-nil given)) first))
same_split given (s ∷ ss) [] (x ∷ xs) [] r q said_x said_y right_x right_y e ends_x ends_y =
    let regrouped = sym (append_assoc given (s ∷ []) ss) in
    let first = right_front (given ++ s ∷ []) ss (subst AreRight regrouped right_x) in
    absurd (ends_y x (xs ++ r) s (sym e) said_x.0 (subst (λ (l : List Setting). AreRight (l ++ s ∷ [])) (sym (append-nil given)) first))
same_split given (s ∷ ss) (t ∷ ts) (x ∷ xs) (y ∷ ys) r q said_x said_y right_x right_y e ends_x ends_y =
    let line : x ≡ y = ap (λ l. get_or l 0 []) e in
    let setting : s ≡ t = same_setting y s t (subst (λ (l : List ℕ). Says l s) line said_x.0) said_y.0 in
    let group_x = sym (append_assoc given (s ∷ []) ss) in
    let group_y : given ++ t ∷ ts ≡ (given ++ s ∷ []) ++ ts = ap (λ (u : Setting). given ++ u ∷ ts) (sym setting) ∙ sym (append_assoc given (s ∷ []) ts) in
    let more = same_split (given ++ s ∷ []) ss ts xs ys r q said_x.1 said_y.1 (subst AreRight group_x right_x) (subst AreRight group_y right_y) (ap (drop 1) e)
    (subst (λ (l : List Setting). GoesNoFurther l r) group_x ends_x) (subst (λ (l : List Setting). GoesNoFurther l q) group_y ends_y) in
    record { lines = λ i. line i ∷ more.lines i; settings = λ i. setting i ∷ more.settings i; rest = more.rest }
same_split given [] ts (x ∷ xs) ys r q said_x said_y right_x right_y e ends_x ends_y = absurd said_x
same_split given (s ∷ ss) ts [] ys r q said_x said_y right_x right_y e ends_x ends_y = absurd said_x
same_split given ss [] xs (y ∷ ys) r q said_x said_y right_x right_y e ends_x ends_y = absurd said_y
same_split given ss (t ∷ ts) xs [] r q said_x said_y right_x right_y e ends_x ends_y = absurd said_y

same_fault : (settings : List Setting) (line : List ℕ) (number : ℕ) (a b : ConfError) → IsLineFault settings line number a → IsLineFault settings line number b → a ≡ b
same_fault settings line number (TooLong limit) b wrong_a wrong_b = absurd wrong_a
same_fault settings line number (BadLine m) (TooLong limit) wrong_a wrong_b = absurd wrong_b
same_fault settings line number (BadLine m) (BadLine n) wrong_a wrong_b = ap BadLine (wrong_a.0 ∙ sym wrong_b.0)
same_fault settings line number (BadLine m) (Range n) wrong_a wrong_b =
    let out = wrong_b.1 in
    absurd (⊎_elim (λ none. none out.0 out.1) (λ some. out.2 (subst (IsSecond settings) (same_setting line some.0 out.0 some.1 out.1) some.2)) wrong_a.1)
same_fault settings line number (Range m) (TooLong limit) wrong_a wrong_b = absurd wrong_b
same_fault settings line number (Range m) (BadLine n) wrong_a wrong_b =
    let out = wrong_a.1 in
    absurd (⊎_elim (λ none. none out.0 out.1) (λ some. out.2 (subst (IsSecond settings) (same_setting line some.0 out.0 some.1 out.1) some.2)) wrong_b.1)
same_fault settings line number (Range m) (Range n) wrong_a wrong_b = ap Range (wrong_a.0 ∙ sym wrong_b.0)

fault_ends : (settings : List Setting) (line : List ℕ) (number : ℕ) (fault : ConfError) → IsLineFault settings line number fault
    → (s : Setting) → Says line s → AreRight (settings ++ s ∷ []) → ⊥
fault_ends settings line number (TooLong limit) wrong s says right = wrong
fault_ends settings line number (BadLine at) wrong s says right = ⊎_elim
    (λ none. none s says)
    (λ some. second_is_wrong settings s (subst (IsSecond settings) (same_setting line some.0 s some.1 says) some.2) right) wrong.1
fault_ends settings line number (Range at) wrong s says right =
    let out = wrong.1 in
    outside_is_wrong settings s (subst IsOutside (same_setting line out.0 s out.1 says) out.3) right

-- what a text gives where its right lines end
abbrev Given : List (List ℕ) → List Setting → List (List ℕ) → Result Sizes ConfError → Type 0
Given before settings rest (Ok sizes) = (rest ≡ []) × (sizes.threads ≡ slice_index_or (threads_of settings) 0 4) × (sizes.events ≡ slice_index_or (events_of settings) 0 16)
Given before settings rest (Err fault) = (line : List ℕ) × (after : List (List ℕ)) × (rest ≡ line ∷ after) × IsLineFault settings line (length before + 1) fault

same_given : (before : List (List ℕ)) (settings : List Setting) (rest : List (List ℕ)) (a b : Result Sizes ConfError) → Given before settings rest a → Given before settings rest b → a ≡ b
same_given before settings rest (Ok x) (Ok y) a b =
    let threads = a.1 ∙ sym b.1 in
    let events = a.2 ∙ sym b.2 in
    λ i. Ok (record { threads = threads i; events = events i })
same_given before settings rest (Ok x) (Err fault) a b = let none = a.0 in let some = b.2 in cc
same_given before settings rest (Err fault) (Ok y) a b = let none = b.0 in let some = a.2 in cc
same_given before settings rest (Err x) (Err y) a b =
    let line : a.0 ≡ b.0 = ap (λ l. get_or l 0 []) (sym a.2 ∙ b.2) in
    ap Err (same_fault settings b.0 (length before + 1) x y (subst (λ (l : List ℕ). IsLineFault settings l (length before + 1) x) line a.3) b.3)

record Reached (text : List ℕ) (answer : Result Sizes ConfError) : Type 0 where
  before : List (List ℕ)
  settings : List Setting
  rest : List (List ℕ)
  split : config_lines text ≡ before ++ rest
  said : AllZip Says before settings
  right : AreRight settings
  ends : GoesNoFurther settings rest
  given : Given before settings rest answer

reached_fault : (text : List ℕ) (fault : ConfError) → IsFirstFault text fault → Reached text (Err fault)
reached_fault text fault first = record {
  before = first.before;
  settings = first.settings;
  rest = first.line ∷ first.after;
  split = first.split;
  said = first.said;
  right = first.right;
  ends = λ line after s e says right.
      fault_ends first.settings line (length first.before + 1) fault
      (subst (λ (l : List ℕ). IsLineFault first.settings l (length first.before + 1) fault) (ap (λ l. get_or l 0 []) e) first.wrong) s says right;
  given = (first.line, first.after, refl, first.wrong);
}

reached : (text : List ℕ) (answer : Result Sizes ConfError) → length text ≤ longest → IsConfigOf text answer → Reached text answer
reached text (Ok sizes) short is =
    let gives = is.1 in
    record {
      before = config_lines text;
      settings = gives.settings;
      rest = [];
      split = sym (append-nil (config_lines text));
      said = gives.said;
      right = gives.right;
      ends = λ line after s e says right. cc;
      given = (refl, gives.threads, gives.events);
    }
reached text (Err (TooLong limit)) short is = absurd (omega arith)
reached text (Err (BadLine line)) short is = reached_fault text (BadLine line) is.1
reached text (Err (Range line)) short is = reached_fault text (Range line) is.1

same_reached : (text : List ℕ) (a b : Result Sizes ConfError) → Reached text a → Reached text b → a ≡ b
same_reached text a b at_a at_b =
    let same = same_split [] at_a.settings at_b.settings at_a.before at_b.before at_a.rest at_b.rest at_a.said at_b.said at_a.right at_b.right
    (sym at_a.split ∙ at_b.split) at_a.ends at_b.ends in
    same_given at_b.before at_b.settings at_b.rest a b
    (subst (λ (rest : List (List ℕ)). Given at_b.before at_b.settings rest a) same.rest
    (subst (λ (settings : List Setting). Given at_b.before settings at_a.rest a) same.settings
    (subst (λ (before : List (List ℕ)). Given before at_a.settings at_a.rest a) same.lines at_a.given))) at_b.given

too_long : (text : List ℕ) (answer : Result Sizes ConfError) → longest < length text → IsConfigOf text answer → answer ≡ Err (TooLong longest)
too_long text (Ok sizes) long is = absurd (omega arith)
too_long text (Err (TooLong limit)) long is = ap (λ l. Err (TooLong l)) is.1
too_long text (Err (BadLine line)) long is = absurd (omega arith)
too_long text (Err (Range line)) long is = absurd (omega arith)

-- a text gives these sizes alone, or has this first fault alone
pub one_answer : (text : List ℕ) (a b : Result Sizes ConfError) → IsConfigOf text a → IsConfigOf text b → a ≡ b
one_answer text a b is_a is_b = ⊎_elim
    (λ long. too_long text a long is_a ∙ sym (too_long text b long is_b))
    (λ short. same_reached text a b (reached text a short is_a) (reached text b short is_b)) (cases_lt longest (length text))
