-- The words for user memory.
use Rattle.std.proofs.Common.{◌≡◌, ℕ, zero, suc, ◌+◌, ◌%◌, ◌^◌, ◌<◌, ◌≤◌, Bool, true, false, List, ◌⊎◌, inl, inr, ⊎_elim, refl, sym, ap, ◌∙◌, arith}
use Rattle.std.specs.Prelude.{if◌then◌else◌, nat_eq, nat_le, nat_lt, ◌&&◌, ◌||◌}
use Rattle.std.proofs.lemmas.Bool.{false≢true, and_parts, or_cases, eqb-true, leb-true, ltb-true}
use Rattle.psx_base.specs.Addresses.{top, low, is_mirrored, user_main, scratchpad, place, user}
use Rattle.psx_base.specs.Memory.{byte, word}
use Rattle.psx_base.specs.KernelState.{KernelState}
use Rattle.psx_ram.proofs.Laws.{word-put_word_same}
use Rattle.abs_kernel.specs.Stay.{Stay, Write, Touch}
use Rattle.abs_kernel.specs.Answered.{answered}
use Rattle.abs_kernel.specs.UserBytes.{bad_pointer, following, tests_bytes, longest}
use Rattle.abs_kernel.specs.UserWords.{user_word, with_word}
use Rattle.abs_kernel.specs.Played.{played}
use Rattle.abs_kernel.specs.Touched.{touched}
use Rattle.abs_kernel.specs.Puts.{write_text}
use Rattle.abs_kernel.specs.Strlen.{count_bytes}
use Rattle.abs_kernel.specs.AccessLaws.{on_from, AllUser, TestsPass, TestsStop, WordsWithin, WordsStay, TextsEnd}

first_is : (at : ℕ) → at < 2 ^ 32 → on_from at 0 ≡ at
first_is at h = omega arith

later_is : (at i : ℕ) → on_from (following at) i ≡ on_from at (i + 1)
later_is at i = omega arith

following_small : (at : ℕ) → following at < 2 ^ 32
following_small at = omega arith

-- the bytes behind the first
all_behind : (at n : ℕ) → AllUser at (suc n) → AllUser (following at) n
all_behind at n h i lt = ap user (later_is at i) ∙ h (i + 1) (omega (arith, lt))

first_user : (at n : ℕ) → at < 2 ^ 32 → AllUser at (suc n) → user at ≡ true
first_user at n small h = ap user (sym (first_is at small)) ∙ h 0 (omega arith)

pub tests_pass : TestsPass
tests_pass zero s at next answers small h = (refl, omega arith)
tests_pass (suc n) s at next answers small h =
    let u = first_user at n small h in
    let r = tests_pass n s (following at) next answers (following_small at) (all_behind at n h) in
    let is = ap (λ b. if b then tests_bytes n s (following at) next else bad_pointer s at) u in
    (ap (λ stay. played stay answers) is ∙ r.0, ap (λ stay. 1 + touched stay answers) is ∙ omega (arith, r.1))

pub tests_stop : TestsStop
tests_stop zero k s at next answers small lt h bad = absurd (omega (arith, lt))
tests_stop (suc n) zero s at next answers small lt h bad =
    let is = ap (λ b. if b then tests_bytes n s (following at) next else bad_pointer s at) (ap user (sym (first_is at small)) ∙ bad) in
    (ap (λ stay. (played stay answers).end) is ∙ ap (λ a. (played (bad_pointer s a) answers).end) (sym (first_is at small)), ap (λ stay. 1 + touched stay answers) is)
tests_stop (suc n) (suc k) s at next answers small lt h bad =
    let e : on_from (following at) k ≡ on_from at (suc k) = omega arith in
    let r = tests_stop n k s (following at) next answers (following_small at) (omega (arith, lt)) (all_behind at k h) (ap user e ∙ bad) in
    let is = ap (λ b. if b then tests_bytes n s (following at) next else bad_pointer s at) (first_user at k small h) in
    (ap (λ stay. (played stay answers).end) is ∙ r.0 ∙ ap (λ a. (played (bad_pointer s a) answers).end) e, ap (λ stay. 1 + touched stay answers) is ∙ omega (arith, r.1))

within : (at i : ℕ) → at % 4 ≡ 0 → user at ≡ true → i < 4 → user (at + i) ≡ true
unfolding user
within at i even u lt = grind arith

pub words_within : WordsWithin
words_within at i h lt = let p = and_parts (nat_eq (at % 4) 0) (user at) h in within at i (eqb-true _ _ p.0) p.1 lt

-- a word that is written and read again
again : (s : KernelState) (at value : ℕ) (next : ℕ → Stay) (answers : List ℕ) (b : Bool) → b ≡ true
    → played (if b then (Touch 4 (if b then next (word (with_word s at value).memory (place at)) else bad_pointer (with_word s at value) at)) else bad_pointer s at) answers ≡ played (next value) answers
again s at value next answers true h = ap (λ w. played (next w) answers) (word-put_word_same s.memory (place at) value)
again s at value next answers false h = absurd (false≢true h)

pub words_stay : WordsStay
words_stay s at value next answers h = again s at value next answers (user_word at) h

-- ---- texts

-- some byte within the length of main memory isn't user memory
neither : (x y u v : Bool) → u ≡ false → v ≡ false → ((x && u) || (y && v)) ≡ false
neither true true u v e f = ap (λ b. b || v) e ∙ f
neither true false u v e f = ap (λ b. b || false) e
neither false true u v e f = f
neither false false u v e f = refl

not_user : (a : ℕ) → user_main (low a) ≡ false → scratchpad (low a) ≡ false → user a ≡ false
unfolding user
not_user a e f = neither (is_mirrored a) (nat_eq (top a) 0 || nat_eq (top a) 4) (user_main (low a)) (scratchpad (low a)) e f

no_main : (l : ℕ) → 0x200000 ≤ l → user_main l ≡ false
no_main l h = grind arith

no_scratch : (l : ℕ) → (l < 0x1F800000) ⊎ (0x1F800400 ≤ l) → scratchpad l ≡ false
no_scratch l h = grind (arith, h)

past_main : (at : ℕ) → user_main (low at) ≡ true → user (on_from at 0x1F0000) ≡ false
past_main at h =
    let p = and_parts (nat_le 0x10000 (low at)) (nat_lt (low at) 0x200000) h in
    let lower = leb-true 0x10000 (low at) p.0 in
    let upper = ltb-true (low at) 0x200000 p.1 in
    let b = on_from at 0x1F0000 in
    not_user b (no_main (low b) (omega (arith, lower, upper))) (no_scratch (low b) (inl (omega (arith, lower, upper))))

past_scratch : (at : ℕ) → scratchpad (low at) ≡ true → user (on_from at 0x1F0000) ≡ false
past_scratch at h =
    let p = and_parts (nat_le 0x1F800000 (low at)) (nat_lt (low at) 0x1F800400) h in
    let lower = leb-true 0x1F800000 (low at) p.0 in
    let upper = ltb-true (low at) 0x1F800400 p.1 in
    let b = on_from at 0x1F0000 in
    not_user b (no_main (low b) (omega (arith, lower, upper))) (no_scratch (low b) (inr (omega (arith, lower, upper))))

past_user : (at : ℕ) → user at ≡ true → user (on_from at 0x1F0000) ≡ false
unfolding user
past_user at h = ⊎_elim (λ m. past_main at (and_parts (is_mirrored at) _ m).1) (λ c. past_scratch at (and_parts (nat_eq (top at) 0 || nat_eq (top at) 4) _ c).1) (or_cases _ _ h)

module _ (s : KernelState) where
  -- texts with a byte that isn't user memory k bytes on, whatever the count above k
  write_same : (n m k at : ℕ) → at < 2 ^ 32 → k < n → k < m → user (on_from at k) ≡ false → write_text n s at ≡ write_text m s at
  write_same zero m k at small p q bad = absurd (omega (arith, p))
  write_same (suc n) zero k at small p q bad = absurd (omega (arith, q))
  write_same (suc n) (suc m) zero at small p q bad =
      let u = ap user (sym (first_is at small)) ∙ bad in
      let read = λ (rest : Stay). if nat_eq (byte s.memory (place at)) 0 then answered s 0 else Write (byte s.memory (place at) % 2 ^ 8) rest in
      ap (λ b. Touch 1 (if b then read (write_text n s (following at)) else bad_pointer s at)) u ∙ sym (ap (λ b. Touch 1 (if b then read (write_text m s (following at)) else bad_pointer s at)) u)
  write_same (suc n) (suc m) (suc k) at small p q bad =
      let e : on_from (following at) k ≡ on_from at (suc k) = omega arith in
      let read = λ (rest : Stay). if nat_eq (byte s.memory (place at)) 0 then answered s 0 else Write (byte s.memory (place at) % 2 ^ 8) rest in
      ap (λ rest. Touch 1 (if user at then read rest else bad_pointer s at)) (write_same n m k (following at) (following_small at) (omega (arith, p)) (omega (arith, q)) (ap user e ∙ bad))

  count_same : (n m k at count : ℕ) → at < 2 ^ 32 → k < n → k < m → user (on_from at k) ≡ false → count_bytes n s at count ≡ count_bytes m s at count
  count_same zero m k at count small p q bad = absurd (omega (arith, p))
  count_same (suc n) zero k at count small p q bad = absurd (omega (arith, q))
  count_same (suc n) (suc m) zero at count small p q bad =
      let u = ap user (sym (first_is at small)) ∙ bad in
      let read = λ (rest : Stay). if nat_eq (byte s.memory (place at)) 0 then answered s count else rest in
      ap (λ b. Touch 1 (if b then read (count_bytes n s (following at) (count + 1)) else bad_pointer s at)) u
      ∙ sym (ap (λ b. Touch 1 (if b then read (count_bytes m s (following at) (count + 1)) else bad_pointer s at)) u)
  count_same (suc n) (suc m) (suc k) at count small p q bad =
      let e : on_from (following at) k ≡ on_from at (suc k) = omega arith in
      let read = λ (rest : Stay). if nat_eq (byte s.memory (place at)) 0 then answered s count else rest in
      ap (λ rest. Touch 1 (if user at then read rest else bad_pointer s at)) (count_same n m k (following at) (count + 1) (following_small at) (omega (arith, p)) (omega (arith, q)) (ap user e ∙ bad))

-- how far the first byte is that isn't user memory, at the most
pub far_of : (at : ℕ) (b : Bool) → user at ≡ b → at < 2 ^ 32 → (k : ℕ) × (k < longest) × (user (on_from at k) ≡ false)
unfolding longest
far_of at true u small = (0x1F0000, omega arith, past_user at u)
far_of at false u small = (0, omega arith, ap user (first_is at small) ∙ u)

pub texts_end : TextsEnd
texts_end n s at count small less =
    let k = far_of at (user at) refl small in
    let lt = k.1 in
    (write_same s n longest k.0 at small (omega (arith, lt, less)) lt k.2, count_same s n longest k.0 at count small (omega (arith, lt, less)) lt k.2)
