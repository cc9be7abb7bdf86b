-- The listings of `tested` do what their callers rest on.
use Rattle.std.proofs.Common.{zero}
use Rattle.psx_flow.proofs.Kit.{◌≡◌, ℕ, suc, ◌+◌, ◌%◌, ◌^◌, ◌<◌, ◌≤◌, List, ◌∷◌, true, false, refl, ap, ◌∙◌, arith, ⊎_elim, Memory, Registers, Cop0, place, user, Goal, Calls, Access, Load, Store, Meets, Fair, Part, Anew, Count, run, Entry, Sorted, ended, kernel_words, word_sort}
use Rattle.std.specs.Prelude.{Bool, nat_eq, ◌&&◌}
use Rattle.std.proofs.lemmas.Bool.{cases_Bool, eqb-true}
use Rattle.psx_cpu.specs.Words.{truth}
use Rattle.psx_flow.specs.declared.kinds.Tested.TheVariants.{ReadByte, WriteByte, ReadWord, WriteWord}
use Rattle.psx_flow.proofs.TestedTrees.{tree}
use Rattle.psx_flow.proofs.Log.{User, UserByte, UserWord, user_byte_then, user_word_then, user_byte_mono, user_word_mono}
use Rattle.psx_flow.proofs.Users.{sum_of, ranges, ranges_word, sort_user, sort_user_word}
use Rattle.psx_flow.proofs.Sorts.{user_above, word_above}
use Rattle.psx_flow.proofs.Sound.{sound}
use Rattle.psx_flow.proofs.Step.{both}

abbrev pub more : ℕ → ℕ → ℕ
more zero p = p
more (suc n) p = suc (more n p)

-- so many nodes and so many steps more
abbrev pub later : (nodes steps : ℕ) → Count → Count
later nodes steps p = record { passed = more nodes p.passed; steps = more steps p.steps }

-- where a word is good
abbrev pub good_word : ℕ → Bool
good_word a = user a && nat_eq (a % 4) 0

-- What k has to hold of behind a call: where the access is made, r10 is 1, and else it is 0; r11 and r12 may be anything.
-- A byte is read: it is in r9.
pub record ReadsByte (k : Part) (c : Registers) (z : Cop0) (m : Memory) (w : List Entry) (q : List Access) (p : Count) : Type 0 where
  pub good : user c.r8 ≡ true → (x y : ℕ) → user_byte_then m w (place c.r8) (λ v. k (record c { r9 = v; r10 = 1; r11 = x; r12 = y }) z m w (Load 1 (place c.r8) v ∷ q) (later 24 26 p))
  pub bad : user c.r8 ≡ false → (x y : ℕ) → k (record c { r10 = 0; r11 = x; r12 = y }) z m w q (later 22 24 p)

-- the low byte of r9 is written
pub record WritesByte (k : Part) (c : Registers) (z : Cop0) (m : Memory) (w : List Entry) (q : List Access) (p : Count) : Type 0 where
  pub good : user c.r8 ≡ true → (x y : ℕ) → k (record c { r10 = 1; r11 = x; r12 = y }) z m (UserByte (place c.r8) (c.r9 % 2 ^ 8) ∷ w) (Store 1 (place c.r8) (c.r9 % 2 ^ 8) ∷ q) (later 23 25 p)
  pub bad : user c.r8 ≡ false → (x y : ℕ) → k (record c { r10 = 0; r11 = x; r12 = y }) z m w q (later 22 24 p)

-- a word is read
pub record ReadsWord (k : Part) (c : Registers) (z : Cop0) (m : Memory) (w : List Entry) (q : List Access) (p : Count) : Type 0 where
  pub good : good_word c.r8 ≡ true → (x y : ℕ) → user_word_then m w (place c.r8) (λ v. k (record c { r9 = v; r10 = 1; r11 = x; r12 = y }) z m w (Load 4 (place c.r8) v ∷ q) (later 27 29 p))
  pub bad : good_word c.r8 ≡ false → (x y : ℕ) → k (record c { r10 = 0; r11 = x; r12 = y }) z m w q (later 25 27 p)

-- r9 is written
pub record WritesWord (k : Part) (c : Registers) (z : Cop0) (m : Memory) (w : List Entry) (q : List Access) (p : Count) : Type 0 where
  pub good : good_word c.r8 ≡ true → (x y : ℕ) → k (record c { r10 = 1; r11 = x; r12 = y }) z m (UserWord (place c.r8) c.r9 ∷ w) (Store 4 (place c.r8) c.r9 ∷ q) (later 26 28 p)
  pub bad : good_word c.r8 ≡ false → (x y : ℕ) → k (record c { r10 = 0; r11 = x; r12 = y }) z m w q (later 25 27 p)

wrap_0 : (a : ℕ) → a < 2 ^ 32 → (a + 0) % 2 ^ 32 ≡ a
wrap_0 a h = omega arith

-- a listing that comes back to r31
abbrev pub Back : Part → ℕ → ℕ → Goal
Back k ra b s = (b ≡ ra) × Anew k s

module _ (C : Calls) (fair : Fair C) (k : Part) (at : ℕ) (c : Registers) (z : Cop0) (m : Memory) (w : List Entry) (q : List Access) (p : Count) (small : c.r8 < 2 ^ 32) (ok : Sorted w) where
  pub reads_byte : ReadsByte k c z m w q p → Meets kernel_words C (tree ReadByte) at (λ _. ⊥) (Back k c.r31) (run c z m w q p)
  reads_byte known =
      sound C fair (tree ReadByte) at (ended (λ _. ⊥)) (λ _. ⊥) (Back k c.r31) (λ c z m w q p ok h. h) c z m w q p ok
      (⊎_elim
      (λ u. let one : sum_of c.r8 ≡ 1 = ranges c.r8 small ∙ ap truth u in
      rw (wrap_0 c.r8 small, one, sort_user c.r8 u)
      (λ e. user_byte_mono m w (place c.r8) _ _ (λ v h. (refl, record { memory = m; log = w; same = refl; sorted = ok; goes = h })) (known.good u _ _), λ z. absurd (omega arith)))
      (λ u. let none : sum_of c.r8 ≡ 0 = ranges c.r8 small ∙ ap truth u in
      rw none (λ e. absurd (e refl), λ z. (refl, record { memory = m; log = w; same = refl; sorted = ok; goes = known.bad u _ _ })))
      (cases_Bool (user c.r8)))

  pub writes_byte : WritesByte k c z m w q p → Meets kernel_words C (tree WriteByte) at (λ _. ⊥) (Back k c.r31) (run c z m w q p)
  writes_byte known =
      sound C fair (tree WriteByte) at (ended (λ _. ⊥)) (λ _. ⊥) (Back k c.r31) (λ c z m w q p ok h. h) c z m w q p ok
      (⊎_elim
      (λ u. let one : sum_of c.r8 ≡ 1 = ranges c.r8 small ∙ ap truth u in
      let s = sort_user c.r8 u in
      rw (wrap_0 c.r8 small, one, s)
      (λ e. (refl, record { memory = m; log = UserByte (place c.r8) (c.r9 % 2 ^ 8) ∷ w; same = refl; sorted = (user_above (place c.r8) s, ok); goes = known.good u _ _ }), λ z. absurd (omega arith)))
      (λ u. let none : sum_of c.r8 ≡ 0 = ranges c.r8 small ∙ ap truth u in
      rw none (λ e. absurd (e refl), λ z. (refl, record { memory = m; log = w; same = refl; sorted = ok; goes = known.bad u _ _ })))
      (cases_Bool (user c.r8)))

  word_is : good_word c.r8 ≡ true → word_sort c.r8 ≡ User
  word_is u = let b = both (user c.r8) (nat_eq (c.r8 % 4) 0) u in sort_user_word c.r8 b.0 (eqb-true _ _ b.1)

  pub reads_word : ReadsWord k c z m w q p → Meets kernel_words C (tree ReadWord) at (λ _. ⊥) (Back k c.r31) (run c z m w q p)
  reads_word known =
      sound C fair (tree ReadWord) at (ended (λ _. ⊥)) (λ _. ⊥) (Back k c.r31) (λ c z m w q p ok h. h) c z m w q p ok
      (⊎_elim
      (λ u. let one = ranges_word c.r8 small ∙ ap truth u in
      rw (wrap_0 c.r8 small, one, word_is u)
      (λ e. user_word_mono m w (place c.r8) _ _ (λ v h. (refl, record { memory = m; log = w; same = refl; sorted = ok; goes = h })) (known.good u _ _), λ z. absurd (omega arith)))
      (λ u. let none = ranges_word c.r8 small ∙ ap truth u in
      rw none (λ e. absurd (e refl), λ z. (refl, record { memory = m; log = w; same = refl; sorted = ok; goes = known.bad u _ _ })))
      (cases_Bool (good_word c.r8)))

  pub writes_word : WritesWord k c z m w q p → Meets kernel_words C (tree WriteWord) at (λ _. ⊥) (Back k c.r31) (run c z m w q p)
  writes_word known =
      sound C fair (tree WriteWord) at (ended (λ _. ⊥)) (λ _. ⊥) (Back k c.r31) (λ c z m w q p ok h. h) c z m w q p ok
      (⊎_elim
      (λ u. let one = ranges_word c.r8 small ∙ ap truth u in
      let s = word_is u in
      rw (wrap_0 c.r8 small, one, s)
      (λ e. (refl, record { memory = m; log = UserWord (place c.r8) c.r9 ∷ w; same = refl; sorted = (above s, ok); goes = known.good u _ _ }), λ z. absurd (omega arith)))
      (λ u. let none = ranges_word c.r8 small ∙ ap truth u in
      rw none (λ e. absurd (e refl), λ z. (refl, record { memory = m; log = w; same = refl; sorted = ok; goes = known.bad u _ _ })))
      (cases_Bool (good_word c.r8)))
    where
      above : word_sort c.r8 ≡ User → 0x10000 ≤ place c.r8
      above s = word_above c.r8 s
