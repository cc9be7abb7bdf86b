-- Sums and tests over the ranges of user memory.
use Rattle.std.proofs.Common.{◌≡◌, ℕ, ◌+◌, ◌-◌, ◌*◌, ◌<◌, ◌≤◌, ◌%◌, ◌^◌, ◌⊎◌, inl, inr, Bool, true, false, refl, sym, ap, ◌∙◌, arith, ⊎_elim, eq-eqb}
use Rattle.std.specs.Prelude.{nat_lt, nat_eq, bit_and, ◌&&◌, ◌||◌, if◌then◌else◌}
use Rattle.std.proofs.lemmas.Bool.{cases_lt, false≢true}
use Rattle.psx_base.specs.Addresses.{user, place, top, low, user_main, scratchpad}
use Rattle.psx_cpu.specs.Words.{truth}
use Rattle.psx_flow.proofs.Log.{sort, sort_by, is_port, in_user, byte_sort, word_sort, User, Nowhere}

-- modulo 2 ^ 32
abbrev pub wrap : ℕ → ℕ
wrap n = n % 2 ^ 32

abbrev pub sum_of : ℕ → ℕ
sum_of a = wrap (wrap (wrap (wrap (truth (nat_lt (wrap (a + 2 ^ 32 - 65536)) 2031616) + truth (nat_lt (wrap (a + 2 ^ 32 - 2147549184)) 2031616)) + truth (nat_lt (wrap (a + 2 ^ 32 - 2684420096)) 2031616)) + truth (nat_lt (wrap (a + 2 ^ 32 - 528482304)) 1024)) + truth (nat_lt (wrap (a + 2 ^ 32 - 2675965952)) 1024))

sum_0 : (a : ℕ) → a < 65536 → sum_of a ≡ 0
sum_0 a h = grind arith

pub user_0 : (a : ℕ) → a < 65536 → user a ≡ false
unfolding user
user_0 a h = grind arith

sum_1 : (a : ℕ) → 65536 ≤ a → a < 2097152 → sum_of a ≡ 1
sum_1 a h k = grind arith

pub user_1 : (a : ℕ) → 65536 ≤ a → a < 2097152 → user a ≡ true
unfolding user
user_1 a h k = grind arith

sum_2 : (a : ℕ) → 2097152 ≤ a → a < 528482304 → sum_of a ≡ 0
sum_2 a h k = grind arith

pub user_2 : (a : ℕ) → 2097152 ≤ a → a < 528482304 → user a ≡ false
unfolding user
user_2 a h k = grind arith

sum_3 : (a : ℕ) → 528482304 ≤ a → a < 528483328 → sum_of a ≡ 1
sum_3 a h k = grind arith

pub user_3 : (a : ℕ) → 528482304 ≤ a → a < 528483328 → user a ≡ true
unfolding user
user_3 a h k = grind arith

sum_4 : (a : ℕ) → 528483328 ≤ a → a < 2147549184 → sum_of a ≡ 0
sum_4 a h k = grind arith

pub user_4 : (a : ℕ) → 528483328 ≤ a → a < 2147549184 → user a ≡ false
unfolding user
user_4 a h k = grind arith

sum_5 : (a : ℕ) → 2147549184 ≤ a → a < 2149580800 → sum_of a ≡ 1
sum_5 a h k = grind arith

pub user_5 : (a : ℕ) → 2147549184 ≤ a → a < 2149580800 → user a ≡ true
unfolding user
user_5 a h k = grind arith

sum_6 : (a : ℕ) → 2149580800 ≤ a → a < 2675965952 → sum_of a ≡ 0
sum_6 a h k = grind arith

pub user_6 : (a : ℕ) → 2149580800 ≤ a → a < 2675965952 → user a ≡ false
unfolding user
user_6 a h k = grind arith

sum_7 : (a : ℕ) → 2675965952 ≤ a → a < 2675966976 → sum_of a ≡ 1
sum_7 a h k = grind arith

pub user_7 : (a : ℕ) → 2675965952 ≤ a → a < 2675966976 → user a ≡ true
unfolding user
user_7 a h k = grind arith

sum_8 : (a : ℕ) → 2675966976 ≤ a → a < 2684420096 → sum_of a ≡ 0
sum_8 a h k = grind arith

pub user_8 : (a : ℕ) → 2675966976 ≤ a → a < 2684420096 → user a ≡ false
unfolding user
user_8 a h k = grind arith

sum_9 : (a : ℕ) → 2684420096 ≤ a → a < 2686451712 → sum_of a ≡ 1
sum_9 a h k = grind arith

pub user_9 : (a : ℕ) → 2684420096 ≤ a → a < 2686451712 → user a ≡ true
unfolding user
user_9 a h k = grind arith

sum_10 : (a : ℕ) → 2686451712 ≤ a → a < 4294967296 → sum_of a ≡ 0
sum_10 a h k = grind arith

pub user_10 : (a : ℕ) → 2686451712 ≤ a → a < 4294967296 → user a ≡ false
unfolding user
user_10 a h k = grind arith

-- the sum is 1 at a user address, and else 0
pub ranges : (a : ℕ) → a < 4294967296 → sum_of a ≡ truth (user a)
ranges a h =
    ⊎_elim (λ l1. sum_0 a l1 ∙ sym (ap truth (user_0 a l1))) (λ g1. ⊎_elim (λ l2. sum_1 a g1 l2 ∙ sym (ap truth (user_1 a g1 l2))) (λ g2. ⊎_elim (λ l3. sum_2 a g2 l3 ∙ sym (ap truth (user_2 a g2 l3))) (λ g3. ⊎_elim (λ l4. sum_3 a g3 l4 ∙ sym (ap truth (user_3 a g3 l4))) (λ g4. ⊎_elim (λ l5. sum_4 a g4 l5 ∙ sym (ap truth (user_4 a g4 l5))) (λ g5. ⊎_elim (λ l6. sum_5 a g5 l6 ∙ sym (ap truth (user_5 a g5 l6))) (λ g6. ⊎_elim (λ l7. sum_6 a g6 l7 ∙ sym (ap truth (user_6 a g6 l7))) (λ g7. ⊎_elim (λ l8. sum_7 a g7 l8 ∙ sym (ap truth (user_7 a g7 l8))) (λ g8. ⊎_elim (λ l9. sum_8 a g8 l9 ∙ sym (ap truth (user_8 a g8 l9))) (λ g9. ⊎_elim (λ l10. sum_9 a g9 l10 ∙ sym (ap truth (user_9 a g9 l10))) (λ g10. sum_10 a g10 h ∙ sym (ap truth (user_10 a g10 h))) (cases_lt a 2686451712)) (cases_lt a 2684420096)) (cases_lt a 2675966976)) (cases_lt a 2675965952)) (cases_lt a 2149580800)) (cases_lt a 2147549184)) (cases_lt a 528483328)) (cases_lt a 528482304)) (cases_lt a 2097152)) (cases_lt a 65536)

by_segment : (t0 t4 t5 m s : Bool) → (((t0 || (t4 || t5)) && m) || ((t0 || t4) && s)) ≡ true → ((t0 || (t4 || t5)) ≡ true) × ((m ≡ true) ⊎ (s ≡ true))
by_segment true t4 t5 true s h = (refl, inl refl)
by_segment true t4 t5 false s h = (refl, inr h)
by_segment false true t5 true s h = (refl, inl refl)
by_segment false true t5 false s h = (refl, inr h)
by_segment false false true true s h = (refl, inl refl)
by_segment false false true false s h = absurd (false≢true h)
by_segment false false false m s h = absurd (false≢true h)

main_sort : (p : ℕ) → user_main p ≡ true → sort p ≡ User
main_sort p h = λ i. sort_by (not_code p h i) (not_kernel p h i) (is_user p h i) (is_port p)
  where
    not_code : (p : ℕ) → user_main p ≡ true → nat_lt p 0xB000 ≡ false
    not_code p h = grind arith

    not_kernel : (p : ℕ) → user_main p ≡ true → nat_lt p 0x10000 ≡ false
    not_kernel p h = grind arith

    is_user : (p : ℕ) → user_main p ≡ true → in_user p ≡ true
    is_user p h = grind arith

pad_sort : (p : ℕ) → scratchpad p ≡ true → sort p ≡ User
pad_sort p h = λ i. sort_by (not_code p h i) (not_kernel p h i) (is_user p h i) (is_port p)
  where
    not_code : (p : ℕ) → scratchpad p ≡ true → nat_lt p 0xB000 ≡ false
    not_code p h = grind arith

    not_kernel : (p : ℕ) → scratchpad p ≡ true → nat_lt p 0x10000 ≡ false
    not_kernel p h = grind arith

    is_user : (p : ℕ) → scratchpad p ≡ true → in_user p ≡ true
    is_user p h = grind arith

pub sort_user : (a : ℕ) → user a ≡ true → byte_sort a ≡ User
unfolding user
sort_user a u =
    let s = by_segment (nat_eq (top a) 0) (nat_eq (top a) 4) (nat_eq (top a) 5) (user_main (low a)) (scratchpad (low a)) u in
    ap (λ b. sort (if b then low a else 2 ^ 29)) s.0 ∙ ⊎_elim (main_sort (low a)) (pad_sort (low a)) s.1

pub sort_user_word : (a : ℕ) → user a ≡ true → a % 4 ≡ 0 → word_sort a ≡ User
sort_user_word a u even = ap (λ b. if b then sort (place a) else Nowhere) (eq-eqb (a % 4) 0 even) ∙ sort_user a u

-- the test of a word's address
low_bits : (a : ℕ) → nat_lt (a * 1073741824 % 4294967296) 1 ≡ nat_eq (a % 4) 0
low_bits a = shown (a * 1073741824 % 4294967296) (a % 4) (scaled a)
  where
    scaled : (a : ℕ) → a * 1073741824 % 4294967296 ≡ a % 4 * 1073741824
    scaled a = omega arith

    shown : (x y : ℕ) → x ≡ y * 1073741824 → nat_lt x 1 ≡ nat_eq y 0
    shown x y e = grind arith

both_bits : (a b : Bool) → bit_and (truth a) (truth b) ≡ truth (a && b)
both_bits true true = refl
both_bits true false = refl
both_bits false true = refl
both_bits false false = refl

pub ranges_word : (a : ℕ) → a < 4294967296 → bit_and (sum_of a) (truth (nat_lt (a * 1073741824 % 4294967296) 1)) ≡ truth (user a && nat_eq (a % 4) 0)
ranges_word a h = (λ i. bit_and (ranges a h i) (truth (low_bits a i))) ∙ both_bits (user a) (nat_eq (a % 4) 0)
