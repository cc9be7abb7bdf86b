-- What the calls send and open.
use Rattle.std.proofs.Common.{◌≡◌, ℕ, zero, suc, ◌+◌, ◌%◌, ◌^◌, ◌<◌, ◌≤◌, List, [], ◌∷◌, true, false, refl, sym, ap, ◌∙◌, subst, arith, Option, eq-eqb, ne_eqb}
use Rattle.std.specs.Prelude.{◌||◌, nat_eq, nat_lt, is_none, Some, None, if◌then◌else◌}
use Rattle.std.proofs.lemmas.Bool.{false≢true}
use Rattle.psx_base.specs.Addresses.{place, user}
use Rattle.psx_base.specs.Memory.{byte}
use Rattle.psx_base.specs.KernelState.{KernelState}
use Rattle.psx_flow.proofs.Users.{user_0}
use Rattle.abs_kernel.specs.Stay.{Stay, Write}
use Rattle.abs_kernel.specs.Answered.{registers_of, answered}
use Rattle.abs_kernel.specs.UserBytes.{bad_pointer, following, count_of, longest}
use Rattle.abs_kernel.specs.AccessLaws.{on_from, AllUser}
use Rattle.abs_kernel.specs.Files.{file, refuses, bad_file, no_device, bad_mode}
use Rattle.abs_kernel.specs.Open.{console_name, free_file, opens, opens_named}
use Rattle.abs_kernel.specs.Puts.{write_text}
use Rattle.abs_kernel.specs.WriteFile.{write_bytes}
use Rattle.abs_kernel.specs.Played.{Written, after, played}
use Rattle.abs_kernel.proofs.Accesses.{texts_end}
use Rattle.kern_file.specs.CallLaws.{bytes_from, sends, WriteSends, IsText, PutsSends, IsNamed, LowestOpened}
use Rattle.kern_file.proofs.FreeFile.{free_some}

first_user : (at n : ℕ) → at < 2 ^ 32 → AllUser at (suc n) → user at ≡ true
first_user at n small h = let e : on_from at 0 ≡ at = omega (arith, small) in subst (λ x. user x ≡ true) e (h 0 (omega arith))

on_next : (at i : ℕ) → on_from (following at) i ≡ on_from at (suc i)
on_next at i = omega arith

next_users : (at n : ℕ) → AllUser at (suc n) → AllUser (following at) n
next_users at n h i lt = subst (λ x. user x ≡ true) (sym (on_next at i)) (h (suc i) (omega (arith, lt)))

-- a stay behind a byte of user memory
past_user : (s : KernelState) (at : ℕ) (stay : Stay) (answers : List ℕ) → user at ≡ true → played (if user at then stay else bad_pointer s at) answers ≡ played stay answers
past_user s at stay answers u = ap (λ b. played (if b then stay else bad_pointer s at) answers) u

bytes_sent : (n : ℕ) (s : KernelState) (at value : ℕ) (answers : List ℕ) → at < 2 ^ 32 → AllUser at n
    → played (write_bytes n s at value) answers ≡ sends (bytes_from s.memory at n) (played (answered s value) answers)
bytes_sent zero s at value answers small h = refl
bytes_sent (suc n) s at value answers small h =
    past_user s at (Write (byte s.memory (place at) % 2 ^ 8) (write_bytes n s (following at) value)) answers (first_user at n small h)
    ∙ ap (after (Written (byte s.memory (place at) % 2 ^ 8))) (bytes_sent n s (following at) value answers (omega arith) (next_users at n h))

pub write_sends : WriteSends
write_sends s answers small w h =
    let r = registers_of s in
    let n : ℕ = count_of r.r6 in
    ap (λ b. played (if b then write_bytes n s r.r5 n else refuses s bad_file) answers) w ∙ bytes_sent n s r.r5 n answers small h

-- ---- a text

next_text : (s : KernelState) (at n : ℕ) → IsText s.memory at (suc n) → IsText s.memory (following at) n
next_text s at n t = record {
  there = next_users at (n + 1) (λ i lt. t.there i (omega (arith, lt)));
  before = λ i lt e. t.before (suc i) (omega (arith, lt)) (sym (ap (λ x. byte s.memory (place x)) (on_next at i)) ∙ e);
  ends = ap (λ x. byte s.memory (place x)) (on_next at n) ∙ t.ends;
}

text_sent : (m n : ℕ) (s : KernelState) (at : ℕ) (answers : List ℕ) → n < m → at < 2 ^ 32 → IsText s.memory at n
    → played (write_text m s at) answers ≡ sends (bytes_from s.memory at n) (played (answered s 0) answers)
text_sent zero n s at answers lt small t = absurd (omega (arith, lt))
text_sent (suc m) zero s at answers lt small t =
    let b : ℕ = byte s.memory (place at) in
    let e : on_from at 0 ≡ at = omega (arith, small) in
    let none : b ≡ 0 = sym (ap (λ x. byte s.memory (place x)) e) ∙ t.ends in
    let on : Stay = Write (b % 2 ^ 8) (write_text m s (following at)) in
    past_user s at (if nat_eq b 0 then answered s 0 else on) answers (first_user at 0 small t.there) ∙ ap (λ y. played (if y then answered s 0 else on) answers) (eq-eqb b 0 none)
text_sent (suc m) (suc n) s at answers lt small t =
    let b : ℕ = byte s.memory (place at) in
    let e : on_from at 0 ≡ at = omega (arith, small) in
    let some : b ≡ 0 → ⊥ = λ z. t.before 0 (omega arith) (ap (λ x. byte s.memory (place x)) e ∙ z) in
    let on : Stay = Write (b % 2 ^ 8) (write_text m s (following at)) in
    past_user s at (if nat_eq b 0 then answered s 0 else on) answers (first_user at n small (λ i up. t.there i (omega (arith, up))))
    ∙ ap (λ y. played (if y then answered s 0 else on) answers) (ne_eqb b 0 some)
    ∙ ap (after (Written (b % 2 ^ 8))) (text_sent m n s (following at) answers (omega (arith, lt)) (omega arith) (next_text s at n t))

pub puts_sends : PutsSends
puts_sends s answers n small t =
    let a : ℕ = (registers_of s).r4 in
    let some : a ≡ 0 → ⊥ = λ z. false≢true (sym (user_0 a (omega (arith, z))) ∙ first_user a n small (λ i lt. t.there i (omega (arith, lt)))) in
    let enough : write_text (suc (n + longest)) s a ≡ write_text longest s a = (texts_end (suc (n + longest)) s a 0 small (omega arith)).0 in
    ap (λ b. played (if b then answered s 0 else write_text longest s a) answers) (ne_eqb a 0 some)
    ∙ ap (λ y. played y answers) (sym enough) ∙ text_sent (suc (n + longest)) n s a answers (omega arith) small t

-- ---- a name

named_opens : (name : List ℕ) (mode : ℕ) (s : KernelState) (at : ℕ) (answers : List ℕ) → IsNamed s.memory at name
    → played (opens_named name mode s at) answers ≡ played (opens (free_file s.files) mode s) answers
named_opens [] mode s at answers h = refl
named_opens (c ∷ name) mode s at answers h =
    let b : ℕ = byte s.memory (place at) in
    let on : Stay = opens_named name mode s (following at) in
    past_user s at (if nat_eq b c then on else refuses s no_device) answers h.0
    ∙ ap (λ y. played (if y then on else refuses s no_device) answers) (eq-eqb b c h.1)
    ∙ named_opens name mode s (following at) answers h.2

a_mode : (m : ℕ) → 1 ≤ m → m ≤ 3 → (nat_eq m 0 || nat_lt 3 m) ≡ false
a_mode m low high = grind arith

is_one : (f : Option ℕ) → (f ≡ None → ⊥) → is_none f ≡ false
is_one None ne = absurd (ne refl)
is_one (Some mode) ne = refl

pub lowest_opened : LowestOpened
lowest_opened s answers n low high named lt closed before =
    let r = registers_of s in
    let a : ℕ = r.r4 in
    let mode : ℕ = r.r5 in
    let some : a ≡ 0 → ⊥ = λ z. false≢true (sym (user_0 a (omega (arith, z))) ∙ named.0) in
    let free : free_file s.files ≡ Some n = free_some s.files n lt (ap is_none closed) (λ j up. is_one (file s j) (before j up)) in
    let on : Stay = opens_named console_name mode s a in
    ap (λ b. played (if b then refuses s bad_mode else if nat_eq a 0 then refuses s no_device else on) answers) (a_mode mode low high)
    ∙ ap (λ b. played (if b then refuses s no_device else on) answers) (ne_eqb a 0 some)
    ∙ named_opens console_name mode s a answers named
    ∙ ap (λ o. played (opens o mode s) answers) free
