-- What printf writes and answers.
use Rattle.std.proofs.Common.{◌≡◌, ℕ, zero, suc, ◌+◌, ◌-◌, ◌*◌, ◌%◌, ◌^◌, ◌<◌, Bool, true, false, Option, Some, None, List, [], ◌∷◌, ◌++◌, length, refl, sym, ap, ◌∙◌, subst, arith, ne_eqb, ⊎_elim}
use Rattle.std.specs.Prelude.{nat_eq, nat_lt, nat_le, take, replicate, map, ◌&&◌, if◌then◌else◌}
use Rattle.std.proofs.lemmas.Bool.{false≢true, cases_lt}
use Rattle.std.proofs.lemmas.List.{length-replicate}
use Rattle.psx_base.specs.Addresses.{place, user}
use Rattle.psx_base.specs.Memory.{Memory, byte}
use Rattle.psx_base.specs.KernelState.{KernelState}
use Rattle.abs_kernel.specs.Stay.{Stay, Write, Touch}
use Rattle.abs_kernel.specs.Answered.{registers_of, answered}
use Rattle.abs_kernel.specs.UserBytes.{bad_pointer, following, longest}
use Rattle.abs_kernel.specs.UserWords.{user_word}
use Rattle.abs_kernel.specs.Played.{Written, after, played}
use Rattle.abs_kernel.specs.AccessLaws.{on_from, AllUser}
use Rattle.abs_kernel.specs.Conversion.{significant, Conversion, with_next, Kind, Number, Byte, Text, Alone, kind_of, limited, spaces, padded, number_text, null_text, opened, at_least, byte_of_digit, with_flag}
use Rattle.abs_kernel.specs.Printf.{writes, writes_from, measures, argument, writes_padded, most_of, writes_text, converts, takes_within, takes_format_byte, print_format, printf}
use Rattle.abs_kernel.specs.PrintfLaws.{Counts, AnswerCounts, format_bytes, IsPlain, PlainWritten, number_shown, WritesNumber, NumbersWritten}
use Rattle.abs_kernel.proofs.Accesses.{far_of}

-- ---- the answer

if_counts : (k : ℕ) (b : Bool) (x y : Stay) → Counts k x → Counts k y → Counts k (if b then x else y)
if_counts k true x y h g = h
if_counts k false x y h g = g

writes_count : (bytes : List ℕ) (k : ℕ) (next : Stay) → Counts (k + length bytes) next → Counts k (writes bytes next)
writes_count [] k next h = let e : k + 0 ≡ k = omega arith in subst (λ j. Counts j next) e h
writes_count (b ∷ bytes) k next h = let e : k + suc (length bytes) ≡ k + 1 + length bytes = omega arith in writes_count bytes (k + 1) next (subst (λ j. Counts j next) e h)

from_counts : (n : ℕ) (s : KernelState) (at k : ℕ) (next : Stay) → Counts (k + n) next → Counts k (writes_from n s at next)
from_counts zero s at k next h = let e : k + 0 ≡ k = omega arith in subst (λ j. Counts j next) e h
from_counts (suc n) s at k next h =
    let e : k + suc n ≡ k + 1 + n = omega arith in
    if_counts k (user at) _ _ (from_counts n s (following at) (k + 1) next (subst (λ j. Counts j next) e h)) tt

measured_count : (n : ℕ) (s : KernelState) (at size k : ℕ) (next : ℕ → Stay) → ((m : ℕ) → Counts k (next m)) → Counts k (measures n s at size next)
measured_count zero s at size k next h = h size
measured_count (suc n) s at size k next h = if_counts k (user at) _ _ (if_counts k (nat_eq (byte s.memory (place at)) 0) _ _ (h size) (measured_count n s (following at) (size + 1) k next h)) tt

argument_counts : (s : KernelState) (taken k : ℕ) (next : ℕ → Stay) → ((value : ℕ) → Counts k (next value)) → Counts k (argument s taken next)
argument_counts s taken k next h =
    let at : ℕ = ((registers_of s).r29 + 4 * (taken + 1)) % 2 ^ 32 in
    if_counts k (nat_lt taken 3) _ _ (h _) (if_counts k (user_word at) _ _ (h _) tt)

padded_counts : (c : Conversion) (text : List ℕ) (k : ℕ) (next : ℕ → Stay) → ((n : ℕ) → Counts n (next n)) → Counts k (writes_padded c text k next)
padded_counts c text k next h = writes_count (padded c text) k _ (h _)

spaces_length : (n : ℕ) → length (spaces n) ≡ n
spaces_length n = length-replicate n 0x20

text_counts : (c : Conversion) (s : KernelState) (at k : ℕ) (next : ℕ → Stay) → ((n : ℕ) → Counts n (next n)) → Counts k (writes_text c s at k next)
text_counts c s at k next h =
    if_counts k (nat_eq at 0) _ _ (padded_counts c (take (most_of c.precision) null_text) k next h)
    (measured_count (most_of c.precision) s at 0 k _ (λ size.
    let room : ℕ = limited c.width - size in
    let l : length (spaces room) ≡ room = spaces_length room in
    let x : k + size + length (spaces room) ≡ k + (room + size) = omega (arith, l) in
    let y : k + length (spaces room) + size ≡ k + (room + size) = omega (arith, l) in
    let on = next (k + (room + size)) in
    if_counts k c.left _ _
    (from_counts size s at k _ (writes_count (spaces room) (k + size) on (subst (λ j. Counts j on) (sym x) (h _))))
    (writes_count (spaces room) k _ (from_counts size s at (k + length (spaces room)) on (subst (λ j. Counts j on) (sym y) (h _))))))

converted_counts : (kind : Kind) (c : Conversion) (s : KernelState) (b taken k : ℕ) (next : ℕ → ℕ → Stay) → ((t n : ℕ) → Counts n (next t n)) → Counts k (converts kind c s b taken k next)
converted_counts (Number with_sign base letter) c s b taken k next h = argument_counts s taken k (λ x. writes (number_text c with_sign base letter x) (next (taken + 1) (k + length (number_text c with_sign base letter x))))
    (λ value. writes_count (number_text c with_sign base letter value) k (next (taken + 1) (k + length (number_text c with_sign base letter value))) (h (taken + 1) (k + length (number_text c with_sign base letter value))))
converted_counts Byte c s b taken k next h = argument_counts s taken k (λ x. writes_padded c (x % 2 ^ 8 ∷ []) k (next (taken + 1))) (λ value. padded_counts c (value % 2 ^ 8 ∷ []) k (next (taken + 1)) (h (taken + 1)))
converted_counts Text c s b taken k next h = argument_counts s taken k (λ x. writes_text c s x k (next (taken + 1))) (λ value. text_counts c s value k (next (taken + 1)) (h (taken + 1)))
converted_counts Alone c s b taken k next h = h taken (k + 1)

within_counts : (d : Option Conversion) (c : Conversion) (s : KernelState) (b taken k : ℕ) (next : ℕ → ℕ → Option Conversion → Stay) → ((t n : ℕ) (o : Option Conversion) → Counts n (next t n o)) → Counts k (takes_within d c s b taken k next)
within_counts (Some d) c s b taken k next h = h taken k (Some d)
within_counts None c s b taken k next h = converted_counts (kind_of b) c s b taken k (λ t n. next t n None) (λ t n. h t n None)

byte_counts : (o : Option Conversion) (s : KernelState) (b taken k : ℕ) (next : ℕ → ℕ → Option Conversion → Stay) → ((t n : ℕ) (d : Option Conversion) → Counts n (next t n d)) → Counts k (takes_format_byte o s b taken k next)
byte_counts None s b taken k next h = if_counts k (nat_eq b 0x25) (next taken k (Some opened)) (Write (b % 2 ^ 8) (next taken (k + 1) None)) (h taken k (Some opened)) (h taken (k + 1) None)
byte_counts (Some c) s b taken k next h = within_counts (with_next c.reading c b) c s b taken k next h

format_counts : (n : ℕ) (s : KernelState) (at taken k : ℕ) (c : Option Conversion) → Counts k (print_format n s at taken k c)
format_counts zero s at taken k c = tt
format_counts (suc n) s at taken k c =
    let b : ℕ = byte s.memory (place at) in
    if_counts k (user at) _ _ (if_counts k (nat_eq b 0) _ _ refl (byte_counts c s b taken k (λ t m d. print_format n s (following at) t m d) (λ t m d. format_counts n s (following at) t m d))) tt

pub answer_counts : AnswerCounts
answer_counts s = let r = registers_of s in if_counts 0 (nat_eq r.r4 0) _ _ refl (format_counts longest s r.r4 0 0 None)

-- ---- a byte of the format

user_here : (at : ℕ) → at < 2 ^ 32 → AllUser at 1 → user at ≡ true
user_here at small h = let e : on_from at 0 ≡ at = omega (arith, small) in ap user (sym e) ∙ h 0 (omega arith)

at_byte : (n : ℕ) (s : KernelState) (at taken count b : ℕ) (c : Option Conversion) → user at ≡ true → byte s.memory (place at) ≡ b → nat_eq b 0 ≡ false
    → print_format (suc n) s at taken count c ≡ Touch 1 (takes_format_byte c s b taken count (λ t m d. print_format n s (following at) t m d))
at_byte n s at taken count b c u e some =
    let on : ℕ → Stay = λ x. takes_format_byte c s x taken count (λ t m d. print_format n s (following at) t m d) in
    ap (λ x. Touch 1 (if x then if nat_eq (byte s.memory (place at)) 0 then answered s (count % 2 ^ 32) else on (byte s.memory (place at)) else bad_pointer s at)) u
    ∙ ap (λ x. Touch 1 (if nat_eq x 0 then answered s (count % 2 ^ 32) else on x)) e
    ∙ ap (λ x. Touch 1 (if x then answered s (count % 2 ^ 32) else on b)) some

at_end : (n : ℕ) (s : KernelState) (at taken count : ℕ) (c : Option Conversion) → user at ≡ true → byte s.memory (place at) ≡ 0 → print_format (suc n) s at taken count c ≡ Touch 1 (answered s (count % 2 ^ 32))
at_end n s at taken count c u e =
    let on : ℕ → Stay = λ x. takes_format_byte c s x taken count (λ t m d. print_format n s (following at) t m d) in
    ap (λ x. Touch 1 (if x then if nat_eq (byte s.memory (place at)) 0 then answered s (count % 2 ^ 32) else on (byte s.memory (place at)) else bad_pointer s at)) u
    ∙ ap (λ x. Touch 1 (if nat_eq x 0 then answered s (count % 2 ^ 32) else on x)) e

no_user : user 0 ≡ false
unfolding user
no_user = refl

not_at_0 : (at : ℕ) → user at ≡ true → at ≡ 0 → ⊥
not_at_0 at u z = false≢true (sym no_user ∙ ap user (sym z) ∙ u)

begins : (s : KernelState) → user (registers_of s).r4 ≡ true → printf s ≡ print_format longest s (registers_of s).r4 0 0 None
begins s u = let a : ℕ = (registers_of s).r4 in ap (λ b. if b then answered s 0 else print_format longest s a 0 0 None) (ne_eqb a 0 (not_at_0 a u))

-- ---- a format without a conversion

later : (at i : ℕ) → on_from (following at) i ≡ on_from at (suc i)
later at i = omega arith

plain_behind : (m : Memory) (at n : ℕ) → IsPlain m at (suc n) → IsPlain m (following at) n
plain_behind m at n t = record {
  there = λ i lt. ap user (later at i) ∙ t.there (suc i) (omega (arith, lt));
  before = λ i lt e. t.before (suc i) (omega (arith, lt)) (ap (λ x. byte m (place x)) (sym (later at i)) ∙ e);
  plain = λ i lt e. t.plain (suc i) (omega (arith, lt)) (ap (λ x. byte m (place x)) (sym (later at i)) ∙ e);
  ends = ap (λ x. byte m (place x)) (later at n) ∙ t.ends;
}

plain : (m n : ℕ) (s : KernelState) (at count : ℕ) (answers : List ℕ) → n < m → at < 2 ^ 32 → IsPlain s.memory at n
    → played (print_format m s at 0 count None) answers ≡ played (writes (format_bytes s.memory at n) (answered s ((count + n) % 2 ^ 32))) answers
plain zero n s at count answers lt small t = absurd (omega (arith, lt))
plain (suc m) zero s at count answers lt small t =
    let e : on_from at 0 ≡ at = omega (arith, small) in
    let u : user at ≡ true = ap user (sym e) ∙ t.there 0 (omega arith) in
    let z : count ≡ count + 0 = omega arith in
    ap (λ x. played x answers) (at_end m s at 0 count None u (ap (λ x. byte s.memory (place x)) (sym e) ∙ t.ends)) ∙ ap (λ k. played (answered s (k % 2 ^ 32)) answers) z
plain (suc m) (suc n) s at count answers lt small t =
    let b : ℕ = byte s.memory (place at) in
    let e : on_from at 0 ≡ at = omega (arith, small) in
    let u : user at ≡ true = ap user (sym e) ∙ t.there 0 (omega arith) in
    let some : nat_eq b 0 ≡ false = ne_eqb b 0 (λ z. t.before 0 (omega arith) (ap (λ x. byte s.memory (place x)) e ∙ z)) in
    let no : nat_eq b 0x25 ≡ false = ne_eqb b 0x25 (λ z. t.plain 0 (omega arith) (ap (λ x. byte s.memory (place x)) e ∙ z)) in
    let rest : Stay = print_format m s (following at) 0 (count + 1) None in
    let z : count + 1 + n ≡ count + suc n = omega arith in
    ap (λ x. played x answers) (at_byte m s at 0 count b None u refl some)
    ∙ ap (λ y. played (if y then print_format m s (following at) 0 count (Some opened) else Write (b % 2 ^ 8) rest) answers) no
    ∙ ap (after (Written (b % 2 ^ 8))) (plain m n s (following at) (count + 1) answers (omega (arith, lt)) (omega arith) (plain_behind s.memory at n t))
    ∙ ap (λ k. played (writes (format_bytes s.memory at (suc n)) (answered s (k % 2 ^ 32))) answers) z

-- as many bytes of user memory are fewer than the count of the definition
short : (at n : ℕ) → at < 2 ^ 32 → AllUser at (n + 1) → n < longest
short at n small h =
    let far = far_of at (user at) refl small in
    let near = far.1 in
    ⊎_elim (λ l. l) (λ g. absurd (false≢true (sym far.2 ∙ h far.0 (omega (arith, g, near))))) (cases_lt n longest)

pub plain_written : PlainWritten
plain_written s answers n small t =
    let a : ℕ = (registers_of s).r4 in
    let e : on_from a 0 ≡ a = omega (arith, small) in
    ap (λ x. played x answers) (begins s (ap user (sym e) ∙ t.there 0 (omega arith))) ∙ plain longest n s a 0 answers (short a n small t.there) small t
    ∙ ap (λ k. played (writes (format_bytes s.memory a n) (answered s (k % 2 ^ 32))) answers) (let z : 0 + n ≡ n = omega arith in z)

-- ---- a format that is one conversion of a number

writes_same : (text : List ℕ) (x y : Stay) (answers : List ℕ) → played x answers ≡ played y answers → played (writes text x) answers ≡ played (writes text y) answers
writes_same [] x y answers h = h
writes_same (b ∷ text) x y answers h = ap (after (Written b)) (writes_same text x y answers h)

none_missing : (n : ℕ) → 0 - n ≡ 0
none_missing n = omega arith

shown_is : (with_sign : Bool) (base letter value : ℕ) → number_text opened with_sign base letter value ≡ number_shown with_sign base letter value
shown_is with_sign base letter value =
    let negative : Bool = with_sign && nat_le (2 ^ 31) value in
    let sign : List ℕ = if negative then 0x2D ∷ [] else [] in
    let digits : List ℕ = at_least 1 (map (byte_of_digit letter) (significant base (if negative then 2 ^ 32 - value else value))) in
    ap (λ n. replicate n 0x20 ++ (sign ++ at_least 0 digits)) (none_missing (length (sign ++ at_least 0 digits)))
    ∙ ap (λ n. sign ++ (replicate n 0x30 ++ digits)) (none_missing (length digits))

longest_some : longest ≡ suc (suc (suc (longest - 3)))
unfolding longest
longest_some = omega arith

number_written : (b : ℕ) (with_sign : Bool) (base letter : ℕ) → nat_eq b 0 ≡ false → with_flag opened b ≡ None → kind_of b ≡ Number with_sign base letter → WritesNumber b with_sign base letter
number_written b with_sign base letter some ends kind s answers small h =
    let a : ℕ = (registers_of s).r4 in
    let v : ℕ = (registers_of s).r5 in
    let n : ℕ = longest - 3 in
    let a1 : ℕ = following a in
    let a2 : ℕ = following a1 in
    let u = user_here a small h.0 in
    let u1 = user_here a1 (omega arith) h.2.0 in
    let u2 = user_here a2 (omega arith) h.2.2.0 in
    let text : List ℕ = number_text opened with_sign base letter v in
    let on : ℕ → ℕ → Option Conversion → Stay = λ t m d. print_format (suc n) s a2 t m d in
    ap (λ x. played x answers) (begins s u)
    ∙ ap (λ m. played (print_format m s a 0 0 None) answers) longest_some
    ∙ ap (λ x. played x answers) (at_byte (suc (suc n)) s a 0 0 0x25 None u h.1 refl)
    ∙ ap (λ x. played x answers) (at_byte (suc n) s a1 0 0 b (Some opened) u1 h.2.1 some)
    ∙ ap (λ d. played (takes_within d opened s b 0 0 on) answers) ends
    ∙ ap (λ k. played (converts k opened s b 0 0 (λ t m. on t m None)) answers) kind
    ∙ ap (λ k. played (writes text (on 1 k None)) answers) (let z : 0 + length text ≡ length text = omega arith in z)
    ∙ writes_same text (on 1 (length text) None) (answered s (length text % 2 ^ 32)) answers (ap (λ x. played x answers) (at_end n s a2 1 (length text) None u2 h.2.2.1))
    ∙ ap (λ w. played (writes w (answered s (length w % 2 ^ 32))) answers) (shown_is with_sign base letter v)

pub numbers_written : NumbersWritten
numbers_written = (
  number_written 0x64 true 10 0x61 refl refl refl,
  number_written 0x69 true 10 0x61 refl refl refl,
  number_written 0x75 false 10 0x61 refl refl refl,
  number_written 0x6F false 8 0x61 refl refl refl,
  number_written 0x78 false 16 0x61 refl refl refl,
  number_written 0x58 false 16 0x41 refl refl refl,
)
