-- The laws of memmove and memcmp.
use Rattle.std.proofs.Common.{◌≡◌, ℕ, zero, suc, ◌+◌, ◌%◌, ◌^◌, ◌<◌, get_or, Bool, true, false, refl, sym, ap, ◌∙◌, subst, arith, ⊎_elim}
use Rattle.std.specs.Prelude.{nat_eq, if◌then◌else◌}
use Rattle.std.proofs.lemmas.Bool.{cases_lt, eq-eqb, eqb-true, false≢true}
use Rattle.psx_base.specs.Addresses.{place, user}
use Rattle.psx_base.specs.Memory.{Memory, byte}
use Rattle.psx_base.specs.KernelState.{KernelState}
use Rattle.psx_ram.proofs.Bytes.{byte-put_bytes_at}
use Rattle.kern_layout.specs.Fits.{InBytes}
use Rattle.abs_kernel.specs.Stay.{Stay}
use Rattle.abs_kernel.specs.Answered.{registers_of, answered}
use Rattle.abs_kernel.specs.UserBytes.{reads_byte, bad_pointer, following, tests_bytes, count_of}
use Rattle.abs_kernel.specs.StayLaws.{EachReturn}
use Rattle.abs_kernel.specs.Memmove.{bytes_at, moved}
use Rattle.abs_kernel.specs.Memcmp.{difference, compare_bytes}
use Rattle.kern_stay.specs.Room.{room}
use Rattle.kern_stay.proofs.RoomLeft.{room_is_left}
use Rattle.kern_mem.specs.MoveLaws.{SameBytes, MemmoveMoves, MemcmpTells}
use Rattle.kern_mem.proofs.Pointers.{not_null_both}
use Rattle.kern_stay.proofs.Tested.{Fine, fine}
use Rattle.kern_mem.proofs.Moving.{place_at, length-bytes_at}

-- ---- user memory

-- a byte of user memory has a next one
user_small : (a : ℕ) → user a ≡ true → a < 0xA0200000
unfolding user
user_small a u = grind arith

abbrev AllUser : (at n : ℕ) → Type 0
AllUser at n = (i : ℕ) → i < n → user (at + i) ≡ true

next_is : (at : ℕ) → user at ≡ true → following at ≡ at + 1
next_is at u = let low = user_small at u in omega (arith, low)

-- bytes with one before them
one_more : (P : ℕ → Type 0) (at n : ℕ) → P at → ((i : ℕ) → i < n → P (at + 1 + i)) → (i : ℕ) → i < suc n → P (at + i)
one_more P at n first rest zero lt = let e : at ≡ at + 0 = omega arith in subst P e first
one_more P at n first rest (suc i) lt = let e : at + 1 + i ≡ at + suc i = omega arith in subst P e (rest i (omega arith))

fine_all : (at n : ℕ) → 0 < n → AllUser at n → Fine at n
fine_all at n some all =
    let here : at + 0 ≡ at = omega arith in
    let small = user_small at (subst (λ x. user x ≡ true) here (all 0 some)) in
    let left = room_is_left at (omega (arith, small)) in
    fine at n (omega (arith, small)) (⊎_elim (λ lt. absurd (false≢true (sym left.bad ∙ all (room at) lt))) (λ le. le) (cases_lt (room at) n))

if_returns : (P : KernelState → Type 0) (b : Bool) (x y : Stay) → (b ≡ true → EachReturn P x) → (b ≡ false → EachReturn P y) → EachReturn P (if b then x else y)
if_returns P true x y h g = h refl
if_returns P false x y h g = g refl

-- ---- memmove

-- bytes that are tested are user memory where the stay goes on
tested : (P : KernelState → Type 0) (s : KernelState) (n at : ℕ) (next : Stay) → (AllUser at n → EachReturn P next) → EachReturn P (tests_bytes n s at next)
tested P s zero at next h = h (λ i lt. absurd (omega (arith, lt)))
tested P s (suc n) at next h =
    if_returns P (user at) (tests_bytes n s (following at) next) (bad_pointer s at)
    (λ u. tested P s n (following at) next (λ all. h (one_more (λ x. user x ≡ true) at n u (λ i lt. ap (λ x. user (x + i)) (sym (next_is at u)) ∙ all i lt))))
    (λ u. tt)

byte_of : (n : ℕ) (m : Memory) (at i : ℕ) → i < n → get_or (bytes_at n m at) i 0 ≡ byte m (at + i) % 2 ^ 8
byte_of zero m at i lt = absurd (omega (arith, lt))
byte_of (suc n) m at zero lt = let e : at ≡ at + 0 = omega arith in ap (λ a. byte m a % 2 ^ 8) e
byte_of (suc n) m at (suc i) lt = let e : at + 1 + i ≡ at + suc i = omega arith in byte_of n m (at + 1) i (omega arith) ∙ ap (λ a. byte m a % 2 ^ 8) e

byte_moved : (m : Memory) → InBytes m → (n to from i : ℕ) → AllUser from n → AllUser to n → i < n
    → byte (moved n m (place to) (place from)) (place (to + i)) ≡ byte m (place (from + i))
byte_moved m bytes n to from i all_from all_to lt =
    let some : 0 < n = omega (arith, lt) in
    let small : byte m (place from + i) % 2 ^ 8 ≡ byte m (place from + i) = (let b = bytes (place from + i) in omega (arith, b)) in
    ap (byte (moved n m (place to) (place from))) (place_at to n i lt (fine_all to n some all_to))
    ∙ byte-put_bytes_at m (place to) (bytes_at n m (place from)) i (omega (arith, lt, length-bytes_at n m (place from)))
    ∙ byte_of n m (place from) i lt ∙ small ∙ ap (byte m) (sym (place_at from n i lt (fine_all from n some all_from)))

pub memmove_moves : MemmoveMoves
memmove_moves s bytes nd na =
    let r = registers_of s in
    let n : ℕ = count_of r.r6 in
    let d : ℕ = r.r4 in
    let a : ℕ = r.r5 in
    let P : KernelState → Type 0 = λ t. SameBytes n t s d a in
    let end : Stay = answered (record s { memory = moved n s.memory (place d) (place a) }) d in
    let is = not_null_both d a (answered s 0) (tests_bytes n s a (tests_bytes n s d end)) nd na in
    subst (EachReturn P) (sym is) (tested P s n a (tests_bytes n s d end) (λ from. tested P s n d end (λ to i lt. byte_moved s.memory bytes n d a i from to lt)))

-- ---- memcmp

-- the byte at an address
abbrev value : KernelState → ℕ → ℕ
value s a = byte s.memory (place a)

abbrev Same : KernelState → (n a b : ℕ) → Type 0
Same s n a b = SameBytes n s s a b

abbrev Tells : KernelState → (n a b : ℕ) → KernelState → Type 0
Tells s n a b t = ((registers_of t).r2 ≡ 0 → Same s n a b) × (Same s n a b → (registers_of t).r2 ≡ 0)

differs : (x y : ℕ) → x < 2 ^ 8 → y < 2 ^ 8 → (x ≡ y → ⊥) → difference x y ≡ 0 → ⊥
differs x y hx hy ne e = omega (arith, hx, hy, ne, e)

-- the same bytes, and one before them
same_first : (s : KernelState) (n a b : ℕ) → Same s (suc n) a b → value s a ≡ value s b
same_first s n a b same = let e : a ≡ a + 0 = omega arith in let f : b + 0 ≡ b = omega arith in ap (value s) e ∙ same 0 (omega arith) ∙ ap (value s) f

same_rest : (s : KernelState) (n a b : ℕ) → Same s (suc n) a b → Same s n (a + 1) (b + 1)
same_rest s n a b same i lt =
    let e : a + 1 + i ≡ a + suc i = omega arith in
    let f : b + suc i ≡ b + 1 + i = omega arith in
    ap (value s) e ∙ same (suc i) (omega (arith, lt)) ∙ ap (value s) f

same_all : (s : KernelState) (n a b : ℕ) → value s a ≡ value s b → Same s n (a + 1) (b + 1) → Same s (suc n) a b
same_all s n a b first rest zero lt = let e : a + 0 ≡ a = omega arith in let f : b ≡ b + 0 = omega arith in ap (value s) e ∙ first ∙ ap (value s) f
same_all s n a b first rest (suc i) lt =
    let e : a + suc i ≡ a + 1 + i = omega arith in
    let f : b + 1 + i ≡ b + suc i = omega arith in
    ap (value s) e ∙ rest i (omega (arith, lt)) ∙ ap (value s) f

compared : (P : KernelState → Type 0) (s : KernelState) → InBytes s.memory → (n a b : ℕ) → ((t : KernelState) → Tells s n a b t → P t) → EachReturn P (compare_bytes n s a b)
compared P s bytes zero a b h = h _ (λ z i lt. absurd (omega (arith, lt)), λ same. refl)
compared P s bytes (suc n) a b h =
    let x : ℕ = value s a in
    let y : ℕ = value s b in
    let go : Stay = compare_bytes n s (following a) (following b) in
    let end : Stay = answered s (difference x y) in
    if_returns P (user a) (reads_byte s b (λ c. if nat_eq x c then go else answered s (difference x c))) (bad_pointer s a) (λ ua.
    if_returns P (user b) (if nat_eq x y then go else end) (bad_pointer s b) (λ ub.
    if_returns P (nat_eq x y) go end
    (λ e.
    subst (λ p. EachReturn P (compare_bytes n s p (following b))) (sym (next_is a ua))
    (subst (λ q. EachReturn P (compare_bytes n s (a + 1) q)) (sym (next_is b ub))
    (compared P s bytes n (a + 1) (b + 1) (λ t tells. h t (λ z. same_all s n a b (eqb-true x y e) (tells.0 z), λ same. tells.1 (same_rest s n a b same))))))
    (λ e.
    let ne : x ≡ y → ⊥ = λ q. false≢true (sym e ∙ eq-eqb x y q) in
    h _ (λ z. absurd (differs x y (bytes (place a)) (bytes (place b)) ne z), λ same. absurd (ne (same_first s n a b same)))))
    (λ u. tt)) (λ u. tt)

pub memcmp_tells : MemcmpTells
memcmp_tells s bytes na nb =
    let r = registers_of s in
    let n : ℕ = count_of r.r6 in
    let P : KernelState → Type 0 = Tells s n r.r4 r.r5 in
    let is = not_null_both r.r4 r.r5 (answered s 0) (compare_bytes n s r.r4 r.r5) na nb in
    subst (EachReturn P) (sym is) (compared P s bytes n r.r4 r.r5 (λ t tells. tells))
