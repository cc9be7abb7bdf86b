-- Memory at the user's addresses: what is read there and written, in two memories that are the same there.
use Rattle.std.proofs.Common.{◌≡◌, ℕ, ◌+◌, ◌*◌, ◌/◌, ◌%◌, ◌^◌, ◌<◌, Bool, true, false, cond, refl, sym, ap, subst, ◌∙◌, arith}
use Rattle.std.specs.Prelude.{if◌then◌else◌, ◌||◌, ◌&&◌, nat_eq}
use Rattle.std.proofs.lemmas.Bool.{false≢true}
use Rattle.psx_base.specs.Addresses.{top, low, is_mirrored, place, user, user_main, scratchpad}
use Rattle.psx_base.specs.PortAddresses.{port}
use Rattle.psx_base.specs.Memory.{Memory, byte, half, word, put_byte, put_half, put_word, is_mapped, is_writable}
use Rattle.psx_ram.proofs.Laws.{byte-put_byte, byte-put_byte_apart}
use Rattle.psx_cpu.specs.DataAccess.{read_byte, read_half, read_word, load_word, write_byte, write_half, write_word, round}
use Rattle.kern_layout.specs.Stands.{SameUser}

-- user memory, by physical address
abbrev pub shared : ℕ → Bool
shared p = user_main p || scratchpad p

-- ---- addresses

-- where one place is the user's if another is, the place of an address is
by_segment : (x y z : Bool) (p to q : ℕ) → (shared p ≡ true → shared to ≡ true) → (((x || (y || z)) && user_main p) || ((x || y) && scratchpad p)) ≡ true → shared (if x || (y || z) then to else q) ≡ true
by_segment true y z p to q f h = f h
by_segment false true z p to q f h = f h
by_segment false false true p to q f h = f (main (user_main p) (scratchpad p) h)
  where
    main : (m s : Bool) → (m || false) ≡ true → (m || s) ≡ true
    main true s e = refl
    main false s e = absurd (false≢true e)
by_segment false false false p to q f h = absurd (false≢true h)

pub user-shared : (a : ℕ) → user a ≡ true → shared (place a) ≡ true
unfolding user
user-shared a h = by_segment (nat_eq (top a) 0) (nat_eq (top a) 4) (nat_eq (top a) 5) (low a) (low a) (2 ^ 29) (λ s. s) h

shared-round : (p : ℕ) → shared p ≡ true → shared (p / 4 * 4) ≡ true
shared-round p h = grind arith

round-place : (a : ℕ) → place (round a) ≡ (if is_mirrored a then low a / 4 * 4 else 2 ^ 29)
round-place a =
    let t : round a / 2 ^ 29 ≡ a / 2 ^ 29 = omega arith in
    let l : round a % 2 ^ 29 ≡ a % 2 ^ 29 / 4 * 4 = omega arith in
    (λ i. if nat_eq (t i) 0 || (nat_eq (t i) 4 || nat_eq (t i) 5) then l i else 2 ^ 29)

pub user-round : (a : ℕ) → user a ≡ true → shared (place (round a)) ≡ true
unfolding user
user-round a h =
    subst (λ (p : ℕ). shared p ≡ true) (sym (round-place a))
    (by_segment (nat_eq (top a) 0) (nat_eq (top a) 4) (nat_eq (top a) 5) (low a) (low a / 4 * 4) (2 ^ 29) (shared-round (low a)) h)

pub place-4 : (b : Bool) (a : ℕ) → a % 4 ≡ 0 → (if b then low a else 2 ^ 29) % 4 ≡ 0
place-4 true a h = omega arith
place-4 false a h = refl

pub place-2 : (b : Bool) (a : ℕ) → a % 2 ≡ 0 → (if b then low a else 2 ^ 29) % 2 ≡ 0
place-2 true a h = omega arith
place-2 false a h = refl

pub shared-word : (p j : ℕ) → shared p ≡ true → p % 4 ≡ 0 → j < 4 → shared (p + j) ≡ true
shared-word p j h aligned less = grind arith

pub shared-half : (p : ℕ) → shared p ≡ true → p % 2 ≡ 0 → shared (p + 1) ≡ true
shared-half p h aligned = grind arith

pub shared-no_port : (p : ℕ) → shared p ≡ true → port p ≡ false
unfolding port
shared-no_port p h = let small : p < 0x1F801070 = grind arith in grind arith

pub kernel-not_shared : (a : ℕ) → a < 0x10000 → shared a ≡ false
kernel-not_shared a h = grind arith

-- ---- reads

module _ (m n : Memory) (same : SameUser m n) where
  word-same : (p : ℕ) → shared p ≡ true → p % 4 ≡ 0 → word m p ≡ word n p
  unfolding word
  word-same p h a =
      let b0 : byte m p ≡ byte n p = same p h in
      let b1 : byte m (p + 1) ≡ byte n (p + 1) = same (p + 1) (shared-word p 1 h a (omega arith)) in
      let b2 : byte m (p + 2) ≡ byte n (p + 2) = same (p + 2) (shared-word p 2 h a (omega arith)) in
      let b3 : byte m (p + 3) ≡ byte n (p + 3) = same (p + 3) (shared-word p 3 h a (omega arith)) in
      (λ i. b0 i + b1 i * 2 ^ 8 + b2 i * 2 ^ 16 + b3 i * 2 ^ 24)

  half-same : (p : ℕ) → shared p ≡ true → p % 2 ≡ 0 → half m p ≡ half n p
  unfolding half
  half-same p h a =
      let b0 : byte m p ≡ byte n p = same p h in
      let b1 : byte m (p + 1) ≡ byte n (p + 1) = same (p + 1) (shared-half p h a) in
      (λ i. b0 i + b1 i * 2 ^ 8)

  pub read_byte-same : (a : ℕ) → user a ≡ true → read_byte m a ≡ read_byte n a
  unfolding read_byte
  read_byte-same a u = ap (λ (v : ℕ). if is_mapped (place a) 1 then v else 0) (same (place a) (user-shared a u))

  pub read_half-same : (a : ℕ) → user a ≡ true → a % 2 ≡ 0 → read_half m a ≡ read_half n a
  unfolding read_half
  read_half-same a u h = ap (λ (v : ℕ). if is_mapped (place a) 2 then v else 0) (half-same (place a) (user-shared a u) (place-2 (is_mirrored a) a h))

  pub read_word-same : (a : ℕ) → user a ≡ true → a % 4 ≡ 0 → read_word m a ≡ read_word n a
  unfolding read_word
  read_word-same a u h = ap (λ (v : ℕ). if is_mapped (place a) 4 then v else 0) (word-same (place a) (user-shared a u) (place-4 (is_mirrored a) a h))

  pub read_round-same : (a : ℕ) → user a ≡ true → read_word m (round a) ≡ read_word n (round a)
  unfolding read_word
  read_round-same a u = ap (λ (v : ℕ). if is_mapped (place (round a)) 4 then v else 0) (word-same (place (round a)) (user-round a u) (place-4 (is_mirrored (round a)) (round a) (omega arith)))

  pub load_word-same : (a v w : ℕ) → user a ≡ true → a % 4 ≡ 0 → load_word m a v ≡ load_word n a w
  unfolding load_word
  load_word-same a v w u h = let e = shared-no_port (place a) (user-shared a u) in rw e (read_word-same a u h)

-- ---- writes

-- a memory after writes to the user's addresses, beside another after the same writes
pub record Agrees (m now other : Memory) : Type 0 where
  pub user : SameUser now other
  pub rest : (a : ℕ) → shared a ≡ false → byte now a ≡ byte m a

agrees-byte : (m x y : Memory) (p v : ℕ) → shared p ≡ true → Agrees m x y → Agrees m (put_byte x p v) (put_byte y p v)
agrees-byte m x y p v s h = record {
  user = λ a u. byte-put_byte x p v a ∙ ap (cond (nat_eq a p) v) (h.user a u) ∙ sym (byte-put_byte y p v a);
  rest = λ a o. byte-put_byte_apart x p v a (λ e. false≢true (sym o ∙ ap shared e ∙ s)) ∙ h.rest a o;
}

agrees-half : (m x y : Memory) (p v : ℕ) → shared p ≡ true → p % 2 ≡ 0 → Agrees m x y → Agrees m (put_half x p v) (put_half y p v)
unfolding put_half
agrees-half m x y p v s a h = agrees-byte m _ _ (p + 1) _ (shared-half p s a) (agrees-byte m x y p _ s h)

agrees-word : (m x y : Memory) (p v : ℕ) → shared p ≡ true → p % 4 ≡ 0 → Agrees m x y → Agrees m (put_word x p v) (put_word y p v)
unfolding put_word
agrees-word m x y p v s a h =
    agrees-byte m _ _ (p + 3) _ (shared-word p 3 s a (omega arith)) (agrees-byte m _ _ (p + 2) _ (shared-word p 2 s a (omega arith))
    (agrees-byte m _ _ (p + 1) _ (shared-word p 1 s a (omega arith)) (agrees-byte m x y p _ s h)))

agrees-if : (b : Bool) (m n x y : Memory) → Agrees m m n → Agrees m x y → Agrees m (if b then x else m) (if b then y else n)
agrees-if true m n x y h g = g
agrees-if false m n x y h g = h

pub agrees-none : (m n : Memory) → SameUser m n → Agrees m m n
agrees-none m n same = record { user = same; rest = λ a o. refl }

module _ (m n : Memory) (same : SameUser m n) where
  pub write_byte-agrees : (a v : ℕ) → user a ≡ true → Agrees m (write_byte m a v) (write_byte n a v)
  unfolding write_byte
  write_byte-agrees a v u = agrees-if (is_writable (place a)) m n _ _ (agrees-none m n same) (agrees-byte m m n (place a) v (user-shared a u) (agrees-none m n same))

  pub write_half-agrees : (a v : ℕ) → user a ≡ true → a % 2 ≡ 0 → Agrees m (write_half m a v) (write_half n a v)
  unfolding write_half
  write_half-agrees a v u h =
      agrees-if (is_writable (place a)) m n _ _ (agrees-none m n same) (agrees-half m m n (place a) v (user-shared a u) (place-2 (is_mirrored a) a h) (agrees-none m n same))

  pub write_word-agrees : (a v : ℕ) → user a ≡ true → a % 4 ≡ 0 → Agrees m (write_word m a v) (write_word n a v)
  unfolding write_word
  write_word-agrees a v u h =
      agrees-if (is_writable (place a)) m n _ _ (agrees-none m n same) (agrees-word m m n (place a) v (user-shared a u) (place-4 (is_mirrored a) a h) (agrees-none m n same))

  pub write_round-agrees : (a v : ℕ) → user a ≡ true → Agrees m (write_word m (round a) v) (write_word n (round a) v)
  unfolding write_word
  write_round-agrees a v u =
      agrees-if (is_writable (place (round a))) m n _ _ (agrees-none m n same)
      (agrees-word m m n (place (round a)) v (user-round a u) (place-4 (is_mirrored (round a)) (round a) (omega arith)) (agrees-none m n same))
