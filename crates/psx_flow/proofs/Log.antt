-- The memory of a straight run as the memory at its start and a log of stores: what is read back computes.
-- A store to user memory never hides a word of the kernel's data, nor the other way round.
use Rattle.std.proofs.Common.{◌≡◌, ℕ, ◌+◌, ◌%◌, ◌<◌, ◌≤◌, ◌⊎◌, List, [], ◌∷◌, Bool, true, false, refl, sym, ap, ◌∙◌, subst, arith}
use Rattle.std.specs.Prelude.{nat_eq, nat_lt, nat_le, ◌&&◌, ◌||◌, if◌then◌else◌}
use Rattle.std.proofs.lemmas.Bool.{eqb-true, ltb-true}
use Rattle.psx_base.specs.Memory.{Memory, byte, word, put_byte, put_word}
use Rattle.psx_ram.specs.Apart.{apart}
use Rattle.psx_ram.proofs.Laws.{byte-put_byte_apart, byte-put_byte_same, byte-put_word_apart, word-put_word_apart, word-put_word_same, word-put_byte_apart}
use Rattle.psx_base.specs.declared.ports.TheConstants.{I_STAT, I_MASK, CONSOLE_STATUS, START_EVENTS}
use Rattle.psx_base.specs.Addresses.{place}
use Rattle.psx_base.specs.PortAddresses.{port, counter_port}

-- where an address lies
pub data Sort : Type 0 where
  Nowhere : Sort
  Code : Sort
  Kernel : Sort
  User : Sort
  Port : Sort

abbrev pub in_user : ℕ → Bool
in_user p = nat_lt p 0x200000 || (nat_le 0x1F800000 p && nat_lt p 0x1F800400)

-- a port, so that it computes
abbrev pub is_port : ℕ → Bool
is_port p = (nat_eq p I_STAT || nat_eq p I_MASK) || (counter_port p || ((nat_le CONSOLE_STATUS p && nat_le p START_EVENTS) && nat_eq (p % 4) 0))

pub port_is : (p : ℕ) → port p ≡ is_port p
unfolding port
port_is p = refl

abbrev pub sort_by : (code kernel user port : Bool) → Sort
sort_by true k u p = Code
sort_by false true u p = Kernel
sort_by false false true p = User
sort_by false false false true = Port
sort_by false false false false = Nowhere

abbrev pub sort : ℕ → Sort
sort p = sort_by (nat_lt p 0xB000) (nat_lt p 0x10000) (in_user p) (is_port p)

-- of the virtual address of a word, and of a byte
abbrev pub word_sort : ℕ → Sort
word_sort a = if nat_eq (a % 4) 0 then sort (place a) else Nowhere

abbrev pub byte_sort : ℕ → Sort
byte_sort a = sort (place a)

pub data Entry : Type 0 where
  KernelWord : (p v : ℕ) → Entry
  KernelByte : (p v : ℕ) → Entry
  UserWord : (p v : ℕ) → Entry
  UserByte : (p v : ℕ) → Entry

-- the newest store first
abbrev pub applied : Memory → List Entry → Memory
applied m [] = m
applied m (KernelWord p v ∷ w) = put_word (applied m w) p v
applied m (KernelByte p v ∷ w) = put_byte (applied m w) p v
applied m (UserWord p v ∷ w) = put_word (applied m w) p v
applied m (UserByte p v ∷ w) = put_byte (applied m w) p v

-- the entries lie on their sides
abbrev pub Sorted : List Entry → Type 0
Sorted [] = Unit {0}
Sorted (KernelWord p v ∷ w) = (p + 4 ≤ 0x10000) × Sorted w
Sorted (KernelByte p v ∷ w) = (p < 0x10000) × Sorted w
Sorted (UserWord p v ∷ w) = (0x10000 ≤ p) × Sorted w
Sorted (UserByte p v ∷ w) = (0x10000 ≤ p) × Sorted w

-- ---- what is read, handed on

-- one of two goals; the other isn't computed
abbrev pub choose : Bool → (Unit {0} → Type 0) → (Unit {0} → Type 0) → Type 0
choose true f g = f tt
choose false f g = g tt

abbrev pub kernel_word_then : Memory → List Entry → ℕ → (ℕ → Type 0) → Type 0
kernel_word_then m [] p k = k (word m p)
kernel_word_then m (KernelWord b v ∷ w) p k =
    choose (nat_eq b p) (λ _. k v) (λ _. choose (apart b 4 p 4) (λ _. kernel_word_then m w p k) (λ _. k (word (put_word (applied m w) b v) p)))
kernel_word_then m (KernelByte b v ∷ w) p k = choose (apart b 1 p 4) (λ _. kernel_word_then m w p k) (λ _. k (word (put_byte (applied m w) b v) p))
kernel_word_then m (UserWord b v ∷ w) p k = kernel_word_then m w p k
kernel_word_then m (UserByte b v ∷ w) p k = kernel_word_then m w p k

abbrev pub kernel_byte_then : Memory → List Entry → ℕ → (ℕ → Type 0) → Type 0
kernel_byte_then m [] p k = k (byte m p)
kernel_byte_then m (KernelWord b v ∷ w) p k = choose (apart b 4 p 1) (λ _. kernel_byte_then m w p k) (λ _. k (byte (put_word (applied m w) b v) p))
kernel_byte_then m (KernelByte b v ∷ w) p k =
    choose (nat_eq b p) (λ _. k v) (λ _. choose (apart b 1 p 1) (λ _. kernel_byte_then m w p k) (λ _. k (byte (put_byte (applied m w) b v) p)))
kernel_byte_then m (UserWord b v ∷ w) p k = kernel_byte_then m w p k
kernel_byte_then m (UserByte b v ∷ w) p k = kernel_byte_then m w p k

abbrev pub user_word_then : Memory → List Entry → ℕ → (ℕ → Type 0) → Type 0
user_word_then m [] p k = k (word m p)
user_word_then m (KernelWord b v ∷ w) p k = user_word_then m w p k
user_word_then m (KernelByte b v ∷ w) p k = user_word_then m w p k
user_word_then m (UserWord b v ∷ w) p k = k (word (put_word (applied m w) b v) p)
user_word_then m (UserByte b v ∷ w) p k = k (word (put_byte (applied m w) b v) p)

abbrev pub user_byte_then : Memory → List Entry → ℕ → (ℕ → Type 0) → Type 0
user_byte_then m [] p k = k (byte m p)
user_byte_then m (KernelWord b v ∷ w) p k = user_byte_then m w p k
user_byte_then m (KernelByte b v ∷ w) p k = user_byte_then m w p k
user_byte_then m (UserWord b v ∷ w) p k = k (byte (put_word (applied m w) b v) p)
user_byte_then m (UserByte b v ∷ w) p k = k (byte (put_byte (applied m w) b v) p)

apart_below : (a n b k : ℕ) → a + n ≤ b → apart a n b k ≡ true
apart_below a n b k h = grind arith

apart_above : (a n b k : ℕ) → b + k ≤ a → apart a n b k ≡ true
apart_above a n b k h = grind arith

pub kernel_word_is : (m : Memory) (w : List Entry) (p : ℕ) (k : ℕ → Type 0) → Sorted w → p + 4 ≤ 0x10000 → kernel_word_then m w p k → k (word (applied m w) p)
kernel_word_is m [] p k ok low h = h
kernel_word_is m (KernelWord b v ∷ w) p k ok low h = go (nat_eq b p) refl (apart b 4 p 4) refl h (kernel_word_is m w p k ok.1 low)
  where
    go : (s : Bool) → nat_eq b p ≡ s → (t : Bool) → apart b 4 p 4 ≡ t
        → choose s (λ _. k v) (λ _. choose t (λ _. kernel_word_then m w p k) (λ _. k (word (put_word (applied m w) b v) p)))
        → (kernel_word_then m w p k → k (word (applied m w) p)) → k (word (put_word (applied m w) b v) p)
    go true e t f g ih = subst k (sym (word-put_word_same (applied m w) b v) ∙ ap (word (put_word (applied m w) b v)) (eqb-true b p e)) g
    go false e true f g ih = subst k (sym (word-put_word_apart (applied m w) b v p f)) (ih g)
    go false e false f g ih = g
kernel_word_is m (KernelByte b v ∷ w) p k ok low h = go (apart b 1 p 4) refl h (kernel_word_is m w p k ok.1 low)
  where
    go : (t : Bool) → apart b 1 p 4 ≡ t → choose t (λ _. kernel_word_then m w p k) (λ _. k (word (put_byte (applied m w) b v) p))
        → (kernel_word_then m w p k → k (word (applied m w) p)) → k (word (put_byte (applied m w) b v) p)
    go true f g ih = subst k (sym (word-put_byte_apart (applied m w) b v p f)) (ih g)
    go false f g ih = g
kernel_word_is m (UserWord b v ∷ w) p k ok low h =
    subst k (sym (word-put_word_apart (applied m w) b v p (apart_above b 4 p 4 (omega arith)))) (kernel_word_is m w p k ok.1 low h)
kernel_word_is m (UserByte b v ∷ w) p k ok low h =
    subst k (sym (word-put_byte_apart (applied m w) b v p (apart_above b 1 p 4 (omega arith)))) (kernel_word_is m w p k ok.1 low h)

pub kernel_byte_is : (m : Memory) (w : List Entry) (p : ℕ) (k : ℕ → Type 0) → Sorted w → p < 0x10000 → kernel_byte_then m w p k → k (byte (applied m w) p)
kernel_byte_is m [] p k ok low h = h
kernel_byte_is m (KernelWord b v ∷ w) p k ok low h = go (apart b 4 p 1) refl h (kernel_byte_is m w p k ok.1 low)
  where
    go : (t : Bool) → apart b 4 p 1 ≡ t → choose t (λ _. kernel_byte_then m w p k) (λ _. k (byte (put_word (applied m w) b v) p))
        → (kernel_byte_then m w p k → k (byte (applied m w) p)) → k (byte (put_word (applied m w) b v) p)
    go true f g ih = subst k (sym (byte-put_word_apart (applied m w) b v p f)) (ih g)
    go false f g ih = g
kernel_byte_is m (KernelByte b v ∷ w) p k ok low h = go (nat_eq b p) refl (apart b 1 p 1) refl h (kernel_byte_is m w p k ok.1 low)
  where
    go : (s : Bool) → nat_eq b p ≡ s → (t : Bool) → apart b 1 p 1 ≡ t
        → choose s (λ _. k v) (λ _. choose t (λ _. kernel_byte_then m w p k) (λ _. k (byte (put_byte (applied m w) b v) p)))
        → (kernel_byte_then m w p k → k (byte (applied m w) p)) → k (byte (put_byte (applied m w) b v) p)
    go true e t f g ih = subst k (sym (byte-put_byte_same (applied m w) b v) ∙ ap (byte (put_byte (applied m w) b v)) (eqb-true b p e)) g
    go false e true f g ih = subst k (sym (byte-put_byte_apart (applied m w) b v p (apart_ne b p f))) (ih g)
      where
        apart_ne : (b p : ℕ) → apart b 1 p 1 ≡ true → p ≡ b → ⊥
        apart_ne b p f e = absurd (grind arith)
    go false e false f g ih = g
kernel_byte_is m (UserWord b v ∷ w) p k ok low h =
    subst k (sym (byte-put_word_apart (applied m w) b v p (apart_above b 4 p 1 (omega arith)))) (kernel_byte_is m w p k ok.1 low h)
kernel_byte_is m (UserByte b v ∷ w) p k ok low h =
    subst k (sym (byte-put_byte_apart (applied m w) b v p (λ e. absurd (omega (arith, ok.0))))) (kernel_byte_is m w p k ok.1 low h)

pub user_word_is : (m : Memory) (w : List Entry) (p : ℕ) (k : ℕ → Type 0) → Sorted w → 0x10000 ≤ p → user_word_then m w p k → k (word (applied m w) p)
user_word_is m [] p k ok low h = h
user_word_is m (KernelWord b v ∷ w) p k ok low h =
    subst k (sym (word-put_word_apart (applied m w) b v p (apart_below b 4 p 4 (omega (arith, ok.0))))) (user_word_is m w p k ok.1 low h)
user_word_is m (KernelByte b v ∷ w) p k ok low h =
    subst k (sym (word-put_byte_apart (applied m w) b v p (apart_below b 1 p 4 (omega (arith, ok.0))))) (user_word_is m w p k ok.1 low h)
user_word_is m (UserWord b v ∷ w) p k ok low h = h
user_word_is m (UserByte b v ∷ w) p k ok low h = h

pub user_byte_is : (m : Memory) (w : List Entry) (p : ℕ) (k : ℕ → Type 0) → Sorted w → 0x10000 ≤ p → user_byte_then m w p k → k (byte (applied m w) p)
user_byte_is m [] p k ok low h = h
user_byte_is m (KernelWord b v ∷ w) p k ok low h =
    subst k (sym (byte-put_word_apart (applied m w) b v p (apart_below b 4 p 1 (omega (arith, ok.0))))) (user_byte_is m w p k ok.1 low h)
user_byte_is m (KernelByte b v ∷ w) p k ok low h =
    subst k (sym (byte-put_byte_apart (applied m w) b v p (λ e. absurd (omega (arith, ok.0))))) (user_byte_is m w p k ok.1 low h)
user_byte_is m (UserWord b v ∷ w) p k ok low h = h
user_byte_is m (UserByte b v ∷ w) p k ok low h = h

pub user_byte_mono : (m : Memory) (w : List Entry) (p : ℕ) (j k : ℕ → Type 0) → ((x : ℕ) → j x → k x) → user_byte_then m w p j → user_byte_then m w p k
user_byte_mono m [] p j k f h = f _ h
user_byte_mono m (KernelWord b v ∷ w) p j k f h = user_byte_mono m w p j k f h
user_byte_mono m (KernelByte b v ∷ w) p j k f h = user_byte_mono m w p j k f h
user_byte_mono m (UserWord b v ∷ w) p j k f h = f _ h
user_byte_mono m (UserByte b v ∷ w) p j k f h = f _ h

pub user_word_mono : (m : Memory) (w : List Entry) (p : ℕ) (j k : ℕ → Type 0) → ((x : ℕ) → j x → k x) → user_word_then m w p j → user_word_then m w p k
user_word_mono m [] p j k f h = f _ h
user_word_mono m (KernelWord b v ∷ w) p j k f h = user_word_mono m w p j k f h
user_word_mono m (KernelByte b v ∷ w) p j k f h = user_word_mono m w p j k f h
user_word_mono m (UserWord b v ∷ w) p j k f h = f _ h
user_word_mono m (UserByte b v ∷ w) p j k f h = f _ h

-- ---- what a sort tells

by_code : (c k u p : Bool) → sort_by c k u p ≡ Code → c ≡ true
by_code true k u p h = refl
by_code false true u p h = absurd cc
by_code false false true p h = absurd cc
by_code false false false true h = absurd cc
by_code false false false false h = absurd cc

by_kernel : (c k u p : Bool) → sort_by c k u p ≡ Kernel → (c ≡ false) × (k ≡ true)
by_kernel true k u p h = absurd cc
by_kernel false true u p h = (refl, refl)
by_kernel false false true p h = absurd cc
by_kernel false false false true h = absurd cc
by_kernel false false false false h = absurd cc

by_user : (c k u p : Bool) → sort_by c k u p ≡ User → (k ≡ false) × (u ≡ true)
by_user true k u p h = absurd cc
by_user false true u p h = absurd cc
by_user false false true p h = (refl, refl)
by_user false false false true h = absurd cc
by_user false false false false h = absurd cc

by_port : (c k u p : Bool) → sort_by c k u p ≡ Port → p ≡ true
by_port true k u p h = absurd cc
by_port false true u p h = absurd cc
by_port false false true p h = absurd cc
by_port false false false true h = refl
by_port false false false false h = absurd cc

pub code_low : (p : ℕ) → sort p ≡ Code → p < 0xB000
code_low p h = ltb-true _ _ (by_code (nat_lt p 0xB000) (nat_lt p 0x10000) (in_user p) (is_port p) h)

from_false : (a b : ℕ) → nat_lt a b ≡ false → b ≤ a
from_false a b h = grind arith

pub kernel_low : (p : ℕ) → sort p ≡ Kernel → (0xB000 ≤ p) × (p < 0x10000)
kernel_low p h =
    let k = by_kernel (nat_lt p 0xB000) (nat_lt p 0x10000) (in_user p) (is_port p) h in
    (from_false p 0xB000 k.0, ltb-true _ _ k.1)

user_ranges : (p : ℕ) → 0x10000 ≤ p → in_user p ≡ true → ((0x10000 ≤ p) × (p < 0x200000)) ⊎ ((0x1F800000 ≤ p) × (p < 0x1F800400))
user_ranges p h g = grind arith

pub user_in : (p : ℕ) → sort p ≡ User → ((0x10000 ≤ p) × (p < 0x200000)) ⊎ ((0x1F800000 ≤ p) × (p < 0x1F800400))
user_in p h =
    let k = by_user (nat_lt p 0xB000) (nat_lt p 0x10000) (in_user p) (is_port p) h in
    user_ranges p (from_false p 0x10000 k.0) k.1

port_range : (p : ℕ) → is_port p ≡ true → (0x1F801000 ≤ p) × (p < 0x1F803000)
port_range p h = grind arith

pub port_in : (p : ℕ) → sort p ≡ Port → (0x1F801000 ≤ p) × (p < 0x1F803000)
port_in p h = port_range p (by_port (nat_lt p 0xB000) (nat_lt p 0x10000) (in_user p) (is_port p) h)

pub port_true : (p : ℕ) → sort p ≡ Port → port p ≡ true
port_true p h = port_is p ∙ by_port (nat_lt p 0xB000) (nat_lt p 0x10000) (in_user p) (is_port p) h

low_is : (p : ℕ) → p < 0x1F801000 → is_port p ≡ false
low_is p h = grind arith

pub low_port : (p : ℕ) → p < 0x1F801000 → port p ≡ false
low_port p h = port_is p ∙ low_is p h
