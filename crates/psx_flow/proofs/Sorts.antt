-- What the sort of an address tells of a load or store there.
use Rattle.std.proofs.Common.{◌≡◌, ℕ, ◌+◌, ◌%◌, ◌<◌, ◌≤◌, Bool, true, false, refl, sym, ap, arith, ⊎_elim}
use Rattle.std.specs.Prelude.{nat_eq, ◌&&◌, if◌then◌else◌}
use Rattle.std.proofs.lemmas.Bool.{eqb-true}
use Rattle.psx_base.specs.Memory.{Memory, byte, word, put_byte, put_word, is_mapped, is_writable}
use Rattle.psx_base.specs.Addresses.{place}
use Rattle.psx_base.specs.PortAddresses.{port}
use Rattle.psx_cpu.specs.DataAccess.{read_word, load_word, read_byte, write_word, write_byte}
use Rattle.psx_flow.specs.Run.{Load, Store, PortRead, PortWrite, word_load, word_store, spares_byte, spares_word}
use Rattle.psx_flow.specs.Kernel.{kernel_words}
use Rattle.psx_flow.proofs.Log.{Sort, Nowhere, User, sort, word_sort, user_in, low_port}

pub aligned_of : (a : ℕ) (S : Sort) → word_sort a ≡ S → (S ≡ Nowhere → ⊥) → (a % 4 ≡ 0) × (sort (place a) ≡ S)
aligned_of a S e n = go (nat_eq (a % 4) 0) refl e
  where
    go : (b : Bool) → nat_eq (a % 4) 0 ≡ b → (if b then sort (place a) else Nowhere) ≡ S → (a % 4 ≡ 0) × (sort (place a) ≡ S)
    go true f g = (eqb-true (a % 4) 0 f, g)
    go false f g = absurd (n (sym g))

pub place_aligned : (a : ℕ) → a % 4 ≡ 0 → place a % 4 ≡ 0
place_aligned a h = grind arith

pub low_mapped : (p n : ℕ) → p + n ≤ 0x10000 → is_mapped p n ≡ true
low_mapped p n h = grind arith

pub low_writable : (p : ℕ) → p < 0x10000 → is_writable p ≡ true
low_writable p h = grind arith

pub user_port : (p : ℕ) → sort p ≡ User → port p ≡ false
user_port p h = ⊎_elim (λ e. low_port p (omega (arith, e))) (λ e. low_port p (omega (arith, e))) (user_in p h)

pub mapped_main : (p n : ℕ) → p + n ≤ 0x200000 → is_mapped p n ≡ true
mapped_main p n h = grind arith

pub mapped_pad : (p n : ℕ) → 0x1F800000 ≤ p → p + n ≤ 0x1F800400 → is_mapped p n ≡ true
mapped_pad p n h g = grind arith

pub user_mapped : (p : ℕ) → sort p ≡ User → is_mapped p 1 ≡ true
user_mapped p h = ⊎_elim (λ e. mapped_main p 1 (omega (arith, e))) (λ e. mapped_pad p 1 e.0 (omega (arith, e))) (user_in p h)

pub user_mapped_4 : (p : ℕ) → p % 4 ≡ 0 → sort p ≡ User → is_mapped p 4 ≡ true
user_mapped_4 p even h = ⊎_elim (λ e. mapped_main p 4 (omega (arith, e, even))) (λ e. mapped_pad p 4 e.0 (omega (arith, e, even))) (user_in p h)

pub writable_main : (p : ℕ) → p < 0x200000 → is_writable p ≡ true
writable_main p h = grind arith

pub writable_pad : (p : ℕ) → 0x1F800000 ≤ p → p < 0x1F800400 → is_writable p ≡ true
writable_pad p h g = grind arith

pub user_writable : (p : ℕ) → sort p ≡ User → is_writable p ≡ true
user_writable p h = ⊎_elim (λ e. writable_main p e.1) (λ e. writable_pad p e.0 e.1) (user_in p h)

pub user_above : (p : ℕ) → sort p ≡ User → 0x10000 ≤ p
user_above p h = ⊎_elim (λ e. e.0) (λ e. omega (arith, e)) (user_in p h)

pub word_above : (a : ℕ) → word_sort a ≡ User → 0x10000 ≤ place a
word_above a e = user_above (place a) (aligned_of a User e (λ x. cc)).1

pub port_writable : (p : ℕ) → (0x1F801000 ≤ p) × (p < 0x1F803000) → is_writable p ≡ false
port_writable p h = grind arith

pub above_byte : (p : ℕ) → 0xB000 ≤ p → spares_byte kernel_words p ≡ true
above_byte p h = grind arith

pub both_true : (a b : Bool) → a ≡ true → b ≡ true → (a && b) ≡ true
both_true a b h g = λ i. h i && g i

pub above_word : (p : ℕ) → 0xB000 ≤ p → spares_word kernel_words p ≡ true
above_word p h =
    both_true _ _ (both_true _ _ (above_byte p h) (above_byte (p + 1) (omega arith)))
    (both_true _ _ (above_byte (p + 2) (omega arith)) (above_byte (p + 2 + 1) (omega arith)))

pub word_from : (m : Memory) (a v : ℕ) → port (place a) ≡ false → is_mapped (place a) 4 ≡ true → word m (place a) ≡ load_word m a v
unfolding load_word read_word
word_from m a v e f = rw (e, f) refl

pub port_from : (m : Memory) (a v : ℕ) → port (place a) ≡ true → v ≡ load_word m a v
unfolding load_word
port_from m a v e = rw e refl

pub byte_from : (m : Memory) (a : ℕ) → is_mapped (place a) 1 ≡ true → byte m (place a) ≡ read_byte m a
unfolding read_byte
byte_from m a f = rw f refl

pub word_into : (m : Memory) (a v : ℕ) → is_writable (place a) ≡ true → put_word m (place a) v ≡ write_word m a v
unfolding write_word
word_into m a v e = rw e refl

pub port_into : (m : Memory) (a v : ℕ) → is_writable (place a) ≡ false → m ≡ write_word m a v
unfolding write_word
port_into m a v e = rw e refl

pub byte_into : (m : Memory) (a v : ℕ) → is_writable (place a) ≡ true → put_byte m (place a) v ≡ write_byte m a v
unfolding write_byte
byte_into m a v e = rw e refl

pub plain_load : (a v : ℕ) → port (place a) ≡ false → Load 4 (place a) v ≡ word_load a v
plain_load a v e = sym (ap (λ b. if b then PortRead (place a) v else Load 4 (place a) v) e)

pub port_load : (a v : ℕ) → port (place a) ≡ true → PortRead (place a) v ≡ word_load a v
port_load a v e = sym (ap (λ b. if b then PortRead (place a) v else Load 4 (place a) v) e)

pub plain_store : (a v : ℕ) → port (place a) ≡ false → Store 4 (place a) v ≡ word_store a v
plain_store a v e = sym (ap (λ b. if b then PortWrite (place a) v else Store 4 (place a) v) e)

pub port_store : (a v : ℕ) → port (place a) ≡ true → PortWrite (place a) v ≡ word_store a v
port_store a v e = sym (ap (λ b. if b then PortWrite (place a) v else Store 4 (place a) v) e)
