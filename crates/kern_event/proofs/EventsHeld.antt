-- The events' blocks in memory, while the kernel runs.
use Rattle.std.proofs.Common.{◌≡◌, ℕ, ◌+◌, ◌-◌, ◌*◌, ◌%◌, ◌^◌, ◌<◌, ◌≤◌, ◌⊎◌, inl, inr, true, false, length, refl, ap, ◌∙◌, arith, ⊎_elim, eq-eqb, ne_eqb}
use Rattle.std.proofs.lemmas.List.{get_or_past}
use Rattle.psx_base.specs.Memory.{Memory, byte, word, put_word}
use Rattle.psx_base.specs.Addresses.{place}
use Rattle.psx_base.specs.KernelState.{Event, KernelState}
use Rattle.psx_ram.specs.Apart.{apart}
use Rattle.psx_ram.proofs.Laws.{byte-put_word_apart}
use Rattle.psx_flow.proofs.Log.{Kernel, word_sort}
use Rattle.kern_layout.specs.Fields.{Fields, Block}
use Rattle.kern_layout.specs.Contexts.{saved}
use Rattle.kern_layout.specs.Stores.{put, with_field, with_event}
use Rattle.kern_layout.specs.Reads.{event, event_at, event_fields, no_event}
use Rattle.kern_layout.specs.Valid.{Valid}
use Rattle.kern_layout.proofs.Blocks.{inside, block_same, block_put, put_other}
use Rattle.kern_layout.proofs.MemoryStored.{word_stored}
use Rattle.kern_layout.proofs.Written.{reads_event}
use Rattle.abs_kernel.specs.Events.{has_status, with_status}
use Rattle.kern_stay.specs.Doors.{Holds}
use Rattle.kern_stay.proofs.Copying.{data_place, data_sort}
use Rattle.kern_stay.proofs.Holding.{user_high}

-- ---- where an event's status stands, as the listings compute it

pub record At (i : ℕ) : Type 0 where
  pub here : (((i * 2 ^ 5 % 2 ^ 32 + 2 ^ 32 - i * 2 ^ 2 % 2 ^ 32) % 2 ^ 32 + 0x80010000) % 2 ^ 32 + 0xFFFFBC04) % 2 ^ 32 ≡ 0x80000000 + (event_at i + 4)
  pub sort : word_sort (0x80000000 + (event_at i + 4)) ≡ Kernel
  pub place : place (0x80000000 + (event_at i + 4)) ≡ event_at i + 4

pub at_event : (i : ℕ) → i < 64 → At i
at_event i lt = record { here = omega arith; sort = data_sort (event_at i + 4) (omega arith) (omega arith) (omega arith); place = data_place (event_at i + 4) (omega arith) }

-- a field of event i, from the block's address in a register on
pub record Field (i r o : ℕ) : Type 0 where
  pub here : (r + o) % 2 ^ 32 ≡ 0x80000000 + (event_at i + o)
  pub sort : word_sort (0x80000000 + (event_at i + o)) ≡ Kernel
  pub place : place (0x80000000 + (event_at i + o)) ≡ event_at i + o

pub field : (i : ℕ) → i < 64 → (r o : ℕ) → r ≡ 0x80000000 + event_at i → o % 4 ≡ 0 → o < 0x1C → Field i r o
field i lt r o e even low = record {
  here = omega (arith, e, lt, low);
  sort = data_sort (event_at i + o) (omega (arith, even)) (omega arith) (omega (arith, lt, low));
  place = data_place (event_at i + o) (omega (arith, lt, low));
}

pub status_is : (s : KernelState) (m : Memory) → Holds s m → (i : ℕ) → i < length s.events → word m (event_at i + 4) ≡ (event s i).status
status_is s m h i few = (h.reads.events i few).1.0

-- a number behind the table is that of a free event
pub status_past : (s : KernelState) (i : ℕ) → length s.events ≤ i → (event s i).status ≡ 0
status_past s i past = let e : event s i ≡ no_event = get_or_past s.events i no_event past in ap (λ (e : Event). e.status) e

pub is_so : (s : KernelState) (i v : ℕ) → (event s i).status ≡ v → has_status s i v ≡ true
is_so s i v e = eq-eqb (event s i).status v e

pub isnt_so : (s : KernelState) (i v : ℕ) → ((event s i).status ≡ v → ⊥) → has_status s i v ≡ false
isnt_so s i v ne = ne_eqb (event s i).status v ne

-- ---- stores to a block's fields

-- the block at p has these fields, and all else is as before
pub record Written (m x : Memory) (p : ℕ) (f : Fields) : Type 0 where
  pub block : Block (word x) p f
  pub words : (a : ℕ) → a % 4 ≡ 0 → (a < p) ⊎ (p + 0x1C ≤ a) → word x a ≡ word m a
  pub bytes : (a : ℕ) → (a < p) ⊎ (p + 0x1C ≤ a) → byte x a ≡ byte m a

pub unwritten : (m : Memory) (p : ℕ) (f : Fields) → Block (word m) p f → Written m m p f
unwritten m p f b = record { block = b; words = λ a al out. refl; bytes = λ a out. refl }

apart_out : (p a : ℕ) → (a < p) ⊎ (p + 4 ≤ a) → apart p 4 a 1 ≡ true
apart_out p a h = grind arith

pub written : (m x : Memory) (p o v : ℕ) (f : Fields) → p % 4 ≡ 0 → o % 4 ≡ 0 → o + 4 ≤ 0x1C → inside 0 0x1C (with_field f o v) ≡ true → Written m x p f → Written m (put_word x (p + o) v) p (with_field f o v)
written m x p o v f ap_ ao low fi w =
    let al : (p + o) % 4 ≡ 0 = omega (arith, ap_, ao) in
    record {
      block = block_same (put (word x) (p + o) v) (word (put_word x (p + o) v)) p 0 0x1C (with_field f o v) ap_ fi (λ a aa lo up. word_stored x (p + o) v a al aa) (block_put (word x) p o v f w.block);
      words = λ a aa out. word_stored x (p + o) v a al aa ∙ put_other (word x) (p + o) v a (λ e. ⊎_elim (λ l. omega (arith, e, l)) (λ g. omega (arith, e, g, low)) out) ∙ w.words a aa out;
      bytes = λ a out. byte-put_word_apart x (p + o) v a (apart_out (p + o) a (⊎_elim (λ l. inl (omega (arith, l))) (λ g. inr (omega (arith, g, low))) out)) ∙ w.bytes a out;
    }

pub holds_written : (s : KernelState) → Valid s → (m x : Memory) → Holds s m → (i : ℕ) (e : Event) → i < length s.events → Written m x (event_at i) (event_fields i e) → Holds (with_event s i e) x
holds_written s valid m x h i e few w =
    let high : event_at i + 0x1C ≤ 0xC300 = omega (arith, few, valid.events_most) in
    record {
      settled = h.settled;
      area = block_same (word m) (word x) 0xEB00 0 0x98 (saved s.running) refl refl (λ a al lo up. w.words a al (inr (omega (arith, lo, high)))) h.area;
      reads = reads_event s valid (word m) (word x) (byte m) (byte x) (λ a lo up. w.bytes a (inr (omega (arith, lo, high)))) i e few w.words w.block h.reads;
      user = λ a u. (let far = user_high a u in w.bytes a (inr (omega (arith, far, high)))) ∙ h.user a u;
    }

-- a status is stored
pub holds_status : (s : KernelState) → Valid s → (m : Memory) → Holds s m → (i v : ℕ) → i < length s.events → Holds (with_status s i v) (put_word m (event_at i + 4) v)
holds_status s valid m h i v few =
    holds_written s valid m (put_word m (event_at i + 4) v) h i (record (event s i) { status = v }) few
    (written m m (event_at i) 4 v (event_fields i (event s i)) (omega arith) refl (omega arith) refl (unwritten m (event_at i) (event_fields i (event s i)) (h.reads.events i few)))
