-- The heap's table in memory, while a routine changes it.
use Rattle.std.proofs.Common.{◌≡◌, ℕ, ◌+◌, ◌%◌, ◌^◌, ◌<◌, ◌≤◌, true, false, List, [], ◌∷◌, inl, inr, refl, ap, ◌∙◌, arith, ⊎_elim}
use Rattle.std.specs.Prelude.{◌⊎◌, nat_eq, nat_lt, if◌then◌else◌}
use Rattle.std.proofs.lemmas.Bool.{eq-eqb, lt-ltb}
use Rattle.psx_base.specs.Memory.{Memory, byte, word, put_word}
use Rattle.psx_base.specs.Addresses.{place}
use Rattle.psx_base.specs.KernelState.{KernelState}
use Rattle.psx_ram.specs.Apart.{apart}
use Rattle.psx_ram.proofs.Laws.{byte-put_word_apart}
use Rattle.psx_flow.proofs.Log.{Kernel, Nowhere, sort, sort_by, in_user, is_port, word_sort}
use Rattle.kern_layout.specs.Contexts.{saved}
use Rattle.kern_layout.specs.Stores.{put}
use Rattle.kern_layout.specs.HeapTable.{IsEntry, HeapAt}
use Rattle.kern_layout.specs.Valid.{Valid}
use Rattle.kern_layout.proofs.Blocks.{block_same, put_other}
use Rattle.kern_layout.proofs.ReadingsKept.{entry_place, heap_kept}
use Rattle.kern_layout.proofs.MemoryStored.{word_stored}
use Rattle.kern_layout.proofs.Written.{reads_heap}
use Rattle.abs_kernel.specs.Heap.{Blocks, with_blocks}
use Rattle.kern_stay.specs.Doors.{Holds}
use Rattle.kern_stay.proofs.Holding.{user_high}

-- ---- a word of the table, where a listing reaches it in the lowest segment

not_below : (p : ℕ) → 0xB000 ≤ p → nat_lt p 0xB000 ≡ false
not_below p h = grind arith

low_place : (p : ℕ) → p < 0x10000 → place p ≡ p
low_place p h = grind arith

low_sort : (p : ℕ) → p % 4 ≡ 0 → 0xB000 ≤ p → p < 0x10000 → word_sort p ≡ Kernel
low_sort p al low high =
    ap (λ b. if b then sort (place p) else Nowhere) (eq-eqb (p % 4) 0 al) ∙ ap sort (low_place p high) ∙ (λ i. sort_by (not_below p low i) (lt-ltb p 0x10000 high i) (in_user p) (is_port p))

-- o bytes behind x stands p
pub record At (x o p : ℕ) : Type 0 where
  pub here : (x + o) % 2 ^ 32 ≡ p
  pub sort : word_sort p ≡ Kernel
  pub place : place p ≡ p

pub at_entry : (e o p : ℕ) → IsEntry e → o < 12 → o % 4 ≡ 0 → p ≡ e + o → At e o p
at_entry e o p i lt al q =
    let t = entry_place e i in
    let a = t.0 in
    let b = t.1 in
    let d = t.2 in
    record { here = omega (arith, q, b, lt); sort = low_sort p (omega (arith, q, d, al)) (omega (arith, q, a)) (omega (arith, q, b, lt)); place = low_place p (omega (arith, q, b, lt)) }

-- ---- stores to the table and its two variables

abbrev pub IsPart : ℕ → Type 0
IsPart p = (p % 4 ≡ 0) × (((0xD000 ≤ p) × (p + 4 ≤ 0xE800)) ⊎ ((p ≡ 0xEA40) ⊎ (p ≡ 0xEA44)))

abbrev pub Puts : Type 0
Puts = List (ℕ × ℕ)

abbrev pub AreParts : Puts → Type 0
AreParts [] = Unit {0}
AreParts (p ∷ ps) = IsPart p.0 × AreParts ps

abbrev pub puts : Memory → Puts → Memory
puts n [] = n
puts n (p ∷ ps) = puts (put_word n p.0 p.1) ps

abbrev pub putted : (ℕ → ℕ) → Puts → ℕ → ℕ
putted f [] = f
putted f (p ∷ ps) = putted (put f p.0 p.1) ps

pub entry_part : (e o : ℕ) → IsEntry e → o < 12 → o % 4 ≡ 0 → IsPart (e + o)
entry_part e o i lt al = let t = entry_place e i in let a = t.0 in let b = t.1 in let d = t.2 in (omega (arith, d, al), inl (omega (arith, a), omega (arith, i.2, i.1, lt, al)))

pub link_part : (e : ℕ) → IsEntry e → IsPart e
link_part e i = let t = entry_place e i in let b = t.1 in (t.2, inl (t.0, omega (arith, b)))

-- outside of them
abbrev pub Out : ℕ → Type 0
Out a = (a < 0xD000) ⊎ (((0xE800 ≤ a) × (a < 0xEA40)) ⊎ (0xEA48 ≤ a))

part_other : (p a : ℕ) → IsPart p → Out a → (a < p) ⊎ (p + 4 ≤ a)
part_other p a i o = ⊎_elim (λ d. ⊎_elim (λ l. inl (omega (arith, l, d.0))) (λ r. ⊎_elim (λ g. inr (omega (arith, g.0, d.1))) (λ g. inr (omega (arith, g, d.1))) r) o)
    (λ v. ⊎_elim (λ e. ⊎_elim (λ l. inl (omega (arith, l, e))) (λ r. ⊎_elim (λ g. inl (omega (arith, g.1, e))) (λ g. inr (omega (arith, g, e))) r) o)
    (λ e. ⊎_elim (λ l. inl (omega (arith, l, e))) (λ r. ⊎_elim (λ g. inl (omega (arith, g.1, e))) (λ g. inr (omega (arith, g, e))) r) o) v) i.1

apart_out : (p a : ℕ) → (a < p) ⊎ (p + 4 ≤ a) → apart p 4 a 1 ≡ true
apart_out p a h = grind arith

pub puts_words : (ps : Puts) (n : Memory) (f : ℕ → ℕ) (a : ℕ) → AreParts ps → a % 4 ≡ 0 → ((b : ℕ) → b % 4 ≡ 0 → word n b ≡ f b) → word (puts n ps) a ≡ putted f ps a
puts_words [] n f a h al same = same a al
puts_words (p ∷ ps) n f a h al same = puts_words ps (put_word n p.0 p.1) (put f p.0 p.1) a h.1 al (λ b bl. word_stored n p.0 p.1 b h.0.0 bl ∙ (λ i. if nat_eq b p.0 then p.1 else same b bl i))

puts_out : (ps : Puts) (n : Memory) (a : ℕ) → AreParts ps → a % 4 ≡ 0 → Out a → word (puts n ps) a ≡ word n a
puts_out [] n a h al o = refl
puts_out (p ∷ ps) n a h al o =
    puts_out ps (put_word n p.0 p.1) a h.1 al o ∙ word_stored n p.0 p.1 a h.0.0 al ∙ put_other (word n) p.0 p.1 a (λ z. ⊎_elim (λ l. omega (arith, l, z)) (λ g. omega (arith, g, z)) (part_other p.0 a h.0 o))

puts_bytes : (ps : Puts) (n : Memory) (a : ℕ) → AreParts ps → Out a → byte (puts n ps) a ≡ byte n a
puts_bytes [] n a h o = refl
puts_bytes (p ∷ ps) n a h o = puts_bytes ps (put_word n p.0 p.1) a h.1 o ∙ byte-put_word_apart n p.0 p.1 a (apart_out p.0 a (part_other p.0 a h.0 o))

-- ---- the table has these blocks, and all else is as it was in m

pub record Table (s : KernelState) (m n : Memory) (bs : Blocks) : Type 0 where
  pub heap : HeapAt (word n) record s.heap { blocks = bs }
  pub words : (a : ℕ) → a % 4 ≡ 0 → Out a → word n a ≡ word m a
  pub bytes : (a : ℕ) → Out a → byte n a ≡ byte m a

pub table : (s : KernelState) (m : Memory) → Holds s m → Table s m m s.heap.blocks
table s m h = record { heap = h.reads.heap; words = λ a al o. refl; bytes = λ a o. refl }

pub table_put : (s : KernelState) (m n : Memory) (bs cs : Blocks) (ps : Puts) → Table s m n bs → AreParts ps → HeapAt (putted (word n) ps) record s.heap { blocks = cs } → Table s m (puts n ps) cs
table_put s m n bs cs ps t parts new =
    let same : (a : ℕ) → a % 4 ≡ 0 → word (puts n ps) a ≡ putted (word n) ps a = λ a al. puts_words ps n (word n) a parts al (λ b bl. refl) in
    record {
      heap = heap_kept (record s.heap { blocks = cs }) (putted (word n) ps) (word (puts n ps)) (λ a al lo up. same a al) (λ a al lo up. same a al) new;
      words = λ a al o. puts_out ps n a parts al o ∙ t.words a al o;
      bytes = λ a o. puts_bytes ps n a parts o ∙ t.bytes a o;
    }

-- memory stands for the state with these blocks
pub held : (s : KernelState) → Valid s → (m n : Memory) (bs : Blocks) → Holds s m → Table s m n bs → Holds (with_blocks s bs) n
held s valid m n bs h t = record {
  settled = h.settled;
  area = block_same (word m) (word n) 0xEB00 0 0x98 (saved s.running) refl refl (λ a al lo up. t.words a al (inr (inr (omega (arith, lo))))) h.area;
  reads =
      reads_heap s valid (word m) (word n) (byte m) (byte n) (λ a lo up. t.bytes a (inr (inl (omega (arith, lo), omega (arith, up))))) bs
      (λ a al lo up. t.words a al (inl up)) (λ a al lo up. t.words a al (inr (inl (lo, omega (arith, up))))) t.heap h.reads;
  user = λ a u. (let high = user_high a u in t.bytes a (inr (inr (omega (arith, high))))) ∙ h.user a u;
}
