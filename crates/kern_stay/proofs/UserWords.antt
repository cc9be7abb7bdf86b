-- Words of user memory: what a store makes of the state, what a load reads, and how a stay goes on by them.
use Rattle.std.proofs.Common.{◌≡◌, ℕ, ◌+◌, ◌*◌, ◌%◌, ◌^◌, ◌<◌, ◌≤◌, Bool, true, false, refl, sym, ap, ◌∙◌, subst, arith, ⊎_elim}
use Rattle.std.specs.Prelude.{nat_eq, ◌&&◌, ◌||◌, if◌then◌else◌}
use Rattle.std.proofs.lemmas.Bool.{cases_eq, and_parts, eqb-true}
use Rattle.psx_base.specs.Memory.{Memory, byte, word, put_byte, put_word}
use Rattle.psx_base.specs.Addresses.{place, user, user_main, scratchpad}
use Rattle.psx_base.specs.KernelState.{KernelState}
use Rattle.psx_ram.specs.Apart.{apart}
use Rattle.psx_ram.proofs.Laws.{byte-put_byte_apart, byte-put_byte_same, byte-put_word_apart, word-put_word_apart}
use Rattle.psx_flow.proofs.Accesses.{good_word}
use Rattle.psx_flow.proofs.Sorts.{place_aligned}
use Rattle.kern_layout.specs.Contexts.{saved}
use Rattle.kern_layout.specs.Valid.{Valid}
use Rattle.kern_layout.proofs.Blocks.{block_same}
use Rattle.kern_layout.proofs.Written.{reads_free}
use Rattle.abs_kernel.specs.Stay.{Stay}
use Rattle.abs_kernel.specs.UserBytes.{bad_pointer}
use Rattle.abs_kernel.specs.UserWords.{user_word, with_word, reads_word, writes_word}
use Rattle.kern_stay.specs.Doors.{Holds, Ends}
use Rattle.kern_stay.proofs.Holding.{place_high}
use Rattle.kern_stay.proofs.Ending.{Left, user_place}

-- ---- what the listings of `tested` ask of a word's address is what the definitions ask

swapped : (a b : Bool) → (a && b) ≡ (b && a)
swapped true true = refl
swapped true false = refl
swapped false true = refl
swapped false false = refl

pub good_is : (at : ℕ) → good_word at ≡ user_word at
good_is at = swapped (user at) (nat_eq (at % 4) 0)

pub word_of_user : (at : ℕ) → user_word at ≡ true → (at % 4 ≡ 0) × (user at ≡ true)
word_of_user at u = let b = and_parts (nat_eq (at % 4) 0) (user at) u in (eqb-true (at % 4) 0 b.0, b.1)

-- ---- a store

put_byte_agrees : (m n : Memory) (p v a : ℕ) → byte m a ≡ byte n a → byte (put_byte m p v) a ≡ byte (put_byte n p v) a
put_byte_agrees m n p v a h =
    ⊎_elim
    (λ (e : a ≡ p). subst (λ x. byte (put_byte m p v) x ≡ byte (put_byte n p v) x) (sym e) (byte-put_byte_same m p v ∙ sym (byte-put_byte_same n p v)))
    (λ (ne : a ≡ p → ⊥). byte-put_byte_apart m p v a ne ∙ h ∙ sym (byte-put_byte_apart n p v a ne))
    (cases_eq a p)

-- two memories that agree on a byte agree on it behind the same store
put_word_agrees : (m n : Memory) (p v a : ℕ) → byte m a ≡ byte n a → byte (put_word m p v) a ≡ byte (put_word n p v) a
unfolding put_word
put_word_agrees m n p v a h = put_byte_agrees _ _ (p + 3) _ a (put_byte_agrees _ _ (p + 2) _ a (put_byte_agrees _ _ (p + 1) _ a (put_byte_agrees m n p _ a h)))

apart_below : (p n a : ℕ) → 0x10000 ≤ p → a + n ≤ 0x10000 → apart p 4 a n ≡ true
apart_below p n a h g = grind arith

pub holds_word : (s : KernelState) → Valid s → (m : Memory) → Holds s m → (at v : ℕ) → user at ≡ true → Holds (with_word s at v) (put_word m (place at) v)
holds_word s valid m h at v u =
    let p : ℕ = place at in
    let high : 0x10000 ≤ p = place_high at u in
    let n : Memory = put_word m p v in
    let words : (a : ℕ) → a + 4 ≤ 0x10000 → word n a ≡ word m a = λ a up. word-put_word_apart m p v a (apart_below p 4 a high up) in
    let r = reads_free s valid (word m) (word n) (byte m) (byte n) (λ a lo up. byte-put_word_apart m p v a (apart_below p 1 a high (omega (arith, up))))
    (λ a ala lo up. words a (omega (arith, ala, up, valid.frames_most))) (λ a ala lo up. words a (omega (arith, up))) (λ a ala lo up. words a (omega (arith, up))) h.reads in
    record {
      settled = h.settled;
      area = block_same (word m) (word n) 0xEB00 0 0x98 (saved s.running) refl refl (λ a ala lo up. words a (omega (arith, up))) h.area;
      reads = record { threads = r.threads; events = r.events; frames = r.frames; chains = r.chains; heap = r.heap; files = r.files; line = r.line; variables = r.variables };
      user = λ a g. put_word_agrees m s.memory p v a (h.user a g);
    }

-- ---- a load

-- the bytes of a word of user memory are user memory
in_word : (p i : ℕ) → p % 4 ≡ 0 → i < 4 → (user_main p || scratchpad p) ≡ true → (user_main (p + i) || scratchpad (p + i)) ≡ true
in_word p i al few h = grind arith

pub word_is : (s : KernelState) (m : Memory) → Holds s m → (at : ℕ) → user_word at ≡ true → word m (place at) ≡ word s.memory (place at)
unfolding word
word_is s m h at u =
    let w = word_of_user at u in
    let p : ℕ = place at in
    let same : (i : ℕ) → i < 4 → byte m (p + i) ≡ byte s.memory (p + i) = λ i few. h.user (p + i) (in_word p i (place_aligned at w.0) few (user_place at w.1)) in
    let first : byte m p ≡ byte s.memory p = h.user p (user_place at w.1) in
    λ j. first j + same 1 (omega arith) j * 2 ^ 8 + same 2 (omega arith) j * 2 ^ 16 + same 3 (omega arith) j * 2 ^ 24

-- ---- how a stay goes on

pub left_word_read : {flat : ℕ} (stay : Stay) (s : KernelState) (at : ℕ) (next : ℕ → Stay) (most : ℕ)
    → user_word at ≡ true → Left flat stay (reads_word s at next) most → Left flat stay (next (word s.memory (place at))) (most + 512)
left_word_read stay s at next most u l =
    let is : (if user_word at then next (word s.memory (place at)) else bad_pointer s at) ≡ next (word s.memory (place at))
    = ap (λ b. if b then next (word s.memory (place at)) else bad_pointer s at) u in
    record { enough = λ to e h. l.enough to e (subst (λ x. Ends 128 x (most + 512) to e) (sym is) h) }

pub left_word_unread : {flat : ℕ} (stay : Stay) (s : KernelState) (at : ℕ) (next : ℕ → Stay) (most : ℕ)
    → user_word at ≡ false → Left flat stay (reads_word s at next) most → Left flat stay (bad_pointer s at) (most + 512)
left_word_unread stay s at next most u l =
    let is : (if user_word at then next (word s.memory (place at)) else bad_pointer s at) ≡ bad_pointer s at = ap (λ b. if b then next (word s.memory (place at)) else bad_pointer s at) u in
    record { enough = λ to e h. l.enough to e (subst (λ x. Ends 128 x (most + 512) to e) (sym is) h) }

pub left_word_written : {flat : ℕ} (stay : Stay) (s : KernelState) (at value : ℕ) (next : KernelState → Stay) (most : ℕ)
    → user_word at ≡ true → Left flat stay (writes_word s at value next) most → Left flat stay (next (with_word s at value)) (most + 512)
left_word_written stay s at value next most u l =
    let is : (if user_word at then next (with_word s at value) else bad_pointer s at) ≡ next (with_word s at value) = ap (λ b. if b then next (with_word s at value) else bad_pointer s at) u in
    record { enough = λ to e h. l.enough to e (subst (λ x. Ends 128 x (most + 512) to e) (sym is) h) }

pub left_word_unwritten : {flat : ℕ} (stay : Stay) (s : KernelState) (at value : ℕ) (next : KernelState → Stay) (most : ℕ)
    → user_word at ≡ false → Left flat stay (writes_word s at value next) most → Left flat stay (bad_pointer s at) (most + 512)
left_word_unwritten stay s at value next most u l =
    let is : (if user_word at then next (with_word s at value) else bad_pointer s at) ≡ bad_pointer s at = ap (λ b. if b then next (with_word s at value) else bad_pointer s at) u in
    record { enough = λ to e h. l.enough to e (subst (λ x. Ends 128 x (most + 512) to e) (sym is) h) }
