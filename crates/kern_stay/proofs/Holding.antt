-- What a store makes of the state that a memory stands for, while the kernel runs.
use Rattle.std.proofs.Common.{◌≡◌, ℕ, ◌+◌, ◌%◌, ◌<◌, ◌≤◌, inr, true, refl, sym, ◌∙◌, subst, arith, ⊎_elim, Option}
use Rattle.std.specs.Prelude.{◌||◌}
use Rattle.std.proofs.lemmas.Bool.{cases_eq}
use Rattle.psx_base.specs.Memory.{Memory, byte, word, put_byte, put_word}
use Rattle.psx_base.specs.Addresses.{place, user, user_main, scratchpad}
use Rattle.psx_base.specs.KernelState.{KernelState}
use Rattle.psx_ram.specs.Apart.{apart}
use Rattle.psx_ram.proofs.Laws.{byte-put_byte_apart, byte-put_byte_same, byte-put_word_apart, word-put_byte_apart}
use Rattle.psx_flow.proofs.Users.{sort_user}
use Rattle.psx_flow.proofs.Sorts.{user_above}
use Rattle.kern_layout.specs.Contexts.{saved}
use Rattle.kern_layout.specs.Stores.{put, with_field}
use Rattle.kern_layout.specs.Reads.{variables}
use Rattle.kern_layout.specs.Valid.{Valid}
use Rattle.kern_layout.proofs.Blocks.{block_same, put_other}
use Rattle.kern_layout.proofs.MemoryStored.{word_stored, line_kept}
use Rattle.kern_layout.proofs.Stored.{variable_stored}
use Rattle.kern_layout.proofs.Written.{reads_free}
use Rattle.abs_kernel.specs.UserBytes.{with_byte}
use Rattle.abs_kernel.specs.Rand.{with_random}
use Rattle.abs_kernel.proofs.Moved.{valid_moved}
use Rattle.kern_stay.specs.Doors.{Holds}

-- ---- a variable

pub user_high : (a : ℕ) → (user_main a || scratchpad a) ≡ true → 0x10000 ≤ a
user_high a h = grind arith

apart_above : (p n a : ℕ) → p + n ≤ a → apart p n a 1 ≡ true
apart_above p n a h = grind arith

pub holds_variable : (s : KernelState) → Valid s → (m : Memory) → Holds s m → (o v : ℕ) (next : Option ℕ) (random token errno base : ℕ) → let t = record s { next = next; random = random; token = token; errno = errno; heap = record s.heap { base = base } } in
    Valid t → o % 4 ≡ 0 → o < 0x28 → with_field (variables s) o v ≡ variables t → Holds t (put_word m (0xEA00 + o) v)
holds_variable s valid m h o v next random token errno base valid_t al low e =
    let p : ℕ = 0xEA00 + o in
    let n : Memory = put_word m p v in
    let line = line_kept m p v (inr (omega arith)) in
    let r = variable_stored s valid (word m) (byte m) (byte n) line o v next random token errno base low e h.reads in
    record {
      settled = h.settled;
      area = block_same (word m) (word n) 0xEB00 0 0x98 (saved s.running) refl refl (λ a ala lo up. word_stored m p v a (omega arith) ala ∙ put_other (word m) p v a (λ x. omega (arith, x, lo, low))) h.area;
      reads =
          reads_free (record s { next = next; random = random; token = token; errno = errno; heap = record s.heap { base = base } }) valid_t (put (word m) p v) (word n) (byte n) (byte n) (λ a lo up. refl)
          (λ a ala lo up. word_stored m p v a (omega arith) ala) (λ a ala lo up. word_stored m p v a (omega arith) ala) (λ a ala lo up. word_stored m p v a (omega arith) ala) r;
      user = λ a u. (let high = user_high a u in byte-put_word_apart m p v a (apart_above p 4 a (omega (arith, high, low)))) ∙ h.user a u;
    }

pub holds_random : (s : KernelState) → Valid s → (m : Memory) → Holds s m → (v : ℕ) → Holds (with_random s v) (put_word m 0xEA14 v)
holds_random s valid m h v = holds_variable s valid m h 0x14 v s.next v s.token s.errno s.heap.base (valid_moved s s.memory v s.running valid valid.running) refl (omega arith) refl

-- ---- a byte of user memory

apart_below : (p a : ℕ) → 0x10000 ≤ p → a + 4 ≤ 0x10000 → apart p 1 a 4 ≡ true
apart_below p a h g = grind arith

pub place_high : (a : ℕ) → user a ≡ true → 0x10000 ≤ place a
place_high a u = user_above (place a) (sort_user a u)

pub holds_byte : (s : KernelState) → Valid s → (m : Memory) → Holds s m → (at v : ℕ) → user at ≡ true → Holds (with_byte s at v) (put_byte m (place at) v)
holds_byte s valid m h at v u =
    let p : ℕ = place at in
    let high : 0x10000 ≤ p = place_high at u in
    let n : Memory = put_byte m p v in
    let words : (a : ℕ) → a + 4 ≤ 0x10000 → word n a ≡ word m a = λ a up. word-put_byte_apart m p v a (apart_below p a high up) in
    let r = reads_free s valid (word m) (word n) (byte m) (byte n) (λ a lo up. byte-put_byte_apart m p v a (λ x. omega (arith, x, up, high))) (λ a ala lo up. words a (omega (arith, ala, up, valid.frames_most))) (λ a ala lo up. words a (omega (arith, up))) (λ a ala lo up. words a (omega (arith, up))) h.reads in
    record {
      settled = h.settled;
      area = block_same (word m) (word n) 0xEB00 0 0x98 (saved s.running) refl refl (λ a ala lo up. words a (omega (arith, up))) h.area;
      reads = record { threads = r.threads; events = r.events; frames = r.frames; chains = r.chains; heap = r.heap; files = r.files; line = r.line; variables = r.variables };
      user = λ a g. ⊎_elim
          (λ (e : a ≡ p). subst (λ x. byte n x ≡ byte (put_byte s.memory p v) x) (sym e) (byte-put_byte_same m p v ∙ sym (byte-put_byte_same s.memory p v)))
          (λ (ne : a ≡ p → ⊥). byte-put_byte_apart m p v a ne ∙ h.user a g ∙ sym (byte-put_byte_apart s.memory p v a ne))
          (cases_eq a p);
    }
