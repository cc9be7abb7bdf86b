-- The threads' blocks in memory, while the kernel runs.
use Rattle.std.proofs.Common.{◌≡◌, ℕ, ◌+◌, ◌%◌, ◌<◌, ◌≤◌, ◌⊎◌, inl, inr, length, refl, sym, ap, ◌∙◌, subst, arith, ⊎_elim, true}
use Rattle.std.specs.Prelude.{Option}
use Rattle.psx_base.specs.Memory.{Memory, byte, word, put_word}
use Rattle.psx_base.specs.KernelState.{Thread, Free, KernelState}
use Rattle.psx_ram.specs.Apart.{apart}
use Rattle.psx_ram.proofs.Laws.{byte-put_word_apart}
use Rattle.kern_layout.specs.Fields.{Block}
use Rattle.kern_layout.specs.Contexts.{saved, thread_fields}
use Rattle.kern_layout.specs.Stores.{with_thread}
use Rattle.kern_layout.specs.Reads.{thread_at, next_word}
use Rattle.kern_layout.specs.Valid.{Valid}
use Rattle.kern_layout.proofs.Blocks.{block_same, put_here, put_other}
use Rattle.kern_layout.proofs.MemoryStored.{word_stored}
use Rattle.kern_layout.proofs.Written.{reads_thread}
use Rattle.abs_kernel.proofs.Threaded.{ThreadsFit, valid_threaded}
use Rattle.kern_stay.specs.Doors.{Holds}
use Rattle.kern_stay.proofs.Holding.{user_high, holds_variable}

-- ---- stores

apart_out : (p a : ℕ) → (a < p) ⊎ (p + 4 ≤ a) → apart p 4 a 1 ≡ true
apart_out p a h = grind arith

-- thread n's block is written, and all else stays
pub holds_thread : (s : KernelState) → Valid s → (m x : Memory) → Holds s m → (n : ℕ) (t : Thread) → n < length s.threads
    → ((a : ℕ) → a % 4 ≡ 0 → (a < thread_at n) ⊎ (thread_at n + 0xC0 ≤ a) → word x a ≡ word m a) → ((a : ℕ) → (a < thread_at n) ⊎ (thread_at n + 0xC0 ≤ a) → byte x a ≡ byte m a)
    → Block (word x) (thread_at n) (thread_fields s.current n t) → Holds (with_thread s n t) x
holds_thread s valid m x h n t few words bytes block =
    let high : thread_at n + 0xC0 ≤ 0xBC00 = omega (arith, few, valid.threads_most) in
    record {
      settled = h.settled;
      area = block_same (word m) (word x) 0xEB00 0 0x98 (saved s.running) refl refl (λ a al lo up. words a al (inr (omega (arith, lo, high)))) h.area;
      reads = reads_thread s valid (word m) (word x) (byte m) (byte x) (λ a lo up. bytes a (inr (omega (arith, lo, high)))) n t few words block h.reads;
      user = λ a u. (let far = user_high a u in bytes a (inr (omega (arith, far, high)))) ∙ h.user a u;
    }

-- its status becomes free
pub holds_freed : (s : KernelState) → Valid s → (m : Memory) → Holds s m → (n : ℕ) → n < length s.threads → Holds (with_thread s n Free) (put_word m (thread_at n) 0x1000)
holds_freed s valid m h n few =
    let p : ℕ = thread_at n in
    let z : p + 0 ≡ p = omega arith in
    holds_thread s valid m (put_word m p 0x1000) h n Free few
    (λ a al out. word_stored m p 0x1000 a (omega arith) al ∙ put_other (word m) p 0x1000 a (λ e. ⊎_elim (λ l. omega (arith, e, l)) (λ g. omega (arith, e, g)) out))
    (λ a out. byte-put_word_apart m p 0x1000 a (apart_out p a (⊎_elim (λ l. inl l) (λ g. inr (omega (arith, g))) out)))
    (ap (word (put_word m p 0x1000)) z ∙ word_stored m p 0x1000 p (omega arith) (omega arith) ∙ put_here (word m) p 0x1000, tt)

-- another thread is to be taken up later, or none
pub holds_next : (s : KernelState) → Valid s → (m : Memory) → Holds s m → (next : Option ℕ) → ThreadsFit s s.threads s.current next
    → (v : ℕ) → v ≡ next_word next → Holds (record s { next = next }) (put_word m 0xEA04 v)
holds_next s valid m h next fit v e =
    subst (λ x. Holds (record s { next = next }) (put_word m 0xEA04 x)) (sym e)
    (holds_variable s valid m h 4 (next_word next) next s.random s.token s.errno s.heap.base (valid_threaded s s.threads s.current next valid fit) refl (omega arith) refl)
