-- A frame is put upon the others: what its words behind the last frame, and one more in the count of frames, make of the state.
use Rattle.std.proofs.Common.{◌≡◌, ℕ, suc, ◌+◌, ◌%◌, ◌<◌, ◌≤◌, ◌⊎◌, inl, inr, List, length, refl, sym, ap, ◌∙◌, subst, arith, true}
use Rattle.psx_base.specs.Memory.{Memory, byte, word, put_word}
use Rattle.psx_base.specs.KernelState.{ThreadContext, Task, Frame, KernelState}
use Rattle.psx_ram.specs.Apart.{apart}
use Rattle.psx_ram.proofs.Laws.{byte-put_word_apart}
use Rattle.kern_layout.specs.Contexts.{saved}
use Rattle.kern_layout.specs.Tasks.{elements_of, TasksAt, FrameAt}
use Rattle.kern_layout.specs.Stands.{SameUser}
use Rattle.kern_layout.specs.Reads.{Reads, frame_at}
use Rattle.kern_layout.proofs.Blocks.{block_same, put_here, put_other}
use Rattle.kern_layout.proofs.ReadingsKept.{tasks_kept}
use Rattle.kern_layout.proofs.MemoryStored.{word_stored}
use Rattle.kern_layout.proofs.Moved.{reads_pushed}
use Rattle.abs_kernel.specs.Callback.{pushed}
use Rattle.abs_kernel.specs.WorkLaws.{Working}
use Rattle.kern_stay.specs.Doors.{Holds}
use Rattle.kern_stay.proofs.Holding.{user_high}
use Rattle.kern_stay.proofs.FramesMoved.{FrameMoved, Below, context_moved, tasks_moved}

apart_out : (p a : ℕ) → (a < p) ⊎ (p + 4 ≤ a) → apart p 4 a 1 ≡ true
apart_out p a h = grind arith

module _ (s : KernelState) (c : ThreadContext) (ts : List Task) (w : Working s c ts) (m : Memory) (h : Holds (record s { running = c }) m)
    (there : TasksAt (word m) 0xEB00 ts) (n : ℕ) (count : length s.frames ≡ n) (few : n < 8) where
  abbrev new : Frame
  new = record { context = c; tasks = ts }

  -- the count is stored
  abbrev counted : Memory
  counted = put_word m 0xEA08 (suc n)

  counted_word : (a : ℕ) → a % 4 ≡ 0 → (a ≡ 0xEA08 → ⊥) → word counted a ≡ word m a
  counted_word a al ne = word_stored m 0xEA08 (suc n) a refl al ∙ put_other (word m) 0xEA08 (suc n) a ne

  module _ (x y : Memory) (moved : FrameMoved counted x 0xEB00 (frame_at n) (length (elements_of ts))) (below : Below x y) where
    -- below the work area the frame and the count alone are written
    word_is : (a : ℕ) → a % 4 ≡ 0 → a < 0xEB00 → (a < frame_at n + 0xC) ⊎ (frame_at n + 0x180 ≤ a) → (a ≡ 0xEA08 → ⊥) → word y a ≡ word m a
    word_is a al up out ne = below.words a al up ∙ moved.words a al out ∙ counted_word a al ne

    byte_is : (a : ℕ) → (a < 0xEB00) ⊎ (0x10000 ≤ a) → (frame_at n + 0x180 ≤ a) → (a < 0xEA08) ⊎ (0xEA0C ≤ a) → byte y a ≡ byte m a
    byte_is a o out far = below.bytes a o ∙ moved.bytes a (inr out) ∙ byte-put_word_apart m 0xEA08 (suc n) a (apart_out 0xEA08 a far)

    frame_there : FrameAt (word y) (frame_at n) new
    frame_there =
        let area = block_same (word m) (word counted) 0xEB00 0 0x98 (saved c) refl refl (λ a al lo up. counted_word a al (λ e. omega (arith, e, lo))) h.area in
        let tasks = tasks_kept (word m) (word counted) 0xEB00 ts refl w.tasks.elements w.tasks.lines (λ a al lo up. counted_word a al (λ e. omega (arith, e, lo))) there in
        record {
          context = block_same (word x) (word y) (frame_at n) 0 0x98 (saved c) (omega arith) refl (λ a al lo up. below.words a al (omega (arith, up, few)))
              (context_moved counted x 0xEB00 (frame_at n) (length (elements_of ts)) c moved area);
          tasks = tasks_kept (word x) (word y) (frame_at n) ts (omega arith) w.tasks.elements w.tasks.lines (λ a al lo up. below.words a al (omega (arith, up, few)))
              (tasks_moved counted x 0xEB00 (frame_at n) ts moved w.tasks.lines tasks);
        }

    number : word y 0xEA08 ≡ suc n
    number = below.words 0xEA08 refl (omega arith) ∙ moved.words 0xEA08 refl (inr (omega (arith, few))) ∙ word_stored m 0xEA08 (suc n) 0xEA08 refl refl ∙ put_here (word m) 0xEA08 (suc n)

    pub pushed_reads : Reads (pushed s new) (word y) (byte y)
    pushed_reads =
        let at : frame_at (length s.frames) ≡ frame_at n = ap frame_at count in
        let old : Reads s (word m) (byte m)
        = (let r = h.reads in record { threads = r.threads; events = r.events; frames = r.frames; chains = r.chains; heap = r.heap; files = r.files; line = r.line; variables = r.variables }) in
        reads_pushed s w.valid (word m) (word y) (byte m) (byte y) (λ a lo up. byte_is a (inl (omega (arith, up))) (omega (arith, lo, few)) (inl (omega (arith, up)))) new
        (λ a al lo up. word_is a al (omega (arith, up, at, few)) (inl (omega (arith, up, at))) (λ e. omega (arith, e, up, at, few)))
        (λ a al lo up. word_is a al (omega (arith, up)) (inr (omega (arith, lo, few))) (λ e. omega (arith, e, up)))
        (λ a al lo up. word_is a al (omega (arith, up)) (inr (omega (arith, lo, few))) (λ e. omega (arith, e, up)))
        (λ a al lo up. word_is a al up (inr (omega (arith, lo, few))) (λ e. omega (arith, e, lo)))
        (subst (λ p. FrameAt (word y) p new) (sym at) frame_there) (number ∙ sym (ap suc count)) old

    pub pushed_user : SameUser y s.memory
    pushed_user a u = (let high = user_high a u in byte_is a (inr high) (omega (arith, high, few)) (inr (omega (arith, high)))) ∙ h.user a u
