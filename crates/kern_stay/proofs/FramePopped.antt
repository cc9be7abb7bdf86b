-- The innermost frame is taken away: what its words in the work area, and one less in the count of frames, make of the state.
use Rattle.std.proofs.Common.{◌≡◌, ℕ, zero, suc, ◌%◌, ◌<◌, ◌≤◌, ◌⊎◌, inl, inr, List, [], ◌∷◌, length, take, true, refl, ap, ◌∙◌, subst, arith, ⊎_elim}
use Rattle.std.specs.Prelude.{Some, slice_index_or}
use Rattle.psx_base.specs.Memory.{Memory, byte, word, put_word}
use Rattle.psx_base.specs.KernelState.{Frame, KernelState}
use Rattle.psx_ram.specs.Apart.{apart}
use Rattle.psx_ram.proofs.Laws.{byte-put_word_apart}
use Rattle.kern_layout.specs.Fields.{Block}
use Rattle.kern_layout.specs.Contexts.{saved}
use Rattle.kern_layout.specs.Reads.{Reads, frame, frame_at, no_frame}
use Rattle.kern_layout.specs.Valid.{Valid}
use Rattle.kern_layout.specs.Tasks.{FrameAt}
use Rattle.kern_layout.proofs.Blocks.{put_here, put_other}
use Rattle.kern_layout.proofs.ReadingsKept.{frame_kept}
use Rattle.kern_layout.proofs.MemoryStored.{word_stored}
use Rattle.kern_layout.proofs.Moved.{reads_popped}
use Rattle.abs_kernel.specs.Returning.{innermost, without_innermost, popped}
use Rattle.abs_kernel.specs.WorkLaws.{Working}
use Rattle.abs_kernel.proofs.Worked.{popped_works}
use Rattle.kern_stay.specs.Doors.{Holds}
use Rattle.kern_stay.proofs.Holding.{user_high}
use Rattle.kern_stay.proofs.FramesMoved.{Below}

pub no_frames : (fs : List Frame) → length fs ≡ 0 → fs ≡ []
no_frames [] e = refl
no_frames (f ∷ fs) e = absurd (omega (arith, e))

-- the innermost frame is the one with the greatest number
pub innermost_is : (fs : List Frame) (n : ℕ) → length fs ≡ suc n → innermost fs ≡ Some (slice_index_or fs n no_frame)
innermost_is [] n e = absurd (omega (arith, e))
innermost_is (f ∷ []) zero e = refl
innermost_is (f ∷ []) (suc n) e = absurd (omega (arith, e))
innermost_is (f ∷ g ∷ fs) zero e = absurd (omega (arith, e))
innermost_is (f ∷ g ∷ fs) (suc n) e = innermost_is (g ∷ fs) n (omega (arith, e))

without_is : (fs : List Frame) (n : ℕ) → length fs ≡ suc n → take n fs ≡ without_innermost fs
without_is [] n e = absurd (omega (arith, e))
without_is (f ∷ []) zero e = refl
without_is (f ∷ []) (suc n) e = absurd (omega (arith, e))
without_is (f ∷ g ∷ fs) zero e = absurd (omega (arith, e))
without_is (f ∷ g ∷ fs) (suc n) e = ap (λ rest. f ∷ rest) (without_is (g ∷ fs) n (omega (arith, e)))

-- of the words below the work area the count of frames alone is written, and the area has the frame's context
pub record Popped (s : KernelState) (m x : Memory) (n : ℕ) : Type 0 where
  pub words : (a : ℕ) → a % 4 ≡ 0 → a < 0xEB00 → (a ≡ 0xEA08 → ⊥) → word x a ≡ word m a
  pub number : word x 0xEA08 ≡ n
  pub bytes : (a : ℕ) → (a < 0xEA00) ⊎ (0x10000 ≤ a) → byte x a ≡ byte m a
  pub area : Block (word x) 0xEB00 (saved (frame s n).context)

apart_out : (a : ℕ) → (a < 0xEA00) ⊎ (0x10000 ≤ a) → apart 0xEA08 4 a 1 ≡ true
apart_out a h = grind arith

module _ (s : KernelState) (valid : Valid s) (n : ℕ) (count : length s.frames ≡ suc n) where
  pub popped_working : Working (popped s) (frame s n).context (frame s n).tasks
  popped_working = popped_works s (frame s n) valid (innermost_is s.frames n count)

  pub popped_holds : (m x : Memory) → Holds s m → Popped s m x n → Holds (record (popped s) { running = (frame s n).context }) x
  popped_holds m x h p =
      let few : n < 8 = omega (arith, count, valid.frames_most) in
      let r : Reads (record s { frames = take n s.frames }) (word x) (byte x) = reads_popped s valid (word m) (word x) (byte m) (byte x) (λ a lo up. p.bytes a (inl up)) n (omega (arith, count))
      (λ a al lo up. p.words a al (omega (arith, up, few)) (λ e. omega (arith, e, up, few))) (λ a al lo up. p.words a al (omega (arith, up)) (λ e. omega (arith, e, up)))
      (λ a al lo up. p.words a al (omega (arith, up)) (λ e. omega (arith, e, up))) (λ a al lo up. p.words a al up (λ e. omega (arith, e, lo))) p.number h.reads in
      let q : Reads (popped s) (word x) (byte x) = subst (λ fs. Reads (record s { frames = fs }) (word x) (byte x)) (without_is s.frames n count) r in
      record {
        settled = popped_working.context.none_pending;
        area = p.area;
        reads = record { threads = q.threads; events = q.events; frames = q.frames; chains = q.chains; heap = q.heap; files = q.files; line = q.line; variables = q.variables };
        user = λ a u. p.bytes a (inr (user_high a u)) ∙ h.user a u;
      }

  -- the count is stored, and then nothing below the work area
  module _ (m : Memory) where
    abbrev counted : Memory
    counted = put_word m 0xEA08 n

    counted_word : (a : ℕ) → a % 4 ≡ 0 → (a ≡ 0xEA08 → ⊥) → word counted a ≡ word m a
    counted_word a al ne = word_stored m 0xEA08 n a refl al ∙ put_other (word m) 0xEA08 n a ne

    pub frame_there : Holds s m → FrameAt (word counted) (frame_at n) (frame s n)
    frame_there h =
        let lt : n < length s.frames = omega (arith, count) in
        let few : n < 8 = omega (arith, count, valid.frames_most) in
        let fit = valid.frames n no_frame lt in
        frame_kept (word m) (word counted) (frame_at n) (frame s n) (omega arith) fit.tasks.elements fit.tasks.lines
        (λ a al lo up. counted_word a al (λ e. omega (arith, e, up, few))) (h.reads.frames n lt)

    pub popped_by : (x : Memory) → Below counted x → Block (word x) 0xEB00 (saved (frame s n).context) → Popped s m x n
    popped_by x b area = record {
      words = λ a al up ne. b.words a al up ∙ counted_word a al ne;
      number = b.words 0xEA08 refl (omega arith) ∙ word_stored m 0xEA08 n 0xEA08 refl refl ∙ put_here (word m) 0xEA08 n;
      bytes = λ a o. b.bytes a (⊎_elim (λ l. inl (omega (arith, l))) (λ g. inr g) o) ∙ byte-put_word_apart m 0xEA08 n a (apart_out a o);
      area = area;
    }
