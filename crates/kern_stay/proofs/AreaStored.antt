-- What a store to the work area makes of the state: the caller's context has another value in the field.
use Rattle.std.proofs.Common.{◌≡◌, ℕ, ◌+◌, ◌%◌, ◌<◌, ◌≤◌, inr, true, refl, ◌∙◌, subst, arith, None}
use Rattle.psx_base.specs.Memory.{Memory, byte, word, put_word}
use Rattle.psx_base.specs.KernelState.{ThreadContext, KernelState}
use Rattle.psx_ram.specs.Apart.{apart}
use Rattle.psx_ram.proofs.Laws.{byte-put_word_apart}
use Rattle.kern_layout.specs.Contexts.{saved}
use Rattle.kern_layout.specs.Stores.{put, with_field}
use Rattle.kern_layout.specs.Valid.{Valid}
use Rattle.kern_layout.proofs.Blocks.{put_other, block_same, block_put}
use Rattle.kern_layout.specs.Fields.{Fields, Block}
use Rattle.kern_layout.proofs.MemoryStored.{word_stored, line_kept}
use Rattle.kern_layout.proofs.Written.{reads_free}
use Rattle.kern_stay.specs.Doors.{Holds}
use Rattle.kern_stay.proofs.Holding.{user_high}

apart_above : (p a : ℕ) → p + 4 ≤ a → apart p 4 a 1 ≡ true
apart_above p a h = grind arith

pub holds_saved : (s : KernelState) → Valid s → (m : Memory) → Holds s m → (o v : ℕ) (t : ThreadContext) → o % 4 ≡ 0 → o < 0x98
    → t.context.pending ≡ None → with_field (saved s.running) o v ≡ saved t → Holds (record s { running = t }) (put_word m (0xEB00 + o) v)
holds_saved s valid m h o v t al low settled e =
    let p : ℕ = 0xEB00 + o in
    let n : Memory = put_word m p v in
    let is : (a : ℕ) → a % 4 ≡ 0 → word n a ≡ put (word m) p v a = λ a ala. word_stored m p v a (omega arith) ala in
    let words : (a : ℕ) → a % 4 ≡ 0 → a < 0xEB00 → word n a ≡ word m a = λ a ala up. is a ala ∙ put_other (word m) p v a (λ x. omega (arith, x, up)) in
    let r = reads_free s valid (word m) (word n) (byte m) (byte n) (line_kept m p v (inr (omega arith)))
    (λ a ala lo up. words a ala (omega (arith, up, valid.frames_most))) (λ a ala lo up. words a ala (omega (arith, up))) (λ a ala lo up. words a ala up) h.reads in
    let P : Fields → Type 0 = λ x. Block (put (word m) p v) 0xEB00 x in
    record {
      settled = settled;
      area = block_same (put (word m) p v) (word n) 0xEB00 0 0x98 (saved t) refl refl (λ a ala lo up. is a ala) (subst P e (block_put (word m) 0xEB00 o v (saved s.running) h.area));
      reads = record { threads = r.threads; events = r.events; frames = r.frames; chains = r.chains; heap = r.heap; files = r.files; line = r.line; variables = r.variables };
      user = λ a u. (let high = user_high a u in byte-put_word_apart m p v a (apart_above p a (omega (arith, high, low)))) ∙ h.user a u;
    }
