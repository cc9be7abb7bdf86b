-- The thread to take up is forgotten, in a state in which tasks are done: there a thread may be named though the last frame has gone.
use Rattle.std.proofs.Common.{◌≡◌, ℕ, ◌≤◌, ◌⊎◌, ⊎_elim, inl, inr, length, true, refl, ◌∙◌, arith, None}
use Rattle.psx_base.specs.Memory.{Memory, byte, word, put_word}
use Rattle.psx_base.specs.KernelState.{ThreadContext, KernelState}
use Rattle.psx_ram.specs.Apart.{apart}
use Rattle.psx_ram.proofs.Laws.{byte-put_word_apart}
use Rattle.kern_layout.specs.Contexts.{saved}
use Rattle.kern_layout.specs.Stores.{put, Same}
use Rattle.kern_layout.specs.Reads.{Reads, frame_at, variables}
use Rattle.kern_layout.specs.Valid.{Valid}
use Rattle.kern_layout.proofs.Blocks.{block_same, block_put, put_other}
use Rattle.kern_layout.proofs.MemoryStored.{word_stored, line_kept}
use Rattle.kern_layout.proofs.ReadingsKept as kept
use Rattle.kern_stay.specs.Doors.{Holds}
use Rattle.kern_stay.proofs.Holding.{user_high}

apart_above : (a : ℕ) → 0x10000 ≤ a → apart 0xEA04 4 a 1 ≡ true
apart_above a h = grind arith

module _ (s : KernelState) (c : ThreadContext) (v : Valid (record s { next = None })) (m : Memory) (h : Holds (record s { running = c }) m) where
  abbrev n : Memory
  n = put_word m 0xEA04 0

  abbrev none : KernelState
  none = record s { next = None; running = c }

  same : (low high : ℕ) → (high ≤ 0xEA04) ⊎ (0xEA08 ≤ low) → Same low high (word m) (word n)
  same low high far a al lo up = word_stored m 0xEA04 0 a refl al ∙ put_other (word m) 0xEA04 0 a (λ e. ⊎_elim (λ l. omega (arith, l, e, up)) (λ g. omega (arith, g, e, lo)) far)

  reads : Reads none (word n) (byte n)
  reads = let old = h.reads in record {
    threads = kept.threads_kept s.current s.threads v.threads_most (word m) (word n) (same 0xB000 0xBC00 (inl (omega arith))) old.threads;
    events = kept.events_kept s.events v.events_most (word m) (word n) (same 0xBC00 0xC300 (inl (omega arith))) old.events;
    frames = kept.frames_kept (length s.events) s.frames v.frames (word m) (word n) (same 0xC300 (frame_at (length s.frames)) (inl (omega (arith, v.frames_most)))) old.frames;
    chains = kept.chains_kept s.chains v.chains_count v.chains (word m) (word n) (same 0xCF00 0xD000 (inl (omega arith))) old.chains;
    heap = kept.heap_kept s.heap (word m) (word n) (same 0xD000 0xE800 (inl (omega arith))) (same 0xEA40 0xEA48 (inr (omega arith))) old.heap;
    files = kept.files_kept s.files v.files_count (word m) (word n) (same 0xE800 0xE900 (inl (omega arith))) old.files;
    line = kept.line_kept s.line v.line (byte m) (byte n) (line_kept m 0xEA04 0 (inr (omega arith))) old.line;
    variables = block_same (put (word m) 0xEA04 0) (word n) 0xEA00 0 0x28 (variables none) refl refl (λ a al lo up. word_stored m 0xEA04 0 a refl al)
        (block_put (word m) 0xEA00 4 0 (variables s) old.variables);
  }

  pub next_forgotten : Holds none n
  next_forgotten = record {
    settled = h.settled;
    area = block_same (word m) (word n) 0xEB00 0 0x98 (saved c) refl refl (same 0xEB00 0xEB98 (inr (omega arith))) h.area;
    reads = reads;
    user = λ a u. byte-put_word_apart m 0xEA04 0 a (apart_above a (user_high a u)) ∙ h.user a u;
  }
