-- A valid state with another line that fits is valid.
use Rattle.std.proofs.Common.{ℕ, ◌≤◌, List, length}
use Rattle.std.specs.Prelude.{Option, Some, None}
use Rattle.psx_base.specs.KernelState.{KernelState}
use Rattle.kern_layout.specs.Valid.{NextFits, Valid}

next_fits : (s : KernelState) (line : List ℕ) (o : Option ℕ) → NextFits s o → NextFits (record s { line = line }) o
next_fits s line None h = tt
next_fits s line (Some n) h = h

pub valid_lined : (s : KernelState) (line : List ℕ) → Valid s → length line ≤ 254 → Valid (record s { line = line })
valid_lined s line v few = record {
  threads_least = v.threads_least;
  threads_most = v.threads_most;
  threads = v.threads;
  current = v.current;
  running = v.running;
  next = next_fits s line s.next v.next;
  events_least = v.events_least;
  events_most = v.events_most;
  statuses = v.statuses;
  frames_most = v.frames_most;
  frames = v.frames;
  chains_count = v.chains_count;
  chains = v.chains;
  heap = v.heap;
  files_count = v.files_count;
  files = v.files;
  line = few;
}
