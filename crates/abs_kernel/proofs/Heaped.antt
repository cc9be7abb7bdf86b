-- A valid state with another heap that fits is valid.
use Rattle.std.proofs.Common.{ℕ}
use Rattle.std.specs.Prelude.{Option, Some, None}
use Rattle.psx_base.specs.KernelState.{Heap, KernelState}
use Rattle.kern_layout.specs.Valid.{NextFits, HeapFits, Valid}

next_fits : (s : KernelState) (h : Heap) (o : Option ℕ) → NextFits s o → NextFits (record s { heap = h }) o
next_fits s h None f = tt
next_fits s h (Some n) f = f

pub valid_heaped : (s : KernelState) (h : Heap) → Valid s → HeapFits h → Valid (record s { heap = h })
valid_heaped s h v f = record {
  threads_least = v.threads_least;
  threads_most = v.threads_most;
  threads = v.threads;
  current = v.current;
  running = v.running;
  next = next_fits s h s.next v.next;
  events_least = v.events_least;
  events_most = v.events_most;
  statuses = v.statuses;
  frames_most = v.frames_most;
  frames = v.frames;
  chains_count = v.chains_count;
  chains = v.chains;
  heap = f;
  files_count = v.files_count;
  files = v.files;
  line = v.line;
}
