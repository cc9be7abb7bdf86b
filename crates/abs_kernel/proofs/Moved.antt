-- A valid state with another memory, another state of random numbers, another place of strtok and another running context that fits is valid.
use Rattle.std.proofs.Common.{ℕ}
use Rattle.std.specs.Prelude.{Option, Some, None}
use Rattle.psx_base.specs.Memory.{Memory}
use Rattle.psx_base.specs.KernelState.{ThreadContext, KernelState}
use Rattle.kern_layout.specs.Valid.{RunningFits, NextFits, Valid}

next_fits : (s : KernelState) (m : Memory) (x place : ℕ) (t : ThreadContext) (o : Option ℕ) → NextFits s o → NextFits (record s { memory = m; random = x; token = place; running = t }) o
next_fits s m x place t None h = tt
next_fits s m x place t (Some n) h = h

pub valid_placed : (s : KernelState) (m : Memory) (x place : ℕ) (t : ThreadContext) → Valid s → RunningFits t.context → Valid (record s { memory = m; random = x; token = place; running = t })
valid_placed s m x place t v r = record {
  threads_least = v.threads_least;
  threads_most = v.threads_most;
  threads = v.threads;
  current = v.current;
  running = r;
  next = next_fits s m x place t s.next v.next;
  events_least = v.events_least;
  events_most = v.events_most;
  statuses = v.statuses;
  frames_most = v.frames_most;
  frames = v.frames;
  chains_count = v.chains_count;
  chains = v.chains;
  heap = v.heap;
  files_count = v.files_count;
  files = v.files;
  line = v.line;
}

-- with strtok's place as it is
pub valid_moved : (s : KernelState) (m : Memory) (x : ℕ) (t : ThreadContext) → Valid s → RunningFits t.context → Valid (record s { memory = m; random = x; running = t })
valid_moved s m x t v r = valid_placed s m x s.token t v r
