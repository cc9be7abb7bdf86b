-- Other events in a valid state.
use Rattle.std.proofs.Common.{◌≡◌, ℕ, ◌<◌, List, length, refl, sym, subst, arith, ⊎_elim, get_or-set_same, get_or-set_other}
use Rattle.std.specs.Prelude.{All, Option, Some, None, slice_index_or, slice_set}
use Rattle.std.proofs.lemmas.List.{length-set}
use Rattle.std.proofs.lemmas.Bool.{cases_eq}
use Rattle.psx_base.specs.KernelState.{Event, KernelState}
use Rattle.kern_layout.specs.Valid.{NextFits, IsStatus, FrameFits, Valid}

abbrev pub HasStatus : Event → Type 0
HasStatus e = IsStatus e.status

-- as many events as others, and where those have a status, these do
pub record EventsFit (old new : List Event) : Type 0 where
  pub count : length new ≡ length old
  pub fit : All HasStatus old → All HasStatus new

pub events_same : (events : List Event) → EventsFit events events
events_same events = record { count = refl; fit = λ h. h }

pub events_set : (events : List Event) (i : ℕ) (e : Event) → HasStatus e → EventsFit events (slice_set events i e)
events_set events i e ok = record {
  count = length-set events i e;
  fit = λ h j d lt.
      let low : j < length events = omega (arith, lt, length-set events i e) in
      ⊎_elim
      (λ (q : j ≡ i). subst (λ k. HasStatus (slice_index_or (slice_set events i e) k d)) (sym q) (subst HasStatus (sym (get_or-set_same events i e d (omega (arith, q, low)))) ok))
      (λ (ne : j ≡ i → ⊥). subst HasStatus (sym (get_or-set_other events i j e d ne)) (h j d low))
      (cases_eq j i);
}

next_fits : (s : KernelState) (events : List Event) (o : Option ℕ) → NextFits s o → NextFits (record s { events = events }) o
next_fits s events None h = tt
next_fits s events (Some n) h = h

pub valid_evented : (s : KernelState) (events : List Event) → Valid s → EventsFit s.events events → Valid (record s { events = events })
valid_evented s events v f = record {
  threads_least = v.threads_least;
  threads_most = v.threads_most;
  threads = v.threads;
  current = v.current;
  running = v.running;
  next = next_fits s events s.next v.next;
  events_least = omega (arith, v.events_least, f.count);
  events_most = omega (arith, v.events_most, f.count);
  statuses = f.fit v.statuses;
  frames_most = v.frames_most;
  frames = subst (λ n. All (FrameFits n) s.frames) (sym f.count) v.frames;
  chains_count = v.chains_count;
  chains = v.chains;
  heap = v.heap;
  files_count = v.files_count;
  files = v.files;
  line = v.line;
}
