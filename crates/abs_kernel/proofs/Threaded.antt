-- Other threads in a valid state.
use Rattle.std.proofs.Common.{◌≡◌, ℕ, ◌<◌, List, length, refl, sym, subst, arith, ⊎_elim, get_or-set_same, get_or-set_other}
use Rattle.std.specs.Prelude.{All, Option, Some, slice_index_or, slice_set}
use Rattle.std.proofs.lemmas.List.{length-set}
use Rattle.std.proofs.lemmas.Bool.{cases_eq}
use Rattle.psx_base.specs.KernelState.{Thread, Free, KernelState}
use Rattle.kern_layout.specs.Valid.{ThreadRests, IsUsed, NextFits, Valid}

-- threads, the running one's number and that of the one to take up later, in the place of a valid state's
pub record ThreadsFit (s : KernelState) (threads : List Thread) (current : ℕ) (after : Option ℕ) : Type 0 where
  pub count : length threads ≡ length s.threads
  pub rest : All ThreadRests threads
  pub running : current < length threads
  pub next : NextFits (record s { threads = threads; current = current; next = after }) after

pub threads_same : (s : KernelState) → Valid s → ThreadsFit s s.threads s.current s.next
threads_same s v = record { count = refl; rest = v.threads; running = v.current; next = v.next }

-- another thread in a slot
pub rests_set : (threads : List Thread) (n : ℕ) (t : Thread) → ThreadRests t → All ThreadRests threads → All ThreadRests (slice_set threads n t)
rests_set threads n t ok h j d lt =
    let low : j < length threads = omega (arith, lt, length-set threads n t) in
    ⊎_elim
    (λ (e : j ≡ n). subst (λ k. ThreadRests (slice_index_or (slice_set threads n t) k d)) (sym e) (subst ThreadRests (sym (get_or-set_same threads n t d (omega (arith, e, low)))) ok))
    (λ (ne : j ≡ n → ⊥). subst ThreadRests (sym (get_or-set_other threads n j t d ne)) (h j d low))
    (cases_eq j n)

-- the one to take up later stays used where the slot isn't its own, or is used
pub next_set : (s : KernelState) (n : ℕ) (t : Thread) (now : Option ℕ) (k : ℕ) → n < length s.threads → (k ≡ n → IsUsed t) → NextFits s (Some k)
    → NextFits (record s { threads = slice_set s.threads n t; next = now }) (Some k)
next_set s n t now k few ok f =
    let used : IsUsed (slice_index_or (slice_set s.threads n t) k Free) = ⊎_elim
    (λ (e : k ≡ n). subst (λ j. IsUsed (slice_index_or (slice_set s.threads n t) j Free)) (sym e) (subst IsUsed (sym (get_or-set_same s.threads n t Free few)) (ok e)))
    (λ (ne : k ≡ n → ⊥). subst IsUsed (sym (get_or-set_other s.threads n k t Free ne)) f.1)
    (cases_eq k n) in
    (omega (arith, f.0, length-set s.threads n t), used, f.2, f.3)

pub valid_threaded : (s : KernelState) (threads : List Thread) (current : ℕ) (next : Option ℕ) → Valid s → ThreadsFit s threads current next
    → Valid (record s { threads = threads; current = current; next = next })
valid_threaded s threads current next v f = record {
  threads_least = omega (arith, v.threads_least, f.count);
  threads_most = omega (arith, v.threads_most, f.count);
  threads = f.rest;
  current = f.running;
  running = v.running;
  next = f.next;
  events_least = v.events_least;
  events_most = v.events_most;
  statuses = v.statuses;
  frames_most = v.frames_most;
  frames = v.frames;
  chains_count = v.chains_count;
  chains = v.chains;
  heap = v.heap;
  files_count = v.files_count;
  files = v.files;
  line = v.line;
}
