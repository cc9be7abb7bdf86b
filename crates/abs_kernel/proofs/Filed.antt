-- Other files and another last error in a valid state.
use Rattle.std.proofs.Common.{◌≡◌, ℕ, ◌<◌, List, length, refl, sym, ◌∙◌, subst, arith, ⊎_elim, get_or-set_same, get_or-set_other}
use Rattle.std.specs.Prelude.{All, Option, Some, None, slice_index_or, slice_set}
use Rattle.std.proofs.lemmas.List.{length-set}
use Rattle.std.proofs.lemmas.Bool.{cases_eq}
use Rattle.psx_base.specs.KernelState.{KernelState}
use Rattle.kern_layout.specs.Valid.{NextFits, FileFits, Valid}

-- as many files as others, and where those fit, these do
pub record FilesFit (old new : List (Option ℕ)) : Type 0 where
  pub count : length new ≡ length old
  pub fit : All FileFits old → All FileFits new

pub files_same : (files : List (Option ℕ)) → FilesFit files files
files_same files = record { count = refl; fit = λ h. h }

pub files_set : (files : List (Option ℕ)) (n : ℕ) (f : Option ℕ) → FileFits f → FilesFit files (slice_set files n f)
files_set files n f ok = record {
  count = length-set files n f;
  fit = λ h j d lt.
      let low : j < length files = omega (arith, lt, length-set files n f) in
      ⊎_elim
      (λ (e : j ≡ n). subst (λ k. FileFits (slice_index_or (slice_set files n f) k d)) (sym e) (subst FileFits (sym (get_or-set_same files n f d (omega (arith, e, low)))) ok))
      (λ (ne : j ≡ n → ⊥). subst FileFits (sym (get_or-set_other files n j f d ne)) (h j d low))
      (cases_eq j n);
}

next_fits : (s : KernelState) (files : List (Option ℕ)) (errno : ℕ) (o : Option ℕ) → NextFits s o → NextFits (record s { files = files; errno = errno }) o
next_fits s files errno None h = tt
next_fits s files errno (Some n) h = h

pub valid_filed : (s : KernelState) (files : List (Option ℕ)) (errno : ℕ) → Valid s → FilesFit s.files files → Valid (record s { files = files; errno = errno })
valid_filed s files errno v f = record {
  threads_least = v.threads_least;
  threads_most = v.threads_most;
  threads = v.threads;
  current = v.current;
  running = v.running;
  next = next_fits s files errno s.next v.next;
  events_least = v.events_least;
  events_most = v.events_most;
  statuses = v.statuses;
  frames_most = v.frames_most;
  frames = v.frames;
  chains_count = v.chains_count;
  chains = v.chains;
  heap = v.heap;
  files_count = f.count ∙ v.files_count;
  files = f.fit v.files;
  line = v.line;
}
