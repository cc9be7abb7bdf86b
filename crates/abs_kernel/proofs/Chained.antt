-- Other chains in a valid state.
use Rattle.std.proofs.Common.{◌≡◌, ℕ, ◌<◌, List, [], length, refl, sym, ◌∙◌, subst, arith, ⊎_elim, get_or-set_same, get_or-set_other}
use Rattle.std.specs.Prelude.{All, Option, Some, None, slice_index_or, slice_set}
use Rattle.std.proofs.lemmas.List.{length-set}
use Rattle.std.proofs.lemmas.Bool.{cases_eq}
use Rattle.psx_base.specs.KernelState.{KernelState}
use Rattle.kern_layout.specs.Valid.{NextFits, ChainFits, Valid}

-- as many chains as others, and where those fit, these do
pub record ChainsFit (old new : List (List ℕ)) : Type 0 where
  pub count : length new ≡ length old
  pub fit : All ChainFits old → All ChainFits new

pub chains_same : (chains : List (List ℕ)) → ChainsFit chains chains
chains_same chains = record { count = refl; fit = λ h. h }

pub chains_set : (chains : List (List ℕ)) (p : ℕ) (c : List ℕ) → (ChainFits (slice_index_or chains p []) → ChainFits c) → ChainsFit chains (slice_set chains p c)
chains_set chains p c ok = record {
  count = length-set chains p c;
  fit = λ h j d lt.
      let low : j < length chains = omega (arith, lt, length-set chains p c) in
      ⊎_elim
      (λ (q : j ≡ p).
      let few : p < length chains = omega (arith, q, low) in
      subst (λ k. ChainFits (slice_index_or (slice_set chains p c) k d)) (sym q) (subst ChainFits (sym (get_or-set_same chains p c d few)) (ok (h p [] few))))
      (λ (ne : j ≡ p → ⊥). subst ChainFits (sym (get_or-set_other chains p j c d ne)) (h j d low))
      (cases_eq j p);
}

next_fits : (s : KernelState) (chains : List (List ℕ)) (o : Option ℕ) → NextFits s o → NextFits (record s { chains = chains }) o
next_fits s chains None h = tt
next_fits s chains (Some n) h = h

pub valid_chained : (s : KernelState) (chains : List (List ℕ)) → Valid s → ChainsFit s.chains chains → Valid (record s { chains = chains })
valid_chained s chains v f = record {
  threads_least = v.threads_least;
  threads_most = v.threads_most;
  threads = v.threads;
  current = v.current;
  running = v.running;
  next = next_fits s chains s.next v.next;
  events_least = v.events_least;
  events_most = v.events_most;
  statuses = v.statuses;
  frames_most = v.frames_most;
  frames = v.frames;
  chains_count = f.count ∙ v.chains_count;
  chains = f.fit v.chains;
  heap = v.heap;
  files_count = v.files_count;
  files = v.files;
  line = v.line;
}
