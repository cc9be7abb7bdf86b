-- The state as a program begins is valid.
use Rattle.std.proofs.Common.{ℕ, zero, suc, ◌-◌, List, [], ◌∷◌, refl, sym, subst, arith, inl}
use Rattle.std.specs.Prelude.{Some, None, replicate, All}
use Rattle.std.proofs.lemmas.List.{get_or-replicate, length-replicate}
use Rattle.std.proofs.lemmas.Bool.{false≢true}
use Rattle.psx_base.specs.declared.stop.Sizes.{Sizes}
use Rattle.psx_base.specs.Memory.{Memory}
use Rattle.psx_base.specs.KernelState.{Free, Used, Event}
use Rattle.kern_layout.specs.Reads.{no_event}
use Rattle.kern_layout.specs.Valid.{Valid, ThreadRests, IsStatus, ChainFits, FileFits}
use Rattle.kern_layout.specs.Start.{opening, start, SizesFit}

-- what holds of the first and of each that follows holds of all
pub all_cons : {X : Type 0} (P : X → Type 0) (x : X) (xs : List X) → P x → All P xs → All P (x ∷ xs)
all_cons P x xs h t zero d lt = h
all_cons P x xs h t (suc k) d lt = t k d (omega arith)

all_same : {X : Type 0} (P : X → Type 0) (n : ℕ) (x : X) → P x → All P (replicate n x)
all_same P n x h k d lt = subst P (sym (get_or-replicate n k x d (omega (arith, lt, length-replicate n x)))) h

all_none : {X : Type 0} (P : X → Type 0) → All P []
all_none P k d lt = absurd (omega arith)

no_elements : ChainFits []
no_elements = record { few = omega arith; each = λ k d lt. absurd (omega arith) }

pub start-valid : (pc gp stack : ℕ) (m : Memory) (sizes : Sizes) → SizesFit sizes → Valid (start pc gp stack m sizes)
start-valid pc gp stack m sizes fit = record {
  threads_least = omega (arith, length-replicate (sizes.threads - 1) Free, fit.threads_least);
  threads_most = omega (arith, length-replicate (sizes.threads - 1) Free, fit.threads_most);
  threads = all_cons ThreadRests (Used (opening pc gp stack)) (replicate (sizes.threads - 1) Free) record { follows = refl; no_slot = refl; k0 = refl; k1 = refl; none_pending = refl } (all_same ThreadRests (sizes.threads - 1) Free tt);
  current = omega arith;
  running = record { follows = λ e. refl; branch = λ e. absurd (false≢true e) };
  next = tt;
  events_least = omega (arith, length-replicate sizes.events no_event, fit.events_least);
  events_most = omega (arith, length-replicate sizes.events no_event, fit.events_most);
  statuses = all_same (λ (e : Event). IsStatus e.status) sizes.events no_event (inl refl);
  frames_most = omega arith;
  frames = λ k d lt. absurd (omega arith);
  chains_count = refl;
  chains = all_cons ChainFits [] ([] ∷ [] ∷ [] ∷ []) no_elements (all_cons ChainFits [] ([] ∷ [] ∷ []) no_elements (all_cons ChainFits [] ([] ∷ []) no_elements (all_cons ChainFits [] [] no_elements (all_none ChainFits))));
  heap = record { base = refl; few = omega arith; sizes = λ k d lt. absurd (omega arith); joined = tt; bytes = refl };
  files_count = refl;
  files = all_cons FileFits (Some 1) (Some 2 ∷ replicate 14 None) (omega arith, omega arith) (all_cons FileFits (Some 2) (replicate 14 None) (omega arith, omega arith) (all_same FileFits 14 None tt));
  line = omega arith;
}
