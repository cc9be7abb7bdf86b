-- Each event is come to in one stay of a delivery.
use Rattle.std.proofs.Common.{◌≡◌, ℕ, suc, ◌<◌, ◌≤◌, inl, inr, Bool, true, false, List, [], ◌∷◌, length, refl, sym, ap, ◌∙◌, subst, arith, ⊎_elim}
use Rattle.std.specs.Prelude.{nat_eq, not, ◌&&◌, if◌then◌else◌}
use Rattle.std.proofs.lemmas.Bool.{false≢true, cases_lt}
use Rattle.std.proofs.lemmas.List.{get_or_past}
use Rattle.psx_base.specs.KernelState.{ThreadContext, Event, KernelState}
use Rattle.kern_layout.specs.Reads.{event, no_event}
use Rattle.abs_kernel.specs.Events.{marked}
use Rattle.abs_kernel.specs.Scan.{calling, matches, is_called, made_ready}
use Rattle.abs_kernel.specs.WorkLaws.{delivered}
use Rattle.kern_event.specs.DeliveryLaws.{CallbackRun, behind, CallsAt, Ends, ReachesAll, Judged, Untouched, Once, EachOnce}

module _ (class spec : ℕ) (c : ThreadContext) where
  -- an event whose function is to be called isn't made ready
  called_stays : (e : Event) → is_called class spec e ≡ true → delivered class spec e ≡ e
  called_stays e h = ap (λ b. if b then made_ready e else e) (other (matches class spec e) (nat_eq e.mode calling) (nat_eq e.mode marked) (not (nat_eq e.function 0)) modes h)
    where
      modes : nat_eq e.mode calling ≡ true → nat_eq e.mode marked ≡ false
      modes h = grind arith

      other : (m a b f : Bool) → (a ≡ true → b ≡ false) → (m && (a && f)) ≡ true → (m && b) ≡ false
      other false a b f h e = refl
      other true false b f h e = absurd (false≢true e)
      other true true b f h e = h refl

  not_called : (k : ℕ) (s t : KernelState) → event t k ≡ delivered class spec (event s k) → is_called class spec (event s k) ≡ false → Judged class spec c k s t
  not_called k s t e none = record { ready = e; called = λ is. absurd (false≢true (sym none ∙ is)) }

  -- in the last stay
  in_the_last : (from k : ℕ) (s t : KernelState) → Ends class spec c from s t → from ≤ k → Judged class spec c k s t
  in_the_last from k s t h le = ⊎_elim
      (λ (lt : k < length s.events). not_called k s t (h.ready.within k le lt) (h.none k le lt))
      (λ (past : length s.events ≤ k).
      let none : event s k ≡ no_event = get_or_past s.events k no_event past in
      not_called k s t (h.ready.behind k past ∙ none ∙ ap (delivered class spec) (sym none)) (ap (is_called class spec) none)) (cases_lt k (length s.events))

  -- in a stay that calls a function
  up_to_the_call : (from to k : ℕ) (s t : KernelState) → CallsAt class spec c [] from to s t → from ≤ k → k ≤ to → Judged class spec c k s t
  up_to_the_call from to k s t h le most = ⊎_elim (λ (lt : k < to). not_called k s t (h.ready.within k le lt) (h.none k le lt)) (λ (g : to ≤ k). at (omega (arith, g, most))) (cases_lt k to)
    where
      at : k ≡ to → Judged class spec c k s t
      at q = subst (λ j. Judged class spec c j s t) (sym q)
          (record { ready = h.ready.behind to (omega arith) ∙ sym (called_stays (event s to) h.called); called = λ is. ap (λ x. x.running) h.begins })

  -- those before the number from which it goes on stay
  untouched : (runs : List CallbackRun) (from k : ℕ) (s t : KernelState) → ReachesAll class spec c runs from s t → k < from → Untouched k runs s t
  untouched [] from k s t h lt = h.ready.before k lt
  untouched (run ∷ runs) from k s t (to, h, more) lt = let low = h.low in (h.ready.before k lt, untouched runs (suc to) k (behind s.frames run) run.after more (omega (arith, lt, low)))

  once : (runs : List CallbackRun) (from k : ℕ) (s t : KernelState) → ReachesAll class spec c runs from s t → from ≤ k → Once class spec c k runs s t
  once [] from k s t h le = in_the_last from k s t h le
  once (run ∷ runs) from k s t (to, h, more) le = ⊎_elim
      (λ (lt : k < suc to). inl (up_to_the_call from to k s t h le (omega (arith, lt)), untouched runs (suc to) k (behind s.frames run) run.after more lt))
      (λ (g : suc to ≤ k). inr (h.ready.behind k (omega (arith, g)), once runs (suc to) k (behind s.frames run) run.after more g)) (cases_lt k (suc to))

pub each_once : EachOnce
each_once s t c class spec runs h k = once class spec c runs 0 k s t h (omega arith)
