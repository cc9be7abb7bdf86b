-- The ends of the calls on threads.
use Rattle.std.proofs.Common.{◌≡◌, ℕ, zero, suc, ◌+◌, ◌<◌, Bool, true, false, List, [], ◌∷◌, length, refl, sym, ap, ◌∙◌, arith, ⊎_elim}
use Rattle.std.specs.Prelude.{Option, Some, None, nat_eq, nat_lt, ◌||◌, slice_index_or, slice_set, if◌then◌else◌}
use Rattle.std.proofs.lemmas.Bool.{false≢true, cases_lt, ltb-true}
use Rattle.std.proofs.lemmas.List.{length-set, get_or_past}
use Rattle.psx_base.specs.declared.stop.Stop.{Stop}
use Rattle.psx_base.specs.Memory.{Memory}
use Rattle.psx_base.specs.Context.{Context, IsAtRest}
use Rattle.psx_base.specs.KernelState.{Thread, Free, Used, Frame, KernelState}
use Rattle.kern_layout.specs.Reads.{thread}
use Rattle.kern_layout.specs.Valid.{ThreadRests, IsUsed, NextFits, Valid}
use Rattle.abs_kernel.specs.Answered.{registers_of, answered}
use Rattle.abs_kernel.specs.StayLaws.{EachEnd}
use Rattle.abs_kernel.specs.Threads.{number_of, handle_of, is_used}
use Rattle.abs_kernel.specs.CloseThread.{other_than, close_thread}
use Rattle.abs_kernel.specs.OpenThread.{new_thread, opens_from, open_thread}
use Rattle.abs_kernel.specs.ChangeThread.{with_next, changes_to, change_thread}
use Rattle.abs_kernel.specs.Switching.{caller, keeps, context_of, switched}
use Rattle.abs_kernel.proofs.Threaded.{ThreadsFit, threads_same, rests_set, next_set}
use Rattle.abs_kernel.proofs.Ending.{running_in, answered_ends, if_ends, if_ends_by}

-- ---- what fits

different : (k n : ℕ) → nat_eq k n ≡ false → k ≡ n → ⊥
different k n h e = grind arith

not_freed : (s : KernelState) (n : ℕ) (o : Option ℕ) → n < length s.threads → NextFits s o → NextFits (record s { threads = slice_set s.threads n Free; next = other_than n o }) (other_than n o)
not_freed s n None few f = tt
not_freed s n (Some k) few f = chosen (nat_eq k n) refl
  where
    chosen : (b : Bool) → nat_eq k n ≡ b → (let now : Option ℕ = if b then None else Some k in NextFits (record s { threads = slice_set s.threads n Free; next = now }) now)
    chosen true e = tt
    chosen false e = next_set s n Free (Some k) k few (λ q. absurd (different k n e q)) f

pub freed_fits : (s : KernelState) (n : ℕ) → n < length s.threads → Valid s → ThreadsFit s (slice_set s.threads n Free) s.current (other_than n s.next)
freed_fits s n few v = record {
  count = length-set s.threads n Free;
  rest = rests_set s.threads n Free tt v.threads;
  running = omega (arith, v.current, length-set s.threads n Free);
  next = not_freed s n s.next few v.next;
}

still_used : (s : KernelState) (n : ℕ) (t : Thread) (o : Option ℕ) → IsUsed t → n < length s.threads → NextFits s o → NextFits (record s { threads = slice_set s.threads n t }) o
still_used s n t None ok few f = tt
still_used s n t (Some k) ok few f = next_set s n t s.next k few (λ q. ok) f

pub used_fits : (s : KernelState) (n : ℕ) (t : Thread) → IsUsed t → ThreadRests t → n < length s.threads → Valid s → ThreadsFit s (slice_set s.threads n t) s.current s.next
used_fits s n t used ok few v = record {
  count = length-set s.threads n t;
  rest = rests_set s.threads n t ok v.threads;
  running = omega (arith, v.current, length-set s.threads n t);
  next = still_used s n t s.next used few v.next;
}

-- a used slot is one of the table
pub used_few : (s : KernelState) (n : ℕ) → is_used (thread s n) ≡ true → n < length s.threads
used_few s n h = ⊎_elim (λ (l : n < length s.threads). l) (λ g. absurd (false≢true (let e : false ≡ true = sym (ap is_used (get_or_past s.threads n Free g)) ∙ h in e))) (cases_lt n (length s.threads))

used_is : (t : Thread) → is_used t ≡ true → IsUsed t
used_is Free h = absurd (false≢true h)
used_is (Used t) h = tt

pub next_fits : (s : KernelState) (n : ℕ) (f : Frame) (fs : List Frame) → s.frames ≡ f ∷ fs → is_used (thread s n) ≡ true
    → Valid s → ThreadsFit s s.threads s.current (if nat_eq n s.current then None else Some n)
next_fits s n f fs e h v = record { count = refl; rest = v.threads; running = v.current; next = chosen (nat_eq n s.current) refl }
  where
    chosen : (b : Bool) → nat_eq n s.current ≡ b → (let now : Option ℕ = if b then None else Some n in NextFits (record s { next = now }) now)
    chosen true q = tt
    chosen false q = (used_few s n h, used_is (thread s n) h, different n s.current q, (let l : length s.frames ≡ suc (length fs) = ap length e in omega (arith, l)))

kept_rests : (s : KernelState) (t : Thread) → ThreadRests t → ThreadRests (keeps (caller s) t)
kept_rests s Free h = tt
kept_rests s (Used u) h = record { follows = refl; no_slot = refl; k0 = refl; k1 = refl; none_pending = refl }

no_next : (s t : KernelState) (o : Option ℕ) → s.frames ≡ [] → NextFits s o → NextFits t o
no_next s t None e f = tt
no_next s t (Some k) e f = let l : length s.frames ≡ 0 = ap length e in let some = f.3 in absurd (omega (arith, l, some))

pub switched_fits : (s : KernelState) (n : ℕ) → s.frames ≡ [] → n < length s.threads → Valid s → ThreadsFit s (switched s n).threads n s.next
switched_fits s n none few v =
    let t : Thread = keeps (caller s) (thread s s.current) in
    record {
      count = length-set s.threads s.current t;
      rest = rests_set s.threads s.current t (kept_rests s (thread s s.current) (v.threads s.current Free v.current)) v.threads;
      running = omega (arith, few, length-set s.threads s.current t);
      next = no_next s (record s { threads = (switched s n).threads; current = n }) s.next none v.next;
    }

context_rests : (t : Thread) → ThreadRests t → IsAtRest (context_of t).context
context_rests Free h = record { follows = refl; no_slot = refl; k0 = refl; k1 = refl; none_pending = refl }
context_rests (Used t) h = h

pub switched_rests : (s : KernelState) (n : ℕ) → s.frames ≡ [] → n < length s.threads → Valid s → IsAtRest (switched s n).running.context
switched_rests s n none few v = let f = switched_fits s n none few v in context_rests (slice_index_or (switched s n).threads n Free) (f.rest n Free f.running)

-- ---- the ends

module _ (P : KernelState → Type 0) (Q : Stop → Memory → Type 0) (s : KernelState)
    (halts : (stop : Stop) → Q stop s.memory)
    (returns : (threads : List Thread) (current : ℕ) (next : Option ℕ) (c : Context) (on : Bool) → (Valid s → ThreadsFit s threads current next) → (Valid s → IsAtRest c)
    → P (running_in (record s { threads = threads; current = current; next = next }) c on)) where
  threaded : (threads : List Thread) (next : Option ℕ) (value : ℕ) → (Valid s → ThreadsFit s threads s.current next) → EachEnd P Q (answered (record s { threads = threads; next = next }) value)
  threaded threads next value fit = answered_ends P Q (record s { threads = threads; next = next }) halts (λ c on r. returns threads s.current next c on fit (λ v. r)) value

  pub close_thread_ends : EachEnd P Q (close_thread s)
  close_thread_ends =
      let n = number_of (registers_of s).r4 in
      if_ends_by P Q (nat_lt n (length s.threads)) _ _ (λ e. threaded (slice_set s.threads n Free) (other_than n s.next) 1 (freed_fits s n (ltb-true n (length s.threads) e))) (λ e. halts _)

  opened_ends : (k n : ℕ) → n + k ≡ length s.threads → EachEnd P Q (opens_from k s n)
  opened_ends zero n e = threaded s.threads s.next _ (threads_same s)
  opened_ends (suc k) n e =
      let r = registers_of s in
      let t : Thread = Used (new_thread r.r4 r.r5 r.r6) in
      if_ends P Q (is_used (thread s n) || nat_eq n s.current) _ _ (opened_ends k (suc n) (omega (arith, e)))
      (threaded (slice_set s.threads n t) s.next (handle_of n) (used_fits s n t tt (record { follows = refl; no_slot = refl; k0 = refl; k1 = refl; none_pending = refl }) (omega (arith, e))))

  pub open_thread_ends : EachEnd P Q (open_thread s)
  open_thread_ends = opened_ends (length s.threads) 0 (omega arith)

  changed_ends : (n : ℕ) → is_used (thread s n) ≡ true → (fs : List Frame) → s.frames ≡ fs → EachEnd P Q (changes_to s n fs)
  changed_ends n h [] e =
      let few = used_few s n h in
      returns (switched s n).threads n s.next (switched s n).running.context (switched s n).running.interrupts (switched_fits s n e few) (switched_rests s n e few)
  changed_ends n h (f ∷ fs) e = threaded s.threads (with_next s n).next 1 (next_fits s n f fs e h)

  pub change_thread_ends : EachEnd P Q (change_thread s)
  change_thread_ends = let n = number_of (registers_of s).r4 in if_ends_by P Q (is_used (thread s n)) _ _ (λ h. changed_ends n h s.frames refl) (λ h. halts _)
