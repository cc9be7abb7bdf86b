-- CloseThread meets its stay.
use Rattle.psx_flow.proofs.Kit.{◌≡◌, ℕ, suc, ◌+◌, ◌%◌, ◌^◌, ◌<◌, ◌≤◌, refl, sym, ap, ◌∙◌, arith, calls, kernel_words, fair, start, true, false, [], word}
use Rattle.std.proofs.Common.{length, ne_eqb, eq-eqb}
use Rattle.std.proofs.lemmas.Bool.{lt-ltb}
use Rattle.std.specs.Prelude.{Bool, Option, Some, None, nat_lt, if◌then◌else◌}
use Rattle.psx_base.specs.KernelState.{Free, KernelState}
use Rattle.kern_layout.specs.Stores.{with_thread}
use Rattle.kern_layout.specs.Reads.{next_word}
use Rattle.abs_kernel.specs.Answered.{registers_of, answered}
use Rattle.abs_kernel.specs.Threads.{number_of, bad_thread}
use Rattle.abs_kernel.specs.CloseThread.{other_than, with_freed, close_thread}
use Rattle.abs_kernel.specs.declared.calls.CallId.TheVariants.{B0F}
use Rattle.abs_kernel.specs.Calls.{call}
use Rattle.abs_kernel.proofs.Threaded.{ThreadsFit, valid_threaded}
use Rattle.kern_stay.specs.Shared.{tree, tested_there}
use Rattle.kern_stay.specs.Doors.{Through, Serves, called_with, begun, most_steps}
use Rattle.kern_stay.proofs.Ending.{through, answers, refuses_thread}
use Rattle.kern_stay.proofs.RoomGiven.{true_then, false_then}
use Rattle.kern_thread.specs.declared.places.TheConstants.{CLOSE_THREAD}
use Rattle.kern_thread.specs.declared.b0f_close_thread.TheConstants.{NODES}
use Rattle.kern_stay.proofs.Slots.{at_thread}
use Rattle.kern_thread.proofs.ThreadsHeld.{holds_freed, holds_next}

-- the thread to take up later, where its word names this one, and where not
same_gone : (n : ℕ) (o : Option ℕ) → next_word o ≡ suc n → other_than n o ≡ None
same_gone n None e = absurd (omega (arith, e))
same_gone n (Some k) e = ap (λ b. if b then None else Some k) (eq-eqb k n (omega (arith, e)))

other_kept : (n : ℕ) (o : Option ℕ) → (next_word o ≡ suc n → ⊥) → other_than n o ≡ o
other_kept n None ne = refl
other_kept n (Some k) ne = ap (λ b. if b then None else Some k) (ne_eqb k n (λ e. ne (ap suc e)))

pub serves : Serves [] most_steps (call B0F) CLOSE_THREAD (tree NODES)
serves s d z m h =
    let n : ℕ = number_of (registers_of s).r4 in
    let valid = h.valid in
    let count : word m 0xEA0C ≡ length s.threads = h.holds.reads.variables.1.1.1.0 in
    let next : word m 0xEA04 ≡ next_word s.next = h.holds.reads.variables.1.0 in
    let by : (b : Bool) → nat_lt n (length s.threads) ≡ b → close_thread s ≡ (if b then answered (with_freed s n) 1 else bad_thread s) =
    λ b e. ap (λ b. if b then answered (with_freed s n) 1 else bad_thread s) e in
    start (calls kernel_words tested_there) (fair kernel_words tested_there) (tree NODES) CLOSE_THREAD (λ _. ⊥)
    (λ to e. Through (close_thread s) most_steps to e) (begun (called_with (registers_of s) d) z m) (
      λ some.
          let lt = true_then n (word m 0xEA0C) some in
          let few : n < length s.threads = omega (arith, lt, count) in
          let a = at_thread n (omega (arith, few, valid.threads_most)) in
          let is = by true (lt-ltb n (length s.threads) few) in
          let more : (n + 1) % 2 ^ 32 ≡ suc n = omega (arith, few, valid.threads_most) in
          rw (a.block, a.sort, a.place) (
            λ same.
                let none : ThreadsFit s s.threads s.current None = record { count = refl; rest = valid.threads; running = valid.current; next = tt } in
                let t : KernelState = record s { next = None } in
                let held = holds_freed t (valid_threaded s s.threads s.current None valid none) _ (holds_next s valid m h.holds None none 0 refl) n few in
                let gone = same_gone n s.next (sym next ∙ same ∙ more) in
                through (close_thread s) most_steps _ _ refl (answers most_steps (with_thread t n Free) _ (close_thread s)
                (is ∙ ap (λ o. answered (record (with_thread s n Free) { next = o }) 1) gone) held (omega arith)),
            λ other.
                let kept = other_kept n s.next (λ e. other (next ∙ e ∙ sym more)) in
                through (close_thread s) most_steps _ _ refl (answers most_steps (with_thread s n Free) _ (close_thread s)
                (is ∙ ap (λ o. answered (record (with_thread s n Free) { next = o }) 1) kept) (holds_freed s valid m h.holds n few) (omega arith)),
          ),
      λ none.
          let ge = false_then n (word m 0xEA0C) none in
          let is = by false (let above : length s.threads ≤ n = omega (arith, ge, count) in not_below n (length s.threads) above) in
          through (close_thread s) most_steps _ _ refl (refuses_thread most_steps s _ (close_thread s) is h.holds (omega arith)),
    )
  where
    not_below : (a b : ℕ) → b ≤ a → nat_lt a b ≡ false
    not_below a b g = grind arith
