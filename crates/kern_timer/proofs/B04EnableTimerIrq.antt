-- enable_timer_irq and disable_timer_irq meet their stays.
use Rattle.psx_flow.proofs.Kit.{◌≡◌, ℕ, ◌+◌, ◌-◌, ◌*◌, ◌%◌, ◌^◌, ◌<◌, ◌≤◌, inl, refl, sym, ap, ◌∙◌, arith, calls, kernel_words, fair, start, [], ◌∷◌, Run, PortRead, PortWrite}
use Rattle.std.proofs.Common.{zero, suc}
use Rattle.std.specs.Prelude.{nat_lt, bit_and, bit_or, if◌then◌else◌}
use Rattle.std.specs.Int.Bits.{or_zero_r}
use Rattle.psx_base.specs.Ports.{I_MASK}
use Rattle.psx_base.specs.KernelState.{KernelState}
use Rattle.psx_cpu.specs.Words.{truth}
use Rattle.psx_flow.specs.Told.{ports}
use Rattle.abs_kernel.specs.Stay.{Stay, Ask, Tell}
use Rattle.abs_kernel.specs.Answered.{registers_of, answered}
use Rattle.abs_kernel.specs.Counters.{line_of, masks}
use Rattle.abs_kernel.specs.EnableTimerIrq.{enable_timer_irq}
use Rattle.abs_kernel.specs.DisableTimerIrq.{disable_timer_irq}
use Rattle.abs_kernel.specs.Tasks.{without_line}
use Rattle.abs_kernel.specs.declared.calls.CallId.TheVariants.{B04, B05}
use Rattle.abs_kernel.specs.Calls.{call}
use Rattle.kern_stay.specs.declared.places.TheConstants.{LEAVE}
use Rattle.kern_stay.specs.Shared.{tree, tested_there}
use Rattle.kern_stay.specs.Doors.{Holds, Through, Serves, called_with, begun, most_steps}
use Rattle.kern_stay.proofs.Ending.{through, through_as, answers}
use Rattle.kern_stay.proofs.Passing.{answers_now}
use Rattle.kern_stay.proofs.RoomGiven.{true_then}
use Rattle.kern_timer.specs.declared.places.TheConstants.{ENABLE_TIMER_IRQ, DISABLE_TIMER_IRQ}
use Rattle.kern_timer.specs.declared.b04_enable_timer_irq.TheConstants.{NODES, DISABLE_NODES}
use Rattle.kern_timer.proofs.CounterPorts.{below, past}

-- the line's bit by a shift: of a counter, and of VBLANK
counter_bit : (t : ℕ) → t < 4 → (t ≡ 3 → ⊥) → 1 * 2 ^ ((t + 4) % 2 ^ 32 % 32) % 2 ^ 32 ≡ 2 ^ line_of t
counter_bit zero lt ne = refl
counter_bit (suc zero) lt ne = refl
counter_bit (suc (suc zero)) lt ne = refl
counter_bit (suc (suc (suc zero))) lt ne = absurd (ne refl)
counter_bit (suc (suc (suc (suc t)))) lt ne = absurd (omega (arith, lt))

blank_bit : (t : ℕ) → t ≡ 3 → 1 ≡ 2 ^ line_of t
blank_bit t e = ap (λ t. 2 ^ line_of t) (sym e)

module _ (change : (mask line : ℕ) → ℕ) (s : KernelState) (most : ℕ) (e : Run) (holds : Holds s e.bytes) (few : e.steps ≤ most) where
  -- the mask x was read, and v is written
  changed : (x v : ℕ) → (truth (nat_lt (registers_of s).r4 4) ≡ 0 → ⊥) → ports e.seen ≡ PortWrite I_MASK v ∷ PortRead I_MASK x ∷ [] → v ≡ change x (line_of (registers_of s).r4) → e.regs.r2 ≡ 1
      → Through (masks change s) most LEAVE e
  changed x v some told is_changed one =
      let t = (registers_of s).r4 in
      let stay : Stay = Ask I_MASK (λ mask. Tell I_MASK (change mask (line_of t)) (answered s 1)) in
      through_as (masks change s) stay most LEAVE e (ap (λ b. if b then stay else answered s 0) (below t 4 some))
      (record { told = _; ports = told; follows = ((tt, refl), (refl, is_changed, refl)); ends = inl (answers_now s most e (answered s 1) (ap (answered s) (sym one)) holds few) })

  unchanged : truth (nat_lt (registers_of s).r4 4) ≡ 0 → ports e.seen ≡ [] → e.regs.r2 ≡ 0 → Through (masks change s) most LEAVE e
  unchanged none quiet is_zero =
      let t = (registers_of s).r4 in
      let stay : Stay = Ask I_MASK (λ mask. Tell I_MASK (change mask (line_of t)) (answered s 1)) in
      through (masks change s) most LEAVE e quiet (answers most s e (masks change s) (ap (λ b. if b then stay else answered s 0) (past t 4 none) ∙ ap (answered s) (sym is_zero)) holds few)

pub serves : Serves [] most_steps (call B04) ENABLE_TIMER_IRQ (tree NODES)
serves s d z m h =
    let t : ℕ = (registers_of s).r4 in
    let set = λ (mask line : ℕ). bit_or mask (2 ^ line) in
    start (calls kernel_words tested_there) (fair kernel_words tested_there) (tree NODES) ENABLE_TIMER_IRQ (λ _. ⊥)
    (λ to e. Through (enable_timer_irq s) most_steps to e) (begun (called_with (registers_of s) d) z m) (
      λ some. (
        λ blank x small. changed set s most_steps _ h.holds (omega arith) x _ some refl (ap (bit_or x) (blank_bit t blank)) refl,
        λ counter x small. changed set s most_steps _ h.holds (omega arith) x _ some refl (ap (bit_or x) (counter_bit t (true_then t 4 some) counter)) refl,
      ),
      λ none. unchanged set s most_steps _ h.holds (omega arith) none refl refl,
    )

pub disable_serves : Serves [] most_steps (call B05) DISABLE_TIMER_IRQ (tree DISABLE_NODES)
disable_serves s d z m h =
    let t : ℕ = (registers_of s).r4 in
    let clear = λ (mask line : ℕ). bit_and mask (without_line line) in
    start (calls kernel_words tested_there) (fair kernel_words tested_there) (tree DISABLE_NODES) DISABLE_TIMER_IRQ (λ _. ⊥)
    (λ to e. Through (disable_timer_irq s) most_steps to e) (begun (called_with (registers_of s) d) z m) (
      λ some. (
        λ blank x small. changed clear s most_steps _ h.holds (omega arith) x _ some refl (ap (λ b. bit_and x (2 ^ 32 - 1 - b)) (blank_bit t blank)) refl,
        λ counter x small.
            changed clear s most_steps _ h.holds (omega arith) x _ some refl (ap (λ b. bit_and x (2 ^ 32 - 1 - b)) (or_zero_r _ ∙ counter_bit t (true_then t 4 some) counter)) refl,
      ),
      λ none. unchanged clear s most_steps _ h.holds (omega arith) none refl refl,
    )
