-- The ends of the calls on root counters.
use Rattle.std.proofs.Common.{ℕ, Bool}
use Rattle.std.specs.Prelude.{◌^◌, nat_lt, bit_and, bit_or}
use Rattle.psx_base.specs.declared.stop.Stop.{Stop}
use Rattle.psx_base.specs.Memory.{Memory}
use Rattle.psx_base.specs.Context.{Context, IsAtRest}
use Rattle.psx_base.specs.KernelState.{KernelState}
use Rattle.psx_base.specs.Ports.{value_port, mode_port, target_port}
use Rattle.abs_kernel.specs.Stay.{Stay, Ask, Tell}
use Rattle.abs_kernel.specs.Answered.{registers_of, answered}
use Rattle.abs_kernel.specs.Counters.{of_counter, masks}
use Rattle.abs_kernel.specs.InitTimer.{mode_of, init_timer}
use Rattle.abs_kernel.specs.GetTimer.{get_timer}
use Rattle.abs_kernel.specs.EnableTimerIrq.{enable_timer_irq}
use Rattle.abs_kernel.specs.DisableTimerIrq.{disable_timer_irq}
use Rattle.abs_kernel.specs.RestartTimer.{restart_timer}
use Rattle.abs_kernel.specs.Tasks.{without_line}
use Rattle.abs_kernel.specs.StayLaws.{EachEnd}
use Rattle.abs_kernel.proofs.Ending.{running_in, if_ends, answered_ends}

module _ (P : KernelState → Type 0) (Q : Stop → Memory → Type 0) (s : KernelState)
    (halts : (stop : Stop) → Q stop s.memory) (returns : (c : Context) (on : Bool) → IsAtRest c → P (running_in s c on)) where
  counter_ends : (stay : ℕ → Stay) → ((t : ℕ) → EachEnd P Q (stay t)) → EachEnd P Q (of_counter s stay)
  counter_ends stay h = if_ends P Q (nat_lt (registers_of s).r4 3) _ _ (h (registers_of s).r4) (answered_ends P Q s halts returns 0)

  masks_ends : (change : (mask line : ℕ) → ℕ) → EachEnd P Q (masks change s)
  masks_ends change = if_ends P Q (nat_lt (registers_of s).r4 4) _ _ (λ mask. answered_ends P Q s halts returns 1) (answered_ends P Q s halts returns 0)

  at_once : (value : ℕ) → EachEnd P Q (answered s value)
  at_once value = answered_ends P Q s halts returns value

  pub init_timer_ends : EachEnd P Q (init_timer s)
  init_timer_ends =
      let r = registers_of s in
      counter_ends (λ t. Tell (mode_port t) 0 (Tell (target_port t) r.r5 (Tell (mode_port t) (mode_of r.r6) (answered s 1)))) (λ t. at_once 1)

  pub get_timer_ends : EachEnd P Q (get_timer s)
  get_timer_ends = counter_ends (λ t. Ask (value_port t) (λ value. answered s value)) (λ t value. at_once value)

  pub enable_timer_irq_ends : EachEnd P Q (enable_timer_irq s)
  enable_timer_irq_ends = masks_ends (λ mask line. bit_or mask (2 ^ line))

  pub disable_timer_irq_ends : EachEnd P Q (disable_timer_irq s)
  disable_timer_irq_ends = masks_ends (λ mask line. bit_and mask (without_line line))

  pub restart_timer_ends : EachEnd P Q (restart_timer s)
  restart_timer_ends = counter_ends (λ t. Tell (value_port t) 0 (answered s 1)) (λ t. at_once 1)
