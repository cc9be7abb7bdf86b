-- The counters' ports, as the listings compute their addresses.
use Rattle.std.proofs.Common.{◌≡◌, ℕ, zero, suc, ◌+◌, ◌*◌, ◌%◌, ◌^◌, ◌<◌, ◌≤◌, [], false, refl, sym, ap, ◌∙◌, arith, lt-ltb, le-ltb}
use Rattle.std.specs.Prelude.{true, nat_lt, if◌then◌else◌}
use Rattle.psx_base.specs.Addresses.{place}
use Rattle.psx_base.specs.Ports.{value_port, mode_port, target_port}
use Rattle.psx_base.specs.KernelState.{KernelState}
use Rattle.psx_cpu.specs.Words.{truth}
use Rattle.psx_flow.specs.Run.{Run}
use Rattle.psx_flow.specs.Told.{ports}
use Rattle.psx_flow.proofs.Log.{Port, word_sort}
use Rattle.abs_kernel.specs.Stay.{Stay}
use Rattle.abs_kernel.specs.Answered.{registers_of, answered}
use Rattle.abs_kernel.specs.Counters.{of_counter}
use Rattle.kern_stay.specs.declared.places.TheConstants.{LEAVE}
use Rattle.kern_stay.specs.Follows.{is_own_port}
use Rattle.kern_stay.specs.Doors.{Holds, Through}
use Rattle.kern_stay.proofs.Ending.{through, answers}
use Rattle.kern_stay.proofs.RoomGiven.{true_then, false_then}

-- a port, o behind what stands in the register
pub record At (t o port : ℕ) : Type 0 where
  pub here : ((t * 2 ^ 4 % 2 ^ 32 + 0x1F800000) % 2 ^ 32 + o) % 2 ^ 32 ≡ port
  pub sort : word_sort port ≡ Port
  pub place : place port ≡ port
  pub other : is_own_port port ≡ false

pub at_value : (t : ℕ) → t < 3 → At t 0x1100 (value_port t)
at_value zero lt = record { here = refl; sort = refl; place = refl; other = refl }
at_value (suc zero) lt = record { here = refl; sort = refl; place = refl; other = refl }
at_value (suc (suc zero)) lt = record { here = refl; sort = refl; place = refl; other = refl }
at_value (suc (suc (suc t))) lt = absurd (omega (arith, lt))

pub at_mode : (t : ℕ) → t < 3 → At t 0x1104 (mode_port t)
at_mode zero lt = record { here = refl; sort = refl; place = refl; other = refl }
at_mode (suc zero) lt = record { here = refl; sort = refl; place = refl; other = refl }
at_mode (suc (suc zero)) lt = record { here = refl; sort = refl; place = refl; other = refl }
at_mode (suc (suc (suc t))) lt = absurd (omega (arith, lt))

pub at_target : (t : ℕ) → t < 3 → At t 0x1108 (target_port t)
at_target zero lt = record { here = refl; sort = refl; place = refl; other = refl }
at_target (suc zero) lt = record { here = refl; sort = refl; place = refl; other = refl }
at_target (suc (suc zero)) lt = record { here = refl; sort = refl; place = refl; other = refl }
at_target (suc (suc (suc t))) lt = absurd (omega (arith, lt))

-- ---- which number the call has

-- one that is below n, and another
pub below : (t n : ℕ) → (truth (nat_lt t n) ≡ 0 → ⊥) → nat_lt t n ≡ true
below t n some = lt-ltb t n (true_then t n some)

pub past : (t n : ℕ) → truth (nat_lt t n) ≡ 0 → nat_lt t n ≡ false
past t n none = le-ltb t n (false_then t n none)

pub there : (s : KernelState) (stay : ℕ → Stay) → let t = (registers_of s).r4 in (truth (nat_lt t 3) ≡ 0 → ⊥) → of_counter s stay ≡ stay t
there s stay some = let t = (registers_of s).r4 in ap (λ b. if b then stay t else answered s 0) (below t 3 some)

-- another number is answered by 0
pub no_counter : (s : KernelState) (stay : ℕ → Stay) (most : ℕ) (e : Run) → truth (nat_lt (registers_of s).r4 3) ≡ 0 → e.regs.r2 ≡ 0 → ports e.seen ≡ [] → Holds s e.bytes → e.steps ≤ most
    → Through (of_counter s stay) most LEAVE e
no_counter s stay most e above is_zero quiet holds few =
    let t = (registers_of s).r4 in
    let is : of_counter s stay ≡ answered s e.regs.r2 = ap (λ b. if b then stay t else answered s 0) (past t 3 above) ∙ ap (answered s) (sym is_zero) in
    through (of_counter s stay) most LEAVE e quiet (answers most s e (of_counter s stay) is holds few)
