-- Backwards over steps: words that finish behind the next step finish with one more, and so do those that come to the end of a stay.
use Rattle.std.proofs.Common.{◌≡◌, ℕ, zero, suc, ◌+◌, ◌≤◌, inl, inr, List, [], Bool, true, false, Option, Some, None, subst, arith}
use Rattle.std.specs.Prelude.{nat_eq, nat_le, ◌&&◌, if◌then◌else◌}
use Rattle.psx_base.specs.Ports.{CONSOLE_STATUS, CONSOLE_DATA, HALT, HALT_A, HALT_B, HALT_C}
use Rattle.psx_base.specs.declared.stop.Stop.{Stop}
use Rattle.psx_base.specs.Memory.{Memory}
use Rattle.psx_base.specs.KernelState.{KernelState}
use Rattle.psx_cpu.specs.Processor.{Core}
use Rattle.psx_cpu.specs.Step.{Move, Goes, Reads, Writes, Enters, Leaves, Stops, step}
use Rattle.psx_ports.specs.HaltCodes.{halt_stop}
use Rattle.psx_flow.specs.Run.{Access}
use Rattle.psx_flow.specs.Plain.{went, seen_at}
use Rattle.abs_kernel.specs.Stay.{Stay, Return, Halt, Ask, Tell, Write, Touch}
use Rattle.abs_run.specs.InKernel.{InKernel, Sign, Nothing, PortRead, PortWritten, Printed, LeftKernel, EndedRun, Strayed, halt_sign, write_sign, sign_of}
use Rattle.abs_run.specs.Serves.{Onward, Comes, Returns, HaltsWith, Runs, FinishesOn, Finishes}
use Rattle.kern_entry.specs.Within.{Aim, Onto, Steps, Within}

-- ---- with more steps left

on_more : (X Y : InKernel → Type 0) → ((next : InKernel) → X next → Y next) → (sign : Sign) → FinishesOn X sign → FinishesOn Y sign
on_more X Y f (Nothing next) h = f next h
on_more X Y f (PortRead next at value) h = f next h
on_more X Y f (PortWritten next at value) h = f next h
on_more X Y f (Printed next byte) h = f next h
on_more X Y f (LeftKernel next) h = h
on_more X Y f (EndedRun next stop) h = h
on_more X Y f Strayed h = h

pub finishes_least : (n m : ℕ) (k : InKernel) → n ≤ m → Finishes n k → Finishes m k
finishes_least zero m k le h = absurd h
finishes_least (suc n) zero k le h = absurd (omega (arith, le))
finishes_least (suc n) (suc m) k le h = λ bus lt. on_more (Finishes n) (Finishes m) (λ next f. finishes_least n m next (omega (arith, le)) f) (sign_of k (step k.core bus)) (h bus lt)

-- ---- at the end of a stay

-- the last step returns or ends the run
abbrev IsLast : (Sign → ℕ → Type 0) → Type 0
IsLast last = (n : ℕ) (sign : Sign) (left : ℕ) → last sign left → FinishesOn (Finishes n) sign

module _ (last : Sign → ℕ → Type 0) (is_last : IsLast last) where
  onward_finishes : (n : ℕ) (sign : Sign) → ((k : InKernel) → Comes last n k → Finishes n k) → Onward (Comes last n) (λ (x : Sign). last x n) sign → FinishesOn (Finishes n) sign
  onward_finishes n (Nothing next) f h = f next h
  onward_finishes n (PortRead next at value) f h = is_last n (PortRead next at value) n h
  onward_finishes n (PortWritten next at value) f h = is_last n (PortWritten next at value) n h
  onward_finishes n (Printed next byte) f h = is_last n (Printed next byte) n h
  onward_finishes n (LeftKernel next) f h = tt
  onward_finishes n (EndedRun next stop) f h = tt
  onward_finishes n Strayed f h = tt

  comes_finishes : (n : ℕ) (k : InKernel) → Comes last n k → Finishes n k
  comes_finishes zero k h = absurd h
  comes_finishes (suc n) k h = λ bus lt. onward_finishes n (sign_of k (step k.core bus)) (λ next c. comes_finishes n next c) (h bus lt)

-- a stay is at its end
abbrev pub IsEnd : Stay → Type 0
IsEnd (Return state) = Unit {0}
IsEnd (Halt stop memory) = Unit {0}
IsEnd _ = ⊥

module _ (rom : List ℕ) where
  returns_last : (state : KernelState) → IsLast (Returns rom state)
  returns_last state n (LeftKernel next) left h = tt
  returns_last state n _ left h = absurd h

  halts_last : (stop : Stop) (memory : Memory) → IsLast (HaltsWith stop memory)
  halts_last stop memory n (EndedRun next told) left h = tt
  halts_last stop memory n _ left h = absurd h

  pub end_finishes : (stay : Stay) (n : ℕ) (k : InKernel) → IsEnd stay → Runs rom stay n k → Finishes n k
  end_finishes (Return state) n k e h = comes_finishes (Returns rom state) (returns_last state) n k h
  end_finishes (Halt stop memory) n k e h = comes_finishes (HaltsWith stop memory) (halts_last stop memory) n k h
  end_finishes (Ask port next) n k e h = absurd e
  end_finishes (Tell port value next) n k e h = absurd e
  end_finishes (Write byte next) n k e h = absurd e
  end_finishes (Touch bytes next) n k e h = absurd e

-- ---- back over a step

-- the words finish, whatever was written to the halt ports
abbrev pub Finishing : ℕ → Aim
Finishing n k q = (a b c : ℕ) → Finishes n (record { core = k; a = a; b = b; c = c })

pub finishing_least : (n m : ℕ) (k : Core) (q r : List Access) → n ≤ m → Finishing n k q → Finishing m k r
finishing_least n m k q r le h = λ a b c. finishes_least n m (record { core = k; a = a; b = b; c = c }) le (h a b c)

module _ (n : ℕ) where
  abbrev On : Sign → Type 0
  On sign = FinishesOn (Finishes n) sign

  either : (v : Bool) (x y : Sign) → On x → On y → On (if v then x else y)
  either true x y g h = g
  either false x y g h = h

  on_halt : (k : InKernel) (o : Option Stop) → Finishes n k → On (halt_sign k o)
  on_halt k None h = h
  on_halt k (Some stop) h = tt

  on_write : (k : Core) (a b c at value : ℕ) → Finishing n k [] → On (write_sign (record { core = k; a = a; b = b; c = c }) at value)
  on_write k a b c at value h =
      either (nat_eq at CONSOLE_DATA) _ _ (h a b c)
      (either (nat_eq at HALT) _ _ (on_halt (record { core = k; a = a; b = b; c = c }) (halt_stop value a b c) (h a b c))
      (either (nat_eq at HALT_A) _ _ (h value b c)
      (either (nat_eq at HALT_B) _ _ (h a value c)
      (either (nat_eq at HALT_C) _ _ (h a b value)
      (either (nat_le CONSOLE_STATUS at && nat_le at HALT) _ _ tt (h a b c))))))

  on_move : (k : Core) (a b c : ℕ) (move : Move) (seen : List Access) → Onto (Finishing n) (went move) seen → On (sign_of (record { core = k; a = a; b = b; c = c }) move)
  on_move k a b c (Goes next) seen h = h a b c
  on_move k a b c (Reads next at value) seen h = h a b c
  on_move k a b c (Writes next at value) seen h = on_write next a b c at value h
  on_move k a b c (Enters next code) seen h = absurd h
  on_move k a b c (Leaves next) seen h = absurd h
  on_move k a b c (Stops stop) seen h = absurd h

pub finishing_back : (n : ℕ) (k : Core) (q : List Access) → Steps (Finishing n) k q → Finishing (suc n) k q
finishing_back n k q f = λ a b c bus lt. on_move n k a b c (step k bus) (seen_at k bus q) (f bus lt)

-- words that come to an aim from which they finish
module _ (Z : Aim) (rest : ℕ) (aimed : (k : Core) (q : List Access) → Z k q → Finishing rest k q) where
  onto : (n : ℕ) (o : Option Core) (seen : List Access) → ((k : Core) (q : List Access) → Within Z n k q → Finishing (rest + n) k q) → Onto (Within Z n) o seen → Onto (Finishing (rest + n)) o seen
  onto n None seen f h = h
  onto n (Some next) seen f h = f next seen h

  pub within_finishing : (n : ℕ) (k : Core) (q : List Access) → Within Z n k q → Finishing (rest + n) k q
  within_finishing zero k q h = finishing_least rest (rest + 0) k q q (omega arith) (aimed k q h)
  within_finishing (suc n) k q (inl h) = finishing_least rest (rest + suc n) k q q (omega arith) (aimed k q h)
  within_finishing (suc n) k q (inr f) =
      let e : suc (rest + n) ≡ rest + suc n = omega arith in
      subst (λ j. Finishing j k q) e (finishing_back (rest + n) k q (λ bus lt. onto n (went (step k bus)) (seen_at k bus q) (λ j u h. within_finishing n j u h) (f bus lt)))
