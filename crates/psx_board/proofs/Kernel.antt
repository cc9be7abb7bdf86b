-- The guard stops nothing on the kernel's side.
use Rattle.std.proofs.Common.{◌≡◌, ℕ, Bool, true, false, Option, Some, None, sym, subst, ◌+◌, arith}
use Rattle.std.specs.Prelude.{if◌then◌else◌, ◌&&◌, nat_eq, ◌%◌}
use Rattle.psx_ins.specs.declared.ins.Ins.{Ins}
use Rattle.psx_ins.specs.declared.ins.Ins.TheVariants.{LW, SW, RFE}
use Rattle.psx_ins.specs.Decoding.{instruction_of}
use Rattle.psx_base.specs.declared.stop.Stop.{Stop}
use Rattle.psx_base.specs.Addresses.{place}
use Rattle.psx_base.specs.PortAddresses.{port}
use Rattle.psx_base.specs.Context.{Context}
use Rattle.psx_cpu.specs.Processor.{Core, Bus, Trap}
use Rattle.psx_cpu.specs.DataAccess.{data_address, read_word}
use Rattle.psx_cpu.specs.Traps.{DataUse, data_use, is_aligned, own_trap}
use Rattle.psx_cpu.specs.Exceptions.{takes_interrupt}
use Rattle.psx_cpu.specs.Guard.{guard_data, guard_word, guard, is_branch, is_protected}
use Rattle.psx_cpu.specs.declared.step.Did.{Did}
use Rattle.psx_cpu.specs.declared.step.Did.TheVariants.{Plain, PortRead, PortWrite, Entered, Left, Stopped}
use Rattle.psx_cpu.specs.Step.{Move, Goes, Reads, Writes, Enters, Leaves, Stops, entered, executed, performed, passed, step, Does}
use Rattle.psx_cpu.proofs.Moves.{if_all}
use Rattle.psx_board.specs.Finished.{finished}

abbrev IsNoStop : Move → Type 0
IsNoStop (Stops stop) = ⊥
IsNoStop _ = Unit {0}

-- what is looked at on the user's side alone
unless : (a b : Bool) (x y : Move) → IsNoStop y → IsNoStop (if a && (b && false) then x else y)
unless true true x y n = n
unless true false x y n = n
unless false b x y n = n

never : (a : Bool) (x y : Move) → IsNoStop y → IsNoStop (if a && false then x else y)
never true x y n = n
never false x y n = n

executed-goes : (k : Core) (bus : Bus) (i : Ins) → IsNoStop (executed k bus i)
executed-goes k bus (LW s t imm) = if_all IsNoStop (port (place (data_address k.processor.context s imm))) _ _ tt tt
executed-goes k bus (SW s t imm) = if_all IsNoStop (port (place (data_address k.processor.context s imm))) _ _ tt tt
executed-goes k bus RFE = tt
executed-goes k bus _ = tt

performed-goes : (k : Core) (bus : Bus) (i : Ins) (t : Option Trap) → IsNoStop (performed k bus i t)
performed-goes k bus i None = executed-goes k bus i
performed-goes k bus i (Some t) = tt

module _ (k : Core) (bus : Bus) (c : Context) where
  data-goes : (i : Ins) (u : Option DataUse) → IsNoStop (guard_data Stops (entered k) (passed k bus) c true i u)
  data-goes i None = performed-goes k bus i (own_trap i k.processor.context)
  data-goes i (Some u) = if_all IsNoStop (is_aligned u.at u.multiple) _ _ (performed-goes k bus i (own_trap i k.processor.context)) tt

  word-goes : (w : ℕ) (o : Option Ins) → IsNoStop (guard_word Stops (entered k) (passed k bus) c true w o)
  word-goes w None = tt
  word-goes w (Some i) = unless (is_branch i) c.in_slot _ _ (never (is_protected i) _ _ (data-goes i (data_use i c)))

  guard-goes : (w : ℕ) → IsNoStop (guard Stops (entered k) (passed k bus) c true w)
  guard-goes w = if_all IsNoStop (nat_eq (c.pc % 4) 0) _ _ (word-goes w (instruction_of w)) tt

step-goes : (k : Core) (bus : Bus) → k.processor.latch ≡ true → IsNoStop (step k bus)
unfolding step
step-goes k bus latch =
    if_all IsNoStop (takes_interrupt k.processor bus.line) _ _ tt
    (subst (λ l. IsNoStop (guard Stops (entered k) (passed k bus) k.processor.context l (read_word k.bytes k.processor.context.pc))) (sym latch) (guard-goes k bus k.processor.context (read_word k.bytes k.processor.context.pc)))

stops : (old : Core) (move : Move) (stop : Stop) (new : Core) → Does old move (Stopped stop) new → IsNoStop move → ⊥
stops old (Stops stop') stop new does goes = goes
stops old (Goes next) stop new does goes = does
stops old (Reads next at value) stop new does goes = does
stops old (Writes next at value) stop new does goes = does
stops old (Enters next code) stop new does goes = does
stops old (Leaves next) stop new does goes = does

step-never_stops : (k : Core) (bus : Bus) (stop : Stop) (new : Core) → k.processor.latch ≡ true → Does k (step k bus) (Stopped stop) new → ⊥
step-never_stops k bus stop new latch does = stops k (step k bus) stop new does (step-goes k bus latch)

-- no step from reset leaves the count at 0
pub step-counts : (k : Core) (bus : Bus) (did : Did) (new : Core) (before after : ℕ) → (before ≡ 0 → k.processor.latch ≡ true) → Does k (step k bus) did new → after ≡ before + finished did → after ≡ 0 → ⊥
step-counts k bus (Stopped stop) new before after fresh does counted none = step-never_stops k bus stop new (fresh (omega (arith, counted, none))) does
step-counts k bus Plain new before after fresh does counted none = omega (arith, counted, none)
step-counts k bus (PortRead at value) new before after fresh does counted none = omega (arith, counted, none)
step-counts k bus (PortWrite at value) new before after fresh does counted none = omega (arith, counted, none)
step-counts k bus (Entered code) new before after fresh does counted none = omega (arith, counted, none)
step-counts k bus Left new before after fresh does counted none = omega (arith, counted, none)
