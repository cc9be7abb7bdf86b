-- What holds of every step: facts go through the guard.
use Rattle.std.proofs.Common.{◌≡◌, ℕ, Bool, true, false, Option, Some, None, IsTrue, refl, sym, ap, subst, ◌∙◌, arith}
use Rattle.std.specs.Prelude.{if◌then◌else◌, ◌||◌, ◌&&◌, not, is_some, nat_eq, ◌%◌}
use Rattle.psx_ins.specs.declared.ins.Ins.{Ins}
use Rattle.psx_ins.specs.declared.ins.Ins.TheVariants.{LW, SW, RFE}
use Rattle.psx_ins.specs.Decoding.{instruction_of}
use Rattle.psx_base.specs.declared.stop.Stop.{Stop}
use Rattle.psx_base.specs.Addresses.{user, gate_of, place}
use Rattle.psx_base.specs.PortAddresses.{port}
use Rattle.psx_base.specs.Context.{Context}
use Rattle.psx_cpu.specs.Processor.{Core, Bus, Trap}
use Rattle.psx_cpu.specs.DataAccess.{data_address, read_word}
use Rattle.psx_cpu.specs.Traps.{DataUse, data_use, is_aligned, own_trap, misaligned, reserved_code}
use Rattle.psx_cpu.specs.Exceptions.{takes_interrupt}
use Rattle.psx_cpu.specs.Guard.{guard_data, guard_instruction, guard_word, guard, is_branch, is_protected}
use Rattle.psx_cpu.specs.declared.step.Did.{Did}
use Rattle.psx_cpu.specs.declared.step.Did.TheVariants.{Plain, PortRead, PortWrite, Entered, Left, Stopped}
use Rattle.psx_cpu.specs.Step.{Move, Goes, Reads, Writes, Enters, Leaves, Stops, entered, executed, performed, passed, step, port_read, Does, IsPortDid}

pub if_all : (P : Move → Type 0) (b : Bool) (x y : Move) → P x → P y → P (if b then x else y)
if_all P true x y p q = p
if_all P false x y p q = q

-- What holds of each stop, each exception and each instruction that passes holds of a step.
module _ (P : Move → Type 0) (k : Core) (bus : Bus) (stops : (s : Stop) → P (Stops s)) (traps : (t : Trap) → P (entered k t)) where
  pub guard_data-all : (c : Context) (latch : Bool) (i : Ins) (u : Option DataUse) → P (passed k bus i) → P (guard_data Stops (entered k) (passed k bus) c latch i u)
  guard_data-all c latch i None pass = pass
  guard_data-all c latch i (Some u) pass = if_all P (is_aligned u.at u.multiple) _ _ (if_all P (latch || user u.at) _ _ pass (stops _)) (traps (misaligned u))

  pub guard_instruction-all : (c : Context) (latch : Bool) (i : Ins) → P (passed k bus i) → P (guard_instruction Stops (entered k) (passed k bus) c latch i)
  guard_instruction-all c latch i pass =
      if_all P (is_branch i && (c.in_slot && not latch)) _ _ (stops _)
      (if_all P (is_protected i && not latch) _ _ (stops _) (guard_data-all c latch i (data_use i c) pass))

  guard_word-all : (c : Context) (latch : Bool) (w : ℕ) (o : Option Ins) → ((i : Ins) → P (passed k bus i)) → P (guard_word Stops (entered k) (passed k bus) c latch w o)
  guard_word-all c latch w None pass = traps (record { code = reserved_code w; bad = None })
  guard_word-all c latch w (Some i) pass = guard_instruction-all c latch i (pass i)

  pub step-all : ((i : Ins) → P (passed k bus i)) → P (step k bus)
  unfolding step
  step-all pass =
      let c = k.processor.context in
      if_all P (takes_interrupt k.processor bus.line) _ _ (traps (record { code = 0; bad = None }))
      (if_all P (nat_eq (c.pc % 4) 0) _ _
      (if_all P (k.processor.latch || (user c.pc || is_some (gate_of c.pc))) _ _ (guard_word-all c k.processor.latch (read_word k.bytes c.pc) (instruction_of (read_word k.bytes c.pc)) pass) (stops _))
      (traps (record { code = 4; bad = Some c.pc })))

  performed-all : (i : Ins) (t : Option Trap) → P (executed k bus i) → P (performed k bus i t)
  performed-all i None done = done
  performed-all i (Some t) done = traps t

  pub passed-all : (i : Ins) → P (executed k bus i) → P (passed k bus i)
  passed-all i done = performed-all i (own_trap i k.processor.context) done

-- ---- ports

-- a port that a move names is one
abbrev IsPortMove : Move → Type 0
IsPortMove (Reads next at value) = port at ≡ true
IsPortMove (Writes next at value) = port at ≡ true
IsPortMove _ = Unit {0}

reads-port : (b : Bool) (next : Core) (at value : ℕ) → port at ≡ b → IsPortMove (if b then Reads next at value else Goes next)
reads-port true next at value h = h
reads-port false next at value h = tt

writes-port : (b : Bool) (next : Core) (at value : ℕ) → port at ≡ b → IsPortMove (if b then Writes next at value else Goes next)
writes-port true next at value h = h
writes-port false next at value h = tt

executed-port : (k : Core) (bus : Bus) (i : Ins) → IsPortMove (executed k bus i)
executed-port k bus (LW s t imm) = let at = place (data_address k.processor.context s imm) in reads-port (port at) _ at _ refl
executed-port k bus (SW s t imm) = let at = place (data_address k.processor.context s imm) in writes-port (port at) _ at _ refl
executed-port k bus RFE = tt
executed-port k bus _ = tt

step-port : (k : Core) (bus : Bus) → IsPortMove (step k bus)
step-port k bus = step-all IsPortMove k bus (λ s. tt) (λ t. tt) (λ i. passed-all IsPortMove k bus (λ s. tt) (λ t. tt) i (executed-port k bus i))

told-port : (old : Core) (move : Move) (did : Did) (new : Core) → Does old move did new → IsPortMove move → IsPortDid did
told-port old move Plain new h p = tt
told-port old move (Entered code) new h p = tt
told-port old move Left new h p = tt
told-port old move (Stopped stop) new h p = tt
told-port old (Reads next at value) (PortRead at' value') new h p = let e : port at' ≡ true = ap port h.1.0 ∙ p in grind arith
told-port old (Writes next at value) (PortWrite at' value') new h p = let e : port at' ≡ true = ap port h.1.0 ∙ p in grind arith
told-port old _ (PortRead at' value') new h p = absurd h
told-port old _ (PortWrite at' value') new h p = absurd h

-- a step tells no port that isn't one
pub step-told_port : (k : Core) (bus : Bus) (did : Did) (new : Core) → Does k (step k bus) did new → IsPortDid did
step-told_port k bus did new h = told-port k (step k bus) did new h (step-port k bus)

read-port : (move : Move) (at : ℕ) → IsPortMove move → port_read move ≡ Some at → port at ≡ true
read-port (Reads next place value) at p e = let same : place ≡ at = cc in subst (λ x. port x ≡ true) same p
read-port (Goes next) at p e = absurd cc
read-port (Writes next place value) at p e = absurd cc
read-port (Enters next code) at p e = absurd cc
read-port (Leaves next) at p e = absurd cc
read-port (Stops stop) at p e = absurd cc

-- the port that a step reads is one
pub step-read_port : (k : Core) (bus : Bus) (at : ℕ) → port_read (step k bus) ≡ Some at → port at ≡ true
step-read_port k bus at e = read-port (step k bus) at (step-port k bus) e
