-- The board gives a read its port's answer: which port a step reads doesn't hang on the answer.
use Rattle.std.proofs.Common.{◌≡◌, ℕ, ◌%◌, Bool, true, false, Option, Some, None, refl, sym, ap, subst, ◌∙◌}
use Rattle.std.specs.Prelude.{if◌then◌else◌, ◌||◌, ◌&&◌, not, is_some, nat_eq}
use Rattle.std.proofs.lemmas.Bool.{eqb-true, false≢true}
use Rattle.psx_ins.specs.declared.ins.Ins.{Ins}
use Rattle.psx_ins.specs.declared.ins.Ins.TheVariants.{LW, SW, RFE}
use Rattle.psx_ins.specs.Decoding.{instruction_of}
use Rattle.psx_base.specs.Ports.{START_PC, START_GP, START_SP, START_THREADS, START_EVENTS}
use Rattle.psx_base.specs.Addresses.{user, gate_of, place}
use Rattle.psx_base.specs.PortAddresses.{port}
use Rattle.psx_base.specs.Context.{Context}
use Rattle.psx_cpu.specs.Processor.{Core, Bus, Trap}
use Rattle.psx_cpu.specs.DataAccess.{data_address, read_word}
use Rattle.psx_cpu.specs.Traps.{DataUse, data_use, is_aligned, own_trap}
use Rattle.psx_cpu.specs.Exceptions.{takes_interrupt}
use Rattle.psx_cpu.specs.Guard.{is_branch, is_protected, guard_data, guard_word}
use Rattle.psx_cpu.specs.Step.{Move, Reads, Stops, entered, executed, performed, passed, step, port_read}
use Rattle.psx_cpu.proofs.Moves.{step-all, passed-all}
use Rattle.psx_ports.specs.History.{History, start_answer, answer}
use Rattle.psx_board.specs.Machine.{Machine}
use Rattle.psx_board.specs.Turn.{asked, answered, bus_of}
use Rattle.abs_run.specs.Serves.{is_start_port}

-- ---- the value of a read is the bus's

abbrev pub TakesValue : ℕ → Move → Type 0
TakesValue v (Reads next at value) = value ≡ v
TakesValue v _ = Unit {0}

takes-if : (v : ℕ) (b : Bool) (x y : Move) → TakesValue v x → TakesValue v y → TakesValue v (if b then x else y)
takes-if v true x y h g = h
takes-if v false x y h g = g

executed-takes : (k : Core) (bus : Bus) (i : Ins) → TakesValue bus.value (executed k bus i)
executed-takes k bus (LW s t imm) = takes-if bus.value (port (place (data_address k.processor.context s imm))) _ _ refl tt
executed-takes k bus (SW s t imm) = takes-if bus.value (port (place (data_address k.processor.context s imm))) _ _ tt tt
executed-takes k bus RFE = tt
executed-takes k bus _ = tt

pub step-takes : (k : Core) (bus : Bus) → TakesValue bus.value (step k bus)
step-takes k bus = step-all (TakesValue bus.value) k bus (λ s. tt) (λ t. tt) (λ i. passed-all (TakesValue bus.value) k bus (λ s. tt) (λ t. tt) i (executed-takes k bus i))

-- ---- the port doesn't hang on the value

module _ (k : Core) (line : Bool) (v w : ℕ) where
  abbrev one : Bus
  one = record { line = line; value = v }

  abbrev two : Bus
  two = record { line = line; value = w }

  reads-if : (b : Bool) (x y x' y' : Move) → port_read x ≡ port_read x' → port_read y ≡ port_read y' → port_read (if b then x else y) ≡ port_read (if b then x' else y')
  reads-if true x y x' y' e f = e
  reads-if false x y x' y' e f = f

  executed-same : (i : Ins) → port_read (executed k one i) ≡ port_read (executed k two i)
  executed-same (LW s t imm) = reads-if (port (place (data_address k.processor.context s imm))) _ _ _ _ refl refl
  executed-same (SW s t imm) = reads-if (port (place (data_address k.processor.context s imm))) _ _ _ _ refl refl
  executed-same RFE = refl
  executed-same _ = refl

  performed-same : (i : Ins) (t : Option Trap) → port_read (performed k one i t) ≡ port_read (performed k two i t)
  performed-same i None = executed-same i
  performed-same i (Some t) = refl

  data-same : (c : Context) (l : Bool) (i : Ins) (u : Option DataUse) → port_read (guard_data Stops (entered k) (passed k one) c l i u) ≡ port_read (guard_data Stops (entered k) (passed k two) c l i u)
  data-same c l i None = performed-same i (own_trap i k.processor.context)
  data-same c l i (Some u) = reads-if (is_aligned u.at u.multiple) _ _ _ _ (reads-if (l || user u.at) _ _ _ _ (performed-same i (own_trap i k.processor.context)) refl) refl

  word-same : (c : Context) (l : Bool) (x : ℕ) (o : Option Ins) → port_read (guard_word Stops (entered k) (passed k one) c l x o) ≡ port_read (guard_word Stops (entered k) (passed k two) c l x o)
  word-same c l x None = refl
  word-same c l x (Some i) = reads-if (is_branch i && (c.in_slot && not l)) _ _ _ _ refl (reads-if (is_protected i && not l) _ _ _ _ refl (data-same c l i (data_use i c)))

  step-same : port_read (step k one) ≡ port_read (step k two)
  unfolding step
  step-same =
      let c = k.processor.context in
      let x = read_word k.bytes c.pc in
      reads-if (takes_interrupt k.processor line) _ _ _ _ refl
      (reads-if (nat_eq (c.pc % 4) 0) _ _ _ _
      (reads-if (k.processor.latch || (user c.pc || is_some (gate_of c.pc))) _ _ _ _ (word-same c k.processor.latch x (instruction_of x)) refl) refl)

-- ---- the board

-- a read is answered by its port
pub read-answered : (d : Machine) (next : Core) (at value : ℕ) → step d.core (bus_of d) ≡ Reads next at value → value ≡ answer d.history at
read-answered d next at value e =
    let taken : value ≡ (bus_of d).value = subst (TakesValue (bus_of d).value) e (step-takes d.core (bus_of d)) in
    let is : asked d ≡ Some at = step-same d.core (bus_of d).line 0 (bus_of d).value ∙ ap port_read e in
    taken ∙ ap (answered d.history) is

-- the start ports read what they were given
pub start-answered : (h : History) (at : ℕ) → is_start_port at ≡ true → answer h at ≡ start_answer h.given at 0
unfolding answer
start-answered h at s = by_port (nat_eq at START_PC) (nat_eq at START_GP) (nat_eq at START_SP) (nat_eq at START_THREADS) (nat_eq at START_EVENTS) refl refl refl refl refl s
  where
    is : (p : ℕ) → nat_eq at p ≡ true → answer h p ≡ start_answer h.given p 0 → answer h at ≡ start_answer h.given at 0
    is p e f = subst (λ (q : ℕ). answer h q ≡ start_answer h.given q 0) (sym (eqb-true at p e)) f

    by_port : (a b c d e : Bool) → nat_eq at START_PC ≡ a → nat_eq at START_GP ≡ b → nat_eq at START_SP ≡ c → nat_eq at START_THREADS ≡ d → nat_eq at START_EVENTS ≡ e
        → (a || (b || (c || (d || e)))) ≡ true → answer h at ≡ start_answer h.given at 0
    by_port true b c d e i j k l m t = is START_PC i refl
    by_port false true c d e i j k l m t = is START_GP j refl
    by_port false false true d e i j k l m t = is START_SP k refl
    by_port false false false true e i j k l m t = is START_THREADS l refl
    by_port false false false false true i j k l m t = is START_EVENTS m refl
    by_port false false false false false i j k l m t = absurd (false≢true t)
