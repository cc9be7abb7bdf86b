-- The accesses to ports are those that the steps tell.
use Rattle.std.proofs.Common.{◌≡◌, ℕ, Bool, true, false, Option, Some, None, List, ◌∷◌, refl, ap, ◌∙◌}
use Rattle.std.specs.Prelude.{nat_eq, ◌%◌, ◌||◌, is_some, if◌then◌else◌}
use Rattle.psx_ins.specs.declared.ins.Ins.{Ins}
use Rattle.psx_ins.specs.declared.ins.Ins.TheVariants.{LW, SW, RFE}
use Rattle.psx_ins.specs.Decoding.{instruction_of}
use Rattle.psx_base.specs.Memory.{Memory}
use Rattle.psx_base.specs.Addresses.{place, user, gate_of}
use Rattle.psx_base.specs.PortAddresses.{port}
use Rattle.psx_base.specs.Registers.{register}
use Rattle.psx_cpu.specs.Processor.{Core, Bus, Trap, state_of}
use Rattle.psx_cpu.specs.DataAccess.{data_address, read_word, load_word}
use Rattle.psx_cpu.specs.Traps.{own_trap}
use Rattle.psx_cpu.specs.Exceptions.{takes_interrupt}
use Rattle.psx_cpu.specs.Guard.{guard_word}
use Rattle.psx_cpu.specs.Step.{Move, Goes, Reads, Writes, Stops, entered, after, executed, performed, passed, step}
use Rattle.psx_cpu.proofs.Moves.{if_all, guard_instruction-all}
use Rattle.psx_flow.specs.Run.{Access, Load, Store, PortRead, PortWrite, word_load, word_store}
use Rattle.psx_flow.specs.Plain.{went, seen_by}
use Rattle.psx_flow.specs.Told.{ports, told, PortsAreTold}

-- a port's answer is what is loaded
answered : (m : Memory) (a v : ℕ) → port (place a) ≡ true → load_word m a v ≡ v
unfolding load_word
answered m a v e = ap (λ b. if b then v else read_word m a) e

module _ (k : Core) (bus : Bus) (q : List Access) where
  -- of an instruction, or of none, what a move step_told is what it accesses
  abbrev ToldBy : Option Ins → Move → Type 0
  ToldBy o move = (next : Core) → went move ≡ Some next → ports (seen_by o (state_of k.processor k.bytes) bus q) ≡ told move (ports q)

  loads : (a : ℕ) (next : Core) (b : Bool) → port (place a) ≡ b → (to : Core) → went (if b then Reads next (place a) bus.value else Goes next) ≡ Some to
      → ports (word_load a (load_word k.bytes a bus.value) ∷ q) ≡ told (if b then Reads next (place a) bus.value else Goes next) (ports q)
  loads a next true e to h =
      ap (λ b. ports ((if b then PortRead (place a) (load_word k.bytes a bus.value) else Load 4 (place a) (load_word k.bytes a bus.value)) ∷ q)) e
      ∙ ap (λ v. PortRead (place a) v ∷ ports q) (answered k.bytes a bus.value e)
  loads a next false e to h = ap (λ b. ports ((if b then PortRead (place a) (load_word k.bytes a bus.value) else Load 4 (place a) (load_word k.bytes a bus.value)) ∷ q)) e

  stores : (a v : ℕ) (next : Core) (b : Bool) → port (place a) ≡ b → (to : Core) → went (if b then Writes next (place a) v else Goes next) ≡ Some to
      → ports (word_store a v ∷ q) ≡ told (if b then Writes next (place a) v else Goes next) (ports q)
  stores a v next true e to h = ap (λ b. ports ((if b then PortWrite (place a) v else Store 4 (place a) v) ∷ q)) e
  stores a v next false e to h = ap (λ b. ports ((if b then PortWrite (place a) v else Store 4 (place a) v) ∷ q)) e

  does : (i : Ins) → ToldBy (Some i) (executed k bus i)
  does (LW s t imm) next h = loads (data_address k.processor.context s imm) (after k bus (LW s t imm)) (port (place (data_address k.processor.context s imm))) refl next h
  does (SW s t imm) next h = stores (data_address k.processor.context s imm) (register k.processor.context.regs t.0) (after k bus (SW s t imm)) (port (place (data_address k.processor.context s imm))) refl next h
  does RFE next h = absurd cc
  does _ next h = refl

  performs : (i : Ins) (t : Option Trap) → ToldBy (Some i) (performed k bus i t)
  performs i None = does i
  performs i (Some t) = λ next h. absurd cc

  by_word : (w : ℕ) (o : Option Ins) → ToldBy o (guard_word Stops (entered k) (passed k bus) k.processor.context k.processor.latch w o)
  by_word w None = λ next h. absurd cc
  by_word w (Some i) =
      guard_instruction-all (ToldBy (Some i)) k bus (λ s next h. absurd cc) (λ t next h. absurd cc) k.processor.context k.processor.latch i (performs i (own_trap i k.processor.context))

  pub step_told : ToldBy (instruction_of (read_word k.bytes k.processor.context.pc)) (step k bus)
  unfolding step
  step_told =
      let c = k.processor.context in
      let w = read_word k.bytes c.pc in
      let P = ToldBy (instruction_of w) in
      if_all P (takes_interrupt k.processor bus.line) _ _ (λ next h. absurd cc)
      (if_all P (nat_eq (c.pc % 4) 0) _ _
      (if_all P (k.processor.latch || (user c.pc || is_some (gate_of c.pc))) _ _ (by_word w (instruction_of w)) (λ next h. absurd cc))
      (λ next h. absurd cc))

pub ports_told : PortsAreTold
ports_told k bus next q h = step_told k bus q next h
