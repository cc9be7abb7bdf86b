-- What the run of a listing goes over, and what an instruction does to it.
use Rattle.std.specs.Prelude.{ℕ, suc, ◌+◌, ◌%◌, ◌^◌, Bool, true, false, not, ◌&&◌, ◌||◌, nat_eq, List, ◌∷◌, None, if◌then◌else◌}
use Rattle.psx_ins.specs.declared.ins.Ins.{Ins}
use Rattle.psx_ins.specs.declared.ins.Ins.TheVariants.{LB, LH, LWL, LW, LBU, LHU, LWR, SB, SH, SWL, SW, SWR, MTC0}
use Rattle.psx_base.specs.Memory.{Memory}
use Rattle.psx_base.specs.Registers.{Registers, register}
use Rattle.psx_base.specs.Context.{Context, settled}
use Rattle.psx_base.specs.Addresses.{place}
use Rattle.psx_base.specs.PortAddresses.{port}
use Rattle.psx_cpu.specs.Processor.{State, Bus, Cop0}
use Rattle.psx_cpu.specs.DataAccess.{data_address, read_byte, read_half, read_word, load_word, round, stored_left, stored_right}
use Rattle.psx_cpu.specs.Changes.{sr_kept}
use Rattle.psx_cpu.specs.Effect.{effect}

-- A data access with its value, at a physical address: of so many bytes, or of a port. LWL, LWR, SWL and SWR take and put the whole word round their address.
pub data Access : Type 0 where
  Load : (size at value : ℕ) → Access
  Store : (size at value : ℕ) → Access
  PortRead : (at value : ℕ) → Access
  PortWrite : (at value : ℕ) → Access

-- A word that is read or written by LW or SW: those alone reach ports.
abbrev pub word_load : ℕ → ℕ → Access
word_load a v = if port (place a) then PortRead (place a) v else Load 4 (place a) v

abbrev pub word_store : ℕ → ℕ → Access
word_store a v = if port (place a) then PortWrite (place a) v else Store 4 (place a) v

-- the accesses, newest first, with that of an instruction
abbrev pub accessed : Ins → State → Bus → List Access → List Access
accessed (LB s t imm) x bus q = let a = data_address x.context s imm in Load 1 (place a) (read_byte x.bytes a) ∷ q
accessed (LH s t imm) x bus q = let a = data_address x.context s imm in Load 2 (place a) (read_half x.bytes a) ∷ q
accessed (LWL s t imm) x bus q = let a = data_address x.context s imm in Load 4 (place (round a)) (read_word x.bytes (round a)) ∷ q
accessed (LW s t imm) x bus q = let a = data_address x.context s imm in word_load a (load_word x.bytes a bus.value) ∷ q
accessed (LBU s t imm) x bus q = let a = data_address x.context s imm in Load 1 (place a) (read_byte x.bytes a) ∷ q
accessed (LHU s t imm) x bus q = let a = data_address x.context s imm in Load 2 (place a) (read_half x.bytes a) ∷ q
accessed (LWR s t imm) x bus q = let a = data_address x.context s imm in Load 4 (place (round a)) (read_word x.bytes (round a)) ∷ q
accessed (SB s t imm) x bus q = Store 1 (place (data_address x.context s imm)) (register x.context.regs t.0 % 2 ^ 8) ∷ q
accessed (SH s t imm) x bus q = Store 2 (place (data_address x.context s imm)) (register x.context.regs t.0 % 2 ^ 16) ∷ q
accessed (SWL s t imm) x bus q = let a = data_address x.context s imm in Store 4 (place (round a)) (stored_left (a % 4) (register x.context.regs t.0) (read_word x.bytes (round a))) ∷ q
accessed (SW s t imm) x bus q = word_store (data_address x.context s imm) (register x.context.regs t.0) ∷ q
accessed (SWR s t imm) x bus q = let a = data_address x.context s imm in Store 4 (place (round a)) (stored_right (a % 4) (register x.context.regs t.0) (read_word x.bytes (round a))) ∷ q
accessed _ x bus q = q

-- All of the processor but its place in the program, with no load pending; the memory; the accesses so far, newest first; the number of nodes passed; and that of the processor's steps.
pub record Run : Type 0 where
  pub regs : Registers
  pub cop0 : Cop0
  pub bytes : Memory
  pub seen : List Access
  pub passed : ℕ
  pub steps : ℕ

-- the processor's state in a run, at an address
abbrev pub state_at : Run → ℕ → State
state_at s at = record { context = record { regs = s.regs; pending = None; pc = at; next = (at + 4) % 2 ^ 32; in_slot = false }; cop0 = s.cop0; bytes = s.bytes }

-- an instruction done in one step, and its load settled at once
abbrev pub done : Ins → Run → ℕ → Bus → Run
done i s at bus =
    let x = effect i (state_at s at) bus in
    record { regs = settled x.context.regs x.context.pending; cop0 = x.cop0; bytes = x.bytes; seen = accessed i (state_at s at) bus s.seen; passed = suc s.passed; steps = suc s.steps }

-- ---- what an instruction leaves as it is: `kept` says which physical addresses hold words of listings

module _ (kept : ℕ → Bool) where
  abbrev pub spares_byte : ℕ → Bool
  spares_byte p = not (kept p)

  abbrev pub spares_half : ℕ → Bool
  spares_half p = spares_byte p && spares_byte (p + 1)

  abbrev pub spares_word : ℕ → Bool
  spares_word p = spares_half p && spares_half (p + 2)

  -- An instruction stores nothing over those words, and doesn't turn interrupts on (bit 0 of SR).
  abbrev pub spares : Ins → Context → Bool
  spares (SB s t imm) c = spares_byte (place (data_address c s imm))
  spares (SH s t imm) c = spares_half (place (data_address c s imm))
  spares (SWL s t imm) c = spares_word (place (round (data_address c s imm)))
  spares (SW s t imm) c = spares_word (place (data_address c s imm))
  spares (SWR s t imm) c = spares_word (place (round (data_address c s imm)))
  spares (MTC0 t d) c = not (nat_eq d.0 12) || nat_eq (sr_kept (register c.regs t.0) % 2) 0
  spares _ c = true
