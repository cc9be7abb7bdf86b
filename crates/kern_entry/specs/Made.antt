-- That the kernel's words have made a stay of the written kernel machine: by the accesses that they made, and the step that comes.
use Rattle.std.specs.Prelude.{◌≡◌, ◌⊎◌, ℕ, ◌<◌, ◌≤◌, false, cond, nat_eq, List, [], ◌∷◌, Some}
use Rattle.psx_base.specs.Ports.{HALT, HALT_A, HALT_B, HALT_C}
use Rattle.psx_base.specs.Memory.{Memory, byte}
use Rattle.psx_base.specs.KernelState.{KernelState}
use Rattle.psx_cpu.specs.Processor.{Core, Bus}
use Rattle.psx_cpu.specs.Step.{Leaves, step}
use Rattle.psx_ports.specs.HaltCodes.{halt_stop}
use Rattle.psx_flow.specs.Run.{Access, PortWrite}
use Rattle.kern_layout.specs.declared.ranges.TheConstants.{STACK}
use Rattle.kern_layout.specs.Stands.{user_sr}
use Rattle.abs_kernel.specs.Stay.{Stay, Return, Halt, Touch}
pub use Rattle.kern_stay.specs.Follows.{read_of, written_of, behind, after, is_own_port, is_halt_word, IsRead, IsWritten, IsNext, Follows, given}
use Rattle.kern_entry.specs.Within.{Aim}

-- ---- the end

-- outside the kernel's stack, of which the work area is part, memory is as before
abbrev pub Spared : (before after : Memory) → Type 0
Spared m n = (a : ℕ) → (a < STACK.from) ⊎ (STACK.to ≤ a) → byte n a ≡ byte m a

-- the processor is back on the user side, with a state's running context
pub record IsBack (first : Memory) (state : KernelState) (next : Core) : Type 0 where
  pub context : next.processor.context ≡ state.running.context
  pub sr : next.processor.cop0.sr ≡ user_sr state.running.interrupts
  pub latch : next.processor.latch ≡ false
  pub spared : Spared first next.bytes

-- the coming step leaves the kernel
abbrev pub Leaving : (Core → Type 0) → Core → Type 0
Leaving Z k = (next : Core) × Z next × ((bus : Bus) → step k bus ≡ Leaves next)

abbrev pub Returned : Memory → Stay → Core → Type 0
Returned first (Return state) k = Leaving (IsBack first state) k
Returned first (Touch bytes next) k = Returned first next k
Returned first _ k = ⊥

-- this was written to the halt port, behind the other accesses, and it stops the run
abbrev pub Halted : Memory → Stay → (value : ℕ) → List Access → Core → Type 0
Halted first (Halt stop memory) value q k = ((a b c : ℕ) → halt_stop value (given HALT_A a q) (given HALT_B b q) (given HALT_C c q) ≡ Some stop) × Spared first k.bytes
Halted first (Touch bytes next) value q k = Halted first next value q k
Halted first _ value q k = ⊥

-- A stay is made: behind its accesses the words leave the kernel with its state, or the last access has halted with its stop. Memory is as before but for the kernel's stack.
abbrev pub Made : Memory → Stay → Aim
Made first stay k [] = Returned first stay k
Made first stay k (PortWrite at value ∷ q) =
    cond (nat_eq at HALT) (Follows stay q × Halted first (after stay q) value q k) (Follows stay (PortWrite at value ∷ q) × Returned first (after stay (PortWrite at value ∷ q)) k)
Made first stay k (x ∷ q) = Follows stay (x ∷ q) × Returned first (after stay (x ∷ q)) k
