-- The last two words: the jump to k0, and the return from the exception in its slot.
use Rattle.std.proofs.Common.{◌≡◌, ℕ, suc, ◌+◌, ◌%◌, ◌^◌, List, [], ◌∷◌, Bool, true, false, Some, None, refl, ap, ◌∙◌}
use Rattle.psx_ins.specs.declared.ins.Ins.TheVariants.{JR, RFE}
use Rattle.psx_ins.specs.Decoding.{instruction_of}
use Rattle.psx_base.specs.Memory.{Memory}
use Rattle.psx_base.specs.Registers.{Registers}
use Rattle.psx_base.specs.Context.{Context}
use Rattle.psx_cpu.specs.Processor.{Core, State, Bus}
use Rattle.psx_cpu.specs.DataAccess.{read_word}
use Rattle.psx_cpu.specs.Effect.{effect}
use Rattle.psx_cpu.specs.Exceptions.{leave, left_sr}
use Rattle.psx_cpu.specs.Step.{Leaves, step}
use Rattle.psx_cpu.proofs.KernelSide.{step_executes}
use Rattle.psx_flow.specs.Run.{Run, Access, state_at}
use Rattle.psx_flow.specs.Plain.{kernel_core}
use Rattle.psx_flow.specs.Kernel.{kernel_words}
use Rattle.psx_flow.specs.Reaches.{Keeps}
use Rattle.psx_flow.proofs.Step.{StandsAs, fetched}
use Rattle.kern_layout.specs.Contexts.{saved_sr_of}
use Rattle.kern_layout.specs.Stands.{user_sr}
use Rattle.kern_entry.specs.declared.leave.TheConstants.{RETURN}
use Rattle.kern_entry.specs.EntryWords.{k0}
use Rattle.kern_entry.specs.Made.{Spared, Leaving}
use Rattle.kern_entry.specs.Within.{Aim, Within}
use Rattle.kern_entry.proofs.Walk.{within_backs, within_here}
use Rattle.kern_entry.proofs.WalkSteps.{one}
use Rattle.kern_entry.proofs.Leaving.{Resumed}

-- RFE on the kernel's side leaves it
rfe_leaves : (x : State) (bus : Bus) → x.context.pc % 4 ≡ 0 → x.cop0.sr % 2 ≡ 0 → instruction_of (read_word x.bytes x.context.pc) ≡ Some RFE → step (kernel_core x) bus ≡ Leaves (record (kernel_core x) { processor = leave (kernel_core x).processor })
rfe_leaves x bus even off is = step_executes x.context x.cop0 x.bytes bus RFE even off is refl

-- the context that is taken up
abbrev pub back_to : Registers → ℕ → Context
back_to c pc = record { regs = record c { r26 = pc; r27 = 0 }; pending = None; pc = pc; next = (pc + 4) % 2 ^ 32; in_slot = false }

-- the processor behind it
pub record Back (c : Registers) (pc : ℕ) (on : Bool) (m : Memory) (next : Core) : Type 0 where
  pub context : next.processor.context ≡ back_to c pc
  pub sr : next.processor.cop0.sr ≡ user_sr on
  pub latch : next.processor.latch ≡ false
  pub spared : Spared m next.bytes

sr_even : (on : Bool) → saved_sr_of on % 2 ≡ 0
sr_even true = refl
sr_even false = refl

sr_back : (on : Bool) → left_sr (saved_sr_of on) ≡ user_sr on
sr_back true = refl
sr_back false = refl

-- behind RESUME it is shown, where it is of a core whose next step leaves the kernel with the context
pub return_from : (Z : Aim) (c : Registers) (pc : ℕ) (on : Bool) (m : Memory) (p : List Access) (most n : ℕ) (first : Memory) (e : Run) → StandsAs kernel_words first RETURN (JR k0 ∷ RFE ∷ []) → Keeps kernel_words first e → Resumed c pc on m p most e
    → ((k : Core) → Leaving (Back c pc on m) k → Z k e.seen) → Within Z (suc n) (kernel_core (state_at e RETURN)) e.seen
return_from Z c pc on m p most n first e words keeps r shown =
    let off : e.cop0.sr % 2 ≡ 0 = ap (λ x. x % 2) r.sr ∙ sr_even on in
    one kernel_words first (Within Z) (within_backs Z) n (state_at e RETURN) e.seen (JR k0) refl off (fetched kernel_words first e RETURN (JR k0) keeps words.0 refl) refl refl (λ bus lt.
    let x : State = effect (JR k0) (state_at e RETURN) bus in
    within_here Z n (kernel_core x) e.seen (shown (kernel_core x) (
      record (kernel_core x) { processor = leave (kernel_core x).processor },
      record {
        context = (λ i. record { regs = r.regs i; pending = None; pc = (r.regs i).r26; next = ((r.regs i).r26 + 4) % 2 ^ 32; in_slot = false });
        sr = ap left_sr r.sr ∙ sr_back on;
        latch = refl;
        spared = r.spared;
      },
      λ b. rfe_leaves x b refl off (fetched kernel_words first e (RETURN + 4) RFE keeps words.1.0 refl),
    )))
