-- A step on the kernel's side: where interrupts are off nothing is in the way of the instruction at pc, so that the step is its effect or its own trap.
use Rattle.std.proofs.Common.{◌≡◌, ℕ, ◌/◌, ◌%◌, ◌^◌, Bool, true, false, Option, Some, None, refl, ap, ◌∙◌, arith, eq-eqb, ne_eqb}
use Rattle.std.specs.Prelude.{nat_eq, ◌&&◌, if◌then◌else◌}
use Rattle.psx_ins.specs.declared.ins.Ins.{Ins}
use Rattle.psx_ins.specs.Decoding.{instruction_of}
use Rattle.psx_base.specs.declared.stop.Stop.TheVariants.{Protected, SlotBranch}
use Rattle.psx_base.specs.Memory.{Memory}
use Rattle.psx_base.specs.Context.{Context}
use Rattle.psx_cpu.specs.Processor.{Core, Bus, Cop0, Trap, Processor}
use Rattle.psx_cpu.specs.DataAccess.{read_word}
use Rattle.psx_cpu.specs.Traps.{DataUse, data_use, is_aligned, misaligned, use_trap, own_trap, or_else, trap_of}
use Rattle.psx_cpu.specs.Exceptions.{takes_interrupt}
use Rattle.psx_cpu.specs.Guard.{guard_data, guard_instruction, guard_word, guard, is_branch, is_protected}
use Rattle.psx_cpu.specs.Step.{Stops, entered, executed, performed, passed, step}

pub no_interrupt : (p : Processor) (line : Bool) → p.cop0.sr % 2 ≡ 0 → takes_interrupt p line ≡ false
no_interrupt p false h = refl
no_interrupt p true h = ap (λ b. if b then nat_eq (p.cop0.sr / 2 ^ 10 % 2) 1 else false) (ne_eqb (p.cop0.sr % 2) 1 (λ e. omega (arith, e)))

not_user : (a b : Bool) → (a && (b && false)) ≡ false
not_user true true = refl
not_user true false = refl
not_user false b = refl

not_protected : (a : Bool) → (a && false) ≡ false
not_protected true = refl
not_protected false = refl

-- neither of two traps
no_trap : (a b : Option Trap) → or_else a b ≡ None → (a ≡ None) × (b ≡ None)
no_trap None b h = (refl, h)
no_trap (Some t) b h = absurd cc

module _ (k : Core) (bus : Bus) where
  pub data_passes : (c : Context) (i : Ins) (u : Option DataUse) → use_trap u ≡ None → guard_data Stops (entered k) (passed k bus) c true i u ≡ passed k bus i
  data_passes c i None h = refl
  data_passes c i (Some u) h = go (is_aligned u.at u.multiple) h
    where
      go : (b : Bool) → (if b then None else Some (misaligned u)) ≡ None → (if b then passed k bus i else entered k (misaligned u)) ≡ passed k bus i
      go true h = refl
      go false h = absurd cc

  instruction_passes : (c : Context) (i : Ins) → use_trap (data_use i c) ≡ None → guard_instruction Stops (entered k) (passed k bus) c true i ≡ passed k bus i
  instruction_passes c i h =
      ap (λ b. if b then Stops (SlotBranch c.pc) else (if is_protected i && false then Stops (Protected c.pc) else guard_data Stops (entered k) (passed k bus) c true i (data_use i c))) (not_user (is_branch i) c.in_slot)
      ∙ ap (λ b. if b then Stops (Protected c.pc) else guard_data Stops (entered k) (passed k bus) c true i (data_use i c)) (not_protected (is_protected i))
      ∙ data_passes c i (data_use i c) h

  pub word_passes : (c : Context) (w : ℕ) (i : Ins) → c.pc % 4 ≡ 0 → instruction_of w ≡ Some i → use_trap (data_use i c) ≡ None → guard Stops (entered k) (passed k bus) c true w ≡ passed k bus i
  word_passes c w i even is h =
      ap (λ b. if b then guard_word Stops (entered k) (passed k bus) c true w (instruction_of w) else entered k (record { code = 4; bad = Some c.pc })) (eq-eqb (c.pc % 4) 0 even)
      ∙ ap (guard_word Stops (entered k) (passed k bus) c true w) is
      ∙ instruction_passes c i h

-- the processor on the kernel's side
abbrev pub kernel_side : Context → Cop0 → Memory → Core
kernel_side c z m = record { processor = record { context = c; cop0 = z; latch = true }; bytes = m }

-- where it traps nowhere, it is executed
pub step_executes : (c : Context) (z : Cop0) (m : Memory) (bus : Bus) (i : Ins) → c.pc % 4 ≡ 0 → z.sr % 2 ≡ 0 → instruction_of (read_word m c.pc) ≡ Some i → trap_of i c ≡ None
    → step (kernel_side c z m) bus ≡ executed (kernel_side c z m) bus i
unfolding step
step_executes c z m bus i even off is none =
    let k = kernel_side c z m in
    let w = read_word m c.pc in
    let n = no_trap (use_trap (data_use i c)) (own_trap i c) none in
    ap (λ b. if b then entered k (record { code = 0; bad = None }) else guard Stops (entered k) (passed k bus) c true w) (no_interrupt k.processor bus.line off)
    ∙ word_passes k bus c w i even is n.0
    ∙ ap (performed k bus i) n.1
