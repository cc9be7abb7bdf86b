-- From the vector an interrupt comes to its listing.
use Rattle.std.proofs.Common.{◌≡◌, ℕ, ◌%◌, ◌≤◌, [], Bool, true, refl, sym, ap, ◌∙◌, subst, arith}
use Rattle.std.specs.Prelude.{unwrap_or}
use Rattle.psx_base.specs.Memory.{Memory}
use Rattle.psx_base.specs.Registers.{Registers}
use Rattle.psx_base.specs.Context.{Context, settled, settle, epc_of, placed}
use Rattle.psx_base.specs.KernelState.{KernelState}
use Rattle.psx_cpu.specs.Processor.{Core, Cop0}
use Rattle.psx_cpu.specs.Exceptions.{cause_of, entered_sr, vector, enter}
use Rattle.psx_flow.specs.Run.{Run, state_at}
use Rattle.psx_flow.specs.Plain.{kernel_core}
use Rattle.psx_flow.specs.Kernel.{kernel_words}
use Rattle.psx_flow.specs.Reaches.{Keeps}
use Rattle.kern_layout.specs.Contexts.{saved_sr_of}
use Rattle.kern_layout.specs.Stands.{user_sr}
use Rattle.kern_entry.specs.declared.places.TheConstants.{VECTOR, SAVE, CAUSES, INTERRUPTS}
use Rattle.kern_entry.specs.declared.save.TheConstants.{VECTOR_NODES, SAVE_NODES, CAUSES_NODES}
use Rattle.kern_entry.specs.EntryWords.{tree}
use Rattle.kern_entry.specs.Within.{Aim, Within}
use Rattle.kern_entry.specs.EntryLaws.{kernel_at}
use Rattle.kern_entry.specs.InterruptLaws.{AtInterrupt, interrupt_trap, InterruptsArrive}
use Rattle.kern_entry.proofs.WorkArea.{AreaEntered}
use Rattle.kern_entry.proofs.Saving.{Arrived, vector_meets, save_meets}
use Rattle.kern_entry.proofs.Choosing.{causes_meets}
use Rattle.kern_entry.proofs.Placed.{AllPlaced, all_placed}
use Rattle.kern_entry.proofs.Stages.{Shown, walks}
use Rattle.kern_entry.proofs.Walk.{within_here}
use Rattle.kern_entry.proofs.Whole.{sr_entered, sr_off, vector_is}

module _ (m : Memory) (all : AllPlaced m) (s : KernelState) (sr bad : ℕ) where
  abbrev c : Registers
  c = settled s.running.context.regs s.running.context.pending

  abbrev on : Bool
  on = s.running.interrupts

  abbrev z : Cop0
  z = record { sr = sr; cause = cause_of 0 s.running.context.in_slot; epc = epc_of s.running.context; bad_address = bad }

  abbrev Z : Aim
  Z = AtInterrupt m s

  arrives : (e : Run) → Keeps kernel_words m e → AreaEntered c z on m [] 80 e → Shown m Z e INTERRUPTS
  arrives e ke h n few = within_here Z n (kernel_core (state_at e INTERRUPTS)) e.seen (record {
    regs = e.regs;
    cop0 = e.cop0;
    core = (λ i. kernel_at (record e.regs { r4 = h.r4 i; r5 = h.args.0 i; r6 = h.args.1 i; r7 = h.args.2 i; r29 = h.args.3 i }) e.cop0 e.bytes INTERRUPTS);
    off = ke.masked;
    area = h.holds.area;
    spared = h.holds.spared;
    quiet = h.holds.ports;
  })

  from_causes : (e : Run) → Keeps kernel_words m e → AreaEntered c z on m [] 42 e → Shown m Z e CAUSES
  from_causes e ke h =
      walks m Z (tree CAUSES_NODES) CAUSES (λ _. ⊥) (λ to x. (to ≡ INTERRUPTS) × AreaEntered c z on m [] 80 x) e all.causes ke (λ x b. absurd b) (λ a x g. low x g.1) (λ x kx b. absurd b)
      (λ a x kx g. subst (λ n. Shown m Z x n) (sym g.0) (arrives x kx g.1)) (causes_meets c 0 s.running.context.in_slot z on m [] 42 80 e h refl (omega arith) (λ none. absurd (omega (arith, none))) (omega arith))
    where
      low : (x : Run) → AreaEntered c z on m [] 80 x → x.steps ≤ 200
      low x g = omega (arith, g.holds.within)

  from_save : z.sr ≡ saved_sr_of on → (e : Run) → Keeps kernel_words m e → Arrived c z m 2 e → Shown m Z e SAVE
  from_save as_saved e ke h =
      walks m Z (tree SAVE_NODES) SAVE (λ _. ⊥) (λ to x. (to ≡ CAUSES) × AreaEntered e.regs e.cop0 on e.bytes [] 42 x) e all.save ke (λ x b. absurd b) (λ a x g. low x g.1) (λ x kx b. absurd b)
      (λ a x kx g. subst (λ n. Shown m Z x n) (sym g.0) (from_causes x kx (same x g.1))) (save_meets e on 42 (ap (λ y. y.sr) h.cop0 ∙ as_saved) h.seen (omega (arith, h.within)))
    where
      low : (x : Run) → AreaEntered e.regs e.cop0 on e.bytes [] 42 x → x.steps ≤ 200
      low x g = omega (arith, g.holds.within)

      same : (x : Run) → AreaEntered e.regs e.cop0 on e.bytes [] 42 x → AreaEntered c z on m [] 42 x
      same x g = subst (λ y. AreaEntered c z on y [] 42 x) h.bytes (subst (λ y. AreaEntered c y on e.bytes [] 42 x) h.cop0 (subst (λ y. AreaEntered y e.cop0 on e.bytes [] 42 x) h.regs g))

  -- at the vector
  abbrev first : Run
  first = record { regs = c; cop0 = z; bytes = m; seen = []; passed = 0; steps = 0 }

  from_vector : z.sr ≡ saved_sr_of on → z.sr % 2 ≡ 0 → Shown m Z first VECTOR
  from_vector as_saved off =
      walks m Z (tree VECTOR_NODES) VECTOR (λ _. ⊥) (λ to x. (to ≡ SAVE) × Arrived c z m 2 x) first all.vector (record { bytes = λ x e. refl; masked = off }) (λ x b. absurd b) (λ a x g. low x g.1) (λ x kx b. absurd b)
      (λ a x kx g. subst (λ n. Shown m Z x n) (sym g.0) (from_save as_saved x kx g.1)) (vector_meets first 2 refl (omega arith))
    where
      low : (x : Run) → Arrived c z m 2 x → x.steps ≤ 200
      low x g = omega (arith, g.within)

pub interrupts_arrive : InterruptsArrive
interrupts_arrive k s context sr words =
    let on : Bool = s.running.interrupts in
    let m : Memory = k.bytes in
    let x : Context = s.running.context in
    let bad : ℕ = unwrap_or interrupt_trap.bad k.processor.cop0.bad_address in
    let made : Core → Type 0 = λ y. Within (AtInterrupt m s) 202 y [] in
    let cop : ℕ → Cop0 = λ sr. record { sr = entered_sr sr; cause = cause_of 0 x.in_slot; epc = epc_of x; bad_address = bad } in
    let at : ℕ → ℕ → Core = λ sr pc. record { processor = record { context = placed (settle x) pc; cop0 = cop sr; latch = true }; bytes = m } in
    let begun : made (at (user_sr on) VECTOR) = from_vector m (all_placed m words) s (entered_sr (user_sr on)) bad (sr_entered on) (sr_off on) 202 (omega arith) in
    let placed_there : made (at (user_sr on) (vector (user_sr on))) = subst (λ a. made (at (user_sr on) a)) (sym (vector_is on)) begun in
    let by_sr : made (at k.processor.cop0.sr (vector k.processor.cop0.sr)) = subst (λ a. made (at a (vector a))) (sym sr) placed_there in
    subst (λ a. made (record k { processor = enter (record k.processor { context = a }) interrupt_trap })) (sym context) by_sr
