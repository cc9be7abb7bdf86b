-- An interrupt's words finish in time, from the vector on.
use Rattle.std.proofs.Common.{ℕ, ◌+◌, List, [], inl, refl, sym, ◌∙◌, subst, arith}
use Rattle.psx_base.specs.Context.{settle, epc_of}
use Rattle.psx_base.specs.Memory.{byte, word}
use Rattle.psx_base.specs.KernelState.{KernelState}
use Rattle.psx_cpu.specs.Processor.{Core}
use Rattle.psx_cpu.specs.Exceptions.{enter}
use Rattle.psx_flow.specs.Run.{Access}
use Rattle.kern_layout.specs.Stands.{HoldsRom, Stands}
use Rattle.kern_layout.specs.Valid.{Valid}
use Rattle.kern_layout.proofs.Written.{reads_free}
use Rattle.abs_kernel.specs.Interrupt.{handles_interrupt}
use Rattle.abs_kernel.specs.KernelStep.{settled_state, stay_of}
use Rattle.abs_kernel.proofs.Ends.{valid_kept}
use Rattle.abs_kernel.proofs.Interrupted.{interrupted_valid}
use Rattle.abs_kernel.proofs.Moved.{valid_moved}
use Rattle.abs_kernel.proofs.Ending.{at_rest}
use Rattle.abs_run.specs.InWords.{ContextFits, CoreFits}
use Rattle.abs_run.specs.InKernel.{side_of}
use Rattle.abs_run.specs.Entered.{interrupt}
use Rattle.abs_run.specs.Serves.{Finishes, most_interrupt_steps, entered}
use Rattle.abs_run.proofs.WordsKept.{settle-fits, taken-fits, epc-word}
use Rattle.kern_stay.specs.Doors.{Holds, Arrives, most_interrupt_steps as most_listing_steps}
use Rattle.kern_entry.specs.InterruptLaws.{rested, AtInterrupt}
use Rattle.kern_entry.proofs.InterruptArrives.{interrupts_arrive}
use Rattle.kern_image.specs.Rom.{rom}
use Rattle.kern_image.specs.StaysLaws.{InterruptsFinish}
use Rattle.kern_image.proofs.StaysStand.{spared_user, spared_word, fixed_below}
use Rattle.kern_image.proofs.StaysHeld.{holds_entry}
use Rattle.kern_image.proofs.StaysDoors.{IsValid}
use Rattle.kern_image.proofs.StaysEnter.{only_interrupt}
use Rattle.kern_image.proofs.FinishSteps.{finishes_least, Finishing, within_finishing}
use Rattle.kern_image.proofs.FinishStages.{after_work, interrupt_finishes}

module _ (k : Core) (s : KernelState) (valid : Valid s) (fits : CoreFits k) (stands : Stands (side_of k) k.bytes s rom) (ends : IsValid (handles_interrupt (rested s))) where
  abbrev t : KernelState
  t = settled_state s

  abbrev u : KernelState
  u = rested s

  valid_u : Valid u
  valid_u = interrupted_valid t (valid_moved s s.memory s.random (record s.running { context = settle s.running.context }) valid (record { follows = valid.running.follows; branch = valid.running.branch }))

  held : (j : Core) (q : List Access) → AtInterrupt k.bytes s j q → Holds u j.bytes
  held j q x =
      let few = valid.frames_most in
      let r = reads_free s valid (word k.bytes) (word j.bytes) (byte k.bytes) (byte j.bytes)
      (λ p low high. x.spared p (inl (omega arith)))
      (λ p even low high. spared_word k.bytes j.bytes x.spared p even (omega (arith, high, few)))
      (λ p even low high. spared_word k.bytes j.bytes x.spared p even (omega arith))
      (λ p even low high. spared_word k.bytes j.bytes x.spared p even (omega arith))
      stands.reads in
      record {
        settled = refl;
        area = x.area;
        reads = record { threads = r.threads; events = r.events; frames = r.frames; chains = r.chains; heap = r.heap; files = r.files; line = r.line; variables = r.variables };
        user = spared_user k.bytes j.bytes s.memory stands.user x.spared;
      }

  in_words : ContextFits t.running.context
  in_words = settle-fits s.running.context (subst ContextFits stands.context fits.context)

  arrived : (j : Core) (q : List Access) → AtInterrupt k.bytes s j q → Arrives u j.bytes
  arrived j q x = record { valid = valid_u; out = refl; holds = held j q x; words = (taken-fits t.running.context (epc_of t.running.context) in_words (epc-word t.running.context in_words)).regs.general }

  abbrev left : ℕ
  left = after_work + most_listing_steps

  aimed : (j : Core) (q : List Access) → AtInterrupt k.bytes s j q → Finishing left j q
  aimed j q x =
      let code : HoldsRom j.bytes rom = λ p f. (let low = fixed_below p f in x.spared p (inl (omega arith))) ∙ stands.code p f in
      subst (λ y. Finishing left y q) (sym x.core) (interrupt_finishes rom j.bytes (holds_entry j.bytes code) code u x.regs x.cop0 x.off (arrived j q x) (at_rest t.running.context (epc_of t.running.context)) ends)

  pub finishes : (a b c : ℕ) → Finishes most_interrupt_steps (entered k interrupt a b c)
  finishes a b c =
      let from : Core = record k { processor = enter k.processor interrupt } in
      finishes_least (left + 202) most_interrupt_steps (entered k interrupt a b c) (omega arith)
      (within_finishing (AtInterrupt k.bytes s) left aimed 202 from [] (interrupts_arrive k s stands.context stands.sr (holds_entry k.bytes stands.code)) a b c)

ends_valid : (s : KernelState) → Valid s → IsValid (handles_interrupt (rested s))
unfolding stay_of
ends_valid s valid = valid_kept s 0 valid

pub interrupts_finish : InterruptsFinish rom
interrupts_finish k s trap a b c valid fits stands may none =
    subst (λ x. Finishes most_interrupt_steps (entered k x a b c)) (sym (only_interrupt s trap may none).0) (finishes k s valid fits stands (ends_valid s valid) a b c)
