-- Each entry by its stay.
use Rattle.std.proofs.Common.{◌≡◌, ℕ, suc, ◌+◌, ◌-◌, ◌^◌, ◌<◌, List, [], false, None, refl, sym, ap, ◌∙◌, subst, arith, inl, inr}
use Rattle.psx_base.specs.declared.ports.TheConstants.{HALT_A, HALT_B, HALT_C}
use Rattle.psx_base.specs.Registers.{register}
use Rattle.psx_base.specs.Context.{settle, epc_of}
use Rattle.psx_base.specs.Memory.{Memory, byte, word}
use Rattle.psx_base.specs.KernelState.{KernelState}
use Rattle.psx_cpu.specs.Processor.{Core, Trap}
use Rattle.psx_cpu.specs.Exceptions.{enter}
use Rattle.psx_flow.specs.Run.{Access}
use Rattle.psx_flow.specs.Told.{ports}
use Rattle.kern_layout.specs.Reads.{Reads}
use Rattle.kern_layout.specs.Stands.{SameUser, Stands, HoldsRom}
use Rattle.kern_layout.specs.Valid.{Valid}
use Rattle.kern_layout.proofs.Written.{reads_free}
use Rattle.abs_kernel.specs.Cause.{entry_of}
use Rattle.abs_kernel.specs.KernelStep.{settled_state, stay_of}
use Rattle.abs_kernel.specs.Interrupt.{interrupted}
use Rattle.abs_kernel.specs.Answered.{registers_of}
use Rattle.abs_kernel.proofs.Interrupted.{interrupted_valid}
use Rattle.abs_kernel.proofs.Ending.{at_rest}
use Rattle.abs_kernel.specs.Stay.{Stay}
use Rattle.abs_kernel.proofs.Ends.{valid_kept}
use Rattle.abs_kernel.proofs.Moved.{valid_moved}
use Rattle.abs_run.specs.InWords.{ContextFits, CoreFits}
use Rattle.abs_run.specs.InKernel.{InKernel, side_of}
use Rattle.abs_run.specs.Entered.{MayEnter, bound_of}
use Rattle.abs_run.specs.Serves.{Runs, entered}
use Rattle.abs_run.proofs.WordsKept.{settle-fits, taken-fits, epc-word}
use Rattle.kern_stay.specs.Follows.{after, Follows, given}
use Rattle.kern_stay.specs.Doors.{Holds, Arrives}
use Rattle.kern_stay.proofs.Telling.{after_ports, follows_ports, given_ports}
use Rattle.kern_entry.specs.EntryLaws.{Routine, OfCall, OfBack, OfDelivery, OfInterrupt, stay_by, entered_by, AtRoutine, Begins}
use Rattle.kern_entry.proofs.Whole.{stays_begin}
use Rattle.kern_image.specs.Rom.{rom}
use Rattle.kern_image.specs.StaysLaws.{MakesStays}
use Rattle.kern_image.specs.Tables.{routine_of}
use Rattle.kern_image.proofs.StaysBounds.{limit_by, steps_left}
use Rattle.kern_image.proofs.StaysRuns.{runs_least}
use Rattle.kern_image.proofs.StaysMade.{Shows, made_shows}
use Rattle.kern_image.proofs.StaysStage.{aimed_shows, going_shows}
use Rattle.kern_image.proofs.StaysStand.{back, bound_by_least, spared_user, spared_word, fixed_below}
use Rattle.kern_image.proofs.StaysDoors.{at_core, IsValid}
use Rattle.kern_image.proofs.StaysCalls.{Asks, routine_served}
use Rattle.kern_image.proofs.StaysEnter.{may_enter}
use Rattle.kern_image.proofs.StaysHeld.{holds_entry, tables_read}

module _ (k : Core) (s : KernelState) (trap : Trap) (a b c : ℕ) (valid : Valid s) (fits : CoreFits k) (stands : Stands (side_of k) k.bytes s rom) (enters : MayEnter s trap) where
  abbrev stay : Stay
  stay = stay_of s trap.code

  abbrev t : KernelState
  t = settled_state s

  valid_t : Valid t
  valid_t = valid_moved s s.memory s.random (record s.running { context = settle s.running.context }) valid (record { follows = valid.running.follows; branch = valid.running.branch })

  -- the state in which a routine is entered differs from the settled one in the running context alone
  record Entered (u : KernelState) : Type 0 where
    is : u ≡ record s { running = u.running }
    as_valid : Valid u
    settled : u.running.context.pending ≡ None
    words : (n : ℕ) → register (registers_of u) n < 2 ^ 32

  in_words : ContextFits t.running.context
  in_words = settle-fits s.running.context (subst ContextFits stands.context fits.context)

  of_settled : Entered t
  of_settled = record { is = refl; as_valid = valid_t; settled = refl; words = in_words.regs.general }

  of_interrupted : Entered (interrupted t)
  of_interrupted = record { is = refl; as_valid = interrupted_valid t valid_t; settled = refl; words = (taken-fits t.running.context (epc_of t.running.context) in_words (epc-word t.running.context in_words)).regs.general }

  entered_in : (r : Routine) → Entered (entered_by r s)
  entered_in (OfCall id) = of_settled
  entered_in OfBack = of_settled
  entered_in OfDelivery = of_settled
  entered_in OfInterrupt = of_interrupted

  module _ (n : Memory) (code : HoldsRom n rom) where
    asked : (r : Routine) → Asks n code r (entered_by r s)
    asked (OfCall id) = tt
    asked OfBack = tt
    asked OfDelivery = tt
    asked OfInterrupt = at_rest t.running.context (epc_of t.running.context)

  arrived : (u : KernelState) → Entered u → (n : Memory) → u.running.context.in_slot ≡ false → Holds u n → Arrives u n
  arrived u e n out h = record { valid = e.as_valid; out = out; holds = h; words = e.words }

  held : (j : Core) (q : List Access) (x : AtRoutine routine_of k.bytes s trap.code stay j q) → Holds (entered_by x.routine s) j.bytes
  held j q x =
      let u : KernelState = entered_by x.routine s in
      let e = entered_in x.routine in
      let few = valid.frames_most in
      let r = reads_free s valid (word k.bytes) (word j.bytes) (byte k.bytes) (byte j.bytes)
      (λ p low high. x.spared p (inl (omega arith)))
      (λ p even low high. spared_word k.bytes j.bytes x.spared p even (omega (arith, high, few)))
      (λ p even low high. spared_word k.bytes j.bytes x.spared p even (omega arith))
      (λ p even low high. spared_word k.bytes j.bytes x.spared p even (omega arith))
      stands.reads in
      let P : KernelState → Type 0 = λ v. Reads v (word j.bytes) (byte j.bytes) × SameUser j.bytes v.memory in
      let p : P u = subst P (sym e.is) (record { threads = r.threads; events = r.events; frames = r.frames; chains = r.chains; heap = r.heap; files = r.files; line = r.line; variables = r.variables }, spared_user k.bytes j.bytes s.memory stands.user x.spared) in
      record { settled = e.settled; area = x.area; reads = p.0; user = p.1 }

  -- accesses to no port
  quiet_shows : (n : ℕ) (j : Core) (q : List Access) → ports q ≡ [] → Runs rom stay n (at_core rom a b c j) → Shows rom stay a b c n j q
  quiet_shows n j q e h =
      let A : given HALT_A a q ≡ a = given_ports HALT_A a q ∙ ap (given HALT_A a) e in
      let B : given HALT_B b q ≡ b = given_ports HALT_B b q ∙ ap (given HALT_B b) e in
      let C : given HALT_C c q ≡ c = given_ports HALT_C c q ∙ ap (given HALT_C c) e in
      let is : after stay q ≡ stay = after_ports stay q ∙ ap (after stay) e in
      let F : InKernel → Type 0 = λ y. Runs rom stay n y in
      let there : Runs rom stay n (record { core = j; a = given HALT_A a q; b = given HALT_B b q; c = given HALT_C c q }) = subst F (λ i. record { core = j; a = sym A i; b = sym B i; c = sym C i }) h in
      going_shows rom stay a b c n j q (follows_ports stay q (subst (Follows stay) (sym e) tt), subst (λ y. Runs rom y n (record { core = j; a = given HALT_A a q; b = given HALT_B b q; c = given HALT_C c q })) (sym is) there)

  -- the steps that the vector leaves, at least as many as the routine of a call needs
  abbrev left : ℕ
  left = bound_of s trap.code - 203

  shown : (j : Core) (q : List Access) → Begins routine_of k.bytes s trap.code stay j q → Shows rom stay a b c (suc left) j q
  shown j q (inl y) =
      made_shows rom stay a b c k.bytes (λ x. x ≡ record s { running = x.running }) (λ stop memory. memory ≡ s.memory) y.0 (λ state next e i. back k.bytes (side_of k) s rom valid stands state next e i)
      (λ stop memory i e sp. spared_user k.bytes i.bytes memory (subst (SameUser k.bytes) (sym e) stands.user) sp) left j q y.1
  shown j q (inr x) =
      let code : HoldsRom j.bytes rom = λ p f. (let low = fixed_below p f in x.spared p (inl (omega arith))) ∙ stands.code p f in
      let r : Routine = x.routine in
      let u : KernelState = entered_by r s in
      let ok : IsValid (stay_by r u) = subst IsValid x.is (valid_kept s trap.code valid) in
      let e = entry_of s.running.context trap.code in
      let few = steps_left e.gate e.number r x.by in
      let made = runs_least rom (stay_by r u) (limit_by r) (suc left) _ (omega (arith, few)) (routine_served j.bytes code r a b c u x.regs x.cop0 ok (arrived u (entered_in r) j.bytes x.out (held j q x)) (asked j.bytes code r) x.off) in
      let there : Runs rom (stay_by r u) (suc left) (at_core rom a b c j) = subst (λ y. Runs rom (stay_by r u) (suc left) (at_core rom a b c y)) (sym x.core) made in
      quiet_shows (suc left) j q x.quiet (subst (λ y. Runs rom y (suc left) (at_core rom a b c j)) (sym x.is) there)

  pub stay_served : Runs rom stay (bound_of s trap.code) (entered k trap a b c)
  stay_served =
      let f = may_enter s trap enters in
      let e = entry_of s.running.context trap.code in
      let least = bound_by_least e.gate e.number in
      let from : Core = record k { processor = enter k.processor trap } in
      let h = aimed_shows rom stay a b c (Begins routine_of k.bytes s trap.code stay) (suc left) shown 202 from []
      (stays_begin routine_of k s trap (record { context = stands.context; sr = stands.sr; code = f.0; mirrored = λ e o. f.1 e; words = holds_entry k.bytes stands.code; tables = tables_read k.bytes stands.code })) in
      let whole : suc left + 202 ≡ bound_of s trap.code = omega (arith, least) in
      subst (λ n. Runs rom stay n (entered k trap a b c)) whole h.1

pub makes_stays : MakesStays rom
makes_stays k s trap a b c valid fits stands enters = stay_served k s trap a b c valid fits stands enters
