-- From each listing on a stay is made, where it is from the listings to which it goes.
use Rattle.std.proofs.Common.{◌≡◌, ℕ, suc, ◌+◌, ◌-◌, ◌*◌, ◌%◌, ◌^◌, ◌<◌, ◌≤◌, List, [], ◌∷◌, Bool, Some, refl, sym, ap, ◌∙◌, subst, arith}
use Rattle.psx_base.specs.declared.ports.TheConstants.{HALT_A, HALT_B, HALT_C}
use Rattle.psx_base.specs.declared.stop.Stop.{Stop}
use Rattle.psx_base.specs.Memory.{Memory}
use Rattle.psx_base.specs.Registers.{Registers}
use Rattle.psx_base.specs.KernelState.{KernelState}
use Rattle.psx_cpu.specs.Processor.{Core, Cop0}
use Rattle.psx_cpu.specs.Exceptions.{cause_of}
use Rattle.psx_ports.specs.HaltCodes.{halt_stop}
use Rattle.psx_flow.specs.Tree.{Tree, size}
use Rattle.psx_flow.specs.Run.{Run, Access, Load, PortWrite, state_at}
use Rattle.psx_flow.specs.Told.{ports}
use Rattle.psx_flow.specs.Plain.{kernel_core}
use Rattle.psx_flow.specs.Kernel.{kernel_words}
use Rattle.psx_flow.specs.Meets.{Goal, Meets, calls}
use Rattle.psx_flow.specs.Reaches.{IsPlaced, Keeps}
use Rattle.kern_layout.specs.Stands.{user_sr}
use Rattle.abs_kernel.specs.Stay.{Stay, Return, Halt}
use Rattle.kern_entry.specs.declared.places.TheConstants.{LEAVE, BEHIND, RESUME, EXIT, DONE, UNSERVED, EXCEPTION, BAD_POINTER, BAD_THREAD, DEEP, BAD_RETURN}
use Rattle.kern_entry.specs.declared.calls.TheConstants.{EXIT_NODES}
use Rattle.kern_entry.specs.declared.stops.TheConstants.{UNSERVED_NODES, EXCEPTION_NODES, DONE_NODES, BAD_POINTER_NODES, BAD_THREAD_NODES, DEEP_NODES, BAD_RETURN_NODES}
use Rattle.kern_entry.specs.declared.leave.TheConstants.{LEAVE_NODES, BEHIND_NODES, RESUME_NODES, RETURN}
use Rattle.kern_entry.specs.EntryWords.{tree}
use Rattle.kern_entry.specs.Within.{Aim, Within}
use Rattle.kern_entry.specs.Made.{after, Follows, given, IsBack, Leaving, Returned, Halted, Spared, Made}
use Rattle.kern_entry.proofs.Walk.{walk_placed, within_backs, within_here}
use Rattle.kern_entry.proofs.WorkArea.{AreaHolds, AreaEntered}
use Rattle.kern_entry.proofs.Routines.{Stops, Exits, exit_meets, done_meets, unserved_meets, exception_meets, bad_pointer_meets, bad_thread_meets, deep_meets, bad_return_meets}
use Rattle.kern_entry.proofs.Leaving.{Resumed, leave_meets, behind_meets, resume_meets}
use Rattle.kern_entry.proofs.Returning.{back_to, Back, return_from}
use Rattle.kern_stay.proofs.Telling.{after_ports, follows_ports, given_ports}
use Rattle.kern_entry.proofs.Placed.{AllPlaced}

module _ (m : Memory) (Z : Aim) where
  -- an aim is met from a state at an address, in the steps that are left
  abbrev pub Shown : Run → ℕ → Type 0
  Shown s at = (n : ℕ) → 202 ≤ n + s.steps → Within Z n (kernel_core (state_at s at)) s.seen

  abbrev pub Keeping : Run → Type 0
  Keeping s = Keeps kernel_words m s

  pub walks : (T : Tree) (at : ℕ) (K : Goal) (G : ℕ → Goal) (s : Run) → IsPlaced kernel_words m at T → Keeping s → ((e : Run) → K e → e.steps ≤ 200) → ((a : ℕ) (e : Run) → G a e → e.steps ≤ 200)
      → ((e : Run) → Keeping e → K e → Shown e (at + 4 * size T)) → ((a : ℕ) (e : Run) → Keeping e → G a e → Shown e a) → Meets kernel_words (calls kernel_words []) T at K G s → Shown s at
  walks T at K G s p ks low high here jump h =
      walk_placed kernel_words m (Within Z) (within_backs Z) 200 [] tt T at K G 202 s (omega arith) p ks (record { low = low; low_jump = high; here = here; jump = jump }) h

module _ (stay : Stay) where
  -- behind these accesses to ports the stay returns with a context
  pub record Returns (c : Registers) (pc : ℕ) (on : Bool) (p : List Access) : Type 0 where
    pub state : KernelState
    pub follows : Follows stay p
    pub is : after stay p ≡ Return state
    pub context : state.running.context ≡ back_to c pc
    pub interrupts : state.running.interrupts ≡ on

  -- behind these it halts by a code
  pub record HaltsBy (code : ℕ) (p : List Access) : Type 0 where
    pub stop : Stop
    pub memory : Memory
    pub follows : Follows stay p
    pub is : after stay p ≡ Halt stop memory
    pub stops : (a b c : ℕ) → halt_stop code (given HALT_A a p) (given HALT_B b p) (given HALT_C c p) ≡ Some stop

-- where a stay that is made is aimed at
module _ (m : Memory) (all : AllPlaced m) (stay : Stay) (Z : Aim) (aimed : (k : Core) (q : List Access) → Made m stay k q → Z k q) where
  abbrev Show : Run → ℕ → Type 0
  Show = Shown m Z

  abbrev Keep : Run → Type 0
  Keep s = Keeps kernel_words m s

  -- ---- the ends of a stay

  is_at : (q p : List Access) (end : Stay) → ports q ≡ p → after stay p ≡ end → after stay q ≡ end
  is_at q p end e h = after_ports stay q ∙ (ap (after stay) e ∙ h)

  follows_at : (q p : List Access) → ports q ≡ p → Follows stay p → Follows stay q
  follows_at q p e h = follows_ports stay q (subst (Follows stay) (sym e) h)

  given_at : (at before : ℕ) (q p : List Access) → ports q ≡ p → given at before q ≡ given at before p
  given_at at before q p e = given_ports at before q ∙ ap (given at before) e

  -- the last load is no access to a port
  made_back : (k : Core) (c : Registers) (pc : ℕ) (on : Bool) (p rest q : List Access) (last : ℕ) → q ≡ Load 4 0xEB88 last ∷ rest → ports rest ≡ p → Returns stay c pc on p → Leaving (Back c pc on m) k → Made m stay k q
  made_back k c pc on p rest q last e told r b =
      let back : Leaving (IsBack m r.state) k = (b.0, record { context = b.1.context ∙ sym r.context; sr = b.1.sr ∙ sym (ap user_sr r.interrupts); latch = b.1.latch; spared = b.1.spared }, b.2) in
      let P : Stay → Type 0 = λ y. Returned m y k in
      subst (λ x. Made m stay k x) (sym e) ((follows_at rest p told r.follows, tt), subst P (sym (is_at rest p (Return r.state) told r.is)) back)

  made_halt : (k : Core) (e : Run) (code most : ℕ) (p : List Access) → k.bytes ≡ e.bytes → Stops code p m most e → HaltsBy stay code p → Made m stay k e.seen
  made_halt k e code most p same s h =
      let P : Stay → Type 0 = λ y. Halted m y code s.rest k in
      let told : (a b c : ℕ) → halt_stop code (given HALT_A a s.rest) (given HALT_B b s.rest) (given HALT_C c s.rest) ≡ Some h.stop = λ a b c.
      (λ i. halt_stop code (given_at HALT_A a s.rest p s.told i) (given_at HALT_B b s.rest p s.told i) (given_at HALT_C c s.rest p s.told i)) ∙ h.stops a b c in
      subst (λ x. Made m stay k x) (sym s.seen) (follows_at s.rest p s.told h.follows, subst P (sym (is_at s.rest p (Halt h.stop h.memory) s.told h.is)) (told, subst (Spared m) (sym same) s.spared))

  -- a listing that stops
  pub stops_here : (T : Tree) (at code : ℕ) (p : List Access) (s : Run) → IsPlaced kernel_words m at T → Keep s → HaltsBy stay code p → Meets kernel_words (calls kernel_words []) T at (λ e. Stops code p m 200 e) (λ _ _. ⊥) s → Show s at
  stops_here T at code p s pl ks h me =
      walks m Z T at (λ e. Stops code p m 200 e) (λ _ _. ⊥) s pl ks (λ e k. k.within) (λ a e z. absurd z)
      (λ e ke k n few. within_here Z n _ _ (aimed (kernel_core (state_at e (at + 4 * size T))) e.seen (made_halt (kernel_core (state_at e (at + 4 * size T))) e code 200 p refl k h))) (λ a e ke z. absurd z) me

  -- ---- back to the program

  left_one : (n made : ℕ) → made ≤ 200 → 202 ≤ n + made → suc (n - 1) ≡ n
  left_one n made h few = omega arith

  module _ (c : Registers) (pc : ℕ) (on : Bool) (p : List Access) where
    resumed_shown : (e : Run) → Keep e → Resumed c pc on m p 200 e → Returns stay c pc on p → Show e RETURN
    resumed_shown e ke k r n few =
        subst (λ j. Within Z j (kernel_core (state_at e RETURN)) e.seen) (left_one n e.steps k.within few)
        (return_from Z c pc on m p 200 (n - 1) m e all.return ke k (λ x b. aimed x e.seen (made_back x c pc on p k.rest e.seen k.last k.seen k.ports r b)))

    pub resume_shown : (s : Run) → Keep s → AreaHolds c pc on m p 150 s → Returns stay c pc on p → Show s RESUME
    resume_shown s ks h r =
        walks m Z (tree RESUME_NODES) RESUME (λ e. Resumed c pc on m p 200 e) (λ _ _. ⊥) s all.resume ks (λ e k. k.within) (λ a e z. absurd z) (λ e ke k. resumed_shown e ke k r) (λ a e ke z. absurd z)
        (resume_meets c pc on m p 150 200 s h (omega arith) (omega arith))

  -- from AreaHolds at a listing that goes to RESUME
  to_resume : (T : Tree) (at : ℕ) (c : Registers) (pc : ℕ) (on : Bool) (p : List Access) (s : Run) → IsPlaced kernel_words m at T → Keep s → Returns stay c pc on p
      → Meets kernel_words (calls kernel_words []) T at (λ _. ⊥) (λ to e. (to ≡ RESUME) × AreaHolds c pc on m p 150 e) s → Show s at
  to_resume T at c pc on p s pl ks r me =
      walks m Z T at (λ _. ⊥) (λ to e. (to ≡ RESUME) × AreaHolds c pc on m p 150 e) s pl ks (λ e z. absurd z) (λ a e g. low e g.1) (λ e ke z. absurd z)
      (λ a e ke g. subst (λ x. Show e x) (sym g.0) (resume_shown c pc on p e ke g.1 r)) me
    where
      low : (e : Run) → AreaHolds c pc on m p 150 e → e.steps ≤ 200
      low e h = omega (arith, h.within)

  pub leave_shown : (c : Registers) (pc : ℕ) (on : Bool) (p : List Access) (s : Run) → Keep s → AreaHolds c pc on m p 130 s → Returns stay (record c { r2 = s.regs.r2 }) c.r31 on p → Show s LEAVE
  leave_shown c pc on p s ks h r = to_resume (tree LEAVE_NODES) LEAVE (record c { r2 = s.regs.r2 }) c.r31 on p s all.leave ks r (leave_meets c pc on m p 130 150 s h (omega arith))

  pub behind_shown : (c : Registers) (pc : ℕ) (on : Bool) (p : List Access) (s : Run) → Keep s → AreaHolds c pc on m p 130 s → Returns stay c ((pc + 4) % 2 ^ 32) on p → Show s BEHIND
  behind_shown c pc on p s ks h r = to_resume (tree BEHIND_NODES) BEHIND c ((pc + 4) % 2 ^ 32) on p s all.behind ks r (behind_meets c pc on m p 130 150 s h (omega arith))

  -- ---- the routines

  pub exit_shown : (c : Registers) (pc : ℕ) (on : Bool) (p : List Access) (v : ℕ) (s : Run) → Keep s → AreaHolds c pc on m p 130 s → s.regs.r4 ≡ v → HaltsBy stay 1 (PortWrite HALT_A v ∷ p) → Show s EXIT
  exit_shown c pc on p v s ks h e stop = stops_here (tree EXIT_NODES) EXIT 1 (PortWrite HALT_A v ∷ p) s all.exit ks stop (exit_meets c pc on m p 130 200 v s h e (omega arith))

  module _ (c : Registers) (z : Cop0) (on : Bool) (p : List Access) (s : Run) (ks : Keep s) (h : AreaEntered c z on m p 100 s) where
    pub done_shown : HaltsBy stay 1 (PortWrite HALT_A c.r2 ∷ p) → Show s DONE
    done_shown stop =
        walks m Z (tree DONE_NODES) DONE (λ _. ⊥) (λ to e. Exits c.r2 c z.epc on m p 130 to e) s all.done ks (λ e x. absurd x) (λ a e g. low e g.holds) (λ e ke x. absurd x)
        (λ a e ke g. subst (λ x. Show e x) (sym g.to_is) (exit_shown c z.epc on p c.r2 e ke g.holds g.value_is stop)) (done_meets c z on m p 100 130 s h (omega arith))
      where
        low : (e : Run) → AreaHolds c z.epc on m p 130 e → e.steps ≤ 200
        low e x = omega (arith, x.within)

    pub unserved_shown : (table : ℕ) → s.regs.r10 ≡ table → HaltsBy stay 3 (PortWrite HALT_C c.r31 ∷ PortWrite HALT_B c.r9 ∷ PortWrite HALT_A table ∷ p) → Show s UNSERVED
    unserved_shown table e stop =
        stops_here (tree UNSERVED_NODES) UNSERVED 3 (PortWrite HALT_C c.r31 ∷ PortWrite HALT_B c.r9 ∷ PortWrite HALT_A table ∷ p) s all.unserved ks stop (unserved_meets c z on m p 100 200 s h (omega arith) table e)

    pub exception_shown : (code : ℕ) (slot : Bool) → z.cause ≡ cause_of code slot → code < 32 → HaltsBy stay 2 (PortWrite HALT_B z.epc ∷ PortWrite HALT_A code ∷ p) → Show s EXCEPTION
    exception_shown code slot e small stop =
        stops_here (tree EXCEPTION_NODES) EXCEPTION 2 (PortWrite HALT_B z.epc ∷ PortWrite HALT_A code ∷ p) s all.exception ks stop (exception_meets c z on m p 100 200 s h (omega arith) code slot e small)

  pub bad_pointer_shown : (c : Registers) (pc : ℕ) (on : Bool) (p : List Access) (v : ℕ) (s : Run) → Keep s → AreaHolds c pc on m p 130 s → s.regs.r8 ≡ v → HaltsBy stay 4 (PortWrite HALT_B c.r31 ∷ PortWrite HALT_A v ∷ p) → Show s BAD_POINTER
  bad_pointer_shown c pc on p v s ks h e stop =
      stops_here (tree BAD_POINTER_NODES) BAD_POINTER 4 (PortWrite HALT_B c.r31 ∷ PortWrite HALT_A v ∷ p) s all.bad_pointer ks stop (bad_pointer_meets c pc on m p 130 200 s h (omega arith) v e)

  pub bad_thread_shown : (c : Registers) (pc : ℕ) (on : Bool) (p : List Access) (v : ℕ) (s : Run) → Keep s → AreaHolds c pc on m p 130 s → s.regs.r8 ≡ v → HaltsBy stay 5 (PortWrite HALT_B c.r31 ∷ PortWrite HALT_A v ∷ p) → Show s BAD_THREAD
  bad_thread_shown c pc on p v s ks h e stop =
      stops_here (tree BAD_THREAD_NODES) BAD_THREAD 5 (PortWrite HALT_B c.r31 ∷ PortWrite HALT_A v ∷ p) s all.bad_thread ks stop (bad_thread_meets c pc on m p 130 200 s h (omega arith) v e)

  pub deep_shown : (p : List Access) (v : ℕ) (s : Run) → Keep s → Spared m s.bytes → ports s.seen ≡ p → s.steps ≤ 130 → s.regs.r31 ≡ v → HaltsBy stay 6 (PortWrite HALT_A v ∷ p) → Show s DEEP
  deep_shown p v s ks spared told few e stop = stops_here (tree DEEP_NODES) DEEP 6 (PortWrite HALT_A v ∷ p) s all.deep ks stop (deep_meets m p v 200 s spared told e (omega (arith, few)))

  pub bad_return_shown : (c : Registers) (pc : ℕ) (on : Bool) (p : List Access) (s : Run) → Keep s → AreaHolds c pc on m p 130 s → HaltsBy stay 7 (PortWrite HALT_A c.r31 ∷ p) → Show s BAD_RETURN
  bad_return_shown c pc on p s ks h stop =
      stops_here (tree BAD_RETURN_NODES) BAD_RETURN 7 (PortWrite HALT_A c.r31 ∷ p) s all.bad_return ks stop (bad_return_meets c pc on m p 130 200 s h (omega arith))
