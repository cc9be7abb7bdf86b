-- From each door the words make what is left of the stay.
use Rattle.std.proofs.Common.{◌≡◌, ℕ, ◌+◌, ◌-◌, ◌*◌, ◌%◌, ◌^◌, ◌<◌, ◌≤◌, List, [], ◌∷◌, Bool, true, false, cond, refl, sym, ap, ◌∙◌, subst, arith, inl}
use Rattle.std.specs.Prelude.{nat_eq, nat_le, ◌&&◌, length, if◌then◌else◌}
use Rattle.std.proofs.Math.Nat.{mul-add}
use Rattle.std.proofs.lemmas.Bool.{eqb-true, leb-true, lt-ltb, and_parts}
use Rattle.psx_base.specs.declared.stop.Stop.{Stop}
use Rattle.psx_base.specs.declared.stop.Stop.TheVariants.{BadPointer, BadThread, BadReturn, Deep}
use Rattle.psx_base.specs.Context.{taken}
use Rattle.psx_base.specs.Memory.{Memory, byte, word}
use Rattle.psx_base.specs.KernelState.{KernelState}
use Rattle.psx_cpu.specs.Processor.{Core}
use Rattle.psx_flow.specs.Kernel.{kernel_words}
use Rattle.psx_flow.specs.Plain.{kernel_core}
use Rattle.psx_flow.specs.Reaches.{Keeps}
use Rattle.psx_flow.specs.Run.{Run, state_at}
use Rattle.kern_layout.specs.Stands.{SameUser, Stands, HoldsRom}
use Rattle.kern_layout.specs.Reads.{Reads}
use Rattle.kern_layout.specs.Valid.{Valid}
use Rattle.kern_layout.proofs.Written.{reads_free}
use Rattle.abs_kernel.specs.Answered.{registers_of}
use Rattle.abs_kernel.specs.Stay.{Stay, Return, Halt, Ask, Tell, Write, Touch}
use Rattle.abs_kernel.specs.StayLaws.{EachEnd}
use Rattle.abs_run.specs.InKernel.{InKernel, side_of}
use Rattle.abs_run.specs.Serves.{Runs}
use Rattle.kern_stay.specs.declared.places.TheConstants.{LEAVE, WAIT, BAD_POINTER, BAD_THREAD, BAD_RETURN, DEEP}
use Rattle.kern_stay.specs.Doors.{Answers, Waits, Refuses, Overflows, Strays, AtReturn, AtHalt, Ends}
use Rattle.kern_stay.specs.Words.{Stand}
use Rattle.kern_entry.specs.Holding.{HoldsEntry}
use Rattle.kern_entry.specs.EntryWords.{pieces}
use Rattle.kern_entry.specs.Made.{IsBack, Made}
use Rattle.kern_entry.specs.Within.{Within}
use Rattle.kern_entry.proofs.Joins.{leave_returns, wait_returns, bad_pointer_stops, bad_thread_stops, bad_return_stops, deep_stops}
use Rattle.kern_image.proofs.StaysMade.{made_shows}
use Rattle.kern_image.proofs.StaysStage.{aimed_shows, bare, weight}
use Rattle.kern_image.proofs.StaysStand.{spared_word, spared_user, fixed_below}

-- a return to a state for which the memory stands
pub home_in : (rom : List ℕ) (m : Memory) (t : KernelState) → Valid t → Reads t (word m) (byte m) → SameUser m t.memory → HoldsRom m rom → (next : Core) → IsBack m t next → Stands (side_of next) next.bytes t rom
home_in rom m t valid reads user code next h =
    let few = valid.frames_most in
    let r = reads_free t valid (word m) (word next.bytes) (byte m) (byte next.bytes)
    (λ a low high. h.spared a (inl (omega arith)))
    (λ a even low high. spared_word m next.bytes h.spared a even (omega (arith, high, few)))
    (λ a even low high. spared_word m next.bytes h.spared a even (omega arith))
    (λ a even low high. spared_word m next.bytes h.spared a even (omega arith))
    reads in
    record {
      context = h.context;
      sr = h.sr;
      latch = h.latch;
      reads = r;
      user = spared_user m next.bytes t.memory user h.spared;
      code = λ a f. (let low = fixed_below a f in h.spared a (inl (omega arith))) ∙ code a f;
    }

-- at an end, where it is in a door
abbrev pub InDoor : Stay → ℕ → Run → Type 0
InDoor (Return t) to e = AtReturn t to e
InDoor (Halt stop memory) to e = AtHalt stop memory to e
InDoor _ to e = ⊥

abbrev pub IsValid : Stay → Type 0
IsValid stay = EachEnd Valid (λ stop memory. Unit {0}) stay

-- words that make a stay which is at its end
module _ (rom : List ℕ) (a b c : ℕ) where
  abbrev pub at_core : Core → InKernel
  at_core k = record { core = k; a = a; b = b; c = c }

  pub return_runs : (m : Memory) (t : KernelState) → Valid t → Reads t (word m) (byte m) → SameUser m t.memory → HoldsRom m rom → (n : ℕ) (k : Core) → Within (Made m (Return t)) n k [] → Runs rom (Return t) (1 + n) (at_core k)
  return_runs m t valid reads user code n k h =
      (aimed_shows rom (Return t) a b c (Made m (Return t)) 1
      (λ j q y. made_shows rom (Return t) a b c m (λ x. x ≡ t) (λ stop memory. ⊥) refl
      (λ state next e z. subst (λ x. Stands (side_of next) next.bytes x rom) (sym e) (home_in rom m t valid reads user code next (subst (λ x. IsBack m x next) e z)))
      (λ stop memory j z s. absurd z) 0 j q y) n k [] h).1

  pub halt_runs : (m u : Memory) (stop : Stop) → SameUser m u → (n : ℕ) (k : Core) → Within (Made m (Halt stop u)) n k [] → Runs rom (Halt stop u) (1 + n) (at_core k)
  halt_runs m u stop user n k h =
      (aimed_shows rom (Halt stop u) a b c (Made m (Halt stop u)) 1
      (λ j q y. made_shows rom (Halt stop u) a b c m (λ x. ⊥) (λ stop memory. memory ≡ u) refl
      (λ state next e z. absurd e)
      (λ stop memory j z s. spared_user m j.bytes memory (subst (SameUser m) (sym z) user) s) 0 j q y) n k [] h).1

  -- ---- the doors

  -- memory whose kernel words are those of the first one
  word_kept : (m n : Memory) → ((x : ℕ) → kernel_words x ≡ true → byte n x ≡ byte m x) → (p : ℕ) → p + 4 ≤ 0xB000 → word n p ≡ word m p
  unfolding word
  word_kept m n k p low =
      let e : (x : ℕ) → x < 0xB000 → byte n x ≡ byte m x = λ x lt. k x (lt-ltb x 0xB000 lt) in
      let e0 = e p (omega arith) in let e1 = e (p + 1) (omega arith) in let e2 = e (p + 2) (omega arith) in let e3 = e (p + 3) (omega arith) in
      λ i. e0 i + e1 i * 2 ^ 8 + e2 i * 2 ^ 16 + e3 i * 2 ^ 24

  abbrev low_pieces : List (ℕ × List ℕ) → Bool
  low_pieces [] = true
  low_pieces (p ∷ ps) = nat_le (p.0 + 4 * length p.1) 0xB000 && low_pieces ps

  stand_kept : (m n : Memory) → ((x : ℕ) → kernel_words x ≡ true → byte n x ≡ byte m x) → (ps : List (ℕ × List ℕ)) → low_pieces ps ≡ true → Stand (word m) ps → Stand (word n) ps
  stand_kept m n k [] low h = tt
  stand_kept m n k (p ∷ ps) low h =
      let e = and_parts (nat_le (p.0 + 4 * length p.1) 0xB000) (low_pieces ps) low in
      let le = leb-true _ _ e.0 in
      (λ j lt. word_kept m n k (p.0 + 4 * j) (omega (arith, le)) ∙ h.0 j lt, stand_kept m n k ps e.1 h.1)

  pub entry_kept : (m n : Memory) → ((x : ℕ) → kernel_words x ≡ true → byte n x ≡ byte m x) → HoldsEntry m → HoldsEntry n
  entry_kept m n k h = stand_kept m n k pieces refl h

  pub rom_kept : (m n : Memory) → ((x : ℕ) → kernel_words x ≡ true → byte n x ≡ byte m x) → HoldsRom m rom → HoldsRom n rom
  rom_kept m n k h x f = k x (lt-ltb x 0xB000 (fixed_below x f)) ∙ h x f

  module _ (first : Memory) (words : HoldsEntry first) (code : HoldsRom first rom) where
    abbrev Runs_at : Stay → ℕ → Run → Type 0
    Runs_at stay to e = Runs rom stay 73 (at_core (kernel_core (state_at e to)))

    leaves : (t : KernelState) → Valid t → (e : Run) → Keeps kernel_words first e → Answers t e → Runs_at (Return t) LEAVE e
    leaves t valid e ke h =
        let s : KernelState = h.state in
        let P : KernelState → Type 0 = λ x. Reads x (word e.bytes) (byte e.bytes) × SameUser e.bytes x.memory in
        let r = h.holds.reads in
        let p : P t = subst P (sym h.is) (record { threads = r.threads; events = r.events; frames = r.frames; chains = r.chains; heap = r.heap; files = r.files; line = r.line; variables = r.variables }, h.holds.user) in
        return_runs e.bytes t valid p.0 p.1 (rom_kept first e.bytes ke.bytes code) 72 (kernel_core (state_at e LEAVE))
        (leave_returns e.regs e.cop0 e.bytes s.running t ke.masked (record { words = entry_kept first e.bytes ke.bytes words; area = h.holds.area; settled = h.holds.settled }) (ap (λ x. x.running) h.is))

    waiting : (t : KernelState) → Valid t → (e : Run) → Keeps kernel_words first e → Waits t e → Runs_at (Return t) WAIT e
    waiting t valid e ke h =
        let s : KernelState = h.state in
        let P : KernelState → Type 0 = λ x. Reads x (word e.bytes) (byte e.bytes) × SameUser e.bytes x.memory in
        let r = h.holds.reads in
        let p : P t = subst P (sym h.is) (record { threads = r.threads; events = r.events; frames = r.frames; chains = r.chains; heap = r.heap; files = r.files; line = r.line; variables = r.variables }, h.holds.user) in
        return_runs e.bytes t valid p.0 p.1 (rom_kept first e.bytes ke.bytes code) 72 (kernel_core (state_at e WAIT))
        (wait_returns e.regs e.cop0 e.bytes s.running t ke.masked (record { words = entry_kept first e.bytes ke.bytes words; area = h.holds.area; settled = h.holds.settled })
        (ap (λ x. x.running) h.is ∙ ap (λ b. record { context = taken s.running.context (if b then (s.running.context.pc + (2 ^ 32 - 4)) % 2 ^ 32 else s.running.context.pc); interrupts = s.running.interrupts }) h.out))

    refused : (stop : Stop) (u : Memory) (e : Run) → Keeps kernel_words first e → Refuses BadPointer stop u e → Runs_at (Halt stop u) BAD_POINTER e
    refused stop u e ke h =
        let s : KernelState = h.state in
        let P : Stop → Type 0 = λ x. Runs_at (Halt x u) BAD_POINTER e in
        subst P (sym h.is) (halt_runs e.bytes u (BadPointer e.regs.r8 (registers_of s).r31) (subst (SameUser e.bytes) (sym h.memory_is) h.holds.user) 72 (kernel_core (state_at e BAD_POINTER))
        (bad_pointer_stops e.regs e.cop0 e.bytes u s.running ke.masked (record { words = entry_kept first e.bytes ke.bytes words; area = h.holds.area; settled = h.holds.settled })))

    no_thread : (stop : Stop) (u : Memory) (e : Run) → Keeps kernel_words first e → Refuses BadThread stop u e → Runs_at (Halt stop u) BAD_THREAD e
    no_thread stop u e ke h =
        let s : KernelState = h.state in
        let P : Stop → Type 0 = λ x. Runs_at (Halt x u) BAD_THREAD e in
        subst P (sym h.is) (halt_runs e.bytes u (BadThread e.regs.r8 (registers_of s).r31) (subst (SameUser e.bytes) (sym h.memory_is) h.holds.user) 72 (kernel_core (state_at e BAD_THREAD))
        (bad_thread_stops e.regs e.cop0 e.bytes u s.running ke.masked (record { words = entry_kept first e.bytes ke.bytes words; area = h.holds.area; settled = h.holds.settled })))

    too_deep : (stop : Stop) (u : Memory) (e : Run) → Keeps kernel_words first e → Overflows stop u e → Runs_at (Halt stop u) DEEP e
    too_deep stop u e ke h =
        let P : Stop → Type 0 = λ x. Runs_at (Halt x u) DEEP e in
        subst P (sym h.is) (halt_runs e.bytes u (Deep e.regs.r31) h.user 72 (kernel_core (state_at e DEEP)) (deep_stops e.regs e.cop0 e.bytes u ke.masked (entry_kept first e.bytes ke.bytes words)))

    strays : (stop : Stop) (u : Memory) (e : Run) → Keeps kernel_words first e → Strays stop u e → Runs_at (Halt stop u) BAD_RETURN e
    strays stop u e ke h =
        let s : KernelState = h.state in
        let P : Stop → Type 0 = λ x. Runs_at (Halt x u) BAD_RETURN e in
        subst P (sym h.is) (halt_runs e.bytes u (BadReturn (registers_of s).r31) (subst (SameUser e.bytes) (sym h.memory_is) h.holds.user) 72 (kernel_core (state_at e BAD_RETURN))
        (bad_return_stops e.regs e.cop0 e.bytes u s.running ke.masked (record { words = entry_kept first e.bytes ke.bytes words; area = h.holds.area; settled = h.holds.settled })))

    split : (to at : ℕ) (X Y Z : Type 0) → (to ≡ at → X → Z) → (Y → Z) → cond (nat_eq to at) X Y → Z
    split to at X Y Z f g h = go (nat_eq to at) refl h
      where
        go : (v : Bool) → nat_eq to at ≡ v → cond v X Y → Z
        go true e x = f (eqb-true to at e) x
        go false e y = g y

    pub in_door : (stay : Stay) → IsValid stay → (to : ℕ) (e : Run) → Keeps kernel_words first e → InDoor stay to e → Runs_at stay to e
    in_door (Return t) v to e ke h =
        split to LEAVE (Answers t e) (cond (nat_eq to WAIT) (Waits t e) ⊥) (Runs_at (Return t) to e) (λ is x. subst (λ n. Runs_at (Return t) n e) (sym is) (leaves t v e ke x))
        (λ y. split to WAIT (Waits t e) ⊥ (Runs_at (Return t) to e) (λ is x. subst (λ n. Runs_at (Return t) n e) (sym is) (waiting t v e ke x)) (λ z. absurd z) y) h
    in_door (Halt stop u) v to e ke h =
        let R : Type 0 = Runs_at (Halt stop u) to e in
        let here : (at : ℕ) → to ≡ at → Runs_at (Halt stop u) at e → R = λ at is x. subst (λ n. Runs_at (Halt stop u) n e) (sym is) x in
        let last : Type 0 = cond (nat_eq to BAD_RETURN) (Strays stop u e) ⊥ in
        let deep : Type 0 = cond (nat_eq to DEEP) (Overflows stop u e) last in
        let thread : Type 0 = cond (nat_eq to BAD_THREAD) (Refuses BadThread stop u e) deep in
        split to BAD_POINTER (Refuses BadPointer stop u e) thread R (λ is x. here BAD_POINTER is (refused stop u e ke x))
        (λ y. split to BAD_THREAD (Refuses BadThread stop u e) deep R (λ is x. here BAD_THREAD is (no_thread stop u e ke x))
        (λ z. split to DEEP (Overflows stop u e) last R (λ is x. here DEEP is (too_deep stop u e ke x))
        (λ w. split to BAD_RETURN (Strays stop u e) ⊥ R (λ is x. here BAD_RETURN is (strays stop u e ke x)) (λ n. absurd n) w) z) y) h
    in_door (Ask port next) v to e ke h = absurd h
    in_door (Tell port value next) v to e ke h = absurd h
    in_door (Write byte next) v to e ke h = absurd h
    in_door (Touch bytes next) v to e ke h = absurd h

-- what the ends ask
pub ends_door : (worth : ℕ) (stay : Stay) (most to : ℕ) (e : Run) → Ends worth stay most to e → (e.steps ≤ most + worth * weight stay) × InDoor (bare stay) to e
ends_door worth (Touch bytes next) most to e h =
    let r = ends_door worth next (most + worth * bytes) to e h in
    let d : worth * (bytes + weight next) ≡ worth * bytes + worth * weight next = mul-add worth bytes (weight next) in
    (omega (arith, r.0, d), r.1)
ends_door worth (Return t) most to e h = (omega (arith, h.0), h.1)
ends_door worth (Halt stop u) most to e h = (omega (arith, h.0), h.1)
ends_door worth (Ask port next) most to e h = absurd h
ends_door worth (Tell port value next) most to e h = absurd h
ends_door worth (Write byte next) most to e h = absurd h
