-- What a step of the kernel's words shows, by the access that it makes.
use Rattle.std.proofs.Common.{◌≡◌, ℕ, suc, ◌%◌, Option, Some, None, List, ◌∷◌, length, refl, sym, ap, ◌∙◌, arith, inl, inr, ◌⊎◌}
use Rattle.std.specs.Prelude.{nat_eq, ◌||◌, is_some}
use Rattle.psx_ins.specs.declared.ins.Ins.{Ins}
use Rattle.psx_ins.specs.declared.ins.Ins.TheVariants.{LB, LH, LWL, LW, LBU, LHU, LWR, SB, SH, SWL, SW, SWR, RFE}
use Rattle.psx_ins.specs.Decoding.{instruction_of}
use Rattle.psx_base.specs.Addresses.{user, gate_of}
use Rattle.psx_cpu.specs.Processor.{Core, State, Bus, Trap, state_of}
use Rattle.psx_cpu.specs.DataAccess.{read_word}
use Rattle.psx_cpu.specs.Traps.{own_trap}
use Rattle.psx_cpu.specs.Exceptions.{takes_interrupt}
use Rattle.psx_cpu.specs.Guard.{guard_word}
use Rattle.psx_cpu.specs.Step.{Move, Goes, Reads, Writes, Enters, Leaves, Stops, entered, after, executed, performed, passed, step}
use Rattle.psx_cpu.proofs.Moves.{if_all, guard_instruction-all}
use Rattle.psx_flow.specs.Run.{Access, Load, Store, PortRead, PortWrite, accessed}
use Rattle.psx_flow.specs.Plain.{went, seen_by, seen_at}
use Rattle.psx_flow.specs.Told.{ports, told}
use Rattle.psx_flow.proofs.Telling.{ports_told}

longer : (x : Access) (q : List Access) → x ∷ q ≡ q → ⊥
longer x q e = let f : suc (length q) ≡ length q = ap length e in omega arith

-- accesses with one more, or as they were
abbrev pub Grown : List Access → List Access → Type 0
Grown q seen = (seen ≡ q) ⊎ ((x : Access) × (seen ≡ x ∷ q))

grows : (i : Ins) (x : State) (bus : Bus) (q : List Access) → Grown q (accessed i x bus q)
grows (LB s t imm) x bus q = inr (_, refl)
grows (LH s t imm) x bus q = inr (_, refl)
grows (LWL s t imm) x bus q = inr (_, refl)
grows (LW s t imm) x bus q = inr (_, refl)
grows (LBU s t imm) x bus q = inr (_, refl)
grows (LHU s t imm) x bus q = inr (_, refl)
grows (LWR s t imm) x bus q = inr (_, refl)
grows (SB s t imm) x bus q = inr (_, refl)
grows (SH s t imm) x bus q = inr (_, refl)
grows (SWL s t imm) x bus q = inr (_, refl)
grows (SW s t imm) x bus q = inr (_, refl)
grows (SWR s t imm) x bus q = inr (_, refl)
grows _ x bus q = inl refl

grows_by : (o : Option Ins) (x : State) (bus : Bus) (q : List Access) → Grown q (seen_by o x bus q)
grows_by None x bus q = inl refl
grows_by (Some i) x bus q = grows i x bus q

pub grown : (k : Core) (bus : Bus) (q : List Access) → Grown q (seen_at k bus q)
grown k bus q = grows_by (instruction_of (read_word k.bytes k.processor.context.pc)) (state_of k.processor k.bytes) bus q

-- the accesses behind a step that goes on
abbrev pub SeenOf : Move → List Access → List Access → Type 0
SeenOf (Goes next) q seen = (seen ≡ q) ⊎ ((size : ℕ) × (at : ℕ) × (value : ℕ) × ((seen ≡ Load size at value ∷ q) ⊎ (seen ≡ Store size at value ∷ q)))
SeenOf (Reads next at value) q seen = seen ≡ PortRead at value ∷ q
SeenOf (Writes next at value) q seen = seen ≡ PortWrite at value ∷ q
SeenOf _ q seen = Unit {0}

module _ (q : List Access) where
  silent : (seen : List Access) (x : Access) → seen ≡ x ∷ q → ports seen ≡ ports q → (size : ℕ) × (at : ℕ) × (value : ℕ) × ((seen ≡ Load size at value ∷ q) ⊎ (seen ≡ Store size at value ∷ q))
  silent seen (Load size at value) e h = (size, at, value, inl e)
  silent seen (Store size at value) e h = (size, at, value, inr e)
  silent seen (PortRead at value) e h = absurd (longer (PortRead at value) (ports q) (sym (ap ports e) ∙ h))
  silent seen (PortWrite at value) e h = absurd (longer (PortWrite at value) (ports q) (sym (ap ports e) ∙ h))

  reads : (at value : ℕ) (seen : List Access) (x : Access) → seen ≡ x ∷ q → ports seen ≡ PortRead at value ∷ ports q → seen ≡ PortRead at value ∷ q
  reads at value seen (Load size p v) e h = absurd (longer (PortRead at value) (ports q) (sym h ∙ ap ports e))
  reads at value seen (Store size p v) e h = absurd (longer (PortRead at value) (ports q) (sym h ∙ ap ports e))
  reads at value seen (PortRead p v) e h = let f : PortRead p v ∷ ports q ≡ PortRead at value ∷ ports q = sym (ap ports e) ∙ h in let g : PortRead p v ≡ PortRead at value = cc in e ∙ ap (λ x. x ∷ q) g
  reads at value seen (PortWrite p v) e h = let f : PortWrite p v ∷ ports q ≡ PortRead at value ∷ ports q = sym (ap ports e) ∙ h in absurd cc

  writes : (at value : ℕ) (seen : List Access) (x : Access) → seen ≡ x ∷ q → ports seen ≡ PortWrite at value ∷ ports q → seen ≡ PortWrite at value ∷ q
  writes at value seen (Load size p v) e h = absurd (longer (PortWrite at value) (ports q) (sym h ∙ ap ports e))
  writes at value seen (Store size p v) e h = absurd (longer (PortWrite at value) (ports q) (sym h ∙ ap ports e))
  writes at value seen (PortRead p v) e h = let f : PortRead p v ∷ ports q ≡ PortWrite at value ∷ ports q = sym (ap ports e) ∙ h in absurd cc
  writes at value seen (PortWrite p v) e h = let f : PortWrite p v ∷ ports q ≡ PortWrite at value ∷ ports q = sym (ap ports e) ∙ h in let g : PortWrite p v ≡ PortWrite at value = cc in e ∙ ap (λ x. x ∷ q) g

  by_move : (move : Move) (seen : List Access) → Grown q seen → ((next : Core) → went move ≡ Some next → ports seen ≡ told move (ports q)) → SeenOf move q seen
  by_move (Goes next) seen (inl e) h = inl e
  by_move (Goes next) seen (inr g) h = inr (silent seen g.0 g.1 (h next refl))
  by_move (Reads next at value) seen (inl e) h = absurd (longer (PortRead at value) (ports q) (sym (h next refl) ∙ ap ports e))
  by_move (Reads next at value) seen (inr g) h = reads at value seen g.0 g.1 (h next refl)
  by_move (Writes next at value) seen (inl e) h = absurd (longer (PortWrite at value) (ports q) (sym (h next refl) ∙ ap ports e))
  by_move (Writes next at value) seen (inr g) h = writes at value seen g.0 g.1 (h next refl)
  by_move (Enters next code) seen g h = tt
  by_move (Leaves next) seen g h = tt
  by_move (Stops stop) seen g h = tt

pub seen_of : (k : Core) (bus : Bus) (q : List Access) → SeenOf (step k bus) q (seen_at k bus q)
seen_of k bus q = by_move q (step k bus) (seen_at k bus q) (grown k bus q) (λ next h. ports_told k bus next q h)

-- ---- memory behind a step that makes no access

module _ (k : Core) (bus : Bus) (q : List Access) where
  abbrev Same : Option Ins → Move → Type 0
  Same o move = (next : Core) → went move ≡ Some next → seen_by o (state_of k.processor k.bytes) bus q ≡ q → next.bytes ≡ k.bytes

  does : (i : Ins) → Same (Some i) (executed k bus i)
  does (LB s t imm) next h e = absurd (longer _ q e)
  does (LH s t imm) next h e = absurd (longer _ q e)
  does (LWL s t imm) next h e = absurd (longer _ q e)
  does (LW s t imm) next h e = absurd (longer _ q e)
  does (LBU s t imm) next h e = absurd (longer _ q e)
  does (LHU s t imm) next h e = absurd (longer _ q e)
  does (LWR s t imm) next h e = absurd (longer _ q e)
  does (SB s t imm) next h e = absurd (longer _ q e)
  does (SH s t imm) next h e = absurd (longer _ q e)
  does (SWL s t imm) next h e = absurd (longer _ q e)
  does (SW s t imm) next h e = absurd (longer _ q e)
  does (SWR s t imm) next h e = absurd (longer _ q e)
  does RFE next h e = absurd cc
  does i next h e = let f : after k bus i ≡ next = cc in ap (λ c. c.bytes) (sym f)

  performs : (i : Ins) (t : Option Trap) → Same (Some i) (performed k bus i t)
  performs i None = does i
  performs i (Some t) = λ next h e. absurd cc

  by_word : (w : ℕ) (o : Option Ins) → Same o (guard_word Stops (entered k) (passed k bus) k.processor.context k.processor.latch w o)
  by_word w None = λ next h e. absurd cc
  by_word w (Some i) =
      guard_instruction-all (Same (Some i)) k bus (λ s next h e. absurd cc) (λ t next h e. absurd cc) k.processor.context k.processor.latch i (performs i (own_trap i k.processor.context))

  pub same_bytes : Same (instruction_of (read_word k.bytes k.processor.context.pc)) (step k bus)
  unfolding step
  same_bytes =
      let c = k.processor.context in
      let w = read_word k.bytes c.pc in
      let P = Same (instruction_of w) in
      if_all P (takes_interrupt k.processor bus.line) _ _ (λ next h e. absurd cc)
      (if_all P (nat_eq (c.pc % 4) 0) _ _
      (if_all P (k.processor.latch || (user c.pc || is_some (gate_of c.pc))) _ _ (by_word w (instruction_of w)) (λ next h e. absurd cc))
      (λ next h e. absurd cc))
