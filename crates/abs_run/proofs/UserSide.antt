-- A step of the processor on the user side is a step of user code, where the memory is the same at the user's addresses and the gates hold SYSCALL.
use Rattle.std.proofs.Common.{◌≡◌, ℕ, ◌%◌, Bool, true, false, Option, Some, None, refl, sym, ap, subst, ◌∙◌, arith}
use Rattle.std.specs.Prelude.{if◌then◌else◌, ◌||◌, ◌&&◌, is_some, nat_eq}
use Rattle.std.proofs.lemmas.Bool.{false≢true}
use Rattle.std.proofs.lemmas.Bool.Decides.{nat_tests}
use Rattle.psx_ins.specs.declared.reg.Reg.{Reg}
use Rattle.psx_ins.specs.declared.ins.Ins.{Ins}
use Rattle.psx_ins.specs.declared.ins.Ins.TheVariants.{LB, LH, LWL, LW, LBU, LHU, LWR, SB, SH, SWL, SW, SWR, MFC0, MTC0, RFE}
use Rattle.psx_ins.specs.Decoding.{instruction_of}
use Rattle.psx_base.specs.Addresses.{place, user, gate_of}
use Rattle.psx_base.specs.PortAddresses.{port}
use Rattle.psx_base.specs.Memory.{Memory}
use Rattle.psx_base.specs.Registers.{register}
use Rattle.psx_base.specs.Context.{Context}
use Rattle.psx_cpu.specs.Words.{byte_extended, sign_extended}
use Rattle.psx_cpu.specs.Processor.{Cop0, Core, Bus, State, Trap, idle}
use Rattle.psx_cpu.specs.DataAccess.{data_address, read_word, round, loaded_left, loaded_right, stored_left, stored_right, write_word}
use Rattle.psx_cpu.specs.Changes.{loads, latest}
use Rattle.psx_cpu.specs.Effect.{effect}
use Rattle.psx_cpu.specs.Traps.{DataUse, data_use, is_aligned, own_trap}
use Rattle.psx_cpu.specs.Exceptions.{enter, takes_interrupt}
use Rattle.psx_cpu.specs.Guard.{is_branch, is_protected, guard_data, guard_instruction, guard_word, guard}
use Rattle.psx_cpu.specs.Step.{Move, Goes, Enters, Stops, entered, after, executed, performed, passed, step}
use Rattle.psx_cpu.specs.UserStep.{UserMove, Next, Raises, Halts, user_performed, user_step}
use Rattle.kern_layout.specs.Stands.{SameUser}
use Rattle.abs_run.proofs.UserMemory.{user-shared, shared-no_port, read_byte-same, read_half-same, read_word-same, read_round-same, load_word-same, Agrees, agrees-none, write_byte-agrees, write_half-agrees, write_word-agrees, write_round-agrees}

-- ---- one instruction

-- the guard passed a data access
abbrev Fits : Option DataUse → Type 0
Fits None = Unit {0}
Fits (Some u) = (is_aligned u.at u.multiple ≡ true) × (user u.at ≡ true)

eq_of : (a n : ℕ) → nat_eq (a % n) 0 ≡ true → a % n ≡ 0
eq_of a n h = grind (arith, nat_tests)

module _ (c : Context) (p q : Cop0) (m n : Memory) (bus : Bus) (same : SameUser m n) where
  abbrev here : State
  here = record { context = c; cop0 = p; bytes = m }

  abbrev there : State
  there = record { context = c; cop0 = q; bytes = n }

  -- an instruction does the same in both states, and nothing to the kernel's memory
  record SameEffect (i : Ins) : Type 0 where
    context : (effect i here bus).context ≡ (effect i there idle).context
    cop0 : (effect i here bus).cop0 ≡ p
    memory : Agrees m (effect i here bus).bytes (effect i there idle).bytes

  loaded : (i : Ins) (t : Reg) (v w : ℕ) → v ≡ w → effect i here bus ≡ loads here t v → effect i there idle ≡ loads there t w → SameEffect i
  loaded i t v w e x y = record {
    context = ap (λ (z : State). z.context) x ∙ ap (λ (u : ℕ). (loads here t u).context) e ∙ sym (ap (λ (z : State). z.context) y);
    cop0 = ap (λ (z : State). z.cop0) x;
    memory = subst (λ (z : Memory). Agrees m z (effect i there idle).bytes) (sym (ap (λ (z : State). z.bytes) x)) (subst (λ (z : Memory). Agrees m m z) (sym (ap (λ (z : State). z.bytes) y)) (agrees-none m n same));
  }

  effect-same : (i : Ins) → is_protected i ≡ false → Fits (data_use i c) → SameEffect i
  effect-same (LB s t imm) o f = let a = data_address c s imm in loaded (LB s t imm) t _ _ (ap byte_extended (read_byte-same m n same a f.1)) refl refl
  effect-same (LH s t imm) o f = let a = data_address c s imm in loaded (LH s t imm) t _ _ (ap sign_extended (read_half-same m n same a f.1 (eq_of a 2 f.0))) refl refl
  effect-same (LWL s t imm) o f = let a = data_address c s imm in loaded (LWL s t imm) t _ _ (ap (loaded_left (a % 4) (latest c t.0)) (read_round-same m n same a f.1)) refl refl
  effect-same (LW s t imm) o f = let a = data_address c s imm in loaded (LW s t imm) t _ _ (load_word-same m n same a bus.value idle.value f.1 (eq_of a 4 f.0)) refl refl
  effect-same (LBU s t imm) o f = let a = data_address c s imm in loaded (LBU s t imm) t _ _ (read_byte-same m n same a f.1) refl refl
  effect-same (LHU s t imm) o f = let a = data_address c s imm in loaded (LHU s t imm) t _ _ (read_half-same m n same a f.1 (eq_of a 2 f.0)) refl refl
  effect-same (LWR s t imm) o f = let a = data_address c s imm in loaded (LWR s t imm) t _ _ (ap (loaded_right (a % 4) (latest c t.0)) (read_round-same m n same a f.1)) refl refl
  effect-same (SB s t imm) o f = let a = data_address c s imm in record { context = refl; cop0 = refl; memory = write_byte-agrees m n same a _ f.1 }
  effect-same (SH s t imm) o f = let a = data_address c s imm in record { context = refl; cop0 = refl; memory = write_half-agrees m n same a _ f.1 (eq_of a 2 f.0) }
  effect-same (SWL s t imm) o f =
      let a = data_address c s imm in
      let v = λ (w : ℕ). stored_left (a % 4) (register c.regs t.0) w in
      record { context = refl; cop0 = refl; memory = subst (λ (w : ℕ). Agrees m (write_word m (round a) (v (read_word m (round a)))) (write_word n (round a) (v w))) (read_round-same m n same a f.1) (write_round-agrees m n same a _ f.1) }
  effect-same (SW s t imm) o f = let a = data_address c s imm in record { context = refl; cop0 = refl; memory = write_word-agrees m n same a _ f.1 (eq_of a 4 f.0) }
  effect-same (SWR s t imm) o f =
      let a = data_address c s imm in
      let v = λ (w : ℕ). stored_right (a % 4) (register c.regs t.0) w in
      record { context = refl; cop0 = refl; memory = subst (λ (w : ℕ). Agrees m (write_word m (round a) (v (read_word m (round a)))) (write_word n (round a) (v w))) (read_round-same m n same a f.1) (write_round-agrees m n same a _ f.1) }
  effect-same (MFC0 t d) o f = absurd (false≢true (sym o))
  effect-same (MTC0 t d) o f = absurd (false≢true (sym o))
  effect-same RFE o f = absurd (false≢true (sym o))
  effect-same _ o f = record { context = refl; cop0 = refl; memory = agrees-none m n same }

-- ---- one step

-- the processor goes on in user code
pub record Continues (k next : Core) (c : Context) (n : Memory) : Type 0 where
  pub context : next.processor.context ≡ c
  pub cop0 : next.processor.cop0 ≡ k.processor.cop0
  pub latch : next.processor.latch ≡ k.processor.latch
  pub memory : Agrees k.bytes next.bytes n

-- a step of the processor is this one of user code
abbrev pub UserMade : Core → Move → UserMove → Type 0
UserMade k (Goes next) (Next c n) = Continues k next c n
UserMade k (Enters next code) (Raises trap) = (next ≡ record k { processor = enter k.processor trap }) × (code ≡ trap.code)
UserMade k (Stops stop) (Halts told) = stop ≡ told
UserMade k _ _ = ⊥

module _ (k : Core) (n : Memory) (bus : Bus) (same : SameUser k.bytes n) where
  abbrev c : Context
  c = k.processor.context

  abbrev Made : Move → UserMove → Type 0
  Made x y = UserMade k x y

  if-made : (b : Bool) (x y : Move) (v w : UserMove) → (b ≡ true → Made x v) → (b ≡ false → Made y w) → Made (if b then x else y) (if b then v else w)
  if-made true x y v w f g = f refl
  if-made false x y v w f g = g refl

  abbrev does : Ins → Move
  does i = passed k bus i

  abbrev user_does : Ins → UserMove
  user_does i = user_performed c n i (own_trap i c)

  goes : (i : Ins) → is_protected i ≡ false → Fits (data_use i c) → Made (Goes (after k bus i)) (user_performed c n i None)
  goes i o f =
      let e = effect-same c k.processor.cop0 _ k.bytes n bus same i o f in
      record { context = e.context; cop0 = e.cop0; latch = refl; memory = e.memory }

  unported : (b : Bool) (x y : Move) (v : UserMove) → b ≡ false → Made y v → Made (if b then x else y) v
  unported true x y v e h = absurd (false≢true (sym e))
  unported false x y v e h = h

  executed-made : (i : Ins) → is_protected i ≡ false → Fits (data_use i c) → Made (executed k bus i) (user_performed c n i None)
  executed-made (LW s t imm) o f = unported (port (place (data_address c s imm))) _ _ _ (shared-no_port _ (user-shared _ f.1)) (goes (LW s t imm) o f)
  executed-made (SW s t imm) o f = unported (port (place (data_address c s imm))) _ _ _ (shared-no_port _ (user-shared _ f.1)) (goes (SW s t imm) o f)
  executed-made RFE o f = absurd (false≢true (sym o))
  executed-made i o f = goes i o f

  performed-made : (i : Ins) (t : Option Trap) → is_protected i ≡ false → Fits (data_use i c) → Made (performed k bus i t) (user_performed c n i t)
  performed-made i (Some trap) o f = (refl, refl)
  performed-made i None o f = executed-made i o f

  data-made : (i : Ins) (u : Option DataUse) → (Fits u → Made (does i) (user_does i)) → Made (guard_data Stops (entered k) does c false i u) (guard_data Halts Raises user_does c false i u)
  data-made i None h = h tt
  data-made i (Some u) h = if-made (is_aligned u.at u.multiple) _ _ _ _ (λ a. if-made (false || user u.at) _ _ _ _ (λ s. h (a, s)) (λ _. refl)) (λ _. (refl, refl))

  and_true : (b : Bool) → (b && true) ≡ false → b ≡ false
  and_true true h = h
  and_true false h = refl

  instruction-made : (i : Ins) → Made (guard_instruction Stops (entered k) does c false i) (guard_instruction Halts Raises user_does c false i)
  instruction-made i =
      if-made (is_branch i && (c.in_slot && true)) _ _ _ _ (λ _. refl)
      (λ _. if-made (is_protected i && true) _ _ _ _ (λ _. refl)
      (λ o. data-made i (data_use i c) (performed-made i (own_trap i c) (and_true (is_protected i) o))))

  word-made : (w : ℕ) (o : Option Ins) → Made (guard_word Stops (entered k) does c false w o) (guard_word Halts Raises user_does c false w o)
  word-made w None = (refl, refl)
  word-made w (Some i) = instruction-made i

  -- what is fetched at the user's addresses and the gates
  fetched-same : (g : Bool) → (user c.pc || g) ≡ true → (g ≡ true → read_word k.bytes c.pc ≡ 0x0000000C) → c.pc % 4 ≡ 0 → read_word k.bytes c.pc ≡ (if g then 0x0000000C else read_word n c.pc)
  fetched-same true h gate aligned = gate refl
  fetched-same false h gate aligned = read_word-same k.bytes n same c.pc (or_false (user c.pc) h) aligned
    where
      or_false : (b : Bool) → (b || false) ≡ true → b ≡ true
      or_false true e = refl
      or_false false e = e

  guard-made : (is_some (gate_of c.pc) ≡ true → read_word k.bytes c.pc ≡ 0x0000000C) → Made (guard Stops (entered k) does c false (read_word k.bytes c.pc)) (user_step c n)
  unfolding user_step
  guard-made gate =
      if-made (nat_eq (c.pc % 4) 0) _ _ _ _
      (λ a. if-made (false || (user c.pc || is_some (gate_of c.pc))) _ _ _ _
      (λ h. let e = fetched-same (is_some (gate_of c.pc)) h gate (eq_of c.pc 4 a) in
      subst (λ (w : ℕ). Made (guard_word Stops (entered k) does c false (read_word k.bytes c.pc) (instruction_of (read_word k.bytes c.pc))) (guard_word Halts Raises user_does c false w (instruction_of w))) e
      (word-made (read_word k.bytes c.pc) (instruction_of (read_word k.bytes c.pc))))
      (λ _. refl))
      (λ _. (refl, refl))

  -- where no interrupt is taken
  pub step-made : k.processor.latch ≡ false → takes_interrupt k.processor bus.line ≡ false → (is_some (gate_of c.pc) ≡ true → read_word k.bytes c.pc ≡ 0x0000000C) → Made (step k bus) (user_step c n)
  unfolding step
  step-made latch quiet gate =
      unported (takes_interrupt k.processor bus.line) _ _ _ quiet
      (subst (λ (l : Bool). Made (guard Stops (entered k) does c l (read_word k.bytes c.pc)) (user_step c n)) (sym latch) (guard-made gate))
