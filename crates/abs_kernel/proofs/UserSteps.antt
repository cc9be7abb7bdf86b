-- A step of user code keeps a valid state valid: only the running context and the memory change, and a delay slot is entered from a branch in user memory.
use Rattle.std.proofs.Common.{◌≡◌, ℕ, ◌+◌, ◌-◌, ◌%◌, ◌^◌, ◌<◌, Bool, true, false, IsTrue, Option, Some, None, refl, sym, ◌∙◌, subst, arith}
use Rattle.std.specs.Prelude.{if◌then◌else◌, ◌||◌, ◌&&◌, is_some, nat_eq}
use Rattle.std.proofs.lemmas.Bool.{false≢true}
use Rattle.std.proofs.lemmas.Option.{none-some}
use Rattle.psx_ins.specs.declared.ins.Ins.{Ins}
use Rattle.psx_ins.specs.declared.ins.Ins.TheVariants.{SYSCALL, BREAK, JR, JALR, BLTZ, BGEZ, BLTZAL, BGEZAL, J, JAL, BEQ, BNE, BLEZ, BGTZ, RFE}
use Rattle.psx_ins.specs.Decoding.{instruction_of}
use Rattle.psx_base.specs.Addresses.{user, gate_of}
use Rattle.psx_base.specs.Memory.{Memory}
use Rattle.psx_base.specs.Context.{Context}
use Rattle.psx_cpu.specs.Processor.{Cop0, Trap, idle}
use Rattle.psx_cpu.specs.DataAccess.{read_word}
use Rattle.psx_cpu.specs.Effect.{effect}
use Rattle.psx_cpu.specs.Traps.{DataUse, data_use, is_aligned, own_trap}
use Rattle.psx_cpu.specs.Guard.{is_branch, is_protected, guard_data, guard_instruction, guard_word}
use Rattle.psx_cpu.specs.UserStep.{UserMove, Next, Raises, Halts, user_performed, user_step}
use Rattle.kern_layout.specs.Valid.{RunningFits}
use Rattle.abs_kernel.specs.UserLaws.{UserStepKeepsValid}
use Rattle.abs_kernel.proofs.Moved.{valid_moved}

-- ---- numbers and tests

user_below : (a : ℕ) → user a ≡ true → a < 2 ^ 32
unfolding user
user_below a h = grind arith

-- the address before the next one
before_next : (pc next : ℕ) → next ≡ (pc + 4) % 2 ^ 32 → pc < 2 ^ 32 → (next + (2 ^ 32 - 4)) % 2 ^ 32 ≡ pc
before_next pc next e h = omega arith

no_branch_in_slot : (branch slot : Bool) → (branch && (slot && true)) ≡ false → branch ≡ true → slot ≡ false
no_branch_in_slot true true h e = h
no_branch_in_slot true false h e = refl
no_branch_in_slot false slot h e = absurd (false≢true e)

and_true : (b : Bool) → (b && true) ≡ false → b ≡ false
and_true true h = h
and_true false h = refl

or_false : (b : Bool) → (b || false) ≡ true → b ≡ true
or_false true h = refl
or_false false h = h

-- ---- instructions

-- a context in a delay slot whose branch is in user memory
in_slot_fits : (c : Context) → RunningFits c → user c.pc ≡ true → c.in_slot ≡ false → IsTrue (user ((c.next + (2 ^ 32 - 4)) % 2 ^ 32))
in_slot_fits c r u n = rw (before_next c.pc c.next (r.follows n) (user_below c.pc u)) u

-- into a slot, from a branch in user memory
abbrev slot_fits : (c : Context) → c.in_slot ≡ true → IsTrue (user ((c.pc + (2 ^ 32 - 4)) % 2 ^ 32)) → RunningFits c
slot_fits c t b = record { follows = λ n. absurd (false≢true (sym n ∙ t)); branch = λ _. b }

module _ (c : Context) (cop0 : Cop0) (m : Memory) (r : RunningFits c) (u : user c.pc ≡ true) where
  -- what an instruction leaves fits, where it doesn't trap and isn't protected
  abbrev LeavesFitting : Ins → Type 0
  LeavesFitting i = own_trap i c ≡ None → is_protected i ≡ false → (is_branch i ≡ true → c.in_slot ≡ false) → RunningFits (effect i (record { context = c; cop0 = cop0; bytes = m }) idle).context

  jump_fits : (to : Context) → to.in_slot ≡ true → to.pc ≡ c.next → (true ≡ true → c.in_slot ≡ false) → RunningFits to
  jump_fits to t e n = slot_fits to t (subst (λ (a : ℕ). IsTrue (user ((a + (2 ^ 32 - 4)) % 2 ^ 32))) (sym e) (in_slot_fits c r u (n refl)))

  leaves_fitting : (i : Ins) → LeavesFitting i
  leaves_fitting (SYSCALL code) t p n = absurd (none-some _ (sym t))
  leaves_fitting (BREAK code) t p n = absurd (none-some _ (sym t))
  leaves_fitting RFE t p n = absurd (false≢true (sym p))
  leaves_fitting (JR s) t p n = jump_fits _ refl refl n
  leaves_fitting (JALR s d) t p n = jump_fits _ refl refl n
  leaves_fitting (BLTZ s imm) t p n = jump_fits _ refl refl n
  leaves_fitting (BGEZ s imm) t p n = jump_fits _ refl refl n
  leaves_fitting (BLTZAL s imm) t p n = jump_fits _ refl refl n
  leaves_fitting (BGEZAL s imm) t p n = jump_fits _ refl refl n
  leaves_fitting (J target) t p n = jump_fits _ refl refl n
  leaves_fitting (JAL target) t p n = jump_fits _ refl refl n
  leaves_fitting (BEQ s t' imm) t p n = jump_fits _ refl refl n
  leaves_fitting (BNE s t' imm) t p n = jump_fits _ refl refl n
  leaves_fitting (BLEZ s imm) t p n = jump_fits _ refl refl n
  leaves_fitting (BGTZ s imm) t p n = jump_fits _ refl refl n
  leaves_fitting _ t p n = record { follows = λ _. refl; branch = λ e. absurd (false≢true e) }

-- ---- the step

-- a step that goes on leaves a context that fits
abbrev pub MoveFits : UserMove → Type 0
MoveFits (Next c m) = RunningFits c
MoveFits (Raises trap) = Unit {0}
MoveFits (Halts stop) = Unit {0}

if_fits : (b : Bool) (x y : UserMove) → (b ≡ true → MoveFits x) → (b ≡ false → MoveFits y) → MoveFits (if b then x else y)
if_fits true x y p q = p refl
if_fits false x y p q = q refl

module _ (c : Context) (m : Memory) (r : RunningFits c) where
  abbrev passed : Ins → UserMove
  passed i = user_performed c m i (own_trap i c)

  performed_fits : (i : Ins) (t : Option Trap) → own_trap i c ≡ t → user c.pc ≡ true → is_protected i ≡ false → (is_branch i ≡ true → c.in_slot ≡ false) → MoveFits (user_performed c m i t)
  performed_fits i (Some trap) e u p n = tt
  performed_fits i None e u p n = leaves_fitting c _ m r u i e p n

  data_fits : (i : Ins) (use_of : Option DataUse) → MoveFits (passed i) → MoveFits (guard_data Halts Raises passed c false i use_of)
  data_fits i None h = h
  data_fits i (Some d) h = if_fits (is_aligned d.at d.multiple) _ _ (λ _. if_fits (false || user d.at) _ _ (λ _. h) (λ _. tt)) (λ _. tt)

  instruction_fits : (i : Ins) → user c.pc ≡ true → MoveFits (guard_instruction Halts Raises passed c false i)
  instruction_fits i u =
      if_fits (is_branch i && (c.in_slot && true)) _ _ (λ _. tt)
      (λ b. if_fits (is_protected i && true) _ _ (λ _. tt)
      (λ p. data_fits i (data_use i c) (performed_fits i (own_trap i c) refl u (and_true (is_protected i) p) (no_branch_in_slot (is_branch i) c.in_slot b))))

  word_fits : (w : ℕ) (o : Option Ins) → user c.pc ≡ true → MoveFits (guard_word Halts Raises passed c false w o)
  word_fits w None u = tt
  word_fits w (Some i) u = instruction_fits i u

  -- at a gate the word is that of SYSCALL
  fetched_fits : (g : Bool) → (user c.pc || g) ≡ true → let w = if g then 0x0000000C else read_word m c.pc in MoveFits (guard_word Halts Raises passed c false w (instruction_of w))
  unfolding instruction_of
  fetched_fits true h = tt
  fetched_fits false h = word_fits (read_word m c.pc) (instruction_of (read_word m c.pc)) (or_false (user c.pc) h)

  pub step_fits : MoveFits (user_step c m)
  unfolding user_step
  step_fits =
      if_fits (nat_eq (c.pc % 4) 0) _ _
      (λ _. if_fits (false || (user c.pc || is_some (gate_of c.pc))) _ _ (λ h. fetched_fits (is_some (gate_of c.pc)) h) (λ _. tt))
      (λ _. tt)

pub user_step_keeps_valid : UserStepKeepsValid
user_step_keeps_valid s c m v e = valid_moved s m s.random (record s.running { context = c }) v (subst MoveFits e (step_fits s.running.context s.memory v.running))
