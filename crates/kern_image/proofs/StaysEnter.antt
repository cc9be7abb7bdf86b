-- How the kernel is entered: by a code of five bits, and by a SYSCALL at an address that has a physical one alone.
use Rattle.std.proofs.Common.{◌≡◌, ℕ, ◌/◌, ◌%◌, ◌^◌, ◌<◌, Bool, true, false, Option, Some, None, refl, sym, subst, arith, inl, inr}
use Rattle.std.specs.Prelude.{◌||◌, ◌&&◌, not, nat_eq, is_some, ◌+ℤ◌, ◌-ℤ◌, if◌then◌else◌}
use Rattle.std.proofs.lemmas.Bool.{false≢true}
use Rattle.psx_ins.specs.declared.ins.Ins.{Ins}
use Rattle.psx_ins.specs.declared.ins.Ins.TheVariants.{SYSCALL, BREAK, ADD, SUB, ADDI}
use Rattle.psx_ins.specs.Decoding.{instruction_of}
use Rattle.psx_base.specs.Addresses.{is_mirrored, top, low, user_main, scratchpad, user, gate_at, gate_of}
use Rattle.psx_base.specs.Registers.{register}
use Rattle.psx_base.specs.Memory.{Memory}
use Rattle.psx_base.specs.Context.{Context}
use Rattle.psx_base.specs.KernelState.{KernelState}
use Rattle.psx_cpu.specs.Processor.{Trap}
use Rattle.psx_cpu.specs.Words.{signed, has_word, sign_extended}
use Rattle.psx_cpu.specs.Traps.{DataUse, data_use, is_aligned, raises, own_trap}
use Rattle.psx_cpu.specs.Guard.{guard_data, guard_word, is_branch, is_protected}
use Rattle.psx_cpu.specs.UserStep.{UserMove, Next, Raises, Halts, fetched, user_performed, user_step}
use Rattle.abs_run.specs.Entered.{interrupt, MayEnter}

mirrored : (x y z u v : Bool) (p : ℕ) → ((((x || (y || z)) && u) || ((x || y) && v)) || is_some (gate_at (if x || (y || z) then p else 2 ^ 29))) ≡ true → (x || (y || z)) ≡ true
mirrored true y z u v p h = refl
mirrored false true z u v p h = refl
mirrored false false true u v p h = refl
mirrored false false false u v p h = absurd (false≢true h)

mirrored_at : (a : ℕ) → (user a || is_some (gate_of a)) ≡ true → is_mirrored a ≡ true
unfolding user
mirrored_at a h = mirrored (nat_eq (top a) 0) (nat_eq (top a) 4) (nat_eq (top a) 5) (user_main (low a)) (scratchpad (low a)) (low a) h

-- what is said of an exception that a step of user code raises
abbrev pub Fits : Context → Trap → Type 0
Fits c trap = (trap.code < 32) × (trap.code ≡ 8 → is_mirrored c.pc ≡ true)

-- its code is none of an interrupt
abbrev MoveFits : Context → UserMove → Type 0
MoveFits c (Raises trap) = Fits c trap × (trap.code ≡ 0 → ⊥)
MoveFits c (Next context bytes) = Unit {0}
MoveFits c (Halts stop) = Unit {0}

either : (P : UserMove → Type 0) (b : Bool) (x y : UserMove) → (b ≡ true → P x) → P y → P (if b then x else y)
either P true x y p q = p refl
either P false x y p q = q

-- another code than 8
other : (c : Context) (trap : Trap) → trap.code < 32 → (trap.code ≡ 8 → ⊥) → Fits c trap
other c trap small h = (small, λ e. absurd (h e))

module _ (c : Context) (m : Memory) (at : is_mirrored c.pc ≡ true) where
  abbrev passes : Ins → UserMove
  passes i = user_performed c m i (own_trap i c)

  raised : (b : Bool) (code : ℕ) (i : Ins) → code < 32 → (code ≡ 0 → ⊥) → MoveFits c (user_performed c m i (raises b code))
  raised true code i small some = ((small, λ e. at), some)
  raised false code i small some = tt

  pass_fits : (i : Ins) → MoveFits c (passes i)
  pass_fits (SYSCALL code) = raised true 8 (SYSCALL code) (omega arith) (λ e. omega (arith, e))
  pass_fits (BREAK code) = raised true 9 (BREAK code) (omega arith) (λ e. omega (arith, e))
  pass_fits (ADD s t d) = raised (not (has_word (signed (register c.regs s.0) +ℤ signed (register c.regs t.0)))) 12 (ADD s t d) (omega arith) (λ e. omega (arith, e))
  pass_fits (SUB s t d) = raised (not (has_word (signed (register c.regs s.0) -ℤ signed (register c.regs t.0)))) 12 (SUB s t d) (omega arith) (λ e. omega (arith, e))
  pass_fits (ADDI s t imm) = raised (not (has_word (signed (register c.regs s.0) +ℤ signed (sign_extended imm)))) 12 (ADDI s t imm) (omega arith) (λ e. omega (arith, e))
  pass_fits _ = tt

  bad_fits : (u : DataUse) (b : Bool) → ((if b then 5 else 4) < 32) × (◌≡◌ {A = ℕ} (if b then 5 else 4) 0 → ⊥)
  bad_fits u true = (omega arith, λ e. omega (arith, e))
  bad_fits u false = (omega arith, λ e. omega (arith, e))

  data_fits : (i : Ins) (u : Option DataUse) → MoveFits c (guard_data Halts Raises passes c false i u)
  data_fits i None = pass_fits i
  data_fits i (Some u) = either (MoveFits c) (is_aligned u.at u.multiple) _ _ (λ e. either (MoveFits c) (false || user u.at) _ _ (λ e. pass_fits i) tt) (let f = bad_fits u u.stores in ((f.0, λ e. at), f.1))

  word_fits : (w : ℕ) (o : Option Ins) → MoveFits c (guard_word Halts Raises passes c false w o)
  word_fits w (Some i) =
      either (MoveFits c) (is_branch i && (c.in_slot && not false)) _ _ (λ e. tt) (either (MoveFits c) (is_protected i && not false) _ _ (λ e. tt) (data_fits i (data_use i c)))
  word_fits w None = let f = reserved (nat_eq (w / 2 ^ 26 % 4) 0) (nat_eq (w / 2 ^ 26 / 4) 4 || (nat_eq (w / 2 ^ 26 / 4) 12 || nat_eq (w / 2 ^ 26 / 4) 14)) in ((f.0, λ e. at), f.1)
    where
      reserved : (a b : Bool) → ((if a then 10 else (if b then 11 else 10)) < 32) × (◌≡◌ {A = ℕ} (if a then 10 else (if b then 11 else 10)) 0 → ⊥)
      reserved true b = (omega arith, λ e. omega (arith, e))
      reserved false true = (omega arith, λ e. omega (arith, e))
      reserved false false = (omega arith, λ e. omega (arith, e))

step_fits : (c : Context) (m : Memory) → MoveFits c (user_step c m)
unfolding user_step
step_fits c m =
    either (MoveFits c) (nat_eq (c.pc % 4) 0) _ _
    (λ e. either (MoveFits c) (false || (user c.pc || is_some (gate_of c.pc))) _ _ (λ h. word_fits c m (mirrored_at c.pc h) (fetched c m) (instruction_of (fetched c m))) tt)
    (other c (record { code = 4; bad = Some c.pc }) (omega arith) (λ e. omega (arith, e)), λ e. omega (arith, e))

pub may_enter : (s : KernelState) (trap : Trap) → MayEnter s trap → Fits s.running.context trap
may_enter s trap (inl e) = (subst (MoveFits s.running.context) e (step_fits s.running.context s.memory)).0
may_enter s trap (inr h) = subst (Fits s.running.context) (sym h.0) (other s.running.context interrupt (omega arith) (λ e. omega (arith, e)))

-- by an interrupt's code only an interrupt enters
pub only_interrupt : (s : KernelState) (trap : Trap) → MayEnter s trap → trap.code ≡ 0 → (trap ≡ interrupt) × (s.running.interrupts ≡ true)
only_interrupt s trap (inl e) none = absurd ((subst (MoveFits s.running.context) e (step_fits s.running.context s.memory)).1 none)
only_interrupt s trap (inr h) none = h
