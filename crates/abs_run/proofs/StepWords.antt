-- A step of the processor keeps words and bytes, and the board begins with them.
use Rattle.std.proofs.Common.{◌≡◌, ℕ, zero, suc, ◌+◌, ◌-◌, ◌*◌, ◌/◌, ◌%◌, ◌^◌, ◌<◌, Bool, true, false, List, [], ◌∷◌, Option, Some, None, get_or, refl, sym, subst, arith}
use Rattle.std.specs.Prelude.{if◌then◌else◌, nat_eq, nat_lt, nat_le, not, ◌&&◌, ◌||◌, is_some, All, unwrap_or, replicate, ◌+ℤ◌, ◌-ℤ◌}
use Rattle.std.proofs.lemmas.Bool.{lt-ltb}
use Rattle.std.proofs.lemmas.List.Elements.{All-head, All-tail}
use Rattle.psx_ins.specs.declared.reg.Reg.{Reg}
use Rattle.psx_ins.specs.declared.ins.Ins.{Ins}
use Rattle.psx_ins.specs.declared.ins.Ins.TheVariants.{SYSCALL, BREAK, ADD, SUB, ADDI, LB, LH, LWL, LW, LBU, LHU, LWR, SB, SH, SWL, SW, SWR, RFE}
use Rattle.psx_ins.specs.Forms.{reg}
use Rattle.psx_ins.specs.Decoding.{instruction_of, instruction_by}
use Rattle.psx_base.specs.Addresses.{user, gate_of, place}
use Rattle.psx_base.specs.PortAddresses.{port}
use Rattle.psx_base.specs.Memory.{Memory, put_byte}
use Rattle.psx_base.specs.Registers.{register, no_registers, nth}
use Rattle.psx_base.specs.Context.{Context, settle}
use Rattle.psx_ram.specs.Parts.{reset_memory}
use Rattle.psx_ram.proofs.Reset.{byte-reset_memory}
use Rattle.psx_exe.specs.declared.exe.Exe.{Exe}
use Rattle.psx_exe.specs.Placed.{written_from, placed}
use Rattle.psx_cpu.specs.Words.{signed, has_word, sign_extended}
use Rattle.psx_cpu.specs.Processor.{Core, Bus, Trap, state_of}
use Rattle.psx_cpu.specs.DataAccess.{data_address, read_word}
use Rattle.psx_cpu.specs.Traps.{DataUse, data_use, is_aligned, misaligned, raises, own_trap, reserved_code}
use Rattle.psx_cpu.specs.Exceptions.{leave, reset, vector, takes_interrupt}
use Rattle.psx_cpu.specs.Guard.{is_branch, is_protected, guard_data, guard_word}
use Rattle.psx_cpu.specs.Step.{Move, Stops, entered, after, executed, performed, passed, step}
use Rattle.kern_layout.specs.Fits.{IsWord, InBytes}
use Rattle.abs_run.specs.InWords.{CoreFits, MoveFits, StepsKeepWords}
use Rattle.abs_run.proofs.Numbers.{mod-word, if-word}
use Rattle.abs_run.proofs.WordsKept.{fields_fit, effect-fits, settle-fits, forth-fits, placed-fits, epc-word, put_byte-fits}

-- ---- fields of a word

abbrev opt_fits : Option Ins → Bool
opt_fits None = true
opt_fits (Some i) = fields_fit i

if_opt : (b : Bool) (x y : Option Ins) → opt_fits (if b then x else y) ≡ (if b then opt_fits x else opt_fits y)
if_opt true x y = refl
if_opt false x y = refl

if_same : {A : Type 0} (b : Bool) (x : A) → (if b then x else x) ≡ x
if_same true x = refl
if_same false x = refl

by_fields : (op : ℕ) (s t d : Reg) (n funct imm target : ℕ) → nat_lt imm (2 ^ 16) ≡ true → nat_lt target (2 ^ 26) ≡ true → opt_fits (instruction_by op s t d n funct imm target) ≡ true
by_fields op s t d n funct imm target h g = simp (if_opt, if_same, h, g)

decoded-fits : (w : ℕ) → opt_fits (instruction_of w) ≡ true
unfolding instruction_of
decoded-fits w =
    by_fields (w / 2 ^ 26) (reg (w / 2 ^ 21 % 32)) (reg (w / 2 ^ 16 % 32)) (reg (w / 2 ^ 11 % 32)) (w / 2 ^ 6 % 32) (w % 64) (w % 2 ^ 16) (w % 2 ^ 26)
    (lt-ltb (w % 2 ^ 16) (2 ^ 16) (omega arith)) (lt-ltb (w % 2 ^ 26) (2 ^ 26) (omega arith))

-- ---- exceptions

abbrev BadFits : Option ℕ → Type 0
BadFits None = Unit {0}
BadFits (Some at) = IsWord at

record TrapFits (t : Trap) : Type 0 where
  code : t.code < 32
  bad : BadFits t.bad

or-word : (o : Option ℕ) (d : ℕ) → BadFits o → IsWord d → IsWord (unwrap_or o d)
or-word None d h g = g
or-word (Some at) d h g = h

cause-word : (code : ℕ) (slot : Bool) → code < 32 → IsWord (code * 4 + (if slot then 2 ^ 31 else 0) + 2 ^ 10)
cause-word code true h = omega arith
cause-word code false h = omega arith

entered-fits : (k : Core) (t : Trap) → CoreFits k → TrapFits t → MoveFits (entered k t)
entered-fits k t f g =
    let c = f.cop0 in
    let sr = c.sr in
    record {
      context = placed-fits (settle k.processor.context) (vector k.processor.cop0.sr) (settle-fits k.processor.context f.context) (if-word (nat_eq (k.processor.cop0.sr / 2 ^ 22 % 2) 1) _ _ (omega arith) (omega arith));
      cop0 = record { sr = omega arith; cause = cause-word t.code k.processor.context.in_slot g.code; epc = epc-word k.processor.context f.context; bad_address = or-word t.bad k.processor.cop0.bad_address g.bad c.bad_address };
      bytes = f.bytes;
    }

left-fits : (k : Core) → CoreFits k → CoreFits (record k { processor = leave k.processor })
left-fits k f =
    let c = f.cop0 in
    let sr = c.sr in
    record {
      context = forth-fits (settle k.processor.context) (settle-fits k.processor.context f.context);
      cop0 = record { sr = omega arith; cause = c.cause; epc = c.epc; bad_address = c.bad_address };
      bytes = f.bytes;
    }

-- ---- one step

move-if : (b : Bool) (x y : Move) → MoveFits x → MoveFits y → MoveFits (if b then x else y)
move-if true x y h g = h
move-if false x y h g = g

module _ (k : Core) (bus : Bus) (f : CoreFits k) (w : IsWord bus.value) where
  abbrev c : Context
  c = k.processor.context

  after-fits : (i : Ins) → fields_fit i ≡ true → CoreFits (after k bus i)
  after-fits i e =
      let x = effect-fits (state_of k.processor k.bytes) bus (record { context = f.context; cop0 = f.cop0; bytes = f.bytes }) w i e in
      record { context = x.context; cop0 = x.cop0; bytes = x.bytes }

  executed-fits : (i : Ins) → fields_fit i ≡ true → MoveFits (executed k bus i)
  executed-fits (LW s t imm) e = move-if (port (place (data_address c s imm))) _ _ (after-fits (LW s t imm) e) (after-fits (LW s t imm) e)
  executed-fits (SW s t imm) e = move-if (port (place (data_address c s imm))) _ _ (after-fits (SW s t imm) e) (after-fits (SW s t imm) e)
  executed-fits RFE e = left-fits k f
  executed-fits i e = after-fits i e

  abbrev OwnFits : Option Trap → Type 0
  OwnFits None = Unit {0}
  OwnFits (Some t) = TrapFits t

  raises-fits : (b : Bool) (code : ℕ) → code < 32 → OwnFits (raises b code)
  raises-fits true code h = record { code = h; bad = tt }
  raises-fits false code h = tt

  own-fits : (i : Ins) → OwnFits (own_trap i c)
  own-fits (SYSCALL code) = raises-fits true 8 (omega arith)
  own-fits (BREAK code) = raises-fits true 9 (omega arith)
  own-fits (ADD s t d) = raises-fits (not (has_word (signed (register c.regs s.0) +ℤ signed (register c.regs t.0)))) 12 (omega arith)
  own-fits (SUB s t d) = raises-fits (not (has_word (signed (register c.regs s.0) -ℤ signed (register c.regs t.0)))) 12 (omega arith)
  own-fits (ADDI s t imm) = raises-fits (not (has_word (signed (register c.regs s.0) +ℤ signed (sign_extended imm)))) 12 (omega arith)
  own-fits _ = tt

  performed-fits : (i : Ins) (t : Option Trap) → fields_fit i ≡ true → OwnFits t → MoveFits (performed k bus i t)
  performed-fits i None e o = executed-fits i e
  performed-fits i (Some t) e o = entered-fits k t f o

  abbrev UseFits : Option DataUse → Type 0
  UseFits None = Unit {0}
  UseFits (Some u) = IsWord u.at

  use-fits : (i : Ins) → UseFits (data_use i c)
  use-fits (LB s t imm) = mod-word _
  use-fits (LH s t imm) = mod-word _
  use-fits (LWL s t imm) = mod-word _
  use-fits (LW s t imm) = mod-word _
  use-fits (LBU s t imm) = mod-word _
  use-fits (LHU s t imm) = mod-word _
  use-fits (LWR s t imm) = mod-word _
  use-fits (SB s t imm) = mod-word _
  use-fits (SH s t imm) = mod-word _
  use-fits (SWL s t imm) = mod-word _
  use-fits (SW s t imm) = mod-word _
  use-fits (SWR s t imm) = mod-word _
  use-fits _ = tt

  five : (b : Bool) → (if b then 5 else 4) < 32
  five true = omega arith
  five false = omega arith

  data-fits : (l : Bool) (i : Ins) (u : Option DataUse) → fields_fit i ≡ true → UseFits u → MoveFits (guard_data Stops (entered k) (passed k bus) c l i u)
  data-fits l i None e g = performed-fits i (own_trap i c) e (own-fits i)
  data-fits l i (Some u) e g = move-if (is_aligned u.at u.multiple) _ _ (move-if (l || user u.at) _ _ (performed-fits i (own_trap i c) e (own-fits i)) tt) (entered-fits k (misaligned u) f (record { code = five u.stores; bad = g }))

  reserved-small : (x : ℕ) → reserved_code x < 32
  reserved-small x = two (nat_eq (x / 2 ^ 26 % 4) 0) (nat_eq (x / 2 ^ 26 / 4) 4 || (nat_eq (x / 2 ^ 26 / 4) 12 || nat_eq (x / 2 ^ 26 / 4) 14))
    where
      two : (a b : Bool) → (if a then 10 else (if b then 11 else 10)) < 32
      two true b = omega arith
      two false true = omega arith
      two false false = omega arith

  word-fits : (l : Bool) (x : ℕ) (o : Option Ins) → opt_fits o ≡ true → MoveFits (guard_word Stops (entered k) (passed k bus) c l x o)
  word-fits l x None e = entered-fits k (record { code = reserved_code x; bad = None }) f (record { code = reserved-small x; bad = tt })
  word-fits l x (Some i) e = move-if (is_branch i && (c.in_slot && not l)) _ _ tt (move-if (is_protected i && not l) _ _ tt (data-fits l i (data_use i c) e (use-fits i)))

  step-fits : MoveFits (step k bus)
  unfolding step
  step-fits =
      let x = read_word k.bytes c.pc in
      move-if (takes_interrupt k.processor bus.line) _ _ (entered-fits k (record { code = 0; bad = None }) f (record { code = omega arith; bad = tt }))
      (move-if (nat_eq (c.pc % 4) 0) _ _
      (move-if (k.processor.latch || (user c.pc || is_some (gate_of c.pc))) _ _ (word-fits k.processor.latch x (instruction_of x) (decoded-fits x)) tt)
      (entered-fits k (record { code = 4; bad = Some c.pc }) f (record { code = omega arith; bad = f.context.pc })))

pub steps_keep_words : StepsKeepWords
steps_keep_words k bus f w = step-fits k bus f w

-- ---- the begin

abbrev AreBytes : List ℕ → Type 0
AreBytes xs = All (λ (b : ℕ). b < 2 ^ 8) xs

written-fits : (m : Memory) (at : ℕ) (xs : List ℕ) → InBytes m → AreBytes xs → InBytes (written_from m at xs)
unfolding written_from
written-fits m at [] f h = f
written-fits m at (x ∷ xs) f h =
    let first = All-head (λ (b : ℕ). b < 2 ^ 8) x xs h in
    written-fits (put_byte m (place at) x) ((at + 1) % 2 ^ 32) xs (put_byte-fits m (place at) x f (omega (arith, first))) (All-tail (λ (b : ℕ). b < 2 ^ 8) x xs h)

zeros-fit : (m : Memory) (at n : ℕ) → InBytes m → InBytes (written_from m at (replicate n 0))
unfolding written_from
zeros-fit m at zero f = f
zeros-fit m at (suc n) f = zeros-fit (put_byte m (place at) 0) ((at + 1) % 2 ^ 32) n (put_byte-fits m (place at) 0 f (omega arith))

placed-bytes : (m : Memory) (exe : Exe) → InBytes m → AreBytes exe.text → InBytes (placed m exe)
unfolding placed
placed-bytes m exe f h = zeros-fit _ exe.fill_start exe.fill_size (written-fits m exe.dest exe.text f h)

get-small : (xs : List ℕ) (i : ℕ) → AreBytes xs → get_or xs i 0 < 2 ^ 8
get-small [] i h = omega arith
get-small (x ∷ xs) zero h = let first = All-head (λ (b : ℕ). b < 2 ^ 8) x xs h in omega (arith, first)
get-small (x ∷ xs) (suc i) h = get-small xs i (All-tail (λ (b : ℕ). b < 2 ^ 8) x xs h)

reset-bytes : (rom : List ℕ) → AreBytes rom → InBytes (reset_memory rom)
reset-bytes rom h q = subst (λ (v : ℕ). v < 2 ^ 8) (sym (byte-reset_memory rom q)) (by_place (nat_le 0x1FC00000 q))
  where
    by_place : (b : Bool) → (if b then get_or rom (q - 0x1FC00000) 0 else 0) < 2 ^ 8
    by_place true = get-small rom (q - 0x1FC00000) h
    by_place false = omega arith

nth-zero : (n k : ℕ) → nth (replicate n 0) k ≡ 0
nth-zero zero k = refl
nth-zero (suc n) zero = refl
nth-zero (suc n) (suc k) = nth-zero n k

zero-word : (n : ℕ) → IsWord (register no_registers n)
zero-word n = subst (λ (x : ℕ). IsWord x) (sym (nth-zero 32 n)) (omega arith)

pub reset-fits : (rom : List ℕ) (exe : Exe) → AreBytes rom → AreBytes exe.text → CoreFits (record { processor = reset; bytes = placed (reset_memory rom) exe })
reset-fits rom exe h g = record {
  context = record { regs = record { general = zero-word; hi = omega arith; lo = omega arith }; pending = tt; pc = omega arith; next = omega arith };
  cop0 = record { sr = omega arith; cause = omega arith; epc = omega arith; bad_address = omega arith };
  bytes = placed-bytes (reset_memory rom) exe (reset-bytes rom h) g;
}
