-- Each step of the processor leaves words and bytes where it finds them and the bus brings a word.
use Rattle.std.proofs.Common.{◌≡◌, ℕ, zero, suc, ◌+◌, ◌-◌, ◌*◌, ◌%◌, ◌^◌, ◌<◌, Bool, true, false, cond, List, [], ◌∷◌, Option, Some, None, sym, subst, arith}
use Rattle.std.specs.Prelude.{if◌then◌else◌, nat_eq, nat_lt}
use Rattle.std.proofs.lemmas.Nat.{and_le_l, and_le_r, or_of_32, xor_of_32}
use Rattle.std.proofs.lemmas.Bool.{ltb-true}
use Rattle.psx_ins.specs.declared.reg.Reg.{Reg}
use Rattle.psx_ins.specs.declared.ins.Ins.{Ins}
use Rattle.psx_ins.specs.declared.ins.Ins.TheVariants.{SLL, SRL, SRA, SLLV, SRLV, SRAV, JR, JALR, SYSCALL, BREAK, MFHI, MTHI, MFLO, MTLO, MULT, MULTU, DIV, DIVU, ADD, ADDU, SUB, SUBU, AND, OR, XOR, NOR, SLT, SLTU, BLTZ, BGEZ, BLTZAL, BGEZAL, J, JAL, BEQ, BNE, BLEZ, BGTZ, ADDI, ADDIU, SLTI, SLTIU, ANDI, ORI, XORI, LUI, LB, LH, LWL, LW, LBU, LHU, LWR, SB, SH, SWL, SW, SWR, MFC0, MTC0, RFE}
use Rattle.psx_base.specs.Memory.{Memory, byte, half, word, put_byte, put_half, put_word, is_mapped, is_writable}
use Rattle.psx_base.specs.Addresses.{place}
use Rattle.psx_base.specs.PortAddresses.{port}
use Rattle.psx_base.specs.Registers.{Registers, registers, register, with_register, nth, chosen}
use Rattle.psx_base.specs.Context.{Context, settled, settle, epc_of, placed, taken}
use Rattle.psx_ram.proofs.Laws.{byte-put_byte}
use Rattle.psx_cpu.specs.Words.{sign_extended}
use Rattle.psx_cpu.specs.Processor.{Cop0, State, Bus}
use Rattle.psx_cpu.specs.DataAccess.{data_address, read_byte, read_half, read_word, load_word, write_byte, write_half, write_word, round}
use Rattle.psx_cpu.specs.Changes.{forth, through_slot, with_value, writes, hi_lo, memory_is, link_address, branch_target, jump_target, jumps, links, names, coming, loads, latest_of, cop0_read, sr_kept}
use Rattle.psx_cpu.specs.Effect.{effect}
use Rattle.kern_layout.specs.Fits.{IsWord, InBytes}
use Rattle.abs_run.specs.InWords.{RegistersFit, PendingFits, ContextFits, Cop0Fits}
use Rattle.abs_run.proofs.Numbers.{mod-word, div-word, if-word, truth-word, shifted-word, sign-word, byte-word, quotient-word, remainder-word, quotient_signed-word, remainder_signed-word, product-word, product_unsigned-word, loaded_left-word, loaded_right-word, stored_left-word, stored_right-word}

-- ---- registers

abbrev AllWords : List ℕ → Type 0
AllWords [] = Unit {0}
AllWords (x ∷ xs) = IsWord x × AllWords xs

nth-word : (xs : List ℕ) (n : ℕ) → AllWords xs → IsWord (nth xs n)
nth-word [] n h = omega arith
nth-word (x ∷ xs) zero h = h.0
nth-word (x ∷ xs) (suc n) h = nth-word xs n h.1

pick : (b : Bool) (v r : ℕ) → IsWord v → IsWord r → IsWord (chosen b v r)
pick true v r h g = h
pick false v r h g = g

module _ (c : Registers) (n v : ℕ) (f : RegistersFit c) (w : IsWord v) where
  h : (k : ℕ) → IsWord (register c k)
  h = f.general

  written : AllWords (registers (with_register c n v))
  written = (omega arith, (pick (nat_eq n 1) v c.r1 w (h 1), (pick (nat_eq n 2) v c.r2 w (h 2), (pick (nat_eq n 3) v c.r3 w (h 3), (pick (nat_eq n 4) v c.r4 w (h 4), (pick (nat_eq n 5) v c.r5 w (h 5), (pick (nat_eq n 6) v c.r6 w (h 6), (pick (nat_eq n 7) v c.r7 w (h 7), (pick (nat_eq n 8) v c.r8 w (h 8), (pick (nat_eq n 9) v c.r9 w (h 9), (pick (nat_eq n 10) v c.r10 w (h 10), (pick (nat_eq n 11) v c.r11 w (h 11), (pick (nat_eq n 12) v c.r12 w (h 12), (pick (nat_eq n 13) v c.r13 w (h 13), (pick (nat_eq n 14) v c.r14 w (h 14), (pick (nat_eq n 15) v c.r15 w (h 15), (pick (nat_eq n 16) v c.r16 w (h 16), (pick (nat_eq n 17) v c.r17 w (h 17), (pick (nat_eq n 18) v c.r18 w (h 18), (pick (nat_eq n 19) v c.r19 w (h 19), (pick (nat_eq n 20) v c.r20 w (h 20), (pick (nat_eq n 21) v c.r21 w (h 21), (pick (nat_eq n 22) v c.r22 w (h 22), (pick (nat_eq n 23) v c.r23 w (h 23), (pick (nat_eq n 24) v c.r24 w (h 24), (pick (nat_eq n 25) v c.r25 w (h 25), (pick (nat_eq n 26) v c.r26 w (h 26), (pick (nat_eq n 27) v c.r27 w (h 27), (pick (nat_eq n 28) v c.r28 w (h 28), (pick (nat_eq n 29) v c.r29 w (h 29), (pick (nat_eq n 30) v c.r30 w (h 30), (pick (nat_eq n 31) v c.r31 w (h 31), tt))))))))))))))))))))))))))))))))

  with-fits : RegistersFit (with_register c n v)
  with-fits = record { general = λ k. nth-word (registers (with_register c n v)) k written; hi = f.hi; lo = f.lo }

-- ---- contexts

settled-fits : (c : Registers) (p : Option (ℕ × ℕ)) → RegistersFit c → PendingFits p → RegistersFit (settled c p)
settled-fits c None f g = f
settled-fits c (Some load) f g = with-fits c load.0 load.1 f g

pub settle-fits : (c : Context) → ContextFits c → ContextFits (settle c)
settle-fits c f = record { regs = settled-fits c.regs c.pending f.regs f.pending; pending = tt; pc = f.pc; next = f.next }

value-fits : (c : Context) (n v : ℕ) → ContextFits c → IsWord v → ContextFits (with_value c n v)
value-fits c n v f w = record { regs = with-fits c.regs n v f.regs w; pending = f.pending; pc = f.pc; next = f.next }

pub forth-fits : (c : Context) → ContextFits c → ContextFits (forth c)
forth-fits c f = record { regs = f.regs; pending = f.pending; pc = f.next; next = mod-word (c.next + 4) }

slot-fits : (c : Context) (to : ℕ) → ContextFits c → IsWord to → ContextFits (through_slot c to)
slot-fits c to f w = record { regs = f.regs; pending = f.pending; pc = f.next; next = w }

pub placed-fits : (c : Context) (at : ℕ) → ContextFits c → IsWord at → ContextFits (placed c at)
placed-fits c at f w = record { regs = f.regs; pending = f.pending; pc = w; next = mod-word (at + 4) }

pub taken-fits : (c : Context) (at : ℕ) → ContextFits c → IsWord at → ContextFits (taken c at)
taken-fits c at f w =
    let s = settle-fits c f in
    let k0 = with-fits (settle c).regs 26 at s.regs w in
    record { regs = with-fits (with_register (settle c).regs 26 at) 27 0 k0 (omega arith); pending = tt; pc = w; next = mod-word (at + 4) }

pub epc-word : (c : Context) → ContextFits c → IsWord (epc_of c)
epc-word c f = if-word c.in_slot _ _ (mod-word (c.pc + (2 ^ 32 - 4))) f.pc

-- ---- memory

byte-if : (b : Bool) (x y : ℕ) → x < 2 ^ 8 → y < 2 ^ 8 → cond b x y < 2 ^ 8
byte-if true x y h g = h
byte-if false x y h g = g

pub put_byte-fits : (m : Memory) (a v : ℕ) → InBytes m → v < 2 ^ 8 → InBytes (put_byte m a v)
put_byte-fits m a v f w b = subst (λ (x : ℕ). x < 2 ^ 8) (sym (byte-put_byte m a v b)) (byte-if (nat_eq b a) v (byte m b) w (f b))

put_half-fits : (m : Memory) (a v : ℕ) → InBytes m → v < 2 ^ 16 → InBytes (put_half m a v)
unfolding put_half
put_half-fits m a v f w = put_byte-fits _ (a + 1) _ (put_byte-fits m a _ f (omega arith)) (omega arith)

put_word-fits : (m : Memory) (a v : ℕ) → InBytes m → IsWord v → InBytes (put_word m a v)
unfolding put_word
put_word-fits m a v f w = put_byte-fits _ (a + 3) _ (put_byte-fits _ (a + 2) _ (put_byte-fits _ (a + 1) _ (put_byte-fits m a _ f (omega arith)) (omega arith)) (omega arith)) (omega arith)

memory-if : (b : Bool) (x y : Memory) → InBytes x → InBytes y → InBytes (if b then x else y)
memory-if true x y h g = h
memory-if false x y h g = g

write_byte-fits : (m : Memory) (a v : ℕ) → InBytes m → v < 2 ^ 8 → InBytes (write_byte m a v)
unfolding write_byte
write_byte-fits m a v f w = memory-if (is_writable (place a)) _ _ (put_byte-fits m (place a) v f w) f

write_half-fits : (m : Memory) (a v : ℕ) → InBytes m → v < 2 ^ 16 → InBytes (write_half m a v)
unfolding write_half
write_half-fits m a v f w = memory-if (is_writable (place a)) _ _ (put_half-fits m (place a) v f w) f

write_word-fits : (m : Memory) (a v : ℕ) → InBytes m → IsWord v → InBytes (write_word m a v)
unfolding write_word
write_word-fits m a v f w = memory-if (is_writable (place a)) _ _ (put_word-fits m (place a) v f w) f

small-if : (b : Bool) (x n : ℕ) → 0 < n → x < n → (if b then x else 0) < n
small-if true x n p h = h
small-if false x n p h = p

read_byte-small : (m : Memory) (a : ℕ) → InBytes m → read_byte m a < 2 ^ 8
unfolding read_byte
read_byte-small m a f = small-if (is_mapped (place a) 1) _ _ (omega arith) (f (place a))

read_half-small : (m : Memory) (a : ℕ) → InBytes m → read_half m a < 2 ^ 16
unfolding read_half half
read_half-small m a f = let x = f (place a) in let y = f (place a + 1) in small-if (is_mapped (place a) 2) _ _ (omega arith) (omega arith)

read_word-word : (m : Memory) (a : ℕ) → InBytes m → IsWord (read_word m a)
unfolding read_word word
read_word-word m a f =
    let x = f (place a) in let y = f (place a + 1) in let z = f (place a + 2) in let t = f (place a + 3) in
    small-if (is_mapped (place a) 4) _ _ (omega arith) (omega arith)

load_word-word : (m : Memory) (a v : ℕ) → InBytes m → IsWord v → IsWord (load_word m a v)
unfolding load_word
load_word-word m a v f w = if-word (port (place a)) _ _ w (read_word-word m a f)

-- ---- instructions

-- the fields of an instruction that go into results
abbrev pub fields_fit : Ins → Bool
fields_fit (ORI s t imm) = nat_lt imm (2 ^ 16)
fields_fit (XORI s t imm) = nat_lt imm (2 ^ 16)
fields_fit (SLTI s t imm) = nat_lt imm (2 ^ 16)
fields_fit (LUI t imm) = nat_lt imm (2 ^ 16)
fields_fit (J target) = nat_lt target (2 ^ 26)
fields_fit (JAL target) = nat_lt target (2 ^ 26)
fields_fit _ = true

pub record StateFits (x : State) : Type 0 where
  pub context : ContextFits x.context
  pub cop0 : Cop0Fits x.cop0
  pub bytes : InBytes x.bytes

writes-fits : (x : State) (d : Reg) (v : ℕ) → StateFits x → IsWord v → StateFits (writes x d v)
writes-fits x d v f w = record { context = forth-fits _ (value-fits _ d.0 v (settle-fits x.context f.context) w); cop0 = f.cop0; bytes = f.bytes }

hi_lo-fits : (x : State) (a b : ℕ) → StateFits x → IsWord a → IsWord b → StateFits (hi_lo x a b)
hi_lo-fits x a b f w v =
    let s = settle-fits x.context f.context in
    let c = settle x.context in
    record { context = forth-fits (record c { regs = record c.regs { hi = a; lo = b } }) (record { regs = record { general = s.regs.general; hi = w; lo = v }; pending = s.pending; pc = s.pc; next = s.next }); cop0 = f.cop0; bytes = f.bytes }

memory-fits : (x : State) (m : Memory) → StateFits x → InBytes m → StateFits (memory_is x m)
memory-fits x m f g = record { context = forth-fits _ (settle-fits x.context f.context); cop0 = f.cop0; bytes = g }

jumps-fits : (x : State) (to : ℕ) → StateFits x → IsWord to → StateFits (jumps x to)
jumps-fits x to f w = record { context = slot-fits _ to (settle-fits x.context f.context) w; cop0 = f.cop0; bytes = f.bytes }

links-fits : (x : State) (n to : ℕ) → StateFits x → IsWord to → StateFits (links x n to)
links-fits x n to f w = record { context = slot-fits _ to (value-fits _ n (link_address x.context) (settle-fits x.context f.context) (mod-word (x.context.next + 4))) w; cop0 = f.cop0; bytes = f.bytes }

registers-if : (b : Bool) (x y : Registers) → RegistersFit x → RegistersFit y → RegistersFit (if b then x else y)
registers-if true x y h g = h
registers-if false x y h g = g

coming-fits : (n v : ℕ) → IsWord v → PendingFits (coming n v)
coming-fits zero v w = tt
coming-fits (suc n) v w = w

loads-fits : (x : State) (t : Reg) (v : ℕ) → StateFits x → IsWord v → StateFits (loads x t v)
loads-fits x t v f w =
    let c = f.context in
    record {
      context = forth-fits (record x.context { regs = if names x.context.pending t.0 then x.context.regs else settled x.context.regs x.context.pending; pending = coming t.0 v }) (record { regs = registers-if (names x.context.pending t.0) _ _ c.regs (settled-fits x.context.regs x.context.pending c.regs c.pending); pending = coming-fits t.0 v w; pc = c.pc; next = c.next });
      cop0 = f.cop0;
      bytes = f.bytes;
    }

latest-word : (p : Option (ℕ × ℕ)) (c : Registers) (n : ℕ) → PendingFits p → RegistersFit c → IsWord (latest_of p c n)
latest-word None c n g f = f.general n
latest-word (Some load) c n g f = if-word (nat_eq load.0 n) _ _ g (f.general n)

branch-word : (c : Context) (b : Bool) (imm : ℕ) → IsWord (branch_target c b imm)
branch-word c true imm = mod-word (c.next + sign_extended imm * 4)
branch-word c false imm = mod-word (c.next + 4)

jump-word : (c : Context) (target : ℕ) → IsWord c.next → target < 2 ^ 26 → IsWord (jump_target c target)
jump-word c target h t = omega arith

cop0-if : (b : Bool) (x y : Cop0) → Cop0Fits x → Cop0Fits y → Cop0Fits (if b then x else y)
cop0-if true x y h g = h
cop0-if false x y h g = g

line-word : (cause : ℕ) (line : Bool) → IsWord (cause + 2 ^ 10) → IsWord (cause + (if line then 2 ^ 10 else 0))
line-word cause true h = h
line-word cause false h = omega arith

cop0-word : (p : Cop0) (line : Bool) (n : ℕ) → Cop0Fits p → IsWord (cop0_read p line n)
cop0-word p line n f =
    if-word (nat_eq n 8) _ _ f.bad_address (if-word (nat_eq n 12) _ _ f.sr (if-word (nat_eq n 13) _ _ (line-word p.cause line f.cause) (if-word (nat_eq n 14) _ _ f.epc (omega arith))))

sr-word : (v : ℕ) → IsWord (sr_kept v)
sr-word v = let e = and_le_r v 0x0041FF3F in omega (arith, e)

module _ (x : State) (bus : Bus) (f : StateFits x) (w : IsWord bus.value) where
  r : (n : ℕ) → IsWord (register x.context.regs n)
  r = f.context.regs.general

  abbrev Fits : Ins → Type 0
  Fits i = StateFits (effect i x bus)

  pub effect-fits : (i : Ins) → fields_fit i ≡ true → Fits i
  effect-fits (SLL t d n) e = writes-fits x d _ f (mod-word _)
  effect-fits (SRL t d n) e = writes-fits x d _ f (div-word _ _ (r t.0))
  effect-fits (SRA t d n) e = writes-fits x d _ f (shifted-word _ n (r t.0))
  effect-fits (SLLV s t d) e = writes-fits x d _ f (mod-word _)
  effect-fits (SRLV s t d) e = writes-fits x d _ f (div-word _ _ (r t.0))
  effect-fits (SRAV s t d) e = writes-fits x d _ f (shifted-word _ _ (r t.0))
  effect-fits (JR s) e = jumps-fits x _ f (r s.0)
  effect-fits (JALR s d) e = links-fits x d.0 _ f (r s.0)
  effect-fits (SYSCALL code) e = f
  effect-fits (BREAK code) e = f
  effect-fits (MFHI d) e = writes-fits x d _ f f.context.regs.hi
  effect-fits (MTHI s) e = hi_lo-fits x _ _ f (r s.0) f.context.regs.lo
  effect-fits (MFLO d) e = writes-fits x d _ f f.context.regs.lo
  effect-fits (MTLO s) e = hi_lo-fits x _ _ f f.context.regs.hi (r s.0)
  effect-fits (MULT s t) e = hi_lo-fits x _ _ f (product-word _ _ (r s.0) (r t.0)) (mod-word _)
  effect-fits (MULTU s t) e = hi_lo-fits x _ _ f (product_unsigned-word _ _ (r s.0) (r t.0)) (mod-word _)
  effect-fits (DIV s t) e = hi_lo-fits x _ _ f (remainder_signed-word _ _ (r s.0)) (quotient_signed-word _ _ (r s.0))
  effect-fits (DIVU s t) e = hi_lo-fits x _ _ f (remainder-word _ _ (r s.0)) (quotient-word _ _ (r s.0))
  effect-fits (ADD s t d) e = writes-fits x d _ f (mod-word _)
  effect-fits (ADDU s t d) e = writes-fits x d _ f (mod-word _)
  effect-fits (SUB s t d) e = writes-fits x d _ f (mod-word _)
  effect-fits (SUBU s t d) e = writes-fits x d _ f (mod-word _)
  effect-fits (AND s t d) e = let a = and_le_l (register x.context.regs s.0) (register x.context.regs t.0) in let b = r s.0 in writes-fits x d _ f (omega (arith, a, b))
  effect-fits (OR s t d) e = writes-fits x d _ f (or_of_32 _ _ (r s.0) (r t.0))
  effect-fits (XOR s t d) e = writes-fits x d _ f (xor_of_32 _ _ (r s.0) (r t.0))
  effect-fits (NOR s t d) e = writes-fits x d _ f (omega arith)
  effect-fits (SLT s t d) e = writes-fits x d _ f (truth-word _)
  effect-fits (SLTU s t d) e = writes-fits x d _ f (truth-word _)
  effect-fits (BLTZ s imm) e = jumps-fits x _ f (branch-word x.context _ imm)
  effect-fits (BGEZ s imm) e = jumps-fits x _ f (branch-word x.context _ imm)
  effect-fits (BLTZAL s imm) e = links-fits x 31 _ f (branch-word x.context _ imm)
  effect-fits (BGEZAL s imm) e = links-fits x 31 _ f (branch-word x.context _ imm)
  effect-fits (J target) e = jumps-fits x _ f (jump-word x.context target f.context.next (ltb-true _ _ e))
  effect-fits (JAL target) e = links-fits x 31 _ f (jump-word x.context target f.context.next (ltb-true _ _ e))
  effect-fits (BEQ s t imm) e = jumps-fits x _ f (branch-word x.context _ imm)
  effect-fits (BNE s t imm) e = jumps-fits x _ f (branch-word x.context _ imm)
  effect-fits (BLEZ s imm) e = jumps-fits x _ f (branch-word x.context _ imm)
  effect-fits (BGTZ s imm) e = jumps-fits x _ f (branch-word x.context _ imm)
  effect-fits (ADDI s t imm) e = writes-fits x t _ f (mod-word _)
  effect-fits (ADDIU s t imm) e = writes-fits x t _ f (mod-word _)
  effect-fits (SLTI s t imm) e = writes-fits x t _ f (truth-word _)
  effect-fits (SLTIU s t imm) e = writes-fits x t _ f (truth-word _)
  effect-fits (ANDI s t imm) e = let a = and_le_l (register x.context.regs s.0) imm in let b = r s.0 in writes-fits x t _ f (omega (arith, a, b))
  effect-fits (ORI s t imm) e = let a = ltb-true imm (2 ^ 16) e in writes-fits x t _ f (or_of_32 _ _ (r s.0) (omega (arith, a)))
  effect-fits (XORI s t imm) e = let a = ltb-true imm (2 ^ 16) e in writes-fits x t _ f (xor_of_32 _ _ (r s.0) (omega (arith, a)))
  effect-fits (LUI t imm) e = let a = ltb-true imm (2 ^ 16) e in writes-fits x t _ f (omega (arith, a))
  effect-fits (LB s t imm) e = loads-fits x t _ f (byte-word _ (read_byte-small x.bytes _ f.bytes))
  effect-fits (LH s t imm) e = loads-fits x t _ f (sign-word _ (read_half-small x.bytes _ f.bytes))
  effect-fits (LWL s t imm) e = let a = data_address x.context s imm in loads-fits x t _ f (loaded_left-word (a % 4) _ _ (omega arith) (latest-word x.context.pending x.context.regs t.0 f.context.pending f.context.regs) (read_word-word x.bytes (round a) f.bytes))
  effect-fits (LW s t imm) e = loads-fits x t _ f (load_word-word x.bytes _ bus.value f.bytes w)
  effect-fits (LBU s t imm) e = let a = read_byte-small x.bytes (data_address x.context s imm) f.bytes in loads-fits x t _ f (omega (arith, a))
  effect-fits (LHU s t imm) e = let a = read_half-small x.bytes (data_address x.context s imm) f.bytes in loads-fits x t _ f (omega (arith, a))
  effect-fits (LWR s t imm) e = let a = data_address x.context s imm in loads-fits x t _ f (loaded_right-word (a % 4) _ _ (omega arith) (latest-word x.context.pending x.context.regs t.0 f.context.pending f.context.regs) (read_word-word x.bytes (round a) f.bytes))
  effect-fits (SB s t imm) e = memory-fits x _ f (write_byte-fits x.bytes _ _ f.bytes (omega arith))
  effect-fits (SH s t imm) e = memory-fits x _ f (write_half-fits x.bytes _ _ f.bytes (omega arith))
  effect-fits (SWL s t imm) e = let a = data_address x.context s imm in memory-fits x _ f (write_word-fits x.bytes (round a) _ f.bytes (stored_left-word (a % 4) _ _ (omega arith) (r t.0) (read_word-word x.bytes (round a) f.bytes)))
  effect-fits (SW s t imm) e = memory-fits x _ f (write_word-fits x.bytes _ _ f.bytes (r t.0))
  effect-fits (SWR s t imm) e = let a = data_address x.context s imm in memory-fits x _ f (write_word-fits x.bytes (round a) _ f.bytes (stored_right-word (a % 4) _ _ (omega arith) (r t.0) (read_word-word x.bytes (round a) f.bytes)))
  effect-fits (MFC0 t d) e = loads-fits x t _ f (cop0-word x.cop0 bus.line d.0 f.cop0)
  effect-fits (MTC0 t d) e =
      let c = f.cop0 in
      record {
        context = forth-fits _ (settle-fits x.context f.context);
        cop0 = cop0-if (nat_eq d.0 12) _ _ (record { sr = sr-word (register x.context.regs t.0); cause = c.cause; epc = c.epc; bad_address = c.bad_address }) c;
        bytes = f.bytes;
      }
  effect-fits RFE e = f
