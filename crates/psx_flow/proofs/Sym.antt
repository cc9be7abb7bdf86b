-- Symbolic execution: what a listing asks of a state whose registers are a record written out and whose stores are a log, computed in one go.
use Rattle.std.proofs.Common.{◌≡◌, ℕ, suc, ◌+◌, ◌-◌, ◌*◌, ◌/◌, ◌%◌, ◌^◌, ◌<◌, ◌≤◌, ◌⊎◌, List, ◌∷◌, Bool, true, false}
use Rattle.std.specs.Prelude.{nat_lt, nat_eq, int_lt, ◌*ℤ◌, bit_and, bit_or, bit_xor, not, ◌||◌, if◌then◌else◌}
use Rattle.std.specs.Int.{w64, cast_unsigned}
use Rattle.psx_ins.specs.declared.ins.Ins.{Ins}
use Rattle.psx_ins.specs.declared.ins.Ins.TheVariants.{SLL, SRL, SRA, SLLV, SRLV, SRAV, MFHI, MTHI, MFLO, MTLO, MULT, MULTU, DIV, DIVU, ADDU, SUBU, AND, OR, XOR, NOR, SLT, SLTU, ADDIU, SLTI, SLTIU, ANDI, ORI, XORI, LUI, LB, LW, LBU, SB, SW, MFC0, MTC0}
use Rattle.psx_base.specs.Memory.{Memory}
use Rattle.psx_base.specs.Registers.{Registers}
use Rattle.psx_base.specs.Addresses.{place}
use Rattle.psx_cpu.specs.Words.{signed, byte_extended, sign_extended, truth, shifted_signed, quotient, remainder, quotient_signed, remainder_signed}
use Rattle.psx_cpu.specs.Processor.{Cop0}
use Rattle.psx_cpu.specs.Changes.{cop0_read, sr_kept}
use Rattle.psx_flow.specs.declared.node.Test.{Test}
use Rattle.psx_flow.specs.declared.node.Test.TheVariants.{Same, Differ, NotAbove, Above, Negative, NotNegative}
use Rattle.psx_flow.specs.Tree.{Tree, Stop, Do, When, Choose, Loop, Visit, Go, GoTo, size}
use Rattle.psx_flow.specs.Lowered.{opposite}
use Rattle.psx_flow.specs.Run.{Access, Load, Store, PortRead, PortWrite, Run}
use Rattle.psx_flow.specs.Kernel.{kernel_words}
use Rattle.psx_flow.specs.Meets.{Goal, Calls, Meets}
use Rattle.psx_flow.proofs.Registers.{read_then, write_then}
use Rattle.psx_flow.proofs.Log.{Sort, Nowhere, Code, Kernel, User, Port, word_sort, byte_sort, Entry, KernelWord, KernelByte, UserWord, UserByte, applied, Sorted, kernel_word_then, kernel_byte_then, user_word_then, user_byte_then}

-- what is handed on: the registers, coprocessor 0, the log and the accesses
abbrev pub Next : Type 1
Next = Registers → Cop0 → List Entry → List Access → Type 0

-- the nodes passed, and the steps
pub record Count : Type 0 where
  pub passed : ℕ
  pub steps : ℕ

abbrev pub counted : Run → Count
counted s = record { passed = s.passed; steps = s.steps }

-- an instruction, a node with its slot, and the branch of an Other or of a While's End
abbrev pub by_one : Count → Count
by_one p = record { passed = suc p.passed; steps = suc p.steps }

abbrev pub by_two : Count → Count
by_two p = record { passed = suc p.passed; steps = suc (suc p.steps) }

abbrev pub by_branch : Count → Count
by_branch p = record { passed = p.passed; steps = suc (suc p.steps) }

abbrev pub run : Registers → Cop0 → Memory → List Entry → List Access → Count → Run
run c z m w q p = record { regs = c; cop0 = z; bytes = applied m w; seen = q; passed = p.passed; steps = p.steps }

abbrev pub load_word_by : Sort → ℕ → ℕ → Registers → Cop0 → Memory → List Entry → List Access → Next → Type 0
load_word_by Nowhere a t c z m w q k = ⊥
load_word_by Code a t c z m w q k = kernel_word_then m w (place a) (λ x. write_then c t x (λ c'. k c' z w (Load 4 (place a) x ∷ q)))
load_word_by Kernel a t c z m w q k = kernel_word_then m w (place a) (λ x. write_then c t x (λ c'. k c' z w (Load 4 (place a) x ∷ q)))
load_word_by User a t c z m w q k = user_word_then m w (place a) (λ x. write_then c t x (λ c'. k c' z w (Load 4 (place a) x ∷ q)))
load_word_by Port a t c z m w q k = (x : ℕ) → x < 2 ^ 32 → write_then c t x (λ c'. k c' z w (PortRead (place a) x ∷ q))

-- g takes the byte to the register's value
abbrev pub load_byte_by : Sort → (ℕ → ℕ) → ℕ → ℕ → Registers → Cop0 → Memory → List Entry → List Access → Next → Type 0
load_byte_by Nowhere g a t c z m w q k = ⊥
load_byte_by Code g a t c z m w q k = kernel_byte_then m w (place a) (λ x. write_then c t (g x) (λ c'. k c' z w (Load 1 (place a) x ∷ q)))
load_byte_by Kernel g a t c z m w q k = kernel_byte_then m w (place a) (λ x. write_then c t (g x) (λ c'. k c' z w (Load 1 (place a) x ∷ q)))
load_byte_by User g a t c z m w q k = user_byte_then m w (place a) (λ x. write_then c t (g x) (λ c'. k c' z w (Load 1 (place a) x ∷ q)))
load_byte_by Port g a t c z m w q k = ⊥

abbrev pub store_word_by : Sort → ℕ → ℕ → Registers → Cop0 → List Entry → List Access → Next → Type 0
store_word_by Nowhere a v c z w q k = ⊥
store_word_by Code a v c z w q k = ⊥
store_word_by Kernel a v c z w q k = k c z (KernelWord (place a) v ∷ w) (Store 4 (place a) v ∷ q)
store_word_by User a v c z w q k = k c z (UserWord (place a) v ∷ w) (Store 4 (place a) v ∷ q)
store_word_by Port a v c z w q k = k c z w (PortWrite (place a) v ∷ q)

abbrev pub store_byte_by : Sort → ℕ → ℕ → Registers → Cop0 → List Entry → List Access → Next → Type 0
store_byte_by Nowhere a v c z w q k = ⊥
store_byte_by Code a v c z w q k = ⊥
store_byte_by Kernel a v c z w q k = k c z (KernelByte (place a) v ∷ w) (Store 1 (place a) v ∷ q)
store_byte_by User a v c z w q k = k c z (UserByte (place a) v ∷ w) (Store 1 (place a) v ∷ q)
store_byte_by Port a v c z w q k = ⊥

-- MFC0 of Cause reads the line either way
abbrev pub line_then : Bool → (Bool → Type 0) → Type 0
line_then true k = (line : Bool) → k line
line_then false k = k false

abbrev pub Act : Ins → Registers → Cop0 → Memory → List Entry → List Access → Next → Type 0
Act (ADDU s t d) c z m w q k = read_then c s.0 (λ x. read_then c t.0 (λ y. write_then c d.0 ((x + y) % 2 ^ 32) (λ c'. k c' z w q)))
Act (SUBU s t d) c z m w q k = read_then c s.0 (λ x. read_then c t.0 (λ y. write_then c d.0 ((x + 2 ^ 32 - y) % 2 ^ 32) (λ c'. k c' z w q)))
Act (AND s t d) c z m w q k = read_then c s.0 (λ x. read_then c t.0 (λ y. write_then c d.0 (bit_and x y) (λ c'. k c' z w q)))
Act (OR s t d) c z m w q k = read_then c s.0 (λ x. read_then c t.0 (λ y. write_then c d.0 (bit_or x y) (λ c'. k c' z w q)))
Act (XOR s t d) c z m w q k = read_then c s.0 (λ x. read_then c t.0 (λ y. write_then c d.0 (bit_xor x y) (λ c'. k c' z w q)))
Act (NOR s t d) c z m w q k = read_then c s.0 (λ x. read_then c t.0 (λ y. write_then c d.0 (2 ^ 32 - 1 - bit_or x y) (λ c'. k c' z w q)))
Act (SLT s t d) c z m w q k = read_then c s.0 (λ x. read_then c t.0 (λ y. write_then c d.0 (truth (int_lt (signed x) (signed y))) (λ c'. k c' z w q)))
Act (SLTU s t d) c z m w q k = read_then c s.0 (λ x. read_then c t.0 (λ y. write_then c d.0 (truth (nat_lt x y)) (λ c'. k c' z w q)))
Act (SLLV s t d) c z m w q k = read_then c s.0 (λ x. read_then c t.0 (λ y. write_then c d.0 (y * 2 ^ (x % 32) % 2 ^ 32) (λ c'. k c' z w q)))
Act (SRLV s t d) c z m w q k = read_then c s.0 (λ x. read_then c t.0 (λ y. write_then c d.0 (y / 2 ^ (x % 32)) (λ c'. k c' z w q)))
Act (SRAV s t d) c z m w q k = read_then c s.0 (λ x. read_then c t.0 (λ y. write_then c d.0 (shifted_signed y (x % 32)) (λ c'. k c' z w q)))
Act (SLL t d n) c z m w q k = read_then c t.0 (λ y. write_then c d.0 (y * 2 ^ n % 2 ^ 32) (λ c'. k c' z w q))
Act (SRL t d n) c z m w q k = read_then c t.0 (λ y. write_then c d.0 (y / 2 ^ n) (λ c'. k c' z w q))
Act (SRA t d n) c z m w q k = read_then c t.0 (λ y. write_then c d.0 (shifted_signed y n) (λ c'. k c' z w q))
Act (MULT s t) c z m w q k = read_then c s.0 (λ x. read_then c t.0 (λ y. let p = cast_unsigned w64 (signed x *ℤ signed y) in k (record c { hi = p / 2 ^ 32; lo = p % 2 ^ 32 }) z w q))
Act (MULTU s t) c z m w q k = read_then c s.0 (λ x. read_then c t.0 (λ y. k (record c { hi = x * y / 2 ^ 32; lo = x * y % 2 ^ 32 }) z w q))
Act (DIV s t) c z m w q k = read_then c s.0 (λ x. read_then c t.0 (λ y. k (record c { hi = remainder_signed x y; lo = quotient_signed x y }) z w q))
Act (DIVU s t) c z m w q k = read_then c s.0 (λ x. read_then c t.0 (λ y. k (record c { hi = remainder x y; lo = quotient x y }) z w q))
Act (MFHI d) c z m w q k = write_then c d.0 c.hi (λ c'. k c' z w q)
Act (MFLO d) c z m w q k = write_then c d.0 c.lo (λ c'. k c' z w q)
Act (MTHI s) c z m w q k = read_then c s.0 (λ x. k (record c { hi = x }) z w q)
Act (MTLO s) c z m w q k = read_then c s.0 (λ x. k (record c { lo = x }) z w q)
Act (ADDIU s t imm) c z m w q k = read_then c s.0 (λ x. write_then c t.0 ((x + sign_extended imm) % 2 ^ 32) (λ c'. k c' z w q))
Act (SLTI s t imm) c z m w q k = read_then c s.0 (λ x. write_then c t.0 (truth (int_lt (signed x) (signed (sign_extended imm)))) (λ c'. k c' z w q))
Act (SLTIU s t imm) c z m w q k = read_then c s.0 (λ x. write_then c t.0 (truth (nat_lt x (sign_extended imm))) (λ c'. k c' z w q))
Act (ANDI s t imm) c z m w q k = read_then c s.0 (λ x. write_then c t.0 (bit_and x imm) (λ c'. k c' z w q))
Act (ORI s t imm) c z m w q k = read_then c s.0 (λ x. write_then c t.0 (bit_or x imm) (λ c'. k c' z w q))
Act (XORI s t imm) c z m w q k = read_then c s.0 (λ x. write_then c t.0 (bit_xor x imm) (λ c'. k c' z w q))
Act (LUI t imm) c z m w q k = write_then c t.0 (imm * 2 ^ 16) (λ c'. k c' z w q)
Act (MFC0 t d) c z m w q k = line_then (nat_eq d.0 13) (λ line. write_then c t.0 (cop0_read z line d.0) (λ c'. k c' z w q))
Act (MTC0 t d) c z m w q k = read_then c t.0 (λ x. ((not (nat_eq d.0 12) || nat_eq (sr_kept x % 2) 0) ≡ true) × k c (if nat_eq d.0 12 then record z { sr = sr_kept x } else z) w q)
Act (LW s t imm) c z m w q k = read_then c s.0 (λ x. let a = (x + sign_extended imm) % 2 ^ 32 in load_word_by (word_sort a) a t.0 c z m w q k)
Act (LB s t imm) c z m w q k = read_then c s.0 (λ x. let a = (x + sign_extended imm) % 2 ^ 32 in load_byte_by (byte_sort a) byte_extended a t.0 c z m w q k)
Act (LBU s t imm) c z m w q k = read_then c s.0 (λ x. let a = (x + sign_extended imm) % 2 ^ 32 in load_byte_by (byte_sort a) (λ v. v) a t.0 c z m w q k)
Act (SW s t imm) c z m w q k = read_then c s.0 (λ x. read_then c t.0 (λ y. let a = (x + sign_extended imm) % 2 ^ 32 in store_word_by (word_sort a) a y c z w q k))
Act (SB s t imm) c z m w q k = read_then c s.0 (λ x. read_then c t.0 (λ y. let a = (x + sign_extended imm) % 2 ^ 32 in store_byte_by (byte_sort a) a (y % 2 ^ 8) c z w q k))
Act _ c z m w q k = ⊥

abbrev pub Asks : Test → Registers → (Type 0 → Type 0) → Type 0
Asks (Same a b) c k = read_then c a.0 (λ x. read_then c b.0 (λ y. k (x ≡ y)))
Asks (Differ a b) c k = read_then c a.0 (λ x. read_then c b.0 (λ y. k (x ≡ y → ⊥)))
Asks (NotAbove a) c k = read_then c a.0 (λ x. k ((x ≡ 0) ⊎ (2 ^ 31 ≤ x)))
Asks (Above a) c k = read_then c a.0 (λ x. k ((0 < x) × (x < 2 ^ 31)))
Asks (Negative a) c k = read_then c a.0 (λ x. k (2 ^ 31 ≤ x))
Asks (NotNegative a) c k = read_then c a.0 (λ x. k (x < 2 ^ 31))

-- the goal of a part of a listing, at the parts of a state
abbrev pub Part : Type 1
Part = Registers → Cop0 → Memory → List Entry → List Access → Count → Type 0

-- from a state that is met behind a loop or a call: its memory may be read as any memory and log that give it
pub record Anew (k : Part) (s : Run) : Type 0 where
  pub memory : Memory
  pub log : List Entry
  pub same : s.bytes ≡ applied memory log
  pub sorted : Sorted log
  pub goes : k s.regs s.cop0 memory log s.seen (counted s)

-- a call from the parts of a state: the rest of the listing holds behind it
pub record Calling (C : Calls) (a back : ℕ) (k : Part) (c : Registers) (z : Cop0) (m : Memory) (w : List Entry) (q : List Access) (p : Count) : Type 0 where
  pub called : Sorted w → C a back (Anew k) (run c z m w q p)

abbrev pub Sym : Calls → Tree → ℕ → Part → (ℕ → Goal) → Part
Sym C Stop at K G c z m w q p = K c z m w q p
Sym C (Do i r) at K G c z m w q p = Act i c z m w q (λ c' z' w' q'. Sym C r (at + 4) K G c' z' m w' q' (by_one p))
Sym C (When t a r) at K G c z m w q p =
    Asks t c (λ P. P → Sym C a (at + 8) (Sym C r (at + (8 + 4 * size a)) K G) G c z m w q (by_two p))
    × Asks (opposite t) c (λ P. P → Sym C r (at + (8 + 4 * size a)) K G c z m w q (by_two p))
Sym C (Choose t a b r) at K G c z m w q p =
    Asks t c (λ P. P → Sym C a (at + 8) (λ c' z' m' w' q' p'. Sym C r (at + (16 + 4 * size a + 4 * size b)) K G c' z' m' w' q' (by_branch p')) G c z m w q (by_two p))
    × Asks (opposite t) c (λ P. P → Sym C b (at + (16 + 4 * size a)) (Sym C r (at + (16 + 4 * size a + 4 * size b)) K G) G c z m w q (by_two p))
Sym C (Loop t a r) at K G c z m w q p =
    Meets kernel_words C (Loop t a Stop) at (Anew (Sym C r (at + (16 + 4 * size a)) K G)) G (run c z m w q p)
Sym C (Visit a r) at K G c z m w q p =
    write_then c 31 (at + 8) (λ c'. Calling C a (at + 8) (Sym C r (at + 8) K G) c' z m w q (by_two p))
Sym C (Go a r) at K G c z m w q p = G a (run c z m w q (by_two p))
Sym C (GoTo n r) at K G c z m w q p = read_then c n.0 (λ x. G x (run c z m w q (by_two p)))
