-- The boot code's instructions as a walk over a context, coprocessor 0 and the memory, in which what is read and written is named.
use Rattle.std.proofs.Common.{◌≡◌, ℕ, suc, ◌+◌, ◌*◌, ◌%◌, ◌^◌, ◌<◌, List, [], ◌∷◌, Bool, true, false, Some}
use Rattle.std.specs.Prelude.{nat_eq, nat_lt, not, bit_or, ◌&&◌, slice_index, if◌then◌else◌}
use Rattle.psx_ins.specs.declared.ins.Ins.{Ins}
use Rattle.psx_ins.specs.declared.ins.Ins.TheVariants.{LUI, ADDIU, OR, MTC0, JR, BNE, LW, SW}
use Rattle.psx_ins.specs.Forms.{reg}
use Rattle.psx_ins.specs.Decoding.{instruction_of}
use Rattle.psx_base.specs.declared.stop.Sizes.{Sizes}
use Rattle.psx_base.specs.Addresses.{place}
use Rattle.psx_base.specs.Memory.{Memory, byte, put_word}
use Rattle.psx_base.specs.Registers.{register}
use Rattle.psx_base.specs.Context.{Context, settle, settled}
use Rattle.psx_ram.specs.Words.{word_at}
use Rattle.psx_exe.specs.declared.exe.Exe.{Exe}
use Rattle.psx_cpu.specs.Words.{sign_extended}
use Rattle.psx_cpu.specs.Processor.{Core, Cop0}
use Rattle.psx_cpu.specs.DataAccess.{data_address}
use Rattle.psx_cpu.specs.Changes.{forth, through_slot, with_value, branch_target, names, coming, sr_kept}
use Rattle.psx_ports.specs.History.{start_answer}
use Rattle.psx_board.specs.Machine.{given}
use Rattle.kern_layout.specs.Stands.{SameUser}
use Rattle.kern_layout.specs.Opening.{Opens}
use Rattle.abs_run.specs.Serves.{is_start_port}
use Rattle.abs_run.specs.Accepted.{program_memory}
use Rattle.kern_image.specs.declared.boot.TheConstants.{BOOT}

-- what a boot is given
pub record Setting : Type 0 where
  pub rom : List ℕ
  pub exe : Exe
  pub sizes : Sizes

-- an instruction of the boot code: a load is from the ROM or of a start port
pub data Act : Type 0 where
  Lui : (t imm : ℕ) → Act
  Add : (s t imm : ℕ) → Act
  Or : (s t d : ℕ) → Act
  ToSr : (t : ℕ) → Act
  Jump : (s : ℕ) → Act
  Differ : (s t imm : ℕ) → Act
  Load : (s t imm : ℕ) → Act
  Ask : (s t imm : ℕ) → Act
  Store : (s t imm : ℕ) → Act

abbrev pub ins_of : Act → Ins
ins_of (Lui t imm) = LUI (reg t) imm
ins_of (Add s t imm) = ADDIU (reg s) (reg t) imm
ins_of (Or s t d) = OR (reg s) (reg t) (reg d)
ins_of (ToSr t) = MTC0 (reg t) (reg 12)
ins_of (Jump s) = JR (reg s)
ins_of (Differ s t imm) = BNE (reg s) (reg t) imm
ins_of (Load s t imm) = LW (reg s) (reg t) imm
ins_of (Ask s t imm) = LW (reg s) (reg t) imm
ins_of (Store s t imm) = SW (reg s) (reg t) imm

-- the boot code has these instructions from its k-th word on
abbrev pub IsAt : ℕ → List Act → Type 0
IsAt k [] = Unit {0}
IsAt k (a ∷ rest) = (nat_lt k 48 ≡ true) × (instruction_of (slice_index BOOT k) ≡ Some (ins_of a)) × IsAt (suc k) rest

-- the address of a word of the ROM, and of one of the kernel's in main memory
pub record IsRom (a i : ℕ) : Type 0 where
  pub is : a ≡ 0xBFC00000 + i
  pub aligned : i % 4 ≡ 0
  pub within : i < 0x80000

pub record IsKernel (a p : ℕ) : Type 0 where
  pub is : a ≡ 0x80000000 + p
  pub aligned : p % 4 ≡ 0
  pub within : p < 0x10000

-- the address of a start port
pub record IsAsked (a : ℕ) : Type 0 where
  pub aligned : a % 4 ≡ 0
  pub asked : is_start_port (place a) ≡ true

-- a load's value comes one instruction later
abbrev pub loaded : Context → ℕ → ℕ → Context
loaded c t v = forth (record c { regs = if names c.pending t then c.regs else settled c.regs c.pending; pending = coming t v })

abbrev pub Next : Type 1
Next = Context → Cop0 → Memory → Type 0

abbrev pub Does : Setting → Act → Context → Cop0 → Memory → Next → Type 0
Does g (Lui t imm) c z m on = on (forth (with_value (settle c) t (imm * 2 ^ 16))) z m
Does g (Add s t imm) c z m on = on (forth (with_value (settle c) t ((register c.regs s + sign_extended imm) % 2 ^ 32))) z m
Does g (Or s t d) c z m on = on (forth (with_value (settle c) d (bit_or (register c.regs s) (register c.regs t)))) z m
Does g (ToSr t) c z m on = on (forth (settle c)) (record z { sr = sr_kept (register c.regs t) }) m
Does g (Jump s) c z m on = on (through_slot (settle c) (register c.regs s)) z m
Does g (Differ s t imm) c z m on = (b : Bool) × (nat_eq (register c.regs s) (register c.regs t) ≡ b) × on (through_slot (settle c) (branch_target c (not b) imm)) z m
Does g (Load s t imm) c z m on = (i : ℕ) × IsRom (data_address c (reg s) imm) i × on (loaded c t (word_at g.rom i)) z m
Does g (Ask s t imm) c z m on = IsAsked (data_address c (reg s) imm) × on (loaded c t (start_answer (given g.exe g.sizes) (place (data_address c (reg s) imm)) 0)) z m
Does g (Store s t imm) c z m on = (p : ℕ) × IsKernel (data_address c (reg s) imm) p × on (forth (settle c)) z (put_word m p (register c.regs t))

-- pc is at the k-th word, and no interrupt can be taken
abbrev pub is_there : ℕ → Context → Cop0 → Bool
is_there k c z = nat_eq c.pc (0xBFC00000 + 4 * k) && nat_eq (z.sr % 2) 0

abbrev pub Only : Bool → Type 0 → Type 0
Only true P = P
Only false P = ⊥

abbrev pub Walk : Setting → ℕ → List Act → Context → Cop0 → Memory → Next → Type 0
Walk g k [] c z m on = on c z m
Walk g k (a ∷ rest) c z m on = Only (is_there k c z) (Does g a c z m (λ c' z' m'. Walk g (suc k) rest c' z' m' on))

-- a number and one more for each instruction
abbrev pub more : List Act → ℕ → ℕ
more [] n = n
more (a ∷ rest) n = suc (more rest n)

abbrev pub core : Context → Cop0 → Memory → Core
core c z m = record { processor = record { context = c; cop0 = z; latch = true }; bytes = m }

-- what holds of the memory at each step: the user's is the program's, and the ROM's bytes stand at their place
pub record Base (g : Setting) (m : Memory) : Type 0 where
  pub user : SameUser m (program_memory g.exe)
  pub rom : (i : ℕ) → byte m (0x1FC00000 + i) ≡ slice_index g.rom i

-- what of the ROM a boot needs: the boot code's words, that its bytes are bytes, and the opening words in the data ranges of its block
pub record IsBoot (g : Setting) : Type 0 where
  pub words : (k : ℕ) → k < 48 → word_at g.rom (4 * k) ≡ slice_index BOOT k
  pub bytes : (i : ℕ) → slice_index g.rom i < 2 ^ 8
  pub opens : Opens (λ a. word_at g.rom (0x10000 + a))
