-- The effect of an instruction where it doesn't trap, one equation each, in the order of the instruction table (R3000A manual, instruction set).
-- The operands are the registers without the pending load; only LWL and LWR take it as their own register's value.
use Rattle.std.specs.Prelude.{◌+◌, ◌-◌, ◌*◌, ◌/◌, ◌%◌, ◌^◌, ◌||◌, not, nat_eq, nat_lt, nat_le, int_lt, ◌*ℤ◌, bit_and, bit_or, bit_xor}
use Rattle.std.specs.Int.{w64, cast_unsigned}
use Rattle.psx_ins.specs.declared.ins.Ins.{Ins}
use Rattle.psx_ins.specs.declared.ins.Ins.TheVariants.{SLL, SRL, SRA, SLLV, SRLV, SRAV, JR, JALR, SYSCALL, BREAK, MFHI, MTHI, MFLO, MTLO, MULT, MULTU, DIV, DIVU, ADD, ADDU, SUB, SUBU, AND, OR, XOR, NOR, SLT, SLTU, BLTZ, BGEZ, BLTZAL, BGEZAL, J, JAL, BEQ, BNE, BLEZ, BGTZ, ADDI, ADDIU, SLTI, SLTIU, ANDI, ORI, XORI, LUI, LB, LH, LWL, LW, LBU, LHU, LWR, SB, SH, SWL, SW, SWR, MFC0, MTC0, RFE}
use Rattle.psx_base.specs.Registers.{register}
use Rattle.psx_cpu.specs.Words.{signed, byte_extended, sign_extended, truth, shifted_signed, quotient, remainder, quotient_signed, remainder_signed}
use Rattle.psx_cpu.specs.Processor.{State, Bus}
use Rattle.psx_cpu.specs.DataAccess.{data_address, read_byte, read_half, read_word, load_word, write_byte, write_half, write_word, round, loaded_left, loaded_right, stored_left, stored_right}
use Rattle.psx_cpu.specs.Changes.{writes, hi_lo, memory_is, branch_target, jump_target, jumps, links, loads, latest, cop0_read, cop0_written}

abbrev pub effect : Ins → State → Bus → State
-- Op 00h: shifts
effect (SLL t d n) x bus = let o = x.context.regs in writes x d (register o t.0 * 2 ^ n % 2 ^ 32)
effect (SRL t d n) x bus = let o = x.context.regs in writes x d (register o t.0 / 2 ^ n)
effect (SRA t d n) x bus = let o = x.context.regs in writes x d (shifted_signed (register o t.0) n)
effect (SLLV s t d) x bus = let o = x.context.regs in writes x d (register o t.0 * 2 ^ (register o s.0 % 32) % 2 ^ 32)
effect (SRLV s t d) x bus = let o = x.context.regs in writes x d (register o t.0 / 2 ^ (register o s.0 % 32))
effect (SRAV s t d) x bus = let o = x.context.regs in writes x d (shifted_signed (register o t.0) (register o s.0 % 32))
-- jumps to a register's address; exceptions, which are traps
effect (JR s) x bus = let o = x.context.regs in jumps x (register o s.0)
effect (JALR s d) x bus = let o = x.context.regs in links x d.0 (register o s.0)
effect (SYSCALL code) x bus = x
effect (BREAK code) x bus = x
-- HI and LO, products and quotients
effect (MFHI d) x bus = writes x d x.context.regs.hi
effect (MTHI s) x bus = let o = x.context.regs in hi_lo x (register o s.0) o.lo
effect (MFLO d) x bus = writes x d x.context.regs.lo
effect (MTLO s) x bus = let o = x.context.regs in hi_lo x o.hi (register o s.0)
effect (MULT s t) x bus = let o = x.context.regs in let p = cast_unsigned w64 (signed (register o s.0) *ℤ signed (register o t.0)) in hi_lo x (p / 2 ^ 32) (p % 2 ^ 32)
effect (MULTU s t) x bus = let o = x.context.regs in hi_lo x (register o s.0 * register o t.0 / 2 ^ 32) (register o s.0 * register o t.0 % 2 ^ 32)
effect (DIV s t) x bus = let o = x.context.regs in hi_lo x (remainder_signed (register o s.0) (register o t.0)) (quotient_signed (register o s.0) (register o t.0))
effect (DIVU s t) x bus = let o = x.context.regs in hi_lo x (remainder (register o s.0) (register o t.0)) (quotient (register o s.0) (register o t.0))
-- sums, bits, comparisons
effect (ADD s t d) x bus = let o = x.context.regs in writes x d ((register o s.0 + register o t.0) % 2 ^ 32)
effect (ADDU s t d) x bus = let o = x.context.regs in writes x d ((register o s.0 + register o t.0) % 2 ^ 32)
effect (SUB s t d) x bus = let o = x.context.regs in writes x d ((register o s.0 + 2 ^ 32 - register o t.0) % 2 ^ 32)
effect (SUBU s t d) x bus = let o = x.context.regs in writes x d ((register o s.0 + 2 ^ 32 - register o t.0) % 2 ^ 32)
effect (AND s t d) x bus = let o = x.context.regs in writes x d (bit_and (register o s.0) (register o t.0))
effect (OR s t d) x bus = let o = x.context.regs in writes x d (bit_or (register o s.0) (register o t.0))
effect (XOR s t d) x bus = let o = x.context.regs in writes x d (bit_xor (register o s.0) (register o t.0))
effect (NOR s t d) x bus = let o = x.context.regs in writes x d (2 ^ 32 - 1 - bit_or (register o s.0) (register o t.0))
effect (SLT s t d) x bus = let o = x.context.regs in writes x d (truth (int_lt (signed (register o s.0)) (signed (register o t.0))))
effect (SLTU s t d) x bus = let o = x.context.regs in writes x d (truth (nat_lt (register o s.0) (register o t.0)))
-- branches and jumps
effect (BLTZ s imm) x bus = let o = x.context.regs in jumps x (branch_target x.context (nat_le (2 ^ 31) (register o s.0)) imm)
effect (BGEZ s imm) x bus = let o = x.context.regs in jumps x (branch_target x.context (not (nat_le (2 ^ 31) (register o s.0))) imm)
effect (BLTZAL s imm) x bus = let o = x.context.regs in links x 31 (branch_target x.context (nat_le (2 ^ 31) (register o s.0)) imm)
effect (BGEZAL s imm) x bus = let o = x.context.regs in links x 31 (branch_target x.context (not (nat_le (2 ^ 31) (register o s.0))) imm)
effect (J target) x bus = jumps x (jump_target x.context target)
effect (JAL target) x bus = links x 31 (jump_target x.context target)
effect (BEQ s t imm) x bus = let o = x.context.regs in jumps x (branch_target x.context (nat_eq (register o s.0) (register o t.0)) imm)
effect (BNE s t imm) x bus = let o = x.context.regs in jumps x (branch_target x.context (not (nat_eq (register o s.0) (register o t.0))) imm)
effect (BLEZ s imm) x bus = let o = x.context.regs in jumps x (branch_target x.context ((nat_le (2 ^ 31) (register o s.0) || nat_eq (register o s.0) 0)) imm)
effect (BGTZ s imm) x bus = let o = x.context.regs in jumps x (branch_target x.context (not (nat_le (2 ^ 31) (register o s.0) || nat_eq (register o s.0) 0)) imm)
-- immediate operands
effect (ADDI s t imm) x bus = let o = x.context.regs in writes x t ((register o s.0 + sign_extended imm) % 2 ^ 32)
effect (ADDIU s t imm) x bus = let o = x.context.regs in writes x t ((register o s.0 + sign_extended imm) % 2 ^ 32)
effect (SLTI s t imm) x bus = let o = x.context.regs in writes x t (truth (int_lt (signed (register o s.0)) (signed (sign_extended imm))))
effect (SLTIU s t imm) x bus = let o = x.context.regs in writes x t (truth (nat_lt (register o s.0) (sign_extended imm)))
effect (ANDI s t imm) x bus = let o = x.context.regs in writes x t (bit_and (register o s.0) imm)
effect (ORI s t imm) x bus = let o = x.context.regs in writes x t (bit_or (register o s.0) imm)
effect (XORI s t imm) x bus = let o = x.context.regs in writes x t (bit_xor (register o s.0) imm)
effect (LUI t imm) x bus = writes x t (imm * 2 ^ 16)
-- loads
effect (LB s t imm) x bus = loads x t (byte_extended (read_byte x.bytes (data_address x.context s imm)))
effect (LH s t imm) x bus = loads x t (sign_extended (read_half x.bytes (data_address x.context s imm)))
effect (LWL s t imm) x bus = let a = data_address x.context s imm in loads x t (loaded_left (a % 4) (latest x.context t.0) (read_word x.bytes (round a)))
effect (LW s t imm) x bus = loads x t (load_word x.bytes (data_address x.context s imm) bus.value)
effect (LBU s t imm) x bus = loads x t (read_byte x.bytes (data_address x.context s imm))
effect (LHU s t imm) x bus = loads x t (read_half x.bytes (data_address x.context s imm))
effect (LWR s t imm) x bus = let a = data_address x.context s imm in loads x t (loaded_right (a % 4) (latest x.context t.0) (read_word x.bytes (round a)))
-- stores
effect (SB s t imm) x bus = memory_is x (write_byte x.bytes (data_address x.context s imm) (register x.context.regs t.0 % 2 ^ 8))
effect (SH s t imm) x bus = memory_is x (write_half x.bytes (data_address x.context s imm) (register x.context.regs t.0 % 2 ^ 16))
effect (SWL s t imm) x bus = let a = data_address x.context s imm in memory_is x (write_word x.bytes (round a) (stored_left (a % 4) (register x.context.regs t.0) (read_word x.bytes (round a))))
effect (SW s t imm) x bus = memory_is x (write_word x.bytes (data_address x.context s imm) (register x.context.regs t.0))
effect (SWR s t imm) x bus = let a = data_address x.context s imm in memory_is x (write_word x.bytes (round a) (stored_right (a % 4) (register x.context.regs t.0) (read_word x.bytes (round a))))
-- coprocessor 0; RFE is the return from an exception
effect (MFC0 t d) x bus = loads x t (cop0_read x.cop0 bus.line d.0)
effect (MTC0 t d) x bus = cop0_written x d.0 (register x.context.regs t.0)
effect RFE x bus = x
