-- Statements, and those that begin with a mnemonic.
use Rattle.std.specs.Prelude.{ℕ, ◌/◌, ◌%◌, ◌^◌, ℤ, ◌==◌, List, [], ◌∷◌, Option, Some, None, option_map, if◌then◌else◌}
use Rattle.psx_ins.specs.declared.reg.Reg.{Reg}
use Rattle.psx_ins.specs.declared.ins.Ins.{Ins}
use Rattle.psx_ins.specs.declared.ins.Ins.TheVariants.{ADDIU, ORI, LUI}
use Rattle.psx_ins.specs.Forms.{reg}
use Rattle.psx_asm.specs.declared.shape.Width.{Width}
use Rattle.psx_asm.specs.declared.shape.Shape.{Shape}
use Rattle.psx_asm.specs.declared.shape.Shape.TheVariants.{Bare, One, Two, Three, Shift, Signed, Unsigned, Upper, Place, Coprocessor, Code, BranchAlways, BranchOne, BranchTwo, Jump, LoadNumber, LoadAddress}
use Rattle.psx_asm.specs.Piece.{Piece}
use Rattle.psx_asm.specs.Numbers.{low_word, below, signed_16}
use Rattle.psx_asm.specs.Operands.{Known, Value, ◌>>=◌, register, number, number_below, signed_number, base, value, ends}
use Rattle.psx_asm.specs.Instructions.{r0, bare, one, two, three, shift, signed, unsigned, upper, place, coprocessor, code, branch_always, branch_one, branch_two, jump}

-- what a line does
pub data Statement : Type 0 where
  -- nothing
  Empty : Statement
  -- an instruction
  Alone : (ins : Ins) → Statement
  -- two instructions
  Pair : (first second : Ins) → Statement
  -- a branch and its target
  Branches : (ins : Ins) (target : Value) → Statement
  -- a jump and its target
  Jumps : (ins : Ins) (target : Value) → Statement
  -- a register gets a value
  Address : (t : Reg) (value : Value) → Statement
  -- values one behind the other
  Values : (width : Width) (values : List Value) → Statement
  -- bytes one behind the other
  Text : (bytes : List ℕ) → Statement
  -- so many zeros
  Space : (count : ℕ) → Statement
  -- zeros up to a multiple of a number, which is one more than this
  Align : (last : ℕ) → Statement
  -- the next address
  Org : (at : ℕ) → Statement
  -- a name for a number
  Equ : (name : List ℕ) (value : ℤ) → Statement

-- a register gets 32 bits, in two instructions unless the low half is 0
abbrev pub load_halves : Reg → ℕ → Statement
load_halves t w = if w % 2 ^ 16 == 0 then Alone (LUI t (w / 2 ^ 16)) else Pair (LUI t (w / 2 ^ 16)) (ORI t t (w % 2 ^ 16))

-- a register gets a number of 16 bits without a sign, or another
abbrev pub load_unsigned : Reg → ℤ → Option ℕ → Statement
load_unsigned t n (Some imm) = Alone (ORI r0 t imm)
load_unsigned t n None = load_halves t (low_word n)

-- a register gets a number of 16 bits with a sign, or another
abbrev pub load_signed : Reg → ℤ → Option ℕ → Statement
load_signed t n (Some imm) = Alone (ADDIU r0 t imm)
load_signed t n None = load_unsigned t n (below (2 ^ 16) n)

-- a register gets a number
abbrev pub load : Reg → ℤ → Statement
load t n = load_signed t n (signed_16 n)

-- the number behind syscall or break, 0 where nothing stands there
abbrev pub code_number : Known → List Piece → Option (ℕ × List Piece)
code_number known [] = Some (0, [])
code_number known (p ∷ ps) = number_below (2 ^ 20) known (p ∷ ps)

-- nothing
unfoldable pub of_bare : List ℕ → List Piece → Option Statement
of_bare w ps = ends ps (option_map Alone (bare w))

-- a register
unfoldable pub of_one : List ℕ → List Piece → Option Statement
of_one w ps = do
  a ← register ps
  ends a.1 (option_map Alone (one w a.0))

-- two registers
unfoldable pub of_two : List ℕ → List Piece → Option Statement
of_two w ps = do
  a ← register ps
  b ← register a.1
  ends b.1 (option_map Alone (two w a.0 b.0))

-- three registers
unfoldable pub of_three : List ℕ → List Piece → Option Statement
of_three w ps = do
  a ← register ps
  b ← register a.1
  c ← register b.1
  ends c.1 (option_map Alone (three w a.0 b.0 c.0))

-- two registers and a shift
unfoldable pub of_shift : Known → List ℕ → List Piece → Option Statement
of_shift known w ps = do
  a ← register ps
  b ← register a.1
  n ← number_below 32 known b.1
  ends n.1 (option_map Alone (shift w a.0 b.0 n.0))

-- two registers and a number of 16 bits with a sign
unfoldable pub of_signed : Known → List ℕ → List Piece → Option Statement
of_signed known w ps = do
  a ← register ps
  b ← register a.1
  n ← signed_number known b.1
  ends n.1 (option_map Alone (signed w a.0 b.0 n.0))

-- two registers and a number of 16 bits without a sign
unfoldable pub of_unsigned : Known → List ℕ → List Piece → Option Statement
of_unsigned known w ps = do
  a ← register ps
  b ← register a.1
  n ← number_below (2 ^ 16) known b.1
  ends n.1 (option_map Alone (unsigned w a.0 b.0 n.0))

-- a register and a number of 16 bits without a sign
unfoldable pub of_upper : Known → List ℕ → List Piece → Option Statement
of_upper known w ps = do
  a ← register ps
  n ← number_below (2 ^ 16) known a.1
  ends n.1 (option_map Alone (upper w a.0 n.0))

-- a register and a place in memory
unfoldable pub of_place : Known → List ℕ → List Piece → Option Statement
of_place known w ps = do
  a ← register ps
  n ← signed_number known a.1
  s ← base n.1
  ends s.1 (option_map Alone (place w a.0 n.0 s.0))

-- a register and the number of a register of coprocessor 0
unfoldable pub of_coprocessor : Known → List ℕ → List Piece → Option Statement
of_coprocessor known w ps = do
  a ← register ps
  n ← number_below 32 known a.1
  ends n.1 (option_map Alone (coprocessor w a.0 (reg n.0)))

-- a number of 20 bits, or nothing
unfoldable pub of_code : Known → List ℕ → List Piece → Option Statement
of_code known w ps = do
  n ← code_number known ps
  ends n.1 (option_map Alone (code w n.0))

-- a branch's target
unfoldable pub of_branch_always : List ℕ → List Piece → Option Statement
of_branch_always w ps = do
  v ← value ps
  ends v.1 (option_map (λ ins. Branches ins v.0) (branch_always w))

-- a register and a branch's target
unfoldable pub of_branch_one : List ℕ → List Piece → Option Statement
of_branch_one w ps = do
  a ← register ps
  v ← value a.1
  ends v.1 (option_map (λ ins. Branches ins v.0) (branch_one w a.0))

-- two registers and a branch's target
unfoldable pub of_branch_two : List ℕ → List Piece → Option Statement
of_branch_two w ps = do
  a ← register ps
  b ← register a.1
  v ← value b.1
  ends v.1 (option_map (λ ins. Branches ins v.0) (branch_two w a.0 b.0))

-- a jump's target
unfoldable pub of_jump : List ℕ → List Piece → Option Statement
of_jump w ps = do
  v ← value ps
  ends v.1 (option_map (λ ins. Jumps ins v.0) (jump w))

-- a register and a number that it gets
unfoldable pub of_load : Known → List Piece → Option Statement
of_load known ps = do
  a ← register ps
  n ← number known a.1
  ends n.1 (Some (load a.0 n.0))

-- a register and a value that it gets
unfoldable pub of_address : List Piece → Option Statement
of_address ps = do
  a ← register ps
  v ← value a.1
  ends v.1 (Some (Address a.0 v.0))

-- the statement of a mnemonic's operands, where they are of its kinds and in its ranges
abbrev pub by_shape : Known → List ℕ → List Piece → Shape → Option Statement
by_shape known w ps Bare = of_bare w ps
by_shape known w ps One = of_one w ps
by_shape known w ps Two = of_two w ps
by_shape known w ps Three = of_three w ps
by_shape known w ps Shift = of_shift known w ps
by_shape known w ps Signed = of_signed known w ps
by_shape known w ps Unsigned = of_unsigned known w ps
by_shape known w ps Upper = of_upper known w ps
by_shape known w ps Place = of_place known w ps
by_shape known w ps Coprocessor = of_coprocessor known w ps
by_shape known w ps Code = of_code known w ps
by_shape known w ps BranchAlways = of_branch_always w ps
by_shape known w ps BranchOne = of_branch_one w ps
by_shape known w ps BranchTwo = of_branch_two w ps
by_shape known w ps Jump = of_jump w ps
by_shape known w ps LoadNumber = of_load known ps
by_shape known w ps LoadAddress = of_address ps
