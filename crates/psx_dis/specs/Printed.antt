-- The printed form of words: assembly language, a line for each word. The format is this project's own.
use Rattle.std.specs.Prelude.{ℕ, ◌+◌, List, [], ◌∷◌, ◌++◌, decimal, codes, Option, Some, None}
use Rattle.psx_ins.specs.declared.reg.Reg.{Reg}
use Rattle.psx_ins.specs.declared.ins.Ins.{Ins}
use Rattle.psx_ins.specs.Decoding.{instruction_of}
use Rattle.psx_dis.specs.declared.operands.Operand.{Operand}
use Rattle.psx_dis.specs.declared.operands.Operand.TheVariants.{Register, Number, Signed, Place, Target}
use Rattle.psx_dis.specs.declared.operands.Operands.{Operands}
use Rattle.psx_dis.specs.declared.operands.Operands.TheVariants.{Nothing, One, Two, Three}
use Rattle.psx_dis.specs.Mnemonics.{mnemonic}
use Rattle.psx_dis.specs.Operands.{operands}
use Rattle.psx_dis.specs.Numbers.{hex_word, signed_text}

-- a register: r0 to r31
abbrev pub register_text : Reg → List ℕ
register_text r = codes "r" ++ decimal r.0

-- an operand
abbrev pub operand_text : Operand → List ℕ
operand_text (Register r) = register_text r
operand_text (Number n) = decimal n
operand_text (Signed imm) = signed_text imm
operand_text (Place imm s) = signed_text imm ++ codes "(" ++ register_text s ++ codes ")"
operand_text (Target target) = hex_word target

-- operands behind a space, parted by a comma and a space
abbrev pub operands_text : Operands → List ℕ
operands_text Nothing = []
operands_text (One a) = codes " " ++ operand_text a
operands_text (Two a b) = codes " " ++ operand_text a ++ codes ", " ++ operand_text b
operands_text (Three a b c) = codes " " ++ operand_text a ++ codes ", " ++ operand_text b ++ codes ", " ++ operand_text c

-- a directive with a word, without the end of its line
abbrev pub word_text : ℕ → List ℕ
word_text w = codes ".word " ++ hex_word w

-- an instruction by its operands, or its word where it has none that can be printed
abbrev pub instruction_text : ℕ → Ins → Option Operands → List ℕ
instruction_text w ins (Some ops) = mnemonic ins ++ operands_text ops
instruction_text w ins None = word_text w

-- what stands for a word at an address: its instruction, or the word where no instruction has it
abbrev pub text_of : ℕ → ℕ → Option Ins → List ℕ
text_of at w (Some ins) = instruction_text w ins (operands (at + 4) ins)
text_of at w None = word_text w

-- the line of a word at an address
abbrev pub line : ℕ → ℕ → List ℕ
line at w = text_of at w (instruction_of w) ++ codes "\n"

-- the lines of words in order, of which the first stands at an address
abbrev pub lines : ℕ → List ℕ → List ℕ
lines at [] = []
lines at (w ∷ ws) = line at w ++ lines (at + 4) ws

-- the line that says where words begin
abbrev pub head : ℕ → List ℕ
head start = codes ".org " ++ hex_word start ++ codes "\n"

-- the printed form of words of which the first stands at an address
abbrev pub printed : ℕ → List ℕ → List ℕ
printed start words = head start ++ lines start words
