-- What is printed of an instruction or a word has no line feed.
use Rattle.std.proofs.Common.{◌≡◌, ℕ, ◌-◌, ◌<◌, ◌≤◌, ◌^◌, Bool, true, false, not, ◌==◌, nat_lt, List, [], ◌∷◌, ◌++◌, All, refl, ◌∙◌, decimal, codes, arith}
use Rattle.std.specs.Char.{digit_value}
use Rattle.std.specs.List.{list_all}
use Rattle.std.specs.Str.Parse.{AllDigits}
use Rattle.std.proofs.lemmas.Bool.{and_parts, and_from, not-true, cond_both}
use Rattle.std.proofs.lemmas.Bool.Decides.{nat_tests}
use Rattle.std.proofs.lemmas.List.Folds.{list_all-append}
use Rattle.std.proofs.lemmas.List.Elements.{All-nil, All-cons}
use Rattle.psx_ins.specs.declared.ins.Ins.{Ins}
use Rattle.psx_ins.specs.declared.ins.Ins.TheVariants.{SLL}
use Rattle.psx_dis.specs.declared.operands.Operand.{Operand}
use Rattle.psx_dis.specs.declared.operands.Operand.TheVariants.{Register, Number, Signed, Place, Target}
use Rattle.psx_dis.specs.declared.operands.Operands.{Operands}
use Rattle.psx_dis.specs.declared.operands.Operands.TheVariants.{Nothing, One, Two, Three}
use Rattle.psx_dis.specs.Mnemonics.{mnemonic}
use Rattle.psx_text.specs.Digits.{hex8}
use Rattle.psx_dis.specs.Numbers.{hex_word, signed_text}
use Rattle.psx_dis.specs.Printed.{register_text, operand_text, operands_text, word_text}
use Rattle.psx_dis.proofs.Digits.{hex8_back, decimal_back}
use Rattle.psx_dis.proofs.SpelledLines.{OperandFits, OperandsFit}

abbrev no_feed : ℕ → Bool
no_feed b = not (b == 10)

-- a text has no line feed
abbrev IsOneLine : List ℕ → Type 0
IsOneLine text = list_all no_feed text ≡ true

pub all_no_feed : (text : List ℕ) → IsOneLine text → All (λ b. (b == 10) ≡ false) text
all_no_feed [] is = All-nil (λ b. (b == 10) ≡ false)
all_no_feed (b ∷ bs) is =
    let parts = and_parts (no_feed b) (list_all no_feed bs) is in
    All-cons (λ b. (b == 10) ≡ false) b bs (not-true (b == 10) parts.0) (all_no_feed bs parts.1)

joined : (xs ys : List ℕ) → IsOneLine xs → IsOneLine ys → IsOneLine (xs ++ ys)
joined xs ys a b = list_all-append no_feed xs ys ∙ and_from (list_all no_feed xs) (list_all no_feed ys) a b

digit_no_feed : (c : ℕ) → digit_value c < 16 → no_feed c ≡ true
digit_no_feed c small = grind (arith, nat_tests)

digits_no_feed : (radix : ℕ) (ds : List ℕ) → radix ≤ 16 → AllDigits radix ds → IsOneLine ds
digits_no_feed radix [] most all = refl
digits_no_feed radix (c ∷ cs) most all = and_from (no_feed c) (list_all no_feed cs) (digit_no_feed c (omega arith)) (digits_no_feed radix cs most all.1)

decimal_no_feed : (n : ℕ) → n < 2 ^ 32 → IsOneLine (decimal n)
decimal_no_feed n small = digits_no_feed 10 (decimal n) (omega arith) (decimal_back n small).0.1

hex_no_feed : (w : ℕ) → w < 2 ^ 32 → IsOneLine (hex_word w)
hex_no_feed w small = digits_no_feed 16 (hex8 w) (omega arith) (hex8_back w small).0.1

signed_no_feed : (imm : ℕ) → imm < 2 ^ 16 → IsOneLine (signed_text imm)
signed_no_feed imm small = cond_both (nat_lt imm (2 ^ 15)) (decimal imm) (codes "-" ++ decimal (2 ^ 16 - imm)) IsOneLine (λ low. decimal_no_feed imm (omega arith)) (λ high. decimal_no_feed (2 ^ 16 - imm) (omega arith))

operand_no_feed : (a : Operand) → OperandFits a → IsOneLine (operand_text a)
operand_no_feed (Register r) fits = decimal_no_feed r.0 (omega arith)
operand_no_feed (Number n) fits = decimal_no_feed n (omega arith)
operand_no_feed (Signed imm) fits = signed_no_feed imm fits
operand_no_feed (Place imm s) fits =
    joined (signed_text imm ++ codes "(" ++ register_text s) (codes ")")
    (joined (signed_text imm ++ codes "(") (register_text s) (joined (signed_text imm) (codes "(") (signed_no_feed imm fits.0) refl) (decimal_no_feed s.0 (omega arith))) refl
operand_no_feed (Target target) fits = hex_no_feed target fits

operands_no_feed : (ops : Operands) → OperandsFit ops → IsOneLine (operands_text ops)
operands_no_feed Nothing fit = refl
operands_no_feed (One a) fit = operand_no_feed a fit
operands_no_feed (Two a b) fit =
    joined (operand_text a ++ codes ", ") (operand_text b) (joined (operand_text a) (codes ", ") (operand_no_feed a fit.0) refl) (operand_no_feed b fit.1)
operands_no_feed (Three a b c) fit =
    joined (operand_text a ++ codes ", " ++ operand_text b ++ codes ", ") (operand_text c)
    (joined (operand_text a ++ codes ", " ++ operand_text b) (codes ", ")
    (joined (operand_text a ++ codes ", ") (operand_text b) (joined (operand_text a) (codes ", ") (operand_no_feed a fit.0) refl) (operand_no_feed b fit.1)) refl) (operand_no_feed c fit.2)

mnemonic_no_feed : (ins : Ins) → IsOneLine (mnemonic ins)
mnemonic_no_feed (SLL t d n) = refl
mnemonic_no_feed _ = refl

pub instruction_no_feed : (ins : Ins) (ops : Operands) → OperandsFit ops → All (λ b. (b == 10) ≡ false) (mnemonic ins ++ operands_text ops)
instruction_no_feed ins ops fit = all_no_feed (mnemonic ins ++ operands_text ops) (joined (mnemonic ins) (operands_text ops) (mnemonic_no_feed ins) (operands_no_feed ops fit))

pub word_no_feed : (w : ℕ) → w < 2 ^ 32 → All (λ b. (b == 10) ≡ false) (word_text w)
word_no_feed w small = all_no_feed (word_text w) (hex_no_feed w small)

pub place_no_feed : (w : ℕ) → w < 2 ^ 32 → All (λ b. (b == 10) ≡ false) (codes ".org " ++ hex_word w)
place_no_feed w small = all_no_feed (codes ".org " ++ hex_word w) (hex_no_feed w small)
