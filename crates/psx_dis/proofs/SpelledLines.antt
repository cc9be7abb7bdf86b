-- The words of printed operands and of printed lines.
use Rattle.std.proofs.Common.{◌≡◌, ℕ, ◌-◌, ◌<◌, ◌≤◌, ◌^◌, ℤ, pos, neg_ℤ, Bool, true, false, List, [], ◌∷◌, ◌++◌, length, refl, sym, ap, subst, ◌∙◌, append_assoc, append-nil, decimal, codes, nat_lt, ⊎_elim, arith}
use Rattle.std.specs.Prelude.{if◌then◌else◌}
use Rattle.std.specs.List.{list_all}
use Rattle.std.proofs.lemmas.Bool.{lt-ltb, le-ltb, cases_lt}
use Rattle.psx_lex.specs.declared.token.Kind.{Kind}
use Rattle.psx_lex.specs.declared.token.Kind.TheVariants.{Name, Directive, Number as Numeral, Mark}
use Rattle.psx_lex.specs.Lexeme.{is_name_byte, IsName, BeginsToken}
use Rattle.psx_lex.specs.Line.{is_blank}
use Rattle.psx_ins.specs.declared.reg.Reg.{Reg}
use Rattle.psx_ins.specs.declared.ins.Ins.{Ins}
use Rattle.psx_ins.specs.declared.ins.Ins.TheVariants.{SLL}
use Rattle.psx_dis.specs.Mnemonics.{mnemonic}
use Rattle.psx_dis.specs.declared.operands.Operand.{Operand}
use Rattle.psx_dis.specs.declared.operands.Operand.TheVariants.{Register, Number, Signed, Place, Target}
use Rattle.psx_dis.specs.declared.operands.Operands.{Operands}
use Rattle.psx_dis.specs.declared.operands.Operands.TheVariants.{Nothing, One, Two, Three}
use Rattle.psx_text.specs.Digits.{hex8}
use Rattle.psx_dis.specs.Numbers.{hex_word, signed_text}
use Rattle.psx_dis.specs.Printed.{register_text, operand_text, operands_text, word_text}
use Rattle.psx_dis.proofs.Spelling.{Spelled, spelled_text, AreSpelled}
use Rattle.psx_dis.proofs.Words.{IsParted, name_token, directive_token, mark_token, decimal_token, minus_token, hex_token}
use Rattle.psx_dis.proofs.Digits.{hex8_back, decimal_back, register_is_name}

abbrev pub spelled : List ℕ → List ℕ → Kind → Spelled
spelled before word kind = record { before = before; word = word; kind = kind }

-- 16 bits as a signed number
abbrev pub signed : ℕ → ℤ
signed imm = if nat_lt imm (2 ^ 15) then pos imm else neg_ℤ (pos (2 ^ 16 - imm))

-- the words of an operand, behind blanks, and more words behind them
abbrev pub spelled_operand : List ℕ → Operand → List Spelled → List Spelled
spelled_operand before (Register r) ps = spelled before (register_text r) Name ∷ ps
spelled_operand before (Number n) ps = spelled before (decimal n) (Numeral (pos n)) ∷ ps
spelled_operand before (Signed imm) ps = spelled before (signed_text imm) (Numeral (signed imm)) ∷ ps
spelled_operand before (Place imm s) ps =
    spelled before (signed_text imm) (Numeral (signed imm)) ∷ spelled [] (codes "(") Mark ∷ spelled [] (register_text s) Name ∷ spelled [] (codes ")") Mark ∷ ps
spelled_operand before (Target target) ps = spelled before (hex_word target) (Numeral (pos target)) ∷ ps

-- the numbers of an operand stand below the limits of their places
abbrev pub OperandFits : Operand → Type 0
OperandFits (Register r) = r.0 < 32
OperandFits (Number n) = n < 2 ^ 20
OperandFits (Signed imm) = imm < 2 ^ 16
OperandFits (Place imm s) = (imm < 2 ^ 16) × (s.0 < 32)
OperandFits (Target target) = target < 2 ^ 32

text_of_operand : (before : List ℕ) (a : Operand) (ps : List Spelled) → spelled_text (spelled_operand before a ps) ≡ before ++ (operand_text a ++ spelled_text ps)
text_of_operand before (Register r) ps = refl
text_of_operand before (Number n) ps = refl
text_of_operand before (Signed imm) ps = refl
text_of_operand before (Place imm s) ps = ap (λ (l : List ℕ). before ++ l) (simp append_assoc)
text_of_operand before (Target target) ps = refl

register_begins : (r : Reg) (rest : List ℕ) → r.0 < 32 → IsParted rest → BeginsToken (register_text r ++ rest) Name (length (register_text r))
register_begins r rest small parted = let name = register_is_name r.0 small in name_token (114 ∷ decimal r.0) rest name.0 name.1 parted

number_begins : (n : ℕ) (rest : List ℕ) → n < 2 ^ 32 → IsParted rest → BeginsToken (decimal n ++ rest) (Numeral (pos n)) (length (decimal n))
number_begins n rest small parted =
    let back = decimal_back n small in
    subst (λ (m : ℕ). BeginsToken (decimal n ++ rest) (Numeral (pos m)) (length (decimal n))) back.1 (decimal_token (decimal n) rest back.0 (omega (arith, back.1)) parted)

minus_begins : (n : ℕ) (rest : List ℕ) → n ≤ 2147483648 → IsParted rest → BeginsToken (45 ∷ (decimal n ++ rest)) (Numeral (neg_ℤ (pos n))) (length (45 ∷ decimal n))
minus_begins n rest small parted =
    let back = decimal_back n (omega arith) in
    subst (λ (m : ℕ). BeginsToken (45 ∷ (decimal n ++ rest)) (Numeral (neg_ℤ (pos m))) (length (45 ∷ decimal n))) back.1 (minus_token (decimal n) rest back.0 (omega (arith, back.1)) parted)

abbrev SignedBegins : ℕ → List ℕ → Bool → Type 0
SignedBegins imm rest low =
    let text = if low then decimal imm else codes "-" ++ decimal (2 ^ 16 - imm) in
    BeginsToken (text ++ rest) (Numeral (if low then pos imm else neg_ℤ (pos (2 ^ 16 - imm)))) (length text)

signed_begins : (imm : ℕ) (rest : List ℕ) → imm < 2 ^ 16 → IsParted rest → BeginsToken (signed_text imm ++ rest) (Numeral (signed imm)) (length (signed_text imm))
signed_begins imm rest small parted = ⊎_elim
    (λ low. subst (SignedBegins imm rest) (sym (lt-ltb imm (2 ^ 15) low)) (number_begins imm rest (omega arith) parted))
    (λ high. subst (SignedBegins imm rest) (sym (le-ltb imm (2 ^ 15) high)) (minus_begins (2 ^ 16 - imm) rest (omega arith) parted)) (cases_lt imm (2 ^ 15))

hex_begins : (w : ℕ) (rest : List ℕ) → w < 2 ^ 32 → IsParted rest → BeginsToken (hex_word w ++ rest) (Numeral (pos w)) (length (hex_word w))
hex_begins w rest small parted =
    let back = hex8_back w small in
    subst (λ (m : ℕ). BeginsToken (48 ∷ 120 ∷ (hex8 w ++ rest)) (Numeral (pos m)) (length (48 ∷ 120 ∷ hex8 w))) back.1
    (hex_token (hex8 w) rest back.0 (omega (arith, back.1)) parted)

operand_are : (before : List ℕ) (a : Operand) (ps : List Spelled) → list_all is_blank before ≡ true → OperandFits a → IsParted (spelled_text ps) → AreSpelled ps → AreSpelled (spelled_operand before a ps)
operand_are before (Register r) ps blank fits parted are = (blank, register_begins r (spelled_text ps) fits parted, are)
operand_are before (Number n) ps blank fits parted are = (blank, number_begins n (spelled_text ps) (omega arith) parted, are)
operand_are before (Signed imm) ps blank fits parted are = (blank, signed_begins imm (spelled_text ps) fits parted, are)
operand_are before (Place imm s) ps blank fits parted are =
    let rest = spelled_text ps in (
      blank,
      signed_begins imm (40 ∷ (register_text s ++ (41 ∷ rest))) fits.0 refl,
      (refl, mark_token 40 (register_text s ++ (41 ∷ rest)) refl, (refl, register_begins s (41 ∷ rest) fits.1 refl, (refl, mark_token 41 rest refl, are))),
    )
operand_are before (Target target) ps blank fits parted are = (blank, hex_begins target (spelled_text ps) fits parted, are)

-- the words of operands
abbrev pub spelled_operands : Operands → List Spelled
spelled_operands Nothing = []
spelled_operands (One a) = spelled_operand (codes " ") a []
spelled_operands (Two a b) = spelled_operand (codes " ") a (spelled_operand (codes ", ") b [])
spelled_operands (Three a b c) = spelled_operand (codes " ") a (spelled_operand (codes ", ") b (spelled_operand (codes ", ") c []))

abbrev pub OperandsFit : Operands → Type 0
OperandsFit Nothing = Unit {0}
OperandsFit (One a) = OperandFits a
OperandsFit (Two a b) = OperandFits a × OperandFits b
OperandsFit (Three a b c) = OperandFits a × OperandFits b × OperandFits c

operand_parted : (c : ℕ) (before : List ℕ) (a : Operand) (ps : List Spelled) → is_name_byte c ≡ false → IsParted (spelled_text (spelled_operand (c ∷ before) a ps))
operand_parted c before a ps stop = subst IsParted (sym (text_of_operand (c ∷ before) a ps)) stop

operands_are : (ops : Operands) → OperandsFit ops → AreSpelled (spelled_operands ops)
operands_are Nothing fit = tt
operands_are (One a) fit = operand_are (codes " ") a [] refl fit refl tt
operands_are (Two a b) fit =
    operand_are (codes " ") a (spelled_operand (codes ", ") b []) refl fit.0 (operand_parted 44 (codes " ") b [] refl) (operand_are (codes ", ") b [] refl fit.1 refl tt)
operands_are (Three a b c) fit =
    let last = spelled_operand (codes ", ") c [] in
    operand_are (codes " ") a (spelled_operand (codes ", ") b last) refl fit.0 (operand_parted 44 (codes " ") b last refl)
    (operand_are (codes ", ") b last refl fit.1 (operand_parted 44 (codes " ") c [] refl) (operand_are (codes ", ") c [] refl fit.2 refl tt))

operands_parted : (ops : Operands) → IsParted (spelled_text (spelled_operands ops))
operands_parted Nothing = refl
operands_parted (One a) = operand_parted 32 [] a [] refl
operands_parted (Two a b) = operand_parted 32 [] a (spelled_operand (codes ", ") b []) refl
operands_parted (Three a b c) = operand_parted 32 [] a (spelled_operand (codes ", ") b (spelled_operand (codes ", ") c [])) refl

text_of_operands : (ops : Operands) → spelled_text (spelled_operands ops) ≡ operands_text ops
text_of_operands Nothing = refl
text_of_operands (One a) = text_of_operand (codes " ") a [] ∙ simp append-nil
text_of_operands (Two a b) =
    text_of_operand (codes " ") a (spelled_operand (codes ", ") b [])
    ∙ ap (λ (t : List ℕ). 32 ∷ (operand_text a ++ t)) (text_of_operand (codes ", ") b []) ∙ simp (append_assoc, append-nil)
text_of_operands (Three a b c) =
    let last = spelled_operand (codes ", ") c [] in
    text_of_operand (codes " ") a (spelled_operand (codes ", ") b last)
    ∙ ap (λ (t : List ℕ). 32 ∷ (operand_text a ++ t)) (text_of_operand (codes ", ") b last)
    ∙ ap (λ (t : List ℕ). 32 ∷ (operand_text a ++ (44 ∷ 32 ∷ (operand_text b ++ t)))) (text_of_operand (codes ", ") c []) ∙ simp (append_assoc, append-nil)

-- the words of an instruction's line, of a word's, and of the line that says where they stand
abbrev pub spelled_instruction : Ins → Operands → List Spelled
spelled_instruction ins ops = spelled [] (mnemonic ins) Name ∷ spelled_operands ops

abbrev pub spelled_directive : List ℕ → ℕ → List Spelled
spelled_directive name w = spelled [] (46 ∷ name) Directive ∷ spelled (codes " ") (hex_word w) (Numeral (pos w)) ∷ []

mnemonic_is_name : (ins : Ins) → IsName (mnemonic ins) × (length (mnemonic ins) ≤ 63)
mnemonic_is_name (SLL t d n) = ((refl, refl), omega arith)
mnemonic_is_name _ = ((refl, refl), omega arith)

pub instruction_are : (ins : Ins) (ops : Operands) → OperandsFit ops → AreSpelled (spelled_instruction ins ops)
instruction_are ins ops fit =
    let name = mnemonic_is_name ins in
    (refl, name_token (mnemonic ins) (spelled_text (spelled_operands ops)) name.0 name.1 (operands_parted ops), operands_are ops fit)

pub directive_are : (name : List ℕ) (w : ℕ) → IsName name → length name ≤ 63 → w < 2 ^ 32 → AreSpelled (spelled_directive name w)
directive_are name w is short small = (refl, directive_token name (32 ∷ (hex_word w ++ [])) is short refl, (refl, hex_begins w [] small refl, tt))

pub text_of_instruction : (ins : Ins) (ops : Operands) → spelled_text (spelled_instruction ins ops) ≡ mnemonic ins ++ operands_text ops
text_of_instruction ins ops = ap (λ (t : List ℕ). mnemonic ins ++ t) (text_of_operands ops)

pub text_of_word : (w : ℕ) → spelled_text (spelled_directive (codes "word") w) ≡ word_text w
text_of_word w = ap (λ (t : List ℕ). codes ".word " ++ t) (append-nil (hex_word w))

pub text_of_place : (w : ℕ) → spelled_text (spelled_directive (codes "org") w) ≡ codes ".org " ++ hex_word w
text_of_place w = ap (λ (t : List ℕ). codes ".org " ++ t) (append-nil (hex_word w))
