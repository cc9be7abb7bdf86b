-- What a printed line is read as, and the bytes that it places.
use Rattle.std.proofs.Common.{◌≡◌, ℕ, ◌+◌, ◌*◌, ◌%◌, ◌^◌, ◌<◌, pos, ◌==◌, List, [], ◌∷◌, ◌++◌, length, codes, Option, Some, None, Result, Ok, Err, refl, ap, ◌∙◌, arith}
use Rattle.std.proofs.lemmas.Bool.{cond-true, eq-eqb}
use Rattle.psx_ins.specs.declared.ins.Ins.{Ins}
use Rattle.psx_ins.specs.Words.{word}
use Rattle.psx_asm.specs.declared.shape.Width.TheVariants.{Word}
use Rattle.psx_asm.specs.declared.fault.AsmFault.{AsmFault}
use Rattle.psx_asm.specs.declared.fault.AsmFault.TheVariants.{Range}
use Rattle.psx_asm.specs.Piece.{Piece, Directive, Number}
use Rattle.psx_asm.specs.Numbers.{low_word}
use Rattle.psx_asm.specs.Operands.{Known, Plain}
use Rattle.psx_asm.specs.Instructions.{branch_to, jump_to}
use Rattle.psx_asm.specs.Statement.{Statement, Alone, Branches, Jumps, Values, Org}
use Rattle.psx_asm.specs.Directives.{of_org}
use Rattle.psx_asm.specs.Line.{Line, ◌>>=◌, statement_of, split_label, checked_label, checked_name, line_after, after, width_of}
use Rattle.psx_asm.specs.Encoding.{aligned, bytes_of, code_of, fitting, branch_bits, jump_bits, of_branch, of_jump, encoded}

-- a line without a label
abbrev pub as_line : Statement → Line
as_line s = record { label = None; statement = s }

-- a statement that places one word
abbrev pub PlacesWord : Statement → Type 0
PlacesWord (Alone ins) = Unit {0}
PlacesWord (Branches ins v) = Unit {0}
PlacesWord (Jumps ins v) = Unit {0}
PlacesWord (Values width vs) = (width ≡ Word) × (length vs ≡ 1)
PlacesWord _ = ⊥

pub word_after : (at : ℕ) (s : Statement) → PlacesWord s → after at s ≡ (at + 4) % 2 ^ 32
word_after at (Alone ins) is = refl
word_after at (Branches ins v) is = refl
word_after at (Jumps ins v) is = refl
word_after at (Values width vs) is = λ i. (at + width_of (is.0 i) * is.1 i) % 2 ^ 32
word_after at _ is = absurd is

word_checked : (known : Known) (line : Line) (s : Statement) → PlacesWord s → checked_name known line s ≡ Ok line
word_checked known line (Alone ins) is = refl
word_checked known line (Branches ins v) is = refl
word_checked known line (Jumps ins v) is = refl
word_checked known line (Values width vs) is = refl
word_checked known line _ is = absurd is

-- pieces are read as a line of this statement
pub read_line_as : (known : Known) (ps : List Piece) (s : Statement) → (split_label ps).0 ≡ None → statement_of known (split_label ps).1 ≡ Ok s
    → checked_name known (as_line s) s ≡ Ok (as_line s) → line_after known (Some ps) ≡ Ok (as_line s)
read_line_as known ps s none is checked =
    let behind = λ (line : Line). checked_label known line line.label >>= λ labelled. checked_name known labelled labelled.statement in
    (λ i. (is i >>= λ s. Ok (record { label = none i; statement = s })) >>= behind) ∙ checked

-- pieces are read as a line that places the bytes of a word at an address
pub record Reads (at w : ℕ) (ps : List Piece) : Type 0 where
  pub statement : Statement
  pub places : PlacesWord statement
  pub line : (known : Known) → line_after known (Some ps) ≡ Ok (as_line statement)
  pub encodes : (known : Known) → encoded known at statement ≡ Ok (bytes_of Word w)

reads_word : (at w : ℕ) (ps : List Piece) (s : Statement) → PlacesWord s → (split_label ps).0 ≡ None → ((known : Known) → statement_of known (split_label ps).1 ≡ Ok s)
    → ((known : Known) → encoded known at s ≡ Ok (bytes_of Word w)) → Reads at w ps
reads_word at w ps s is none reads encodes = record {
  statement = s;
  places = is;
  line = λ known. read_line_as known ps s none (reads known) (word_checked known (as_line s) s is);
  encodes = encodes;
}

aligned_here : (at : ℕ) (x : Result (List ℕ) AsmFault) → at % 4 ≡ 0 → aligned 4 at x ≡ x
aligned_here at x multiple = cond-true (at % 4 == 0) x (Err (Range at)) (eq-eqb (at % 4) 0 multiple)

alone_encodes : (known : Known) (at : ℕ) (ins : Ins) → at % 4 ≡ 0 → encoded known at (Alone ins) ≡ Ok (code_of ins)
alone_encodes known at ins multiple = aligned_here at (Ok (code_of ins)) multiple

fits_bits : (at : ℕ) (code : ℕ → List ℕ) (o : Option ℕ) (bits : ℕ) → at % 4 ≡ 0 → (number : ℕ) → o ≡ Some bits → aligned 4 at (fitting number o >>= λ b. Ok (code b)) ≡ Ok (code bits)
fits_bits at code o bits multiple number e =
    aligned_here at (fitting number o >>= λ b. Ok (code b)) multiple ∙ ap (λ (o : Option ℕ). fitting number o >>= λ b. Ok (code b)) e

branch_encodes : (known : Known) (at : ℕ) (ins : Ins) (target bits : ℕ) → at % 4 ≡ 0 → branch_bits (at + 4) (low_word (pos target)) ≡ Some bits
    → encoded known at (Branches ins (Plain (pos target))) ≡ Ok (code_of (branch_to ins bits))
unfolding of_branch
branch_encodes known at ins target bits multiple e = fits_bits at (λ b. code_of (branch_to ins b)) (branch_bits (at + 4) (low_word (pos target))) bits multiple (low_word (pos target)) e

jump_encodes : (known : Known) (at : ℕ) (ins : Ins) (target bits : ℕ) → at % 4 ≡ 0 → jump_bits (at + 4) (low_word (pos target)) ≡ Some bits
    → encoded known at (Jumps ins (Plain (pos target))) ≡ Ok (code_of (jump_to ins bits))
unfolding of_jump
jump_encodes known at ins target bits multiple e = fits_bits at (λ b. code_of (jump_to ins b)) (jump_bits (at + 4) (low_word (pos target))) bits multiple (low_word (pos target)) e

-- an instruction
pub alone : (at : ℕ) (ins : Ins) (ps : List Piece) → at % 4 ≡ 0 → (split_label ps).0 ≡ None → ((known : Known) → statement_of known (split_label ps).1 ≡ Ok (Alone ins)) → Reads at (word ins) ps
alone at ins ps multiple none reads = reads_word at (word ins) ps (Alone ins) tt none reads (λ known. alone_encodes known at ins multiple)

-- a branch or a jump, by its target
pub branches : (at : ℕ) (ins : Ins) (target bits : ℕ) (ps : List Piece) → at % 4 ≡ 0 → branch_bits (at + 4) (low_word (pos target)) ≡ Some bits → (split_label ps).0 ≡ None
    → ((known : Known) → statement_of known (split_label ps).1 ≡ Ok (Branches ins (Plain (pos target)))) → Reads at (word (branch_to ins bits)) ps
branches at ins target bits ps multiple e none reads =
    reads_word at (word (branch_to ins bits)) ps (Branches ins (Plain (pos target))) tt none reads (λ known. branch_encodes known at ins target bits multiple e)

pub jumps : (at : ℕ) (ins : Ins) (target bits : ℕ) (ps : List Piece) → at % 4 ≡ 0 → jump_bits (at + 4) (low_word (pos target)) ≡ Some bits → (split_label ps).0 ≡ None
    → ((known : Known) → statement_of known (split_label ps).1 ≡ Ok (Jumps ins (Plain (pos target)))) → Reads at (word (jump_to ins bits)) ps
jumps at ins target bits ps multiple e none reads =
    reads_word at (word (jump_to ins bits)) ps (Jumps ins (Plain (pos target))) tt none reads (λ known. jump_encodes known at ins target bits multiple e)

word_statement : (known : Known) (w : ℕ) → statement_of known (Directive (codes ".word") ∷ Number (pos w) ∷ []) ≡ Ok (Values Word (Plain (pos w) ∷ []))
word_statement known w = refl

word_encodes : (known : Known) (at w : ℕ) → at % 4 ≡ 0 → w < 2 ^ 32 → encoded known at (Values Word (Plain (pos w) ∷ [])) ≡ Ok (bytes_of Word w)
word_encodes known at w multiple small =
    let same : low_word (pos w) ≡ w = omega arith in
    aligned_here at (Ok (bytes_of Word (low_word (pos w)) ++ [])) multiple ∙ ap (λ (n : ℕ). Ok (bytes_of Word n)) same

-- a word
pub directive : (at w : ℕ) → at % 4 ≡ 0 → w < 2 ^ 32 → Reads at w (Directive (codes ".word") ∷ Number (pos w) ∷ [])
directive at w multiple small =
    reads_word at w (Directive (codes ".word") ∷ Number (pos w) ∷ []) (Values Word (Plain (pos w) ∷ [])) (refl, refl) refl (λ known. word_statement known w) (λ known. word_encodes known at w multiple small)

place_statement : (known : Known) (at : ℕ) → statement_of known (Directive (codes ".org") ∷ Number (pos at) ∷ []) ≡ Ok (Org (low_word (pos at)))
unfolding of_org
place_statement known at = refl

-- the line that says where words stand
pub place_line : (known : Known) (at : ℕ) → at < 2 ^ 32 → line_after known (Some (Directive (codes ".org") ∷ Number (pos at) ∷ [])) ≡ Ok (as_line (Org at))
place_line known at small =
    let same : low_word (pos at) ≡ at = omega arith in
    read_line_as known (Directive (codes ".org") ∷ Number (pos at) ∷ []) (Org at) refl (place_statement known at ∙ ap (λ (n : ℕ). Ok (Org n)) same) refl
