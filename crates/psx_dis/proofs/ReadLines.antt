-- The lines of a printed text, and what each is read as.
use Rattle.std.proofs.Common.{◌≡◌, ℕ, ◌+◌, ◌*◌, ◌%◌, ◌^◌, ◌<◌, ◌≤◌, false, ◌==◌, List, [], ◌∷◌, ◌++◌, length, All, codes, Option, Some, None, refl, sym, ap, subst, ◌∙◌, append_assoc, arith}
use Rattle.std.proofs.lemmas.List.Elements.{All-head, All-tail}
use Rattle.std.proofs.lemmas.List.Splits.{slice_split_at}
use Rattle.psx_ins.specs.declared.ins.Ins.{Ins}
use Rattle.psx_ins.specs.Words.{word}
use Rattle.psx_ins.specs.Decoding.{instruction_of}
use Rattle.psx_asm.specs.Piece.{Piece, IsReadAs}
use Rattle.psx_asm.specs.Assembly.{lines_of, AreReadAs}
use Rattle.psx_dis.specs.declared.operands.Operands.{Operands}
use Rattle.psx_dis.specs.Operands.{operands}
use Rattle.psx_dis.specs.Numbers.{hex_word}
use Rattle.psx_dis.specs.Printed.{word_text, instruction_text, text_of, lines, printed}
use Rattle.psx_dis.proofs.Spelling.{read_as, spelled_read}
use Rattle.psx_dis.proofs.SpelledLines.{spelled_instruction, spelled_directive, instruction_are, directive_are, text_of_instruction, text_of_word, text_of_place}
use Rattle.psx_dis.proofs.Found.{found}
use Rattle.psx_dis.proofs.Fitting.{IfFit, fits_bounded, operands_fit}
use Rattle.psx_dis.proofs.Reading.{Reads, directive}
use Rattle.psx_dis.proofs.ReadInstructions.{IfReads, reads}
use Rattle.psx_dis.proofs.Feeds.{instruction_no_feed, word_no_feed, place_no_feed}

-- a line is read as one that places the bytes of a word at an address
pub record ReadsLine (at w : ℕ) (text : List ℕ) : Type 0 where
  pub pieces : List Piece
  pub read : IsReadAs text (Some pieces)
  pub reads : Reads at w pieces
  pub one : All (λ b. (b == 10) ≡ false) text

word_line : (at w : ℕ) → at % 4 ≡ 0 → w < 2 ^ 32 → ReadsLine at w (word_text w)
word_line at w multiple small =
    let ps = spelled_directive (codes "word") w in
    record {
      pieces = read_as ps;
      read = subst (λ (t : List ℕ). IsReadAs t (Some (read_as ps))) (text_of_word w) (spelled_read ps (directive_are (codes "word") w (refl, refl) (omega arith) small));
      reads = directive at w multiple small;
      one = word_no_feed w small;
    }

instruction_line : (at w : ℕ) (ins : Ins) → at % 4 ≡ 0 → w < 2 ^ 32 → word ins ≡ w → (ops : Option Operands) → IfFit ops → IfReads at ins ops → ReadsLine at w (instruction_text w ins ops)
instruction_line at w ins multiple small is (Some ops) fit read =
    let ps = spelled_instruction ins ops in
    record {
      pieces = read_as ps;
      read = subst (λ (t : List ℕ). IsReadAs t (Some (read_as ps))) (text_of_instruction ins ops) (spelled_read ps (instruction_are ins ops fit));
      reads = subst (λ (v : ℕ). Reads at v (read_as ps)) is read;
      one = instruction_no_feed ins ops fit;
    }
instruction_line at w ins multiple small is None fit read = word_line at w multiple small

text_line : (at w : ℕ) → at % 4 ≡ 0 → at + 4 ≤ 2 ^ 32 → w < 2 ^ 32 → (o : Option Ins) → instruction_of w ≡ o → ReadsLine at w (text_of at w o)
text_line at w multiple end small (Some ins) e =
    let is = found w ins small e in
    let bounded = fits_bounded ins is.1 in
    instruction_line at w ins multiple small is.0 (operands (at + 4) ins) (operands_fit (at + 4) ins end bounded) (reads at ins multiple end bounded)
text_line at w multiple end small None e = word_line at w multiple small

-- each word's line
abbrev pub AllRead : ℕ → List ℕ → Type 0
AllRead at [] = Unit {0}
AllRead at (w ∷ ws) = ReadsLine at w (text_of at w (instruction_of w)) × AllRead (at + 4) ws

pub all_read : (at : ℕ) (ws : List ℕ) → at % 4 ≡ 0 → at + 4 * length ws ≤ 2 ^ 32 → All (λ w. w < 2 ^ 32) ws → AllRead at ws
all_read at [] multiple end small = tt
all_read at (w ∷ ws) multiple end small = (
  text_line at w multiple (omega arith) (All-head (λ w. w < 2 ^ 32) w ws small) (instruction_of w) refl,
  all_read (at + 4) ws (omega arith) (omega arith) (All-tail (λ w. w < 2 ^ 32) w ws small),
)

-- what the lines of words are read as, and the empty line behind the last line feed
abbrev pub readings : (at : ℕ) (ws : List ℕ) → AllRead at ws → List (Option (List Piece))
readings at [] all = Some [] ∷ []
readings at (w ∷ ws) all = Some all.0.pieces ∷ readings (at + 4) ws all.1

lines_read : (at : ℕ) (ws : List ℕ) (all : AllRead at ws) → AreReadAs (lines_of (lines at ws)) (readings at ws all)
lines_read at [] all = (spelled_read [] tt, tt)
lines_read at (w ∷ ws) all =
    let text = text_of at w (instruction_of w) in
    let split = ap lines_of (append_assoc text (codes "\n") (lines (at + 4) ws)) ∙ slice_split_at (λ b. b == 10) text 10 (lines (at + 4) ws) all.0.one refl in
    subst (λ (ls : List (List ℕ)). AreReadAs ls (readings at (w ∷ ws) all)) (sym split) (all.0.read, lines_read (at + 4) ws all.1)

-- what the line that says where words stand is read as
abbrev pub place_pieces : ℕ → List Piece
place_pieces start = read_as (spelled_directive (codes "org") start)

pub printed_read : (start : ℕ) (ws : List ℕ) (all : AllRead start ws) → start < 2 ^ 32 → AreReadAs (lines_of (printed start ws)) (Some (place_pieces start) ∷ readings start ws all)
printed_read start ws all small =
    let text = codes ".org " ++ hex_word start in
    let ps = spelled_directive (codes "org") start in
    let read = subst (λ (t : List ℕ). IsReadAs t (Some (read_as ps))) (text_of_place start) (spelled_read ps (directive_are (codes "org") start (refl, refl) (omega arith) small)) in
    let split = ap lines_of (append_assoc text (codes "\n") (lines start ws)) ∙ slice_split_at (λ b. b == 10) text 10 (lines start ws) (place_no_feed start small) refl in
    subst (λ (ls : List (List ℕ)). AreReadAs ls (Some (place_pieces start) ∷ readings start ws all)) (sym split) (read, lines_read start ws all)
