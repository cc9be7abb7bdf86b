-- Both rounds over a printed text: it has no fault, and places its words.
use Rattle.std.proofs.Common.{◌≡◌, ℕ, ◌+◌, ◌*◌, ◌%◌, ◌^◌, ◌<◌, ◌≤◌, nat_lt, List, [], ◌∷◌, ◌++◌, length, codes, Some, None, Result, Ok, refl, sym, ap, ◌∙◌, append_assoc, arith}
use Rattle.std.proofs.lemmas.Bool.{cond-false, le-ltb}
use Rattle.psx_asm.specs.declared.fault.AsmFault.{AsmFault}
use Rattle.psx_asm.specs.declared.fault.AsmError.{AsmError}
use Rattle.psx_asm.specs.Operands.{Known}
use Rattle.psx_asm.specs.Statement.{Statement, Empty, Alone, Branches, Jumps, Values, Org}
use Rattle.psx_asm.specs.Line.{Line, ◌>>=◌, after, address_from, first_address, address, known_from, known}
use Rattle.psx_asm.specs.Placing.{placing}
use Rattle.psx_asm.specs.Assembly.{longest, numbered, first_round, second_round, Placed as Answer, label_address, assembled, IsAssemblyOf}
use Rattle.psx_dis.specs.Printed.{printed}
use Rattle.psx_dis.specs.Returning.{word_bytes, words_alone, IsHeld}
use Rattle.psx_dis.proofs.Reading.{as_line, PlacesWord, word_after, place_line}
use Rattle.psx_dis.proofs.ReadLines.{AllRead, readings, place_pieces, printed_read}
use Rattle.psx_dis.proofs.Placing.{Placed, AreBelow, below_next, word_places, empty_places, org_places}

-- the lines of words, and the empty line behind them
abbrev listed : (at : ℕ) (ws : List ℕ) → AllRead at ws → List Line
listed at [] all = as_line Empty ∷ []
listed at (w ∷ ws) all = as_line all.0.reads.statement ∷ listed (at + 4) ws all.1

first_passes : (before : List Line) (at : ℕ) (ws : List ℕ) (all : AllRead at ws) → first_round before (readings at ws all) ≡ Ok (before ++ listed at ws all)
first_passes before at [] all = refl
first_passes before at (w ∷ ws) all =
    let line = as_line all.0.reads.statement in
    ap (λ (r : Result Line AsmFault). numbered (length before + 1) r >>= λ line. first_round (before ++ line ∷ []) (readings (at + 4) ws all.1)) (all.0.reads.line (known before))
    ∙ first_passes (before ++ line ∷ []) (at + 4) ws all.1 ∙ ap Ok (append_assoc before (line ∷ []) (listed (at + 4) ws all.1))

address_next : (at : ℕ) (before : List Line) (line : Line) → address_from at (before ++ line ∷ []) ≡ after (address_from at before) line.statement
address_next at [] line = refl
address_next at (l ∷ ls) line = address_next (after at l.statement) ls line

second_passes : (names : Known) (from to : ℕ) (placed : Placed) (before : List Line) (at : ℕ) (ws : List ℕ) (all : AllRead at ws) → address before ≡ at % 2 ^ 32 → at + 4 * length ws ≤ 2 ^ 32
    → IsHeld from to at (4 * length ws) → AreBelow placed at → second_round names from to placed before (listed at ws all) ≡ Ok (placed ++ word_bytes at ws)
second_passes names from to placed before at [] all here end held below =
    ap (λ (r : Result Placed AsmFault). numbered (length before + 1) r >>= λ new. Ok (placed ++ new)) (empty_places names from to (address before) placed)
second_passes names from to placed before at (w ∷ ws) all here end held below =
    let s = all.0.reads.statement in
    let new = word_bytes at (w ∷ []) in
    let same : address before ≡ at = omega arith in
    let places : placing names from to (address before) placed s ≡ Ok new =
    ap (λ (n : ℕ). placing names from to n placed s) same
    ∙ word_places names from to placed at w s (all.0.reads.encodes names) (omega arith) (λ k less. held k (omega arith)) below in
    let next : address (before ++ as_line s ∷ []) ≡ (at + 4) % 2 ^ 32 =
    address_next first_address before (as_line s) ∙ word_after (address before) s all.0.reads.places ∙ ap (λ (n : ℕ). (n + 4) % 2 ^ 32) same in
    let later : IsHeld from to (at + 4) (4 * length ws) = λ k less. (let there = held (4 + k) (omega arith) in omega arith) in
    ap (λ (r : Result Placed AsmFault). numbered (length before + 1) r >>= λ new. second_round names from to (placed ++ new) (before ++ as_line s ∷ []) (listed (at + 4) ws all.1)) places
    ∙ second_passes names from to (placed ++ new) (before ++ as_line s ∷ []) (at + 4) ws all.1 next (omega arith) later (below_next placed at w below)
    ∙ ap Ok (append_assoc placed new (word_bytes (at + 4) ws))

word_names : (at : ℕ) (s : Statement) (ls : List Line) (w : List ℕ) → PlacesWord s → known_from at (as_line s ∷ ls) w ≡ known_from (after at s) ls w
word_names at (Alone ins) ls w is = refl
word_names at (Branches ins v) ls w is = refl
word_names at (Jumps ins v) ls w is = refl
word_names at (Values width vs) ls w is = refl
word_names at _ ls w is = absurd is

no_names : (from at : ℕ) (ws : List ℕ) (all : AllRead at ws) (w : List ℕ) → known_from from (listed at ws all) w ≡ None
no_names from at [] all w = refl
no_names from at (v ∷ ws) all w =
    let s = all.0.reads.statement in
    word_names from s (listed (at + 4) ws all.1) w all.0.reads.places ∙ no_names (after from s) (at + 4) ws all.1 w

-- what the second round and the names make of lines
abbrev from_lines : (from to : ℕ) → List Line → Result Answer AsmError
from_lines from to lines = second_round (known lines) from to [] [] lines >>= λ bytes. Ok (record { bytes = bytes; start = label_address (known lines (codes "start")) })

assembled_is : (start : ℕ) (ws : List ℕ) (from to : ℕ) (all : AllRead start ws) → start < 2 ^ 32 → start + 4 * length ws ≤ 2 ^ 32 → IsHeld from to start (4 * length ws)
    → assembled from to (Some (place_pieces start) ∷ readings start ws all) ≡ Ok (words_alone start ws)
assembled_is start ws from to all small end held =
    let org = as_line (Org start) in
    let lines = org ∷ listed start ws all in
    let first : first_round [] (Some (place_pieces start) ∷ readings start ws all) ≡ Ok lines =
    ap (λ (r : Result Line AsmFault). numbered 1 r >>= λ line. first_round (line ∷ []) (readings start ws all)) (place_line (known []) start small)
    ∙ first_passes (org ∷ []) start ws all in
    let second : second_round (known lines) from to [] [] lines ≡ Ok (word_bytes start ws) =
    ap (λ (r : Result Placed AsmFault). numbered 1 r >>= λ new. second_round (known lines) from to new (org ∷ []) (listed start ws all)) (org_places (known lines) from to first_address start [])
    ∙ second_passes (known lines) from to [] (org ∷ []) start ws all (omega arith) end held tt in
    let nameless : known lines (codes "start") ≡ None = no_names start start ws all (codes "start") in
    ap (λ (r : Result (List Line) AsmError). r >>= from_lines from to) first
    ∙ (λ i. second i >>= λ bytes. Ok (record { bytes = bytes; start = label_address (nameless i) }))

pub assembles_back : (start : ℕ) (ws : List ℕ) (from to : ℕ) → start < 2 ^ 32 → start + 4 * length ws ≤ 2 ^ 32 → (all : AllRead start ws) → length (printed start ws) ≤ longest
    → IsHeld from to start (4 * length ws) → IsAssemblyOf (printed start ws) from to (Ok (words_alone start ws))
assembles_back start ws from to small end all short held = record {
  readings = Some (place_pieces start) ∷ readings start ws all;
  read = printed_read start ws all small;
  is = sym (cond-false (nat_lt longest (length (printed start ws))) _ _ (le-ltb longest (length (printed start ws)) short) ∙ assembled_is start ws from to all small end held);
}
