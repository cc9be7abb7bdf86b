-- The first round as the code goes on.
use Rattle.std.proofs.Common.{◌≡◌, ℕ, ◌+◌, ◌≤◌, List, [], ◌∷◌, ◌++◌, length, drop, Option, Result, Ok, Err, refl, sym, ap, subst, ◌∙◌}
use Rattle.std.specs.List.{before_first}
use Rattle.psx_asm.specs.declared.line.Walk.{Walk}
use Rattle.psx_asm.specs.declared.fault.AsmFault.{AsmFault}
use Rattle.psx_asm.specs.declared.fault.AsmError.{AsmError}
use Rattle.psx_asm.specs.declared.fault.Failure.{Failure}
use Rattle.psx_asm.specs.declared.fault.Failure.TheVariants as failures
use Rattle.psx_asm.specs.Piece.{Piece, IsReadAs}
use Rattle.psx_asm.specs.Line.{Line, ◌>>=◌, line_after, known}
use Rattle.psx_asm.specs.Names.{names}
use Rattle.psx_asm.specs.Failing.{Fails}
use Rattle.psx_asm.specs.Walking.{Item, item, items_behind, StandsBehind}
use Rattle.psx_asm.specs.Rounds.{IsErrorOf, error_at}
use Rattle.psx_asm.specs.Assembly.{AreReadAs, numbered, first_round}
use Rattle.psx_asm.proofs.Lines.{ends_line, AreLeft, line_and}
use Rattle.psx_asm.proofs.Rounds.{items_behind-push}

abbrev pub Readings : Type 0
Readings = List (Option (List Piece))

-- behind some lines, of which the code holds the names and the items, the round goes on with the others
pub record Behind (text : List ℕ) (readings : Readings) (from : ℕ) (walk : Walk) (held : List Item) : Type 0 where
  pub before : List Line
  pub lines : List (List ℕ)
  pub rest : Readings
  pub left : AreLeft text from lines
  pub read : AreReadAs lines rest
  pub round : first_round [] readings ≡ first_round before rest
  pub stands : StandsBehind before walk
  pub items : held ≡ items_behind [] before

-- the reading of the next line, and what the round does with it
pub record Next (text : List ℕ) (from : ℕ) (line : List ℕ) (lines : List (List ℕ)) (rest : Readings) : Type 0 where
  pub more : List (List ℕ)
  pub left : AreLeft text (from + length line + 1) more
  pub reading : Option (List Piece)
  pub others : Readings
  pub is : rest ≡ reading ∷ others
  pub here : IsReadAs line reading
  pub read : AreReadAs more others

next_of : (text : List ℕ) (from : ℕ) (line : List ℕ) (more : List (List ℕ)) (rest : Readings) → AreLeft text (from + length line + 1) more
    → AreReadAs (line ∷ more) rest → Next text from line (line ∷ more) rest
next_of text from line more [] left read = absurd read
next_of text from line more (r ∷ rs) left read = record { more = more; left = left; reading = r; others = rs; is = refl; here = read.0; read = read.1 }

pub next : (text : List ℕ) (from : ℕ) (line : List ℕ) (lines : List (List ℕ)) (rest : Readings) → AreLeft text from lines → AreReadAs lines rest
    → from ≤ length text → line ≡ before_first ends_line (drop from text) → Next text from line lines rest
next text from line lines rest left read within is =
    let found = line_and text from line lines left within is in
    let here = next_of text from line found.more rest found.left (subst (λ l. AreReadAs l rest) found.split read) in
    record { more = here.more; left = here.left; reading = here.reading; others = here.others; is = here.is; here = here.here; read = here.read }

same_known : (before : List Line) (walk : Walk) → StandsBehind before walk → names walk.symbols ≡ known before
same_known before walk stands = λ i w. stands.known w i

error_as : {Y : Type 0} (number n : ℕ) (e : Failure) (given : Result Line AsmFault) (f : Line → Result Y AsmError) → number ≡ n → Fails e given
    → IsErrorOf (error_at number e) (numbered n given >>= f)
error_as number n failures.Memory given f same h = tt
error_as number n (failures.Fault d) given f same h = ap (λ r. numbered n r >>= f) h ∙ ap (λ m. Err (AsmError.Line m d)) (sym same)

-- a line with a fault ends the round
pub line_fails : (text : List ℕ) (readings : Readings) (from : ℕ) (walk : Walk) (held : List Item) (line : List ℕ) (e : Failure)
    → Behind text readings from walk held → from ≤ length text → line ≡ before_first ends_line (drop from text)
    → ((reading : Option (List Piece)) → IsReadAs line reading → Fails e (line_after (names walk.symbols) reading))
    → IsErrorOf (error_at (walk.number + 1) e) (first_round [] readings)
line_fails text readings from walk held line e b within is fails =
    let n = next text from line b.lines b.rest b.left b.read within is in
    let bad : Fails e (line_after (known b.before) n.reading) =
    subst (λ k. Fails e (line_after k n.reading)) (same_known b.before walk b.stands) (fails n.reading n.here) in
    subst (λ r. IsErrorOf (error_at (walk.number + 1) e) r) (sym (b.round ∙ ap (first_round b.before) n.is))
    (error_as (walk.number + 1) (length b.before + 1) e _ (λ l. first_round (b.before ++ l ∷ []) n.others) (ap (λ m. m + 1) b.stands.number) bad)

-- a line without one goes on
pub line_passes : (text : List ℕ) (readings : Readings) (from : ℕ) (walk after : Walk) (held then : List Item) (line : List ℕ) (l : Line)
    → Behind text readings from walk held → from ≤ length text → line ≡ before_first ends_line (drop from text)
    → ((reading : Option (List Piece)) → IsReadAs line reading → line_after (names walk.symbols) reading ≡ Ok l)
    → ((before : List Line) (reading : Option (List Piece)) → StandsBehind before walk → line_after (known before) reading ≡ Ok l → StandsBehind (before ++ l ∷ []) after)
    → then ≡ held ++ item (walk.number + 1) walk.at l.statement → Behind text readings (from + length line + 1) after then
line_passes text readings from walk after held then line l b within is given passes kept =
    let n = next text from line b.lines b.rest b.left b.read within is in
    let good : line_after (known b.before) n.reading ≡ Ok l = ap (λ k. line_after k n.reading) (sym (same_known b.before walk b.stands)) ∙ given n.reading n.here in
    record {
      before = b.before ++ l ∷ [];
      lines = n.more;
      rest = n.others;
      left = n.left;
      read = n.read;
      round = b.round ∙ ap (first_round b.before) n.is ∙ ap (λ r. numbered (length b.before + 1) r >>= λ x. first_round (b.before ++ x ∷ []) n.others) good;
      stands = passes b.before n.reading b.stands good;
      items = kept ∙ ap (λ i. i ++ item (walk.number + 1) walk.at l.statement) b.items
          ∙ ap (λ m. items_behind [] b.before ++ item (m + 1) walk.at l.statement) b.stands.number
          ∙ ap (λ m. items_behind [] b.before ++ item (length b.before + 1) m l.statement) b.stands.at
          ∙ sym (items_behind-push [] b.before l);
    }
