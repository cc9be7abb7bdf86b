-- The rounds, line by line.
use Rattle.std.proofs.Common.{◌≡◌, ℕ, ◌+◌, List, [], ◌∷◌, ◌++◌, length, Result, Ok, Err, refl, sym, ap, ◌∙◌, append_assoc, append-nil}
use Rattle.psx_asm.specs.declared.fault.AsmFault.{AsmFault}
use Rattle.psx_asm.specs.declared.fault.AsmError.{AsmError}
use Rattle.psx_asm.specs.Operands.{Known}
use Rattle.psx_asm.specs.Statement.{Statement, Empty, Alone, Pair, Branches, Jumps, Address, Values, Text, Space, Align, Org, Equ}
use Rattle.psx_asm.specs.Line.{Line, ◌>>=◌, address}
use Rattle.psx_asm.specs.Placing.{placing}
use Rattle.psx_asm.specs.Output.{placed_behind}
use Rattle.psx_asm.specs.Walking.{Item, item, items_behind}
use Rattle.psx_asm.specs.Rounds.{placed_items}
use Rattle.psx_asm.specs.Assembly.{numbered, second_round}

-- the items of one line more
pub items_behind-push : (before ls : List Line) (l : Line)
    → items_behind before (ls ++ l ∷ []) ≡ items_behind before ls ++ item (length (before ++ ls) + 1) (address (before ++ ls)) l.statement
items_behind-push before [] l =
    append-nil (item (length before + 1) (address before) l.statement)
    ∙ ap (λ b. item (length b + 1) (address b) l.statement) (sym (append-nil before))
items_behind-push before (x ∷ xs) l =
    let here = item (length before + 1) (address before) x.statement in
    ap (λ i. here ++ i) (items_behind-push (before ++ x ∷ []) xs l
    ∙ ap (λ b. items_behind (before ++ x ∷ []) xs ++ item (length b + 1) (address b) l.statement) (append_assoc before (x ∷ []) xs))
    ∙ sym (append_assoc here (items_behind (before ++ x ∷ []) xs) (item (length (before ++ x ∷ xs) + 1) (address (before ++ x ∷ xs)) l.statement))

module _ (names : Known) (from to : ℕ) where
  -- what a line places behind others, as an item and with what follows
  abbrev goes_on : (number at : ℕ) (placed : List (ℕ × ℕ)) (s : Statement) → (List (ℕ × ℕ) → Result (List (ℕ × ℕ)) AsmError) → Result (List (ℕ × ℕ)) AsmError
  goes_on number at placed s rest = numbered number (placing names from to at placed s) >>= λ new. rest (placed ++ new)

  abbrev as_item : (number at : ℕ) (placed : List (ℕ × ℕ)) (s : Statement) → (List (ℕ × ℕ) → Result (List (ℕ × ℕ)) AsmError) → Result (List (ℕ × ℕ)) AsmError
  as_item number at placed s rest = numbered number (placed_behind names from to at placed s) >>= rest

  same_way : (number at : ℕ) (placed : List (ℕ × ℕ)) (s : Statement) (rest : List (ℕ × ℕ) → Result (List (ℕ × ℕ)) AsmError)
      → goes_on number at placed s rest ≡ as_item number at placed s rest
  unfolding placed_behind
  same_way number at placed s rest = by (placing names from to at placed s)
    where
      by : (r : Result (List (ℕ × ℕ)) AsmFault) → (numbered number r >>= λ new. rest (placed ++ new)) ≡ (numbered number (r >>= λ new. Ok (placed ++ new)) >>= rest)
      by (Ok new) = refl
      by (Err f) = refl

  nothing : (number at : ℕ) (placed : List (ℕ × ℕ)) (rest : List (ℕ × ℕ) → Result (List (ℕ × ℕ)) AsmError) → goes_on number at placed Empty rest ≡ rest placed
  unfolding placing
  nothing number at placed rest = ap rest (append-nil placed)

  -- a line as its item
  line_item : (number at : ℕ) (placed : List (ℕ × ℕ)) (s : Statement) (is : List Item)
      → goes_on number at placed s (λ more. placed_items names from to more is) ≡ placed_items names from to placed (item number at s ++ is)
  line_item number at placed Empty is = nothing number at placed (λ more. placed_items names from to more is)
  line_item number at placed (Alone i) is = same_way number at placed (Alone i) (λ more. placed_items names from to more is)
  line_item number at placed (Pair i j) is = same_way number at placed (Pair i j) (λ more. placed_items names from to more is)
  line_item number at placed (Branches i v) is = same_way number at placed (Branches i v) (λ more. placed_items names from to more is)
  line_item number at placed (Jumps i v) is = same_way number at placed (Jumps i v) (λ more. placed_items names from to more is)
  line_item number at placed (Address t v) is = same_way number at placed (Address t v) (λ more. placed_items names from to more is)
  line_item number at placed (Values w v) is = same_way number at placed (Values w v) (λ more. placed_items names from to more is)
  line_item number at placed (Text b) is = same_way number at placed (Text b) (λ more. placed_items names from to more is)
  line_item number at placed (Space n) is = same_way number at placed (Space n) (λ more. placed_items names from to more is)
  line_item number at placed (Align n) is = same_way number at placed (Align n) (λ more. placed_items names from to more is)
  line_item number at placed (Org n) is = same_way number at placed (Org n) (λ more. placed_items names from to more is)
  line_item number at placed (Equ w n) is = same_way number at placed (Equ w n) (λ more. placed_items names from to more is)

  -- the second round goes over the items
  pub second_round-items : (placed : List (ℕ × ℕ)) (before ls : List Line)
      → second_round names from to placed before ls ≡ placed_items names from to placed (items_behind before ls)
  second_round-items placed before [] = refl
  second_round-items placed before (l ∷ ls) =
      ap (λ rest. goes_on (length before + 1) (address before) placed l.statement rest) (λ i more. second_round-items more (before ++ l ∷ []) ls i)
      ∙ line_item (length before + 1) (address before) placed l.statement (items_behind (before ++ l ∷ []) ls)
