-- The words node by node: those of a bracket's branch come when its end does. Only private contracts cite it: `Lowered` says what is promised.
use Rattle.std.specs.Prelude.{ℕ, ◌+◌, ◌-◌, ◌%◌, ◌^◌, ◌<◌, IsTrue, nat_lt, List, [], ◌∷◌, length, reverse, slice_set, if◌then◌else◌}
use Rattle.psx_ins.specs.declared.ins.Ins.{Ins}
use Rattle.psx_ins.specs.declared.ins.Ins.TheVariants.{JAL, J, JR}
use Rattle.psx_ins.specs.Words.{word}
use Rattle.psx_flow.specs.declared.node.Test.{Test}
use Rattle.psx_flow.specs.declared.node.Node.{Node}
use Rattle.psx_flow.specs.declared.node.Node.TheVariants.{Op, If, Other, While, End, Call, Jump, JumpTo}
use Rattle.psx_flow.specs.declared.emit.Bracket.{Bracket}
use Rattle.psx_flow.specs.declared.emit.Bracket.TheVariants.{Choice, Turn}
use Rattle.psx_flow.specs.Well.{test_fits}
use Rattle.psx_flow.specs.Lowered.{always, opposite, branch_by, target_of}

-- the words so far, the open brackets, innermost first, and the place of the next word
pub record Lowering : Type 0 where
  pub words : List ℕ
  pub brackets : List Bracket
  pub at : ℕ

-- with the open brackets as the code holds them, the innermost last
abbrev pub so_far : List ℕ → List Bracket → ℕ → Lowering
so_far w items j = record { words = w; brackets = reverse items; at = j }

-- the words from the slot of a branch at a place to another place, as 16 bits with sign
abbrev pub apart : (from to : ℕ) → ℕ
apart from to = (to + 2 ^ 16 - (from + 1)) % 2 ^ 16

-- the word of a branch at a place to another
abbrev pub branch_word : Test → (from to : ℕ) → ℕ
branch_word t from to = word (branch_by t (apart from to))

-- a word and a nop in its slot
abbrev pub with_slot : List ℕ → ℕ → ℕ → List ℕ
with_slot w j x = slice_set (slice_set w j x) (j + 1) 0

-- one more bracket, where there is room
abbrev pub pushed : Bracket → List Bracket → List Bracket
pushed b bs = if nat_lt (length bs) 16 then b ∷ bs else bs

-- the branch of a bracket comes later
abbrev pub opened : Bracket → Lowering → Lowering
opened b s = record { words = with_slot s.words s.at 0; brackets = pushed b s.brackets; at = s.at + 2 }

abbrev pub at_other : List Bracket → Lowering → Lowering
at_other (Choice p t ∷ bs) s = opened (Choice s.at always) (record { words = slice_set s.words p (branch_word t p (s.at + 2)); brackets = bs; at = s.at })
at_other (Turn p t ∷ bs) s = record s { brackets = bs }
at_other [] s = s

abbrev pub at_end : List Bracket → Lowering → Lowering
at_end (Choice p t ∷ bs) s = record { words = slice_set s.words p (branch_word t p s.at); brackets = bs; at = s.at }
at_end (Turn p t ∷ bs) s = record { words = with_slot (slice_set s.words p (branch_word t p (s.at + 2))) s.at (branch_word always s.at p); brackets = bs; at = s.at + 2 }
at_end [] s = s

-- an instruction with a slot
abbrev pub slotted : Ins → Lowering → Lowering
slotted i s = record s { words = with_slot s.words s.at (word i); at = s.at + 2 }

abbrev pub emitted : Node → Lowering → Lowering
emitted (Op i) s = record s { words = slice_set s.words s.at (word i); at = s.at + 1 }
emitted (If t) s = opened (Choice s.at (opposite t)) s
emitted (While t) s = opened (Turn s.at (opposite t)) s
emitted Other s = at_other s.brackets s
emitted End s = at_end s.brackets s
emitted (Call a) s = slotted (JAL (target_of a)) s
emitted (Jump a) s = slotted (J (target_of a)) s
emitted (JumpTo n) s = slotted (JR n) s

abbrev pub run : List Node → Lowering → Lowering
run [] s = s
run (n ∷ ns) s = run ns (emitted n s)

-- the bracket's place is small, and its test fits
abbrev pub BracketFits : Bracket → Type 0
BracketFits (Choice p t) = (p < 2 ^ 40) × IsTrue (test_fits t)
BracketFits (Turn p t) = (p < 2 ^ 40) × IsTrue (test_fits t)
