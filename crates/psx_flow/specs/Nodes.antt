-- The rules of a listing node by node. Only private contracts cite it: `Well` says what is promised.
use Rattle.std.specs.Prelude.{ℕ, Bool, true, nat_lt, List, [], ◌∷◌, length, Option, Some, None, if◌then◌else◌}
use Rattle.psx_ins.specs.declared.reg.Reg.{Reg}
use Rattle.psx_flow.specs.declared.node.Node.{Node}
use Rattle.psx_flow.specs.declared.node.Node.TheVariants.{Op, If, Other, While, End, Call, Jump, JumpTo}
use Rattle.psx_flow.specs.declared.nesting.Body.{Body}
use Rattle.psx_flow.specs.declared.nesting.Body.TheVariants.{First, Last}
use Rattle.psx_flow.specs.Well.{is_op, is_register, test_fits}

abbrev pub node_fits : Node → Bool
node_fits (Op i) = is_op i
node_fits (If t) = test_fits t
node_fits (While t) = test_fits t
node_fits (JumpTo n) = is_register n
node_fits Other = true
node_fits End = true
node_fits (Call a) = true
node_fits (Jump a) = true

-- one more body within the others, where that is not too deep
abbrev pub opened : Body → List Body → Option (List Body)
opened b bs = if nat_lt (length bs) 16 then Some (b ∷ bs) else None

-- the bodies, innermost first, in which the next node stands
abbrev pub bodies_after : Node → List Body → Option (List Body)
bodies_after (If t) bs = opened First bs
bodies_after (While t) bs = opened Last bs
bodies_after Other (First ∷ bs) = opened Last bs
bodies_after End (b ∷ bs) = Some bs
bodies_after Other _ = None
bodies_after End [] = None
bodies_after (Op i) bs = Some bs
bodies_after (Call a) bs = Some bs
bodies_after (Jump a) bs = Some bs
bodies_after (JumpTo n) bs = Some bs

-- the words of a node with its slots, those of a While's End among the While's
abbrev pub weight : Node → ℕ
weight (Op i) = 1
weight (If t) = 2
weight Other = 2
weight (While t) = 4
weight End = 0
weight (Call a) = 2
weight (Jump a) = 2
weight (JumpTo n) = 2

-- the number of a register
abbrev pub number_of : Option Reg → Option ℕ
number_of None = None
number_of (Some r) = Some r.0
