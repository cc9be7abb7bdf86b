-- A listing as a tree, and the flat list of nodes that spells it.
use Rattle.std.specs.Prelude.{ℕ, ◌+◌, max, List, ◌∷◌}
use Rattle.psx_ins.specs.declared.reg.Reg.{Reg}
use Rattle.psx_ins.specs.declared.ins.Ins.{Ins}
use Rattle.psx_flow.specs.declared.node.Test.{Test}
use Rattle.psx_flow.specs.declared.node.Node.{Node}
use Rattle.psx_flow.specs.declared.node.Node.TheVariants.{Op, If, Other, While, End, Call, Jump, JumpTo}

-- what stands first, and what follows it
pub data Tree : Type 0 where
  Stop : Tree
  Do : Ins → Tree → Tree
  When : Test → Tree → Tree → Tree
  Choose : Test → Tree → Tree → Tree → Tree
  Loop : Test → Tree → Tree → Tree
  Visit : ℕ → Tree → Tree
  Go : ℕ → Tree → Tree
  GoTo : Reg → Tree → Tree

-- the flat list of a tree, and then k
abbrev pub flat : Tree → List Node → List Node
flat Stop k = k
flat (Do i r) k = Op i ∷ flat r k
flat (When t a r) k = If t ∷ flat a (End ∷ flat r k)
flat (Choose t a b r) k = If t ∷ flat a (Other ∷ flat b (End ∷ flat r k))
flat (Loop t a r) k = While t ∷ flat a (End ∷ flat r k)
flat (Visit a r) k = Call a ∷ flat r k
flat (Go a r) k = Jump a ∷ flat r k
flat (GoTo n r) k = JumpTo n ∷ flat r k

-- how deep its brackets are nested
abbrev pub nest : Tree → ℕ
nest Stop = 0
nest (Do i r) = nest r
nest (When t a r) = max (1 + nest a) (nest r)
nest (Choose t a b r) = max (max (1 + nest a) (1 + nest b)) (nest r)
nest (Loop t a r) = max (1 + nest a) (nest r)
nest (Visit a r) = nest r
nest (Go a r) = nest r
nest (GoTo n r) = nest r

-- the number of its words: a branch or jump has a slot, and the End of an If is no word
abbrev pub size : Tree → ℕ
size Stop = 0
size (Do i r) = 1 + size r
size (When t a r) = 2 + size a + size r
size (Choose t a b r) = 4 + size a + size b + size r
size (Loop t a r) = 4 + size a + size r
size (Visit a r) = 2 + size r
size (Go a r) = 2 + size r
size (GoTo n r) = 2 + size r
