-- The one tree that a list of nodes spells, read from its end.
use Rattle.std.specs.Prelude.{List, [], ◌∷◌, Option, Some, None}
use Rattle.psx_flow.specs.declared.node.Test.{Test}
use Rattle.psx_flow.specs.declared.node.Node.{Node}
use Rattle.psx_flow.specs.declared.node.Node.TheVariants.{Op, If, Other, While, End, Call, Jump, JumpTo}
use Rattle.psx_flow.specs.Tree.{Tree, Stop, Do, When, Choose, Loop, Visit, Go, GoTo}

-- what is read so far: a tree to the end of the list, or a tree to an Other or End whose bracket isn't read yet, and what follows that
pub data Reading : Type 0 where
  Fails : Reading
  Whole : Tree → Reading
  ToOther : Tree → Reading → Reading
  ToEnd : Tree → Reading → Reading

-- a change of the first tree
abbrev pub on_first : (Tree → Tree) → Reading → Reading
on_first f Fails = Fails
on_first f (Whole T) = Whole (f T)
on_first f (ToOther T r) = ToOther (f T) r
on_first f (ToEnd T r) = ToEnd (f T) r

-- an If before what is read
abbrev pub after_if : Test → Reading → Reading
after_if t (ToEnd a r) = on_first (When t a) r
after_if t (ToOther a (ToEnd b r)) = on_first (Choose t a b) r
after_if t _ = Fails

-- a While before what is read
abbrev pub after_while : Test → Reading → Reading
after_while t (ToEnd a r) = on_first (Loop t a) r
after_while t _ = Fails

abbrev pub reading : List Node → Reading
reading [] = Whole Stop
reading (Op i ∷ ns) = on_first (Do i) (reading ns)
reading (If t ∷ ns) = after_if t (reading ns)
reading (Other ∷ ns) = ToOther Stop (reading ns)
reading (While t ∷ ns) = after_while t (reading ns)
reading (End ∷ ns) = ToEnd Stop (reading ns)
reading (Call a ∷ ns) = on_first (Visit a) (reading ns)
reading (Jump a ∷ ns) = on_first (Go a) (reading ns)
reading (JumpTo n ∷ ns) = on_first (GoTo n) (reading ns)

abbrev pub whole : Reading → Option Tree
whole (Whole T) = Some T
whole _ = None

-- the tree, where the brackets match
abbrev pub tree_of : List Node → Option Tree
tree_of nodes = whole (reading nodes)
