-- Which lists of nodes are listings.
use Rattle.std.specs.Prelude.{◌≡◌, ◌≤◌, Bool, true, false, not, ◌&&◌, ◌||◌, nat_lt, nat_le, IsTrue, List, [], Option, Some, None}
use Rattle.psx_ins.specs.declared.reg.Reg.{Reg}
use Rattle.psx_ins.specs.declared.ins.Ins.{Ins}
use Rattle.psx_ins.specs.declared.ins.Ins.TheVariants.{SYSCALL, BREAK, RFE}
use Rattle.psx_ins.specs.Words.{fits_fields}
use Rattle.psx_cpu.specs.Guard.{is_branch}
use Rattle.psx_flow.specs.declared.node.Test.{Test}
use Rattle.psx_flow.specs.declared.node.Test.TheVariants.{Same, Differ, NotAbove, Above, Negative, NotNegative}
use Rattle.psx_flow.specs.declared.node.Node.{Node}
use Rattle.psx_flow.specs.Tree.{Tree, Stop, Do, When, Choose, Loop, Visit, Go, GoTo, flat, nest}
use Rattle.psx_flow.specs.Reading.{tree_of}

-- an instruction that enters or leaves the kernel
abbrev pub enters_or_leaves : Ins → Bool
enters_or_leaves (SYSCALL code) = true
enters_or_leaves (BREAK code) = true
enters_or_leaves RFE = true
enters_or_leaves _ = false

-- an instruction that may stand as an Op, and has a word
abbrev pub is_op : Ins → Bool
is_op i = not (is_branch i || enters_or_leaves i) && fits_fields i

abbrev pub is_register : Reg → Bool
is_register r = nat_lt r.0 32

-- the registers of a test are registers
abbrev pub test_fits : Test → Bool
test_fits (Same a b) = is_register a && is_register b
test_fits (Differ a b) = is_register a && is_register b
test_fits (NotAbove a) = is_register a
test_fits (Above a) = is_register a
test_fits (Negative a) = is_register a
test_fits (NotNegative a) = is_register a

-- every instruction may stand, and every register of a test or a jump is one
abbrev pub fits : Tree → Bool
fits Stop = true
fits (Do i r) = is_op i && fits r
fits (When t a r) = test_fits t && (fits a && fits r)
fits (Choose t a b r) = test_fits t && (fits a && (fits b && fits r))
fits (Loop t a r) = test_fits t && (fits a && fits r)
fits (Visit a r) = fits r
fits (Go a r) = fits r
fits (GoTo n r) = is_register n && fits r

-- nodes that spell a tree that fits, with at most 16 brackets nested
pub record IsWell (nodes : List Node) : Type 0 where
  pub tree : Tree
  pub spelled : flat tree [] ≡ nodes
  pub nested : nest tree ≤ 16
  pub fitting : IsTrue (fits tree)

abbrev pub is_well_tree : Option Tree → Bool
is_well_tree None = false
is_well_tree (Some T) = nat_le (nest T) 16 && fits T

-- the same, so that it computes
abbrev pub is_well : List Node → Bool
is_well nodes = is_well_tree (tree_of nodes)
