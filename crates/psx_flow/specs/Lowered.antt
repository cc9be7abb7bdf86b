-- The words of a listing that stands at an address (R3000A manual, branch and jump instructions, delay slots).
use Rattle.std.specs.Prelude.{ℕ, ◌+◌, ◌-◌, ◌*◌, ◌/◌, ◌%◌, ◌^◌, Bool, true, ◌&&◌, nat_eq, nat_lt, nat_le, List, [], ◌∷◌, ◌++◌, map}
use Rattle.psx_ins.specs.declared.reg.Reg.{Reg}
use Rattle.psx_ins.specs.declared.ins.Ins.{Ins}
use Rattle.psx_ins.specs.declared.ins.Ins.TheVariants.{SLL, BEQ, BNE, BLEZ, BGTZ, BLTZ, BGEZ, J, JAL, JR}
use Rattle.psx_ins.specs.Words.{word}
use Rattle.psx_flow.specs.declared.node.Test.{Test}
use Rattle.psx_flow.specs.declared.node.Test.TheVariants.{Same, Differ, NotAbove, Above, Negative, NotNegative}
use Rattle.psx_flow.specs.Tree.{Tree, Stop, Do, When, Choose, Loop, Visit, Go, GoTo, size}

abbrev pub r0 : Reg
r0 = record { 0 = 0 }

-- what stands in each slot
abbrev pub nop : Ins
nop = SLL r0 r0 0

-- the test that always holds
abbrev pub always : Test
always = Same r0 r0

abbrev pub opposite : Test → Test
opposite (Same a b) = Differ a b
opposite (Differ a b) = Same a b
opposite (NotAbove a) = Above a
opposite (Above a) = NotAbove a
opposite (Negative a) = NotNegative a
opposite (NotNegative a) = Negative a

-- a branch where a test holds, by the words from its slot
abbrev pub branch_by : Test → ℕ → Ins
branch_by (Same a b) imm = BEQ a b imm
branch_by (Differ a b) imm = BNE a b imm
branch_by (NotAbove a) imm = BLEZ a imm
branch_by (Above a) imm = BGTZ a imm
branch_by (Negative a) imm = BLTZ a imm
branch_by (NotNegative a) imm = BGEZ a imm

-- the words from the slot of a branch at an address to another address, as 16 bits with sign
abbrev pub distance : (from to : ℕ) → ℕ
distance from to = (to + 2 ^ 18 - (from + 4)) / 4 % 2 ^ 16

-- a branch at an address to another, where a test holds
abbrev pub branch : Test → (from to : ℕ) → Ins
branch t from to = branch_by t (distance from to)

-- the 26 bits of a jump to an address
abbrev pub target_of : ℕ → ℕ
target_of a = a / 4 % 2 ^ 26

-- the instructions of a listing that stands at an address
abbrev pub code : Tree → ℕ → List Ins
code Stop at = []
code (Do i r) at = i ∷ code r (at + 4)
code (When t a r) at =
    let end = at + (8 + 4 * size a) in
    branch (opposite t) at end ∷ nop ∷ (code a (at + 8) ++ code r end)
code (Choose t a b r) at =
    let over = at + (8 + 4 * size a) in
    let other = at + (16 + 4 * size a) in
    let end = at + (16 + 4 * size a + 4 * size b) in
    branch (opposite t) at other ∷ nop ∷ (code a (at + 8) ++ (branch always over end ∷ nop ∷ (code b other ++ code r end)))
code (Loop t a r) at =
    let back = at + (8 + 4 * size a) in
    let end = at + (16 + 4 * size a) in
    branch (opposite t) at end ∷ nop ∷ (code a (at + 8) ++ (branch always back at ∷ nop ∷ code r end))
code (Visit a r) at = JAL (target_of a) ∷ nop ∷ code r (at + 8)
code (Go a r) at = J (target_of a) ∷ nop ∷ code r (at + 8)
code (GoTo n r) at = JR n ∷ nop ∷ code r (at + 8)

-- its words
abbrev pub lowered : Tree → ℕ → List ℕ
lowered T at = map word (code T at)

-- a branch at an address can go to another: it lies from 2^15 words before the branch's slot to 2^15 - 1 words behind it
abbrev pub in_reach : (from to : ℕ) → Bool
in_reach from to = nat_le (from + 4) (to + 2 ^ 17) && nat_lt to (from + 4 + 2 ^ 17)

-- a jump at an address can go to another: a word's in the 256 MB of the jump's slot
abbrev pub in_region : (from to : ℕ) → Bool
in_region from to = nat_eq (to % 4) 0 && nat_eq (to / 2 ^ 28) ((from + 4) % 2 ^ 32 / 2 ^ 28)

-- all branches, calls and jumps of a listing that stands at an address can go where they go
abbrev pub reaches : Tree → ℕ → Bool
reaches Stop at = true
reaches (Do i r) at = reaches r (at + 4)
reaches (When t a r) at =
    let end = at + (8 + 4 * size a) in
    in_reach at end && (reaches a (at + 8) && reaches r end)
reaches (Choose t a b r) at =
    let over = at + (8 + 4 * size a) in
    let other = at + (16 + 4 * size a) in
    let end = at + (16 + 4 * size a + 4 * size b) in
    (in_reach at other && in_reach over end) && (reaches a (at + 8) && (reaches b other && reaches r end))
reaches (Loop t a r) at =
    let back = at + (8 + 4 * size a) in
    let end = at + (16 + 4 * size a) in
    (in_reach at end && in_reach back at) && (reaches a (at + 8) && reaches r end)
reaches (Visit a r) at = in_region at a && reaches r (at + 8)
reaches (Go a r) at = in_region at a && reaches r (at + 8)
reaches (GoTo n r) at = reaches r (at + 8)
