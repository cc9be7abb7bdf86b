-- Which operands a mnemonic takes.
use Rattle.std.specs.Prelude.{ℕ, List, codes, bytes_eq, is_some, Option, Some, None, if◌then◌else◌}
use Rattle.psx_asm.specs.declared.shape.Shape.{Shape}
use Rattle.psx_asm.specs.declared.shape.Shape.TheVariants.{Bare, One, Two, Three, Shift, Signed, Unsigned, Upper, Place, Coprocessor, Code, BranchAlways, BranchOne, BranchTwo, Jump, LoadNumber, LoadAddress}
use Rattle.psx_asm.specs.Instructions.{r0, bare, one, two, three, shift, signed, unsigned, upper, place, coprocessor, code, branch_always, branch_one, branch_two, jump}

-- by the tables of the numbers of coprocessor 0, of codes and of targets; none has those of the numbers and addresses that registers get
abbrev pub shape_of_others : List ℕ → Option Shape
shape_of_others w =
    if is_some (coprocessor w r0 r0) then Some Coprocessor else
    if is_some (code w 0) then Some Code else
    if is_some (branch_always w) then Some BranchAlways else
    if is_some (branch_one w r0) then Some BranchOne else
    if is_some (branch_two w r0 r0) then Some BranchTwo else
    if is_some (jump w) then Some Jump else
    if bytes_eq w (codes "li") then Some LoadNumber else
    if bytes_eq w (codes "la") then Some LoadAddress else
    None

-- by the table that has the mnemonic
abbrev pub shape_of : List ℕ → Option Shape
shape_of w =
    if is_some (bare w) then Some Bare else
    if is_some (one w r0) then Some One else
    if is_some (two w r0 r0) then Some Two else
    if is_some (three w r0 r0 r0) then Some Three else
    if is_some (shift w r0 r0 0) then Some Shift else
    if is_some (signed w r0 r0 0) then Some Signed else
    if is_some (unsigned w r0 r0 0) then Some Unsigned else
    if is_some (upper w r0 0) then Some Upper else
    if is_some (place w r0 0 r0) then Some Place else
    shape_of_others w
