use Rattle.std.proofs.Common.{◌∙◌, ap, ◌++◌, List, ℕ, length}
use Rattle.psx_exe.specs.Writing.{padding}
use Rattle.psx_exe.proofs.Written.{padded}
use Rattle.psx_exe.proofs.header.Header.bytes.Goals as goal

pub returns-clause-bytes : goal.returns-clause-bytes
returns-clause-bytes c =
    c.in_ok-resize.ensures.items
    ∙ padded c.in_ok-out.out.items c.in_ok-out.out.len (ap (λ (x : List ℕ). length x) c.in_ok-out.ensures.bytes) c.in_ok-out.ensures.len
    ∙ ap (λ (x : List ℕ). x ++ padding) c.in_ok-out.ensures.bytes
