use Rattle.std.proofs.Common.{◌≡◌, ◌<◌, ◌≤◌, ◌^◌, length, Result, Ok, Err, IfOk, arith}
use Rattle.psx_base.specs.declared.stop.Memory.{Memory}
use Rattle.psx_exe.specs.declared.exe.Exe.{Exe}
use Rattle.psx_asm.specs.Placing.{bytes_of_parts}
use Rattle.psxk_run.specs.Assembling.{lowest, highest, window_from, window_to}
use Rattle.psxk_run.proofs.PlacedBytes.{highest-below, lowest-above, program-none, program-some, spanned-small}
use Rattle.psxk_run.proofs.assembling.program_of.Goals as goal

pub returns-then-span-clause-program : goal.returns-then-span-clause-program
returns-then-span-clause-program c =
    let bytes = bytes_of_parts c.args.object.now.parts in
    let low = rw c.as_slice.ensures at c.span_of-span.ensures.low in
    let high = rw c.as_slice.ensures at c.span_of-span.ensures.high in
    let less : highest window_from bytes < lowest window_to bytes = rw (← low, ← high) c.if-span.true in
    rw (program-none c.args.object.now.start bytes less) c.program.ensures

pub returns-clause-program : goal.returns-clause-program
returns-clause-program c =
    let bytes = bytes_of_parts c.args.object.now.parts in
    let low = rw c.as_slice.ensures at c.span_of-span.ensures.low in
    let high = rw c.as_slice.ensures at c.span_of-span.ensures.high in
    let some : lowest window_to bytes ≤ highest window_from bytes = rw (← low, ← high) c.if-span.false in
    rw (program-some c.args.object.now.start bytes some, ← low, ← high) c.spanned.ensures

-- a program that is this one has as few bytes
small-from : (r : Result Exe Memory) (e : Exe) → length e.text < 2 ^ 31 → IfOk r (λ x. x ≡ e) → IfOk r (λ x. length x.text < 2 ^ 31)
small-from (Ok x) e small is = rw is small
small-from (Err m) e small is = tt

pub returns-clause-small : goal.returns-clause-small
returns-clause-small c =
    let bytes = bytes_of_parts c.args.object.now.parts in
    let low = rw c.as_slice.ensures at c.span_of-span.ensures.low in
    let high = rw c.as_slice.ensures at c.span_of-span.ensures.high in
    let above : window_from ≤ c.span_of-span.result.low = rw low (lowest-above window_to window_from bytes (omega arith) (λ k d less. (c.requires k d less).0)) in
    let below : c.span_of-span.result.high ≤ window_to = rw high (highest-below window_from window_to bytes (omega arith) (λ k d less. (c.requires k d less).1)) in
    small-from c.spanned.result _ (spanned-small c.args.object.now.start bytes c.span_of-span.result.low c.span_of-span.result.high above below) c.spanned.ensures
