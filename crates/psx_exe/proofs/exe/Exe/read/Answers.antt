use Rattle.std.proofs.Common.{arith, ◌≡◌, ◌≤◌, ◌+◌, length, Some, sym, ap, ◌∙◌, rules}
use Rattle.psx_exe.specs.declared.header.Header.{Header}
use Rattle.psx_exe.specs.declared.fault.ExeError.{ExeError}
use Rattle.psx_exe.specs.declared.fault.ExeError.TheVariants.{Memory}
use Rattle.psx_exe.specs.Reading.{read_of}
use Rattle.psx_exe.proofs.Accepted.{accepted, not_memory}
use Rattle.psx_exe.proofs.exe.Exe.read.Goals as goal

pub of-header-requires : goal.of-header-requires
of-header-requires c =
    let h = accepted c.args.bytes.now (sym c.fault.ensures ∙ c.in_default.is) in
    omega (arith, h.header)

pub slice_bounds-from_slice-end : goal.slice_bounds-from_slice-end
slice_bounds-from_slice-end c =
    let h = accepted c.args.bytes.now (sym c.fault.ensures ∙ c.in_default.is) in
    let same = ap (λ (h : Header). h.size) c.of-header.ensures in
    let whole : 0x800 + c.of-header.result.size ≤ length c.args.bytes.now = omega (arith, h.sound.whole, same) in
    search rules

pub returns-in-Ok-clause-readable : goal.returns-in-Ok-clause-readable
unfolding read_of
returns-in-Ok-clause-readable c = record { bytes = c.args.bytes.now; read = search rules }

pub returns-in-Some-clause-memory : goal.returns-in-Some-clause-memory
returns-in-Some-clause-memory c h =
    let is : c.in-Some.fault ≡ Memory = search rules in
    absurd (not_memory c.args.bytes.now (sym c.fault.ensures ∙ c.in-Some.is ∙ ap (λ (e : ExeError). Some e) is))
