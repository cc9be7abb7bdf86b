use Rattle.std.proofs.Common.{◌≡◌, ◌∙◌, ap, ◌++◌, List, ℕ, Ok, subst, sym}
use Rattle.psx_exe.specs.declared.header.Header.{Header}
use Rattle.psx_exe.specs.Writing.{IsSmall, header_for, named_bytes, padding, written}
use Rattle.psx_exe.specs.Reading.{read_of}
use Rattle.psx_exe.proofs.Written.{read_of-written}
use Rattle.psx_exe.proofs.exe.Exe.bytes.Goals as goal

pub returns-clause-bytes : goal.returns-clause-bytes
unfolding written
returns-clause-bytes c =
    c.in_ok-extend_from_slice.ensures.items
    ∙ ap (λ (x : List ℕ). x ++ c.as_slice.result.now) c.in_ok-out.ensures.bytes
    ∙ ap (λ (h : Header). named_bytes h ++ padding ++ c.as_slice.result.now) c.header.ensures
    ∙ ap (λ (x : List ℕ). named_bytes (header_for c.args.self.now) ++ padding ++ x) c.as_slice.ensures

pub returns-clause-reads_back : goal.returns-clause-reads_back
returns-clause-reads_back c h =
    subst (λ (x : List ℕ). read_of x ≡ Ok c.args.self.now) (sym (returns-clause-bytes c))
    (read_of-written h.bytes c.args.self.now (subst (λ (k : Header). IsSmall k) c.header.ensures c.bytes.ensures.small) h.read)
