use Rattle.std.proofs.Common.{◌++◌, refl, sym, ap, ◌∙◌, append_assoc}
use Rattle.psx_asm.specs.Placing.{addressed, bytes_of_parts}
use Rattle.psx_asm.proofs.Addresses.{addressed-append}
use Rattle.psx_asm.proofs.place.Output.with.Goals as goal

pub returns-then-goes_on_at : goal.returns-then-goes_on_at
returns-then-goes_on_at c =
    let before = bytes_of_parts c.args.self.parts.items in
    let here = addressed c.args.self.at c.args.self.bytes.items in
    ap (λ l. before ++ addressed c.args.self.at l) (c.in_ok-extend_from_slice.ensures.items ∙ ap (λ l. c.args.self.bytes.items ++ l) c.as_slice.ensures.value)
    ∙ ap (λ l. before ++ l) (addressed-append c.args.self.at c.args.self.bytes.items c.args.more.items c.goes_on_at.ensures.small
    ∙ ap (λ n. here ++ addressed n c.args.more.items) (sym (c.if-goes_on_at.ensures.behind refl)))
    ∙ sym (append_assoc before here (addressed c.args.at c.args.more.items))
