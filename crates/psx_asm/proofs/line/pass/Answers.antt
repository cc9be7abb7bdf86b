use Rattle.std.proofs.Common.{◌+◌, ◌∷◌, [], ap, sym, ◌∙◌, length-append}
use Rattle.psx_asm.specs.Line.{first_address, known, after, named}
use Rattle.psx_asm.specs.Walking.{shown_line, over, labelled}
use Rattle.psx_asm.proofs.Returned.{always}
use Rattle.psx_asm.proofs.Known.{known-push, address_from-push}
use Rattle.psx_asm.proofs.line.pass.Goals as goal

pub returns-clause-walk : goal.returns-clause-walk
returns-clause-walk c = always c.keep.result (λ before reading stands read.
    let line = shown_line c.args.line in
    record {
      known = λ w. c.in_ok-give.ensures w
          ∙ ap (λ old. over (named line.statement w) (over (labelled c.args.walk.now.at line.label w) old)) (stands.known w)
          ∙ ap (λ at. over (named line.statement w) (over (labelled at line.label w) (known before w))) stands.at
          ∙ known-push before line reading read w;
      at = c.after-walk.ensures ∙ ap (λ at. after at line.statement) stands.at ∙ sym (address_from-push first_address before line);
      number = ap (λ n. n + 1) stands.number ∙ sym (length-append before (line ∷ []));
    })
