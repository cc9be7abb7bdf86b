use Rattle.std.proofs.Common.{◌<◌, ◌^◌, Ok, sym, subst, ◌∙◌, arith}
use Rattle.std.proofs.lemmas.List.Elements.{All-from_get_or}
use Rattle.psx_asm.specs.Assembly.{IsAssemblyOf}
use Rattle.psx_asm.proofs.Whole.{each_text}
use Rattle.psx_dis.specs.Printed.{printed}
use Rattle.psx_dis.specs.Returning.{words_alone}
use Rattle.psx_dis.proofs.ReadLines.{all_read}
use Rattle.psx_dis.proofs.Rounds.{assembles_back}
use Rattle.psx_dis.proofs.law.assembles_back.Goals as goal

pub returns : goal.returns
returns c from to held answer =
    let start = c.args.start in
    let words = c.args.words.now in
    let small = All-from_get_or (λ w. w < 2 ^ 32) words 0 (λ k below. (let fits = c.type_inv.words k in omega arith)) in
    let all = all_read start words c.requires.aligned c.requires.within small in
    let here = assembles_back start words from to (omega arith) c.requires.within all c.requires.short held in
    let one = each_text (printed start words) from to in
    ((λ is. one.2 answer is ∙ sym (one.2 (Ok (words_alone start words)) here)), λ same. subst (IsAssemblyOf (printed start words) from to) (sym same) here)
