use Rattle.std.proofs.Common.{sym, ◌∙◌, ap}
use Rattle.psx_ins.specs.Decoding.{instruction_of}
use Rattle.psx_ins.proofs.Decodes.{decodes, no_word}
use Rattle.psx_ins.proofs.decode.Goals as goal

pub returns-clause-none : goal.returns-clause-none
returns-clause-none c none i fits is = no_word _ (sym c.by_fields.ensures.value ∙ none) i fits is

pub returns-clause-exact : goal.returns-clause-exact
returns-clause-exact c i fits is = c.by_fields.ensures.value ∙ ap instruction_of (sym is) ∙ decodes i fits
