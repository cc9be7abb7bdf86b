use Rattle.kern_text.proofs.Lengths.{length_is_no_limit}
use Rattle.kern_text.proofs.laws.no_text_is_as_long_as_the_definitions_go_on.Goals as goal

pub returns : goal.returns
returns c = length_is_no_limit
