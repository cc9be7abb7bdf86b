use Rattle.kern_text.proofs.Texts.{strcmp_tells}
use Rattle.kern_text.proofs.laws.strcmp_answers_0_for_equal_texts_alone.Goals as goal

pub returns : goal.returns
returns c = strcmp_tells
