use Rattle.abs_run.proofs.StepWords.{steps_keep_words}
use Rattle.abs_run.proofs.laws.words_are_kept.Goals as goal

pub returns : goal.returns
returns c = steps_keep_words
