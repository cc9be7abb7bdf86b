use Rattle.kern_stay.proofs.Copying.{copies_words}
use Rattle.kern_stay.proofs.copy.copy.Goals as goal

pub returns-clause-serves : goal.returns-clause-serves
returns-clause-serves c = copies_words
