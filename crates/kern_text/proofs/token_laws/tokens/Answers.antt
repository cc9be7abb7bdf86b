use Rattle.kern_text.proofs.Tokens.{tokens_are_runs}
use Rattle.kern_text.proofs.token_laws.tokens.Goals as goal

pub returns : goal.returns
returns c = tokens_are_runs
