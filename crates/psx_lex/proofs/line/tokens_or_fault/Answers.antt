use Rattle.psx_lex.proofs.EachLine.{has_one_answer}
use Rattle.psx_lex.proofs.line.tokens_or_fault.Goals as goal

pub returns : goal.returns
returns c = has_one_answer c.args.line.now
