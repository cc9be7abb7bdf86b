use Rattle.std.proofs.Common.{w8}
use Rattle.std.proofs.Math.Facts.{Fits-lt-pow}
use Rattle.std.proofs.lemmas.Grind.{get_or_default_zero}
use Rattle.psxk_run.proofs.inputs.are_bytes.Goals as goal

pub returns : goal.returns
returns c = λ k d low. rw (get_or_default_zero c.args.text.now k d low) (Fits-lt-pow {w = w8} (c.type_inv.text k))
