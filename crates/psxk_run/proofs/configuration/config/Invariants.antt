use Rattle.std.proofs.Common.{length}
use Rattle.psxk_run.proofs.ConfigProgress.{Progress}
use Rattle.psxk_run.proofs.configuration.config.Given as goal

abbrev pub invariant-loop-setting : goal.invariant-loop-setting
invariant-loop-setting l = Progress l.text l.rest l.kept l.line

abbrev pub decreases-loop-setting : goal.decreases-loop-setting
decreases-loop-setting l = length l.rest
