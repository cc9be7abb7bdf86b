use Rattle.std.proofs.Common.{refl}
use Rattle.abs_kernel.specs.declared.calls.TheConstants.{ROWS}
use Rattle.abs_kernel.proofs.OfCalls.{of_calls, one_each}
use Rattle.abs_kernel.proofs.calls.rows.Goals as goal

pub returns-clause-of_calls : goal.returns-clause-of_calls
returns-clause-of_calls c = of_calls ROWS refl

pub returns-clause-one_each : goal.returns-clause-one_each
returns-clause-one_each c = one_each ROWS refl
