use Rattle.std.proofs.Common.{ap, refl, [], ◌∷◌}
use Rattle.std.specs.Prelude.{nat_eq, if◌then◌else◌}
use Rattle.psx_base.specs.KernelState.{Second, Line}
use Rattle.abs_kernel.specs.Stay.{Touch}
use Rattle.abs_kernel.specs.Callback.{calls_back}
use Rattle.abs_kernel.specs.Tasks.{work}
use Rattle.abs_kernel.specs.WorkEquations.{kept, in_memory}
use Rattle.abs_kernel.proofs.equations.tasks.Goals as goal

pub returns-clause-elements : goal.returns-clause-elements
returns-clause-elements c m h = (
  ap (λ f. Touch 4 (if nat_eq f 0 then work (in_memory m) kept [] 5 0x80010008 else calls_back (in_memory m) kept (Second 0x80011000 ∷ []) f 0 0x80010008)) h.1,
  refl,
  ap (λ f. Touch 4 (if nat_eq f 0 then work (in_memory m) kept [] 5 0x80010008 else calls_back (in_memory m) kept [] f 5 0x80010008)) h.0,
)

pub returns-clause-called : goal.returns-clause-called
returns-clause-called c m h = (
  ap (λ f. Touch 4 (if nat_eq f 0 then work (in_memory m) kept (Line 0 ∷ []) 5 0x80010008 else calls_back (in_memory m) kept (Second 0x80011000 ∷ Line 0 ∷ []) f 0 0x80010008)) h.1,
  ap (λ f. Touch 4 (if nat_eq f 0 then work (in_memory m) kept (Line 0 ∷ []) 5 0x80010008 else calls_back (in_memory m) kept (Line 0 ∷ []) f 5 0x80010008)) h.0,
)
