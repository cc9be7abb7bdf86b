use Rattle.std.proofs.Common.{ap, [], ◌∷◌, List}
use Rattle.std.specs.Prelude.{nat_eq, if◌then◌else◌}
use Rattle.psx_base.specs.KernelState.{Task, Element, Second, Line, KernelState}
use Rattle.abs_kernel.specs.Callback.{calls_back}
use Rattle.abs_kernel.specs.Tasks.{work}
use Rattle.abs_kernel.specs.Interrupt.{interrupted}
use Rattle.abs_kernel.specs.KernelStep.{settled_state, stay_of}
use Rattle.abs_kernel.specs.Played.{Asked, after, played}
use Rattle.abs_kernel.specs.InterruptEquations.{with_chains}
use Rattle.abs_kernel.proofs.equations.interrupts.Goals as goal

pub returns-clause-element : goal.returns-clause-element
unfolding stay_of
returns-clause-element c m h =
    let s : KernelState = interrupted (settled_state (with_chains m)) in
    let ts : List Task = Element 0x80011030 ∷ Element 0x80011020 ∷ Element 0x80011010 ∷ Line 0 ∷ Line 6 ∷ [] in
    ap (λ f. after (Asked 0x1F801070 0x41) (after (Asked 0x1F801074 0x41) (played (if nat_eq f 0 then work s s.running ts 0 0x80010000 else calls_back s s.running (Second 0x80011000 ∷ ts) f 0 0x80010000) []))) h.1
