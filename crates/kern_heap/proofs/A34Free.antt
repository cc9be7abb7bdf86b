-- free meets its stay.
use Rattle.psx_flow.proofs.Kit.{refl, arith, start}
use Rattle.abs_kernel.specs.Answered.{registers_of}
use Rattle.abs_kernel.specs.Heap.{with_freed_block}
use Rattle.abs_kernel.specs.Free.{free}
use Rattle.kern_stay.specs.Shared.{tree}
use Rattle.kern_stay.specs.Doors.{Through, Serves, called_with, begun, most_heap_steps}
use Rattle.kern_stay.proofs.Ending.{through, answers}
use Rattle.kern_heap.specs.Own.{own}
use Rattle.kern_heap.specs.declared.places.TheConstants.{FREE}
use Rattle.kern_heap.specs.declared.a34_free.TheConstants.{NODES}
use Rattle.kern_heap.proofs.OwnCalls.{C, fair_own, releasing}

pub serves : Serves own most_heap_steps free FREE (tree NODES)
serves s d z m h =
    start C fair_own (tree NODES) FREE (λ _. ⊥) (λ to e. Through (free s) most_heap_steps to e) (begun (called_with (registers_of s) d) z m)
    (releasing s h.valid m h.holds _ _ _ _ _ (λ a8 a9 a10 a11 a12 a13 a14 a15 a31 y x u p quiet there few.
    through (free s) most_heap_steps _ _ quiet (answers most_heap_steps (with_freed_block s (registers_of s).r4) _ (free s) refl there (omega (arith, few)))))
