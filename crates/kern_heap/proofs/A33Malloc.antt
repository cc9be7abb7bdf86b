-- malloc meets its stay.
use Rattle.psx_flow.proofs.Kit.{refl, arith, start}
use Rattle.abs_kernel.specs.Answered.{registers_of}
use Rattle.abs_kernel.specs.Heap.{allocates}
use Rattle.abs_kernel.specs.Malloc.{malloc}
use Rattle.kern_stay.specs.Shared.{tree}
use Rattle.kern_stay.specs.Doors.{Through, Serves, called_with, begun, most_heap_steps}
use Rattle.kern_heap.specs.Own.{own}
use Rattle.kern_heap.specs.declared.places.TheConstants.{MALLOC}
use Rattle.kern_heap.specs.declared.a33_malloc.TheConstants.{NODES}
use Rattle.kern_heap.proofs.OwnCalls.{C, fair_own, allotting, gives_through}

pub serves : Serves own most_heap_steps malloc MALLOC (tree NODES)
serves s d z m h =
    start C fair_own (tree NODES) MALLOC (λ _. ⊥) (λ to e. Through (malloc s) most_heap_steps to e) (begun (called_with (registers_of s) d) z m)
    (allotting s h.valid m h.holds _ _ _ _ _ (h.words 4) (λ a2 a8 a9 a10 a11 a12 a13 a15 y x u p quiet came few.
    gives_through s (allocates s.heap (registers_of s).r4) (malloc s) _ refl quiet came (omega (arith, few))))
