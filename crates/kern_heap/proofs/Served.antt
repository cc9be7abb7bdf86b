-- Each listing stands at its address, and serves its call.
use Rattle.std.proofs.Common.{inl, refl}
use Rattle.psx_base.specs.Memory.{Memory, word}
use Rattle.psx_flow.specs.Kernel.{kernel_words}
use Rattle.psx_flow.specs.Reaches.{ArePlaced}
use Rattle.abs_kernel.specs.Malloc.{malloc}
use Rattle.abs_kernel.specs.Free.{free}
use Rattle.abs_kernel.specs.Calloc.{calloc}
use Rattle.abs_kernel.specs.Realloc.{realloc}
use Rattle.abs_kernel.specs.InitHeap.{init_heap}
use Rattle.kern_stay.specs.Words.{Stand}
use Rattle.kern_stay.specs.Doors.{IsServed, most_heap_steps}
use Rattle.kern_stay.specs.Shared.{tree}
use Rattle.kern_stay.specs.declared.room.TheConstants.{ROOM_NODES}
use Rattle.kern_stay.proofs.Standing.{placed_by}
use Rattle.kern_stay.proofs.Serving.{served_by}
use Rattle.kern_heap.specs.Own.{own}
use Rattle.kern_heap.specs.HeapWords.{heap_pieces}
use Rattle.kern_heap.specs.HeapLaws.{HeapServes}
use Rattle.kern_heap.specs.declared.places.TheConstants.{MALLOC, FREE, CALLOC, REALLOC, INIT_HEAP, ALLOT, RELEASE, FIND, JOIN, ROOM}
use Rattle.kern_heap.specs.declared.a33_malloc.TheConstants as malloc_is
use Rattle.kern_heap.specs.declared.a34_free.TheConstants as free_is
use Rattle.kern_heap.specs.declared.a37_calloc.TheConstants as calloc_is
use Rattle.kern_heap.specs.declared.a38_realloc.TheConstants as realloc_is
use Rattle.kern_heap.specs.declared.a39_init_heap.TheConstants as init_heap_is
use Rattle.kern_heap.specs.declared.allot.TheConstants.{ALLOT_NODES}
use Rattle.kern_heap.specs.declared.release.TheConstants.{RELEASE_NODES}
use Rattle.kern_heap.specs.declared.find.TheConstants.{FIND_NODES}
use Rattle.kern_heap.specs.declared.join.TheConstants.{JOIN_NODES}
use Rattle.kern_heap.proofs.A33Malloc as of_malloc
use Rattle.kern_heap.proofs.A34Free as of_free
use Rattle.kern_heap.proofs.A37Calloc as of_calloc
use Rattle.kern_heap.proofs.A38Realloc as of_realloc
use Rattle.kern_heap.proofs.A39InitHeap as of_init_heap

own_placed : (m : Memory) → Stand (word m) heap_pieces → ArePlaced kernel_words m own
own_placed m r = (
  placed_by m ROOM (tree ROOM_NODES) refl refl refl refl (r.1.1.1.1.1.1.1.1.1.0),
  (
    placed_by m ALLOT (tree ALLOT_NODES) refl refl refl refl (r.1.1.1.1.1.0),
    (
      placed_by m RELEASE (tree RELEASE_NODES) refl refl refl refl (r.1.1.1.1.1.1.0),
      (
        placed_by m FIND (tree FIND_NODES) refl refl refl refl (r.1.1.1.1.1.1.1.0),
        (placed_by m JOIN (tree JOIN_NODES) refl refl refl refl (r.1.1.1.1.1.1.1.1.0), tt),
      ),
    ),
  ),
)

malloc_served : (m : Memory) → Stand (word m) heap_pieces → IsServed m most_heap_steps malloc MALLOC
malloc_served m r = served_by m most_heap_steps malloc MALLOC own (tree malloc_is.NODES) refl refl refl refl refl (own_placed m r) (r.0) of_malloc.serves

free_served : (m : Memory) → Stand (word m) heap_pieces → IsServed m most_heap_steps free FREE
free_served m r = served_by m most_heap_steps free FREE own (tree free_is.NODES) refl refl refl refl refl (own_placed m r) (r.1.0) of_free.serves

calloc_served : (m : Memory) → Stand (word m) heap_pieces → IsServed m most_heap_steps calloc CALLOC
calloc_served m r = served_by m most_heap_steps calloc CALLOC own (tree calloc_is.NODES) refl refl refl refl refl (own_placed m r) (r.1.1.0) of_calloc.serves

realloc_served : (m : Memory) → Stand (word m) heap_pieces → IsServed m most_heap_steps realloc REALLOC
realloc_served m r = served_by m most_heap_steps realloc REALLOC own (tree realloc_is.NODES) refl refl refl refl refl (own_placed m r) (r.1.1.1.0) of_realloc.serves

init_heap_served : (m : Memory) → Stand (word m) heap_pieces → IsServed m most_heap_steps init_heap INIT_HEAP
init_heap_served m r = served_by m most_heap_steps init_heap INIT_HEAP own (tree init_heap_is.NODES) refl refl refl refl refl (own_placed m r) (r.1.1.1.1.0) of_init_heap.serves

pub heap_serves : HeapServes
heap_serves m r = (inl (malloc_served m r), (inl (free_served m r), (inl (calloc_served m r), (inl (realloc_served m r), (inl (init_heap_served m r), tt)))))
