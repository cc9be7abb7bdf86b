-- The words of the crate's listings.
use Rattle.std.specs.Prelude.{ℕ, List, [], ◌∷◌}
use Rattle.kern_stay.specs.Words.{listing}
use Rattle.kern_stay.specs.declared.room.TheConstants.{ROOM_NODES}
use Rattle.kern_heap.specs.declared.places.TheConstants.{MALLOC, FREE, CALLOC, REALLOC, INIT_HEAP, ALLOT, RELEASE, FIND, JOIN, ROOM}
use Rattle.kern_heap.specs.declared.a33_malloc.TheConstants as malloc
use Rattle.kern_heap.specs.declared.a34_free.TheConstants as free
use Rattle.kern_heap.specs.declared.a37_calloc.TheConstants as calloc
use Rattle.kern_heap.specs.declared.a38_realloc.TheConstants as realloc
use Rattle.kern_heap.specs.declared.a39_init_heap.TheConstants as init_heap
use Rattle.kern_heap.specs.declared.allot.TheConstants.{ALLOT_NODES}
use Rattle.kern_heap.specs.declared.release.TheConstants.{RELEASE_NODES}
use Rattle.kern_heap.specs.declared.find.TheConstants.{FIND_NODES}
use Rattle.kern_heap.specs.declared.join.TheConstants.{JOIN_NODES}

-- in the order of their addresses
abbrev pub heap_pieces : List (ℕ × List ℕ)
heap_pieces =
    listing MALLOC malloc.NODES
    ∷ listing FREE free.NODES
    ∷ listing CALLOC calloc.NODES
    ∷ listing REALLOC realloc.NODES
    ∷ listing INIT_HEAP init_heap.NODES
    ∷ listing ALLOT ALLOT_NODES
    ∷ listing RELEASE RELEASE_NODES
    ∷ listing FIND FIND_NODES
    ∷ listing JOIN JOIN_NODES
    ∷ listing ROOM ROOM_NODES
    ∷ []
