-- The words of the crate's listings.
use Rattle.std.specs.Prelude.{ℕ, List, [], ◌∷◌}
use Rattle.kern_stay.specs.Words.{listing}
use Rattle.kern_stay.specs.declared.room.TheConstants.{ROOM_NODES}
use Rattle.kern_mem.specs.declared.places.TheConstants.{MEMSET, MEMCHR, RAND, SRAND, ROOM, MEMCPY, MEMCMP, MEMMOVE, BCOPY, BZERO, SETJMP, LONGJMP, FLUSH_CACHE}
use Rattle.kern_mem.specs.declared.a2b_memset.TheConstants as memset
use Rattle.kern_mem.specs.declared.a2e_memchr.TheConstants as memchr
use Rattle.kern_mem.specs.declared.a2f_rand.TheConstants as rand
use Rattle.kern_mem.specs.declared.a30_srand.TheConstants as srand
use Rattle.kern_mem.specs.declared.a2a_memcpy.TheConstants as memcpy
use Rattle.kern_mem.specs.declared.a2d_memcmp.TheConstants as memcmp
use Rattle.kern_mem.specs.declared.a2c_memmove.TheConstants as memmove
use Rattle.kern_mem.specs.declared.a13_setjmp.TheConstants as setjmp
use Rattle.kern_mem.specs.declared.a14_longjmp.TheConstants as longjmp
use Rattle.kern_mem.specs.declared.a44_flush_cache.TheConstants as flush_cache

-- in the order of their addresses
abbrev pub mem_pieces : List (ℕ × List ℕ)
mem_pieces =
    listing MEMSET memset.NODES ∷ listing MEMCHR memchr.NODES ∷ listing RAND rand.NODES ∷ listing SRAND srand.NODES ∷ listing ROOM ROOM_NODES ∷ listing MEMCPY memcpy.NODES ∷
    listing MEMCMP memcmp.NODES ∷ listing MEMMOVE memmove.NODES ∷ listing BCOPY memcpy.BCOPY_NODES ∷ listing BZERO memset.BZERO_NODES ∷ listing SETJMP setjmp.NODES ∷
    listing LONGJMP longjmp.NODES ∷ listing FLUSH_CACHE flush_cache.NODES ∷ []
