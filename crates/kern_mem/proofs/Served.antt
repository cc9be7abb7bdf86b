-- Each listing stands at its address, and serves its call.
use Rattle.std.proofs.Common.{[], refl, inl}
use Rattle.psx_base.specs.Memory.{Memory, word}
use Rattle.psx_flow.specs.Kernel.{kernel_words}
use Rattle.psx_flow.specs.Reaches.{ArePlaced}
use Rattle.abs_kernel.specs.Memcpy.{memcpy, bcopy}
use Rattle.abs_kernel.specs.Memset.{memset, bzero}
use Rattle.abs_kernel.specs.Memchr.{memchr}
use Rattle.abs_kernel.specs.Rand.{rand}
use Rattle.abs_kernel.specs.Srand.{srand}
use Rattle.abs_kernel.specs.Memcmp.{memcmp}
use Rattle.abs_kernel.specs.Memmove.{memmove}
use Rattle.abs_kernel.specs.Jumps.{setjmp, longjmp}
use Rattle.abs_kernel.specs.FlushCache.{flush_cache}
use Rattle.kern_stay.specs.Words.{Stand}
use Rattle.kern_stay.specs.Doors.{IsServed, most_steps}
use Rattle.kern_stay.specs.Shared.{tree}
use Rattle.kern_stay.specs.declared.room.TheConstants.{ROOM_NODES}
use Rattle.kern_stay.proofs.Standing.{placed_by}
use Rattle.kern_stay.proofs.Serving.{served_by}
use Rattle.kern_mem.specs.declared.places.TheConstants.{MEMSET, MEMCHR, RAND, SRAND, ROOM, MEMCPY, MEMCMP, MEMMOVE, BCOPY, BZERO, SETJMP, LONGJMP, FLUSH_CACHE}
use Rattle.kern_mem.specs.declared.a2b_memset.TheConstants as memset_is
use Rattle.kern_mem.specs.declared.a2e_memchr.TheConstants as memchr_is
use Rattle.kern_mem.specs.declared.a2f_rand.TheConstants as rand_is
use Rattle.kern_mem.specs.declared.a30_srand.TheConstants as srand_is
use Rattle.kern_mem.specs.declared.a2a_memcpy.TheConstants as memcpy_is
use Rattle.kern_mem.specs.declared.a2d_memcmp.TheConstants as memcmp_is
use Rattle.kern_mem.specs.declared.a2c_memmove.TheConstants as memmove_is
use Rattle.kern_mem.specs.declared.a13_setjmp.TheConstants as setjmp_is
use Rattle.kern_mem.specs.declared.a14_longjmp.TheConstants as longjmp_is
use Rattle.kern_mem.specs.declared.a44_flush_cache.TheConstants as flush_cache_is
use Rattle.kern_mem.specs.Own.{own}
use Rattle.kern_mem.specs.MemWords.{mem_pieces}
use Rattle.kern_mem.specs.MemLaws.{MemServes}
use Rattle.kern_mem.proofs.A2aMemcpy as of_memcpy
use Rattle.kern_mem.proofs.A2bMemset as of_memset
use Rattle.kern_mem.proofs.A2eMemchr as of_memchr
use Rattle.kern_mem.proofs.A2fRand as of_rand
use Rattle.kern_mem.proofs.A30Srand as of_srand
use Rattle.kern_mem.proofs.A2dMemcmp as of_memcmp
use Rattle.kern_mem.proofs.A2cMemmove as of_memmove
use Rattle.kern_mem.proofs.A13Setjmp as of_setjmp
use Rattle.kern_mem.proofs.A14Longjmp as of_longjmp
use Rattle.kern_mem.proofs.A44FlushCache as of_flush_cache

own_placed : (m : Memory) → Stand (word m) mem_pieces → ArePlaced kernel_words m own
own_placed m r = (placed_by m ROOM (tree ROOM_NODES) refl refl refl refl (r.1.1.1.1.0), tt)

memcpy_served : (m : Memory) → Stand (word m) mem_pieces → IsServed m most_steps memcpy MEMCPY
memcpy_served m r = served_by m most_steps memcpy MEMCPY own (tree memcpy_is.NODES) refl refl refl refl refl (own_placed m r) (r.1.1.1.1.1.0) of_memcpy.serves

memset_served : (m : Memory) → Stand (word m) mem_pieces → IsServed m most_steps memset MEMSET
memset_served m r = served_by m most_steps memset MEMSET own (tree memset_is.NODES) refl refl refl refl refl (own_placed m r) (r.0) of_memset.serves

memchr_served : (m : Memory) → Stand (word m) mem_pieces → IsServed m most_steps memchr MEMCHR
memchr_served m r = served_by m most_steps memchr MEMCHR own (tree memchr_is.NODES) refl refl refl refl refl (own_placed m r) (r.1.0) of_memchr.serves

rand_served : (m : Memory) → Stand (word m) mem_pieces → IsServed m most_steps rand RAND
rand_served m r = served_by m most_steps rand RAND [] (tree rand_is.NODES) refl refl refl refl refl tt (r.1.1.0) of_rand.serves

srand_served : (m : Memory) → Stand (word m) mem_pieces → IsServed m most_steps srand SRAND
srand_served m r = served_by m most_steps srand SRAND [] (tree srand_is.NODES) refl refl refl refl refl tt (r.1.1.1.0) of_srand.serves

memcmp_served : (m : Memory) → Stand (word m) mem_pieces → IsServed m most_steps memcmp MEMCMP
memcmp_served m r = served_by m most_steps memcmp MEMCMP own (tree memcmp_is.NODES) refl refl refl refl refl (own_placed m r) (r.1.1.1.1.1.1.0) of_memcmp.serves

memmove_served : (m : Memory) → Stand (word m) mem_pieces → IsServed m most_steps memmove MEMMOVE
memmove_served m r = served_by m most_steps memmove MEMMOVE own (tree memmove_is.NODES) refl refl refl refl refl (own_placed m r) (r.1.1.1.1.1.1.1.0) of_memmove.serves

bcopy_served : (m : Memory) → Stand (word m) mem_pieces → IsServed m most_steps bcopy BCOPY
bcopy_served m r = served_by m most_steps bcopy BCOPY own (tree memcpy_is.BCOPY_NODES) refl refl refl refl refl (own_placed m r) (r.1.1.1.1.1.1.1.1.0) of_memcpy.bcopy_serves

bzero_served : (m : Memory) → Stand (word m) mem_pieces → IsServed m most_steps bzero BZERO
bzero_served m r = served_by m most_steps bzero BZERO own (tree memset_is.BZERO_NODES) refl refl refl refl refl (own_placed m r) (r.1.1.1.1.1.1.1.1.1.0) of_memset.bzero_serves

setjmp_served : (m : Memory) → Stand (word m) mem_pieces → IsServed m most_steps setjmp SETJMP
setjmp_served m r = served_by m most_steps setjmp SETJMP [] (tree setjmp_is.NODES) refl refl refl refl refl tt (r.1.1.1.1.1.1.1.1.1.1.0) of_setjmp.serves

longjmp_served : (m : Memory) → Stand (word m) mem_pieces → IsServed m most_steps longjmp LONGJMP
longjmp_served m r = served_by m most_steps longjmp LONGJMP [] (tree longjmp_is.NODES) refl refl refl refl refl tt (r.1.1.1.1.1.1.1.1.1.1.1.0) of_longjmp.serves

flush_cache_served : (m : Memory) → Stand (word m) mem_pieces → IsServed m most_steps flush_cache FLUSH_CACHE
flush_cache_served m r = served_by m most_steps flush_cache FLUSH_CACHE [] (tree flush_cache_is.NODES) refl refl refl refl refl tt (r.1.1.1.1.1.1.1.1.1.1.1.1.0) of_flush_cache.serves

pub mem_serves : MemServes
mem_serves m r = (
  inl (memcpy_served m r),
  (
    inl (memset_served m r),
    (
      inl (memchr_served m r),
      (
        inl (rand_served m r),
        (
          inl (srand_served m r),
          (
            inl (memcmp_served m r),
            (
              inl (memcmp_served m r),
              (
                inl (memmove_served m r),
                (
                  inl (bcopy_served m r),
                  (
                    inl (bzero_served m r),
                    (
                      inl (setjmp_served m r),
                      (
                        inl (longjmp_served m r),
                        (inl (flush_cache_served m r), tt),
                      ),
                    ),
                  ),
                ),
              ),
            ),
          ),
        ),
      ),
    ),
  ),
)
