-- Each listing stands at its address, and serves its call.
use Rattle.std.proofs.Common.{[], refl, inl}
use Rattle.psx_base.specs.Memory.{Memory, word}
use Rattle.psx_flow.specs.Kernel.{kernel_words}
use Rattle.psx_flow.specs.Reaches.{ArePlaced}
use Rattle.abs_kernel.specs.OpenThread.{open_thread}
use Rattle.abs_kernel.specs.CloseThread.{close_thread}
use Rattle.abs_kernel.specs.ChangeThread.{change_thread}
use Rattle.abs_kernel.specs.Returning.{return_from_exception}
use Rattle.kern_stay.specs.Words.{Stand}
use Rattle.kern_stay.specs.Doors.{IsServed, most_steps}
use Rattle.kern_stay.specs.Shared.{tree}
use Rattle.kern_stay.specs.declared.copy_half.TheConstants.{COPY_HALF_NODES}
use Rattle.kern_stay.proofs.Standing.{placed_by}
use Rattle.kern_stay.proofs.Serving.{served_by}
use Rattle.kern_thread.specs.declared.places.TheConstants.{CHANGE_THREAD, COPY_HALF, CLOSE_THREAD, OPEN_THREAD, RETURN_FROM_EXCEPTION}
use Rattle.kern_thread.specs.declared.b10_change_thread.TheConstants as change_thread_is
use Rattle.kern_thread.specs.declared.b0f_close_thread.TheConstants as close_thread_is
use Rattle.kern_thread.specs.declared.b0e_open_thread.TheConstants as open_thread_is
use Rattle.kern_thread.specs.declared.b17_return_from_exception.TheConstants as return_from_exception_is
use Rattle.kern_thread.specs.Own.{own}
use Rattle.kern_thread.specs.ThreadWords.{thread_pieces}
use Rattle.kern_thread.specs.ThreadLaws.{ThreadServes}
use Rattle.kern_thread.proofs.B10ChangeThread as of_change_thread
use Rattle.kern_thread.proofs.B0fCloseThread as of_close_thread
use Rattle.kern_thread.proofs.B0eOpenThread as of_open_thread
use Rattle.kern_thread.proofs.B17ReturnFromException as of_return_from_exception

own_placed : (m : Memory) → Stand (word m) thread_pieces → ArePlaced kernel_words m own
own_placed m r = (placed_by m COPY_HALF (tree COPY_HALF_NODES) refl refl refl refl (r.1.0), tt)

change_thread_served : (m : Memory) → Stand (word m) thread_pieces → IsServed m most_steps change_thread CHANGE_THREAD
change_thread_served m r = served_by m most_steps change_thread CHANGE_THREAD own (tree change_thread_is.NODES) refl refl refl refl refl (own_placed m r) (r.0) of_change_thread.serves

close_thread_served : (m : Memory) → Stand (word m) thread_pieces → IsServed m most_steps close_thread CLOSE_THREAD
close_thread_served m r = served_by m most_steps close_thread CLOSE_THREAD [] (tree close_thread_is.NODES) refl refl refl refl refl tt (r.1.1.0) of_close_thread.serves

open_thread_served : (m : Memory) → Stand (word m) thread_pieces → IsServed m most_steps open_thread OPEN_THREAD
open_thread_served m r = served_by m most_steps open_thread OPEN_THREAD [] (tree open_thread_is.NODES) refl refl refl refl refl tt (r.1.1.1.0) of_open_thread.serves

return_from_exception_served : (m : Memory) → Stand (word m) thread_pieces → IsServed m most_steps return_from_exception RETURN_FROM_EXCEPTION
return_from_exception_served m r =
    served_by m most_steps return_from_exception RETURN_FROM_EXCEPTION own (tree return_from_exception_is.NODES) refl refl refl refl refl (own_placed m r) (r.1.1.1.1.0) of_return_from_exception.serves

pub thread_serves : ThreadServes
thread_serves m r = (inl (change_thread_served m r), (inl (close_thread_served m r), (inl (open_thread_served m r), (inl (return_from_exception_served m r), tt))))
