-- The words of the crate's listings.
use Rattle.std.specs.Prelude.{ℕ, List, [], ◌∷◌}
use Rattle.kern_stay.specs.Words.{listing}
use Rattle.kern_stay.specs.declared.copy_half.TheConstants.{COPY_HALF_NODES}
use Rattle.kern_thread.specs.declared.places.TheConstants.{CHANGE_THREAD, COPY_HALF, CLOSE_THREAD, OPEN_THREAD, RETURN_FROM_EXCEPTION}
use Rattle.kern_thread.specs.declared.b10_change_thread.TheConstants as change_thread
use Rattle.kern_thread.specs.declared.b0f_close_thread.TheConstants as close_thread
use Rattle.kern_thread.specs.declared.b0e_open_thread.TheConstants as open_thread
use Rattle.kern_thread.specs.declared.b17_return_from_exception.TheConstants as return_from_exception

-- in the order of their addresses
abbrev pub thread_pieces : List (ℕ × List ℕ)
thread_pieces =
    listing CHANGE_THREAD change_thread.NODES ∷ listing COPY_HALF COPY_HALF_NODES ∷ listing CLOSE_THREAD close_thread.NODES ∷ listing OPEN_THREAD open_thread.NODES
    ∷ listing RETURN_FROM_EXCEPTION return_from_exception.NODES ∷ []
