-- What the listings of frames call, and the blocks that they copy.
use Rattle.std.proofs.Common.{◌≡◌, ℕ, ◌<◌, inl, inr, [], ◌∷◌, ◌++◌, refl, arith}
use Rattle.psx_flow.specs.Run.{Run}
use Rattle.psx_flow.specs.Told.{ports}
use Rattle.psx_flow.specs.Kernel.{kernel_words}
use Rattle.psx_flow.specs.Meets.{calls}
use Rattle.kern_layout.specs.Reads.{frame_at}
use Rattle.abs_kernel.specs.Stay.{Stay}
use Rattle.kern_stay.specs.Shared.{tree, tested_there}
use Rattle.kern_stay.specs.Doors.{Ends, ThroughTo, Nowhere}
use Rattle.kern_stay.specs.declared.copy.TheConstants.{COPY_NODES}
use Rattle.kern_stay.specs.declared.copy_half.TheConstants.{COPY_HALF_NODES}
use Rattle.kern_stay.proofs.Copying.{KnowsCopy, knows_copy, knows_copy_behind}
use Rattle.kern_stay.proofs.CopyingHalf.{KnowsHalf, knows_half}
use Rattle.kern_stay.proofs.FramesMoved.{FrameBlocks}
use Rattle.kern_entry.specs.declared.places.TheConstants.{COPY, COPY_HALF}
use Rattle.kern_entry.specs.FramesOwn.{frames_own}

pub frames_half : KnowsHalf COPY_HALF (calls kernel_words (frames_own ++ tested_there))
frames_half = knows_half COPY_HALF ((COPY, tree COPY_NODES) ∷ tested_there)

pub frames_copy : KnowsCopy COPY (calls kernel_words (frames_own ++ tested_there))
frames_copy = knows_copy_behind COPY (COPY_HALF, tree COPY_HALF_NODES) ((COPY, tree COPY_NODES) ∷ tested_there) refl (knows_copy COPY tested_there)

-- the work area and a frame, and the other way
pub to_frame : (n : ℕ) → n < 8 → FrameBlocks 0xEB00 (frame_at n)
to_frame n few = record { even = (refl, omega arith); low = (omega arith, omega arith); high = (omega arith, omega (arith, few)); apart = inr (omega (arith, few)) }

pub from_frame : (n : ℕ) → n < 8 → FrameBlocks (frame_at n) 0xEB00
from_frame n few = record { even = (omega arith, refl); low = (omega arith, omega arith); high = (omega (arith, few), omega arith); apart = inl (omega (arith, few)) }

-- an end, where no port is accessed and no further door is come to
pub ends_at : (rest : Stay) (most to : ℕ) (e : Run) → ports e.seen ≡ [] → Ends 128 rest most to e → ThroughTo Nowhere rest most to e
ends_at rest most to e q h = record { told = []; ports = q; follows = tt; ends = inl h }
