-- The listings of frames stand where they run, and make what is left at their doors.
use Rattle.std.proofs.Common.{refl}
use Rattle.kern_stay.specs.Shared.{tree}
use Rattle.kern_stay.proofs.Serving.{not_zero}
use Rattle.kern_entry.specs.declared.back.TheConstants.{BACK_NODES}
use Rattle.kern_entry.specs.declared.push.TheConstants.{PUSH_NODES}
use Rattle.kern_entry.specs.declared.take_up.TheConstants.{TAKE_UP_NODES}
use Rattle.kern_entry.specs.declared.places.TheConstants.{BACK}
use Rattle.kern_entry.specs.FramesOwn.{frames_own}
use Rattle.kern_entry.specs.WorkLaws.{PushServes, TakeUpServes, BackServes}
use Rattle.kern_entry.proofs.Placed.{all_placed}
use Rattle.kern_entry.proofs.Pushing as of_push
use Rattle.kern_entry.proofs.TakingUp as of_take_up
use Rattle.kern_entry.proofs.GoingBack as of_back

pub push_serves : PushServes
push_serves m h = let p = all_placed m h in record { own = frames_own; own_placed = p.copies; listing = tree PUSH_NODES; placed = p.push; makes = of_push.makes }

pub take_up_serves : TakeUpServes
take_up_serves m h = let p = all_placed m h in record { own = frames_own; own_placed = p.copies; listing = tree TAKE_UP_NODES; placed = p.take_up; makes = of_take_up.makes }

pub back_serves : BackServes
back_serves m h = let p = all_placed m h in record { there = λ e. not_zero BACK refl e; own = frames_own; own_placed = p.copies; listing = tree BACK_NODES; placed = p.back; serves = of_back.serves }
