-- The listings of tasks, of a delivery and of an interrupt stand where they run, and make what is left.
use Rattle.std.proofs.Common.{[], refl}
use Rattle.kern_stay.specs.Shared.{tree}
use Rattle.kern_stay.proofs.Serving.{not_zero}
use Rattle.kern_entry.specs.declared.work.TheConstants.{WORK_NODES}
use Rattle.kern_entry.specs.declared.deliver.TheConstants.{DELIVER_NODES}
use Rattle.kern_entry.specs.declared.places.TheConstants.{DELIVER}
use Rattle.kern_entry.specs.WorkOwn.{work_own}
use Rattle.kern_entry.specs.declared.interrupts.TheConstants.{INTERRUPTS_NODES}
use Rattle.kern_entry.specs.FramesOwn.{frames_own}
use Rattle.kern_entry.specs.WorkLaws.{WorkServes, DeliverServes, InterruptServes, BegunWorkServes}
use Rattle.kern_entry.proofs.Placed.{all_placed}
use Rattle.kern_entry.proofs.TasksDone as of_work
use Rattle.kern_entry.proofs.Delivers as of_delivery
use Rattle.kern_entry.proofs.Interrupting as of_interrupt

pub work_serves : WorkServes
work_serves m h = let p = all_placed m h in record { own = work_own; own_placed = p.work_calls; listing = tree WORK_NODES; placed = p.work; makes = of_work.makes }

pub deliver_serves : DeliverServes
deliver_serves m h = let p = all_placed m h in record { there = λ e. not_zero DELIVER refl e; own = []; own_placed = tt; listing = tree DELIVER_NODES; placed = p.deliver; serves = of_delivery.serves }

pub interrupt_serves : InterruptServes
interrupt_serves m h = let p = all_placed m h in record { own = frames_own; own_placed = p.copies; listing = tree INTERRUPTS_NODES; placed = p.interrupts; serves = of_interrupt.serves }

pub begun_work_serves : BegunWorkServes
begun_work_serves m h = let p = all_placed m h in record { own = work_own; own_placed = p.work_calls; listing = tree WORK_NODES; placed = p.work; makes = of_work.begun_makes }
