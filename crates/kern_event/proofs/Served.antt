-- Each listing stands at its address, and serves its call.
use Rattle.std.proofs.Common.{[], refl, inl}
use Rattle.psx_base.specs.Memory.{Memory, word}
use Rattle.psx_flow.specs.Kernel.{kernel_words}
use Rattle.psx_flow.specs.Reaches.{ArePlaced}
use Rattle.abs_kernel.specs.DeliverEvent.{deliver_event}
use Rattle.abs_kernel.specs.OpenEvent.{open_event}
use Rattle.abs_kernel.specs.CloseEvent.{close_event}
use Rattle.abs_kernel.specs.EnableEvent.{enable_event}
use Rattle.abs_kernel.specs.DisableEvent.{disable_event}
use Rattle.abs_kernel.specs.TestEvent.{test_event}
use Rattle.abs_kernel.specs.WaitEvent.{wait_event}
use Rattle.abs_kernel.specs.UnDeliverEvent.{undeliver_event}
use Rattle.abs_kernel.specs.SysEnqIntRP.{sys_enq_int_rp}
use Rattle.abs_kernel.specs.SysDeqIntRP.{sys_deq_int_rp}
use Rattle.kern_stay.specs.Words.{Stand}
use Rattle.kern_stay.specs.Doors.{IsServed, most_steps}
use Rattle.kern_stay.specs.Shared.{tree}
use Rattle.kern_stay.specs.declared.room.TheConstants.{ROOM_NODES}
use Rattle.kern_stay.proofs.Standing.{placed_by}
use Rattle.kern_stay.proofs.Serving.{served_by}
use Rattle.kern_event.specs.declared.places.TheConstants.{OPEN_EVENT, CLOSE_EVENT, ENABLE_EVENT, DISABLE_EVENT, TEST_EVENT, WAIT_EVENT, UNDELIVER_EVENT, ROOM, SYS_ENQ_INT_RP, SYS_DEQ_INT_RP, DELIVER_EVENT}
use Rattle.kern_event.specs.declared.b07_deliver_event.TheConstants as deliver_is
use Rattle.kern_event.specs.declared.b08_open_event.TheConstants as open_is
use Rattle.kern_event.specs.declared.b09_close_event.TheConstants as close_is
use Rattle.kern_event.specs.declared.b0a_wait_event.TheConstants as wait_is
use Rattle.kern_event.specs.declared.b0b_test_event.TheConstants as test_is
use Rattle.kern_event.specs.declared.b20_undeliver_event.TheConstants as undeliver_is
use Rattle.kern_event.specs.declared.c02_sys_enq_int_rp.TheConstants as enq_is
use Rattle.kern_event.specs.declared.c03_sys_deq_int_rp.TheConstants as deq_is
use Rattle.kern_event.specs.Own.{own}
use Rattle.kern_event.specs.EventWords.{event_pieces}
use Rattle.kern_event.specs.EventLaws.{EventServes}
use Rattle.kern_event.proofs.B07DeliverEvent as of_deliver
use Rattle.kern_event.proofs.B08OpenEvent as of_open
use Rattle.kern_event.proofs.B09CloseEvent as of_close
use Rattle.kern_event.proofs.B0aWaitEvent as of_wait
use Rattle.kern_event.proofs.B0bTestEvent as of_test
use Rattle.kern_event.proofs.B20UndeliverEvent as of_undeliver
use Rattle.kern_event.proofs.C02SysEnqIntRp as of_enq
use Rattle.kern_event.proofs.C03SysDeqIntRp as of_deq

own_placed : (m : Memory) → Stand (word m) event_pieces → ArePlaced kernel_words m own
own_placed m r = (placed_by m ROOM (tree ROOM_NODES) refl refl refl refl (r.1.1.1.1.1.1.1.0), tt)

open_served : (m : Memory) → Stand (word m) event_pieces → IsServed m most_steps open_event OPEN_EVENT
open_served m r = served_by m most_steps open_event OPEN_EVENT [] (tree open_is.NODES) refl refl refl refl refl tt (r.0) of_open.serves

close_served : (m : Memory) → Stand (word m) event_pieces → IsServed m most_steps close_event CLOSE_EVENT
close_served m r = served_by m most_steps close_event CLOSE_EVENT [] (tree close_is.NODES) refl refl refl refl refl tt (r.1.0) of_close.serves

enable_served : (m : Memory) → Stand (word m) event_pieces → IsServed m most_steps enable_event ENABLE_EVENT
enable_served m r = served_by m most_steps enable_event ENABLE_EVENT [] (tree close_is.ENABLE_NODES) refl refl refl refl refl tt (r.1.1.0) of_close.enable_serves

disable_served : (m : Memory) → Stand (word m) event_pieces → IsServed m most_steps disable_event DISABLE_EVENT
disable_served m r = served_by m most_steps disable_event DISABLE_EVENT [] (tree close_is.DISABLE_NODES) refl refl refl refl refl tt (r.1.1.1.0) of_close.disable_serves

test_served : (m : Memory) → Stand (word m) event_pieces → IsServed m most_steps test_event TEST_EVENT
test_served m r = served_by m most_steps test_event TEST_EVENT [] (tree test_is.NODES) refl refl refl refl refl tt (r.1.1.1.1.0) of_test.serves

wait_served : (m : Memory) → Stand (word m) event_pieces → IsServed m most_steps wait_event WAIT_EVENT
wait_served m r = served_by m most_steps wait_event WAIT_EVENT [] (tree wait_is.NODES) refl refl refl refl refl tt (r.1.1.1.1.1.0) of_wait.serves

undeliver_served : (m : Memory) → Stand (word m) event_pieces → IsServed m most_steps undeliver_event UNDELIVER_EVENT
undeliver_served m r = served_by m most_steps undeliver_event UNDELIVER_EVENT [] (tree undeliver_is.NODES) refl refl refl refl refl tt (r.1.1.1.1.1.1.0) of_undeliver.serves

enq_served : (m : Memory) → Stand (word m) event_pieces → IsServed m most_steps sys_enq_int_rp SYS_ENQ_INT_RP
enq_served m r = served_by m most_steps sys_enq_int_rp SYS_ENQ_INT_RP own (tree enq_is.NODES) refl refl refl refl refl (own_placed m r) (r.1.1.1.1.1.1.1.1.0) of_enq.serves

deq_served : (m : Memory) → Stand (word m) event_pieces → IsServed m most_steps sys_deq_int_rp SYS_DEQ_INT_RP
deq_served m r = served_by m most_steps sys_deq_int_rp SYS_DEQ_INT_RP [] (tree deq_is.NODES) refl refl refl refl refl tt (r.1.1.1.1.1.1.1.1.1.0) of_deq.serves

deliver_served : (m : Memory) → Stand (word m) event_pieces → IsServed m most_steps deliver_event DELIVER_EVENT
deliver_served m r = served_by m most_steps deliver_event DELIVER_EVENT [] (tree deliver_is.NODES) refl refl refl refl refl tt (r.1.1.1.1.1.1.1.1.1.1.0) of_deliver.serves

pub event_serves : EventServes
event_serves m r =
    (inl (open_served m r), (inl (close_served m r), (inl (enable_served m r), (inl (disable_served m r), (inl (test_served m r), (inl (wait_served m r), (inl (undeliver_served m r), (inl (enq_served m r), (inl (deq_served m r), (inl (deliver_served m r), tt))))))))))
