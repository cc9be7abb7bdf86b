-- The words of the crate's listings.
use Rattle.std.specs.Prelude.{ℕ, List, [], ◌∷◌}
use Rattle.kern_stay.specs.Words.{listing}
use Rattle.kern_stay.specs.declared.room.TheConstants.{ROOM_NODES}
use Rattle.kern_event.specs.declared.places.TheConstants.{OPEN_EVENT, CLOSE_EVENT, ENABLE_EVENT, DISABLE_EVENT, TEST_EVENT, WAIT_EVENT, UNDELIVER_EVENT, ROOM, SYS_ENQ_INT_RP, SYS_DEQ_INT_RP, DELIVER_EVENT}
use Rattle.kern_event.specs.declared.b07_deliver_event.TheConstants as deliver_event
use Rattle.kern_event.specs.declared.b08_open_event.TheConstants as open_event
use Rattle.kern_event.specs.declared.b09_close_event.TheConstants as close_event
use Rattle.kern_event.specs.declared.b0a_wait_event.TheConstants as wait_event
use Rattle.kern_event.specs.declared.b0b_test_event.TheConstants as test_event
use Rattle.kern_event.specs.declared.b20_undeliver_event.TheConstants as undeliver_event
use Rattle.kern_event.specs.declared.c02_sys_enq_int_rp.TheConstants as sys_enq_int_rp
use Rattle.kern_event.specs.declared.c03_sys_deq_int_rp.TheConstants as sys_deq_int_rp

-- in the order of their addresses
abbrev pub event_pieces : List (ℕ × List ℕ)
event_pieces =
    listing OPEN_EVENT open_event.NODES
    ∷ listing CLOSE_EVENT close_event.NODES
    ∷ listing ENABLE_EVENT close_event.ENABLE_NODES
    ∷ listing DISABLE_EVENT close_event.DISABLE_NODES
    ∷ listing TEST_EVENT test_event.NODES
    ∷ listing WAIT_EVENT wait_event.NODES
    ∷ listing UNDELIVER_EVENT undeliver_event.NODES
    ∷ listing ROOM ROOM_NODES
    ∷ listing SYS_ENQ_INT_RP sys_enq_int_rp.NODES
    ∷ listing SYS_DEQ_INT_RP sys_deq_int_rp.NODES
    ∷ listing DELIVER_EVENT deliver_event.NODES
    ∷ []
