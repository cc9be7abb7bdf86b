use Rattle.kern_event.proofs.EventsReached.{scan_reaches, line_reaches, deliver_event_reaches_all, syscall_reaches_all}
use Rattle.kern_event.proofs.EventsOnce.{each_once}
use Rattle.kern_event.proofs.DeliveryEvaluated.{delivers_in_two_stays}
use Rattle.kern_event.proofs.delivery_laws.deliveries_reach_all.Goals as goal

pub returns : goal.returns
returns c = record { scan = scan_reaches; line = line_reaches; call = deliver_event_reaches_all; syscall = syscall_reaches_all; once = each_once; example = delivers_in_two_stays }
