use Rattle.psxk_run.specs.Told.{told}
use Rattle.psxk_run.proofs.Answering.{is-listed, is-done, is-refused, decides, is-unread, is-unsent, is-memory, is-quiet, in-part}
use Rattle.psxk_run.proofs.Completing.{completes}
use Rattle.psxk_run.proofs.top.psxk.Goals as goal

pub returns-in-Some-clause-listed : goal.returns-in-Some-clause-listed
returns-in-Some-clause-listed g c =
    let h = g.H.Host in
    is-listed h.holds h.sent h.load_faults h.send_faults c.args.host.now c.run_command.new.host (told c.in-Some.request) c.run_command.result c.run_command.ensures.ends

pub returns-in-Some-clause-done : goal.returns-in-Some-clause-done
returns-in-Some-clause-done g c =
    let h = g.H.Host in
    λ d. rw (← c.in-Some.ensures.asked) (is-done h.holds h.sent h.load_faults h.send_faults c.args.host.now c.run_command.new.host c.run_command.result (told c.in-Some.request) c.run_command.ensures.ends d)

pub returns-in-Some-clause-refused : goal.returns-in-Some-clause-refused
returns-in-Some-clause-refused g c =
    let h = g.H.Host in
    λ f. rw (← c.in-Some.ensures.asked) (is-refused h.holds h.sent h.load_faults h.send_faults c.args.host.now c.run_command.new.host (told c.in-Some.request) c.run_command.result c.run_command.ensures.ends f)

pub returns-in-Some-clause-only : goal.returns-in-Some-clause-only
returns-in-Some-clause-only g c =
    let h = g.H.Host in
    rw (← c.in-Some.ensures.asked) (decides h.holds h.sent h.load_faults h.send_faults c.args.host.now c.run_command.new.host c.run_command.result (told c.in-Some.request) c.run_command.ensures.ends)

pub returns-in-Some-clause-read : goal.returns-in-Some-clause-read
returns-in-Some-clause-read g c =
    let h = g.H.Host in
    λ e. rw (← c.in-Some.ensures.asked) (is-unread h.holds h.sent h.load_faults h.send_faults c.args.host.now c.run_command.new.host (told c.in-Some.request) c.run_command.result c.run_command.ensures.ends e)

pub returns-in-Some-clause-write : goal.returns-in-Some-clause-write
returns-in-Some-clause-write g c =
    let h = g.H.Host in
    is-unsent h.holds h.sent h.load_faults h.send_faults c.args.host.now c.run_command.new.host (told c.in-Some.request) c.run_command.result c.run_command.ensures.ends

pub returns-in-Some-clause-report_memory : goal.returns-in-Some-clause-report_memory
returns-in-Some-clause-report_memory g c =
    let h = g.H.Host in
    is-memory h.holds h.sent h.load_faults h.send_faults c.args.host.now c.run_command.new.host (told c.in-Some.request) c.run_command.result c.run_command.ensures.ends

pub returns-in-Some-clause-quiet : goal.returns-in-Some-clause-quiet
returns-in-Some-clause-quiet g c =
    let h = g.H.Host in
    is-quiet h.holds h.sent h.load_faults h.send_faults c.args.host.now c.run_command.new.host (told c.in-Some.request) c.run_command.result c.run_command.ensures.ends

pub returns-in-Some-clause-fronts : goal.returns-in-Some-clause-fronts
returns-in-Some-clause-fronts g c =
    let h = g.H.Host in
    rw (← c.in-Some.ensures.asked) (in-part h.holds h.sent h.load_faults h.send_faults c.args.host.now c.run_command.new.host c.run_command.result (told c.in-Some.request) c.run_command.ensures.ends)

pub returns-in-Some-clause-complete : goal.returns-in-Some-clause-complete
returns-in-Some-clause-complete g c =
    let h = g.H.Host in
    λ u. rw (← c.in-Some.ensures.asked) (completes h.holds h.sent h.load_faults h.send_faults c.args.host.now c.run_command.new.host c.run_command.result (told c.in-Some.request) c.run_command.ensures.ends u)
