use Rattle.kern_entry.proofs.Joins.{leave_returns, wait_returns, bad_pointer_stops, bad_thread_stops, bad_return_stops, deep_stops}
use Rattle.kern_entry.proofs.law.routines_return.Goals as goal

pub returns : goal.returns
returns c = record { leave = leave_returns; wait = wait_returns; bad_pointer = bad_pointer_stops; bad_thread = bad_thread_stops; bad_return = bad_return_stops; deep = deep_stops }
