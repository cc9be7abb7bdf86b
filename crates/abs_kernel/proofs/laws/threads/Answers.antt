use Rattle.abs_kernel.proofs.Switched.{one_handle, bad_handle_stops, opens_lowest, used_stay, changes_back}
use Rattle.abs_kernel.proofs.laws.threads.Goals as goal

pub returns : goal.returns
returns c = record { handle = one_handle; bad = bad_handle_stops; opens = opens_lowest; used = used_stay; back = changes_back }
