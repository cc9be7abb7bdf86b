use Rattle.abs_kernel.proofs.Delivered.{last_in_first_out, goes_on_with_last, drops_tasks, eight_frames, taken_up_as_kept, callback_leaves_nothing}
use Rattle.abs_kernel.proofs.laws.callbacks.Goals as goal

pub returns : goal.returns
returns c = record { frames = last_in_first_out; goes_on = goes_on_with_last; drops = drops_tasks; eight = eight_frames; context = taken_up_as_kept; nothing = callback_leaves_nothing }
