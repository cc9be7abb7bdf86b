use Rattle.kern_event.proofs.FramesKept.{move_keeps_frames, frames_stay, frames_are_kept}
use Rattle.kern_event.proofs.delivery_laws.frames_are_kept.Goals as goal

pub returns : goal.returns
returns c = record { moves = move_keeps_frames; stay = frames_stay; taken = frames_are_kept }
