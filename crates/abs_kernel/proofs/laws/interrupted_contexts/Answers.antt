use Rattle.abs_kernel.proofs.Slept.{context_interrupted, entry_takes_up, frame_takes_up, thread_takes_up}
use Rattle.abs_kernel.proofs.laws.interrupted_contexts.Goals as goal

pub returns : goal.returns
returns c = record { context = context_interrupted; entry = entry_takes_up; frame = frame_takes_up; thread = thread_takes_up }
