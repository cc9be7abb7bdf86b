use Rattle.kern_layout.proofs.Copied.{context_copied, tasks_copied, frame_copied}
use Rattle.kern_layout.proofs.laws.copies.Goals as goal

pub returns : goal.returns
returns c = record {
  context = context_copied;
  tasks = tasks_copied;
  frame = frame_copied;
}
