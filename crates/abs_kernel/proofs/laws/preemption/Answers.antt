use Rattle.abs_kernel.proofs.Slept.{names_thread, preempts}
use Rattle.abs_kernel.proofs.laws.preemption.Goals as goal

pub returns : goal.returns
returns c = record { names = names_thread; preempts = preempts }
