use Rattle.abs_kernel.proofs.Delivered.{line_is_handled, only_lines}
use Rattle.abs_kernel.proofs.laws.interrupt_lines.Goals as goal

pub returns : goal.returns
returns c = record { handled = line_is_handled; lines = only_lines }
