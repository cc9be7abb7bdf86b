use Rattle.abs_kernel.proofs.Entries.{entries_kept, entries_told}
use Rattle.abs_kernel.proofs.laws.entries.Goals as goal

pub returns : goal.returns
returns c = record { kept = entries_kept; told = entries_told }
