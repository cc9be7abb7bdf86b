use Rattle.abs_kernel.proofs.Ends.{rest_kept, memory_kept, returns_at_rest, valid_kept}
use Rattle.abs_kernel.proofs.laws.stays.Goals as goal

pub returns : goal.returns
returns c = record { rest = rest_kept; memory = memory_kept; at_rest = returns_at_rest; valid = valid_kept }
