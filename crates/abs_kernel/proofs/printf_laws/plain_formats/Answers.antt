use Rattle.abs_kernel.proofs.Printed.{plain_written}
use Rattle.abs_kernel.proofs.printf_laws.plain_formats.Goals as goal

pub returns : goal.returns
returns c = plain_written
