use Rattle.abs_kernel.proofs.Printed.{numbers_written}
use Rattle.abs_kernel.proofs.printf_laws.number_formats.Goals as goal

pub returns : goal.returns
returns c = numbers_written
