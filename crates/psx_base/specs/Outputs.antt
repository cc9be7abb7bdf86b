-- What a host in memory holds.
use Rattle.std.specs.Prelude.{ℕ, List}
use Rattle.psx_base.specs.declared.host.Out.{Out}
use Rattle.psx_base.specs.declared.host.Out.TheVariants.{Tty, Trace, Ram, Report}
use Rattle.psx_base.specs.declared.memory_host.Outputs.{Outputs}

-- what was sent on an output
abbrev pub bytes_on : Outputs → Out → List ℕ
bytes_on o Tty = o.tty.items
bytes_on o Trace = o.trace.items
bytes_on o Ram = o.ram.items
bytes_on o Report = o.report.items
