-- What a step did, as its answer says: it follows from the processor's step and from what was written.
use Rattle.std.specs.Prelude.{ℕ}
use Rattle.psx_cpu.specs.declared.step.Did.{Did}
use Rattle.psx_cpu.specs.declared.step.Did.TheVariants.{Plain, PortRead, PortWrite, Entered, Left, Stopped}
use Rattle.psx_cpu.specs.Step.{Move, Goes, Reads, Writes, Enters, Leaves, Stops, step}
use Rattle.psx_ports.specs.declared.PortDid.{PortDid}
use Rattle.psx_ports.specs.declared.PortDid.TheVariants.{Quiet, Tty, Halt}
use Rattle.psx_ports.specs.History.{History, written}
use Rattle.psx_board.specs.Machine.{Machine}
use Rattle.psx_board.specs.Delivery.{delivered}
use Rattle.psx_board.specs.Turn.{bus_of}

-- a write of a port, with the whole word, whichever port it is; but one that stops the run is the stop
abbrev pub write_did : (at value : ℕ) → PortDid → Did
write_did at value Quiet = PortWrite at value
write_did at value (Tty byte) = PortWrite at value
write_did at value (Halt stop) = Stopped stop

abbrev pub move_did : History → Move → Did
move_did h (Goes next) = Plain
move_did h (Reads next at value) = PortRead at value
move_did h (Writes next at value) = write_did at value (written h at value)
move_did h (Enters next code) = Entered code
move_did h (Leaves next) = Left
move_did h (Stops stop) = Stopped stop

-- what a step did, once what is due was delivered
abbrev pub stepped_did : Machine → Did
stepped_did m = move_did m.history (step m.core (bus_of m))

-- what the coming step will have done
unfoldable pub step_did : Machine → Did
step_did m = stepped_did (delivered m)
