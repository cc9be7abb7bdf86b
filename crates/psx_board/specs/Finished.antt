-- What a step does to the devices when it is finished, from what the processor did.
use Rattle.std.specs.Prelude.{◌≡◌, ℕ, ◌+◌, List, Option, Some, None}
use Rattle.psx_base.specs.declared.stop.Stop.{Stop}
use Rattle.psx_sched.specs.declared.schedule.Entry.{Entry}
use Rattle.psx_cpu.specs.declared.step.Did.{Did}
use Rattle.psx_cpu.specs.declared.step.Did.TheVariants.{PortWrite, Stopped}
use Rattle.psx_ports.specs.declared.PortDid.{PortDid}
use Rattle.psx_ports.specs.declared.PortDid.TheVariants.{Quiet, Tty, Halt}
use Rattle.psx_ports.specs.History.{History, Read, Write, then_event, at_count, written}
use Rattle.psx_board.specs.Delivery.{due, later, all_arrived}
use Rattle.psx_board.specs.Devices.{KeptDevices, Carries}

-- the history with the read of the port that a step reads, where it reads one
abbrev pub after_read : History → Option ℕ → History
after_read h None = h
after_read h (Some at) = then_event h (Read h.now at)

-- the devices are those of the coming step: the counters have made their turns of its count, and its entries are delivered
abbrev pub Counted : KeptDevices → History → List Entry → Type 0
Counted d h waiting = Carries d (all_arrived (at_count h (h.now + 1)) (due (h.now + 1) waiting)) (later (h.now + 1) waiting)

-- a port was written, which may have stopped the run
abbrev pub Wrote : History → List Entry → (at value : ℕ) → PortDid → Did → KeptDevices → Type 0
Wrote h waiting at value Quiet told new = (told ≡ PortWrite at value) × Counted new (then_event h (Write h.now at value)) waiting
Wrote h waiting at value (Tty byte) told new = (told ≡ PortWrite at value) × Counted new (then_event h (Write h.now at value)) waiting
Wrote h waiting at value (Halt stop) told new = (told ≡ Stopped stop) × Counted new (then_event h (Write h.now at value)) waiting

-- a stop of the guard finishes no step
abbrev pub Finished : History → List Entry → Did → Did → KeptDevices → Type 0
Finished h waiting (PortWrite at value) told new = Wrote h waiting at value (written h at value) told new
Finished h waiting (Stopped stop) told new = (told ≡ Stopped stop) × Carries new h waiting
Finished h waiting did told new = (told ≡ did) × Counted new h waiting

-- what a board keeps of a stop that a step told
abbrev pub stop_of : Did → Option Stop
stop_of (Stopped stop) = Some stop
stop_of _ = None

-- how many steps are finished
abbrev pub finished : Did → ℕ
finished (Stopped stop) = 0
finished _ = 1
