-- One step of the board.
use Rattle.std.specs.Prelude.{ℕ, ◌+◌, Bool, true, false, ◌&&◌, nat_le, List, [], ◌∷◌, Option, Some, None, if◌then◌else◌}
use Rattle.psx_base.specs.Ports.{CONSOLE_STATUS, HALT}
use Rattle.psx_base.specs.declared.stop.Stop.{Stop}
use Rattle.psx_base.specs.Items.{Item, R, W}
use Rattle.psx_cpu.specs.Processor.{Core, Bus}
use Rattle.psx_cpu.specs.Step.{Move, Goes, Reads, Writes, Enters, Leaves, Stops, step, port_read}
use Rattle.psx_ports.specs.declared.PortDid.{PortDid}
use Rattle.psx_ports.specs.declared.PortDid.TheVariants.{Quiet, Tty, Halt}
use Rattle.psx_ports.specs.History.{History, Event, Read, Write, then_event, at_count, answer, line, written}
use Rattle.psx_board.specs.Machine.{Machine}
use Rattle.psx_board.specs.Delivery.{delivered}
use Rattle.psx_board.specs.Entries.{entry, return}

-- A step goes on, with the lines and console bytes that it makes, or it ends the run.
pub data Turn : Type 0 where
  On : (next : Machine) (items : List Item) (tty : List ℕ) → Turn
  Final : (last : Machine) (stop : Stop) → Turn

-- the port that the coming step reads; which one it is doesn't hang on the answer
abbrev pub asked : Machine → Option ℕ
asked m = port_read (step m.core (record { line = line m.history; value = 0 }))

abbrev pub answered : History → Option ℕ → ℕ
answered h None = 0
answered h (Some at) = answer h at

-- what the devices bring to a step
abbrev pub bus_of : Machine → Bus
bus_of m = record { line = line m.history; value = answered m.history (asked m) }

-- the board after a finished step: the counters make their turns of the new count
abbrev pub moved : Machine → Core → Machine
moved m k = record m { core = k; history = at_count m.history (m.history.now + 1) }

-- the board with one more access in its history
abbrev pub accessed : Machine → Event → Machine
accessed m event = record m { history = then_event m.history event }

-- no line stands before the first return
abbrev pub shown : Bool → Item → List Item
shown false item = []
shown true item = item ∷ []

-- a write of a port makes a line, but for those of the console and the halt ports
abbrev pub write_shown : Bool → ℕ → ℕ → ℕ → List Item
write_shown began count at value = if nat_le CONSOLE_STATUS at && nat_le at HALT then [] else shown began (W count at value)

-- a write of a port, by what it did beyond it and the board after it
abbrev pub after_write : Machine → ℕ → ℕ → PortDid → Machine → Turn
after_write m at value Quiet next = On next (write_shown m.began m.history.now at value) []
after_write m at value (Tty byte) next = On next (write_shown m.began m.history.now at value) (byte ∷ [])
after_write m at value (Halt stop) next = Final next stop

-- what the processor's step makes of the board
abbrev pub by_move : Machine → Move → Turn
by_move m (Goes next) = On (moved m next) [] []
by_move m (Reads next at value) = On (moved (accessed m (Read m.history.now at)) next) (shown m.began (R m.history.now at value)) []
by_move m (Writes next at value) = after_write m at value (written m.history at value) (moved (accessed m (Write m.history.now at value)) next)
by_move m (Enters next code) = On (moved m next) (shown m.began (entry m.history.now code (line m.history) next)) []
by_move m (Leaves next) = On (record (moved m next) { began = true }) (return m.history.now m.began next ∷ []) []
by_move m (Stops stop) = Final m stop

-- a step, once what is due was delivered
abbrev pub stepped : Machine → Turn
stepped m = by_move m (step m.core (bus_of m))

-- the entries of the step's count are delivered, and then it is made
unfoldable pub turn : Machine → Turn
turn m = stepped (delivered m)
