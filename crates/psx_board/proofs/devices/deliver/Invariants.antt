use Rattle.std.proofs.Common.{◌≡◌, ◌+◌, ◌≤◌, length, drop}
use Rattle.psx_ports.specs.History.{History}
use Rattle.psx_ports.specs.Stands.{StandsFor}
use Rattle.psx_board.specs.Delivery.{later}
use Rattle.psx_board.proofs.Delivering.{Left}
use Rattle.psx_board.proofs.devices.deliver.Given as goal

abbrev pub invariant-loop-entry : goal.invariant-loop-entry
invariant-loop-entry l = record {
  number : l.number ≡ l.entry-index;
  later : later l.count (drop l.entry-index l.entries) ≡ later l.count l.entries;
  room : length l.ports.console ≤ length l.initial.ports.console + l.entry-index;
  count : l.ports.now ≡ l.initial.ports.now;
  left : (h : History) → StandsFor l.initial.ports h → Left l.entries l.count l.entry-index l.ports h;
}
