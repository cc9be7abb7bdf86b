use Rattle.std.proofs.Common.{◌≡◌, [], drop, map}
use Rattle.psx_asm.specs.Names.{names}
use Rattle.psx_asm.specs.Walking.{shown_item}
use Rattle.psx_asm.specs.Output.{shown_output, IsTakenBy}
use Rattle.psx_asm.specs.Rounds.{placed_items}
use Rattle.psx_asm.proofs.assembly.second_round.Given as goal

abbrev pub invariant-loop-item : goal.invariant-loop-item
invariant-loop-item l = record {
  taken : IsTakenBy l.taken (shown_output l.output);
  so_far : placed_items (names l.known) l.window.from l.window.to (shown_output l.output) (map shown_item (drop l.item-index l.items))
      ≡ placed_items (names l.known) l.window.from l.window.to [] (map shown_item l.items);
}
