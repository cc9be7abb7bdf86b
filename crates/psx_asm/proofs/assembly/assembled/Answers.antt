use Rattle.std.proofs.Common.{Ok, map, codes, sym, ap, subst, ◌∙◌}
use Rattle.psx_asm.specs.Names.{names}
use Rattle.psx_asm.specs.Line.{◌>>=◌}
use Rattle.psx_asm.specs.Walking.{shown_item}
use Rattle.psx_asm.specs.Placing.{bytes_of_parts}
use Rattle.psx_asm.specs.Rounds.{IsErrorOf}
use Rattle.psx_asm.specs.Assembly.{label_address}
use Rattle.psx_asm.proofs.Whole.{assembled_by, error_stays}
use Rattle.psx_asm.proofs.assembly.assembled.Goals as goal

pub returns-in-Ok-second_round : goal.returns-in-Ok-second_round
returns-in-Ok-second_round c = λ readings read.
    let round = c.in-Ok.ensures readings read in
    let held = names c.in-Ok.round.walk.symbols in
    assembled_by _ _ readings round.0 held (map shown_item c.as_slice.result.now) round.1 round.2.known (ap (map shown_item) c.as_slice.ensures.value ∙ round.2.items)
    ∙ ap (λ r. r >>= λ bytes. Ok (record { bytes = bytes; start = label_address (held (codes "start")) })) c.in-Ok-second_round.ensures
    ∙ ap (λ start. Ok (record { bytes = bytes_of_parts c.in-Ok-second_round.parts; start = start })) (sym c.start_of-start.ensures)

pub returns : goal.returns
returns c = λ readings read.
    let round = c.in-Ok.ensures readings read in
    let held = names c.in-Ok.round.walk.symbols in
    subst (IsErrorOf c.in-Err-second_round.error)
    (sym (assembled_by _ _ readings round.0 held (map shown_item c.as_slice.result.now) round.1 round.2.known (ap (map shown_item) c.as_slice.ensures.value ∙ round.2.items)))
    (error_stays c.in-Err-second_round.error _ _ c.in-Err-second_round.ensures)
