use Rattle.std.proofs.Common.{◌∙◌, ◌++◌, ap, drop, slice_index}
use Rattle.psx_text.specs.Digits.{hex8}
use Rattle.psx_trace.specs.Digits.{field, mark}
use Rattle.psx_trace.specs.Line.{gate_letter}
use Rattle.psx_trace.specs.Plain.{entrance_of}
use Rattle.psx_trace.proofs.candidate.entry_of.Goals as goal

pub returns-clause-value : goal.returns-clause-value
unfolding hex8
returns-clause-value c cause epc number gate rest cause_fits epc_fits number_fits e =
    let letter = mark (gate_letter (entrance_of gate)) in
    let first = c.word_after-cause.ensures cause (field epc ++ (letter ++ (field number ++ rest))) cause_fits e in
    let second = c.word_after-epc.ensures epc (letter ++ (field number ++ rest)) epc_fits (ap (drop 9) e) in
    let third = c.gate_of-gate.ensures gate (c.byte_at.ensures ∙ ap (λ l. slice_index l 19) e) in
    let fourth = c.word_after-number.ensures number rest number_fits (ap (drop 20) e) in
    cc (first, second, third, fourth)
