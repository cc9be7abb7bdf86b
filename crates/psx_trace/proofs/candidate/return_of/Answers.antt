use Rattle.std.proofs.Common.{◌++◌, ap, drop}
use Rattle.psx_text.specs.Digits.{hex8}
use Rattle.psx_trace.specs.Digits.{field, fields}
use Rattle.psx_trace.proofs.candidate.return_of.Goals as goal

pub returns-clause-value : goal.returns-clause-value
unfolding hex8
returns-clause-value c pc sr hi lo regs rest pc_fits sr_fits hi_fits lo_fits all regs_fit e =
    let last = fields regs.0 ++ rest in
    let first = c.word_after-pc.ensures pc (field sr ++ (field hi ++ (field lo ++ last))) pc_fits e in
    let second = c.word_after-sr.ensures sr (field hi ++ (field lo ++ last)) sr_fits (ap (drop 9) e) in
    let third = c.word_after-hi.ensures hi (field lo ++ last) hi_fits (ap (drop 18) e) in
    let fourth = c.word_after-lo.ensures lo last lo_fits (ap (drop 27) e) in
    let fifth = c.regs_after-regs.ensures.value regs rest all regs_fit (ap (drop 36) e) in
    cc (first, second, third, fourth, fifth)
