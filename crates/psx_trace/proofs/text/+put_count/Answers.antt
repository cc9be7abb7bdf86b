use Rattle.std.proofs.Common.{◌+◌, ◌/◌, ◌%◌, [], ◌∷◌, decimal, arith, append_assoc}
use Rattle.std.proofs.lemmas.Fmt.{decimal_step}
use Rattle.psx_trace.proofs.DecimalSteps.{length-decimal_more}
use Rattle.psx_trace.proofs.text.+put_count.Goals as goal

pub put_count-requires : goal.put_count-requires
put_count-requires t c = (omega arith, omega (arith, length-decimal_more c.args.count (omega arith) (omega arith)))

pub push-requires-2 : goal.push-requires-2
push-requires-2 t c = (omega arith, omega (arith, length-decimal_more c.args.count (omega arith) (omega arith)))

pub returns-clause-items : goal.returns-clause-items
returns-clause-items t c =
    let step = decimal_step c.args.count (omega arith) (omega arith) in
    let regroup = append_assoc c.args.text.now.items (decimal (c.args.count / 10)) ((48 + c.args.count % 10) ∷ []) in
    cc

pub returns-clause-len : goal.returns-clause-len
returns-clause-len t c = omega (arith, length-decimal_more c.args.count (omega arith) (omega arith))
