use Rattle.psxk_run.proofs.Endings.{IsMain, IsScratchpad, ram-sent, ram-broke_main, ram-broke_scratchpad}
use Rattle.psxk_run.proofs.run.send_ram.Goals as goal

pub returns-in-Err-clause-front : goal.returns-in-Err-clause-front
returns-in-Err-clause-front g c =
    let main : IsMain c.args.ram.now c.main.result.now = record { len = c.main.ensures.len; bytes = c.main.ensures.bytes } in
    ram-broke_main c.args.ram.now c.main.result.now _ _ main c.in-Err.ensures.sent.front

pub returns-in-Err-send-clause-front : goal.returns-in-Err-send-clause-front
returns-in-Err-send-clause-front g c =
    let main : IsMain c.args.ram.now c.main.result.now = record { len = c.main.ensures.len; bytes = c.main.ensures.bytes } in
    let scratchpad : IsScratchpad c.args.ram.now c.scratchpad.result.now = record { len = c.scratchpad.ensures.len; bytes = c.scratchpad.ensures.bytes } in
    ram-broke_scratchpad c.args.ram.now c.main.result.now c.scratchpad.result.now _ _ _ main scratchpad c.in_default.ensures.sent.all c.in-Err-send.ensures.sent.front

pub returns-clause-sent : goal.returns-clause-sent
returns-clause-sent g c =
    let main : IsMain c.args.ram.now c.main.result.now = record { len = c.main.ensures.len; bytes = c.main.ensures.bytes } in
    let scratchpad : IsScratchpad c.args.ram.now c.scratchpad.result.now = record { len = c.scratchpad.ensures.len; bytes = c.scratchpad.ensures.bytes } in
    ram-sent c.args.ram.now c.main.result.now c.scratchpad.result.now _ _ _ main scratchpad c.in_default.ensures.sent.all c.in_default-send.ensures.sent.all
