use Rattle.std.proofs.Common.{◌++◌, codes}
use Rattle.psx_base.specs.declared.host.Out.TheVariants.{Report}
use Rattle.psxk_run.proofs.Fronts.{front_whole, front_sent, front_first, front_later}
use Rattle.psxk_run.proofs.Grew.{grew_more}
use Rattle.psxk_run.proofs.refusal.send_line.Goals as goal

pub returns-clause-all : goal.returns-clause-all
returns-clause-all g c = grew_more _ _ _ _ _ c.in_ok-send.ensures.sent.all (grew_more _ _ _ _ _ c.in_ok-send-2.ensures.sent.all c.in_ok-send-3.ensures.sent.all)

pub returns-clause-front : goal.returns-clause-front
returns-clause-front g c = front_whole _ _ _ (returns-clause-all g c)

pub returns-in_err-send-clause-front : goal.returns-in_err-send-clause-front
returns-in_err-send-clause-front g c =
    let h = g.H.Host in
    let a = h.sent c.args.host.now Report in
    let b = h.sent c.send.new.self Report in
    front_first a b c.args.head.now (c.args.rest.now ++ codes "\n") (front_sent a b c.args.head.now c.in_err-send.ensures.sent.front)

pub returns-in_err-send-2-clause-front : goal.returns-in_err-send-2-clause-front
returns-in_err-send-2-clause-front g c =
    let h = g.H.Host in
    let a = h.sent c.args.host.now Report in
    let b = h.sent c.send.new.self Report in
    let d = h.sent c.send-2.new.self Report in
    front_later a b d c.args.head.now (c.args.rest.now ++ codes "\n") c.in_ok-send.ensures.sent.all (front_first b d c.args.rest.now (codes "\n") (front_sent b d c.args.rest.now c.in_err-send-2.ensures.sent.front))

pub returns-in_err-send-3-clause-front : goal.returns-in_err-send-3-clause-front
returns-in_err-send-3-clause-front g c =
    let h = g.H.Host in
    let a = h.sent c.args.host.now Report in
    let b = h.sent c.send.new.self Report in
    let d = h.sent c.send-2.new.self Report in
    let e = h.sent c.send-3.new.self Report in
    front_later a b e c.args.head.now (c.args.rest.now ++ codes "\n") c.in_ok-send.ensures.sent.all (front_later b d e c.args.rest.now (codes "\n") c.in_ok-send-2.ensures.sent.all (front_sent d e (codes "\n") c.in_err-send-3.ensures.sent.front))
