use Rattle.std.proofs.Common.{◌+◌, ◌∷◌, Bool, false, sym, ap₂, subst, ◌∙◌, arith}
use Rattle.std.specs.Prelude.{if◌then◌else◌}
use Rattle.psx_ports.specs.contracts.counter.Counter.{the_view}
use Rattle.psx_ports.specs.Counter.{TakeMode}
use Rattle.psx_ports.specs.KeptCounter.{KeptCounter, Follows}
use Rattle.psx_ports.proofs.Following.{follows-take, word-open}
use Rattle.psx_ports.proofs.counter.Counter.take_mode.Goals as goal

pub returns-clause-word : goal.returns-clause-word
returns-clause-word c = λ acts f.
    ap₂ (λ target top. c.self.inside.mode + target + top) c.mask.ensures c.mask-2.ensures
    ∙ ap₂ (λ (target top : Bool). c.self.inside.mode + (if target then 0x800 else 0) + (if top then 0x1000 else 0)) c.replace-target.ensures.value c.replace-top.ensures.value
    ∙ word-open c.settle.new.self _ acts c.args.count c.args.self.now.number c.self.view_is c.settle.ensures.number (c.settle.ensures.follows acts c.args.count f (omega arith)) c.settle.ensures.since

pub returns-clause-follows : goal.returns-clause-follows
returns-clause-follows c = λ acts f.
    let next = c.look_ahead.new.self.next in
    let P : Bool → Bool → KeptCounter → Type 0 = λ target top k. Follows (record k { target = target; top = top; next = next }) (TakeMode c.args.count ∷ acts) c.args.count in
    let taken : P false false c.settle.new.self = follows-take c.settle.new.self acts c.args.count next (c.settle.ensures.follows acts c.args.count f (omega arith)) c.settle.ensures.since in
    let opened = subst (λ (k : KeptCounter). P false false k) (sym c.self.view_is) taken in
    let cleared = subst (λ (top : Bool). P c.replace-target.new.dest top (the_view c.self.inside)) (sym c.replace-top.ensures.after)
    (subst (λ (target : Bool). P target false (the_view c.self.inside)) (sym c.replace-target.ensures.after) opened) in
    subst (λ (k : KeptCounter). Follows k (TakeMode c.args.count ∷ acts) c.args.count) (sym c.look_ahead.ensures.same) cleared
