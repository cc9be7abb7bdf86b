use Rattle.std.proofs.Common.{◌≡◌, ◌∙◌, sym, ◌+◌, ◌-◌, false, arith, subst}
use Rattle.psx_cpu.specs.Processor.{Core, Processor}
use Rattle.psx_cpu.specs.Views.{core_of}
use Rattle.psx_board.specs.Run.{run}
use Rattle.psx_board.specs.Stands.{console_bytes, told_items}
use Rattle.psxk_run.specs.Pieces.{PutsBoth}
use Rattle.psxk_run.proofs.GoingOn.{goes_on-same, goes_on-then, rose-since}
use Rattle.psxk_run.proofs.Runs.{made-start, made-on, made-partway, reached-start, reached-on, reached-stop, reached-budget, reached-breaks, went_on}
use Rattle.psxk_run.proofs.steps.steps.Goals as goal

pub loop-turn-init : goal.loop-turn-init
loop-turn-init g c =
    let all : c.args.budget - 0 ≡ c.args.budget = omega arith in
    record {
      reached = λ m s e. rw (all, c.requires.tty, c.requires.trace, c.requires.began) (reached-start c.args.budget c.args.board.now m (g.H.Host.sent c.args.host.now) false s e);
      made = λ m s. made-start m c.args.board.now s;
      running = c.taken-first.ensures.fresh (c.taken-first.ensures.count ∙ c.requires.fresh);
      first = c.taken-first.ensures.count ∙ c.requires.fresh;
      taken = omega (arith, c.requires.fresh, c.taken-first.ensures.count);
      on = goes_on-same g.H.Host.holds g.H.Host.load_faults g.H.Host.send_faults c.args.host.now;
    }

pub returns-in-Stopped-clause-stopped : goal.returns-in-Stopped-clause-stopped
returns-in-Stopped-clause-stopped g c m s e =
    let r = c.loop-turn.invariant.reached m s e in
    let turned = c.step-did.ensures.turns r.machine r.stands in
    reached-stop (run c.args.budget m) c.args.budget c.loop-turn.turn c.loop-turn.board c.step-did.new.self c.in-Stopped.stop c.loop-turn.lines.began
    (g.H.Host.sent c.args.host.now) (g.H.Host.sent c.loop-turn.host) c.loop-turn.lines.tty.items c.loop-turn.lines.trace.items c.loop-turn-test.true r (rw c.in-Stopped.is at turned)

pub returns-clause-stopped : goal.returns-clause-stopped
returns-clause-stopped g c m s e =
    reached-budget (run c.args.budget m) c.args.budget c.loop-turn.turn c.loop-turn.board c.loop-turn.lines.began
    (g.H.Host.sent c.args.host.now) (g.H.Host.sent c.loop-turn.host) c.loop-turn.lines.tty.items c.loop-turn.lines.trace.items c.loop-turn-test.false (c.loop-turn.invariant.reached m s e)

pub returns-in-Err : goal.returns-in-Err
returns-in-Err g c = record {
  stopped = λ m s e. tt;
  breaks = λ m s e.
      reached-breaks (run c.args.budget m) _ c.loop-turn.board c.loop-turn.lines.began (g.H.Host.sent c.args.host.now) (g.H.Host.sent c.loop-turn.host) (g.H.Host.sent c.tell.new.host)
      c.loop-turn.lines.tty.items c.loop-turn.lines.trace.items (c.loop-turn.invariant.reached m s e) c.in-Err.ensures.breaks;
  partway = λ m s.
      let d = c.loop-turn.invariant.made m s in
      let went = went_on c.step-did.result c.in_default.not-Stopped in
      made-partway m (c.loop-turn.turn + 1) c.args.budget c.step-did.new.self
      (made-on m c.loop-turn.turn c.loop-turn.board c.step-did.new.self c.step-did.result d (c.step-did.ensures.turns d.machine d.stands) went) (omega (arith, c.loop-turn-test.true));
  failed = rose-since _ _ _ c.loop-turn.invariant.on.sends c.in-Err.ensures.failed;
  on = goes_on-then g.H.Host.holds g.H.Host.load_faults g.H.Host.send_faults c.args.host.now c.loop-turn.host c.tell.new.host c.loop-turn.invariant.on c.tell.ensures.on;
}

pub loop-turn-preserved : goal.loop-turn-preserved
loop-turn-preserved g c =
    let went = went_on c.step-did.result c.in_default.not-Stopped in
    let new = c.step-did.new.self in
    let inv = c.loop-turn.invariant in
    record {
      reached = λ m s e.
          let r = inv.reached m s e in
          let Told : Core → Type 0 = λ k. PutsBoth (g.H.Host.sent c.loop-turn.host) (g.H.Host.sent c.tell.new.host) c.loop-turn.lines.tty.items c.loop-turn.lines.trace.items
          (console_bytes c.step-did.result) (told_items c.loop-turn.lines.began c.line-line.result (c.taken-first.result + c.loop-turn.turn) c.step-did.result k) c.tell.new.self.tty.items c.tell.new.self.trace.items in
          let told : Told new.core = subst (λ (p : Processor). Told (core_of p new.core.bytes)) c.cpu.ensures (c.in_default-tell.ensures.tells new.core.bytes) in
          rw c.in_default-tell.ensures.began (reached-on (run c.args.budget m) c.args.budget c.loop-turn.turn c.loop-turn.board new c.step-did.result c.loop-turn.lines.began c.line-line.result (c.taken-first.result + c.loop-turn.turn)
          (g.H.Host.sent c.args.host.now) (g.H.Host.sent c.loop-turn.host) (g.H.Host.sent c.tell.new.host) c.loop-turn.lines.tty.items c.loop-turn.lines.trace.items c.tell.new.self.tty.items c.tell.new.self.trace.items
          c.loop-turn-test.true r (c.step-did.ensures.turns r.machine r.stands) went (c.line-line.ensures r.machine r.stands) (sym inv.taken) told);
      made = λ m s. let d = inv.made m s in made-on m c.loop-turn.turn c.loop-turn.board new c.step-did.result d (c.step-did.ensures.turns d.machine d.stands) went;
      running = c.step-did.ensures.runs_on went;
      first = inv.first;
      taken = omega (arith, c.step-did.ensures.went went, inv.taken);
      on = goes_on-then g.H.Host.holds g.H.Host.load_faults g.H.Host.send_faults c.args.host.now c.loop-turn.host c.tell.new.host inv.on c.tell.ensures.on;
    }
