use Rattle.std.proofs.Common.{◌≡◌, ◌++◌, ◌∷◌, [], Some, None, subst, sym, rules}
use Rattle.psxk_run.specs.declared.configuration.Setting.{Setting}
use Rattle.psxk_run.specs.Config.{IsKept}
use Rattle.psxk_run.proofs.ConfigSettings.{kept_nothing, kept_threads, kept_events}
use Rattle.psxk_run.proofs.configuration.kept_with.Goals as goal

pub returns-in-Nothing-clause-ok : goal.returns-in-Nothing-clause-ok
returns-in-Nothing-clause-ok c before is =
    subst (λ (s : Setting). IsKept (before ++ s ∷ []) c.args.kept) (sym c.in-Nothing.is) (kept_nothing before c.args.kept is)

pub returns-else-threads-gt-MOST_THREADS-clause-ok : goal.returns-else-threads-gt-MOST_THREADS-clause-ok
returns-else-threads-gt-MOST_THREADS-clause-ok c before is =
    let n = c.in-Threads.threads in
    let none : c.args.kept.threads ≡ None = search rules in
    subst (λ (s : Setting). IsKept (before ++ s ∷ []) (record { threads = Some n; events = c.args.kept.events })) (sym c.in-Threads.is)
    (kept_threads before c.args.kept n none c.if-threads-lt-LEAST_THREADS.false c.if-threads-gt-MOST_THREADS.false is)

pub returns-else-events-gt-MOST_EVENTS-clause-ok : goal.returns-else-events-gt-MOST_EVENTS-clause-ok
returns-else-events-gt-MOST_EVENTS-clause-ok c before is =
    let n = c.in-Events.events in
    let none : c.args.kept.events ≡ None = search rules in
    subst (λ (s : Setting). IsKept (before ++ s ∷ []) (record { threads = c.args.kept.threads; events = Some n })) (sym c.in-Events.is)
    (kept_events before c.args.kept n none c.if-events-lt-LEAST_EVENTS.false c.if-events-gt-MOST_EVENTS.false is)
