-- A run, a step more.
use Rattle.std.proofs.Common.{◌≡◌, ℕ, suc, ◌+◌, ◌-◌, ◌<◌, ◌≤◌, Bool, List, [], ◌∷◌, ◌++◌, Option, refl, sym, ap, subst, ◌∙◌, arith}
use Rattle.std.proofs.Common.{inl}
use Rattle.psx_base.specs.declared.host.Out.{Out}
use Rattle.psx_base.specs.declared.host.Out.TheVariants.{Tty, Trace, Ram, Report}
use Rattle.psx_base.specs.declared.stop.Stop.{Stop}
use Rattle.psx_base.specs.declared.stop.Stop.TheVariants.{Budget}
use Rattle.psx_base.specs.Items.{Item, S}
use Rattle.psx_trace.specs.Line.{line}
use Rattle.psx_cpu.specs.declared.step.Did.{Did}
use Rattle.psx_cpu.specs.declared.step.Did.TheVariants.{Plain, PortRead, PortWrite, Entered, Left, Stopped as Barred}
use Rattle.psx_board.specs.Delivery as delivery
use Rattle.psx_board.specs.Machine.{Machine}
use Rattle.psx_board.specs.Turn.{Turn, On, Final, turn}
use Rattle.psx_board.specs.Run.{Outcome, run, ended, then_run}
use Rattle.psx_board.specs.Stands.{View, Stands, Turned, WentOn, told_items, begun, console_bytes}
use Rattle.psxk_run.specs.Texts.{trace_text, BreaksOff, Partway}
use Rattle.psxk_run.specs.Pieces.{PutsBoth, Stream, BreaksOne, AtTty, AtTrace}
use Rattle.psxk_run.specs.Underway.{Underway, Reached, Stopped, Advanced}
use Rattle.psxk_run.proofs.Tellings.{trace_text-append, trace_text-one}
use Rattle.psxk_run.proofs.Streams.{stream-start, stream-puts, stream-front, front-none, front-sends, front-more}

run-zero : (m : Machine) → run 0 m ≡ ended m Budget
unfolding run
run-zero m = refl

run-suc : (n : ℕ) (m : Machine) → run (suc n) m ≡ then_run (turn m) (run n)
unfolding run
run-suc n m = refl

-- the run is one step and the rest
pub run-more : (n i : ℕ) (m : Machine) → i < n → run (n - i) m ≡ then_run (turn m) (run (n - (i + 1)))
run-more n i m h = let e : n - i ≡ suc (n - (i + 1)) = omega arith in rw e (run-suc (n - (i + 1)) m)

pub run-none : (n i : ℕ) (m : Machine) → n ≤ i → run (n - i) m ≡ ended m Budget
run-none n i m h = let e : n - i ≡ 0 = omega arith in rw e (run-zero m)

-- at its start
pub reached-start : (n : ℕ) (b : View) (m : Machine) (sent : Out → Option (List ℕ)) (b0 : Bool) → Stands b m → m.began ≡ b0 → Reached (run n m) n b b0 sent sent [] []
reached-start n b m sent b0 s e = record {
  machine = m;
  stands = s;
  began = e;
  underway = record { tty = stream-start _ _; trace = stream-start _ _; stop = refl; last = refl; ram = refl; report = refl };
}

-- a step that went on told its bytes and lines
on-step : (whole : Outcome) (n : ℕ) (m : Machine) (t : Turn) (did : Did) (new : View) (b0 : Bool) (before mid now : Out → Option (List ℕ)) (tty trace tty' trace' : List ℕ)
    → Turned m t did new → WentOn did → m.began ≡ b0 → Underway whole (then_run t (run n)) before mid tty trace
    → PutsBoth mid now tty trace (console_bytes did) (told_items m.began (delivery.line m) m.history.now did new.core) tty' trace'
    → Reached whole n new (begun b0 did) before now tty' trace'
on-step whole n m (Final last stop) did new b0 before mid now tty trace tty' trace' h went e u t = absurd (subst WentOn h.told went)
on-step whole n m (On next items bytes) did new b0 before mid now tty trace tty' trace' h went e u t =
    let rest = run n next in
    let split : trace_text (items ++ rest.items) ≡ trace_text (told_items m.began (delivery.line m) m.history.now did new.core) ++ trace_text rest.items =
    trace_text-append items rest.items ∙ ap (λ (xs : List Item). trace_text xs ++ trace_text rest.items) h.items in
    let bytes_are : bytes ++ rest.tty ≡ console_bytes did ++ rest.tty = ap (λ (xs : List ℕ). xs ++ rest.tty) h.tty in
    record {
      machine = next;
      stands = h.stands;
      began = h.began ∙ ap (λ (b : Bool). begun b did) e;
      underway = record {
        tty = stream-puts _ _ _ _ _ _ _ _ (subst (λ (r : List ℕ). Stream (before Tty) (mid Tty) tty r whole.tty) bytes_are u.tty) t.tty;
        trace = stream-puts _ _ _ _ _ _ _ _ (subst (λ (r : List ℕ). Stream (before Trace) (mid Trace) trace r (trace_text whole.items)) split u.trace) t.trace;
        stop = u.stop;
        last = u.last;
        ram = t.ram ∙ u.ram;
        report = t.report ∙ u.report;
      };
    }

-- a run that is at its end
at-end : (whole : Outcome) (last : Machine) (stop : Stop) (b : View) (before now : Out → Option (List ℕ)) (tty trace : List ℕ)
    → Stands b last → Underway whole (ended last stop) before now tty trace → Stopped whole stop b before now tty trace
at-end whole last stop b before now tty trace s u =
    let text : trace_text (S last.history.now stop ∷ []) ≡ line (S b.taken stop) = trace_text-one (S last.history.now stop) ∙ ap (λ (k : ℕ). line (S k stop)) (sym s.taken) in
    record {
      tty = u.tty;
      trace = subst (λ (r : List ℕ). Stream (before Trace) (now Trace) trace r (trace_text whole.items)) text u.trace;
      stops = u.stop;
      stands = subst (λ (m : Machine). Stands b m) u.last s;
      ram = u.ram;
      report = u.report;
    }

stop-step : (whole : Outcome) (n : ℕ) (m : Machine) (t : Turn) (stop : Stop) (new : View) (before now : Out → Option (List ℕ)) (tty trace : List ℕ)
    → Turned m t (Barred stop) new → Underway whole (then_run t (run n)) before now tty trace → Stopped whole stop new before now tty trace
stop-step whole n m (On next items bytes) stop new before now tty trace h u = absurd h.went_on
stop-step whole n m (Final last stop') stop new before now tty trace h u =
    let same : stop' ≡ stop = (let e : Barred stop ≡ Barred stop' = h.told in cc) in
    at-end whole last stop new before now tty trace h.stands (subst (λ (s : Stop). Underway whole (ended last s) before now tty trace) same u)

from-run : (whole a b : Outcome) (before now : Out → Option (List ℕ)) (tty trace : List ℕ) → a ≡ b → Underway whole a before now tty trace → Underway whole b before now tty trace
from-run whole a b before now tty trace e u = subst (λ (o : Outcome). Underway whole o before now tty trace) e u

-- what is neither of the stops went on
pub went_on : (did : Did) → ((stop : Stop) → did ≡ Barred stop → ⊥) → WentOn did
went_on Plain h = tt
went_on (PortRead at value) h = tt
went_on (PortWrite at value) h = tt
went_on (Entered code) h = tt
went_on Left h = tt
went_on (Barred stop) h = h stop refl

-- ---- the loop's turns

pub reached-on : (whole : Outcome) (n i : ℕ) (old new : View) (did : Did) (b0 line : Bool) (count : ℕ) (before mid now : Out → Option (List ℕ)) (tty trace tty' trace' : List ℕ)
    → i < n → (r : Reached whole (n - i) old b0 before mid tty trace) → Turned r.machine (turn r.machine) did new → WentOn did
    → line ≡ delivery.line r.machine → count ≡ old.taken
    → PutsBoth mid now tty trace (console_bytes did) (told_items b0 line count did new.core) tty' trace'
    → Reached whole (n - (i + 1)) new (begun b0 did) before now tty' trace'
reached-on whole n i old new did b0 line count before mid now tty trace tty' trace' h r turned went l c t =
    let m = r.machine in
    let told : told_items b0 line count did new.core ≡ told_items m.began (delivery.line m) m.history.now did new.core =
    (λ j. told_items (sym r.began j) (l j) ((c ∙ r.stands.taken) j) did new.core) in
    on-step whole (n - (i + 1)) m (turn m) did new b0 before mid now tty trace tty' trace' turned went r.began
    (from-run whole _ _ before mid tty trace (run-more n i m h) r.underway)
    (subst (λ (xs : List Item). PutsBoth mid now tty trace (console_bytes did) xs tty' trace') told t)

pub reached-stop : (whole : Outcome) (n i : ℕ) (old new : View) (stop : Stop) (b0 : Bool) (before now : Out → Option (List ℕ)) (tty trace : List ℕ)
    → i < n → (r : Reached whole (n - i) old b0 before now tty trace) → Turned r.machine (turn r.machine) (Barred stop) new → Stopped whole stop new before now tty trace
reached-stop whole n i old new stop b0 before now tty trace h r turned =
    stop-step whole (n - (i + 1)) r.machine (turn r.machine) stop new before now tty trace turned (from-run whole _ _ before now tty trace (run-more n i r.machine h) r.underway)

pub reached-budget : (whole : Outcome) (n i : ℕ) (b : View) (b0 : Bool) (before now : Out → Option (List ℕ)) (tty trace : List ℕ)
    → n ≤ i → Reached whole (n - i) b b0 before now tty trace → Stopped whole Budget b before now tty trace
reached-budget whole n i b b0 before now tty trace h r =
    at-end whole r.machine Budget b before now tty trace r.stands (from-run whole _ _ before now tty trace (run-none n i r.machine h) r.underway)

-- a sending failed on the way
pub reached-breaks : (whole : Outcome) (n : ℕ) (b : View) (b0 : Bool) (before mid now : Out → Option (List ℕ)) (tty trace : List ℕ)
    → Reached whole n b b0 before mid tty trace → BreaksOne mid now tty trace → BreaksOff before now whole
reached-breaks whole n b b0 before mid now tty trace r (AtTty e) =
    let u = r.underway in
    record {
      tty = stream-front _ _ _ _ _ _ u.tty (front-more _ _ _ _ (front-sends _ _ _ e.front));
      trace = stream-front _ _ _ _ _ _ u.trace (front-none _ _ _ (e.others Trace (λ x. cc)));
      ram = front-none _ _ _ (e.others Ram (λ x. cc) ∙ u.ram);
      late = inl (e.others Ram (λ x. cc) ∙ u.ram);
      report = e.others Report (λ x. cc) ∙ u.report;
    }
reached-breaks whole n b b0 before mid now tty trace r (AtTrace e) =
    let u = r.underway in
    record {
      tty = stream-front _ _ _ _ _ _ u.tty (front-none _ _ _ (e.others Tty (λ x. cc)));
      trace = stream-front _ _ _ _ _ _ u.trace (front-more _ _ _ _ (front-sends _ _ _ e.front));
      ram = front-none _ _ _ (e.others Ram (λ x. cc) ∙ u.ram);
      late = inl (e.others Ram (λ x. cc) ∙ u.ram);
      report = e.others Report (λ x. cc) ∙ u.report;
    }

-- ---- the steps that were made

pub made-start : (m : Machine) (b : View) → Stands b m → Advanced m 0 b
made-start m b s = record { machine = m; stands = s; further = λ more. (let same : 0 + more ≡ more = omega arith in ap (λ (k : ℕ). (run k m).last) same) }

made-step : (first m : Machine) (done : ℕ) (t : Turn) (did : Did) (new : View) → Turned m t did new → WentOn did
    → ((more : ℕ) → (run (done + suc more) first).last ≡ (then_run t (run more)).last) → Advanced first (done + 1) new
made-step first m done (Final last stop) did new h went e = absurd (subst WentOn h.told went)
made-step first m done (On next items bytes) did new h went e = record {
  machine = next;
  stands = h.stands;
  further = λ more. let same : done + 1 + more ≡ done + suc more = omega arith in rw same (e more);
}

pub made-on : (first : Machine) (done : ℕ) (old new : View) (did : Did) → (d : Advanced first done old) → Turned d.machine (turn d.machine) did new → WentOn did → Advanced first (done + 1) new
made-on first done old new did d turned went =
    made-step first d.machine done (turn d.machine) did new turned went
    (λ more. d.further (suc more) ∙ ap (λ (o : Outcome). o.last) (run-suc more d.machine))

pub made-partway : (first : Machine) (done n : ℕ) (b : View) → Advanced first done b → done ≤ n → Partway b n first
made-partway first done n b d h = record {
  made = done;
  within = h;
  stands =
      let zero : done ≡ done + 0 = omega arith in
      let last : (run done first).last ≡ d.machine = (ap (λ (k : ℕ). (run k first).last) zero ∙ d.further 0) ∙ ap (λ (o : Outcome). o.last) (run-zero d.machine) in
      subst (λ (m : Machine). Stands b m) (sym last) d.stands;
}
