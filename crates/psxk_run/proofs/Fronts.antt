-- Fronts of texts.
use Rattle.std.proofs.Common.{◌≡◌, ◌≢◌, ◌⊎◌, ℕ, List, [], ◌++◌, take, drop, Option, None, Some, refl, sym, ap, ◌∙◌, inl, inr, append-nil, append_assoc}
use Rattle.std.proofs.lemmas.List.{take-append-drop}
use Rattle.psx_base.specs.declared.host.Out.{Out}
use Rattle.psx_base.specs.declared.host.Out.TheVariants.{Tty, Trace, Ram, Report}
use Rattle.psx_base.specs.declared.stop.Stop.{Stop}
use Rattle.psx_base.specs.Host.{SendsFront}
use Rattle.psx_board.specs.Run.{Outcome}
use Rattle.psxk_run.specs.Sent.{Grew, GrewFront, OnlyReports}
use Rattle.psxk_run.specs.Texts.{trace_text, ram_text, report_of, status_of, Delivers, BreaksOff}
use Rattle.psxk_run.specs.Reports.{stop_line, memory_line}
use Rattle.psxk_run.specs.InPart.{HasFronts, ReportsFront, TextInPart}
use Rattle.psxk_run.proofs.Grew.{grew_more}
use Rattle.psxk_run.proofs.Ends.{grew_nothing, loud_report}

pub front_whole : (a b : Option (List ℕ)) (x : List ℕ) → Grew a b x → GrewFront a b x
front_whole a b x f = record { shown = x; rest = []; grew = f; whole = append-nil x }

pub front_none : (a b : Option (List ℕ)) (x : List ℕ) → b ≡ a → GrewFront a b x
front_none a b x same = record { shown = []; rest = x; grew = rw same (grew_nothing a); whole = refl }

pub front_sent : (a b : Option (List ℕ)) (x : List ℕ) → SendsFront a b x → GrewFront a b x
front_sent None b x f = record { shown = x; rest = []; grew = tt; whole = append-nil x }
front_sent (Some u) b x (k, e) = record { shown = take k x; rest = drop k x; grew = e; whole = take-append-drop k x }

-- a front of the first piece, and then of a later one
pub front_first : (a b : Option (List ℕ)) (x y : List ℕ) → GrewFront a b x → GrewFront a b (x ++ y)
front_first a b x y f = record { shown = f.shown; rest = f.rest ++ y; grew = f.grew; whole = sym (append_assoc f.shown f.rest y) ∙ ap (λ z. z ++ y) f.whole }

pub front_later : (a b c : Option (List ℕ)) (x y : List ℕ) → Grew a b x → GrewFront b c y → GrewFront a c (x ++ y)
front_later a b c x y f g = record { shown = x ++ g.shown; rest = g.rest; grew = grew_more a b c x g.shown f g.grew; whole = append_assoc x g.shown g.rest ∙ ap (λ z. x ++ z) g.whole }

-- a front of a stop's report
pub front_stop : (before now : Option (List ℕ)) (stop : Stop) (status : ℕ) (text : List ℕ) → status ≡ status_of stop → status ≢ 0 → text ≡ stop_line stop → GrewFront before now text → GrewFront before now (report_of stop)
front_stop before now stop status text is some said f =
    let e : text ≡ report_of stop = said ∙ sym (loud_report stop (λ h. some (is ∙ h))) in
    rw (← e) f

-- the fronts of a run
pub fronts_done : (old mid new : Out → Option (List ℕ)) (o : Outcome) (stop : Stop) → stop ≡ o.stop → Delivers old mid o → OnlyReports mid new → GrewFront (mid Report) (new Report) (report_of stop) → HasFronts old new o
fronts_done old mid new o stop is texts only report =
    let tty : Grew (old Tty) (new Tty) o.tty = rw (only Tty (λ e. cc)) texts.tty in
    let trace : Grew (old Trace) (new Trace) (trace_text o.items) = rw (only Trace (λ e. cc)) texts.trace in
    let ram : Grew (old Ram) (new Ram) (ram_text o.last.core.bytes) = rw (only Ram (λ e. cc)) texts.ram in
    record {
      tty = front_whole _ _ _ tty;
      trace = front_whole _ _ _ trace;
      ram = front_whole _ _ _ ram;
      late = inr (tty, trace);
      last = inr (tty, trace, ram);
      report = rw (← texts.report, ← is) report;
    }

pub fronts_failed : (old new : Out → Option (List ℕ)) (o : Outcome) → BreaksOff old new o → HasFronts old new o
fronts_failed old new o b = record { tty = b.tty; trace = b.trace; ram = b.ram; late = b.late; last = inl b.report; report = front_none (old Report) (new Report) (report_of o.stop) b.report }

-- ---- from an earlier moment with the same outputs

pub fronts_from : (old mid new : Out → Option (List ℕ)) (o : Outcome) → ((out : Out) → mid out ≡ old out) → HasFronts mid new o → HasFronts old new o
fronts_from old mid new o same h = record {
  tty = rw (← same Tty) h.tty;
  trace = rw (← same Trace) h.trace;
  ram = rw (← same Ram) h.ram;
  late = rw (← same Ram, ← same Tty, ← same Trace) h.late;
  last = rw (← same Report, ← same Tty, ← same Trace, ← same Ram) h.last;
  report = rw (← same Report) h.report;
}

pub reports_from : (old mid new : Out → Option (List ℕ)) (line : List ℕ) → ((out : Out) → mid out ≡ old out) → ReportsFront mid new line → ReportsFront old new line
reports_from old mid new line same r = record { only = λ o other. r.only o other ∙ same o; report = rw (← same Report) r.report }

pub part_from : (old mid new : Out → Option (List ℕ)) (o : Outcome) (line : List ℕ) → ((out : Out) → mid out ≡ old out) → HasFronts mid new o ⊎ ReportsFront mid new line → HasFronts old new o ⊎ ReportsFront old new line
part_from old mid new o line same (inl h) = inl (fronts_from old mid new o same h)
part_from old mid new o line same (inr r) = inr (reports_from old mid new line same r)

pub text_from : (old mid new : Out → Option (List ℕ)) (out : Out) (text : List ℕ) → ((o : Out) → mid o ≡ old o) → TextInPart mid new out text → TextInPart old new out text
text_from old mid new out text same (inl f) = inl (record { only = λ o other. f.only o other ∙ same o; front = rw (← same out) f.front })
text_from old mid new out text same (inr r) = inr (reports_from old mid new memory_line same r)
