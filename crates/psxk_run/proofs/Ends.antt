-- How the top call ends.
use Rattle.std.proofs.Common.{◌≡◌, ◌≢◌, ℕ, ◌≤◌, List, [], Option, None, Some, refl, sym, ap, arith, ◌∙◌, inl, inr, append-nil}
use Rattle.psx_base.specs.declared.host.Out.{Out}
use Rattle.psx_base.specs.declared.host.Out.TheVariants.{Tty, Trace, Ram, Report}
use Rattle.psx_base.specs.declared.stop.Stop.{Stop}
use Rattle.psx_base.specs.declared.stop.Stop.TheVariants.{Exit, Budget}
use Rattle.psx_base.specs.Host.{Rose}
use Rattle.psx_board.specs.Run.{Outcome}
use Rattle.psxk_run.specs.Reports.{stop_line}
use Rattle.psxk_run.specs.Sent.{Grew, OnlyReports, Says, SentAlone}
use Rattle.psxk_run.specs.Texts.{report_of, status_of, Delivers}
use Rattle.psxk_run.specs.Top.{HasTexts, RunsBoard, RunsProgram, MakesText}

pub grew_nothing : (b : Option (List ℕ)) → Grew b b []
grew_nothing None = tt
grew_nothing (Some u) = ap Some (sym (append-nil u))

pub loud_report : (stop : Stop) → status_of stop ≢ 0 → report_of stop ≡ stop_line stop
loud_report (Exit code) h = absurd (h refl)
loud_report Budget h = absurd (h refl)
loud_report stop h = refl

-- a report of a stop
pub says_stop : (before now : Out → Option (List ℕ)) (fb fn : ℕ) (stop : Stop) (status result : ℕ) (text : List ℕ) → status ≡ status_of stop → status ≢ 0 → text ≡ stop_line stop → Says before now fb fn text status result → Says before now fb fn (report_of stop) (status_of stop) result
says_stop before now fb fn stop status result text is some said says =
    let e : text ≡ report_of stop = said ∙ sym (loud_report stop (λ h. some (is ∙ h))) in
    rw (← e, ← is) says

-- a count that rose later rose in all
pub rose_later : (f0 f1 f2 : ℕ) → f0 ≤ f1 → Rose f1 f2 → Rose f0 f2
rose_later f0 f1 f2 up rose = omega (arith, up, rose)

-- a run whose texts were sent, and whose stop was then reported
pub runs_done : (old mid new : Out → Option (List ℕ)) (f0 f1 f2 : ℕ) (o : Outcome) (stop : Stop) (result : ℕ) → stop ≡ o.stop → Delivers old mid o → OnlyReports mid new → f0 ≤ f1 → Says mid new f1 f2 (report_of stop) (status_of stop) result → RunsBoard old new f0 f2 o result
runs_done old mid new f0 f1 f2 o stop result is texts only up (inl said) = inl (
  said.0 ∙ ap status_of is,
  record {
    tty = rw (only Tty (λ e. cc)) texts.tty;
    trace = rw (only Trace (λ e. cc)) texts.trace;
    ram = rw (only Ram (λ e. cc)) texts.ram;
    report = rw (← texts.report, ← is) said.1;
  },
)
runs_done old mid new f0 f1 f2 o stop result is texts only up (inr failed) = inr (failed.0, rose_later f0 f1 f2 up failed.1)

-- the status of a stop is 0 or 1
pub status_of-le : (stop : Stop) → status_of stop ≤ 1
status_of-le (Exit code) = omega arith
status_of-le Budget = omega arith
status_of-le stop = omega arith

-- ---- from an earlier moment with the same outputs

texts_from : (old mid now : Out → Option (List ℕ)) (o : Outcome) → ((out : Out) → mid out ≡ old out) → HasTexts mid now o → HasTexts old now o
texts_from old mid now o same h = record {
  tty = rw (← same Tty) h.tty;
  trace = rw (← same Trace) h.trace;
  ram = rw (← same Ram) h.ram;
  report = rw (← same Report) h.report;
}

pub runs_from : (old mid new : Out → Option (List ℕ)) (f0 f1 f2 : ℕ) (o : Outcome) (result : ℕ) → ((out : Out) → mid out ≡ old out) → f0 ≤ f1 → RunsProgram mid new f1 f2 o result → RunsProgram old new f0 f2 o result
runs_from old mid new f0 f1 f2 o result same up (inl memory) = inl (memory.0, (λ out other. memory.1 out other ∙ same out), rw (← same Report) memory.2)
runs_from old mid new f0 f1 f2 o result same up (inr (inl sends)) = inr (inl (sends.0, texts_from old mid new o same sends.1))
runs_from old mid new f0 f1 f2 o result same up (inr (inr failed)) = inr (inr (failed.0, rose_later f0 f1 f2 up failed.1))

pub says_from : (old mid new : Out → Option (List ℕ)) (f0 f1 f2 : ℕ) (text : List ℕ) (status result : ℕ) → ((out : Out) → mid out ≡ old out) → f0 ≤ f1 → Says mid new f1 f2 text status result → Says old new f0 f2 text status result
says_from old mid new f0 f1 f2 text status result same up (inl said) = inl (said.0, rw (← same Report) said.1)
says_from old mid new f0 f1 f2 text status result same up (inr failed) = inr (failed.0, rose_later f0 f1 f2 up failed.1)

alone_from : (old mid new : Out → Option (List ℕ)) (out : Out) (text : List ℕ) → ((o : Out) → mid o ≡ old o) → SentAlone mid new out text → SentAlone old new out text
alone_from old mid new out text same s = record { only = λ o other. s.only o other ∙ same o; whole = rw (← same out) s.whole }

pub makes_from : (old mid new : Out → Option (List ℕ)) (f0 f1 f2 : ℕ) (out : Out) (text : List ℕ) (result : ℕ) → ((o : Out) → mid o ≡ old o) → f0 ≤ f1 → MakesText mid new f1 f2 out text result → MakesText old new f0 f2 out text result
makes_from old mid new f0 f1 f2 out text result same up (inl memory) = inl (memory.0, (λ o other. memory.1 o other ∙ same o), rw (← same Report) memory.2)
makes_from old mid new f0 f1 f2 out text result same up (inr (inl sends)) = inr (inl (sends.0, alone_from old mid new out text same sends.1))
makes_from old mid new f0 f1 f2 out text result same up (inr (inr failed)) = inr (inr (failed.0, rose_later f0 f1 f2 up failed.1))
