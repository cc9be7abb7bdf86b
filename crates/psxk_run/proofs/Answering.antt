-- What the top call's status says, from how a command ended.
use Rattle.std.proofs.Common.{◌≡◌, ◌⊎◌, ℕ, ◌≤◌, List, Option, sym, subst, inl, inr, arith}
use Rattle.psx_base.specs.declared.host.Out.{Out}
use Rattle.psx_base.specs.declared.host.Out.TheVariants.{Tty, Ram, Report}
use Rattle.psx_base.specs.Host.{Rose}
use Rattle.kern_image.specs.Rom.{rom}
use Rattle.psxk_run.specs.declared.inputs.Inputs.{Inputs}
use Rattle.psxk_run.specs.declared.refusal.Refusal.{Refusal}
use Rattle.psxk_run.specs.declared.refusal.Refusal.TheVariants.{Program, Schedule, Config, Unread, Memory, Text}
use Rattle.psxk_run.specs.Command.{Command, ToRun, ToImage, ToPrint, ToAssemble, ToGenerate}
use Rattle.psxk_run.specs.Commands.{Loads, Refuses, Causes, Decides, OfWorkload}
use Rattle.psxk_run.specs.Inputs.{IsLoaded, workload_inputs, workload_budget}
use Rattle.psxk_run.specs.Printing.{printing}
use Rattle.psxk_run.specs.Refusals.{line_of}
use Rattle.psxk_run.specs.Refusals as refusals
use Rattle.psxk_run.specs.Reports.{memory_line}
use Rattle.psxk_run.specs.Sent.{Grew, OnlyReports, Says, SentAlone}
use Rattle.psxk_run.specs.Top.{Ran, Printed, IsDone, IsRefused, IsUnread, IsStatus, IsFaulty, IsQuiet, run_of, RunsProgram, MakesText, Assembled}
use Rattle.psxk_run.specs.InPart.{ReportsFront, DoneInPart, SentInPart, InWork, InFault, InRead, InMemory}
use Rattle.psxk_run.specs.Ends.{CommandEnds, ByWork, ByRefusal, EndsWork, EndsRun, EndsPrinting, EndsRefused, Moment, moment, EndsAssembling}
use Rattle.psxk_run.proofs.SameAnswer.{answers-inputs, answers-refusal, answers-program, answers-no_program, answers-text, answers-no_text}
use Rattle.psxk_run.proofs.Statuses.{Carried, carried, carried-status, text-status, carried-wrote, carried-memory, carried-quiet, carried-five, quiet-range, listed-run, refusal-high, not-done, not-faulty, five-faulty}
use Rattle.psxk_run.specs.Assembling.{assembling}

-- why a command was refused, by the refusal
abbrev Reason : (List ℕ → Option (List ℕ)) → (before now : List ℕ → ℕ) → Command → Refusal → Type 0
Reason held before now c (Unread name) = Loads (IsLoaded held) c name.now × Rose (before name.now) (now name.now)
Reason held before now c Memory = Unit {0}
Reason held before now c refusal = Refuses (IsLoaded held) c refusal

reason : (held : List ℕ → Option (List ℕ)) (before now : List ℕ → ℕ) (c : Command) (refusal : Refusal) → Causes held before now c refusal → Reason held before now c refusal
reason held before now (ToRun c) (Unread name) cause = cause
reason held before now (ToRun c) Memory cause = cause
reason held before now (ToRun c) (Program fault) cause = cause
reason held before now (ToRun c) (Schedule fault) cause = cause
reason held before now (ToRun c) (Config fault) cause = cause
reason held before now (ToRun c) (Text fault) cause = cause
reason held before now ToImage refusal cause = absurd cause
reason held before now (ToPrint name) (Program fault) cause = cause
reason held before now (ToPrint name) (Unread other) cause = (sym cause.0, subst (λ (n : List ℕ). Rose (before n) (now n)) (sym cause.0) cause.1)
reason held before now (ToPrint name) Memory cause = cause
reason held before now (ToPrint name) _ cause = absurd cause
reason held before now (ToAssemble name) (Text fault) cause = cause
reason held before now (ToAssemble name) (Unread other) cause = (sym cause.0, subst (λ (n : List ℕ). Rose (before n) (now n)) (sym cause.0) cause.1)
reason held before now (ToAssemble name) Memory cause = cause
reason held before now (ToAssemble name) _ cause = absurd cause
reason held before now (ToGenerate rounds) Memory cause = cause
reason held before now (ToGenerate rounds) _ cause = absurd cause

-- ---- the clauses

module _ {H : Type 0} (holds : H → List ℕ → Option (List ℕ)) (sent : H → Out → Option (List ℕ)) (loads : H → List ℕ → ℕ) (sends : H → ℕ) (old new : H) (c : Command) (result : ℕ) where
  abbrev before : Moment
  before = moment holds sent loads sends old

  abbrev after : Moment
  after = moment holds sent loads sends new

  abbrev Ended : Type 0
  Ended = CommandEnds before after c result

  abbrev Refused : Type 0
  Refused = EndsRefused before after c result

  abbrev Said : ℕ → List ℕ → Type 0
  Said status text = Says (sent old) (sent new) (sends old) (sends new) text status result

  work : EndsWork before after c result → Carried (sent old) (sent new) (sends old) (sends new) result
  work w = carried before after c result w

  work-status : EndsWork before after c result → (result ≤ 1) ⊎ ((result ≡ 6) ⊎ (result ≡ 7))
  work-status w = carried-status (sent old) (sent new) (sends old) (sends new) result (work w)

  said-by : (status : ℕ) (text : List ℕ) → Said status text → (result ≡ status) ⊎ (result ≡ 6)
  said-by status text (inl one) = inl one.0
  said-by status text (inr failed) = inr failed.0

  pub said : (r : Refused) → (result ≡ refusals.status_of r.refusal) ⊎ (result ≡ 6)
  said r = said-by (refusals.status_of r.refusal) (line_of r.refusal) r.says

  because : (r : Refused) → Reason (holds old) (loads old) (loads new) c r.refusal
  because r = reason (holds old) (loads old) (loads new) c r.refusal r.cause

  pub is-listed : Ended → IsStatus result
  is-listed (ByWork w) = listed-run result (work-status w)
  is-listed (ByRefusal r) = (refusal-high r.refusal result (said r)).1

  refused-by : (refusal : Refusal) → Reason (holds old) (loads old) (loads new) c refusal → Said (refusals.status_of refusal) (line_of refusal) → IsFaulty result → IsRefused holds sent old new c result
  refused-by (Unread name) cause (inl one) f = five-faulty result one.0 f
  refused-by Memory cause (inl one) f = not-faulty result (inr (inr one.0)) f
  refused-by (Program fault) cause (inl one) f = record { refusal = Program fault; given = cause; success = one.0; report = one.1 }
  refused-by (Schedule fault) cause (inl one) f = record { refusal = Schedule fault; given = cause; success = one.0; report = one.1 }
  refused-by (Config fault) cause (inl one) f = record { refusal = Config fault; given = cause; success = one.0; report = one.1 }
  refused-by (Text fault) cause (inl one) f = record { refusal = Text fault; given = cause; success = one.0; report = one.1 }
  refused-by refusal cause (inr failed) f = not-faulty result (inr (inl failed.0)) f

  pub is-refused : Ended → IsFaulty result → IsRefused holds sent old new c result
  is-refused (ByWork w) f = not-faulty result (work-status w) f
  is-refused (ByRefusal r) f = refused-by r.refusal (because r) r.says f

  unread-by : (refusal : Refusal) → Reason (holds old) (loads old) (loads new) c refusal → Said (refusals.status_of refusal) (line_of refusal) → result ≡ 5 → IsUnread holds loads sent old new c
  unread-by (Unread name) cause (inl one) e = record { name = name.now; named = cause.0; rose = cause.1; report = one.1 }
  unread-by (Program fault) cause (inl one) e = absurd (omega (arith, one.0, e))
  unread-by (Schedule fault) cause (inl one) e = absurd (omega (arith, one.0, e))
  unread-by (Config fault) cause (inl one) e = absurd (omega (arith, one.0, e))
  unread-by (Text fault) cause (inl one) e = absurd (omega (arith, one.0, e))
  unread-by Memory cause (inl one) e = absurd (omega (arith, one.0, e))
  unread-by refusal cause (inr failed) e = absurd (omega (arith, failed.0, e))

  pub is-unread : Ended → result ≡ 5 → IsUnread holds loads sent old new c
  is-unread (ByWork w) e = carried-five (sent old) (sent new) (sends old) (sends new) result (work w) e
  is-unread (ByRefusal r) e = unread-by r.refusal (because r) r.says e

  wrote-by : (refusal : Refusal) → Said (refusals.status_of refusal) (line_of refusal) → result ≡ 6 → Rose (sends old) (sends new)
  wrote-by refusal (inr failed) e = failed.1
  wrote-by (Program fault) (inl one) e = absurd (omega (arith, one.0, e))
  wrote-by (Schedule fault) (inl one) e = absurd (omega (arith, one.0, e))
  wrote-by (Config fault) (inl one) e = absurd (omega (arith, one.0, e))
  wrote-by (Text fault) (inl one) e = absurd (omega (arith, one.0, e))
  wrote-by (Unread name) (inl one) e = absurd (omega (arith, one.0, e))
  wrote-by Memory (inl one) e = absurd (omega (arith, one.0, e))

  pub is-unsent : Ended → result ≡ 6 → Rose (sends old) (sends new)
  is-unsent (ByWork w) e = carried-wrote (sent old) (sent new) (sends old) (sends new) result (work w) e
  is-unsent (ByRefusal r) e = wrote-by r.refusal r.says e

  memory-by : (refusal : Refusal) → Said (refusals.status_of refusal) (line_of refusal) → result ≡ 7 → Grew (sent old Report) (sent new Report) memory_line
  memory-by Memory (inl one) e = one.1
  memory-by (Program fault) (inl one) e = absurd (omega (arith, one.0, e))
  memory-by (Schedule fault) (inl one) e = absurd (omega (arith, one.0, e))
  memory-by (Config fault) (inl one) e = absurd (omega (arith, one.0, e))
  memory-by (Text fault) (inl one) e = absurd (omega (arith, one.0, e))
  memory-by (Unread name) (inl one) e = absurd (omega (arith, one.0, e))
  memory-by refusal (inr failed) e = absurd (omega (arith, failed.0, e))

  pub is-memory : Ended → result ≡ 7 → Grew (sent old Report) (sent new Report) memory_line
  is-memory (ByWork w) e = carried-memory (sent old) (sent new) (sends old) (sends new) result (work w) e
  is-memory (ByRefusal r) e = memory-by r.refusal r.says e

  pub is-quiet : Ended → (result ≡ 2) ⊎ IsQuiet result → OnlyReports (sent old) (sent new)
  is-quiet (ByWork w) q = let k = quiet-range result q in carried-quiet (sent old) (sent new) (sends old) (sends new) result (work w) k.0 k.1
  is-quiet (ByRefusal r) q = r.only

  part-by : (refusal : Refusal) → Reason (holds old) (loads old) (loads new) c refusal → ReportsFront (sent old) (sent new) (line_of refusal) → SentInPart holds loads sent old new c
  part-by (Unread name) cause report = InRead (record { name = name.now; named = cause.0; rose = cause.1; report = report })
  part-by Memory cause report = InMemory report
  part-by (Program fault) cause report = InFault (record { refusal = Program fault; given = cause; report = report })
  part-by (Schedule fault) cause report = InFault (record { refusal = Schedule fault; given = cause; report = report })
  part-by (Config fault) cause report = InFault (record { refusal = Config fault; given = cause; report = report })
  part-by (Text fault) cause report = InFault (record { refusal = Text fault; given = cause; report = report })

-- ---- command by command

module _ {H : Type 0} (holds : H → List ℕ → Option (List ℕ)) (sent : H → Out → Option (List ℕ)) (loads : H → List ℕ → ℕ) (sends : H → ℕ) (old new : H) (result : ℕ) where
  abbrev start : Moment
  start = moment holds sent loads sends old

  abbrev last : Moment
  last = moment holds sent loads sends new

  done-run : (inputs : Inputs) (budget : ℕ) (r : EndsRun start last inputs budget result) → RunsProgram (sent old) (sent new) (sends old) (sends new) (run_of inputs budget) result → (result ≡ 0) ⊎ (result ≡ 1) → Ran sent old new inputs budget result
  done-run inputs budget r (inl memory) d = not-done result (omega (arith, memory.0)) d
  done-run inputs budget r (inr (inl all)) d = record { texts = all.1; success = all.0; kernel = r.kernel; in_time = r.in_time }
  done-run inputs budget r (inr (inr failed)) d = not-done result (omega (arith, failed.0)) d

  done-text : (out : Out) (text : List ℕ) → MakesText (sent old) (sent new) (sends old) (sends new) out text result → (result ≡ 0) ⊎ (result ≡ 1) → (result ≡ 0) × SentAlone (sent old) (sent new) out text
  done-text out text (inl memory) d = not-done result (omega (arith, memory.0)) d
  done-text out text (inr (inl all)) d = all
  done-text out text (inr (inr failed)) d = not-done result (omega (arith, failed.0)) d

  done-print : (name : List ℕ) → EndsPrinting start last name result → (result ≡ 0) ⊎ (result ≡ 1) → Printed holds sent old new name result
  done-print name p d =
      let t = done-text Tty (printing p.exe) p.text.sends d in
      record { exe = p.exe; given = p.given; text = t.1; success = t.0 }

  done-assemble : (name : List ℕ) → EndsAssembling start last name result → (result ≡ 0) ⊎ (result ≡ 1) → Assembled holds sent old new name result
  done-assemble name a d =
      let t = done-text Ram (assembling a.placed) a.text.sends d in
      record { placed = a.placed; given = a.given; text = t.1; success = t.0 }

  done-work : (c : Command) → EndsWork start last c result → (result ≡ 0) ⊎ (result ≡ 1) → IsDone holds sent old new c result
  done-work (ToRun c) w d = record { inputs = w.inputs; given = w.given; ran = done-run w.inputs c.budget w.run w.run.ran d }
  done-work ToImage w d = done-text Ram rom w.sends d
  done-work (ToPrint name) w d = done-print name w d
  done-work (ToAssemble name) w d = done-assemble name w d
  done-work (ToGenerate rounds) w d = done-run (workload_inputs rounds) workload_budget w w.ran d

  pub is-done : (c : Command) → CommandEnds start last c result → (result ≡ 0) ⊎ (result ≡ 1) → IsDone holds sent old new c result
  is-done c (ByWork w) d = done-work c w d
  is-done c (ByRefusal r) d = not-done result (let high = (refusal-high r.refusal result (said holds sent loads sends old new c result r)).0 in omega (arith, high)) d

  text-decides : (out : Out) (text : List ℕ) → MakesText (sent old) (sent new) (sends old) (sends new) out text result → (result ≡ 0) ⊎ ((result ≡ 6) ⊎ (result ≡ 7))
  text-decides out text m = text-status (sent old) (sent new) (sends old) (sends new) out text result m

  image-decides : (result ≡ 0) ⊎ ((result ≡ 6) ⊎ (result ≡ 7)) → Decides (holds old) ToImage result
  image-decides (inl e) = inl e
  image-decides (inr e) = inr (inr e)

  workload-decides : (rounds : ℕ) → (result ≤ 1) ⊎ ((result ≡ 6) ⊎ (result ≡ 7)) → Decides (holds old) (ToGenerate rounds) result
  workload-decides rounds (inl low) = inl low
  workload-decides rounds (inr e) = inr (inr e)

  no_workload-decides : (rounds : ℕ) (refusal : Refusal) → OfWorkload refusal → (result ≡ refusals.status_of refusal) ⊎ (result ≡ 6) → Decides (holds old) (ToGenerate rounds) result
  no_workload-decides rounds Memory cause (inl e) = inr (inr (inr e))
  no_workload-decides rounds Memory cause (inr e) = inr (inr (inl e))
  no_workload-decides rounds _ cause e = absurd cause

  work-decides : (c : Command) → EndsWork start last c result → Decides (holds old) c result
  work-decides (ToRun c) w = answers-inputs (holds old) (loads old) (loads new) c result w.inputs w.given (work-status holds sent loads sends old new (ToRun c) result w)
  work-decides ToImage w = image-decides (text-decides Ram rom w.sends)
  work-decides (ToPrint name) w = answers-program (holds old) (loads old) (loads new) name result w.exe w.given (text-decides Tty (printing w.exe) w.text.sends)
  work-decides (ToAssemble name) w = answers-text (holds old) (loads old) (loads new) name result w.placed w.given (text-decides Ram (assembling w.placed) w.text.sends)
  work-decides (ToGenerate rounds) w = workload-decides rounds (work-status holds sent loads sends old new (ToGenerate rounds) result w)

  refusal-decides : (c : Command) (refusal : Refusal) → Causes (holds old) (loads old) (loads new) c refusal → (result ≡ refusals.status_of refusal) ⊎ (result ≡ 6) → Decides (holds old) c result
  refusal-decides (ToRun c) refusal cause e = answers-refusal (holds old) (loads old) (loads new) c result refusal cause e
  refusal-decides ToImage refusal cause e = absurd cause
  refusal-decides (ToPrint name) refusal cause e = answers-no_program (holds old) (loads old) (loads new) name result refusal cause e
  refusal-decides (ToAssemble name) refusal cause e = answers-no_text (holds old) (loads old) (loads new) name result refusal cause e
  refusal-decides (ToGenerate rounds) refusal cause e = no_workload-decides rounds refusal cause e

  pub decides : (c : Command) → CommandEnds start last c result → Decides (holds old) c result
  decides c (ByWork w) = work-decides c w
  decides c (ByRefusal r) = refusal-decides c r.refusal r.cause (said holds sent loads sends old new c result r)

  part-work : (c : Command) → EndsWork start last c result → DoneInPart holds sent old new c
  part-work (ToRun c) w = record { inputs = w.inputs; given = w.given; texts = w.run.fronts }
  part-work ToImage w = w.front
  part-work (ToPrint name) w = record { exe = w.exe; given = w.given; text = w.text.front }
  part-work (ToAssemble name) w = record { placed = w.placed; given = w.given; text = w.text.front }
  part-work (ToGenerate rounds) w = w.fronts

  pub in-part : (c : Command) → CommandEnds start last c result → SentInPart holds loads sent old new c
  in-part c (ByWork w) = InWork (part-work c w)
  in-part c (ByRefusal r) = part-by holds sent loads sends old new c result r.refusal (because holds sent loads sends old new c result r) (record { only = r.only; report = r.front })
