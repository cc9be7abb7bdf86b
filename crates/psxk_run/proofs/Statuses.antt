-- Which statuses a command ends with.
use Rattle.std.proofs.Common.{◌≡◌, ◌≢◌, ◌⊎◌, ℕ, ◌≤◌, List, Option, inl, inr, arith, ◌<◌}
use Rattle.psx_base.specs.declared.host.Out.{Out}
use Rattle.psx_base.specs.declared.host.Out.TheVariants.{Report}
use Rattle.psx_base.specs.Host.{Rose}
use Rattle.psx_board.specs.Run.{Outcome}
use Rattle.psxk_run.specs.declared.refusal.Refusal.{Refusal}
use Rattle.psxk_run.specs.declared.refusal.Refusal.TheVariants.{Program, Schedule, Config, Unread, Memory, Text}
use Rattle.psxk_run.specs.Command.{Command, ToRun, ToImage, ToPrint, ToAssemble, ToGenerate}
use Rattle.psxk_run.specs.Ends.{Moment, EndsWork}
use Rattle.psxk_run.specs.Refusals as refusals
use Rattle.psxk_run.specs.Reports.{memory_line}
use Rattle.psxk_run.specs.Sent.{Grew, OnlyReports}
use Rattle.psxk_run.specs.Texts.{status_of}
use Rattle.psxk_run.specs.Top.{IsStatus, IsFaulty, IsQuiet, RunsProgram, MakesText, WantsMemory}
use Rattle.psxk_run.proofs.Ends.{status_of-le}

-- a command that was carried out was done with status 0 or 1, or a sending failed, or memory was wanting
abbrev pub Carried : (before now : Out → Option (List ℕ)) → ℕ → ℕ → ℕ → Type 0
Carried before now fb fn status = WantsMemory before now status ⊎ ((status ≤ 1) ⊎ ((status ≡ 6) × Rose fb fn))

carried-run : (before now : Out → Option (List ℕ)) (fb fn : ℕ) (o : Outcome) (status : ℕ) → RunsProgram before now fb fn o status → Carried before now fb fn status
carried-run before now fb fn o status (inl memory) = inl memory
carried-run before now fb fn o status (inr (inl sends)) = inr (inl (let e : status_of o.stop ≤ 1 = status_of-le o.stop in rw sends.0 e))
carried-run before now fb fn o status (inr (inr failed)) = inr (inr failed)

carried-text : (before now : Out → Option (List ℕ)) (fb fn : ℕ) (out : Out) (text : List ℕ) (status : ℕ) → MakesText before now fb fn out text status → Carried before now fb fn status
carried-text before now fb fn out text status (inl memory) = inl memory
carried-text before now fb fn out text status (inr (inl sends)) = inr (inl (omega (arith, sends.0)))
carried-text before now fb fn out text status (inr (inr failed)) = inr (inr failed)

pub carried : (old new : Moment) (c : Command) (status : ℕ) → EndsWork old new c status → Carried old.sent new.sent old.sends new.sends status
carried old new (ToRun c) status w = carried-run old.sent new.sent old.sends new.sends _ status w.run.ran
carried old new ToImage status w = carried-text old.sent new.sent old.sends new.sends _ _ status w.sends
carried old new (ToPrint name) status w = carried-text old.sent new.sent old.sends new.sends _ _ status w.text.sends
carried old new (ToAssemble name) status w = carried-text old.sent new.sent old.sends new.sends _ _ status w.text.sends
carried old new (ToGenerate rounds) status w = carried-run old.sent new.sent old.sends new.sends _ status w.ran

-- so its status is 0, 1, 6 or 7
pub carried-status : (before now : Out → Option (List ℕ)) (fb fn status : ℕ) → Carried before now fb fn status → (status ≤ 1) ⊎ ((status ≡ 6) ⊎ (status ≡ 7))
carried-status before now fb fn status (inl memory) = inr (inr memory.0)
carried-status before now fb fn status (inr (inl low)) = inl low
carried-status before now fb fn status (inr (inr failed)) = inr (inl failed.0)

-- and one text's 0, 6 or 7
pub text-status : (before now : Out → Option (List ℕ)) (fb fn : ℕ) (out : Out) (text : List ℕ) (status : ℕ) → MakesText before now fb fn out text status → (status ≡ 0) ⊎ ((status ≡ 6) ⊎ (status ≡ 7))
text-status before now fb fn out text status (inl memory) = inr (inr memory.0)
text-status before now fb fn out text status (inr (inl sends)) = inl sends.0
text-status before now fb fn out text status (inr (inr failed)) = inr (inl failed.0)

-- what the statuses say of it
module _ (before now : Out → Option (List ℕ)) (fb fn status : ℕ) where
  pub carried-wrote : Carried before now fb fn status → status ≡ 6 → Rose fb fn
  carried-wrote (inl memory) e = absurd (omega (arith, memory.0, e))
  carried-wrote (inr (inl low)) e = absurd (omega (arith, low, e))
  carried-wrote (inr (inr failed)) e = failed.1

  pub carried-memory : Carried before now fb fn status → status ≡ 7 → Grew (before Report) (now Report) memory_line
  carried-memory (inl memory) e = memory.2
  carried-memory (inr (inl low)) e = absurd (omega (arith, low, e))
  carried-memory (inr (inr failed)) e = absurd (omega (arith, failed.0, e))

  pub carried-quiet : Carried before now fb fn status → 1 < status → status ≢ 6 → OnlyReports before now
  carried-quiet (inl memory) high other = memory.1
  carried-quiet (inr (inl low)) high other = absurd (omega (arith, low, high))
  carried-quiet (inr (inr failed)) high other = absurd (other failed.0)

  pub carried-five : {P : Type 0} → Carried before now fb fn status → status ≡ 5 → P
  carried-five (inl memory) e = absurd (omega (arith, memory.0, e))
  carried-five (inr (inl low)) e = absurd (omega (arith, low, e))
  carried-five (inr (inr failed)) e = absurd (omega (arith, failed.0, e))

pub listed-run : (result : ℕ) → (result ≤ 1) ⊎ ((result ≡ 6) ⊎ (result ≡ 7)) → IsStatus result
listed-run result (inl low) = omega (arith, low)
listed-run result (inr (inl e)) = omega (arith, e)
listed-run result (inr (inr e)) = omega (arith, e)

-- a refusal's status is no run's, and is listed
refusal-range : (r : Refusal) → (3 ≤ refusals.status_of r) × (refusals.status_of r ≤ 9)
refusal-range (Program fault) = (omega arith, omega arith)
refusal-range (Schedule fault) = (omega arith, omega arith)
refusal-range (Config fault) = (omega arith, omega arith)
refusal-range (Text fault) = (omega arith, omega arith)
refusal-range (Unread name) = (omega arith, omega arith)
refusal-range Memory = (omega arith, omega arith)

pub refusal-high : (r : Refusal) (result : ℕ) → (result ≡ refusals.status_of r) ⊎ (result ≡ 6) → (3 ≤ result) × (result ≤ 9)
refusal-high r result (inr e) = (omega (arith, e), omega (arith, e))
refusal-high r result (inl e) = rw e (refusal-range r)

pub not-done : {P : Type 0} (result : ℕ) → 2 ≤ result → (result ≡ 0) ⊎ (result ≡ 1) → P
not-done result high (inl e) = absurd (omega (arith, high, e))
not-done result high (inr e) = absurd (omega (arith, high, e))

-- neither 0, 1, 5, 6 nor 7 is a file's fault
faulty-range : (result : ℕ) → IsFaulty result → (2 < result) × ((result < 5) ⊎ (7 < result))
faulty-range result (inl e) = (omega (arith, e), inl (omega (arith, e)))
faulty-range result (inr (inl e)) = (omega (arith, e), inl (omega (arith, e)))
faulty-range result (inr (inr (inl e))) = (omega (arith, e), inr (omega (arith, e)))
faulty-range result (inr (inr (inr e))) = (omega (arith, e), inr (omega (arith, e)))

outside : {P : Type 0} (result : ℕ) → 5 ≤ result → result ≤ 7 → (result < 5) ⊎ (7 < result) → P
outside result low high (inl below) = absurd (omega (arith, low, below))
outside result low high (inr above) = absurd (omega (arith, high, above))

pub not-faulty : {P : Type 0} (result : ℕ) → (result ≤ 1) ⊎ ((result ≡ 6) ⊎ (result ≡ 7)) → IsFaulty result → P
not-faulty result (inl low) f = absurd (let some = (faulty-range result f).0 in omega (arith, low, some))
not-faulty result (inr (inl e)) f = outside result (omega (arith, e)) (omega (arith, e)) (faulty-range result f).1
not-faulty result (inr (inr e)) f = outside result (omega (arith, e)) (omega (arith, e)) (faulty-range result f).1

pub five-faulty : {P : Type 0} (result : ℕ) → result ≡ 5 → IsFaulty result → P
five-faulty result e f = outside result (omega (arith, e)) (omega (arith, e)) (faulty-range result f).1

-- a status that comes with its report alone is above 1, and isn't that of a failed sending
pub quiet-range : (result : ℕ) → (result ≡ 2) ⊎ IsQuiet result → (1 < result) × (result ≢ 6)
quiet-range result (inl e) = (omega (arith, e), λ six. omega (arith, e, six))
quiet-range result (inr (inl f)) = (let some = (faulty-range result f).0 in omega (arith, some), λ six. outside result (omega (arith, six)) (omega (arith, six)) (faulty-range result f).1)
quiet-range result (inr (inr (inl e))) = (omega (arith, e), λ six. omega (arith, e, six))
quiet-range result (inr (inr (inr e))) = (omega (arith, e), λ six. omega (arith, e, six))
