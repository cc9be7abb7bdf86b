-- Where nothing hinders a command it is done.
use Rattle.std.proofs.Common.{◌≡◌, ◌⊎◌, ℕ, ◌≤◌, List, Option, Ok, sym, subst, inl, inr, arith}
use Rattle.psx_base.specs.declared.host.Out.{Out}
use Rattle.psx_base.specs.Host.{Rose}
use Rattle.psx_board.specs.Run.{Outcome}
use Rattle.psxk_run.specs.declared.inputs.Inputs.{Inputs}
use Rattle.psxk_run.specs.Command.{RunWords, Command, ToRun, ToImage, ToPrint, ToAssemble, ToGenerate}
use Rattle.psxk_run.specs.Commands.{IsHindered}
use Rattle.psxk_run.specs.Complete.{IsUnhindered, EndsWith, Completes}
use Rattle.psxk_run.specs.Ends.{CommandEnds, ByWork, ByRefusal, EndsRefused, Moment, moment}
use Rattle.psxk_run.specs.Inputs.{IsTold, IsLoaded, GivesAll, workload_inputs, workload_budget}
use Rattle.psxk_run.specs.Texts.{status_of}
use Rattle.psxk_run.specs.Top.{run_of, RunsProgram}
use Rattle.psxk_run.proofs.SameAnswer.{run-same}
use Rattle.psxk_run.proofs.Statuses.{refusal-high}
use Rattle.psxk_run.proofs.Answering.{decides, is-unread, is-unsent, said}

-- a run's status
ran : (before now : Out → Option (List ℕ)) (fb fn : ℕ) (o : Outcome) (status : ℕ) → RunsProgram before now fb fn o status → (status ≡ status_of o.stop) ⊎ IsHindered status
ran before now fb fn o status (inl memory) = inr (inr (inr memory.0))
ran before now fb fn o status (inr (inl sends)) = inl sends.0
ran before now fb fn o status (inr (inr failed)) = inr (inr (inl failed.0))

module _ {H : Type 0} (holds : H → List ℕ → Option (List ℕ)) (sent : H → Out → Option (List ℕ)) (loads : H → List ℕ → ℕ) (sends : H → ℕ) (old new : H) (result : ℕ) where
  abbrev start : Moment
  start = moment holds sent loads sends old

  abbrev last : Moment
  last = moment holds sent loads sends new

  abbrev Unhindered : Type 0
  Unhindered = IsUnhindered (loads old) (loads new) (sends old) (sends new)

  -- of what hinders only want of memory is left
  freed : (c : Command) → CommandEnds start last c result → Unhindered → IsHindered result → result ≡ 7
  freed c e u (inl five) = absurd (let n = is-unread holds sent loads sends old new c result e five in u.loads n.name n.rose)
  freed c e u (inr (inl six)) = absurd (u.sends (is-unsent holds sent loads sends old new c result e six))
  freed c e u (inr (inr seven)) = seven

  ends : (c : Command) (end : ℕ) → CommandEnds start last c result → Unhindered → (result ≡ end) ⊎ IsHindered result → EndsWith end result
  ends c end e u (inl is) = inl is
  ends c end e u (inr h) = inr (freed c e u h)

  -- a refusal's status is above 1
  refused : (c : Command) (end : ℕ) → EndsRefused start last c result → (result ≤ 1) ⊎ IsHindered result → (result ≡ end) ⊎ IsHindered result
  refused c end r (inl low) = absurd (let high = (refusal-high r.refusal result (said holds sent loads sends old new c result r)).0 in omega (arith, high, low))
  refused c end r (inr h) = inr h

  run-status : (c : RunWords) (a b : Inputs) → GivesAll (IsTold (holds old)) c a → GivesAll (IsLoaded (holds old)) c b
      → (result ≡ status_of (run_of b c.budget).stop) ⊎ IsHindered result → (result ≡ status_of (run_of a c.budget).stop) ⊎ IsHindered result
  run-status c a b t l s = subst (λ (o : Outcome). (result ≡ status_of o.stop) ⊎ IsHindered result) (sym (run-same (holds old) c a b t l)) s

  pub completes : (c : Command) → CommandEnds start last c result → Unhindered → Completes (holds old) c result
  completes (ToRun c) (ByWork w) u = λ inputs given.
      let o = run_of w.inputs c.budget in
      ends (ToRun c) (status_of (run_of inputs c.budget).stop) (ByWork w) u (run-status c inputs w.inputs given w.given (ran (sent old) (sent new) (sends old) (sends new) o result w.run.ran))
  completes (ToRun c) (ByRefusal r) u = λ inputs given.
      let end = status_of (run_of inputs c.budget).stop in
      ends (ToRun c) end (ByRefusal r) u (refused (ToRun c) end r (decides holds sent loads sends old new result (ToRun c) (ByRefusal r) (Ok inputs) given))
  completes ToImage e u = ends ToImage 0 e u (decides holds sent loads sends old new result ToImage e)
  completes (ToPrint name) e u = λ exe given. ends (ToPrint name) 0 e u (decides holds sent loads sends old new result (ToPrint name) e (Ok exe) given)
  completes (ToAssemble name) e u = λ placed given. ends (ToAssemble name) 0 e u (decides holds sent loads sends old new result (ToAssemble name) e (Ok placed) given)
  completes (ToGenerate rounds) (ByWork w) u =
      let o = run_of (workload_inputs rounds) workload_budget in
      ends (ToGenerate rounds) (status_of o.stop) (ByWork w) u (ran (sent old) (sent new) (sends old) (sends new) o result w.ran)
  completes (ToGenerate rounds) (ByRefusal r) u =
      let end = status_of (run_of (workload_inputs rounds) workload_budget).stop in
      ends (ToGenerate rounds) end (ByRefusal r) u (refused (ToGenerate rounds) end r (decides holds sent loads sends old new result (ToGenerate rounds) (ByRefusal r)))
