-- From WORK on the tasks are done, and then a function is called or a context is taken up.
use Rattle.std.proofs.Common.{◌≡◌, ℕ, ◌+◌, ◌%◌, ◌≤◌, List, sym, subst, arith}
use Rattle.std.specs.Prelude.{nat_eq}
use Rattle.std.proofs.lemmas.Bool.{eqb-true}
use Rattle.psx_base.specs.Memory.{Memory}
use Rattle.psx_base.specs.Registers.{Registers}
use Rattle.psx_cpu.specs.Processor.{Cop0}
use Rattle.psx_flow.specs.Meets.{Goal}
use Rattle.psx_flow.specs.Plain.{kernel_core}
use Rattle.psx_flow.specs.Run.{Run, state_at}
use Rattle.kern_layout.specs.Stands.{HoldsRom}
use Rattle.abs_kernel.specs.Stay.{Stay}
use Rattle.abs_run.specs.Serves.{Runs}
use Rattle.kern_stay.specs.declared.places.TheConstants.{WORK, PUSH, TAKE_UP}
use Rattle.kern_stay.specs.Doors.{Works, CallsBack, TakesUp, AtWork, AtCall, Nowhere, IsMade, begun, most_work_steps, most_push_steps, most_take_up_steps}
use Rattle.kern_entry.specs.Holding.{HoldsEntry}
use Rattle.kern_entry.specs.WorkLaws.{WorkServes, PushServes, TakeUpServes}
use Rattle.kern_image.proofs.StaysRuns.{runs_least}
use Rattle.kern_image.proofs.StaysMade.{split}
use Rattle.kern_image.proofs.StaysDoors.{at_core, IsValid, entry_kept, rom_kept}
use Rattle.kern_image.proofs.StaysServed.{work_limit}
use Rattle.kern_image.proofs.StaysThrough.{Onward, stage}

-- the doors ask for registers and memory alone
works_begun : (x : Stay) (e : Run) → Works x e → Works x (begun e.regs e.cop0 e.bytes)
works_begun x e h = record { state = h.state; context = h.context; tasks = h.tasks; is = h.is; working = h.working; holds = h.holds; there = h.there }

calls_begun : (x : Stay) (e : Run) → CallsBack x e → CallsBack x (begun e.regs e.cop0 e.bytes)
calls_begun x e h = record { state = h.state; context = h.context; tasks = h.tasks; is = h.is; working = h.working; holds = h.holds; there = h.there }

takes_begun : (x : Stay) (e : Run) → TakesUp x e → TakesUp x (begun e.regs e.cop0 e.bytes)
takes_begun x e h = record { state = h.state; context = h.context; is = h.is; working = h.working; holds = h.holds }

module _ (rom : List ℕ) (work : WorkServes) (push : PushServes) (take_up : TakeUpServes) where
  -- a door's listing makes what is left
  made : (m : Memory) (words : HoldsEntry m) (code : HoldsRom m rom) (door : Stay → Goal) (further : Stay → (to : ℕ) → Goal) (limit : ℕ) → Onward rom m words code further limit → (most rest at : ℕ) → 73 ≤ rest → limit ≤ rest → IsMade m most door further at
      → (a b c : ℕ) (x : Stay) → IsValid x → (d : Registers) (z : Cop0) → z.sr % 2 ≡ 0 → door x (begun d z m) → Runs rom x (rest + most) (at_core rom a b c (kernel_core (state_at (begun d z m) at)))
  made m words code door further limit onward most rest at some room s a b c x v d z off h =
      stage rom m words code further limit onward most most (λ n few less. few) a b c x v s.listing at s.placed d z off s.own s.own_placed rest some (omega (arith, room)) (s.makes x d z m h)

  nowhere : (m : Memory) (words : HoldsEntry m) (code : HoldsRom m rom) → Onward rom m words code Nowhere 0
  nowhere m words code a b c x v to e ke h = absurd h

  -- at PUSH and TAKE_UP, 73 steps behind the longer of them
  pub at_call : (m : Memory) (words : HoldsEntry m) (code : HoldsRom m rom) → Onward rom m words code AtCall (73 + most_push_steps)
  at_call m words code a b c x v to e ke h =
      let n : Memory = e.bytes in
      let w : HoldsEntry n = entry_kept rom a b c m n ke.bytes words in
      let k : HoldsRom n rom = rom_kept rom a b c m n ke.bytes code in
      let R : ℕ → Type 0 = λ j. Runs rom x (73 + most_push_steps) (at_core rom a b c (kernel_core (state_at e j))) in
      split (nat_eq to PUSH) _ _ (R to)
      (λ is y. subst R (sym (eqb-true to PUSH is)) (made n w k CallsBack Nowhere 0 (nowhere n w k) most_push_steps 73 PUSH (omega arith) (omega arith) (push n w) a b c x v e.regs e.cop0 ke.masked (calls_begun x e y)))
      (λ no z. split (nat_eq to TAKE_UP) _ _ (R to)
      (λ is y. subst R (sym (eqb-true to TAKE_UP is))
      (runs_least rom x (73 + most_take_up_steps) (73 + most_push_steps) _ (omega arith)
      (made n w k TakesUp Nowhere 0 (nowhere n w k) most_take_up_steps 73 TAKE_UP (omega arith) (omega arith) (take_up n w) a b c x v e.regs e.cop0 ke.masked (takes_begun x e y))))
      (λ other y. absurd y) z) h

  pub at_work : (m : Memory) (words : HoldsEntry m) (code : HoldsRom m rom) → Onward rom m words code AtWork work_limit
  at_work m words code a b c x v to e ke h =
      let n : Memory = e.bytes in
      let w : HoldsEntry n = entry_kept rom a b c m n ke.bytes words in
      let k : HoldsRom n rom = rom_kept rom a b c m n ke.bytes code in
      subst (λ j. Runs rom x work_limit (at_core rom a b c (kernel_core (state_at e j)))) (sym h.0)
      (made n w k Works AtCall (73 + most_push_steps) (at_call n w k) most_work_steps (73 + most_push_steps) WORK (omega arith) (omega arith) (work n w) a b c x v e.regs e.cop0 ke.masked (works_begun x e h.1))
