-- From steps and stays that are served to whole runs, by induction on the budget.
use Rattle.std.proofs.Common.{◌≡◌, ℕ, zero, suc, ◌+◌, Bool, true, false, Option, Some, None, List, [], ◌∷◌, ⊎_elim, ne_eqb, refl, sym, ap, subst, ◌∙◌, inl, inr, ◌⊎◌, arith}
use Rattle.std.specs.Prelude.{nat_eq, if◌then◌else◌}
use Rattle.std.proofs.lemmas.Bool.{false≢true, cases_eq}
use Rattle.psx_base.specs.Memory.{Memory}
use Rattle.psx_base.specs.Context.{Context, epc_of}
use Rattle.psx_base.specs.Items.{Entrance, ByA, ByB, ByC, BySyscall, ByInterrupt, ByDone, ByBack, ByTrap, Item, E, S}
use Rattle.psx_base.specs.declared.address.Gate.{Gate}
use Rattle.psx_base.specs.declared.address.Gate.TheVariants.{A, B, C, Done, Back}
use Rattle.psx_base.specs.Addresses.{gate_of}
use Rattle.psx_base.specs.Entrances.{by_gate, by_syscall}
use Rattle.psx_base.specs.KernelState.{KernelState}
use Rattle.psx_cpu.specs.Processor.{Core, Bus, Trap}
use Rattle.psx_cpu.specs.Exceptions.{enter, takes_interrupt}
use Rattle.psx_cpu.specs.Step.{Move, Goes, Enters, Stops, entered, step}
use Rattle.psx_cpu.specs.UserStep.{UserMove, Next, Raises, Halts, user_step}
use Rattle.psx_ports.specs.History.{History, line}
use Rattle.psx_board.specs.Machine.{Machine}
use Rattle.psx_board.specs.Delivery.{delivered}
use Rattle.psx_board.specs.Entries.{entry}
use Rattle.psx_board.specs.Turn.{Turn, On, bus_of, moved, shown, by_move, stepped}
use Rattle.psx_board.specs.Run.{Outcome, run, then_run}
use Rattle.abs_kernel.specs.Cause.{entrance_of, entry_of}
use Rattle.abs_kernel.specs.KernelStep.{stay_of}
use Rattle.abs_kernel.specs.UserLaws as UserLaws
use Rattle.abs_kernel.proofs.Ends.{valid_kept}
use Rattle.abs_kernel.proofs.UserSteps.{user_step_keeps_valid}
use Rattle.abs_run.specs.InWords.{CoreFits, MoveFits}
use Rattle.abs_run.specs.InKernel.{in_kernel}
use Rattle.abs_run.specs.Entered.{coming, interrupt, bound_of}
use Rattle.abs_run.specs.Serves.{Finishes, most_interrupt_steps, ServesRom}
use Rattle.abs_run.specs.InTime.{latest_return, InterruptsInTime}
use Rattle.abs_run.specs.KernelRun.{Place, User, RunsFrom}
use Rattle.abs_run.specs.Invariant.{EntersAt, IsInvariant, EachEntry}
use Rattle.abs_run.proofs.UserSide.{UserMade, step-made}
use Rattle.abs_run.proofs.StepWords.{steps_keep_words}
use Rattle.abs_run.proofs.Delivered.{Arrives, delivers, delivered-fits, bus-small}
use Rattle.abs_run.proofs.Entering.{item_of, entry-is}
use Rattle.abs_run.proofs.Counts.{run-zero, run-suc}
use Rattle.abs_run.proofs.Standing.{stands-on, takes-on}
use Rattle.abs_run.proofs.Staying as stay

step-interrupt : (k : Core) (bus : Bus) → takes_interrupt k.processor bus.line ≡ true → step k bus ≡ entered k interrupt
unfolding step
step-interrupt k bus h = rw h refl

-- a code by which an interrupt enters
of_interrupt : (c : Context) (code : ℕ) → entrance_of c code ≡ ByInterrupt → code ≡ 0
of_interrupt c code e = ⊎_elim (λ (z : code ≡ 0). z) (λ (ne : code ≡ 0 → ⊥). absurd (no_interrupt (nat_eq code 8) (sym (ap (λ b. if b then ByInterrupt else (if nat_eq code 8 then by_syscall c.in_slot (gate_of (epc_of c)) else ByTrap)) (ne_eqb code 0 ne)) ∙ e))) (cases_eq code 0)
  where
    is_interrupt : Entrance → Bool
    is_interrupt ByInterrupt = true
    is_interrupt _ = false

    by_gates : (g : Gate) → is_interrupt (by_gate g) ≡ false
    by_gates A = refl
    by_gates B = refl
    by_gates C = refl
    by_gates Done = refl
    by_gates Back = refl

    not_syscall : (slot : Bool) (g : Option Gate) → is_interrupt (by_syscall slot g) ≡ false
    not_syscall true g = refl
    not_syscall false None = refl
    not_syscall false (Some g) = by_gates g

    no_interrupt : (b : Bool) → (if b then by_syscall c.in_slot (gate_of (epc_of c)) else ByTrap) ≡ ByInterrupt → ⊥
    no_interrupt true q = false≢true (sym (not_syscall c.in_slot (gate_of (epc_of c))) ∙ ap is_interrupt q)
    no_interrupt false q = false≢true (ap is_interrupt q)

module _ (covers : KernelState → ℕ → Type 0) (keeps : KernelState → History → Type 0) (shows : Entrance → ℕ → Type 0) (rom : List ℕ) (serves : ServesRom covers rom) (inv : IsInvariant covers keeps shows) where
  abbrev Holds : Place → List ℕ → Outcome → Type 0
  Holds place bytes o = stay.Holds covers keeps shows rom serves inv place None bytes o

  abbrev AtUser : KernelState → Machine → Type 0
  AtUser s m = stay.AtUser covers keeps shows rom serves inv s m

  abbrev Main : ℕ → Type 0
  Main n = stay.Main covers keeps shows rom serves inv n

  -- ---- user code

  -- a user step in front
  more_user : (items : List Item) (s : KernelState) (c : Context) (x : Memory) (count : ℕ) (tty : List ℕ) (ram : Memory) → coming s ≡ Next c x → RunsFrom items (User (UserLaws.stepped s c x) (count + 1)) tty ram → RunsFrom items (User s count) tty ram
  more_user (E at cause epc gate number ∷ rest) s c x count tty ram e (k, t, trap, steps, counted, may, shown, goes) = (suc k, t, trap, (c, x, e, steps), omega arith, may, shown, goes)
  more_user (S at stop ∷ []) s c x count tty ram e h =
      let counted = h.counted in
      record { steps = suc h.steps; state = h.state; made = (c, x, e, h.made); counted = omega arith; stops = h.stops; silent = h.silent; memory = h.memory }
  more_user _ s c x count tty ram e h = absurd h

  may-enter : (s : KernelState) (h : History) (trap : Trap) → EntersAt s h trap → (coming s ≡ Raises trap) ⊎ ((trap ≡ interrupt) × (s.running.interrupts ≡ true))
  may-enter s h trap (inl e) = inl e
  may-enter s h trap (inr e) = inr (e.0, e.1)

  module _ (n : ℕ) (main : Main (suc n)) (s : KernelState) (m : Machine) (u : AtUser s m) where
    abbrev here : Machine
    here = delivered m

    abbrev UserGoal : Turn → Type 0
    UserGoal t = Holds (User s m.history.now) [] (then_run t (run n))

    arrived : Arrives m.history here.history
    arrived = delivers m u.fits

    now-same : here.history.now ≡ m.history.now
    now-same = arrived.count

    kept : keeps s here.history
    kept = inv.time s m.history here.history u.invariant arrived.passes

    abbrev core_after : Trap → Core
    core_after trap = record here.core { processor = enter here.core.processor trap }

    entering : (trap : Trap) (line : Bool) → EntersAt s here.history trap → CoreFits (core_after trap) → UserGoal (On (moved here (core_after trap)) (item_of here.history.now line (entry_of s.running.context trap.code) ∷ []) [])
    entering trap line may words each =
        let covered = inv.covered s here.history trap u.valid kept may each.0 in
        let same = now-same in
        let next = moved here (core_after trap) in
        let h = here.history in
        let by = (entry_of s.running.context trap.code).gate in
        let goes = stay.stay_run covers keeps shows rom serves inv n (λ j x t less. main j x t (omega arith)) s trap.code (latest_return by here.history.now) [] (stay_of s trap.code) (bound_of s trap.code) next
        (record {
          behind = λ more. refl;
          valid = valid_kept s trap.code u.valid;
          since = here.history;
          returns = inv.stay s here.history trap u.valid kept may covered;
          passes = record { given = refl; accesses = refl; now = omega arith };
          began = u.began;
          fits = (let f = delivered-fits m u.fits in record { history = record { given = f.history.given; bytes = f.history.bytes }; waiting = f.waiting });
          words = words;
          timely = timely by (λ e. serves.interrupts here.core s trap (in_kernel here.core h).a (in_kernel here.core h).b (in_kernel here.core h).c u.valid u.words u.stands (may-enter s here.history trap may) covered (of_interrupt s.running.context trap.code e));
        })
        (serves.stays here.core s trap (in_kernel here.core h).a (in_kernel here.core h).b (in_kernel here.core h).c u.valid u.words u.stands (may-enter s here.history trap may) covered)
        each.1 in (
          (0, s, trap, refl, omega arith, may-enter s here.history trap may, record { line = line; causes = refl; at = refl; by = refl; named = refl }, goes.0),
          goes.1,
        )
      where
        timely : (by : Entrance) → (by ≡ ByInterrupt → Finishes most_interrupt_steps (in_kernel (core_after trap) (moved here (core_after trap)).history)) → stay.Timely covers keeps shows rom serves inv (latest_return by here.history.now) (moved here (core_after trap))
        timely ByA f = tt
        timely ByB f = tt
        timely ByC f = tt
        timely BySyscall f = tt
        timely ByInterrupt f = (most_interrupt_steps, f refl, omega arith)
        timely ByDone f = tt
        timely ByBack f = tt
        timely ByTrap f = tt

    entry-shown : (trap : Trap) → by_move here (Enters (core_after trap) trap.code) ≡ On (moved here (core_after trap)) (item_of here.history.now (line here.history) (entry_of s.running.context trap.code) ∷ []) []
    entry-shown trap =
        ap (λ (b : Bool). On (moved here (core_after trap)) (shown b (entry here.history.now trap.code (line here.history) (core_after trap))) []) u.began
        ∙ ap (λ (item : Item). On (moved here (core_after trap)) (item ∷ []) []) (entry-is here.history.now (line here.history) here.core.processor trap here.core.bytes)
        ∙ ap (λ (c : Context). On (moved here (core_after trap)) (item_of here.history.now (line here.history) (entry_of c trap.code) ∷ []) []) u.stands.context

    on-user : (move : Move) (step_of : UserMove) → MoveFits move → coming s ≡ step_of → UserMade here.core move step_of → UserGoal (by_move here move)
    on-user (Goes next) (Next c x) w e h =
        let o = run n (moved here next) in
        λ each.
        let goes = main n (moved here next) (UserLaws.stepped s c x) (omega arith)
        (record {
          stands = stands-on here.core next s c x rom u.valid u.stands h;
          valid = user_step_keeps_valid s c x u.valid e;
          invariant = inv.time (UserLaws.stepped s c x) here.history (moved here next).history (inv.user s here.history c x u.valid kept e) (record { given = refl; accesses = refl; now = omega arith });
          began = u.began;
          fits = (let f = delivered-fits m u.fits in record { history = record { given = f.history.given; bytes = f.history.bytes }; waiting = f.waiting });
          words = w;
        }) each in
        (more_user o.items s c x m.history.now o.tty o.last.core.bytes e (subst (λ (k : ℕ). RunsFrom o.items (User (UserLaws.stepped s c x) k) o.tty o.last.core.bytes) (ap (λ (k : ℕ). k + 1) now-same) goes.0), goes.1)
    on-user (Enters next code) (Raises trap) w e h =
        subst UserGoal (sym ((λ i. by_move here (Enters (h.0 i) (h.1 i))) ∙ entry-shown trap)) (entering trap (line here.history) (inl e) (subst CoreFits h.0 w))
    on-user (Stops stop) (Halts told) w e h =
        let same = now-same in
        λ each. (record { steps = 0; state = s; made = refl; counted = omega arith; stops = inl (e ∙ ap Halts (sym h)); silent = refl; memory = u.stands.user }, tt)
    on-user _ _ w e h = absurd h

    made-moves : MoveFits (step here.core (bus_of here))
    made-moves = steps_keep_words here.core (bus_of here) u.words (bus-small here (delivered-fits m u.fits))

    by-interrupt : (b : Bool) → takes_interrupt here.core.processor (line here.history) ≡ b → UserGoal (stepped here)
    by-interrupt true e =
        let on = takes-on here.core.processor (line here.history) s.running.interrupts u.stands.sr e in
        subst UserGoal (sym (ap (by_move here) (step-interrupt here.core (bus_of here) e) ∙ entry-shown interrupt)) (entering interrupt (line here.history) (inr (refl, on.1, on.0)) (subst MoveFits (step-interrupt here.core (bus_of here) e) made-moves))
    by-interrupt false e =
        on-user (step here.core (bus_of here)) (coming s) made-moves refl
        (subst (λ (c : Context). UserMade here.core (step here.core (bus_of here)) (user_step c s.memory)) u.stands.context
        (step-made here.core s.memory (bus_of here) u.stands.user u.stands.latch e (serves.gates here.core.bytes here.core.processor.context.pc u.stands.code)))

  user_run : (high : ℕ) → Main high
  user_run zero j m s less u = absurd (omega arith)
  user_run (suc high) zero m s less u =
      subst (Holds (User s m.history.now) []) (sym (run-zero m)) (λ each. (record { steps = 0; state = s; made = refl; counted = omega arith; stops = inr refl; silent = refl; memory = u.stands.user }, tt))
  user_run (suc high) (suc n) m s less u =
      subst (Holds (User s m.history.now) []) (sym (run-suc n m))
      (by-interrupt n (λ j x t lower. user_run high j x t (omega arith)) s m u (takes_interrupt m.core.processor (line (delivered m).history)) refl)

  -- each run from a user moment is the kernel machine's, and its interrupts return in time
  pub each_run : (n : ℕ) (m : Machine) (s : KernelState) → AtUser s m → EachEntry shows (run n m).items → RunsFrom (run n m).items (User s m.history.now) (run n m).tty (run n m).last.core.bytes × InterruptsInTime (run n m).items
  each_run n m s u each = user_run (suc n) n m s (omega arith) u each
