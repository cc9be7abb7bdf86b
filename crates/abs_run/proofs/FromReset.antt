-- The run from reset up to the first return, or up to the budget before it.
use Rattle.std.specs.Prelude.{All}
use Rattle.std.proofs.Common.{◌≡◌, ℕ, zero, suc, ◌+◌, ◌^◌, ◌<◌, ◌≤◌, ◌⊎◌, inl, inr, Bool, true, false, List, [], ◌∷◌, refl, sym, ap, subst, ◌∙◌, arith}
use Rattle.std.specs.Prelude.{nat_eq}
use Rattle.std.proofs.lemmas.Bool.{and_parts}
use Rattle.psx_base.specs.declared.stop.Stop.TheVariants.{Budget}
use Rattle.psx_base.specs.declared.stop.Sizes.{Sizes}
use Rattle.psx_base.specs.Items.{B, S, R}
use Rattle.psx_base.specs.Addresses.{user}
use Rattle.psx_sched.specs.declared.schedule.Entry.{Entry}
use Rattle.psx_exe.specs.declared.exe.Exe.{Exe}
use Rattle.psx_exe.proofs.Placing.{safe}
use Rattle.psx_cpu.specs.Step.{Move, Goes, Reads, Leaves, step}
use Rattle.psx_ports.specs.History.{Given, Read, start_answer}
use Rattle.psx_board.specs.Machine.{Machine, given, start}
use Rattle.psx_board.specs.Delivery.{delivered}
use Rattle.psx_board.specs.Entries.{return}
use Rattle.psx_board.specs.Turn.{Turn, On, bus_of, moved, accessed, shown, by_move}
use Rattle.psx_board.specs.Run.{Outcome, run, then_run, behind}
use Rattle.kern_layout.specs.Start.{SizesFit}
use Rattle.kern_layout.specs.Stands.{Stands, SameUser}
use Rattle.abs_run.specs.Accepted.{IsAccepted, AreBytes, opening, program_memory}
use Rattle.abs_run.specs.InWords.{CoreFits, MoveFits}
use Rattle.abs_run.specs.InKernel.{side_of}
use Rattle.abs_run.specs.Serves.{Boots, BootMakes}
use Rattle.abs_run.specs.Invariant.{accesses_of, OnlyStartReads}
use Rattle.abs_run.proofs.Answers.{GivenFits, if-small}
use Rattle.abs_run.proofs.StepWords.{steps_keep_words, reset-fits}
use Rattle.abs_run.proofs.Delivered.{entries-fit, Arrives, MachineFits, delivers, delivered-fits, bus-small}
use Rattle.abs_run.proofs.Counts.{run-zero, run-suc}
use Rattle.abs_run.proofs.PortAsked.{read-answered, start-answered}

-- ---- what a program gives

user-below : (a : ℕ) → user a ≡ true → a < 2 ^ 32
unfolding user
user-below a h = grind arith

given-fits : (exe : Exe) (sizes : Sizes) → IsAccepted exe → SizesFit sizes → GivenFits (given exe sizes)
given-fits exe sizes acc fit =
    let s = safe exe acc.readable in
    let t = fit.threads_most in
    let e = fit.events_most in
    record {
      pc = user-below exe.pc (and_parts _ _ s.start).1;
      gp = acc.word;
      sp = if-small (nat_eq exe.sp_base 0) _ _ (2 ^ 32) (omega arith) (omega arith);
      threads = omega arith;
      events = omega arith;
    }

module _ (rom : List ℕ) (exe : Exe) (sizes : Sizes) where
  -- the board in the boot code
  record InBoot (m : Machine) : Type 0 where
    began : m.began ≡ false
    given : m.history.given ≡ given exe sizes
    reads : OnlyStartReads (accesses_of m.history.events)
    fits : MachineFits m
    words : CoreFits m.core

  -- and behind the first return
  pub record Started (m : Machine) : Type 0 where
    pub stands : Stands (side_of m.core) m.core.bytes (opening exe sizes) rom
    pub began : m.began ≡ true
    pub given : m.history.given ≡ given exe sizes
    pub reads : OnlyStartReads (accesses_of m.history.events)
    pub fits : MachineFits m
    pub words : CoreFits m.core

  -- the budget ends the run in the boot code
  pub record CutOff (m : Machine) (n : ℕ) (o : Outcome) : Type 0 where
    pub count : ℕ
    pub counted : count ≡ m.history.now + n
    pub items : o.items ≡ S count Budget ∷ []
    pub silent : o.tty ≡ []
    pub memory : SameUser o.last.core.bytes (program_memory exe)

  -- the run comes to the first return in k steps
  pub record Comes (m : Machine) (k : ℕ) (o : Outcome) : Type 0 where
    pub next : Machine
    pub left : ℕ
    pub is : o ≡ behind (B next.history.now ∷ []) [] (run left next)
    pub counted : next.history.now ≡ m.history.now + k
    pub started : Started next

  abbrev pub BootRun : ℕ → ℕ → Machine → Outcome → Type 0
  BootRun k n m o = ((n < k) × CutOff m n o) ⊎ ((k ≤ n) × Comes m k o)

  later : (k n : ℕ) (m next : Machine) (o : Outcome) → next.history.now ≡ m.history.now + 1 → BootRun k n next o → BootRun (suc k) (suc n) m o
  later k n m next o e (inl (less, h)) = let c = h.counted in inl (omega arith, record { count = h.count; counted = omega arith; items = h.items; silent = h.silent; memory = h.memory })
  later k n m next o e (inr (low, h)) = let c = h.counted in inr (omega arith, record { next = h.next; left = h.left; is = h.is; counted = omega arith; started = h.started })

  abbrev Rest : ℕ → ℕ → Type 0
  Rest k n = (m : Machine) → InBoot m → Boots rom exe sizes k m.core → BootRun k n m (run n m)

  module _ (m : Machine) (h : InBoot m) where
    abbrev d : Machine
    d = delivered m

    arrived : Arrives m.history d.history
    arrived = delivers m h.fits

    fit : MachineFits d
    fit = delivered-fits m h.fits

    still : OnlyStartReads (accesses_of d.history.events)
    still = subst OnlyStartReads (sym arrived.passes.accesses) h.reads

    same_given : d.history.given ≡ given exe sizes
    same_given = arrived.passes.given ∙ h.given

    counted : d.history.now + 1 ≡ m.history.now + 1
    counted = ap (λ (c : ℕ). c + 1) arrived.count

    on-move : (k n : ℕ) (move : Move) → step d.core (bus_of d) ≡ move → MoveFits move → Rest k n → BootMakes rom exe sizes k move (Boots rom exe sizes k) → BootRun (suc k) (suc n) m (then_run (by_move d move) (run n))
    on-move k n (Goes next) is w rest b =
        later k n m (moved d next) (run n (moved d next)) counted
        (rest (moved d next) (record { began = h.began; given = same_given; reads = still; fits = record { history = record { given = fit.history.given; bytes = fit.history.bytes }; waiting = fit.waiting }; words = w }) b)
    on-move k n (Reads next at value) is w rest b =
        let after = moved (accessed d (Read d.history.now at)) next in
        let v : value ≡ start_answer (given exe sizes) at 0 = read-answered d next at value is ∙ start-answered d.history at b.0 ∙ ap (λ (g : Given). start_answer g at 0) same_given in
        subst (λ (t : Turn). BootRun (suc k) (suc n) m (then_run t (run n))) (ap (λ (x : Bool). On after (shown x (R d.history.now at value)) []) (sym h.began))
        (later k n m after (run n after) counted
        (rest after (record { began = h.began; given = same_given; reads = (b.0, still); fits = record { history = record { given = fit.history.given; bytes = fit.history.bytes }; waiting = fit.waiting }; words = w }) (b.1 v)))
    on-move zero n (Leaves next) is w rest b =
        let after = record (moved d next) { began = true } in
        subst (λ (t : Turn). BootRun 1 (suc n) m (then_run t (run n))) (ap (λ (x : Bool). On after (return d.history.now x next ∷ []) []) (sym h.began))
        (inr (
          omega arith,
          record {
            next = after;
            left = n;
            is = refl;
            counted = counted;
            started = record { stands = b; began = refl; given = same_given; reads = still; fits = record { history = record { given = fit.history.given; bytes = fit.history.bytes }; waiting = fit.waiting }; words = w };
          },
        ))
    on-move _ n _ is w rest b = absurd b

  boot_run : (k n : ℕ) → Rest k n
  boot_run zero n m h b = absurd b
  boot_run (suc k) zero m h b =
      subst (BootRun (suc k) zero m) (sym (run-zero m)) (inl (omega arith, record { count = m.history.now; counted = omega arith; items = refl; silent = refl; memory = b.0 }))
  boot_run (suc k) (suc n) m h b =
      subst (BootRun (suc k) (suc n) m) (sym (run-suc n m))
      (on-move m h k n (step (delivered m).core (bus_of (delivered m))) refl (steps_keep_words (delivered m).core (bus_of (delivered m)) h.words (bus-small (delivered m) (delivered-fits m h.fits))) (boot_run k n) (b.1 (bus_of (delivered m)) (bus-small (delivered m) (delivered-fits m h.fits))))

  -- each run from reset
  pub from_reset : (k n : ℕ) (schedule : List Entry) → All (λ (b : ℕ). b < 2 ^ 8) rom → IsAccepted exe → SizesFit sizes → AreBytes schedule → Boots rom exe sizes k (start rom exe sizes schedule).core
      → BootRun k n (start rom exe sizes schedule) (run n (start rom exe sizes schedule))
  from_reset k n schedule small acc fit bytes b =
      boot_run k n (start rom exe sizes schedule) (record { began = refl; given = refl; reads = tt; fits = record { history = record { given = given-fits exe sizes acc fit; bytes = tt }; waiting = entries-fit schedule bytes }; words = reset-fits rom exe small acc.bytes }) b
