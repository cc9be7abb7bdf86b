-- Whole runs: from reset through the boot code to the program, and on as the kernel machine.
use Rattle.std.proofs.Common.{◌≡◌, ℕ, ◌⊎◌, inl, inr, List, [], ◌∷◌, sym, ap, subst, ◌∙◌, arith}
use Rattle.psx_base.specs.declared.stop.Stop.TheVariants.{Budget}
use Rattle.psx_base.specs.declared.stop.Sizes.{Sizes}
use Rattle.psx_base.specs.Ports.{CONSOLE_DATA}
use Rattle.psx_base.specs.Items.{Entrance, Item, B, E, R, W, X, S}
use Rattle.psx_base.specs.KernelState.{KernelState}
use Rattle.psx_sched.specs.declared.schedule.Entry.{Entry}
use Rattle.psx_exe.specs.declared.exe.Exe.{Exe}
use Rattle.psx_exe.specs.Placed.{stack_top}
use Rattle.psx_ports.specs.History.{History, Read, Write, then_event}
use Rattle.psx_board.specs.Machine.{Machine, start}
use Rattle.psx_board.specs.Run.{Outcome, run, board_run}
use Rattle.kern_layout.specs.Start.{SizesFit}
use Rattle.kern_layout.proofs.StartValid.{start-valid}
use Rattle.abs_run.specs.Accepted.{IsAccepted, AreBytes, opening, program_memory}
use Rattle.abs_run.specs.Serves.{ServesRom}
use Rattle.abs_run.specs.KernelRun.{User, RunsFrom, EndsInBoot, ComesToProgram}
use Rattle.abs_kernel.specs.Stay.{Stay, Return, Halt, Ask, Tell, Write as Put, Touch}
use Rattle.abs_kernel.specs.KernelStep.{stay_of}
use Rattle.abs_run.specs.Invariant.{ReturnsTo, IsInvariant, EachEntry}
use Rattle.abs_run.specs.RunLaws.{BoardRuns, BootsIn, BoardReturnsInTime, BoardBoots, always, EveryRun, EveryInterrupt}
use Rattle.abs_run.specs.InTime.{InterruptsInTime}
use Rattle.abs_run.proofs.Counts.{run-rises}
use Rattle.abs_run.proofs.Staying.{AtUser}
use Rattle.abs_run.proofs.Composition.{each_run}
use Rattle.abs_run.proofs.FromReset.{Started, BootRun, from_reset}

-- ---- the boot

boots-in : (rom : List ℕ) (exe : Exe) (sizes : Sizes) (schedule : List Entry) (k n : ℕ) (o : Outcome) → BootRun rom exe sizes k n (start rom exe sizes schedule) o → BootsIn k n o.items
boots-in rom exe sizes schedule k n o (inl (less, h)) =
    let same : h.count ≡ n = (let c = h.counted in omega arith) in
    inl (less, h.items ∙ ap (λ (c : ℕ). S c Budget ∷ []) same)
boots-in rom exe sizes schedule k n o (inr (low, h)) =
    let same : h.next.history.now ≡ k = (let c = h.counted in omega arith) in
    inr (low, (run h.left h.next).items, ap (λ (x : Outcome). x.items) h.is ∙ ap (λ (c : ℕ). B c ∷ (run h.left h.next).items) same)

pub board_boots : (covers : KernelState → ℕ → Type 0) → BoardBoots covers
board_boots covers rom serves exe sizes schedule budget acc fit bytes =
    boots-in rom exe sizes schedule serves.boot_steps budget _ (from_reset rom exe sizes serves.boot_steps budget schedule serves.bytes acc fit bytes (serves.boots exe sizes acc fit))

-- ---- the run

module _ (covers : KernelState → ℕ → Type 0) (keeps : KernelState → History → Type 0) (shows : Entrance → ℕ → Type 0) (rom : List ℕ) (serves : ServesRom covers rom) (inv : IsInvariant covers keeps shows)
    (exe : Exe) (sizes : Sizes) (acc : IsAccepted exe) (fit : SizesFit sizes) where
  at-program : (m : Machine) → Started rom exe sizes m → AtUser covers keeps shows rom serves inv (opening exe sizes) m
  at-program m st = record {
    stands = st.stands;
    valid = start-valid exe.pc exe.gp (stack_top exe) (program_memory exe) sizes fit;
    invariant = inv.begins exe sizes m.history acc fit st.given st.reads;
    began = st.began;
    fits = st.fits;
    words = st.words;
  }

  comes : (schedule : List Entry) (n : ℕ) (o : Outcome) → BootRun rom exe sizes serves.boot_steps n (start rom exe sizes schedule) o → EachEntry shows o.items
      → (EndsInBoot exe o.items o.tty o.last.core.bytes ⊎ ComesToProgram exe sizes o.items o.tty o.last.core.bytes) × InterruptsInTime o.items
  comes schedule n o (inl (less, h)) each =
      let few = serves.boot_few in let c = h.counted in
      (inl (record { count = h.count; few = omega arith; shown = h.items; silent = h.silent; memory = h.memory }), subst InterruptsInTime (sym h.items) tt)
  comes schedule n o (inr (low, h)) each =
      let few = serves.boot_few in let c = h.counted in
      let each' : EachEntry shows (run h.left h.next).items = subst (λ (x : Outcome). EachEntry shows x.items) h.is each in
      let runs = each_run covers keeps shows rom serves inv h.left h.next (opening exe sizes) (at-program h.next h.started) each' in (
        inr (record {
          count = h.next.history.now;
          rest = (run h.left h.next).items;
          few = omega arith;
          shown = ap (λ (x : Outcome). x.items) h.is;
          runs = subst (λ (x : Outcome). RunsFrom (run h.left h.next).items (User (opening exe sizes) h.next.history.now) x.tty x.last.core.bytes) (sym h.is) runs.0;
        }),
        subst (λ (x : Outcome). InterruptsInTime x.items) (sym h.is) runs.1,
      )

  come : (schedule : List Entry) (budget : ℕ) → AreBytes schedule → let o = board_run rom exe sizes schedule budget in EachEntry shows o.items
      → (EndsInBoot exe o.items o.tty o.last.core.bytes ⊎ ComesToProgram exe sizes o.items o.tty o.last.core.bytes) × InterruptsInTime o.items
  come schedule budget bytes each = comes schedule budget _ (from_reset rom exe sizes serves.boot_steps budget schedule serves.bytes acc fit bytes (serves.boots exe sizes acc fit)) each

pub board_runs : (covers : KernelState → ℕ → Type 0) (keeps : KernelState → History → Type 0) (shows : Entrance → ℕ → Type 0) → BoardRuns covers keeps shows
board_runs covers keeps shows rom serves inv exe sizes schedule budget acc fit bytes each = record {
  counts = run-rises budget (start rom exe sizes schedule);
  comes = (come covers keeps shows rom serves inv exe sizes acc fit schedule budget bytes each).0;
}

pub board_returns_in_time : (covers : KernelState → ℕ → Type 0) (keeps : KernelState → History → Type 0) (shows : Entrance → ℕ → Type 0) → BoardReturnsInTime covers keeps shows
board_returns_in_time covers keeps shows rom serves inv exe sizes schedule budget acc fit bytes each = (come covers keeps shows rom serves inv exe sizes acc fit schedule budget bytes each).1

-- ---- where everything is served

returns-always : (stay : Stay) (h : History) → ReturnsTo (λ s x. Unit {0}) stay h
returns-always (Return state) h = tt
returns-always (Halt stop memory) h = tt
returns-always (Ask port next) h = λ now value passes. returns-always (next value) (then_event now (Read now.now port))
returns-always (Tell port value next) h = λ now passes. returns-always next (then_event now (Write now.now port value))
returns-always (Put byte next) h = λ now value passes low. returns-always next (then_event now (Write now.now CONSOLE_DATA value))
returns-always (Touch bytes next) h = returns-always next h

always-invariant : IsInvariant always (λ s h. Unit {0}) (λ gate number. Unit {0})
always-invariant = record {
  begins = λ exe sizes h acc fit given reads. tt;
  time = λ s h later k passes. tt;
  user = λ s h c m v k e. tt;
  stay = λ s h trap v k e c. returns-always (stay_of s trap.code) h;
  covered = λ s h trap v k e sh. tt;
}

each-always : (items : List Item) → EachEntry (λ gate number. Unit {0}) items
each-always [] = tt
each-always (E count cause epc gate number ∷ rest) = (tt, each-always rest)
each-always (B count ∷ rest) = each-always rest
each-always (R count at value ∷ rest) = each-always rest
each-always (W count at value ∷ rest) = each-always rest
each-always (X count pc sr regs ∷ rest) = each-always rest
each-always (S count stop ∷ rest) = each-always rest

pub every_run : EveryRun
every_run rom serves exe sizes schedule budget acc fit bytes =
    board_runs always (λ s h. Unit {0}) (λ gate number. Unit {0}) rom serves always-invariant exe sizes schedule budget acc fit bytes (each-always (board_run rom exe sizes schedule budget).items)

pub every_interrupt : EveryInterrupt
every_interrupt rom serves exe sizes schedule budget acc fit bytes =
    board_returns_in_time always (λ s h. Unit {0}) (λ gate number. Unit {0}) rom serves always-invariant exe sizes schedule budget acc fit bytes (each-always (board_run rom exe sizes schedule budget).items)
