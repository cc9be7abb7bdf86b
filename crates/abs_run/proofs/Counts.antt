-- The counts of a run's items don't fall.
use Rattle.std.proofs.Common.{◌≡◌, ℕ, zero, suc, ◌+◌, ◌≤◌, Bool, true, false, List, [], ◌∷◌, ◌++◌, refl, sym, subst, ◌∙◌, arith}
use Rattle.std.specs.Prelude.{if◌then◌else◌, nat_le, ◌&&◌}
use Rattle.psx_base.specs.Ports.{CONSOLE_STATUS, HALT}
use Rattle.psx_base.specs.declared.stop.Stop.TheVariants.{Budget}
use Rattle.psx_base.specs.Items.{Item, R, W}
use Rattle.psx_sched.specs.declared.schedule.What.{What}
use Rattle.psx_sched.specs.declared.schedule.What.TheVariants.{Byte, Line}
use Rattle.psx_sched.specs.declared.schedule.Entry.{Entry}
use Rattle.psx_cpu.specs.Processor.{Core}
use Rattle.psx_cpu.specs.Step.{Move, Goes, Reads, Writes, Enters, Leaves, Stops, step}
use Rattle.psx_ports.specs.declared.PortDid.{PortDid}
use Rattle.psx_ports.specs.declared.PortDid.TheVariants.{Quiet, Tty, Halt}
use Rattle.psx_ports.specs.History.{History, Write, written, line}
use Rattle.psx_board.specs.Machine.{Machine}
use Rattle.psx_board.specs.Delivery.{arrived, all_arrived, delivered, due}
use Rattle.psx_board.specs.Entries.{entry, return}
use Rattle.psx_board.specs.Turn.{Turn, On, Final, bus_of, moved, accessed, shown, after_write, by_move, stepped, turn}
use Rattle.psx_board.specs.Run.{run, then_run, ended}
use Rattle.abs_run.specs.KernelRun.{count_of, Rising}

pub run-zero : (m : Machine) → run zero m ≡ ended m Budget
unfolding run
run-zero m = refl

pub run-suc : (n : ℕ) (m : Machine) → run (suc n) m ≡ then_run (stepped (delivered m)) (run n)
unfolding run turn
run-suc n m = refl

arrived-now : (h : History) (what : What) → (arrived h what).now ≡ h.now
arrived-now h (Byte byte) = refl
arrived-now h (Line line) = refl

all_arrived-now : (h : History) (es : List Entry) → (all_arrived h es).now ≡ h.now
all_arrived-now h [] = refl
all_arrived-now h (e ∷ es) = all_arrived-now (arrived h e.what) es ∙ arrived-now h e.what

pub delivered-now : (m : Machine) → (delivered m).history.now ≡ m.history.now
delivered-now m = all_arrived-now m.history (due m.history.now m.waiting)

rising-from : (a b : ℕ) (items : List Item) → a ≤ b → Rising b items → Rising a items
rising-from a b [] low h = tt
rising-from a b (item ∷ rest) low h = let first = h.0 in (omega arith, h.1)

-- a step shows one item at most, with the count before it or after it
abbrev Few : ℕ → List Item → Type 0
Few now [] = Unit {0}
Few now (item ∷ []) = (now ≤ count_of item) × (count_of item ≤ now + 1)
Few now (item ∷ other ∷ rest) = ⊥

abbrev TurnRises : ℕ → Turn → Type 0
TurnRises now (On next items tty) = (next.history.now ≡ now + 1) × Few now items
TurnRises now (Final last stop) = now ≤ last.history.now

few-shown : (b : Bool) (now : ℕ) (item : Item) → count_of item ≡ now → Few now (shown b item)
few-shown true now item e = (omega arith, omega arith)
few-shown false now item e = tt

few-if : (b : Bool) (now : ℕ) (items : List Item) → Few now items → Few now (if b then [] else items)
few-if true now items h = tt
few-if false now items h = h

few-return : (b : Bool) (now : ℕ) (k : Core) → Few now (return now b k ∷ [])
few-return true now k = (omega arith, omega arith)
few-return false now k = (omega arith, omega arith)

write-rises : (d : Machine) (k : Core) (at value : ℕ) (did : PortDid) → TurnRises d.history.now (after_write d at value did (moved (accessed d (Write d.history.now at value)) k))
write-rises d k at value Quiet = (refl, few-if (nat_le CONSOLE_STATUS at && nat_le at HALT) d.history.now _ (few-shown d.began d.history.now (W d.history.now at value) refl))
write-rises d k at value (Tty byte) = (refl, few-if (nat_le CONSOLE_STATUS at && nat_le at HALT) d.history.now _ (few-shown d.began d.history.now (W d.history.now at value) refl))
write-rises d k at value (Halt stop) = omega arith

move-rises : (d : Machine) (move : Move) → TurnRises d.history.now (by_move d move)
move-rises d (Goes next) = (refl, tt)
move-rises d (Reads next at value) = (refl, few-shown d.began d.history.now (R d.history.now at value) refl)
move-rises d (Writes next at value) = write-rises d next at value (written d.history at value)
move-rises d (Enters next code) = (refl, few-shown d.began d.history.now (entry d.history.now code (line d.history) next) refl)
move-rises d (Leaves next) = (refl, few-return d.began d.history.now next)
move-rises d (Stops stop) = omega arith

rising-append : (now : ℕ) (items rest : List Item) → Few now items → Rising (now + 1) rest → Rising now (items ++ rest)
rising-append now [] rest few h = rising-from now (now + 1) rest (omega arith) h
rising-append now (item ∷ []) rest few h = (few.0, rising-from (count_of item) (now + 1) rest few.1 h)
rising-append now (item ∷ other ∷ more) rest few h = absurd few

turn-rises : (now n : ℕ) (t : Turn) → TurnRises now t → ((m : Machine) → Rising m.history.now (run n m).items) → Rising now (then_run t (run n)).items
turn-rises now n (On next items tty) h rest = rising-append now items (run n next).items h.1 (subst (λ (c : ℕ). Rising c (run n next).items) h.0 (rest next))
turn-rises now n (Final last stop) h rest = (h, tt)

pub run-rises : (n : ℕ) (m : Machine) → Rising m.history.now (run n m).items
run-rises zero m = subst (λ o. Rising m.history.now o.items) (sym (run-zero m)) (omega arith, tt)
run-rises (suc n) m =
    subst (λ o. Rising m.history.now o.items) (sym (run-suc n m))
    (subst (λ (c : ℕ). Rising c (then_run (stepped (delivered m)) (run n)).items) (delivered-now m)
    (turn-rises (delivered m).history.now n (stepped (delivered m)) (move-rises (delivered m) (step (delivered m).core (bus_of (delivered m)))) (run-rises n)))
