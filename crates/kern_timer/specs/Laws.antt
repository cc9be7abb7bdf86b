-- What the calls come to in the devices, said of their definitions and of the ports' alone.
use Rattle.std.specs.Prelude.{◌≡◌, ◌≢◌, ℕ, ◌%◌, ◌^◌, ◌<◌, ◌≤◌, List, [], ◌∷◌, ◌++◌, nat_eq, if◌then◌else◌}
use Rattle.std.specs.Int.{bit_at}
use Rattle.psx_base.specs.Ports.{CONSOLE_DATA}
use Rattle.psx_base.specs.KernelState.{KernelState}
use Rattle.psx_ports.specs.Counter.{Setting, setting, value_at}
use Rattle.psx_ports.specs.History.{History, Event, Read, Write, Raise, Give, then_event, acts_of, answer, i_mask}
use Rattle.abs_kernel.specs.Stay.{Stay, Return, Halt, Ask, Tell, Touch}
use Rattle.abs_kernel.specs.Stay as Stays
use Rattle.abs_kernel.specs.Answered.{registers_of, answered}
use Rattle.abs_kernel.specs.Counters.{line_of}
use Rattle.abs_kernel.specs.InitTimer.{mode_of, init_timer}
use Rattle.abs_kernel.specs.GetTimer.{get_timer}
use Rattle.abs_kernel.specs.EnableTimerIrq.{enable_timer_irq}
use Rattle.abs_kernel.specs.DisableTimerIrq.{disable_timer_irq}
use Rattle.abs_kernel.specs.RestartTimer.{restart_timer}

-- ---- the devices behind a stay

-- lines are raised and bytes given, and no port is accessed
abbrev pub AreOutside : List Event → Type 0
AreOutside [] = Unit {0}
AreOutside (Raise count line ∷ events) = AreOutside events
AreOutside (Give count byte ∷ events) = AreOutside events
AreOutside (_ ∷ events) = ⊥

-- with more that has happened, at another count
abbrev pub later : History → List Event → (now : ℕ) → History
later h more now = record h { events = more ++ h.events; now = now }

-- Where a stay returns, this holds of its state and of the devices: its accesses come at any counts, with anything from outside between them, and the devices answer what it reads.
abbrev pub Behind : (KernelState → History → Type 0) → Stay → History → Type 0
Behind P (Return state) h = P state h
Behind P (Halt stop memory) h = Unit {0}
Behind P (Ask port next) h = (more : List Event) (now : ℕ) → AreOutside more → let g = later h more now in Behind P (next (answer g port)) (then_event g (Read now port))
Behind P (Tell port value next) h = (more : List Event) (now : ℕ) → AreOutside more → Behind P next (then_event (later h more now) (Write now port value))
Behind P (Stays.Write byte next) h = (more : List Event) (now : ℕ) → AreOutside more → Behind P next (then_event (later h more now) (Write now CONSOLE_DATA byte))
Behind P (Touch bytes next) h = Behind P next h

-- ---- counters

-- what counter t runs by
abbrev pub counter : History → (t : ℕ) → Setting
counter h t = setting t (acts_of t h.events)

abbrev pub OthersStay : (t : ℕ) → (h g : History) → Type 0
OthersStay t h g = (u : ℕ) → u < 3 → u ≢ t → counter g u ≡ counter h u

-- init_timer brings the counter to 0 with this mode and target, whatever it did before, and leaves the others as they are
abbrev pub Begins : Type 0
Begins =
    (s : KernelState) (h : History) → let r = registers_of s in r.r4 < 3
    → Behind (λ u g. (counter g r.r4 ≡ record { mode = mode_of r.r6; target = r.r5 % 2 ^ 16; value = 0; since = g.now }) × OthersStay r.r4 h g) (init_timer s) h

-- restart_timer brings it to 0, and leaves its mode and its target, and the other counters
abbrev pub Restarts : Type 0
Restarts =
    (s : KernelState) (h : History) → let t = (registers_of s).r4 in t < 3
    → Behind (λ u g. (counter g t ≡ record (counter h t) { value = 0; since = g.now }) × OthersStay t h g) (restart_timer s) h

-- get_timer answers its value at the count of the read, and leaves all counters
abbrev pub Gets : Type 0
Gets =
    (s : KernelState) (h : History) → let t = (registers_of s).r4 in t < 3
    → Behind (λ u g. ((registers_of u).r2 ≡ value_at t (counter h t) g.now) × ((v : ℕ) → v < 3 → counter g v ≡ counter h v)) (get_timer s) h

-- ---- the mask

-- one line's bit is this, and each other is as before
abbrev pub ChangesLine : (line bit : ℕ) → (h g : History) → Type 0
ChangesLine line bit h g = (n : ℕ) → n < 11 → bit_at (i_mask g) n ≡ (if nat_eq n line then bit else bit_at (i_mask h) n)

abbrev pub Enables : Type 0
Enables = (s : KernelState) (h : History) → let t = (registers_of s).r4 in t < 4 → Behind (λ u g. ChangesLine (line_of t) 1 h g) (enable_timer_irq s) h

abbrev pub Disables : Type 0
Disables = (s : KernelState) (h : History) → let t = (registers_of s).r4 in t < 4 → Behind (λ u g. ChangesLine (line_of t) 0 h g) (disable_timer_irq s) h

-- ---- other numbers

-- no port is accessed, and the answer is 0
pub record OthersAnswer (s : KernelState) : Type 0 where
  pub counters : 3 ≤ (registers_of s).r4 → (init_timer s ≡ answered s 0) × (get_timer s ≡ answered s 0) × (restart_timer s ≡ answered s 0)
  pub lines : 4 ≤ (registers_of s).r4 → (enable_timer_irq s ≡ answered s 0) × (disable_timer_irq s ≡ answered s 0)

abbrev pub OtherNumbers : Type 0
OtherNumbers = (s : KernelState) → OthersAnswer s
