-- The history of the ports: what they were given at the start, and what happened to them so far, newest first, each with the count of its step.
-- Every answer is a function of it. Within a step lines and bytes come first, then the access, then the counters' turns of the next count.
use Rattle.std.specs.Prelude.{ℕ, zero, suc, ◌+◌, ◌-◌, ◌%◌, ◌^◌, Bool, not, ◌&&◌, ◌||◌, nat_eq, nat_le, bit_and, List, [], ◌∷◌, ◌++◌, drop, Option, Some, None, if◌then◌else◌}
use Rattle.psx_base.specs.Ports.{I_STAT, I_MASK, COUNTERS, value_port, mode_port, target_port, CONSOLE_STATUS, CONSOLE_DATA, START_PC, START_GP, START_SP, START_THREADS, START_EVENTS, HALT, HALT_A, HALT_B, HALT_C}
use Rattle.psx_base.specs.declared.stop.Stop.{Stop}
use Rattle.psx_ports.specs.declared.PortDid.{PortDid}
use Rattle.psx_ports.specs.declared.PortDid.TheVariants.{Quiet, Tty, Halt}
use Rattle.psx_ports.specs.HaltCodes.{halt_stop}
use Rattle.psx_ports.specs.Counter.{Act, SetValue, SetMode, SetTarget, TakeMode, bit, happens, setting, value_at, mode_word, raises}

-- what the start ports read
pub record Given : Type 0 where
  pub pc : ℕ
  pub gp : ℕ
  pub sp : ℕ
  pub threads : ℕ
  pub events : ℕ

-- an access to a port, a line that is raised from outside, or a byte that is given to the console
pub data Event : Type 0 where
  Read : (count at : ℕ) → Event
  Write : (count at value : ℕ) → Event
  Raise : (count line : ℕ) → Event
  Give : (count byte : ℕ) → Event

-- now is the count up to which the counters have made their turns
pub record History : Type 0 where
  pub given : Given
  pub events : List Event
  pub now : ℕ

-- the history with an event more
abbrev pub then_event : History → Event → History
then_event h event = record h { events = event ∷ h.events }

-- the history at a later count
abbrev pub at_count : History → ℕ → History
at_count h count = record h { now = count }

-- the count of an event
abbrev pub moment : Event → ℕ
moment (Read count at) = count
moment (Write count at value) = count
moment (Raise count line) = count
moment (Give count byte) = count

-- the last value written to a port, or 0
abbrev pub last_written : List Event → ℕ → ℕ
last_written [] at = 0
last_written (Write count port value ∷ before) at = if nat_eq port at then value else last_written before at
last_written (Read count port ∷ before) at = last_written before at
last_written (Raise count line ∷ before) at = last_written before at
last_written (Give count byte ∷ before) at = last_written before at

-- ---- counters

-- whether an address is in the range of the counters' ports
abbrev pub is_counter_port : ℕ → Bool
is_counter_port at = nat_le COUNTERS at && nat_le at (COUNTERS + 0x28)

-- the accesses to counter t, with an event more
abbrev pub then_act : ℕ → Event → List Act → List Act
then_act t (Read count at) acts = if nat_eq at (mode_port t) then TakeMode count ∷ acts else acts
then_act t (Write count at value) acts =
    if nat_eq at (value_port t) then SetValue count value ∷ acts
    else (if nat_eq at (mode_port t) then SetMode count value ∷ acts
    else (if nat_eq at (target_port t) then SetTarget count value ∷ acts else acts))
then_act t (Raise count line) acts = acts
then_act t (Give count byte) acts = acts

-- the accesses to counter t
abbrev pub acts_of : ℕ → List Event → List Act
acts_of t [] = []
acts_of t (event ∷ before) = then_act t event (acts_of t before)

-- ---- interrupts (PSX-SPX, Interrupt Control)

-- whether a turn after one count and up to another raised line n: lines 4 to 6 are those of the counters
abbrev pub turned : ℕ → List Event → ℕ → ℕ → Bool
turned n events from to = (nat_le 4 n && nat_le n 6) && happens (raises (n - 4) (acts_of (n - 4) events)) from to

-- whether line n is pending after an event, by whether it was before
abbrev pub left : ℕ → Event → Bool → Bool
left n (Raise count line) before = before || nat_eq line n
left n (Write count at value) before = if nat_eq at I_STAT then before && bit value n else before
left n (Read count at) before = before
left n (Give count byte) before = before

-- whether line n is pending at a count: it was raised, and no write to I_STAT with its bit clear came after its last raise
abbrev pub pending : ℕ → List Event → ℕ → Bool
pending n [] now = turned n [] 0 now
pending n (event ∷ before) now = turned n (event ∷ before) (moment event) now || left n event (pending n before (moment event))

-- the number whose bits below n are the values of p
abbrev pub word_of : (ℕ → Bool) → ℕ → ℕ
word_of p zero = 0
word_of p (suc n) = word_of p n + (if p n then 2 ^ n else 0)

-- the pending lines
unfoldable pub i_stat : History → ℕ
i_stat h = word_of (λ n. pending n h.events h.now) 11

-- those that may interrupt
abbrev pub i_mask : History → ℕ
i_mask h = last_written h.events I_MASK % 2 ^ 11

-- whether a line that isn't masked is pending
unfoldable pub line : History → Bool
line h = not (nat_eq (bit_and (i_stat h) (i_mask h)) 0)

-- ---- the console

-- the bytes given that no read has taken yet, first to be taken first
abbrev pub due : List Event → List ℕ
due [] = []
due (Give count byte ∷ before) = due before ++ byte ∷ []
due (Read count at ∷ before) = if nat_eq at CONSOLE_DATA then drop 1 (due before) else due before
due (Write count at value ∷ before) = due before
due (Raise count line ∷ before) = due before

-- 1 where a byte is due
abbrev pub status_of : List ℕ → ℕ
status_of [] = 0
status_of (byte ∷ bytes) = 1

-- the first due byte, or 0
abbrev pub first_of : List ℕ → ℕ
first_of [] = 0
first_of (byte ∷ bytes) = byte

-- ---- answers

-- what a port of counter t answers, or else another answer
abbrev pub counter_answer : ℕ → List Event → ℕ → ℕ → ℕ → ℕ
counter_answer t events now at other =
    if nat_eq at (value_port t) then value_at t (setting t (acts_of t events)) now
    else (if nat_eq at (mode_port t) then mode_word t (acts_of t events) now
    else (if nat_eq at (target_port t) then (setting t (acts_of t events)).target else other))

-- what the counters' ports answer; others give 0
unfoldable pub counters_answer : List Event → ℕ → ℕ → ℕ
counters_answer events now at = counter_answer 0 events now at (counter_answer 1 events now at (counter_answer 2 events now at 0))

-- what a start port reads, or else another answer
abbrev pub start_answer : Given → ℕ → ℕ → ℕ
start_answer given at other =
    if nat_eq at START_PC then given.pc else (if nat_eq at START_GP then given.gp else (if nat_eq at START_SP then given.sp
    else (if nat_eq at START_THREADS then given.threads else (if nat_eq at START_EVENTS then given.events else other))))

-- what a read gives; the halt ports give 0
unfoldable pub answer : History → ℕ → ℕ
answer h at =
    if nat_eq at I_STAT then i_stat h
    else (if nat_eq at I_MASK then i_mask h
    else (if nat_eq at CONSOLE_STATUS then status_of (due h.events)
    else (if nat_eq at CONSOLE_DATA then first_of (due h.events)
    else start_answer h.given at (counters_answer h.events h.now at))))

-- what a write of the halt port does
abbrev pub halted : Option Stop → PortDid
halted None = Quiet
halted (Some stop) = Halt stop

-- what a write does beyond its port: the console's data port writes a byte, the halt port stops by its code
abbrev pub written : History → ℕ → ℕ → PortDid
written h at value =
    if nat_eq at CONSOLE_DATA then Tty (value % 2 ^ 8)
    else (if nat_eq at HALT then halted (halt_stop value (last_written h.events HALT_A) (last_written h.events HALT_B) (last_written h.events HALT_C)) else Quiet)
