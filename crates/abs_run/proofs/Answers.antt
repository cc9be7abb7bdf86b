-- Each port answers a word: the lines and the masks have 11 bits, the counters 16, the console's bytes are bytes, and the start ports have words.
use Rattle.std.proofs.Common.{ℕ, ◌+◌, ◌/◌, ◌-◌, ◌%◌, ◌^◌, ◌<◌, ◌≤◌, Bool, true, false, List, [], ◌∷◌, ◌++◌, drop, sym, subst, arith}
use Rattle.std.specs.Prelude.{if◌then◌else◌, nat_eq}
use Rattle.psx_base.specs.Ports.{I_STAT, I_MASK, value_port, mode_port, target_port, CONSOLE_STATUS, CONSOLE_DATA, START_PC, START_GP, START_SP, START_THREADS, START_EVENTS}
use Rattle.psx_ports.specs.Counter.{Setting, Act, SetValue, SetMode, SetTarget, TakeMode, resets, after_turns, value_at, setting, clock, reached_target, reached_top}
use Rattle.psx_ports.specs.Laps.{limit_of}
use Rattle.psx_ports.specs.History.{Given, History, Event, Read, Write, Raise, Give, last_written, acts_of, pending, i_stat, i_mask, due, status_of, first_of, counter_answer, counters_answer, start_answer, answer}
use Rattle.psx_ports.proofs.Reckoning.{after-turns, lap-small}
use Rattle.psx_ports.proofs.Words.{word-small}

-- what the start ports read are words
pub record GivenFits (g : Given) : Type 0 where
  pub pc : g.pc < 2 ^ 32
  pub gp : g.gp < 2 ^ 32
  pub sp : g.sp < 2 ^ 32
  pub threads : g.threads < 2 ^ 32
  pub events : g.events < 2 ^ 32

-- the bytes given to the console are bytes
abbrev pub BytesFit : List Event → Type 0
BytesFit [] = Unit {0}
BytesFit (Give count byte ∷ before) = (byte < 256) × BytesFit before
BytesFit (_ ∷ before) = BytesFit before

pub record HistoryFits (h : History) : Type 0 where
  pub given : GivenFits h.given
  pub bytes : BytesFit h.events

-- ---- the console

abbrev AllBytes : List ℕ → Type 0
AllBytes [] = Unit {0}
AllBytes (x ∷ xs) = (x < 256) × AllBytes xs

bytes-append : (xs : List ℕ) (x : ℕ) → AllBytes xs → x < 256 → AllBytes (xs ++ x ∷ [])
bytes-append [] x h e = (e, tt)
bytes-append (y ∷ ys) x h e = (h.0, bytes-append ys x h.1 e)

bytes-drop : (xs : List ℕ) → AllBytes xs → AllBytes (drop 1 xs)
bytes-drop [] h = tt
bytes-drop (x ∷ xs) h = h.1

bytes-if : (b : Bool) (xs ys : List ℕ) → AllBytes xs → AllBytes ys → AllBytes (if b then xs else ys)
bytes-if true xs ys h g = h
bytes-if false xs ys h g = g

due-bytes : (events : List Event) → BytesFit events → AllBytes (due events)
due-bytes [] h = tt
due-bytes (Give count byte ∷ before) h = bytes-append (due before) byte (due-bytes before h.1) h.0
due-bytes (Read count at ∷ before) h = let d = due-bytes before h in bytes-if (nat_eq at CONSOLE_DATA) _ _ (bytes-drop (due before) d) d
due-bytes (Write count at value ∷ before) h = due-bytes before h
due-bytes (Raise count line ∷ before) h = due-bytes before h

status-small : (xs : List ℕ) → status_of xs < 2 ^ 32
status-small [] = omega arith
status-small (x ∷ xs) = omega arith

first-small : (xs : List ℕ) → AllBytes xs → first_of xs < 2 ^ 32
first-small [] h = omega arith
first-small (x ∷ xs) h = let e = h.0 in omega arith

-- ---- counters

pub if-small : (b : Bool) (x y n : ℕ) → x < n → y < n → (if b then x else y) < n
if-small true x y n h g = h
if-small false x y n h g = g

record Small (s : Setting) : Type 0 where
  value : s.value ≤ 0xFFFF
  target : s.target ≤ 0xFFFF
  mode : s.mode < 2 ^ 10

limit-small : (s : Setting) → s.target ≤ 0xFFFF → limit_of s ≤ 0xFFFF
limit-small s h = case (resets s)
  where
    case : (b : Bool) → (if b then s.target else 0xFFFF) ≤ 0xFFFF
    case true = h
    case false = omega arith

turns-small : (s : Setting) (k : ℕ) → Small s → after_turns s k ≤ 0xFFFF
turns-small s k h = subst (λ (v : ℕ). v ≤ 0xFFFF) (sym (after-turns s k h.value h.target)) (lap-small s.value (limit_of s) k h.value (limit-small s h.target))

value-small : (t : ℕ) (s : Setting) (count : ℕ) → Small s → value_at t s count ≤ 0xFFFF
unfolding value_at
value-small t s count h = turns-small s (count / clock t s.mode - s.since / clock t s.mode) h

setting-small : (t : ℕ) (acts : List Act) → Small (setting t acts)
unfolding setting
setting-small t [] = record { value = omega arith; target = omega arith; mode = omega arith }
setting-small t (SetValue count value ∷ before) = let r = setting-small t before in record { value = omega arith; target = r.target; mode = r.mode }
setting-small t (SetMode count value ∷ before) = let r = setting-small t before in record { value = omega arith; target = r.target; mode = omega arith }
setting-small t (SetTarget count value ∷ before) = let r = setting-small t before in record { value = value-small t (setting t before) count r; target = omega arith; mode = r.mode }
setting-small t (TakeMode count ∷ before) = setting-small t before

bits-small : (m : ℕ) (a b : Bool) → m < 2 ^ 10 → m + (if a then 0x800 else 0) + (if b then 0x1000 else 0) < 2 ^ 32
bits-small m true true h = omega arith
bits-small m true false h = omega arith
bits-small m false true h = omega arith
bits-small m false false h = omega arith

counter-small : (t : ℕ) (events : List Event) (now at other : ℕ) → other < 2 ^ 32 → counter_answer t events now at other < 2 ^ 32
counter-small t events now at other h =
    let s = setting-small t (acts_of t events) in
    let v : value_at t (setting t (acts_of t events)) now < 2 ^ 32 = (let e = value-small t (setting t (acts_of t events)) now s in omega arith) in
    let g : (setting t (acts_of t events)).target < 2 ^ 32 = (let e = s.target in omega arith) in
    if-small (nat_eq at (value_port t)) _ _ (2 ^ 32) v
    (if-small (nat_eq at (mode_port t)) _ _ (2 ^ 32) (bits-small (setting t (acts_of t events)).mode (reached_target t (acts_of t events) now) (reached_top t (acts_of t events) now) s.mode)
    (if-small (nat_eq at (target_port t)) _ _ (2 ^ 32) g h))

counters-small : (events : List Event) (now at : ℕ) → counters_answer events now at < 2 ^ 32
unfolding counters_answer
counters-small events now at = counter-small 0 events now at _ (counter-small 1 events now at _ (counter-small 2 events now at 0 (omega arith)))

-- ---- all ports

start-small : (g : Given) (at other : ℕ) → GivenFits g → other < 2 ^ 32 → start_answer g at other < 2 ^ 32
start-small g at other f h =
    if-small (nat_eq at START_PC) _ _ (2 ^ 32) f.pc (if-small (nat_eq at START_GP) _ _ (2 ^ 32) f.gp (if-small (nat_eq at START_SP) _ _ (2 ^ 32) f.sp
    (if-small (nat_eq at START_THREADS) _ _ (2 ^ 32) f.threads (if-small (nat_eq at START_EVENTS) _ _ (2 ^ 32) f.events h))))

stat-small : (h : History) → i_stat h < 2 ^ 32
unfolding i_stat
stat-small h = let e = word-small (λ n. pending n h.events h.now) 11 in omega (arith, e)

mask-small : (h : History) → i_mask h < 2 ^ 32
mask-small h = let e : last_written h.events I_MASK % 2 ^ 11 < 2 ^ 11 = omega arith in omega (arith, e)

pub answer-small : (h : History) (at : ℕ) → HistoryFits h → answer h at < 2 ^ 32
unfolding answer
answer-small h at f =
    if-small (nat_eq at I_STAT) _ _ (2 ^ 32) (stat-small h) (if-small (nat_eq at I_MASK) _ _ (2 ^ 32) (mask-small h)
    (if-small (nat_eq at CONSOLE_STATUS) _ _ (2 ^ 32) (status-small (due h.events)) (if-small (nat_eq at CONSOLE_DATA) _ _ (2 ^ 32) (first-small (due h.events) (due-bytes h.events f.bytes))
    (start-small h.given at _ f.given (counters-small h.events h.now at)))))
