-- A root counter (PSX-SPX, Timers), by the accesses to it so far, newest first: its value in closed form, and what its turns did.
use Rattle.std.specs.Prelude.{◌≡◌, ℕ, zero, suc, ◌+◌, ◌-◌, ◌/◌, ◌%◌, ◌^◌, ◌<◌, Bool, true, false, not, ◌&&◌, ◌||◌, nat_eq, nat_lt, nat_le, List, [], ◌∷◌, if◌then◌else◌}
use Rattle.std.specs.Int.{bit_at}

-- whether a bit of a word is set
abbrev pub bit : ℕ → ℕ → Bool
bit word n = nat_eq (bit_at word n) 1

-- whether p holds of a count after one and up to another
unfoldable pub happens : (ℕ → Bool) → ℕ → ℕ → Bool
happens p from zero = false
happens p from (suc to) = (nat_lt from (suc to) && p (suc to)) || happens p from to

-- what a counter runs by after the last write to its value, mode or target, and the value and the count of then
pub record Setting : Type 0 where
  pub mode : ℕ
  pub target : ℕ
  pub value : ℕ
  pub since : ℕ

-- an access that changes what a counter does, with the count of its step
pub data Act : Type 0 where
  SetValue : (count value : ℕ) → Act
  SetMode : (count value : ℕ) → Act
  SetTarget : (count value : ℕ) → Act
  TakeMode : (count : ℕ) → Act

-- the count of an access
abbrev pub time : Act → ℕ
time (SetValue count value) = count
time (SetMode count value) = count
time (SetTarget count value) = count
time (TakeMode count) = count

-- ---- the value

-- the steps from one turn of counter t to the next, by the source in mode bits 8 and 9: the dot clock is 8 and Hblank 2,048
abbrev pub clock : ℕ → ℕ → ℕ
clock zero mode = if bit mode 8 then 8 else 1
clock (suc zero) mode = if bit mode 8 then 2048 else 1
clock _ mode = if bit mode 9 then 8 else 1

-- a turn stands at each multiple of the clock
abbrev pub is_turn : ℕ → Setting → ℕ → Bool
is_turn t s count = nat_eq (count % clock t s.mode) 0

-- whether the value becomes 0 after the target
abbrev pub resets : Setting → Bool
resets s = bit s.mode 3 && not (nat_eq s.target 0)

-- the value after k turns, in closed form: it comes back to 0 after the target, or first goes on to FFFFh
unfoldable pub after_turns : Setting → ℕ → ℕ
after_turns s k =
    if resets s && nat_le s.value s.target then (s.value + k) % (s.target + 1)
    else (if nat_lt (s.value + k) 0x10000 then s.value + k
    else (if resets s then (s.value + k - 0x10000) % (s.target + 1) else (s.value + k - 0x10000) % 0x10000))

-- one turn more: 0 comes after FFFFh, and with mode bit 3 after a target that isn't 0
abbrev pub turn : Setting → ℕ → ℕ
turn s value = if nat_eq value 0xFFFF || (resets s && nat_eq value s.target) then 0 else value + 1

-- the closed form is as many single turns
pub record IsTurnByTurn (s : Setting) : Type 0 where
  pub first : after_turns s 0 ≡ s.value
  pub next : (k : ℕ) → after_turns s (k + 1) ≡ turn s (after_turns s k)

abbrev pub TurnsAreTurnByTurn : Type 0
TurnsAreTurnByTurn = (s : Setting) → s.value < 2 ^ 16 → s.target < 2 ^ 16 → IsTurnByTurn s

-- the value at a count
unfoldable pub value_at : ℕ → Setting → ℕ → ℕ
value_at t s count = after_turns s (count / clock t s.mode - s.since / clock t s.mode)

-- the setting after the accesses
unfoldable pub setting : ℕ → List Act → Setting
setting t [] = record { mode = 0; target = 0; value = 0; since = 0 }
setting t (SetValue count value ∷ before) = record (setting t before) { value = value % 2 ^ 16; since = count }
setting t (SetMode count value ∷ before) = record (setting t before) { mode = value % 2 ^ 10; value = 0; since = count }
setting t (SetTarget count value ∷ before) = record (setting t before) { target = value % 2 ^ 16; value = value_at t (setting t before) count; since = count }
setting t (TakeMode count ∷ before) = setting t before

-- ---- what turns do

-- a turn that brings the value to x
unfoldable pub meets : ℕ → Setting → ℕ → ℕ → Bool
meets t s x count = is_turn t s count && nat_eq (value_at t s count) x

-- a turn that brings it to the target, where that isn't 0
abbrev pub meets_target : ℕ → Setting → ℕ → Bool
meets_target t s count = not (nat_eq s.target 0) && meets t s s.target count

-- a turn that brings it to FFFFh
abbrev pub meets_top : ℕ → Setting → ℕ → Bool
meets_top t s count = meets t s 0xFFFF count

-- a turn that asks for an interrupt, by mode bits 4 and 5
unfoldable pub asks : ℕ → Setting → ℕ → Bool
asks t s count = (bit s.mode 4 && meets_target t s count) || (bit s.mode 5 && meets_top t s count)

-- the accesses that clear mode bits 11 and 12
abbrev pub uses_mode : Act → Bool
uses_mode (SetMode count value) = true
uses_mode (TakeMode count) = true
uses_mode _ = false

-- the access that arms the interrupt
abbrev pub writes_mode : Act → Bool
writes_mode (SetMode count value) = true
writes_mode _ = false

-- whether p holds of a turn up to a count, after the last access that clears
unfoldable pub since_last : ℕ → (Act → Bool) → (Setting → ℕ → Bool) → List Act → ℕ → Bool
since_last t clears p [] to = happens (p (setting t [])) 0 to
since_last t clears p (act ∷ before) to = happens (p (setting t (act ∷ before))) (time act) to || (not (clears act) && since_last t clears p before (time act))

-- mode bit 11
abbrev pub reached_target : ℕ → List Act → ℕ → Bool
reached_target t acts to = since_last t uses_mode (meets_target t) acts to

-- mode bit 12
abbrev pub reached_top : ℕ → List Act → ℕ → Bool
reached_top t acts to = since_last t uses_mode (meets_top t) acts to

-- the mode as it is read
abbrev pub mode_word : ℕ → List Act → ℕ → ℕ
mode_word t acts to = (setting t acts).mode + (if reached_target t acts to then 0x800 else 0) + (if reached_top t acts to then 0x1000 else 0)

-- whether an interrupt was asked for since the last write of the mode. The first one that is asked for is raised, so none was raised exactly where none was asked for
abbrev pub asked : ℕ → List Act → ℕ → Bool
asked t acts to = since_last t writes_mode (asks t) acts to

-- a turn that raises the counter's line: with mode bit 6 each one that asks, else the first
unfoldable pub raises : ℕ → List Act → ℕ → Bool
raises t acts count = asks t (setting t acts) count && (bit (setting t acts).mode 6 || not (asked t acts (count - 1)))
