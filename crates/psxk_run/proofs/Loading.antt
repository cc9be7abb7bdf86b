-- What the loads of a run gave, from the moment before the first.
use Rattle.std.proofs.Common.{◌≡◌, ℕ, ◌≤◌, List, Option, None, Some, Result, subst, arith}
use Rattle.std.specs.Prelude.{min, ◌+◌, ◌-◌, ◌^◌}
use Rattle.psx_base.specs.declared.stop.Sizes.{Sizes}
use Rattle.psx_base.specs.Host.{Rose, IsFront}
use Rattle.psx_sched.specs.declared.schedule.Entry.{Entry}
use Rattle.psx_sched.specs.declared.fault.SchedError.{SchedError}
use Rattle.psxk_run.specs.declared.configuration.ConfError.{ConfError}
use Rattle.psxk_run.specs.declared.refusal.Refusal.{Refusal}
use Rattle.psxk_run.specs.declared.refusal.Refusal.TheVariants.{Program, Schedule, Config, Unread, Memory, Text}
use Rattle.psxk_run.specs.Command.{RunWords}
use Rattle.psxk_run.specs.Inputs.{IsLoaded, GivesEntries, GivesSchedule, GivesNumbers, GivesSizes, IsCause, OfProgram, OfText}

-- what a later moment's host holds, an earlier one's does
module _ (held mid : List ℕ → Option (List ℕ)) (same : (n : List ℕ) → mid n ≡ held n) where
  loaded-from : (limit : ℕ) (name bytes : List ℕ) → IsLoaded mid limit name bytes → IsLoaded held limit name bytes
  loaded-from limit name bytes l = subst (λ (o : Option (List ℕ)). IsFront limit o bytes) (same name) l

  entries-from : (name : List ℕ) (a : Result (List Entry) SchedError) → GivesEntries (IsLoaded mid) name a → GivesEntries (IsLoaded held) name a
  entries-from name a g = record { text = g.text; known = loaded-from 4194305 name g.text g.known; is = g.is }

  numbers-from : (name : List ℕ) (a : Result Sizes ConfError) → GivesNumbers (IsLoaded mid) name a → GivesNumbers (IsLoaded held) name a
  numbers-from name a g = record { text = g.text; known = loaded-from 4194305 name g.text g.known; is = g.is }

  pub schedule-from : (name : Option (List ℕ)) (a : Result (List Entry) SchedError) → GivesSchedule (IsLoaded mid) name a → GivesSchedule (IsLoaded held) name a
  schedule-from None a g = g
  schedule-from (Some name) a g = entries-from name a g

  pub sizes-from : (name : Option (List ℕ)) (a : Result Sizes ConfError) → GivesSizes (IsLoaded mid) name a → GivesSizes (IsLoaded held) name a
  sizes-from None a g = g
  sizes-from (Some name) a g = numbers-from name a g

-- a count that rose has risen at a later moment
rose-until : (a b c : ℕ) → Rose a b → b ≤ c → Rose a c
rose-until a b c rose up = let e : min (a + 1) (2 ^ 64 - 1) ≤ b = rose in omega arith

pub cause-later : (held : List ℕ → Option (List ℕ)) (before now later : List ℕ → ℕ) (c : RunWords) (refusal : Refusal) → ((n : List ℕ) → now n ≤ later n) → IsCause held before now c refusal → IsCause held before later c refusal
cause-later held before now later c (Unread name) up cause = (cause.0, rose-until (before name.now) (now name.now) (later name.now) cause.1 (up name.now))
cause-later held before now later c (Program fault) up cause = cause
cause-later held before now later c (Schedule fault) up cause = cause
cause-later held before now later c (Config fault) up cause = cause
cause-later held before now later c (Text fault) up cause = cause
cause-later held before now later c Memory up cause = cause

pub program-later : (held : List ℕ → Option (List ℕ)) (before now later : List ℕ → ℕ) (name : List ℕ) (refusal : Refusal) → ((n : List ℕ) → now n ≤ later n) → OfProgram held before now name refusal → OfProgram held before later name refusal
program-later held before now later name (Program fault) up cause = cause
program-later held before now later name (Unread other) up cause = (cause.0, rose-until (before name) (now name) (later name) cause.1 (up name))
program-later held before now later name Memory up cause = cause
program-later held before now later name _ up cause = absurd cause

pub text-later : (held : List ℕ → Option (List ℕ)) (before now later : List ℕ → ℕ) (name : List ℕ) (refusal : Refusal) → ((n : List ℕ) → now n ≤ later n) → OfText held before now name refusal → OfText held before later name refusal
text-later held before now later name (Text fault) up cause = cause
text-later held before now later name (Unread other) up cause = (cause.0, rose-until (before name) (now name) (later name) cause.1 (up name))
text-later held before now later name Memory up cause = cause
text-later held before now later name _ up cause = absurd cause
