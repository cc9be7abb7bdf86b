-- What a host over real files tells, and how its counts of faults go on.
use Rattle.std.specs.Prelude.{ℕ, ◌+◌, ◌-◌, ◌^◌, min, List, Option, None, Result, Ok, Err, take, IsSome, ⊤}
use Rattle.std.specs.Io.KnownBytes.{Appends}
use Rattle.psx_base.specs.declared.host.Out.{Out}
use Rattle.psx_base.specs.declared.host.Out.TheVariants.{Tty, Trace, Ram, Report}
use Rattle.psx_base.specs.declared.host.LoadError.{LoadError}
use Rattle.psx_base.specs.declared.host.LoadError.TheVariants.{Failed, Memory}

-- what it tells of the bytes of a file or of an output: nothing
abbrev pub untold : Option (List ℕ)
untold = None

-- a count that is one more, or stands at the end of its type
abbrev pub counted : ℕ → ℕ
counted before = min (before + 1) (2 ^ 64 - 1)

-- the count of load faults after a load: one more where it failed, and as before at bytes or want of memory
abbrev pub after_load : {A : Type 0} → Result A LoadError → ℕ → ℕ
after_load (Ok bytes) before = before
after_load (Err Failed) before = counted before
after_load (Err Memory) before = before

-- the count of send faults after a send: one more where it failed
abbrev pub after_send : {A E : Type 0} → Result A E → ℕ → ℕ
after_send (Ok done) before = before
after_send (Err fault) before = counted before

-- where the bytes that a writer holds are known, they grew by a front of these
abbrev pub AppendsFront : Option (List ℕ) → Option (List ℕ) → List ℕ → Type 0
AppendsFront before now bytes = (k : ℕ) × Appends before now (take k bytes)

-- the file of an output is open, where the output is one that goes to a file
abbrev pub HasFile : {F : Type 0} → Option F → Option F → Out → Type 0
HasFile trace ram Tty = ⊤
HasFile trace ram Trace = IsSome trace
HasFile trace ram Ram = IsSome ram
HasFile trace ram Report = ⊤
