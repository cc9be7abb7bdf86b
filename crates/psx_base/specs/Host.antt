-- What the calls of a host leave.
use Rattle.std.specs.Prelude.{◌≡◌, ◌≢◌, ℕ, ◌+◌, ◌-◌, ◌^◌, ◌≤◌, min, List, ◌++◌, take, Option, Some, Result, IfSome, OnOk, OnErr}
use Rattle.psx_base.specs.declared.host.Out.{Out}

-- the count is larger than before, or stands at its end
abbrev pub Rose : ℕ → ℕ → Type 0
Rose before now = min (before + 1) (2 ^ 64 - 1) ≤ now

-- these bytes are the first n of those held, or all where there are fewer, where it is told
abbrev pub IsFront : ℕ → Option (List ℕ) → List ℕ → Type 0
IsFront n held bytes = IfSome held (λ all. bytes ≡ take n all)

-- what was sent on the output is as before, and then some front of the bytes
abbrev pub SendsFront : Option (List ℕ) → Option (List ℕ) → List ℕ → Type 0
SendsFront before now bytes = IfSome before (λ old. (k : ℕ) × (now ≡ Some (old ++ take k bytes)))

-- where sent is told: at Ok the output has all of the bytes more, at Err a front of them, and the others stay
pub record Sends {E : Type 0} (before now : Out → Option (List ℕ)) (out : Out) (bytes : List ℕ) (result : Result Unit E) : Type 0 where
  pub all : OnOk result (IfSome (before out) (λ old. now out ≡ Some (old ++ bytes)))
  pub front : OnErr result (SendsFront (before out) (now out) bytes)
  pub others : (o : Out) → o ≢ out → now o ≡ before o
