-- What was sent to a host between two moments; before and now give the bytes sent so far on an output, where the host tells them.
use Rattle.std.specs.Prelude.{◌≡◌, ◌≢◌, ◌⊎◌, ℕ, ◌≤◌, List, ◌++◌, Option, Some, IfSome}
use Rattle.psx_base.specs.declared.host.Out.{Out}
use Rattle.psx_base.specs.declared.host.Out.TheVariants.{Report}
use Rattle.psx_base.specs.Host.{Rose}

-- an output that is told has these bytes more
abbrev pub Grew : Option (List ℕ) → Option (List ℕ) → List ℕ → Type 0
Grew before now bytes = IfSome before (λ old. now ≡ Some (old ++ bytes))

-- an output that is told has a front of this text more
pub record GrewFront (before now : Option (List ℕ)) (text : List ℕ) : Type 0 where
  pub shown : List ℕ
  pub rest : List ℕ
  pub grew : Grew before now shown
  pub whole : shown ++ rest ≡ text

-- a host that only goes on: no count falls, and it holds what it held
pub record GoesOn {H : Type 0} (holds : H → List ℕ → Option (List ℕ)) (load_faults : H → List ℕ → ℕ) (send_faults : H → ℕ) (old new : H) : Type 0 where
  pub loads : (n : List ℕ) → load_faults old n ≤ load_faults new n
  pub sends : send_faults old ≤ send_faults new
  pub held : (n : List ℕ) → holds new n ≡ holds old n

-- only this output may have more
abbrev pub OnlyOn : Out → (Out → Option (List ℕ)) → (Out → Option (List ℕ)) → Type 0
OnlyOn out before now = (o : Out) → o ≢ out → now o ≡ before o

abbrev pub OnlyReports : (Out → Option (List ℕ)) → (Out → Option (List ℕ)) → Type 0
OnlyReports before now = OnlyOn Report before now

-- only this output has more: all of this text
pub record SentAlone (before now : Out → Option (List ℕ)) (out : Out) (text : List ℕ) : Type 0 where
  pub only : OnlyOn out before now
  pub whole : Grew (before out) (now out) text

-- only this output has more: a front of this text
pub record FrontAlone (before now : Out → Option (List ℕ)) (out : Out) (text : List ℕ) : Type 0 where
  pub only : OnlyOn out before now
  pub front : GrewFront (before out) (now out) text

-- the text was sent with status 0 and nothing else, or the sending failed with status 6
abbrev pub SendsText : (Out → Option (List ℕ)) → (Out → Option (List ℕ)) → ℕ → ℕ → Out → List ℕ → ℕ → Type 0
SendsText before now faults_before faults_now out text status = ((status ≡ 0) × SentAlone before now out text) ⊎ ((status ≡ 6) × Rose faults_before faults_now)

-- the text was reported with a status, or the sending failed with status 6
abbrev pub Says : (Out → Option (List ℕ)) → (Out → Option (List ℕ)) → ℕ → ℕ → List ℕ → ℕ → ℕ → Type 0
Says before now faults_before faults_now text status result =
    ((result ≡ status) × Grew (before Report) (now Report) text) ⊎ ((result ≡ 6) × Rose faults_before faults_now)
