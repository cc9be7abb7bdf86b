-- What a host in memory tells.
use Rattle.std.specs.Prelude.{◌≡◌, ◌⊎◌, ℕ, ◌-◌, ◌<◌, min, length, List, [], Option, None, IsSome, unwrap_or, Contains}
use Rattle.psx_base.specs.declared.host.Out.{Out}
use Rattle.psx_base.specs.declared.memory_host.MemoryHost.{MemoryHost}
use Rattle.psx_base.specs.Files.{bytes_under}
use Rattle.psx_base.specs.Outputs.{bytes_on}
use Rattle.psx_base.specs.Calls.{after_of, next_call}

-- the bytes under a name
abbrev pub held : MemoryHost → List ℕ → Option (List ℕ)
held h name = bytes_under h.files name

-- what was sent on an output
abbrev pub sent_on : MemoryHost → Out → List ℕ
sent_on h out = bytes_on h.outputs out

-- how many bytes more an output has room for
abbrev pub left_on : MemoryHost → Out → ℕ
left_on h out = h.outputs.room - length (sent_on h out)

-- how many loads failed, and how many sends
abbrev pub load_faults_of : MemoryHost → ℕ
load_faults_of h = h.load_faults

abbrev pub send_faults_of : MemoryHost → ℕ
send_faults_of h = h.send_faults

-- the loads that were set to fail, by number, and the sends, by number and count of bytes: in the order of setting
abbrev pub set_loads : MemoryHost → List ℕ
set_loads h = h.bad_loads.items

abbrev pub set_sends : MemoryHost → List (ℕ × ℕ)
set_sends h = h.bad_sends.items

-- a load of this number is to fail
abbrev pub fails_load : MemoryHost → ℕ → Type 0
fails_load h call = Contains (set_loads h) call

-- after how many bytes a send of this number is to fail
abbrev pub fails_send : MemoryHost → ℕ → Option ℕ
fails_send h call = after_of (set_sends h) call

-- no file, nothing sent, no call made, none set to fail
pub record IsQuiet (h : MemoryHost) (bytes : ℕ) : Type 0 where
  pub room : h.outputs.room ≡ bytes
  pub files : (n : List ℕ) → held h n ≡ None
  pub sent : (o : Out) → sent_on h o ≡ []
  pub loads : h.loads ≡ 0
  pub sends : h.sends ≡ 0
  pub no_bad_load : set_loads h ≡ []
  pub no_bad_send : set_sends h ≡ []
  pub load_faults : h.load_faults ≡ 0
  pub send_faults : h.send_faults ≡ 0

-- only the files may differ
pub record KeepsRest (old new : MemoryHost) : Type 0 where
  pub outputs : new.outputs ≡ old.outputs
  pub loads : new.loads ≡ old.loads
  pub sends : new.sends ≡ old.sends
  pub bad_loads : new.bad_loads ≡ old.bad_loads
  pub bad_sends : new.bad_sends ≡ old.bad_sends
  pub load_faults : new.load_faults ≡ old.load_faults
  pub send_faults : new.send_faults ≡ old.send_faults

-- the loads of these numbers are to fail, and nothing else differs
abbrev pub SetsLoads : MemoryHost → MemoryHost → List ℕ → Type 0
SetsLoads old new calls = (set_loads new ≡ calls) × (record new { bad_loads = old.bad_loads } ≡ old)

abbrev pub SetsSends : MemoryHost → MemoryHost → List (ℕ × ℕ) → Type 0
SetsSends old new calls = (set_sends new ≡ calls) × (record new { bad_sends = old.bad_sends } ≡ old)

-- the coming load fails: its number was set, or the name isn't held
abbrev pub FailsLoad : MemoryHost → List ℕ → Type 0
FailsLoad h name = fails_load h (next_call h.loads) ⊎ (held h name ≡ None)

-- one more load was made, and only its fault may have been counted
abbrev pub CountsLoad : MemoryHost → MemoryHost → Type 0
CountsLoad old new = new ≡ record old { loads = next_call old.loads; load_faults = new.load_faults }

-- the coming send of these bytes fails: its number was set, or they don't fit what the output has left
abbrev pub FailsSend : MemoryHost → Out → List ℕ → Type 0
FailsSend h out bytes = IsSome (fails_send h (next_call h.sends)) ⊎ (left_on h out < length bytes)

-- how many of these bytes the coming send appends: as many as were set and as fit
abbrev pub send_length : MemoryHost → Out → List ℕ → ℕ
send_length h out bytes = let fits = min (length bytes) (left_on h out) in min fits (unwrap_or (fails_send h (next_call h.sends)) fits)

-- one more send was made, only its fault may have been counted and the outputs grown, and each output keeps its room
pub record CountsSend (old new : MemoryHost) : Type 0 where
  pub rest : new ≡ record old { sends = next_call old.sends; send_faults = new.send_faults; outputs = new.outputs }
  pub room : new.outputs.room ≡ old.outputs.room
