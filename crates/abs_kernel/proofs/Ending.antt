-- How a stay ends: it halts with the memory as it is, or returns at rest with what its part may change.
use Rattle.std.proofs.Common.{◌≡◌, ℕ, Bool, true, false, refl, sym, ◌∙◌, Option, ◌≤◌, List, length}
use Rattle.std.specs.Prelude.{◌||◌, nat_eq, if◌then◌else◌}
use Rattle.std.proofs.lemmas.Bool.{false≢true}
use Rattle.psx_base.specs.declared.stop.Stop.{Stop}
use Rattle.psx_base.specs.Memory.{Memory}
use Rattle.psx_base.specs.Context.{Context, epc_of, taken, IsAtRest}
use Rattle.psx_base.specs.KernelState.{Thread, Event, Frame, KernelState, Heap}
use Rattle.abs_kernel.specs.Answered.{registers_of, with_answer, answered, waits}
use Rattle.abs_kernel.specs.Stay.{Stay}
use Rattle.kern_layout.specs.Valid.{HeapFits, RunningFits, Valid}
use Rattle.abs_kernel.proofs.Filed.{FilesFit}
use Rattle.abs_kernel.proofs.Threaded.{ThreadsFit}
use Rattle.abs_kernel.proofs.Evented.{EventsFit}
use Rattle.abs_kernel.proofs.Chained.{ChainsFit}
use Rattle.abs_kernel.specs.Changes.{Part, ContextAlone, AndMemory, AndRandom, AndFiles, AndInput, AndLine, AndPlace, AndThreads, AndEvents, AndChains, AndHeap, AndHeapMemory, AndFrames}
use Rattle.abs_kernel.specs.StayLaws.{EachEnd}
use Rattle.abs_kernel.specs.WorkLaws.{GoesOn}

-- a state with another running context, and interrupts on or off
abbrev pub running_in : KernelState → Context → Bool → KernelState
running_in s c on = record s { running = record { context = c; interrupts = on } }

pub at_rest : (c : Context) (at : ℕ) → IsAtRest (taken c at)
at_rest c at = record { follows = refl; no_slot = refl; k0 = refl; k1 = refl; none_pending = refl }

pub answer_at_rest : (c : Context) (at value : ℕ) → IsAtRest (with_answer (taken c at) value)
answer_at_rest c at value = record { follows = refl; no_slot = refl; k0 = refl; k1 = refl; none_pending = refl }

-- a context at rest fits as a running one
pub rest_fits : (c : Context) → IsAtRest c → RunningFits c
rest_fits c r = record { follows = λ e. r.follows; branch = λ e. absurd (false≢true (let h : false ≡ true = sym r.no_slot ∙ e in h)) }

pub if_ends : (P : KernelState → Type 0) (Q : Stop → Memory → Type 0) (b : Bool) (x y : Stay) → EachEnd P Q x → EachEnd P Q y → EachEnd P Q (if b then x else y)
if_ends P Q true x y h g = h
if_ends P Q false x y h g = g

pub if_ends_by : (P : KernelState → Type 0) (Q : Stop → Memory → Type 0) (b : Bool) (x y : Stay) → (b ≡ true → EachEnd P Q x) → (b ≡ false → EachEnd P Q y) → EachEnd P Q (if b then x else y)
if_ends_by P Q true x y h g = h refl
if_ends_by P Q false x y h g = g refl

-- a line that fits where the state's does
abbrev pub LineFits : KernelState → List ℕ → Type 0
LineFits s line = length s.line ≤ 254 → length line ≤ 254

-- what is to be shown of stops and of returns, by what a stay may change
abbrev pub Halts : Part → (Stop → Memory → Type 0) → KernelState → Type 0
Halts ContextAlone Q s = (stop : Stop) → Q stop s.memory
Halts AndMemory Q s = (stop : Stop) (m : Memory) → Q stop m
Halts AndRandom Q s = (stop : Stop) → Q stop s.memory
Halts AndFiles Q s = (stop : Stop) → Q stop s.memory
Halts AndInput Q s = (stop : Stop) (m : Memory) → Q stop m
Halts AndLine Q s = (stop : Stop) (m : Memory) → Q stop m
Halts AndThreads Q s = (stop : Stop) → Q stop s.memory
Halts AndEvents Q s = (stop : Stop) → Q stop s.memory
Halts AndChains Q s = (stop : Stop) (m : Memory) → Q stop m
Halts AndPlace Q s = (stop : Stop) (m : Memory) → Q stop m
Halts AndHeap Q s = (stop : Stop) → Q stop s.memory
Halts AndHeapMemory Q s = (stop : Stop) (m : Memory) → Q stop m
Halts AndFrames Q s = (stop : Stop) → Q stop s.memory

abbrev pub Returns : Part → (KernelState → Type 0) → KernelState → Type 0
Returns ContextAlone P s = (c : Context) (on : Bool) → IsAtRest c → P (running_in s c on)
Returns AndMemory P s = (m : Memory) (c : Context) (on : Bool) → IsAtRest c → P (running_in (record s { memory = m }) c on)
Returns AndRandom P s = (x : ℕ) (c : Context) (on : Bool) → IsAtRest c → P (running_in (record s { random = x }) c on)
Returns AndFiles P s = (files : List (Option ℕ)) (errno : ℕ) (c : Context) (on : Bool) → FilesFit s.files files → IsAtRest c → P (running_in (record s { files = files; errno = errno }) c on)
Returns AndInput P s = (m : Memory) (errno : ℕ) (c : Context) (on : Bool) → IsAtRest c → P (running_in (record s { memory = m; errno = errno }) c on)
Returns AndLine P s = (m : Memory) (line : List ℕ) → LineFits s line → (c : Context) (on : Bool) → IsAtRest c → P (running_in (record s { memory = m; line = line }) c on)
Returns AndThreads P s = (threads : List Thread) (current : ℕ) (next : Option ℕ) (c : Context) (on : Bool) → (Valid s → ThreadsFit s threads current next) → (Valid s → IsAtRest c)
    → P (running_in (record s { threads = threads; current = current; next = next }) c on)
Returns AndEvents P s = (events : List Event) (c : Context) (on : Bool) → EventsFit s.events events → IsAtRest c → P (running_in (record s { events = events }) c on)
Returns AndChains P s = (m : Memory) (chains : List (List ℕ)) (c : Context) (on : Bool) → ChainsFit s.chains chains → IsAtRest c → P (running_in (record s { memory = m; chains = chains }) c on)
Returns AndHeap P s = (h : Heap) (c : Context) (on : Bool) → (Valid s → HeapFits h) → IsAtRest c → P (running_in (record s { heap = h }) c on)
Returns AndHeapMemory P s = (m : Memory) (h : Heap) (c : Context) (on : Bool) → (Valid s → HeapFits h) → IsAtRest c → P (running_in (record s { memory = m; heap = h }) c on)
Returns AndFrames P s = (threads : List Thread) (current : ℕ) (next : Option ℕ) (events : List Event) (frames : List Frame) (c : Context) (on : Bool)
    → (let t : KernelState = running_in (record s { threads = threads; current = current; next = next; events = events; frames = frames }) c on in (Valid s → GoesOn t) → P t)
Returns AndPlace P s = (m : Memory) (place : ℕ) (c : Context) (on : Bool) → IsAtRest c → P (running_in (record s { memory = m; token = place }) c on)

-- ---- a stay that changes the running context alone

module _ (P : KernelState → Type 0) (Q : Stop → Memory → Type 0) (s : KernelState)
    (halts : (stop : Stop) → Q stop s.memory) (returns : (c : Context) (on : Bool) → IsAtRest c → P (running_in s c on)) where
  -- a return at an address, with interrupts on or off, and one with an answer
  pub on_at : (at : ℕ) (on : Bool) → P (running_in s (taken s.running.context at) on)
  on_at at on = returns (taken s.running.context at) on (at_rest s.running.context at)

  pub answer_at : (at value : ℕ) (on : Bool) → P (running_in s (with_answer (taken s.running.context at) value) on)
  answer_at at value on = returns (with_answer (taken s.running.context at) value) on (answer_at_rest s.running.context at value)

  pub answered_ends : (value : ℕ) → EachEnd P Q (answered s value)
  answered_ends value = answer_at (registers_of s).r31 value s.running.interrupts

  pub waits_ends : EachEnd P Q (waits s)
  waits_ends = on_at (epc_of s.running.context) s.running.interrupts

  -- a call whose first argument is a pointer, where 0 answers 0
  pub pointer_ends : (stay : Stay) → EachEnd P Q stay → EachEnd P Q (if nat_eq (registers_of s).r4 0 then answered s 0 else stay)
  pointer_ends stay h = if_ends P Q (nat_eq (registers_of s).r4 0) _ _ (answered_ends 0) h

  -- and one whose first two are
  pub pointers_end : (stay : Stay) → EachEnd P Q stay → EachEnd P Q (if nat_eq (registers_of s).r4 0 || nat_eq (registers_of s).r5 0 then answered s 0 else stay)
  pointers_end stay h = if_ends P Q (nat_eq (registers_of s).r4 0 || nat_eq (registers_of s).r5 0) _ _ (answered_ends 0) h
