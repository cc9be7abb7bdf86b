-- The ends of the calls on events.
use Rattle.std.proofs.Common.{◌≡◌, ℕ, zero, suc, ◌≤◌, Bool, true, false, List, [], ◌∷◌, length, inl, inr, refl, ap, arith}
use Rattle.std.specs.Prelude.{All, nat_eq, ◌&&◌, map, slice_index_or, if◌then◌else◌}
use Rattle.psx_base.specs.declared.stop.Stop.{Stop}
use Rattle.psx_base.specs.Memory.{Memory}
use Rattle.psx_base.specs.Context.{Context, IsAtRest}
use Rattle.psx_base.specs.KernelState.{Event, KernelState}
use Rattle.kern_layout.specs.Valid.{IsStatus}
use Rattle.kern_layout.specs.declared.places.TheConstants.{EVENT_FREE, EVENT_BUSY, EVENT_READY}
use Rattle.abs_kernel.specs.Answered.{registers_of, answered}
use Rattle.abs_kernel.specs.Events.{event_number, event_handle, has_status, with_status, gets_status}
use Rattle.abs_kernel.specs.OpenEvent.{with_opened, opens_from, open_event}
use Rattle.abs_kernel.specs.TestEvent.{test_event}
use Rattle.abs_kernel.specs.WaitEvent.{wait_event}
use Rattle.abs_kernel.specs.UnDeliverEvent.{undelivered, undeliver_event}
use Rattle.abs_kernel.specs.StayLaws.{EachEnd}
use Rattle.abs_kernel.proofs.Evented.{EventsFit, HasStatus, events_same, events_set}
use Rattle.abs_kernel.proofs.Ending.{running_in, answered_ends, waits_ends, if_ends}

undelivered_fits : (class spec : ℕ) (e : Event) → HasStatus e → HasStatus (undelivered class spec e)
undelivered_fits class spec e h = go (nat_eq e.class class && (nat_eq e.status EVENT_READY && (nat_eq e.spec spec && nat_eq e.mode 0x2000)))
  where
    go : (b : Bool) → HasStatus (if b then record e { status = EVENT_BUSY } else e)
    go true = inr (inr (inl refl))
    go false = h

map_count : (f : Event → Event) (es : List Event) → length (map f es) ≡ length es
map_count f [] = refl
map_count f (e ∷ es) = ap suc (map_count f es)

map_fits : (f : Event → Event) → ((e : Event) → HasStatus e → HasStatus (f e)) → (es : List Event) → All HasStatus es → All HasStatus (map f es)
map_fits f ok [] h = λ k d lt. absurd (omega (arith, lt))
map_fits f ok (e ∷ es) h = λ k d lt. at (map_fits f ok es (λ j c l. h (suc j) c (omega (arith, l)))) k d lt
  where
    at : All HasStatus (map f es) → (k : ℕ) (d : Event) → suc k ≤ suc (length (map f es)) → HasStatus (slice_index_or (f e ∷ map f es) k d)
    at rest zero d lt = ok e (h 0 e (omega arith))
    at rest (suc k) d lt = rest k d (omega (arith, lt))

map_events : (f : Event → Event) → ((e : Event) → HasStatus e → HasStatus (f e)) → (es : List Event) → EventsFit es (map f es)
map_events f ok es = record { count = map_count f es; fit = map_fits f ok es }

module _ (P : KernelState → Type 0) (Q : Stop → Memory → Type 0) (s : KernelState) (halts : (stop : Stop) → Q stop s.memory)
    (returns : (events : List Event) (c : Context) (on : Bool) → EventsFit s.events events → IsAtRest c → P (running_in (record s { events = events }) c on)) where
  evented : (events : List Event) (value : ℕ) → EventsFit s.events events → EachEnd P Q (answered (record s { events = events }) value)
  evented events value fit = answered_ends P Q (record s { events = events }) halts (λ c on r. returns events c on fit r) value

  -- with the events as they are
  plain : (value : ℕ) → EachEnd P Q (answered s value)
  plain value = evented s.events value (events_same s.events)

  stored : (i status value : ℕ) → IsStatus status → EachEnd P Q (answered (with_status s i status) value)
  stored i status value ok = evented (with_status s i status).events value (events_set s.events i _ ok)

  pub status_ends : (status : ℕ) → IsStatus status → EachEnd P Q (gets_status status s)
  status_ends status ok = let i = event_number (registers_of s).r4 in if_ends P Q (has_status s i EVENT_FREE) _ _ (plain 1) (stored i status 1 ok)

  opened_ends : (k i : ℕ) → EachEnd P Q (opens_from k s i)
  opened_ends zero i = plain _
  opened_ends (suc k) i = if_ends P Q (has_status s i EVENT_FREE) _ _ (evented (with_opened s i).events (event_handle i) (events_set s.events i _ (inr (inl refl)))) (opened_ends k (suc i))

  pub open_event_ends : EachEnd P Q (open_event s)
  open_event_ends = opened_ends (length s.events) 0

  pub test_event_ends : EachEnd P Q (test_event s)
  test_event_ends = let i = event_number (registers_of s).r4 in if_ends P Q (has_status s i EVENT_READY) _ _ (stored i EVENT_BUSY 1 (inr (inr (inl refl)))) (plain 0)

  pub wait_event_ends : EachEnd P Q (wait_event s)
  wait_event_ends = if_ends P Q (has_status s (event_number (registers_of s).r4) EVENT_BUSY) _ _ (waits_ends P Q s halts (λ c on r. returns s.events c on (events_same s.events) r)) test_event_ends

  pub undeliver_event_ends : EachEnd P Q (undeliver_event s)
  undeliver_event_ends = let r = registers_of s in evented (map (undelivered r.r4 r.r5) s.events) 0 (map_events (undelivered r.r4 r.r5) (undelivered_fits r.r4 r.r5) s.events)
