-- What a program may rest on, said of the calls' definitions alone.
use Rattle.std.specs.Prelude.{◌≡◌, ◌≢◌, ◌⊎◌, ℕ, ◌-◌, ◌^◌, ◌≤◌, List, [], ◌∷◌, length}
use Rattle.psx_base.specs.Context.{taken}
use Rattle.psx_base.specs.KernelState.{KernelState}
use Rattle.kern_layout.specs.Reads.{event, chain}
use Rattle.kern_layout.specs.Valid.{Valid}
use Rattle.kern_layout.specs.declared.places.TheConstants.{EVENT_FREE, EVENT_READY}
use Rattle.abs_kernel.specs.declared.calls.CallId.{CallId}
use Rattle.abs_kernel.specs.declared.calls.CallId.TheVariants.{B08, B09, B0A, B0B, B0C, B0D, B20}
use Rattle.abs_kernel.specs.StayLaws.{EachEnd, EachReturn}
use Rattle.abs_kernel.specs.Answered.{registers_of, with_running, with_answer}
use Rattle.abs_kernel.specs.Events.{event_number}
use Rattle.abs_kernel.specs.OpenEvent.{open_event}
use Rattle.abs_kernel.specs.CloseEvent.{close_event}
use Rattle.abs_kernel.specs.TestEvent.{test_event}
use Rattle.abs_kernel.specs.SysEnqIntRP.{sys_enq_int_rp}
use Rattle.abs_kernel.specs.SysDeqIntRP.{sys_deq_int_rp}
use Rattle.abs_kernel.specs.Calls.{call}

-- a state is another one, but for r2, the place where the program goes on, k0 and k1
abbrev pub AnswerAlone : (s t : KernelState) → Type 0
AnswerAlone s t = t ≡ with_running s (with_answer (taken s.running.context (registers_of s).r31) (registers_of t).r2)

-- the event that the handle in r4 names
abbrev pub named : KernelState → ℕ
named s = event_number (registers_of s).r4

abbrev pub Each : (CallId → Type 0) → List CallId → Type 0
Each P [] = Unit {0}
Each P (id ∷ ids) = P id × Each P ids

-- ---- a ready event is seen once

abbrev pub IsReady : KernelState → ℕ → Type 0
IsReady s i = (event s i).status ≡ EVENT_READY

-- TestEvent answers 1 where the event was ready, and else 0 and leaves all as it is
pub record Tested (s t : KernelState) : Type 0 where
  pub one : IsReady s (named s) → (registers_of t).r2 ≡ 1
  pub zero : (IsReady s (named s) → ⊥) → ((registers_of t).r2 ≡ 0) × AnswerAlone s t

-- and in each later state that has the event as it was left it answers 0
abbrev pub ReadyOnce : Type 0
ReadyOnce = (s : KernelState) → EachReturn (λ t. Tested s t × ((u : KernelState) → event u (named u) ≡ event t (named s) → EachReturn (λ w. (registers_of w).r2 ≡ 0) (test_event u))) (test_event s)

-- ---- a bad handle

abbrev pub by_handle : List CallId
by_handle = B09 ∷ B0A ∷ B0B ∷ B0C ∷ B0D ∷ []

-- each call with a handle returns with an answer alone, where the handle is that of no event
abbrev pub BadHandleKeeps : Type 0
BadHandleKeeps = Each (λ id. (s : KernelState) → length s.events ≤ named s → EachEnd (AnswerAlone s) (λ stop memory. ⊥) (call id s)) by_handle

-- ---- a handle is good until it is closed

abbrev pub IsOpen : KernelState → ℕ → Type 0
IsOpen s i = (event s i).status ≢ EVENT_FREE

-- an answer other than -1 is the handle of an event that is open
abbrev pub OpensGood : Type 0
OpensGood = (s : KernelState) → Valid s → EachReturn (λ t. ((registers_of t).r2 ≡ 2 ^ 32 - 1) ⊎ IsOpen t (event_number (registers_of t).r2)) (open_event s)

-- the calls on events but CloseEvent leave each open event open, and CloseEvent each other one
abbrev pub leaving : List CallId
leaving = B08 ∷ B0A ∷ B0B ∷ B0C ∷ B0D ∷ B20 ∷ []

pub record StaysGood : Type 0 where
  pub leave : Each (λ id. (s : KernelState) (i : ℕ) → IsOpen s i → EachReturn (λ t. IsOpen t i) (call id s)) leaving
  pub close : (s : KernelState) (i : ℕ) → IsOpen s i → named s ≢ i → EachReturn (λ t. IsOpen t i) (close_event s)

-- ---- an element put in a chain and taken out again

-- Behind a SysEnqIntRP that answers 0, SysDeqIntRP of the same element answers 0 and gives the chain of before, in each state with the chain as it was left.
abbrev pub TakenBack : Type 0
TakenBack =
    (s : KernelState) → Valid s → let r = registers_of s in EachReturn (λ t. (registers_of t).r2 ≡ 0 → (u : KernelState) → (registers_of u).r4 ≡ r.r4 → (registers_of u).r5 ≡ r.r5
    → chain u r.r4 ≡ chain t r.r4 → EachEnd (λ w. ((registers_of w).r2 ≡ 0) × (chain w r.r4 ≡ chain s r.r4)) (λ stop memory. ⊥) (sys_deq_int_rp u)) (sys_enq_int_rp s)
