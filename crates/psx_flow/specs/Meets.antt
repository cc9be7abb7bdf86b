-- What a listing meets: from a state, whatever the bus brings, where its runs end.
use Rattle.std.specs.Prelude.{◌≡◌, ◌≢◌, ℕ, zero, suc, ◌+◌, ◌*◌, ◌^◌, ◌<◌, ◌≤◌, ◌⊎◌, Bool, true, cond, nat_eq, List, [], ◌∷◌, None}
use Rattle.psx_base.specs.Registers.{Registers, register, with_register}
use Rattle.psx_cpu.specs.Processor.{Bus}
use Rattle.psx_cpu.specs.Traps.{trap_of}
use Rattle.psx_flow.specs.declared.node.Test.{Test}
use Rattle.psx_flow.specs.declared.node.Test.TheVariants.{Same, Differ, NotAbove, Above, Negative, NotNegative}
use Rattle.psx_flow.specs.Tree.{Tree, Stop, Do, When, Choose, Loop, Visit, Go, GoTo, size}
use Rattle.psx_flow.specs.Lowered.{opposite}
use Rattle.psx_flow.specs.Run.{Run, state_at, done, spares}

-- a test: of two registers, or of one with 0 as a signed number
abbrev pub TestHolds : Test → Registers → Type 0
TestHolds (Same a b) c = register c a.0 ≡ register c b.0
TestHolds (Differ a b) c = register c a.0 ≢ register c b.0
TestHolds (NotAbove a) c = (register c a.0 ≡ 0) ⊎ (2 ^ 31 ≤ register c a.0)
TestHolds (Above a) c = (0 < register c a.0) × (register c a.0 < 2 ^ 31)
TestHolds (Negative a) c = 2 ^ 31 ≤ register c a.0
TestHolds (NotNegative a) c = register c a.0 < 2 ^ 31

-- One more node is passed, which is a branch or a jump: two steps, with its slot.
abbrev pub passing : Run → Run
passing s = record s { passed = suc s.passed; steps = suc (suc s.steps) }

-- The branch of an Other, or of a While's End, which is no node that is passed: behind the part that was run, over the other one or back to the While.
abbrev pub branching : Run → Run
branching s = record s { steps = suc (suc s.steps) }

-- a call is made, with the address behind its slot in r31
abbrev pub linking : Run → ℕ → Run
linking s back = record s { regs = with_register s.regs 31 back; passed = suc s.passed; steps = suc (suc s.steps) }

-- what a set of states asks
abbrev pub Goal : Type 1
Goal = Run → Type 0

-- what is known of calls: from the state of the call, that the listing at the first address comes back to the second in a state of the goal
abbrev pub Calls : Type 1
Calls = ℕ → ℕ → Goal → Goal

-- fewer than n turns of a loop, each begun with its test and ended with the branch back, and then what follows it
abbrev pub Turns : ℕ → Test → (Goal → Goal) → Goal → Goal
Turns zero t body K s = ⊥
Turns (suc n) t body K s = (TestHolds (opposite t) s.regs → K (passing s)) × (TestHolds t s.regs → body (λ m. Turns n t body K (branching m)) (passing s))

module _ (kept : ℕ → Bool) where
  -- The tree that stands at `at`, run from s, whatever the bus brings: no instruction traps, or stores over a word that is kept, or turns interrupts on;
  -- each call comes back; and the run ends, behind the last word in a state of K, by a Jump to an address a in a state of J a, or by a JumpTo to an address a in a state of G a.
  abbrev pub MeetsEach : Calls → Tree → ℕ → Goal → (ℕ → Goal) → (ℕ → Goal) → Goal
  MeetsEach C Stop at K J G s = K s
  MeetsEach C (Do i r) at K J G s =
      (trap_of i (state_at s at).context ≡ None) × (spares kept i (state_at s at).context ≡ true)
      × ((bus : Bus) → bus.value < 2 ^ 32 → MeetsEach C r (at + 4) K J G (done i s at bus))
  MeetsEach C (When t a r) at K J G s =
      (TestHolds t s.regs → MeetsEach C a (at + 8) (MeetsEach C r (at + (8 + 4 * size a)) K J G) J G (passing s))
      × (TestHolds (opposite t) s.regs → MeetsEach C r (at + (8 + 4 * size a)) K J G (passing s))
  MeetsEach C (Choose t a b r) at K J G s =
      (TestHolds t s.regs → MeetsEach C a (at + 8) (λ m. MeetsEach C r (at + (16 + 4 * size a + 4 * size b)) K J G (branching m)) J G (passing s))
      × (TestHolds (opposite t) s.regs → MeetsEach C b (at + (16 + 4 * size a)) (MeetsEach C r (at + (16 + 4 * size a + 4 * size b)) K J G) J G (passing s))
  MeetsEach C (Loop t a r) at K J G s =
      (n : ℕ) × Turns n t (λ L. MeetsEach C a (at + 8) L J G) (MeetsEach C r (at + (16 + 4 * size a)) K J G) s
  MeetsEach C (Visit a r) at K J G s = C a (at + 8) (MeetsEach C r (at + 8) K J G) (linking s (at + 8))
  MeetsEach C (Go a r) at K J G s = J a (passing s)
  MeetsEach C (GoTo n r) at K J G s = G (register s.regs n.0) (passing s)

  -- whichever jump it ends by
  abbrev pub Meets : Calls → Tree → ℕ → Goal → (ℕ → Goal) → Goal
  Meets C T at K G = MeetsEach C T at K G G

  -- The calls of a list of listings with their addresses, each of which calls only those behind it: a call comes back by a JumpTo to the address behind the call.
  abbrev pub calls : List (ℕ × Tree) → Calls
  calls [] a back K s = ⊥
  calls (l ∷ ls) a back K s = cond (nat_eq a l.0) (MeetsEach (calls ls) l.1 l.0 (λ _. ⊥) (λ _ _. ⊥) (λ b m. (b ≡ back) × K m) s) (calls ls a back K s)
