-- The loop of a routine, as it stands in its listing, and the ends of a routine that has one.
use Rattle.psx_flow.proofs.Kit.{◌≡◌, ℕ, ◌≤◌, arith, [], Run, Goal, Calls, Fair, Tree, Stop, Do, When, Loop, Visit, Meets, Anew, kernel_words, while, Turn, Sym, ended}
use Rattle.psx_ins.specs.declared.reg.Reg.{Reg}
use Rattle.psx_flow.specs.declared.node.Test.{Test}
use Rattle.psx_flow.specs.declared.node.Test.TheVariants.{Same}
use Rattle.psx_flow.specs.Told.{ports}
use Rattle.psx_base.specs.KernelState.{KernelState}
use Rattle.abs_kernel.specs.Stay.{Stay}
use Rattle.abs_kernel.specs.Answered.{answered}
use Rattle.abs_kernel.specs.UserBytes.{bad_pointer}
use Rattle.kern_stay.specs.declared.places.TheConstants.{LEAVE, BAD_POINTER}
use Rattle.kern_stay.specs.Doors.{Holds, Through}
use Rattle.kern_stay.proofs.RoomLeft.{Span}
use Rattle.kern_stay.proofs.Cursor.{Cursor}
use Rattle.kern_stay.proofs.Ending.{Left, through, answers, refuses}

-- register n
abbrev pub r : ℕ → Reg
r n = record { 0 = n }

-- the test of the first loop behind straight nodes, its body, and what follows it
abbrev pub loop_test : Tree → Test
loop_test (Do i rest) = loop_test rest
loop_test (When t a rest) = loop_test rest
loop_test (Visit a rest) = loop_test rest
loop_test (Loop t a rest) = t
loop_test _ = Same (r 0) (r 0)

abbrev pub loop_body : Tree → Tree
loop_body (Do i rest) = loop_body rest
loop_body (When t a rest) = loop_body rest
loop_body (Visit a rest) = loop_body rest
loop_body (Loop t a rest) = a
loop_body _ = Stop

abbrev pub behind_loop : Tree → Tree
behind_loop (Do i rest) = behind_loop rest
behind_loop (When t a rest) = behind_loop rest
behind_loop (Visit a rest) = behind_loop rest
behind_loop (Loop t a rest) = rest
behind_loop _ = Stop

-- One turn of the loop of a listing, by the number of units to come. A body without calls doesn't depend on its address.
abbrev pub Turning : Calls → Tree → (ℕ → Goal) → (ℕ → Goal) → ℕ → Goal
Turning C T G Inv k e = Turn C (loop_test T) (loop_body T) 0 (Sym C (behind_loop T) 0 (ended (λ _. ⊥)) G) G ℕ (λ i. i) Inv k e

-- the loop, and what follows it
abbrev pub FromLoop : Calls → Tree → (ℕ → Goal) → Goal
FromLoop C T G e = Meets kernel_words C (Loop (loop_test T) (loop_body T) Stop) 0 (Anew (Sym C (behind_loop T) 0 (ended (λ _. ⊥)) G)) G e

pub looped : (C : Calls) → Fair C → (T : Tree) (G : ℕ → Goal) (Inv : ℕ → Goal)
    → ((k : ℕ) (e : Run) → Inv k e → Turning C T G Inv k e) → (k : ℕ) (e : Run) → Inv k e → FromLoop C T G e
looped C fair T G Inv turn k e h = while C fair (loop_test T) (loop_body T) 0 (Sym C (behind_loop T) 0 (ended (λ _. ⊥)) G) G ℕ (λ i. i) Inv turn k e h

-- a pointer at its beginning
pub starting : (a n stop flag x : ℕ) → Span a n stop flag → x ≡ a → Cursor a n stop n x
starting a n stop flag x span e = record { low = omega (arith, e); high = omega (arith, e, span.low); count = omega (arith, e) }

-- ---- the ends, with what is left of the stay

pub leaves : {flat : ℕ} (stay rest : Stay) (most : ℕ) (state : KernelState) (e : Run) → Left flat stay rest most → ports e.seen ≡ []
    → rest ≡ answered state e.regs.r2 → Holds state e.bytes → e.steps ≤ most → Through stay flat LEAVE e
leaves {flat} stay rest most state e l quiet is h few = through stay flat LEAVE e quiet (l.enough LEAVE e (answers most state e rest is h few))

pub stops : {flat : ℕ} (stay rest : Stay) (most : ℕ) (state : KernelState) (e : Run) → Left flat stay rest most → ports e.seen ≡ []
    → rest ≡ bad_pointer state e.regs.r8 → Holds state e.bytes → e.steps ≤ most → Through stay flat BAD_POINTER e
stops {flat} stay rest most state e l quiet is h few = through stay flat BAD_POINTER e quiet (l.enough BAD_POINTER e (refuses most state e rest is h few))
