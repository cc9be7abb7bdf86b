-- What holds of frames over whole runs: of stays and steps of user code, whatever these are.
use Rattle.std.specs.Prelude.{◌≡◌, ◌⊎◌, ℕ, suc, ◌≤◌, Bool, true, false, List, [], ◌∷◌, ◌++◌, length, Option, Some, if◌then◌else◌}
use Rattle.psx_base.specs.declared.stop.Table.TheVariants.{A, B, C}
use Rattle.psx_base.specs.Registers.{Registers}
use Rattle.psx_base.specs.Items.{Entrance, ByA, ByB, ByC, ByBack}
use Rattle.psx_base.specs.KernelState.{Frame, KernelState}
use Rattle.abs_kernel.specs.declared.calls.CallId.{CallId}
use Rattle.abs_kernel.specs.declared.calls.CallId.TheVariants.{B17}
use Rattle.abs_kernel.specs.CallTable.{served_call}
use Rattle.abs_kernel.specs.Cause.{entrance_of}
use Rattle.abs_kernel.specs.Answered.{registers_of}
use Rattle.abs_kernel.specs.TakingUp.{resumed}
use Rattle.abs_kernel.specs.Tasks.{work}
use Rattle.abs_kernel.specs.Returning.{without_innermost}
use Rattle.abs_kernel.specs.KernelStep.{settled_state, stay_of}
use Rattle.abs_kernel.specs.StayLaws.{settled_registers}
use Rattle.abs_kernel.specs.ThreadLaws.{Move, Step, Stays, Moves}

abbrev pub returns_from_exception : Option CallId → Bool
returns_from_exception (Some B17) = true
returns_from_exception _ = false

-- a stay that takes the innermost frame away: of a return at gate E0h, or of ReturnFromException
abbrev pub takes_frame : Entrance → Registers → Bool
takes_frame ByA r = returns_from_exception (served_call A r.r9)
takes_frame ByB r = returns_from_exception (served_call B r.r9)
takes_frame ByC r = returns_from_exception (served_call C r.r9)
takes_frame ByBack r = true
takes_frame _ r = false

-- the frames that a move leaves of those that are there
abbrev pub left : Move → KernelState → List Frame
left Step s = s.frames
left (Stays code answers) s = if takes_frame (entrance_of s.running.context code) (settled_registers s) then without_innermost s.frames else s.frames

-- each move leaves frames as they are, and puts at most one upon them
abbrev pub MoveKeepsFrames : Type 0
MoveKeepsFrames = (s t : KernelState) (move : Move) → Moves move s t → (t.frames ≡ left move s) ⊎ ((f : Frame) × (t.frames ≡ left move s ++ (f ∷ [])))

-- such moves lead from a state to another, and each leaves at least d frames
abbrev pub Above : (d : ℕ) → List Move → (s u : KernelState) → Type 0
Above d [] s u = u ≡ s
Above d (move ∷ moves) s u = (d ≤ length (left move s)) × (t : KernelState) × Moves move s t × Above d moves t u

-- so frames stay, whatever is done, while none of them is taken away
abbrev pub FramesStay : Type 0
FramesStay = (s u : KernelState) (fs gs : List Frame) (moves : List Move) → s.frames ≡ fs ++ gs → Above (length fs) moves s u → (hs : List Frame) × (u.frames ≡ fs ++ hs)

-- A return that takes frame f away, with these frames below it: at gate E0h it goes on with the frame's context and tasks, and ReturnFromException takes the context up.
pub record GoesOnWith (fs : List Frame) (f : Frame) (u : KernelState) : Type 0 where
  pub frames : u.frames ≡ fs ++ (f ∷ [])
  pub back : (code : ℕ) → entrance_of u.running.context code ≡ ByBack
      → let v = settled_state u in stay_of u code ≡ work (record v { frames = fs }) f.context f.tasks (registers_of v).r2 (registers_of v).r31
  pub dropped : (code : ℕ) → entrance_of u.running.context code ≡ ByB → served_call B (settled_registers u).r9 ≡ Some B17
      → let v = settled_state u in stay_of u code ≡ resumed (record v { frames = fs }) f.context

-- The last frame but n is taken away when the n above it have gone, with any others that were put there meanwhile, and the return goes on with what it kept at first.
abbrev pub FramesAreKept : Type 0
FramesAreKept = (s u : KernelState) (fs : List Frame) (f : Frame) (gs : List Frame) (moves : List Move)
    → s.frames ≡ fs ++ (f ∷ gs) → Above (suc (length fs)) moves s u → length u.frames ≡ suc (length fs) → GoesOnWith fs f u
