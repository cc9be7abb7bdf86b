-- The tasks of a frame: what is under way, then elements of chains, then lines; and how a frame has them.
use Rattle.std.specs.Prelude.{◌≡◌, ℕ, ◌+◌, List, [], ◌∷◌, ◌++◌, length, map}
use Rattle.psx_base.specs.KernelState.{Task, Element, Second, Line, Scan, Frame}
use Rattle.kern_layout.specs.Fields.{Fields, Block, Stack}
use Rattle.kern_layout.specs.Contexts.{saved}
use Rattle.kern_layout.specs.declared.places.TheConstants.{FRAME_KIND, FRAME_FIRST, FRAME_SPEC, FRAME_EVENT, FRAME_ELEMENT_COUNT, FRAME_LINE_COUNT, FRAME_LINES, FRAME_ELEMENTS, KIND_NONE, KIND_SECOND, KIND_SCAN}

-- the task under way: a second function or a scan, where the tasks begin by one
abbrev pub under_way : List Task → List Task
under_way [] = []
under_way (Element e ∷ ts) = []
under_way (Second e ∷ ts) = Second e ∷ []
under_way (Line n ∷ ts) = []
under_way (Scan class spec i ∷ ts) = Scan class spec i ∷ []

-- the elements whose first function is still to be called, in order
abbrev pub elements_of : List Task → List ℕ
elements_of [] = []
elements_of (Element e ∷ ts) = e ∷ elements_of ts
elements_of (Second e ∷ ts) = elements_of ts
elements_of (Line n ∷ ts) = elements_of ts
elements_of (Scan class spec i ∷ ts) = elements_of ts

-- the lines that are still to be handled, in order
abbrev pub lines_of : List Task → List ℕ
lines_of [] = []
lines_of (Element e ∷ ts) = lines_of ts
lines_of (Second e ∷ ts) = lines_of ts
lines_of (Line n ∷ ts) = n ∷ lines_of ts
lines_of (Scan class spec i ∷ ts) = lines_of ts

-- at most one second function or one scan, then elements, then lines
abbrev pub InOrder : List Task → Type 0
InOrder ts = ts ≡ under_way ts ++ (map Element (elements_of ts) ++ map Line (lines_of ts))

-- how a frame has the task under way
abbrev pub under_way_fields : List Task → Fields
under_way_fields [] = (FRAME_KIND, KIND_NONE) ∷ []
under_way_fields (Element e ∷ ts) = (FRAME_KIND, KIND_NONE) ∷ []
under_way_fields (Second e ∷ ts) = (FRAME_KIND, KIND_SECOND) ∷ (FRAME_FIRST, e) ∷ []
under_way_fields (Line n ∷ ts) = (FRAME_KIND, KIND_NONE) ∷ []
under_way_fields (Scan class spec i ∷ ts) = (FRAME_KIND, KIND_SCAN) ∷ (FRAME_FIRST, class) ∷ (FRAME_SPEC, spec) ∷ (FRAME_EVENT, i) ∷ []

-- how many elements and lines are left
abbrev pub count_fields : List Task → Fields
count_fields ts = (FRAME_ELEMENT_COUNT, length (elements_of ts)) ∷ (FRAME_LINE_COUNT, length (lines_of ts)) ∷ []

-- the block at an address, a frame's or the work area, has these tasks
pub record TasksAt (w : ℕ → ℕ) (at : ℕ) (ts : List Task) : Type 0 where
  pub first : Block w at (under_way_fields ts)
  pub counts : Block w at (count_fields ts)
  pub lines : Stack w (at + FRAME_LINES) (lines_of ts)
  pub elements : Stack w (at + FRAME_ELEMENTS) (elements_of ts)

-- it has this frame
pub record FrameAt (w : ℕ → ℕ) (at : ℕ) (f : Frame) : Type 0 where
  pub context : Block w at (saved f.context)
  pub tasks : TasksAt w at f.tasks
