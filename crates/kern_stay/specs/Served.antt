-- What a crate's calls are: each with the address of its listing, and served there.
use Rattle.std.specs.Prelude.{ℕ, ◌⊎◌, List, [], ◌∷◌}
use Rattle.psx_base.specs.Memory.{Memory}
use Rattle.abs_kernel.specs.declared.calls.CallId.{CallId}
use Rattle.abs_kernel.specs.Calls.{call}
use Rattle.kern_stay.specs.Doors.{IsServed}
use Rattle.kern_stay.specs.Loops.{IsServedBy}
use Rattle.kern_stay.specs.Stages.{IsServedIn}

-- this is so of each call with its address
abbrev pub EachAt : (CallId → ℕ → Type 0) → List (CallId × ℕ) → Type 0
EachAt P [] = Unit {0}
EachAt P (p ∷ ps) = P p.0 p.1 × EachAt P ps

-- a call is served, within so many steps, by a listing, by two of which one is a loop that accesses ports, or by several that jump to one another
abbrev pub ServedAt : Memory → (most : ℕ) → CallId → ℕ → Type 0
ServedAt m most id at = IsServed m most (call id) at ⊎ (IsServedBy m most (call id) at ⊎ IsServedIn m most (call id) at)

-- each of a crate's calls is served at its address
abbrev pub AllServed : Memory → (most : ℕ) → List (CallId × ℕ) → Type 0
AllServed m most calls = EachAt (ServedAt m most) calls
