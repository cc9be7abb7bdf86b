-- A call is served by a listing whose words stand at its address.
use Rattle.std.proofs.Common.{◌≡◌, ℕ, ◌+◌, ◌*◌, ◌%◌, ◌^◌, ◌<◌, List, [], length, get_or, true, false, sym, ap, ◌∙◌}
use Rattle.std.specs.Prelude.{nat_eq}
use Rattle.std.proofs.lemmas.Bool.{false≢true}
use Rattle.psx_base.specs.Memory.{Memory, word}
use Rattle.psx_base.specs.KernelState.{KernelState}
use Rattle.psx_flow.specs.Tree.{Tree, flat}
use Rattle.psx_flow.specs.Well.{fits}
use Rattle.psx_flow.specs.Spaced.{is_spaced}
use Rattle.psx_flow.specs.Lowered.{lowered, reaches}
use Rattle.psx_flow.specs.Kernel.{kernel_words}
use Rattle.psx_flow.specs.Reaches.{ArePlaced}
use Rattle.abs_kernel.specs.Stay.{Stay}
use Rattle.kern_stay.specs.Doors.{IsServed, Serves}
use Rattle.kern_stay.proofs.Standing.{is_code, placed_by}

pub not_zero : (at : ℕ) → nat_eq at 0 ≡ false → at ≡ 0 → ⊥
not_zero at h e = false≢true (sym h ∙ ap (λ n. nat_eq n 0) e)

-- the five facts that stand in front compute for a listing that is given
pub served_by : (m : Memory) (most : ℕ) (stay : KernelState → Stay) (at : ℕ) (own : List (ℕ × Tree)) (T : Tree)
    → nat_eq at 0 ≡ false → fits T ≡ true → reaches T at ≡ true → is_spaced (flat T []) ≡ true → is_code at (length (lowered T at)) ≡ true → ArePlaced kernel_words m own
    → ((k : ℕ) → k < length (lowered T at) → word m (at % 2 ^ 29 + 4 * k) ≡ get_or (lowered T at) k 0) → Serves own most stay at T → IsServed m most stay at
served_by m most stay at own T there fitting reaching roomy code placed words serves = record {
  there = not_zero at there;
  own = own;
  own_placed = placed;
  listing = T;
  placed = placed_by m at T fitting reaching roomy code words;
  serves = serves;
}
