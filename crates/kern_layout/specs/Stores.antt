-- What a store leaves and changes of words, of fields and of a state.
use Rattle.std.specs.Prelude.{◌≡◌, ◌⊎◌, ℕ, ◌%◌, ◌<◌, ◌≤◌, List, [], ◌∷◌, slice_set, nat_eq, if◌then◌else◌}
use Rattle.psx_base.specs.KernelState.{Thread, Event, Frame, KernelState}
use Rattle.kern_layout.specs.Fields.{Fields}

-- the words after a store
abbrev pub put : (ℕ → ℕ) → ℕ → ℕ → ℕ → ℕ
put w at v a = if nat_eq a at then v else w a

-- the words at multiples of 4 in a range are the same
abbrev pub Same : (low high : ℕ) → (ℕ → ℕ) → (ℕ → ℕ) → Type 0
Same low high w x = (a : ℕ) → a % 4 ≡ 0 → low ≤ a → a < high → x a ≡ w a

-- those outside a range are
abbrev pub SameOutside : (low high : ℕ) → (ℕ → ℕ) → (ℕ → ℕ) → Type 0
SameOutside low high w x = (a : ℕ) → a % 4 ≡ 0 → (a < low) ⊎ (high ≤ a) → x a ≡ w a

-- the bytes in a range are the same
abbrev pub SameBytes : (low high : ℕ) → (ℕ → ℕ) → (ℕ → ℕ) → Type 0
SameBytes low high b c = (a : ℕ) → low ≤ a → a < high → c a ≡ b a

-- fields with another value at an offset
abbrev pub with_field : Fields → ℕ → ℕ → Fields
with_field [] o v = []
with_field (f ∷ fs) o v = (f.0, if nat_eq f.0 o then v else f.1) ∷ with_field fs o v

-- states with another element in a table
abbrev pub with_thread : KernelState → ℕ → Thread → KernelState
with_thread s n t = record s { threads = slice_set s.threads n t }

abbrev pub with_event : KernelState → ℕ → Event → KernelState
with_event s i e = record s { events = slice_set s.events i e }

abbrev pub with_frame : KernelState → ℕ → Frame → KernelState
with_frame s n f = record s { frames = slice_set s.frames n f }

abbrev pub with_chain : KernelState → ℕ → List ℕ → KernelState
with_chain s p c = record s { chains = slice_set s.chains p c }
