-- What holds of the ranges of the kernel's 64 KB.
use Rattle.std.specs.Prelude.{◌≡◌, ℕ, ◌<◌, ◌≤◌, false, List, AllPairs, All, ◌||◌}
use Rattle.psx_base.specs.Addresses.{user_main, scratchpad}
use Rattle.kern_layout.specs.declared.ranges.Range.{Range}

-- an address lies in a range
abbrev pub In : Range → ℕ → Type 0
In r a = (r.from ≤ a) × (a < r.to)

-- two ranges have no address in common
abbrev pub Apart : Range → Range → Type 0
Apart r s = (a : ℕ) → In r a → In s a → ⊥

-- no two of these have
abbrev pub RangesApart : List Range → Type 0
RangesApart rs = AllPairs Apart rs

-- none of these has an address of user memory, neither in main memory nor in the scratchpad
abbrev pub RangesBelowUser : List Range → Type 0
RangesBelowUser rs = All (λ r. (a : ℕ) → In r a → (user_main a || scratchpad a) ≡ false) rs
