-- What strtok gives over its calls (PSX-SPX, Kernel (BIOS), String functions: strtok).
use Rattle.std.specs.Prelude.{◌≡◌, ◌≢◌, ℕ, Bool, true, false, ◌||◌, nat_eq, List, [], ◌∷◌, ◌++◌, if◌then◌else◌}
use Rattle.psx_base.specs.Addresses.{place, user}
use Rattle.psx_base.specs.Memory.{Memory, byte}
use Rattle.psx_base.specs.KernelState.{KernelState}
use Rattle.abs_kernel.specs.Answered.{registers_of}
use Rattle.abs_kernel.specs.UserBytes.{following}
use Rattle.abs_kernel.specs.Played.{Returned, played}
use Rattle.abs_kernel.specs.Strtok.{strtok}

-- a text stands at an address of user memory: its bytes, none of them 0, and a zero behind them
abbrev pub TextAt : Memory → (at : ℕ) → List ℕ → Type 0
TextAt m at [] = (user at ≡ true) × (byte m (place at) ≡ 0)
TextAt m at (x ∷ xs) = (user at ≡ true) × (byte m (place at) ≡ x) × (x ≢ 0) × TextAt m (following at) xs

-- a byte is none of those at which a text stands, its zero among them
abbrev pub Away : (p at : ℕ) → List ℕ → Type 0
Away p at [] = p ≢ place at
Away p at (x ∷ xs) = (p ≢ place at) × Away p (following at) xs

-- no byte of a text but its zero is one of another's
abbrev pub NoneShared : (at : ℕ) → List ℕ → (set : ℕ) → List ℕ → Type 0
NoneShared at [] set ys = Unit {0}
NoneShared at (x ∷ xs) set ys = Away (place at) set ys × NoneShared (following at) xs set ys

-- whether a byte is among others
abbrev pub is_among : ℕ → List ℕ → Bool
is_among b [] = false
is_among b (y ∷ ys) = nat_eq y b || is_among b ys

-- the maximal runs of bytes that aren't among ys, in order, where the bytes w of a run stand before
abbrev pub closed : (w : List ℕ) → List (List ℕ) → List (List ℕ)
closed [] ws = ws
closed (b ∷ w) ws = (b ∷ w) ∷ ws

abbrev pub runs : (ys w xs : List ℕ) → List (List ℕ)
runs ys w [] = closed w []
runs ys w (x ∷ xs) = if is_among x ys then closed w (runs ys [] xs) else runs ys (w ++ (x ∷ [])) xs

-- the program calls again with 0 for the text and the same set; memory and the place are as they were left
pub record CallsAgain (set : ℕ) (t u : KernelState) : Type 0 where
  pub memory : u.memory ≡ t.memory
  pub token : u.token ≡ t.token
  pub r4 : (registers_of u).r4 ≡ 0
  pub r5 : (registers_of u).r5 ≡ set

-- the call and those that follow it answer the addresses at which these texts then stand, one by one, and last 0
abbrev pub GivesTexts : (set : ℕ) → List (List ℕ) → KernelState → Type 0
GivesTexts set [] s = (t : KernelState) × ((played (strtok s) []).end ≡ Returned t) × ((registers_of t).r2 ≡ 0)
GivesTexts set (w ∷ ws) s = (t : KernelState) × ((played (strtok s) []).end ≡ Returned t) × TextAt t.memory (registers_of t).r2 w × ((u : KernelState) → CallsAgain set t u → GivesTexts set ws u)

-- of a text and a set that shares no byte with it, strtok gives the maximal runs of bytes that aren't in the set, in order
abbrev pub TokensAreRuns : Type 0
TokensAreRuns = (s : KernelState) (xs ys : List ℕ) → let r = registers_of s in TextAt s.memory r.r4 xs → TextAt s.memory r.r5 ys → NoneShared r.r4 xs r.r5 ys → GivesTexts r.r5 (runs ys [] xs) s
