-- The texts that are written between spaces, in the form in which the listings have them.
use Rattle.std.specs.Prelude.{◌≡◌, ℕ, zero, suc, ◌+◌, ◌-◌, ◌%◌, ◌^◌, ◌<◌, ◌≤◌, Bool, ◌&&◌, true, ◌⊎◌, max, not, is_none, List, [], ◌∷◌, ◌++◌, length, map, take, drop, replicate, if◌then◌else◌, unwrap_or}
use Rattle.psx_base.specs.Addresses.{user}
use Rattle.psx_base.specs.KernelState.{KernelState}
use Rattle.psx_cpu.specs.Words.{truth}
use Rattle.psx_flow.specs.Run.{Run}
use Rattle.abs_kernel.specs.Stay.{Stay}
use Rattle.abs_kernel.specs.Numeral.{lowest_digits}
use Rattle.abs_kernel.specs.Conversion.{Conversion, limited, spaces, significant, byte_of_digit, at_least, null_text}
use Rattle.abs_kernel.specs.Printf.{writes, writes_from}
use Rattle.kern_printf.specs.declared.places.TheConstants as places

-- ---- the text of a number, by its sign and its value without it

abbrev pub signs : (negative : Bool) → List ℕ
signs negative = if negative then 0x2D ∷ [] else []

abbrev pub digits_of : (base letter value : ℕ) → List ℕ
digits_of base letter value = map (byte_of_digit letter) (significant base value)

-- how many digits there are to be at least
abbrev pub least : Conversion → (negative : Bool) → ℕ
least c negative = max (if c.zeros && (not c.left && is_none c.precision) then limited c.width - length (signs negative) else 0) (limited (unwrap_or c.precision 1))

abbrev pub figures : (negative : Bool) (n base letter value : ℕ) → List ℕ
figures negative n base letter value = signs negative ++ at_least n (digits_of base letter value)

-- ---- what stands between the spaces

-- a byte or none, zeros, and the lowest digits of a value; bytes of user memory; or bytes of the text that stands for one at 0
pub data Body : Type 0 where
  Figures : (ahead : Bool) (byte filling digits value base letter : ℕ) → Body
  Bytes : (size from : ℕ) → Body
  Null : (passed size : ℕ) → Body

abbrev pub figure_bytes : (ahead : Bool) (byte filling digits value base letter : ℕ) → List ℕ
figure_bytes ahead byte filling digits value base letter = (if ahead then byte % 2 ^ 8 ∷ [] else []) ++ (replicate filling 0x30 ++ map (byte_of_digit letter) (lowest_digits digits base value))

-- they are written before the rest
abbrev pub shows : Body → KernelState → Stay → Stay
shows (Figures ahead byte filling digits value base letter) s rest = writes (figure_bytes ahead byte filling digits value base letter) rest
shows (Bytes size from) s rest = writes_from size s from rest
shows (Null passed size) s rest = writes (take size (drop passed null_text)) rest

abbrev pub size_of : Body → ℕ
size_of (Figures ahead byte filling digits value base letter) = truth ahead + (filling + digits)
size_of (Bytes size from) = size
size_of (Null passed size) = size

-- so many digits it has, each of which pays for ten steps before it
abbrev pub owed : Body → ℕ
owed (Figures ahead byte filling digits value base letter) = digits
owed (Bytes size from) = 0
owed (Null passed size) = 0

-- between spaces on its left and on its right
abbrev pub between : (left right : ℕ) → Body → KernelState → Stay → Stay
between left right b s rest = writes (spaces left) (shows b s (writes (spaces right) rest))

-- within a width
abbrev pub within : (on_left : Bool) (width : ℕ) → Body → KernelState → Stay → Stay
within on_left width b s rest = let room = width - size_of b in if on_left then shows b s (writes (spaces room) rest) else writes (spaces room) (shows b s rest)

-- ---- and in registers

-- the bases of numbers
abbrev pub IsBase : ℕ → Type 0
IsBase base = (base ≡ 8) ⊎ ((base ≡ 10) ⊎ (base ≡ 16))

-- the power of the base for the first of the digits
abbrev pub HasPower : (digits base power : ℕ) → Type 0
HasPower zero base power = Unit {0}
HasPower (suc k) base power = power ≡ base ^ k

pub record HasFigures (ahead : Bool) (byte filling digits value base letter : ℕ) (e : Run) : Type 0 where
  pub r15 : e.regs.r15 ≡ truth ahead
  pub r8 : e.regs.r8 ≡ byte
  pub r19 : e.regs.r19 ≡ filling
  pub r10 : e.regs.r10 ≡ digits
  pub r11 : HasPower digits base e.regs.r11
  pub r9 : e.regs.r9 ≡ value
  pub r24 : e.regs.r24 ≡ base
  pub r25 : e.regs.r25 + 10 ≡ letter
  pub r30 : e.regs.r30 ≡ places.SIGN
  pub is_base : IsBase base
  pub value_small : value < 2 ^ 32
  pub letter_small : letter < 2 ^ 7
  pub zeros_small : filling < 2 ^ 8
  pub digits_small : digits ≤ 32

pub record HasBytes (size from : ℕ) (e : Run) : Type 0 where
  pub r10 : e.regs.r10 ≡ size
  pub r9 : e.regs.r9 ≡ from
  pub r30 : e.regs.r30 ≡ places.TEXT_BYTES
  pub good : (x : ℕ) → from ≤ x → x < from + size → user x ≡ true
  pub few : size ≤ 2 ^ 21
  pub ends : from + size < 2 ^ 32

-- the bytes of `(null)`, the first one uppermost
abbrev pub null_first : (passed : ℕ) → ℕ
null_first zero = 0x286E756C
null_first (suc zero) = 0x6E756C6C
null_first (suc (suc zero)) = 0x756C6C29
null_first (suc (suc (suc zero))) = 0x6C6C2900
null_first (suc (suc (suc (suc zero)))) = 0x6C290000
null_first (suc (suc (suc (suc (suc zero))))) = 0x29000000
null_first _ = 0

abbrev pub null_second : (passed : ℕ) → ℕ
null_second zero = 0x6C290000
null_second (suc zero) = 0x29000000
null_second _ = 0

pub record HasNull (passed size : ℕ) (e : Run) : Type 0 where
  pub r10 : e.regs.r10 ≡ size
  pub r9 : e.regs.r9 ≡ null_first passed
  pub r25 : e.regs.r25 ≡ null_second passed
  pub r30 : e.regs.r30 ≡ places.NULL_BYTES
  pub few : passed + size ≤ 6

abbrev pub Has : Body → Run → Type 0
Has (Figures ahead byte filling digits value base letter) e = HasFigures ahead byte filling digits value base letter e
Has (Bytes size from) e = HasBytes size from e
Has (Null passed size) e = HasNull passed size e
