-- What holds at the listings of printf that write a text between spaces.
use Rattle.std.specs.Prelude.{◌≡◌, ℕ, ◌+◌, ◌-◌, ◌*◌, ◌%◌, ◌^◌, ◌<◌, ◌≤◌, Bool, None, map}
use Rattle.psx_base.specs.KernelState.{KernelState}
use Rattle.psx_cpu.specs.Words.{truth}
use Rattle.psx_flow.specs.Run.{Run}
use Rattle.abs_kernel.specs.Stay.{Stay}
use Rattle.abs_kernel.specs.Numeral.{lowest_digits}
use Rattle.abs_kernel.specs.Conversion.{byte_of_digit, spaces}
use Rattle.abs_kernel.specs.Printf.{writes, writes_from, print_format}
use Rattle.kern_printf.specs.Texts.{IsBase, Body, Figures, Null, shows, size_of, owed, between, within, Has, HasPower, HasFigures, HasBytes, HasNull}
use Rattle.kern_printf.specs.Walking.{Walk, turns}

-- so many bytes are written by now, modulo 2 ^ 32, and with so many more it is the count
pub record CountsTo (count now more : ℕ) : Type 0 where
  pub small : now < 2 ^ 32
  pub all : (now + more) % 2 ^ 32 ≡ count % 2 ^ 32

-- ---- what stands between spaces

-- its length is in r12
pub record AtPadding (s : KernelState) (todo bank : ℕ) (stay : Stay) (e : Run) : Type 0 where
  pub fuel : ℕ
  pub taken : ℕ
  pub count : ℕ
  pub on_left : Bool
  pub width : ℕ
  pub body : Body
  pub walk : Walk s fuel taken 0 e
  pub r17 : CountsTo count e.regs.r17 (size_of body + (width - size_of body))
  pub r18 : e.regs.r18 ≡ truth on_left
  pub r20 : e.regs.r20 ≡ width
  pub r12 : e.regs.r12 ≡ size_of body
  pub width_small : width ≤ 255
  pub has : Has body e
  pub is : stay ≡ within on_left width body s (print_format fuel s e.regs.r4 taken count None)
  pub to_do : turns fuel 0x700000 ≤ todo
  pub paid : 4096 + 100 - 10 * owed body ≤ bank

-- with the spaces on its left in r13, and those on its right in r20
pub record AtLeft (s : KernelState) (todo bank : ℕ) (stay : Stay) (e : Run) : Type 0 where
  pub fuel : ℕ
  pub taken : ℕ
  pub count : ℕ
  pub body : Body
  pub walk : Walk s fuel taken 0 e
  pub r17 : CountsTo count e.regs.r17 (e.regs.r13 + (size_of body + e.regs.r20))
  pub left_small : e.regs.r13 ≤ 255
  pub right_small : e.regs.r20 ≤ 255
  pub has : Has body e
  pub is : stay ≡ between e.regs.r13 e.regs.r20 body s (print_format fuel s e.regs.r4 taken count None)
  pub to_do : turns fuel (0x300000 + e.regs.r13) ≤ todo
  pub paid : 4096 + 88 - 10 * owed body ≤ bank

-- a byte or none, zeros and digits
pub record AtSign (s : KernelState) (todo bank : ℕ) (stay : Stay) (e : Run) : Type 0 where
  pub fuel : ℕ
  pub taken : ℕ
  pub count : ℕ
  pub ahead : Bool
  pub byte : ℕ
  pub filling : ℕ
  pub digits : ℕ
  pub value : ℕ
  pub base : ℕ
  pub letter : ℕ
  pub walk : Walk s fuel taken 0 e
  pub r17 : CountsTo count e.regs.r17 (truth ahead + (filling + digits) + e.regs.r20)
  pub right_small : e.regs.r20 ≤ 255
  pub has : HasFigures ahead byte filling digits value base letter e
  pub is : stay ≡ shows (Figures ahead byte filling digits value base letter) s (writes (spaces e.regs.r20) (print_format fuel s e.regs.r4 taken count None))
  pub to_do : turns fuel (0x1000 + (truth ahead + filling)) ≤ todo
  pub paid : 4096 + 84 - 10 * digits ≤ bank

-- the digits
pub record AtDigits (s : KernelState) (todo bank : ℕ) (stay : Stay) (e : Run) : Type 0 where
  pub fuel : ℕ
  pub taken : ℕ
  pub count : ℕ
  pub digits : ℕ
  pub base : ℕ
  pub letter : ℕ
  pub walk : Walk s fuel taken 0 e
  pub r17 : CountsTo count e.regs.r17 (digits + e.regs.r20)
  pub right_small : e.regs.r20 ≤ 255
  pub r10 : e.regs.r10 ≡ digits
  pub r11 : HasPower digits base e.regs.r11
  pub r24 : e.regs.r24 ≡ base
  pub r25 : e.regs.r25 + 10 ≡ letter
  pub is_base : IsBase base
  pub value_small : e.regs.r9 < 2 ^ 32
  pub letter_small : letter < 2 ^ 7
  pub digits_small : digits ≤ 32
  pub is : stay ≡ writes (map (byte_of_digit letter) (lowest_digits digits base e.regs.r9)) (writes (spaces e.regs.r20) (print_format fuel s e.regs.r4 taken count None))
  pub to_do : turns fuel (0x800 + digits) ≤ todo
  pub paid : 4096 + 78 - 10 * digits ≤ bank

-- the bytes of a text
pub record AtTextBytes (s : KernelState) (todo bank : ℕ) (stay : Stay) (e : Run) : Type 0 where
  pub fuel : ℕ
  pub taken : ℕ
  pub count : ℕ
  pub size : ℕ
  pub walk : Walk s fuel taken 0 e
  pub r17 : CountsTo count e.regs.r17 (size + e.regs.r20)
  pub right_small : e.regs.r20 ≤ 255
  pub has : HasBytes size e.regs.r9 e
  pub is : stay ≡ writes_from size s e.regs.r9 (writes (spaces e.regs.r20) (print_format fuel s e.regs.r4 taken count None))
  pub to_do : turns fuel (0x1000 + size) ≤ todo
  pub paid : 4096 + 84 ≤ bank

-- those of the text that stands for one at 0
pub record AtNullBytes (s : KernelState) (todo bank : ℕ) (stay : Stay) (e : Run) : Type 0 where
  pub fuel : ℕ
  pub taken : ℕ
  pub count : ℕ
  pub passed : ℕ
  pub size : ℕ
  pub walk : Walk s fuel taken 0 e
  pub r17 : CountsTo count e.regs.r17 (size + e.regs.r20)
  pub right_small : e.regs.r20 ≤ 255
  pub has : HasNull passed size e
  pub is : stay ≡ shows (Null passed size) s (writes (spaces e.regs.r20) (print_format fuel s e.regs.r4 taken count None))
  pub to_do : turns fuel (0x1000 + size) ≤ todo
  pub paid : 4096 + 84 ≤ bank

-- the spaces behind it
pub record AtRight (s : KernelState) (todo bank : ℕ) (stay : Stay) (e : Run) : Type 0 where
  pub fuel : ℕ
  pub taken : ℕ
  pub count : ℕ
  pub walk : Walk s fuel taken 0 e
  pub r17 : CountsTo count e.regs.r17 e.regs.r20
  pub right_small : e.regs.r20 ≤ 255
  pub is : stay ≡ writes (spaces e.regs.r20) (print_format fuel s e.regs.r4 taken count None)
  pub to_do : turns fuel (1 + e.regs.r20) ≤ todo
  pub paid : 4096 + 50 ≤ bank
