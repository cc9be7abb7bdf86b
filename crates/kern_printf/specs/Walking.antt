-- What holds at the listings of printf that walk over the format: the registers, what is left of the stay, and the steps and turns that are left.
use Rattle.std.specs.Prelude.{◌≡◌, ℕ, ◌+◌, ◌*◌, ◌%◌, ◌^◌, ◌<◌, ◌≤◌, Some, None, is_some, unwrap_or}
use Rattle.psx_base.specs.Registers.{register}
use Rattle.psx_base.specs.KernelState.{KernelState}
use Rattle.psx_cpu.specs.Words.{truth}
use Rattle.psx_flow.specs.Run.{Run}
use Rattle.abs_kernel.specs.Stay.{Stay}
use Rattle.abs_kernel.specs.Answered.{registers_of}
use Rattle.abs_kernel.specs.UserBytes.{longest}
use Rattle.abs_kernel.specs.Conversion.{Conversion, Reading, Flags, Width, Precision, Lengths, with_flag, with_width, with_precision, with_length, limited}
use Rattle.abs_kernel.specs.Printf.{takes_within, print_format, printf}
use Rattle.kern_stay.specs.Room.{room}
use Rattle.kern_stay.specs.Doors.{Holds}
use Rattle.kern_printf.specs.declared.places.TheConstants as places

-- ---- on the walk over the format

-- The format has fewer than `fuel` bytes more, and up to r14 they are user memory. So many arguments were taken, and as many more as are spare may be before the next byte.
pub record Walk (s : KernelState) (fuel taken spare : ℕ) (e : Run) : Type 0 where
  pub holds : Holds s e.bytes
  pub words : (n : ℕ) → register (registers_of s) n < 2 ^ 32
  pub begins : (registers_of s).r4 ≤ e.regs.r4
  pub ends : e.regs.r4 ≤ e.regs.r14
  pub enough : (registers_of s).r4 + room (registers_of s).r4 + 1 ≤ e.regs.r4 + fuel
  pub few : taken + (fuel + spare) ≤ longest
  pub r14 : e.regs.r14 ≡ ((registers_of s).r4 + room (registers_of s).r4) % 2 ^ 32
  pub r5 : e.regs.r5 ≡ (registers_of s).r5
  pub r6 : e.regs.r6 ≡ (registers_of s).r6
  pub r7 : e.regs.r7 ≡ (registers_of s).r7
  pub r29 : e.regs.r29 ≡ (registers_of s).r29
  pub r16 : e.regs.r16 ≡ taken
  pub r26 : e.regs.r26 ≡ 0x1F800000

-- the turns that are left: so many for each byte of the format, and for what is done of this one
abbrev pub turns : (fuel more : ℕ) → ℕ
turns fuel more = fuel * 0x1000000 + more

-- at its beginning
pub record AtPrintf (s : KernelState) (todo bank : ℕ) (stay : Stay) (e : Run) : Type 0 where
  pub holds : Holds s e.bytes
  pub words : (n : ℕ) → register (registers_of s) n < 2 ^ 32
  pub r4 : e.regs.r4 ≡ (registers_of s).r4
  pub r5 : e.regs.r5 ≡ (registers_of s).r5
  pub r6 : e.regs.r6 ≡ (registers_of s).r6
  pub r7 : e.regs.r7 ≡ (registers_of s).r7
  pub r29 : e.regs.r29 ≡ (registers_of s).r29
  pub is : stay ≡ printf s
  pub to_do : turns longest 1 ≤ todo
  pub paid : 8192 ≤ bank

-- outside of a conversion
pub record AtFormat (s : KernelState) (todo bank : ℕ) (stay : Stay) (e : Run) : Type 0 where
  pub fuel : ℕ
  pub taken : ℕ
  pub count : ℕ
  pub walk : Walk s fuel taken 0 e
  pub r17 : e.regs.r17 ≡ count % 2 ^ 32
  pub is : stay ≡ print_format fuel s e.regs.r4 taken count None
  pub to_do : turns fuel 0 ≤ todo
  pub paid : 4096 ≤ bank

-- ---- within a conversion

-- where its next byte is taken
abbrev pub place_of : Reading → ℕ
place_of Flags = places.FLAG
place_of Width = places.WIDTH
place_of Precision = places.PRECISION
place_of Lengths = places.LENGTH

-- a conversion in registers
pub record HasConversion (c : Conversion) (e : Run) : Type 0 where
  pub r18 : e.regs.r18 ≡ truth c.left
  pub r19 : e.regs.r19 ≡ truth c.zeros
  pub r20 : e.regs.r20 ≡ limited c.width
  pub r21 : e.regs.r21 ≡ limited (unwrap_or c.precision 0)
  pub r22 : e.regs.r22 ≡ truth (is_some c.precision)

-- before its next byte
pub record AtConversion (s : KernelState) (todo bank : ℕ) (stay : Stay) (e : Run) : Type 0 where
  pub fuel : ℕ
  pub taken : ℕ
  pub count : ℕ
  pub c : Conversion
  pub walk : Walk s fuel taken 1 e
  pub r17 : e.regs.r17 ≡ count % 2 ^ 32
  pub conversion : HasConversion c e
  pub r23 : e.regs.r23 ≡ place_of c.reading
  pub is : stay ≡ print_format fuel s e.regs.r4 taken count (Some c)
  pub to_do : turns fuel 0 ≤ todo
  pub paid : 4096 + 110 ≤ bank

-- with a byte in r12 that may be a flag
pub record AtFlag (s : KernelState) (todo bank : ℕ) (stay : Stay) (e : Run) : Type 0 where
  pub fuel : ℕ
  pub taken : ℕ
  pub count : ℕ
  pub c : Conversion
  pub walk : Walk s fuel taken 1 e
  pub r17 : e.regs.r17 ≡ count % 2 ^ 32
  pub conversion : HasConversion c e
  pub r23 : e.regs.r23 ≡ place_of c.reading
  pub is : stay ≡ takes_within (with_flag c e.regs.r12) c s e.regs.r12 taken count (λ t m d. print_format fuel s e.regs.r4 t m d)
  pub to_do : turns fuel 0xF50000 ≤ todo
  pub paid : 4096 + 230 ≤ bank

-- or a digit of the width, or the point
pub record AtWidth (s : KernelState) (todo bank : ℕ) (stay : Stay) (e : Run) : Type 0 where
  pub fuel : ℕ
  pub taken : ℕ
  pub count : ℕ
  pub c : Conversion
  pub walk : Walk s fuel taken 1 e
  pub r17 : e.regs.r17 ≡ count % 2 ^ 32
  pub conversion : HasConversion c e
  pub r23 : e.regs.r23 ≡ place_of c.reading
  pub is : stay ≡ takes_within (with_width c e.regs.r12) c s e.regs.r12 taken count (λ t m d. print_format fuel s e.regs.r4 t m d)
  pub to_do : turns fuel 0xF40000 ≤ todo
  pub paid : 4096 + 222 ≤ bank

-- or a digit of the precision
pub record AtPrecision (s : KernelState) (todo bank : ℕ) (stay : Stay) (e : Run) : Type 0 where
  pub fuel : ℕ
  pub taken : ℕ
  pub count : ℕ
  pub c : Conversion
  pub walk : Walk s fuel taken 1 e
  pub r17 : e.regs.r17 ≡ count % 2 ^ 32
  pub conversion : HasConversion c e
  pub r23 : e.regs.r23 ≡ place_of c.reading
  pub is : stay ≡ takes_within (with_precision c e.regs.r12) c s e.regs.r12 taken count (λ t m d. print_format fuel s e.regs.r4 t m d)
  pub to_do : turns fuel 0xF40000 ≤ todo
  pub paid : 4096 + 222 ≤ bank

-- or an `l`
pub record AtLength (s : KernelState) (todo bank : ℕ) (stay : Stay) (e : Run) : Type 0 where
  pub fuel : ℕ
  pub taken : ℕ
  pub count : ℕ
  pub c : Conversion
  pub walk : Walk s fuel taken 1 e
  pub r17 : e.regs.r17 ≡ count % 2 ^ 32
  pub conversion : HasConversion c e
  pub r23 : e.regs.r23 ≡ place_of c.reading
  pub is : stay ≡ takes_within (with_length c e.regs.r12) c s e.regs.r12 taken count (λ t m d. print_format fuel s e.regs.r4 t m d)
  pub to_do : turns fuel 0xF30000 ≤ todo
  pub paid : 4096 + 212 ≤ bank

-- with the byte in r12 that ends it
pub record AtKind (s : KernelState) (todo bank : ℕ) (stay : Stay) (e : Run) : Type 0 where
  pub fuel : ℕ
  pub taken : ℕ
  pub count : ℕ
  pub c : Conversion
  pub walk : Walk s fuel taken 1 e
  pub r17 : e.regs.r17 ≡ count % 2 ^ 32
  pub conversion : HasConversion c e
  pub is : stay ≡ takes_within None c s e.regs.r12 taken count (λ t m d. print_format fuel s e.regs.r4 t m d)
  pub to_do : turns fuel 0xF20000 ≤ todo
  pub paid : 4096 + 207 ≤ bank
