-- What holds at the listings of printf that take an argument and measure it.
use Rattle.std.specs.Prelude.{◌≡◌, ℕ, ◌+◌, ◌-◌, ◌*◌, ◌/◌, ◌%◌, ◌^◌, ◌<◌, ◌≤◌, Bool, ◌⊎◌, None, List, [], ◌∷◌, length, take, if◌then◌else◌}
use Rattle.psx_base.specs.KernelState.{KernelState}
use Rattle.psx_cpu.specs.Words.{truth}
use Rattle.psx_flow.specs.Run.{Run}
use Rattle.abs_kernel.specs.Stay.{Stay}
use Rattle.abs_kernel.specs.Conversion.{significant, null_text, Conversion, Kind, Number, Byte, Text, Alone, limited, spaces, padded, number_text}
use Rattle.abs_kernel.specs.Printf.{most_of, writes, writes_from, measures, writes_padded, writes_text, converts, print_format}
use Rattle.kern_stay.specs.Room.{room}
use Rattle.kern_printf.specs.Texts.{IsBase, least, figures, HasPower}
use Rattle.kern_printf.specs.declared.places.TheConstants as places
use Rattle.kern_printf.specs.Walking.{Walk, turns, HasConversion}

-- ---- with an argument

-- a number's kind in registers
pub record HasNumber (with_sign : Bool) (base letter : ℕ) (e : Run) : Type 0 where
  pub r15 : e.regs.r15 ≡ truth with_sign
  pub r24 : e.regs.r24 ≡ base
  pub r25 : e.regs.r25 + 10 ≡ letter
  pub is_base : IsBase base
  pub letter_small : letter < 2 ^ 7

-- the kind in registers, with where the argument is for
abbrev pub HasKind : Kind → Run → Type 0
HasKind (Number with_sign base letter) e = HasNumber with_sign base letter e × (e.regs.r30 ≡ places.NUMBER)
HasKind Byte e = (e.regs.r30 ≡ places.BYTE) × (e.regs.r24 ≡ 16) × (e.regs.r25 ≡ 0x37)
HasKind Text e = e.regs.r30 ≡ places.TEXT
HasKind Alone e = ⊥

-- a text is written, and the stay goes on by how many bytes are written
abbrev pub writes_all : List ℕ → (count : ℕ) → (ℕ → Stay) → Stay
writes_all text count next = writes text (next (count + length text))

-- before it is taken
pub record AtArgument (s : KernelState) (todo bank : ℕ) (stay : Stay) (e : Run) : Type 0 where
  pub fuel : ℕ
  pub taken : ℕ
  pub count : ℕ
  pub c : Conversion
  pub kind : Kind
  pub byte : ℕ
  pub walk : Walk s fuel taken 1 e
  pub r17 : e.regs.r17 ≡ count % 2 ^ 32
  pub conversion : HasConversion c e
  pub kind_is : HasKind kind e
  pub is : stay ≡ converts kind c s byte taken count (λ t n. print_format fuel s e.regs.r4 t n None)
  pub to_do : turns fuel 0xF10000 ≤ todo
  pub paid : 4096 + 170 ≤ bank

-- a number in r9
pub record AtNumber (s : KernelState) (todo bank : ℕ) (stay : Stay) (e : Run) : Type 0 where
  pub fuel : ℕ
  pub taken : ℕ
  pub count : ℕ
  pub c : Conversion
  pub with_sign : Bool
  pub base : ℕ
  pub letter : ℕ
  pub walk : Walk s fuel taken 0 e
  pub r17 : e.regs.r17 ≡ count % 2 ^ 32
  pub conversion : HasConversion c e
  pub number : HasNumber with_sign base letter e
  pub small : e.regs.r9 < 2 ^ 32
  pub is : stay ≡ writes_all (number_text c with_sign base letter e.regs.r9) count (λ n. print_format fuel s e.regs.r4 taken n None)
  pub to_do : turns fuel 0xF00000 ≤ todo
  pub paid : 4096 + 155 ≤ bank

-- a byte in r9
pub record AtByte (s : KernelState) (todo bank : ℕ) (stay : Stay) (e : Run) : Type 0 where
  pub fuel : ℕ
  pub taken : ℕ
  pub count : ℕ
  pub c : Conversion
  pub walk : Walk s fuel taken 0 e
  pub r17 : e.regs.r17 ≡ count % 2 ^ 32
  pub conversion : HasConversion c e
  pub r24 : e.regs.r24 ≡ 16
  pub r25 : e.regs.r25 ≡ 0x37
  pub small : e.regs.r9 < 2 ^ 32
  pub is : stay ≡ writes_padded c (e.regs.r9 % 2 ^ 8 ∷ []) count (λ n. print_format fuel s e.regs.r4 taken n None)
  pub to_do : turns fuel 0xF00000 ≤ todo
  pub paid : 4096 + 155 ≤ bank

-- a text in r9
pub record AtText (s : KernelState) (todo bank : ℕ) (stay : Stay) (e : Run) : Type 0 where
  pub fuel : ℕ
  pub taken : ℕ
  pub count : ℕ
  pub c : Conversion
  pub walk : Walk s fuel taken 0 e
  pub r17 : e.regs.r17 ≡ count % 2 ^ 32
  pub conversion : HasConversion c e
  pub small : e.regs.r9 < 2 ^ 32
  pub is : stay ≡ writes_text c s e.regs.r9 count (λ n. print_format fuel s e.regs.r4 taken n None)
  pub to_do : turns fuel 0xF00000 ≤ todo
  pub paid : 4096 + 155 ≤ bank

-- ---- of a number

-- its value without its sign in r9, and the sign in r15
pub record AtFill (s : KernelState) (todo bank : ℕ) (stay : Stay) (e : Run) : Type 0 where
  pub fuel : ℕ
  pub taken : ℕ
  pub count : ℕ
  pub c : Conversion
  pub negative : Bool
  pub base : ℕ
  pub letter : ℕ
  pub walk : Walk s fuel taken 0 e
  pub r17 : e.regs.r17 ≡ count % 2 ^ 32
  pub conversion : HasConversion c e
  pub number : HasNumber negative base letter e
  pub r8 : e.regs.r8 ≡ 0x2D
  pub small : e.regs.r9 < 2 ^ 32
  pub is : stay ≡ writes_all (padded c (figures negative (least c negative) base letter e.regs.r9)) count (λ n. print_format fuel s e.regs.r4 taken n None)
  pub to_do : turns fuel 0xEF0000 ≤ todo
  pub paid : 4096 + 145 ≤ bank

-- its value was divided by the base so many times, and has a digit more where it isn't 0; r21 is how many digits there are to be at least
pub record AtCount (s : KernelState) (todo bank : ℕ) (stay : Stay) (e : Run) : Type 0 where
  pub fuel : ℕ
  pub taken : ℕ
  pub count : ℕ
  pub c : Conversion
  pub negative : Bool
  pub base : ℕ
  pub letter : ℕ
  pub turned : ℕ
  pub walk : Walk s fuel taken 0 e
  pub r17 : e.regs.r17 ≡ count % 2 ^ 32
  pub r18 : e.regs.r18 ≡ truth c.left
  pub r20 : e.regs.r20 ≡ limited c.width
  pub number : HasNumber negative base letter e
  pub r8 : e.regs.r8 ≡ 0x2D
  pub small : e.regs.r9 < 2 ^ 32
  pub r10 : e.regs.r10 ≡ turned
  pub r11 : e.regs.r11 ≡ base ^ turned
  pub r12 : e.regs.r12 ≡ e.regs.r9 / base ^ turned
  pub some : (turned ≡ 0) ⊎ (base ^ turned ≤ e.regs.r9)
  pub turned_few : turned ≤ 31
  pub least_small : e.regs.r21 < 2 ^ 8
  pub is : stay ≡ writes_all (padded c (figures negative e.regs.r21 base letter e.regs.r9)) count (λ n. print_format fuel s e.regs.r4 taken n None)
  pub to_do : turns fuel (0xEE0000 + (64 - turned)) ≤ todo
  pub paid : 4096 + 129 - 10 * turned ≤ bank

-- its digits are counted
pub record AtZeros (s : KernelState) (todo bank : ℕ) (stay : Stay) (e : Run) : Type 0 where
  pub fuel : ℕ
  pub taken : ℕ
  pub count : ℕ
  pub c : Conversion
  pub negative : Bool
  pub base : ℕ
  pub letter : ℕ
  pub walk : Walk s fuel taken 0 e
  pub r17 : e.regs.r17 ≡ count % 2 ^ 32
  pub r18 : e.regs.r18 ≡ truth c.left
  pub r20 : e.regs.r20 ≡ limited c.width
  pub number : HasNumber negative base letter e
  pub r8 : e.regs.r8 ≡ 0x2D
  pub small : e.regs.r9 < 2 ^ 32
  pub r10 : e.regs.r10 ≡ length (significant base e.regs.r9)
  pub r11 : HasPower e.regs.r10 base e.regs.r11
  pub digits_few : e.regs.r10 ≤ 32
  pub least_small : e.regs.r21 < 2 ^ 8
  pub is : stay ≡ writes_all (padded c (figures negative e.regs.r21 base letter e.regs.r9)) count (λ n. print_format fuel s e.regs.r4 taken n None)
  pub to_do : turns fuel 0xED0000 ≤ todo
  pub paid : 4096 + 121 - 10 * e.regs.r10 ≤ bank

-- ---- of a text

-- the text stands at 0
pub record AtNullText (s : KernelState) (todo bank : ℕ) (stay : Stay) (e : Run) : Type 0 where
  pub fuel : ℕ
  pub taken : ℕ
  pub count : ℕ
  pub c : Conversion
  pub walk : Walk s fuel taken 0 e
  pub r17 : e.regs.r17 ≡ count % 2 ^ 32
  pub conversion : HasConversion c e
  pub is : stay ≡ writes_padded c (take (most_of c.precision) null_text) count (λ n. print_format fuel s e.regs.r4 taken n None)
  pub to_do : turns fuel 0xED0000 ≤ todo
  pub paid : 4096 + 130 ≤ bank

-- behind its measure
abbrev pub writes_measured : Conversion → KernelState → (from count : ℕ) → (ℕ → Stay) → (size : ℕ) → Stay
writes_measured c s from count next size =
    let room = limited c.width - size in
    let on = next (count + (room + size)) in
    if c.left then writes_from size s from (writes (spaces room) on) else writes (spaces room) (writes_from size s from on)

-- so many of its bytes are measured, and up to r11 they are user memory
pub record AtMeasure (s : KernelState) (todo bank : ℕ) (stay : Stay) (e : Run) : Type 0 where
  pub fuel : ℕ
  pub taken : ℕ
  pub count : ℕ
  pub c : Conversion
  pub fewest : ℕ
  pub walk : Walk s fuel taken 0 e
  pub r17 : e.regs.r17 ≡ count % 2 ^ 32
  pub r18 : e.regs.r18 ≡ truth c.left
  pub r20 : e.regs.r20 ≡ limited c.width
  pub r30 : e.regs.r30 ≡ places.TEXT_BYTES
  pub text_small : e.regs.r9 < 2 ^ 32
  pub r11 : e.regs.r11 ≡ (e.regs.r9 + room e.regs.r9) % 2 ^ 32
  pub r8 : e.regs.r8 ≡ e.regs.r9 + e.regs.r10
  pub up_to : e.regs.r8 ≤ e.regs.r11
  pub r21 : e.regs.r21 ≡ e.regs.r10 + fewest
  pub fewest_few : fewest ≤ 2 ^ 21
  pub is : stay ≡ measures fewest s e.regs.r8 e.regs.r10 (writes_measured c s e.regs.r9 count (λ n. print_format fuel s e.regs.r4 taken n None))
  pub to_do : turns fuel (0x800000 + fewest) ≤ todo
  pub paid : 4096 + 108 ≤ bank
