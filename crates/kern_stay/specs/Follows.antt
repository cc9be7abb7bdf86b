-- How the accesses of the kernel's words follow a stay.
use Rattle.std.specs.Prelude.{◌≡◌, ℕ, ◌%◌, ◌^◌, Bool, true, false, ◌&&◌, ◌||◌, nat_eq, nat_le, List, [], ◌∷◌, if◌then◌else◌}
use Rattle.psx_base.specs.Ports.{CONSOLE_STATUS, CONSOLE_DATA, HALT, HALT_A, HALT_B, HALT_C}
use Rattle.psx_flow.specs.Run.{Access, Load, Store, PortRead, PortWrite}
use Rattle.abs_kernel.specs.Stay.{Stay, Halt, Ask, Tell, Write, Touch}

-- a stay goes on behind its first access to a port
abbrev pub read_of : ℕ → Stay → Stay
read_of value (Ask port next) = next value
read_of value (Touch bytes next) = read_of value next
read_of value stay = stay

abbrev pub written_of : Stay → Stay
written_of (Tell port value next) = next
written_of (Write byte next) = next
written_of (Touch bytes next) = written_of next
written_of stay = stay

abbrev pub behind : Access → Stay → Stay
behind (Load size at value) stay = stay
behind (Store size at value) stay = stay
behind (PortRead at value) stay = read_of value stay
behind (PortWrite at value) stay = written_of stay

-- and where accesses, newest first, have brought it
abbrev pub after : Stay → List Access → Stay
after stay [] = stay
after stay (x ∷ q) = behind x (after stay q)

-- the ports of the console and of the halt, which no stay tells by their addresses
abbrev pub is_own_port : ℕ → Bool
is_own_port at = nat_le CONSOLE_STATUS at && nat_le at HALT

-- the ports of a halt's words
abbrev pub is_halt_word : ℕ → Bool
is_halt_word at = nat_eq at HALT_A || (nat_eq at HALT_B || nat_eq at HALT_C)

-- this is the stay's next access; a stay that halts first writes the halt's words
abbrev pub IsRead : ℕ → Stay → Type 0
IsRead at (Ask port next) = at ≡ port
IsRead at (Touch bytes next) = IsRead at next
IsRead at _ = ⊥

abbrev pub IsWritten : (at value : ℕ) → Stay → Type 0
IsWritten at value (Tell port told next) = (at ≡ port) × (value ≡ told) × (is_own_port at ≡ false)
IsWritten at value (Write byte next) = (at ≡ CONSOLE_DATA) × (value % 2 ^ 8 ≡ byte)
IsWritten at value (Touch bytes next) = IsWritten at value next
IsWritten at value (Halt stop memory) = is_halt_word at ≡ true
IsWritten at value _ = ⊥

abbrev pub IsNext : Access → Stay → Type 0
IsNext (Load size at value) stay = Unit {0}
IsNext (Store size at value) stay = Unit {0}
IsNext (PortRead at value) stay = IsRead at stay
IsNext (PortWrite at value) stay = IsWritten at value stay

-- the accesses, newest first, are those of a stay so far
abbrev pub Follows : Stay → List Access → Type 0
Follows stay [] = Unit {0}
Follows stay (x ∷ q) = Follows stay q × IsNext x (after stay q)

-- the word that a port was given last, or before
abbrev pub given : (at before : ℕ) → List Access → ℕ
given at before [] = before
given at before (PortWrite p value ∷ q) = if nat_eq p at then value else given at before q
given at before (_ ∷ q) = given at before q
