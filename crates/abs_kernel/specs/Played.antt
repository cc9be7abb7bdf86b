-- What a stay does where its reads are answered by a list: the accesses that are shown outside, and the end.
use Rattle.std.specs.Prelude.{ℕ, List, [], ◌∷◌}
use Rattle.psx_base.specs.declared.stop.Stop.{Stop}
use Rattle.psx_base.specs.Memory.{Memory}
use Rattle.psx_base.specs.KernelState.{KernelState}
use Rattle.abs_kernel.specs.Stay.{Stay, Return, Halt, Ask, Tell, Write, Touch}

-- a port that was read, with its answer, or written; a byte that was written to the console
pub data Access : Type 0 where
  Asked : (port value : ℕ) → Access
  Told : (port value : ℕ) → Access
  Written : (byte : ℕ) → Access

-- a return with a state, a stop with the user's memory, or a read that found no answer left
pub data End : Type 0 where
  Returned : (state : KernelState) → End
  Halted : (stop : Stop) (memory : Memory) → End
  Short : End

pub record Played : Type 0 where
  pub accesses : List Access
  pub end : End

-- with an access before
abbrev pub after : Access → Played → Played
after access p = record p { accesses = access ∷ p.accesses }

-- each read takes the next answer
abbrev pub played : Stay → (answers : List ℕ) → Played
played (Return state) answers = record { accesses = []; end = Returned state }
played (Halt stop memory) answers = record { accesses = []; end = Halted stop memory }
played (Ask port next) [] = record { accesses = []; end = Short }
played (Ask port next) (value ∷ answers) = after (Asked port value) (played (next value) answers)
played (Tell port value next) answers = after (Told port value) (played next answers)
played (Write byte next) answers = after (Written byte) (played next answers)
played (Touch bytes next) answers = played next answers

-- the answers among accesses
abbrev pub answers_of : List Access → List ℕ
answers_of [] = []
answers_of (Asked port value ∷ rest) = value ∷ answers_of rest
answers_of (Told port value ∷ rest) = answers_of rest
answers_of (Written byte ∷ rest) = answers_of rest

-- the reads and writes of ports without those to the console
abbrev pub ports_of : List Access → List Access
ports_of [] = []
ports_of (Asked port value ∷ rest) = Asked port value ∷ ports_of rest
ports_of (Told port value ∷ rest) = Told port value ∷ ports_of rest
ports_of (Written byte ∷ rest) = ports_of rest

-- the bytes of the console
abbrev pub bytes_of : List Access → List ℕ
bytes_of [] = []
bytes_of (Asked port value ∷ rest) = bytes_of rest
bytes_of (Told port value ∷ rest) = bytes_of rest
bytes_of (Written byte ∷ rest) = byte ∷ bytes_of rest
