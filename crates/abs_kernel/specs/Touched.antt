-- How much a stay touches: the bytes of user memory that it reads, writes or tests, access by access, and its accesses to ports, those to the console among them.
-- The number of steps that the kernel's words may take rises by it.
use Rattle.std.specs.Prelude.{ℕ, ◌+◌, List, [], ◌∷◌}
use Rattle.abs_kernel.specs.Stay.{Stay, Return, Halt, Ask, Tell, Write, Touch}

abbrev pub touched : Stay → (answers : List ℕ) → ℕ
touched (Return state) answers = 0
touched (Halt stop memory) answers = 0
touched (Ask port next) [] = 0
touched (Ask port next) (value ∷ answers) = 1 + touched (next value) answers
touched (Tell port value next) answers = 1 + touched next answers
touched (Write byte next) answers = 1 + touched next answers
touched (Touch bytes next) answers = bytes + touched next answers
