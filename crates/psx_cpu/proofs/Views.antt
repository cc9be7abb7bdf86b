-- Reading a register of the processor that a list of 32 numbers stands for reads the list.
use Rattle.std.proofs.Common.{◌≡◌, ℕ, zero, suc, ◌+◌, ◌<◌, List, [], ◌∷◌, get_or, ap, sym, ◌∙◌, arith}
use Rattle.psx_base.specs.Registers.{nth, register}
use Rattle.psx_cpu.specs.Views.{registers_of}

abbrev table : ℕ → ℕ → List ℕ → List ℕ
table zero i regs = []
table (suc k) i regs = get_or regs i 0 ∷ table k (i + 1) regs

nth-table : (k i n : ℕ) (regs : List ℕ) → n < k → nth (table k i regs) n ≡ get_or regs (i + n) 0
nth-table zero i n regs h = absurd (omega arith)
nth-table (suc k) i zero regs h = ap (λ j. get_or regs j 0) (omega arith)
nth-table (suc k) i (suc n) regs h = nth-table k (i + 1) n regs (omega arith) ∙ ap (λ j. get_or regs j 0) (omega arith)

pub register-registers_of : (regs : List ℕ) (hi lo n : ℕ) → get_or regs 0 0 ≡ 0 → n < 32 → register (registers_of regs hi lo) n ≡ get_or regs n 0
register-registers_of regs hi lo zero first h = sym first
register-registers_of regs hi lo (suc n) first h = nth-table 31 1 n regs (omega arith) ∙ ap (λ j. get_or regs j 0) (omega arith)
