-- What strcpy leaves, where its text and its destination don't overlap.
use Rattle.std.specs.Prelude.{◌≡◌, ℕ, ◌+◌, ◌^◌, ◌<◌, ◌≤◌, true}
use Rattle.psx_base.specs.Addresses.{place, user}
use Rattle.psx_base.specs.Context.{taken}
use Rattle.psx_base.specs.Memory.{Memory, byte}
use Rattle.psx_base.specs.KernelState.{KernelState}
use Rattle.abs_kernel.specs.Answered.{registers_of, with_running, with_answer}
use Rattle.abs_kernel.specs.StayLaws.{EachEnd}
use Rattle.abs_kernel.specs.Strcpy.{strcpy}

-- n bytes other than 0 stand from a on, and a 0 behind them, all in user memory
pub record IsText (m : Memory) (a n : ℕ) : Type 0 where
  pub readable : (i : ℕ) → i ≤ n → user (a + i) ≡ true
  pub letters : (i : ℕ) → i < n → (0 < byte m (place (a + i))) × (byte m (place (a + i)) < 2 ^ 8)
  pub zero : byte m (place (a + n)) ≡ 0

-- from d on there is user memory for them and the 0, and none of it is theirs
pub record HasRoom (a d n : ℕ) : Type 0 where
  pub writable : (i : ℕ) → i ≤ n → user (d + i) ≡ true
  pub apart : (i j : ℕ) → i ≤ n → j ≤ n → place (d + i) ≡ place (a + j) → ⊥

-- The text stands at d with its 0, and every other byte is as it was. So is all else, but that the program goes on behind its call with d in r2.
pub record IsCopied (s t : KernelState) (a d n : ℕ) : Type 0 where
  pub text : (i : ℕ) → i ≤ n → byte t.memory (place (d + i)) ≡ byte s.memory (place (a + i))
  pub others : (p : ℕ) → ((i : ℕ) → i ≤ n → p ≡ place (d + i) → ⊥) → byte t.memory p ≡ byte s.memory p
  pub rest : t ≡ with_running (record s { memory = t.memory }) (with_answer (taken s.running.context (registers_of s).r31) d)

-- strcpy(d, s) returns so, and never stops
abbrev pub StrcpyCopies : Type 0
StrcpyCopies =
    (s : KernelState) (n : ℕ) → let r = registers_of s in
    r.r4 < 2 ^ 32 → r.r5 < 2 ^ 32 → IsText s.memory r.r5 n → HasRoom r.r5 r.r4 n → EachEnd (λ t. IsCopied s t r.r5 r.r4 n) (λ stop memory. ⊥) (strcpy s)
