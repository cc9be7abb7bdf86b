-- What a program may rest on, said of the calls' definitions alone.
use Rattle.std.specs.Prelude.{◌≡◌, ◌≢◌, ℕ, ◌+◌, ◌*◌, ◌%◌, ◌^◌, ◌<◌, List, [], ◌∷◌, None}
use Rattle.psx_base.specs.Addresses.{place}
use Rattle.psx_base.specs.Memory.{Memory, byte, word}
use Rattle.psx_base.specs.Context.{taken}
use Rattle.psx_base.specs.KernelState.{KernelState}
use Rattle.abs_kernel.specs.declared.calls.CallId.{CallId}
use Rattle.abs_kernel.specs.declared.calls.CallId.TheVariants.{A17, A18, A1B, A1C, A1D, A1E, A1F, A20, A21, A22, A24, A25, A26, A29, A2D, A2E, A44}
use Rattle.abs_kernel.specs.StayLaws.{EachEnd, EachReturn}
use Rattle.abs_kernel.specs.Answered.{registers_of, with_running, with_answer}
use Rattle.abs_kernel.specs.UserBytes.{count_of}
use Rattle.abs_kernel.specs.Memset.{memset}
use Rattle.abs_kernel.specs.Memcpy.{memcpy}
use Rattle.abs_kernel.specs.Jumps.{jump_words, setjmp, longjmp}
use Rattle.abs_kernel.specs.Calls.{call}

-- where byte i from an address on stands
abbrev pub byte_place : (at i : ℕ) → ℕ
byte_place at i = place ((at + i) % 2 ^ 32)

-- a state is another one, but for r2, the place where the program goes on, k0 and k1
abbrev pub AnswerAlone : (s t : KernelState) → Type 0
AnswerAlone s t = t ≡ with_running s (with_answer (taken s.running.context (registers_of s).r31) (registers_of t).r2)

-- ---- memset and memcpy

-- behind a call with d in r2, the n bytes from d on are these, and every other byte and all else is as before
pub record Written (s : KernelState) (d n : ℕ) (value : ℕ → ℕ) (t : KernelState) : Type 0 where
  pub bytes : (i : ℕ) → i < n → byte t.memory (byte_place d i) ≡ value i
  pub others : (p : ℕ) → ((i : ℕ) → i < n → p ≢ byte_place d i) → byte t.memory p ≡ byte s.memory p
  pub answer : (registers_of t).r2 ≡ d
  pub rest : AnswerAlone (record s { memory = t.memory }) t

abbrev pub MemsetFills : Type 0
MemsetFills = (s : KernelState) → let r = registers_of s in r.r4 ≢ 0 → EachReturn (λ t. Written s r.r4 (count_of r.r6) (λ i. r.r5 % 2 ^ 8) t) (memset s)

-- n bytes from one address on and n from another share no place
abbrev pub NoneShared : (d from n : ℕ) → Type 0
NoneShared d from n = (i j : ℕ) → i < n → j < n → byte_place from i ≢ byte_place d j

abbrev pub MemcpyCopies : Type 0
MemcpyCopies =
    (s : KernelState) → let r = registers_of s in r.r4 ≢ 0 → r.r5 ≢ 0 → NoneShared r.r4 r.r5 (count_of r.r6)
    → EachReturn (λ t. Written s r.r4 (count_of r.r6) (λ i. byte s.memory (byte_place r.r5 i) % 2 ^ 8) t) (memcpy s)

-- ---- calls that only read

-- those on texts, and those on memory
abbrev pub reading : List CallId
reading = A17 ∷ A18 ∷ A1B ∷ A1C ∷ A1D ∷ A1E ∷ A1F ∷ A20 ∷ A21 ∷ A22 ∷ A24 ∷ A25 ∷ A26 ∷ A29 ∷ A2D ∷ A2E ∷ A44 ∷ []

abbrev pub Each : (CallId → Type 0) → List CallId → Type 0
Each P [] = Unit {0}
Each P (id ∷ ids) = P id × Each P ids

-- each of them leaves all as it is but for its answer, and memory also where it stops
abbrev pub ReadingKeeps : Type 0
ReadingKeeps = Each (λ id. (s : KernelState) → EachEnd (AnswerAlone s) (λ stop memory. memory ≡ s.memory) (call id s)) reading

-- ---- setjmp and longjmp

-- two memories have the same 12 words from an address on
abbrev pub SameWords : Memory → Memory → (at : ℕ) → Type 0
SameWords m n at = (k : ℕ) → k < 12 → word m (place ((at + 4 * k) % 2 ^ 32)) ≡ word n (place ((at + 4 * k) % 2 ^ 32))

-- longjmp of u goes on where setjmp of s returned to, with the registers of then and its own answer
pub record Jumps (s u w : KernelState) : Type 0 where
  pub registers : jump_words (registers_of w) ≡ jump_words (registers_of s)
  pub goes_on : w.running.context.pc ≡ (registers_of s).r31
  pub answer : (registers_of w).r2 ≡ (registers_of u).r5

-- where setjmp returned, a longjmp of its buffer in any later state, settled as each stay has it, with the words as they were then, never stops
abbrev pub LongjmpComesBack : Type 0
LongjmpComesBack =
    (s : KernelState) → EachReturn (λ t. (u : KernelState) → u.running.context.pending ≡ None → (registers_of u).r4 ≡ (registers_of s).r4 → SameWords u.memory t.memory (registers_of s).r4
    → EachEnd (Jumps s u) (λ stop memory. ⊥) (longjmp u)) (setjmp s)
