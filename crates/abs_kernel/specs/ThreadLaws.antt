-- What the calls on threads leave of other threads (PSX-SPX, Kernel (BIOS), Thread Functions).
use Rattle.std.specs.Prelude.{◌≡◌, ℕ, ◌<◌, ◌≤◌, ◌^◌, ◌-◌, ◌⊎◌, true, List, [], ◌∷◌, length, None}
use Rattle.psx_base.specs.declared.stop.Stop.TheVariants.{BadThread}
use Rattle.psx_base.specs.Memory.{Memory}
use Rattle.psx_base.specs.Context.{Context}
use Rattle.psx_base.specs.KernelState.{ThreadContext, Free, Used, KernelState}
use Rattle.psx_cpu.specs.UserStep.{Next, user_step}
use Rattle.kern_layout.specs.Reads.{thread}
use Rattle.abs_kernel.specs.Answered.{registers_of, answered}
use Rattle.abs_kernel.specs.Threads.{handle_of, number_of, is_used}
use Rattle.abs_kernel.specs.OpenThread.{with_opened, open_thread}
use Rattle.abs_kernel.specs.CloseThread.{close_thread}
use Rattle.abs_kernel.specs.ChangeThread.{change_thread}
use Rattle.abs_kernel.specs.Stay.{Return, Halt}
use Rattle.abs_kernel.specs.KernelStep.{stay_of}
use Rattle.abs_kernel.specs.Played.{Returned, played}
use Rattle.abs_kernel.specs.StayLaws.{EachReturn}
use Rattle.abs_kernel.specs.UserLaws.{stepped}

-- ---- handles

-- thread n has one handle: a word names a number below 2^24 exactly where it is that number's handle
abbrev pub OneHandle : Type 0
OneHandle = (n handle : ℕ) → n < 2 ^ 24 → handle < 2 ^ 32 → (number_of (handle_of n) ≡ n) × (number_of handle ≡ n → handle ≡ handle_of n)

-- a handle out of range stops both calls, with itself and r31, and a free slot's ChangeThread alone
abbrev pub BadHandleStops : Type 0
BadHandleStops =
    (s : KernelState) → let r = registers_of s in let n = number_of r.r4 in
    (length s.threads ≤ n → (close_thread s ≡ Halt (BadThread r.r4 r.r31) s.memory) × (change_thread s ≡ Halt (BadThread r.r4 r.r31) s.memory))
    × (thread s n ≡ Free → change_thread s ≡ Halt (BadThread r.r4 r.r31) s.memory)

-- ---- OpenThread

-- a slot that may be taken: it is free, and not the running thread's
abbrev pub MayOpen : KernelState → ℕ → Type 0
MayOpen s n = (n < length s.threads) × (thread s n ≡ Free) × (n ≡ s.current → ⊥)

-- the lowest such slot is taken and its handle answered; where there is none, the answer is FFFFFFFFh
abbrev pub OpensLowest : Type 0
OpensLowest =
    (s : KernelState) → ((n : ℕ) → MayOpen s n → ((k : ℕ) → k < n → MayOpen s k → ⊥) → open_thread s ≡ answered (with_opened s n) (handle_of n))
    × (((n : ℕ) → MayOpen s n → ⊥) → open_thread s ≡ answered s (2 ^ 32 - 1))

-- the running thread's slot stays as it is, and so does each that is used
abbrev pub UsedStay : Type 0
UsedStay = (s : KernelState) (n : ℕ) → (n ≡ s.current) ⊎ (is_used (thread s n) ≡ true) → EachReturn (λ t. thread t n ≡ thread s n) (open_thread s)

-- ---- away and back

-- what comes next: a step of user code, or a stay that returns
pub data Move : Type 0 where
  Step : Move
  Stays : (code : ℕ) (answers : List ℕ) → Move

abbrev pub Moves : Move → (s t : KernelState) → Type 0
Moves Step s t = (c : Context) × (m : Memory) × (user_step s.running.context s.memory ≡ Next c m) × (t ≡ stepped s c m)
Moves (Stays code answers) s t = (played (stay_of s code) answers).end ≡ Returned t

-- such moves lead from a state to another, and before each of them another thread than n runs, and n's slot is used: nobody has closed it
abbrev pub Away : (n : ℕ) → List Move → (s u : KernelState) → Type 0
Away n [] s u = u ≡ s
Away n (move ∷ moves) s u = ((s.current ≡ n → ⊥) × (is_used (thread s n) ≡ true)) × (t : KernelState) × Moves move s t × Away n moves t u

-- A caller of ChangeThread that is taken up again: it goes on at its r31, with 1 in r2, and k0 and k1 as at each return. All other registers, HI, LO and its interrupts are its own.
pub record TakenUpAgain (s u : KernelState) : Type 0 where
  pub regs : u.running.context.regs ≡ record (registers_of s) { r2 = 1; r26 = (registers_of s).r31; r27 = 0 }
  pub pc : u.running.context.pc ≡ (registers_of s).r31
  pub interrupts : u.running.interrupts ≡ s.running.interrupts

-- From a state without frames, and with nothing pending, a thread changes to another. When it next runs, whatever ran between, it goes on as if the call had answered 1.
abbrev pub ChangesBack : Type 0
ChangesBack =
    (s : KernelState) (own other : ThreadContext) → let n = number_of (registers_of s).r4 in
    s.running.context.pending ≡ None → s.frames ≡ [] → s.current < length s.threads → thread s s.current ≡ Used own → thread s n ≡ Used other → (n ≡ s.current → ⊥)
    → (t : KernelState) × (change_thread s ≡ Return t) × ((moves : List Move) (u : KernelState) → Away s.current moves t u → u.current ≡ s.current → TakenUpAgain s u)
