-- What the proof of a routine cites besides psx_flow's Kit: its ends, what is left of its stay, and its accesses to user memory.
use Rattle.std.proofs.Common.{◌≡◌, ℕ, ◌+◌, ◌*◌, ◌%◌, ◌^◌, ◌/◌, ◌⊎◌, ◌<◌, ◌≤◌, [], inl, inr, Bool, true, false, refl, sym, ap, ◌∙◌, subst, arith}
use Rattle.std.specs.Prelude.{nat_eq, ◌&&◌, ◌||◌, if◌then◌else◌}
use Rattle.std.proofs.lemmas.Bool.{false≢true}
use Rattle.psx_base.specs.Addresses.{place, user, top, low, user_main, scratchpad}
use Rattle.psx_base.specs.Memory.{Memory, byte}
use Rattle.psx_base.specs.KernelState.{KernelState}
use Rattle.psx_flow.specs.Run.{Run}
use Rattle.psx_base.specs.declared.stop.Stop.TheVariants.{BadThread}
use Rattle.psx_flow.specs.Told.{ports}
use Rattle.abs_kernel.specs.Stay.{Stay, Return, Halt, Ask, Tell, Write, Touch}
use Rattle.abs_kernel.specs.Answered.{registers_of, answered}
use Rattle.abs_kernel.specs.UserBytes.{count_of, bad_pointer, reads_byte, writes_byte, with_byte}
use Rattle.kern_stay.specs.declared.places.TheConstants.{LEAVE, WORK, BAD_POINTER, BAD_THREAD}
use Rattle.kern_stay.specs.Doors.{Holds, Works, AtWork, Behind, Ends, Through, most_steps}

-- ---- the ends, of a stay that accesses no port

pub through : (stay : Stay) (most to : ℕ) (e : Run) → ports e.seen ≡ [] → Ends 128 stay most to e → Through stay most to e
through stay most to e q h = record { told = []; ports = q; follows = tt; ends = inl h }

-- a stay that is another by what memory or an argument has
pub through_as : (stay now : Stay) (most to : ℕ) (e : Run) → stay ≡ now → Through now most to e → Through stay most to e
through_as stay now most to e is h = subst (λ y. Through y most to e) (sym is) h

pub answers : (most : ℕ) (state : KernelState) (e : Run) (stay : Stay) → stay ≡ answered state e.regs.r2 → Holds state e.bytes → e.steps ≤ most → Ends 128 stay most LEAVE e
answers most state e stay is h few = subst (λ x. Ends 128 x most LEAVE e) (sym is) (few, record { state = state; is = refl; holds = h })

pub refuses : (most : ℕ) (state : KernelState) (e : Run) (stay : Stay) → stay ≡ bad_pointer state e.regs.r8 → Holds state e.bytes → e.steps ≤ most → Ends 128 stay most BAD_POINTER e
refuses most state e stay is h few = subst (λ x. Ends 128 x most BAD_POINTER e) (sym is) (few, record { state = state; is = refl; memory_is = refl; holds = h })

-- a further door, for the whole of what is left
pub at_once : (P : Stay → Type 0) (rest : Stay) → P rest → Behind P rest
at_once P (Touch bytes next) h = inl h
at_once P (Return state) h = h
at_once P (Halt stop memory) h = h
at_once P (Ask port next) h = h
at_once P (Tell port value next) h = h
at_once P (Write byte next) h = h

-- the tasks are done from WORK on
pub works : (stay : Stay) (most : ℕ) (e : Run) → ports e.seen ≡ [] → Works stay e → e.steps ≤ most → e.steps ≤ most_steps → Through stay most WORK e
works stay most e q h few less = record { told = []; ports = q; follows = tt; ends = inr (few, less, at_once (λ x. AtWork x WORK e) stay (refl, h)) }

-- a handle that names no thread, and a frame too many
pub refuses_thread : (most : ℕ) (state : KernelState) (e : Run) (stay : Stay) → stay ≡ Halt (BadThread e.regs.r8 (registers_of state).r31) state.memory → Holds state e.bytes → e.steps ≤ most → Ends 128 stay most BAD_THREAD e
refuses_thread most state e stay is h few = subst (λ x. Ends 128 x most BAD_THREAD e) (sym is) (few, record { state = state; is = refl; memory_is = refl; holds = h })

-- ---- what is left of a stay, and how many nodes it may end at, where the whole of it has a flat bound

pub record Left (flat : ℕ) (stay rest : Stay) (most : ℕ) : Type 0 where
  pub enough : (to : ℕ) (e : Run) → Ends 128 rest most to e → Ends 128 stay flat to e

pub left_all : {flat : ℕ} (stay : Stay) → Left flat stay stay flat
left_all stay = record { enough = λ to e h. h }

pub left_is : {flat : ℕ} (stay rest now : Stay) (most : ℕ) → rest ≡ now → Left flat stay rest most → Left flat stay now most
left_is {flat} stay rest now most e l = subst (λ x. Left flat stay x most) e l

-- a byte that is user memory is read or written, and another is refused
pub left_read : {flat : ℕ} (stay : Stay) (s : KernelState) (at : ℕ) (next : ℕ → Stay) (most : ℕ) → user at ≡ true → Left flat stay (reads_byte s at next) most → Left flat stay (next (byte s.memory (place at))) (most + 128)
left_read stay s at next most u l =
    let is : (if user at then next (byte s.memory (place at)) else bad_pointer s at) ≡ next (byte s.memory (place at)) = ap (λ b. if b then next (byte s.memory (place at)) else bad_pointer s at) u in
    record { enough = λ to e h. l.enough to e (subst (λ x. Ends 128 x (most + 128) to e) (sym is) h) }

pub left_written : {flat : ℕ} (stay : Stay) (s : KernelState) (at value : ℕ) (next : KernelState → Stay) (most : ℕ) → user at ≡ true → Left flat stay (writes_byte s at value next) most → Left flat stay (next (with_byte s at value)) (most + 128)
left_written stay s at value next most u l =
    let is : (if user at then next (with_byte s at value) else bad_pointer s at) ≡ next (with_byte s at value) = ap (λ b. if b then next (with_byte s at value) else bad_pointer s at) u in
    record { enough = λ to e h. l.enough to e (subst (λ x. Ends 128 x (most + 128) to e) (sym is) h) }

pub left_unread : {flat : ℕ} (stay : Stay) (s : KernelState) (at : ℕ) (next : ℕ → Stay) (most : ℕ) → user at ≡ false → Left flat stay (reads_byte s at next) most → Left flat stay (bad_pointer s at) (most + 128)
left_unread stay s at next most u l =
    let is : (if user at then next (byte s.memory (place at)) else bad_pointer s at) ≡ bad_pointer s at = ap (λ b. if b then next (byte s.memory (place at)) else bad_pointer s at) u in
    record { enough = λ to e h. l.enough to e (subst (λ x. Ends 128 x (most + 128) to e) (sym is) h) }

pub left_unwritten : {flat : ℕ} (stay : Stay) (s : KernelState) (at value : ℕ) (next : KernelState → Stay) (most : ℕ) → user at ≡ false → Left flat stay (writes_byte s at value next) most → Left flat stay (bad_pointer s at) (most + 128)
left_unwritten stay s at value next most u l =
    let is : (if user at then next (with_byte s at value) else bad_pointer s at) ≡ bad_pointer s at = ap (λ b. if b then next (with_byte s at value) else bad_pointer s at) u in
    record { enough = λ to e h. l.enough to e (subst (λ x. Ends 128 x (most + 128) to e) (sym is) h) }

-- ---- an access at a register without an offset

in_segment : (t0 t4 t5 m s : Bool) → (((t0 || (t4 || t5)) && m) || ((t0 || t4) && s)) ≡ true → ((t0 || (t4 || t5)) ≡ true) × ((m || s) ≡ true)
in_segment true t4 t5 true s h = (refl, refl)
in_segment true t4 t5 false s h = (refl, h)
in_segment false true t5 true s h = (refl, refl)
in_segment false true t5 false s h = (refl, h)
in_segment false false true true s h = (refl, refl)
in_segment false false true false s h = absurd (false≢true h)
in_segment false false false m s h = absurd (false≢true h)

pub user_place : (a : ℕ) → user a ≡ true → (user_main (place a) || scratchpad (place a)) ≡ true
unfolding user
user_place a u =
    let b = in_segment (nat_eq (top a) 0) (nat_eq (top a) 4) (nat_eq (top a) 5) (user_main (low a)) (scratchpad (low a)) u in
    ap (λ x. user_main (if x then low a else 2 ^ 29) || scratchpad (if x then low a else 2 ^ 29)) b.0 ∙ b.1

-- what is loaded there is the state's
pub user_byte : (s : KernelState) (m : Memory) → Holds s m → (a : ℕ) → user a ≡ true → byte m (place a) ≡ byte s.memory (place a)
user_byte s m h a u = h.user (place a) (user_place a u)

-- ---- arguments

-- a count of 0 or less, and another
pub no_count : (n : ℕ) → (n ≡ 0) ⊎ (2 ^ 31 ≤ n) → count_of n ≡ 0
no_count n h = grind arith

pub a_count : (n : ℕ) → n < 2 ^ 31 → count_of n ≡ n
a_count n h = grind arith

-- the low byte, by two shifts
pub low_byte : (x : ℕ) → x * 2 ^ 24 % 2 ^ 32 / 2 ^ 24 ≡ x % 2 ^ 8
low_byte x = omega arith
