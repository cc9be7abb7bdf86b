-- The laws of the calls' definitions.
use Rattle.std.proofs.Common.{◌≡◌, ◌≢◌, ℕ, zero, suc, ◌+◌, ◌-◌, ◌*◌, ◌/◌, ◌%◌, ◌^◌, ◌<◌, ◌≤◌, List, [], ◌∷◌, ◌++◌, Bool, true, false, refl, sym, ap, ◌∙◌, subst, arith, min, max, ⊎_elim}
use Rattle.std.specs.Prelude.{nat_eq, bit_and, bit_or, if◌then◌else◌}
use Rattle.std.specs.Int.{bit_at, w32}
use Rattle.std.proofs.lemmas.Bool.{cases_eq, lt-ltb, le-ltb, eq-eqb, ne_eqb}
use Rattle.std.proofs.lemmas.Nat.Bits.{bit_at-lt, bit_at_and, bit_at_or, bit_at_not, bit_at-pow_same, bit_at-pow_other, bit_at_cat_low}
use Rattle.psx_base.specs.Ports.{I_MASK, value_port, mode_port, target_port}
use Rattle.psx_base.specs.KernelState.{KernelState}
use Rattle.psx_ports.specs.Counter.{Act, SetValue, SetMode, SetTarget, setting, value_at}
use Rattle.psx_ports.specs.History.{History, Event, Read, Write, Raise, Give, then_act, acts_of, answer, counters_answer, last_written, i_mask}
use Rattle.abs_kernel.specs.Stay.{Stay, Ask, Tell}
use Rattle.abs_kernel.specs.Answered.{registers_of, answered}
use Rattle.abs_kernel.specs.Counters.{of_counter, line_of, masks}
use Rattle.abs_kernel.specs.InitTimer.{mode_of}
use Rattle.abs_kernel.specs.Tasks.{without_line}
use Rattle.kern_timer.specs.Laws.{AreOutside, later, Behind, Begins, Restarts, Gets, ChangesLine, Enables, Disables, OtherNumbers}

-- ---- what comes from outside

outside_acts : (t : ℕ) (more events : List Event) → AreOutside more → acts_of t (more ++ events) ≡ acts_of t events
outside_acts t [] events h = refl
outside_acts t (Raise count line ∷ more) events h = outside_acts t more events h
outside_acts t (Give count byte ∷ more) events h = outside_acts t more events h
outside_acts t (Read count at ∷ more) events h = absurd h
outside_acts t (Write count at value ∷ more) events h = absurd h

outside_written : (at : ℕ) (more events : List Event) → AreOutside more → last_written (more ++ events) at ≡ last_written events at
outside_written at [] events h = refl
outside_written at (Raise count line ∷ more) events h = outside_written at more events h
outside_written at (Give count byte ∷ more) events h = outside_written at more events h
outside_written at (Read count p ∷ more) events h = absurd h
outside_written at (Write count p value ∷ more) events h = absurd h

-- ---- an access to a counter's port

acts_mode : (t n v : ℕ) (acts : List Act) → t < 3 → then_act t (Write n (mode_port t) v) acts ≡ SetMode n v ∷ acts
acts_mode zero n v acts lt = refl
acts_mode (suc zero) n v acts lt = refl
acts_mode (suc (suc zero)) n v acts lt = refl
acts_mode (suc (suc (suc t))) n v acts lt = absurd (omega (arith, lt))

acts_target : (t n v : ℕ) (acts : List Act) → t < 3 → then_act t (Write n (target_port t) v) acts ≡ SetTarget n v ∷ acts
acts_target zero n v acts lt = refl
acts_target (suc zero) n v acts lt = refl
acts_target (suc (suc zero)) n v acts lt = refl
acts_target (suc (suc (suc t))) n v acts lt = absurd (omega (arith, lt))

acts_value : (t n v : ℕ) (acts : List Act) → t < 3 → then_act t (Write n (value_port t) v) acts ≡ SetValue n v ∷ acts
acts_value zero n v acts lt = refl
acts_value (suc zero) n v acts lt = refl
acts_value (suc (suc zero)) n v acts lt = refl
acts_value (suc (suc (suc t))) n v acts lt = absurd (omega (arith, lt))

-- of another one
passed : (u n p v : ℕ) (acts : List Act) → p ≢ value_port u → p ≢ mode_port u → p ≢ target_port u → then_act u (Write n p v) acts ≡ acts
passed u n p v acts a b c = rw (ne_eqb p (value_port u) a, ne_eqb p (mode_port u) b, ne_eqb p (target_port u) c) refl

other_port : (t u n o v : ℕ) (acts : List Act) → u ≢ t → o < 16 → then_act u (Write n (0x1F801100 + 0x10 * t + o) v) acts ≡ acts
other_port t u n o v acts ne low = passed u n (0x1F801100 + 0x10 * t + o) v acts (λ e. ne (omega (arith, e, low))) (λ e. ne (omega (arith, e, low))) (λ e. ne (omega (arith, e, low)))

other_value : (t u n v : ℕ) (acts : List Act) → u ≢ t → then_act u (Write n (value_port t) v) acts ≡ acts
other_value t u n v acts ne = let z : value_port t ≡ 0x1F801100 + 0x10 * t + 0 = omega arith in ap (λ p. then_act u (Write n p v) acts) z ∙ other_port t u n 0 v acts ne (omega arith)

-- with what came from outside before it
acts_then : (t : ℕ) (event : Event) (more events : List Event) → AreOutside more → acts_of t (event ∷ more ++ events) ≡ then_act t event (acts_of t events)
acts_then t event more events out = ap (then_act t event) (outside_acts t more events out)

-- ---- init_timer and restart_timer

there : (P : KernelState → History → Type 0) (s : KernelState) (h : History) (stay : ℕ → Stay) → (registers_of s).r4 < 3 → Behind P (stay (registers_of s).r4) h → Behind P (of_counter s stay) h
there P s h stay lt b = subst (λ few. Behind P (if few then stay (registers_of s).r4 else answered s 0) h) (sym (lt-ltb (registers_of s).r4 3 lt)) b

mode_small : (f : ℕ) → mode_of f < 2 ^ 10
mode_small f = let a = bit_at-lt f 4 in let c = bit_at-lt f 12 in sum (bit_at f 4) (bit_at f 0) (bit_at f 12) a c
  where
    sum : (a b c : ℕ) → a < 2 → c < 2 → 0x48 + a + 0x100 * (1 - b) + 0x10 * c < 2 ^ 10
    sum a b c la lc = omega (arith, la, lc)

begun_setting : (t n k mode target : ℕ) (acts : List Act) → mode < 2 ^ 10
    → setting t (SetMode n mode ∷ SetTarget k target ∷ acts) ≡ record { mode = mode; target = target % 2 ^ 16; value = 0; since = n }
unfolding setting
begun_setting t n k mode target acts small = let e : mode % 2 ^ 10 ≡ mode = omega (arith, small) in ap (λ (m : ℕ). record { mode = m; target = target % 2 ^ 16; value = 0; since = n }) e

begun_anew : (t n : ℕ) (acts : List Act) → setting t (SetValue n 0 ∷ acts) ≡ record (setting t acts) { value = 0; since = n }
unfolding setting
begun_anew t n acts = refl

pub begins : Begins
begins s h lt =
    let r = registers_of s in
    let t : ℕ = r.r4 in
    let mode : ℕ = mode_of r.r6 in
    there _ s h (λ t. Tell (mode_port t) 0 (Tell (target_port t) r.r5 (Tell (mode_port t) (mode_of r.r6) (answered s 1)))) lt
    (λ a n out b k quiet c j calm.
    let first : List Event = Write n (mode_port t) 0 ∷ a ++ h.events in
    let second : List Event = Write k (target_port t) r.r5 ∷ b ++ first in
    let writes : (u : ℕ) → List Act → List Act = λ u acts. then_act u (Write j (mode_port t) mode) (then_act u (Write k (target_port t) r.r5) (then_act u (Write n (mode_port t) 0) acts)) in
    let all : (u : ℕ) → acts_of u (Write j (mode_port t) mode ∷ c ++ second) ≡ writes u (acts_of u h.events) =
    λ u. acts_then u (Write j (mode_port t) mode) c second calm
    ∙ ap (then_act u (Write j (mode_port t) mode)) (acts_then u (Write k (target_port t) r.r5) b first quiet
    ∙ ap (then_act u (Write k (target_port t) r.r5)) (acts_then u (Write n (mode_port t) 0) a h.events out)) in (
      ap (setting t) (all t ∙ acts_mode t j mode _ lt ∙ ap (λ acts. SetMode j mode ∷ acts) (acts_target t k r.r5 _ lt)) ∙ begun_setting t j k mode r.r5 _ (mode_small r.r6),
      λ u lu ne. ap (setting u) (all u ∙ other_port t u j 4 mode _ ne (omega arith) ∙ other_port t u k 8 r.r5 _ ne (omega arith) ∙ other_port t u n 4 0 _ ne (omega arith)),
    ))

pub restarts : Restarts
restarts s h lt =
    let t : ℕ = (registers_of s).r4 in
    there _ s h (λ t. Tell (value_port t) 0 (answered s 1)) lt
    (λ a n out. (
      ap (setting t) (acts_then t (Write n (value_port t) 0) a h.events out ∙ acts_value t n 0 _ lt) ∙ begun_anew t n (acts_of t h.events),
      λ u lu ne. ap (setting u) (acts_then u (Write n (value_port t) 0) a h.events out ∙ other_value t u n 0 _ ne),
    ))

-- ---- get_timer

answer_value : (t : ℕ) (g : History) → t < 3 → answer g (value_port t) ≡ value_at t (setting t (acts_of t g.events)) g.now
unfolding answer counters_answer
answer_value zero g lt = refl
answer_value (suc zero) g lt = refl
answer_value (suc (suc zero)) g lt = refl
answer_value (suc (suc (suc t))) g lt = absurd (omega (arith, lt))

read_passed : (t v n : ℕ) (acts : List Act) → then_act v (Read n (value_port t)) acts ≡ acts
read_passed t v n acts = rw (ne_eqb (value_port t) (mode_port v) (λ e. omega (arith, e))) refl

pub gets : Gets
gets s h lt =
    let t : ℕ = (registers_of s).r4 in
    there _ s h (λ t. Ask (value_port t) (λ value. answered s value)) lt
    (λ a n out. (
      answer_value t (later h a n) lt ∙ ap (λ acts. value_at t (setting t acts) n) (outside_acts t a h.events out),
      λ v lv. ap (setting v) (acts_then v (Read n (value_port t)) a h.events out ∙ read_passed t v n _),
    ))

-- ---- the mask

low_bit : (x n : ℕ) → n < 11 → bit_at (x % 2 ^ 11) n ≡ bit_at x n
low_bit x n lt = let e : x / 2 ^ 11 * 2 ^ 11 + x % 2 ^ 11 ≡ x = omega arith in sym (bit_at_cat_low (x / 2 ^ 11) 11 (x % 2 ^ 11) n lt) ∙ ap (λ y. bit_at y n) e

mask_read : (h : History) (more : List Event) (now : ℕ) → AreOutside more → answer (later h more now) I_MASK ≡ i_mask h
unfolding answer
mask_read h more now out = ap (λ x. x % 2 ^ 11) (outside_written I_MASK more h.events out)

-- a word that has line's bit alone
one_bit : (line n : ℕ) → bit_at (2 ^ line) n ≡ (if nat_eq n line then 1 else 0)
one_bit line n = ⊎_elim
    (λ (e : n ≡ line). ap (bit_at (2 ^ line)) e ∙ bit_at-pow_same line ∙ ap (λ b. if b then 1 else 0) (sym (eq-eqb n line e)))
    (λ (ne : n ≡ line → ⊥). bit_at-pow_other line n ne ∙ ap (λ b. if b then 1 else 0) (sym (ne_eqb n line ne)))
    (cases_eq n line)

higher : (b : Bool) (x : ℕ) → x < 2 → max x (if b then 1 else 0) ≡ (if b then 1 else x)
higher true x lt = omega (arith, lt)
higher false x lt = omega (arith, lt)

lower : (b : Bool) (x : ℕ) → x < 2 → min x (1 - (if b then 1 else 0)) ≡ (if b then 0 else x)
lower true x lt = omega (arith, lt)
lower false x lt = omega (arith, lt)

set_bit : (x line n : ℕ) → n < 11 → bit_at (bit_or x (2 ^ line) % 2 ^ 11) n ≡ (if nat_eq n line then 1 else bit_at x n)
set_bit x line n lt = low_bit (bit_or x (2 ^ line)) n lt ∙ bit_at_or x (2 ^ line) n ∙ ap (max (bit_at x n)) (one_bit line n) ∙ higher (nat_eq n line) (bit_at x n) (bit_at-lt x n)

clear_bit : (x line n : ℕ) → 2 ^ line < 2 ^ 32 → n < 11 → bit_at (bit_and x (without_line line) % 2 ^ 11) n ≡ (if nat_eq n line then 0 else bit_at x n)
clear_bit x line n small lt =
    low_bit (bit_and x (without_line line)) n lt ∙ bit_at_and x (without_line line) n
    ∙ ap (min (bit_at x n)) (bit_at_not w32 (2 ^ line) n small (omega (arith, lt)) ∙ ap (λ b. 1 - b) (one_bit line n)) ∙ lower (nat_eq n line) (bit_at x n) (bit_at-lt x n)

line_small : (t : ℕ) → t < 4 → 2 ^ line_of t < 2 ^ 32
line_small zero lt = omega arith
line_small (suc zero) lt = omega arith
line_small (suc (suc zero)) lt = omega arith
line_small (suc (suc (suc zero))) lt = omega arith
line_small (suc (suc (suc (suc t)))) lt = absurd (omega (arith, lt))

-- the mask is written as the line's bit makes it
masked : (change : (mask line : ℕ) → ℕ) (bit : ℕ) (s : KernelState) (h : History) → let t = (registers_of s).r4 in t < 4
    → ((x n : ℕ) → n < 11 → bit_at (change x (line_of t) % 2 ^ 11) n ≡ (if nat_eq n (line_of t) then bit else bit_at x n)) → Behind (λ u g. ChangesLine (line_of t) bit h g) (masks change s) h
masked change bit s h lt bits =
    let t : ℕ = (registers_of s).r4 in
    let stay : Stay = Ask I_MASK (λ mask. Tell I_MASK (change mask (line_of t)) (answered s 1)) in
    subst (λ few. Behind (λ u g. ChangesLine (line_of t) bit h g) (if few then stay else answered s 0) h) (sym (lt-ltb t 4 lt))
    (λ a k out b j quiet n low. bits (answer (later h a k) I_MASK) n low ∙ ap (λ x. if nat_eq n (line_of t) then bit else bit_at x n) (mask_read h a k out))

pub enables : Enables
enables s h lt = masked (λ mask line. bit_or mask (2 ^ line)) 1 s h lt (λ x n low. set_bit x (line_of (registers_of s).r4) n low)

pub disables : Disables
disables s h lt =
    masked (λ mask line. bit_and mask (without_line line)) 0 s h lt (λ x n low. clear_bit x (line_of (registers_of s).r4) n (line_small (registers_of s).r4 lt) low)

-- ---- other numbers

none : (s : KernelState) (stay : ℕ → Stay) → 3 ≤ (registers_of s).r4 → of_counter s stay ≡ answered s 0
none s stay le = ap (λ b. if b then stay (registers_of s).r4 else answered s 0) (le-ltb (registers_of s).r4 3 le)

no_line : (s : KernelState) (change : (mask line : ℕ) → ℕ) → 4 ≤ (registers_of s).r4 → masks change s ≡ answered s 0
no_line s change le =
    let stay : Stay = Ask I_MASK (λ mask. Tell I_MASK (change mask (line_of (registers_of s).r4)) (answered s 1)) in
    ap (λ b. if b then stay else answered s 0) (le-ltb (registers_of s).r4 4 le)

pub other_numbers : OtherNumbers
other_numbers s =
    let r = registers_of s in
    record {
      counters = λ le. (
        none s (λ t. Tell (mode_port t) 0 (Tell (target_port t) r.r5 (Tell (mode_port t) (mode_of r.r6) (answered s 1)))) le,
        none s (λ t. Ask (value_port t) (λ value. answered s value)) le,
        none s (λ t. Tell (value_port t) 0 (answered s 1)) le,
      );
      lines = λ le. (no_line s (λ mask line. bit_or mask (2 ^ line)) le, no_line s (λ mask line. bit_and mask (without_line line)) le);
    }
