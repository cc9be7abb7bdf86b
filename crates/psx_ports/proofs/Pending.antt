-- The pending lines at a later count, and after one event more.
use Rattle.std.proofs.Common.{◌≡◌, ℕ, ◌-◌, ◌^◌, ◌≤◌, Bool, true, false, inl, inr, List, [], ◌∷◌, refl, sym, ap, subst, ◌∙◌, arith}
use Rattle.std.specs.Prelude.{◌&&◌, ◌||◌, nat_eq, nat_le, bit_and, bit_or}
use Rattle.std.proofs.lemmas.Bool.Decides.{leb_tells}
use Rattle.psx_base.specs.Ports.{I_STAT}
use Rattle.psx_ports.specs.Counter.{bit, happens, raises}
use Rattle.psx_ports.specs.History.{History, Event, Write, Raise, moment, then_event, at_count, acts_of, turned, left, pending, word_of, i_stat}
use Rattle.psx_ports.specs.Stands.{last_moment}
use Rattle.psx_ports.proofs.Happens.{happens-empty, happens-split}
use Rattle.psx_ports.proofs.Words.{word-or, word-and, word-raise, word-same}

-- ---- a later count

and_or : (b x y : Bool) → (b && (x || y)) ≡ ((b && x) || (b && y))
and_or true x y = refl
and_or false x y = refl

turned-split : (n : ℕ) (events : List Event) (a b c : ℕ) → a ≤ b → b ≤ c → turned n events a c ≡ (turned n events a b || turned n events b c)
turned-split n events a b c h k =
    ap (λ x. (nat_le 4 n && nat_le n 6) && x) (happens-split (raises (n - 4) (acts_of (n - 4) events)) a b c h k)
    ∙ and_or (nat_le 4 n && nat_le n 6) (happens (raises (n - 4) (acts_of (n - 4) events)) a b) (happens (raises (n - 4) (acts_of (n - 4) events)) b c)

or_swap : (a b c : Bool) → ((a || b) || c) ≡ ((a || c) || b)
or_swap true b c = refl
or_swap false true true = refl
or_swap false true false = refl
or_swap false false true = refl
or_swap false false false = refl

pub pending-later : (n : ℕ) (events : List Event) (m now : ℕ) → last_moment events ≤ m → m ≤ now → pending n events now ≡ (pending n events m || turned n events m now)
pending-later n [] m now h k = turned-split n [] 0 m now h k
pending-later n (event ∷ before) m now h k =
    ap (λ x. x || left n event (pending n before (moment event))) (turned-split n (event ∷ before) (moment event) m now h k)
    ∙ or_swap (turned n (event ∷ before) (moment event) m) (turned n (event ∷ before) m now) (left n event (pending n before (moment event)))

pub stat-later : (h : History) (now : ℕ) → last_moment h.events ≤ h.now → h.now ≤ now → i_stat (at_count h now) ≡ bit_or (i_stat h) (word_of (λ n. turned n h.events h.now now) 11)
unfolding i_stat
stat-later h now a b =
    word-same (λ n. pending n h.events now) (λ n. pending n h.events h.now || turned n h.events h.now now) 11 (λ n k. pending-later n h.events h.now now a b)
    ∙ sym (word-or (λ n. pending n h.events h.now) (λ n. turned n h.events h.now now) 11)

-- where no counter raises its line, nothing changes
pub turned-never : (events : List Event) (from to : ℕ) → ((t : ℕ) → t ≤ 2 → happens (raises t (acts_of t events)) from to ≡ false) → (n : ℕ) → turned n events from to ≡ false
turned-never events from to none n = elim (leb_tells 4 n) [
  | inr low ↦ ap (λ b. (b && nat_le n 6) && happens (raises (n - 4) (acts_of (n - 4) events)) from to) low.0
  | inl above ↦ elim (leb_tells n 6) [
    | inr high ↦ (λ i. (above.0 i && high.0 i) && happens (raises (n - 4) (acts_of (n - 4) events)) from to)
    | inl within ↦ (λ i. (above.0 i && within.0 i) && none (n - 4) (omega arith) i)
  ]
]

or_false : (b : Bool) → (b || false) ≡ b
or_false true = refl
or_false false = refl

pub stat-stays : (h : History) (now : ℕ) → last_moment h.events ≤ h.now → h.now ≤ now → ((t : ℕ) → t ≤ 2 → happens (raises t (acts_of t h.events)) h.now now ≡ false) → i_stat (at_count h now) ≡ i_stat h
unfolding i_stat
stat-stays h now a b none =
    word-same (λ n. pending n h.events now) (λ n. pending n h.events h.now) 11
    (λ n k. pending-later n h.events h.now now a b ∙ ap (λ x. pending n h.events h.now || x) (turned-never h.events h.now now none n) ∙ or_false (pending n h.events h.now))

-- ---- an event more

turned-empty : (n : ℕ) (events : List Event) (now : ℕ) → turned n events now now ≡ false
turned-empty n events now = turned-never events now now (λ t k. happens-empty (raises t (acts_of t events)) now now (omega arith)) n

pub pending-event : (n : ℕ) (event : Event) (events : List Event) → pending n (event ∷ events) (moment event) ≡ left n event (pending n events (moment event))
pending-event n event events = ap (λ x. x || left n event (pending n events (moment event))) (turned-empty n (event ∷ events) (moment event))

-- an event of now that leaves each line as it is
pub stat-same : (h : History) (event : Event) → moment event ≡ h.now → ((n : ℕ) (b : Bool) → left n event b ≡ b) → i_stat (then_event h event) ≡ i_stat h
unfolding i_stat
stat-same h event now stays =
    let P : ℕ → Type 0 = λ m. word_of (λ n. pending n (event ∷ h.events) m) 11 ≡ word_of (λ n. pending n h.events m) 11 in
    subst P now (word-same (λ n. pending n (event ∷ h.events) (moment event)) (λ n. pending n h.events (moment event)) 11
    (λ n k. pending-event n event h.events ∙ stays n (pending n h.events (moment event))))

pub stat-raised : (h : History) (line : ℕ) → line ≤ 10 → i_stat (then_event h (Raise h.now line)) ≡ bit_or (i_stat h) (2 ^ line)
unfolding i_stat
stat-raised h line within =
    word-same (λ n. pending n (Raise h.now line ∷ h.events) h.now) (λ n. pending n h.events h.now || nat_eq line n) 11 (λ n k. pending-event n (Raise h.now line) h.events)
    ∙ sym (word-raise (λ n. pending n h.events h.now) line 11 (omega arith))

pub stat-acknowledged : (h : History) (value : ℕ) → i_stat (then_event h (Write h.now I_STAT value)) ≡ bit_and (i_stat h) value
unfolding i_stat
stat-acknowledged h value =
    word-same (λ n. pending n (Write h.now I_STAT value ∷ h.events) h.now) (λ n. pending n h.events h.now && bit value n) 11 (λ n k. pending-event n (Write h.now I_STAT value) h.events)
    ∙ sym (word-and (λ n. pending n h.events h.now) value 11)
