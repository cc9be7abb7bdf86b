-- For each valid state there are words and bytes that read as it.
use Rattle.std.proofs.Common.{◌≡◌, ℕ, suc, ◌+◌, ◌-◌, ◌*◌, ◌/◌, ◌%◌, ◌<◌, ◌≤◌, Bool, true, false, cond, List, [], ◌∷◌, length, refl, ap, ◌∙◌, arith}
use Rattle.std.specs.Prelude.{◌&&◌, nat_le, nat_lt, nat_eq, Option, Some, None, slice_index_or, All}
use Rattle.std.proofs.Math.Nat.{mul-le-mul_left}
use Rattle.std.proofs.lemmas.Bool.{and_parts, leb-true, ltb-true, eq-eqb, ne_eqb, lt-ltb, le-ltb}
use Rattle.psx_base.specs.KernelState.{Thread, Free, Used, Event, Task, Element, Second, Line, Scan, Frame}
use Rattle.kern_layout.specs.Fields.{Fields, Block, Rows, Stack}
use Rattle.kern_layout.specs.Contexts.{saved, thread_fields}
use Rattle.kern_layout.specs.Tasks.{elements_of, lines_of, under_way_fields, count_fields, FrameAt}
use Rattle.kern_layout.specs.Reads.{event_fields, no_event, file_fields, no_frame, frame_at, FramesAt, ChainsAt}
use Rattle.kern_layout.specs.Valid.{FrameFits, ChainFits}

-- ---- fields

-- the value at an offset
abbrev pub look : Fields → ℕ → ℕ
look [] o = 0
look (f ∷ fs) o = cond (nat_eq o f.0) f.1 (look fs o)

-- the offsets rise, in a range
abbrev pub climbs : ℕ → ℕ → Fields → Bool
climbs low high [] = true
climbs low high (f ∷ fs) = (nat_le low f.0 && nat_lt f.0 high) && climbs (suc f.0) high fs

climb : (low high x : ℕ) (b : Bool) → ((nat_le low x && nat_lt x high) && b) ≡ true → (low ≤ x) × (x < high) × (b ≡ true)
climb low high x b h =
    let p = and_parts (nat_le low x && nat_lt x high) b h in
    let q = and_parts (nat_le low x) (nat_lt x high) p.0 in
    (leb-true _ _ q.0, ltb-true _ _ q.1, p.1)

pub looked : (w : ℕ → ℕ) (at low high : ℕ) (f : Fields) → climbs low high f ≡ true → ((o : ℕ) → low ≤ o → o < high → w (at + o) ≡ look f o) → Block w at f
looked w at low high [] c s = tt
looked w at low high (y ∷ f) c s =
    let here = climb low high y.0 (climbs (suc y.0) high f) c in
    (s y.0 here.0 here.1 ∙ ap (λ b. cond b y.1 (look f y.0)) (eq-eqb y.0 y.0 refl), looked w at (suc y.0) high f here.2 (λ o lo up. s o (omega (arith, here.0, lo)) up ∙ ap (λ b. cond b y.1 (look f o)) (ne_eqb o y.0 (λ e. omega (arith, e, lo)))))

-- ---- tables

module _ {X : Type 0} (first size : ℕ) (fields : ℕ → X → Fields) (none : X) (quotient : (i o : ℕ) → o < size → (first + size * i + o - first) / size ≡ i) (rest : (i o : ℕ) → o < size → (first + size * i + o - first) % size ≡ o) (fit : (i : ℕ) (y : X) → climbs 0 size (fields i y) ≡ true) where
  pub rows_made : (w : ℕ → ℕ) (xs : List X) → ((a : ℕ) → first ≤ a → a < first + size * length xs → w a ≡ look (fields ((a - first) / size) (slice_index_or xs ((a - first) / size) none)) ((a - first) % size)) → Rows w first size fields xs none
  rows_made w xs s = λ i lt.
      let e : size * suc i ≤ size * length xs = mul-le-mul_left size lt in
      looked w (first + size * i) 0 size (fields i (slice_index_or xs i none)) (fit i (slice_index_or xs i none))
      (λ o lo up.
      let q = quotient i o up in
      let r = rest i o up in
      s (first + size * i + o) (omega arith) (omega (arith, e, up)) ∙ (λ j. look (fields (q j) (slice_index_or xs (q j) none)) (r j)))

either : (b : Bool) (f : Fields) (low high : ℕ) → climbs low high f ≡ true → climbs low high (cond b [] f) ≡ true
either true f low high h = refl
either false f low high h = h

pub climb_thread : (current n : ℕ) (t : Thread) → climbs 0 0xC0 (thread_fields current n t) ≡ true
climb_thread current n Free = refl
climb_thread current n (Used t) = either (nat_eq n current) (saved t) 1 0xC0 refl

pub climb_event : (i : ℕ) (e : Event) → climbs 0 0x1C (event_fields i e) ≡ true
climb_event i e = refl

pub climb_file : (n : ℕ) (f : Option ℕ) → climbs 0 4 (file_fields n f) ≡ true
climb_file n None = refl
climb_file n (Some mode) = refl

pub threads_quotient : (i o : ℕ) → o < 0xC0 → (0xB000 + 0xC0 * i + o - 0xB000) / 0xC0 ≡ i
threads_quotient i o lt = omega arith

pub threads_rest : (i o : ℕ) → o < 0xC0 → (0xB000 + 0xC0 * i + o - 0xB000) % 0xC0 ≡ o
threads_rest i o lt = omega arith

pub events_quotient : (i o : ℕ) → o < 0x1C → (0xBC00 + 0x1C * i + o - 0xBC00) / 0x1C ≡ i
events_quotient i o lt = omega arith

pub events_rest : (i o : ℕ) → o < 0x1C → (0xBC00 + 0x1C * i + o - 0xBC00) % 0x1C ≡ o
events_rest i o lt = omega arith

pub files_quotient : (i o : ℕ) → o < 4 → (0xE800 + 4 * i + o - 0xE800) / 4 ≡ i
files_quotient i o lt = omega arith

pub files_rest : (i o : ℕ) → o < 4 → (0xE800 + 4 * i + o - 0xE800) % 4 ≡ o
files_rest i o lt = omega arith

-- the words of the three tables of blocks
abbrev pub threads_word : ℕ → List Thread → ℕ → ℕ
threads_word current ts a = look (thread_fields current ((a - 0xB000) / 0xC0) (slice_index_or ts ((a - 0xB000) / 0xC0) Free)) ((a - 0xB000) % 0xC0)

abbrev pub events_word : List Event → ℕ → ℕ
events_word es a = look (event_fields ((a - 0xBC00) / 0x1C) (slice_index_or es ((a - 0xBC00) / 0x1C) no_event)) ((a - 0xBC00) % 0x1C)

abbrev pub files_word : List (Option ℕ) → ℕ → ℕ
files_word fs a = look (file_fields ((a - 0xE800) / 4) (slice_index_or fs ((a - 0xE800) / 4) None)) ((a - 0xE800) % 4)

-- ---- stacks, frames and chains

abbrev pub stack_word : List ℕ → ℕ → ℕ
stack_word xs o = slice_index_or xs (length xs - 1 - o / 4) 0

pub stack_made : (w : ℕ → ℕ) (at : ℕ) (xs : List ℕ) → ((k : ℕ) → k < length xs → w (at + 4 * k) ≡ slice_index_or xs (length xs - 1 - k) 0) → Stack w at xs
stack_made w at [] s = tt
stack_made w at (x ∷ xs) s = (
  s (length xs) (omega arith) ∙ ap (λ k. slice_index_or (x ∷ xs) k 0) (let e : suc (length xs) - 1 - length xs ≡ 0 = omega arith in e),
  stack_made w at xs (λ k lt. s k (omega arith) ∙ ap (λ j. slice_index_or (x ∷ xs) j 0) (let e : suc (length xs) - 1 - k ≡ suc (length xs - 1 - k) = omega (arith, lt) in e)),
)

-- the branch of a choice by place
pub chosen : (a n : ℕ) (x y : ℕ) → a < n → cond (nat_lt a n) x y ≡ x
chosen a n x y lt = ap (λ b. cond b x y) (lt-ltb a n lt)

pub passed : (a n : ℕ) (x y : ℕ) → n ≤ a → cond (nat_lt a n) x y ≡ y
passed a n x y le = ap (λ b. cond b x y) (le-ltb a n le)

abbrev pub frame_word : Frame → ℕ → ℕ
frame_word f o = cond (nat_lt o 0x98) (look (saved f.context) o) (cond (nat_lt o 0xA8) (look (under_way_fields f.tasks) o) (cond (nat_lt o 0xB0) (look (count_fields f.tasks) o) (cond (nat_lt o 0x100) (stack_word (lines_of f.tasks) (o - 0xB0)) (stack_word (elements_of f.tasks) (o - 0x100)))))

climb_way : (ts : List Task) → climbs 0x98 0xA8 (under_way_fields ts) ≡ true
climb_way [] = refl
climb_way (Element e ∷ ts) = refl
climb_way (Second e ∷ ts) = refl
climb_way (Line n ∷ ts) = refl
climb_way (Scan class spec i ∷ ts) = refl

pub frame_made : (w : ℕ → ℕ) (at : ℕ) (f : Frame) → length (elements_of f.tasks) ≤ 32 → length (lines_of f.tasks) ≤ 4 → ((o : ℕ) → o < 0x180 → w (at + o) ≡ frame_word f o) → FrameAt w at f
frame_made w at f elements lines s = record {
  context = looked w at 0 0x98 (saved f.context) refl (λ o lo up. s o (omega (arith, up)) ∙ chosen o 0x98 _ _ up);
  tasks = record {
    first = looked w at 0x98 0xA8 (under_way_fields f.tasks) (climb_way f.tasks) (λ o lo up. s o (omega (arith, up)) ∙ passed o 0x98 _ _ lo ∙ chosen o 0xA8 _ _ up);
    counts = looked w at 0xA8 0xB0 (count_fields f.tasks) refl (λ o lo up. s o (omega (arith, up)) ∙ passed o 0x98 _ _ (omega (arith, lo)) ∙ passed o 0xA8 _ _ lo ∙ chosen o 0xB0 _ _ up);
    lines = stack_made w (at + 0xB0) (lines_of f.tasks) (λ k lt. ap w (let e : at + 0xB0 + 4 * k ≡ at + (0xB0 + 4 * k) = omega arith in e) ∙ s (0xB0 + 4 * k) (omega arith) ∙ passed (0xB0 + 4 * k) 0x98 _ _ (omega arith) ∙ passed (0xB0 + 4 * k) 0xA8 _ _ (omega arith) ∙ passed (0xB0 + 4 * k) 0xB0 _ _ (omega arith) ∙ chosen (0xB0 + 4 * k) 0x100 _ _ (omega arith) ∙ ap (λ j. slice_index_or (lines_of f.tasks) (length (lines_of f.tasks) - 1 - j) 0) (let e : (0xB0 + 4 * k - 0xB0) / 4 ≡ k = omega arith in e));
    elements = stack_made w (at + 0x100) (elements_of f.tasks) (λ k lt. ap w (let e : at + 0x100 + 4 * k ≡ at + (0x100 + 4 * k) = omega arith in e) ∙ s (0x100 + 4 * k) (omega arith) ∙ passed (0x100 + 4 * k) 0x98 _ _ (omega arith) ∙ passed (0x100 + 4 * k) 0xA8 _ _ (omega arith) ∙ passed (0x100 + 4 * k) 0xB0 _ _ (omega arith) ∙ passed (0x100 + 4 * k) 0x100 _ _ (omega arith) ∙ ap (λ j. slice_index_or (elements_of f.tasks) (length (elements_of f.tasks) - 1 - j) 0) (let e : (0x100 + 4 * k - 0x100) / 4 ≡ k = omega arith in e));
  };
}

abbrev pub frames_word : List Frame → ℕ → ℕ
frames_word fs a = frame_word (slice_index_or fs ((a - 0xC300) / 0x180) no_frame) ((a - 0xC300) % 0x180)

pub frames_made : (events : ℕ) (w : ℕ → ℕ) (fs : List Frame) → length fs ≤ 8 → All (FrameFits events) fs → ((a : ℕ) → 0xC300 ≤ a → a < 0xCF00 → w a ≡ frames_word fs a) → FramesAt w fs
frames_made events w fs few fit s n lt =
    let ok = fit n no_frame lt in
    frame_made w (frame_at n) (slice_index_or fs n no_frame) ok.tasks.elements ok.tasks.lines (λ o up.
    let q : (0xC300 + 0x180 * n + o - 0xC300) / 0x180 ≡ n = omega (arith, up) in
    let r : (0xC300 + 0x180 * n + o - 0xC300) % 0x180 ≡ o = omega (arith, up) in
    s (0xC300 + 0x180 * n + o) (omega arith) (omega (arith, lt, few, up)) ∙ (λ j. frame_word (slice_index_or fs (q j) no_frame) (r j)))

abbrev pub chain_word : List ℕ → ℕ → ℕ
chain_word es o = cond (nat_lt o 4) (length es) (stack_word es (o - 4))

abbrev pub chains_word : List (List ℕ) → ℕ → ℕ
chains_word cs a = chain_word (slice_index_or cs ((a - 0xCF00) / 0x40) []) ((a - 0xCF00) % 0x40)

pub chains_made : (w : ℕ → ℕ) (cs : List (List ℕ)) → length cs ≡ 4 → All ChainFits cs → ((a : ℕ) → 0xCF00 ≤ a → a < 0xD000 → w a ≡ chains_word cs a) → ChainsAt w cs
chains_made w cs four fit s p lt =
    let es = slice_index_or cs p [] in
    let few : length es ≤ 8 = (fit p [] lt).few in
    let all : (o : ℕ) → o < 0x40 → w (0xCF00 + 0x40 * p + o) ≡ chain_word es o = (λ o up.
    let q : (0xCF00 + 0x40 * p + o - 0xCF00) / 0x40 ≡ p = omega (arith, up) in
    let r : (0xCF00 + 0x40 * p + o - 0xCF00) % 0x40 ≡ o = omega (arith, up) in
    s (0xCF00 + 0x40 * p + o) (omega arith) (omega (arith, lt, four, up)) ∙ (λ j. chain_word (slice_index_or cs (q j) []) (r j))) in
    record {
      count = ap w (let e : 0xCF00 + 0x40 * p ≡ 0xCF00 + 0x40 * p + 0 = omega arith in e) ∙ all 0 (omega arith);
      elements = stack_made w (0xCF00 + 0x40 * p + 4) es (λ k l. ap w (let e : 0xCF00 + 0x40 * p + 4 + 4 * k ≡ 0xCF00 + 0x40 * p + (4 + 4 * k) = omega arith in e) ∙ all (4 + 4 * k) (omega (arith, l, few)) ∙ passed (4 + 4 * k) 4 _ _ (omega arith) ∙ ap (λ j. slice_index_or es (length es - 1 - j) 0) (let e : (4 + 4 * k - 4) / 4 ≡ k = omega arith in e));
    }
