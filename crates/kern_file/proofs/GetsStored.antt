-- The line of gets, as it is kept, and as it is written where it has ended.
use Rattle.psx_flow.proofs.Kit.{◌≡◌, ℕ, suc, ◌+◌, ◌-◌, ◌*◌, ◌%◌, ◌^◌, ◌<◌, ◌≤◌, ◌++◌, refl, sym, ap, ◌∙◌, subst, arith, List, [], ◌∷◌, length, Memory, byte, put_byte, put_word, Run, Goal, Calls, Access, place}
use Rattle.std.specs.Prelude.{slice_index}
use Rattle.std.proofs.lemmas.List.{length_push}
use Rattle.psx_base.specs.KernelState.{KernelState}
use Rattle.psx_flow.specs.Told.{ports}
use Rattle.kern_layout.specs.Reads.{LineAt}
use Rattle.kern_layout.specs.Valid.{Valid}
use Rattle.abs_kernel.proofs.Moved.{valid_moved}
use Rattle.abs_kernel.proofs.Lined.{valid_lined}
use Rattle.abs_kernel.specs.Stay.{Stay}
use Rattle.abs_kernel.specs.Answered.{registers_of, answered}
use Rattle.abs_kernel.specs.UserBytes.{bad_pointer, following}
use Rattle.abs_kernel.specs.Gets.{with_line, store_bytes, gives_line}
use Rattle.kern_stay.specs.Room.{room}
use Rattle.kern_stay.specs.Shared.{tree}
use Rattle.kern_stay.specs.declared.places.TheConstants.{BAD_POINTER}
use Rattle.kern_stay.specs.Doors.{Holds, Ends}
use Rattle.kern_stay.specs.Loops.{Passes}
use Rattle.kern_stay.proofs.RoomGiven.{KnowsRoom}
use Rattle.kern_stay.proofs.RoomLeft.{Span, span_all, span_some}
use Rattle.kern_stay.proofs.Holding.{holds_byte}
use Rattle.kern_stay.proofs.Passing.{passed, answers_now}
use Rattle.kern_stay.proofs.Looping.{starting, Turning, FromLoop, looped}
use Rattle.kern_stay.proofs.Cursor.{Cursor, coming, done_all, done_bad}
use Rattle.kern_stay.proofs.Asking.{Behind, behind_all, behind_is, behind_written, behind_unwritten}
use Rattle.kern_stay.proofs.LineHolding.{line_byte, holds_behind_line, holds_line, line_longer, line_past_word, line_past_user}
use Rattle.kern_file.specs.declared.places.TheConstants.{GETS_LOOP, ROOM}
use Rattle.kern_file.specs.declared.a3d_gets.TheConstants.{LOOP_NODES}

-- ---- the bytes of a line are written

refuses_now : (state : KernelState) (most : ℕ) (e : Run) (stay : Stay) → stay ≡ bad_pointer state e.regs.r8 → Holds state e.bytes → e.steps ≤ most → Ends 0 stay most BAD_POINTER e
refuses_now state most e stay is h few = subst (λ y. Ends 0 y most BAD_POINTER e) (sym is) (few, record { state = state; is = refl; memory_is = refl; holds = h })

-- the state with its memory so far
abbrev pub now : KernelState → Memory → KernelState
now t u = record t { memory = u }

abbrev pub done : ℕ → KernelState → Stay
done p t = answered t p

-- the first of some bytes
record First (bytes : List ℕ) : Type 0 where
  byte : ℕ
  rest : List ℕ
  is : bytes ≡ byte ∷ rest

first_of : (bytes : List ℕ) → 0 < length bytes → First bytes
first_of [] h = absurd (omega arith)
first_of (b ∷ bs) h = record { byte = b; rest = bs; is = refl }

none_of : (bytes : List ℕ) → length bytes ≡ 0 → bytes ≡ []
none_of [] h = refl
none_of (b ∷ bs) h = absurd (omega (arith, h))

-- at the loop's head, with k bytes to come, which stand in the line from a place on
record Storing (stay : Stay) (t : KernelState) (a n stop flag few k : ℕ) (e : Run) : Type 0 where
  memory : Memory
  bytes : List ℕ
  count : length bytes ≡ k
  from : ℕ
  low : from + k ≤ 0x100
  there : (j : ℕ) → j < length bytes → byte e.bytes (0xE900 + (from + j)) ≡ slice_index bytes j
  left : Behind stay (store_bytes bytes (now t memory) e.regs.r8 (done a)) few
  holds : Holds (now t memory) e.bytes
  within : e.steps + 8 * k + 20 ≤ few
  quiet : ports e.seen ≡ []
  r4 : e.regs.r4 ≡ a
  r10 : e.regs.r10 ≡ flag
  r11 : e.regs.r11 ≡ stop
  r16 : e.regs.r16 ≡ 0x8000E900 + from
  cursor : Cursor a n stop k e.regs.r8

module _ (C : Calls) (know : KnowsRoom ROOM C) (again : List Access → Stay → Goal) (stay : Stay) (few : ℕ) (t : KernelState) (valid : Valid t) (a n stop flag : ℕ) (span : Span a n stop flag) where
  abbrev G : ℕ → Goal
  G to e = Passes GETS_LOOP again stay few to e

  abbrev Inv : ℕ → Goal
  Inv k e = Storing stay t a n stop flag few k e

  turn : (k : ℕ) (e : Run) → Inv k e → Turning C (tree LOOP_NODES) G Inv k e
  turn k e h =
      let x : ℕ = e.regs.r8 in
      let u : KernelState = now t h.memory in
      let enough = h.within in
      record {
        leave = λ eq. (
          λ ne.
              let p = done_bad a n stop flag k x span h.cursor (eq ∙ h.r11) (λ z. ne (h.r10 ∙ z)) in
              let f = first_of h.bytes (omega (arith, h.count, p.some)) in
              let l = behind_unwritten stay u x (f.byte % 2 ^ 8) (λ v. store_bytes f.rest v (following x) (done a)) p.user (behind_is stay _ _ (ap (λ bs. store_bytes bs u x (done a)) f.is) h.left) in
              passed GETS_LOOP again stay few _ _ refl h.quiet (l.enough _ _ (refuses_now u few _ (bad_pointer u x) refl h.holds (omega arith))),
          λ z.
              let none = none_of h.bytes (h.count ∙ done_all a n stop flag k x span h.cursor (eq ∙ h.r11) (sym h.r10 ∙ z)) in
              let l = behind_is stay _ (answered u a) (ap (λ bs. store_bytes bs u x (done a)) none) h.left in
              passed GETS_LOOP again stay few _ _ refl h.quiet (l.enough _ _ (answers_now u few _ (answered u a) (ap (answered u) (sym h.r4)) h.holds (omega arith))),
        );
        again = λ ne.
            let g = coming a n stop flag k x span h.cursor (λ q. ne (q ∙ sym h.r11)) in
            let f = first_of h.bytes (omega (arith, h.count, g.some)) in
            let b = line_byte h.from (omega (arith, h.low, g.some)) in
            let same : byte e.bytes (0xE900 + h.from) ≡ f.byte = (let z : 0xE900 + (h.from + 0) ≡ 0xE900 + h.from = omega arith in sym (ap (byte e.bytes) z) ∙ h.there 0
            (omega (arith, h.count, g.some)) ∙ ap (λ bs. slice_index bs 0) f.is) in
            let v : ℕ = f.byte % 2 ^ 8 in
            let l = behind_written stay u x v (λ w. store_bytes f.rest w (following x) (done a)) g.user (behind_is stay _ _ (ap (λ bs. store_bytes bs u x (done a)) f.is) h.left) in
            let kept : Valid u = valid_moved t h.memory t.random t.running valid valid.running in
            let short : suc (length f.rest) ≡ k = sym (ap length f.is) ∙ h.count in
            rw (h.r16, b.here, b.sort, b.place, same, g.here, g.sort) (
              k - 1,
              g.less,
              record {
                memory = put_byte h.memory (place x) v;
                bytes = f.rest;
                count = omega (arith, short);
                from = h.from + 1;
                low = omega (arith, h.low, g.some);
                there = λ j lt.
                    let i : 0xE900 + (h.from + 1 + j) ≡ 0xE900 + (h.from + suc j) = omega arith in
                    ap (byte (put_byte e.bytes (place x) v)) i ∙ line_past_user e.bytes x v (h.from + suc j) g.user (omega (arith, h.low, lt, short)) ∙ h.there (suc j)
                    (omega (arith, h.count, lt, short)) ∙ ap (λ bs. slice_index bs (suc j)) f.is;
                left = l;
                holds = holds_byte u kept e.bytes h.holds x v g.user;
                within = omega (arith, enough, g.some);
                quiet = h.quiet;
                r4 = h.r4;
                r10 = h.r10;
                r11 = h.r11;
                r16 = omega (arith, h.low, g.some);
                cursor = g.next;
              },
            );
      }

  -- from where the loop is reached
  stores : (bytes : List ℕ) (e : Run) → length bytes ≡ n → n ≤ 0x100 → 8 * n + 200 ≤ few → Behind stay (store_bytes bytes t e.regs.r8 (done a)) few → Holds t e.bytes
      → LineAt (byte e.bytes) bytes → e.steps ≤ 100 → ports e.seen ≡ []
      → e.regs.r8 ≡ a → e.regs.r4 ≡ a → e.regs.r10 ≡ flag → e.regs.r11 ≡ stop → e.regs.r16 ≡ 0x8000E900 → FromLoop C (tree LOOP_NODES) G e
  stores bytes e count low enough l holds there early quiet r8 r4 r10 r11 r16 =
      looped C know.fair (tree LOOP_NODES) G Inv turn n e record {
        memory = t.memory;
        bytes = bytes;
        count = count;
        from = 0;
        low = omega (arith, low);
        there = λ j lt. (let z : 0xE900 + (0 + j) ≡ 0xE900 + j = omega arith in ap (byte e.bytes) z ∙ there j lt);
        left = l;
        holds = holds;
        within = omega (arith, enough, early);
        quiet = quiet;
        r4 = r4;
        r10 = r10;
        r11 = r11;
        r16 = r16;
        cursor = starting a n stop flag e.regs.r8 span r8;
      }

-- ---- a line that has ended

-- these bytes are to be written from the pointer on, and stand in the line
pub record Ready (rest : Stay) (t : KernelState) (a few n : ℕ) (bytes : List ℕ) (m : Memory) : Type 0 where
  left : Behind rest (store_bytes bytes t a (done a)) few
  holds : Holds t m
  there : LineAt (byte m) bytes
  count : length bytes ≡ n
  most : n ≤ 0x100
  enough : 8 * n + 200 ≤ few

module _ (C : Calls) (know : KnowsRoom ROOM C) (again : List Access → Stay → Goal) (stay : Stay) (few : ℕ) (t : KernelState) (valid : Valid t) (a n : ℕ) (small : a < 2 ^ 32) (bytes : List ℕ) where
  -- there is room for all of them, or there isn't
  pub gives_all : (e : Run) (flag : ℕ) → Ready stay t a few n bytes e.bytes → flag ≡ 0 → n ≤ room a → e.steps ≤ 100 → ports e.seen ≡ [] → e.regs.r8 ≡ a → e.regs.r4 ≡ a → e.regs.r10 ≡ flag
      → e.regs.r11 ≡ (a + n) % 2 ^ 32 → e.regs.r16 ≡ 0x8000E900
      → FromLoop C (tree LOOP_NODES) (λ to f. Passes GETS_LOOP again stay few to f) e
  gives_all e flag r z le early quiet r8 r4 r10 r11 r16 =
      stores C know again stay few t valid a n ((a + n) % 2 ^ 32) flag (span_all a n flag small z le) bytes e r.count r.most r.enough
      (subst (λ y. Behind stay (store_bytes bytes t y (done a)) few) (sym r8) r.left) r.holds r.there early quiet r8 r4 r10 r11 r16

  pub gives_some : (e : Run) (flag : ℕ) → Ready stay t a few n bytes e.bytes → (flag ≡ 0 → ⊥) → room a < n → e.steps ≤ 100 → ports e.seen ≡ [] → e.regs.r8 ≡ a → e.regs.r4 ≡ a
      → e.regs.r10 ≡ flag → e.regs.r11 ≡ (a + room a) % 2 ^ 32 → e.regs.r16 ≡ 0x8000E900
      → FromLoop C (tree LOOP_NODES) (λ to f. Passes GETS_LOOP again stay few to f) e
  gives_some e flag r ne lt early quiet r8 r4 r10 r11 r16 =
      stores C know again stay few t valid a n ((a + room a) % 2 ^ 32) flag (span_some a n flag small ne lt) bytes e r.count r.most r.enough
      (subst (λ y. Behind stay (store_bytes bytes t y (done a)) few) (sym r8) r.left) r.holds r.there early quiet r8 r4 r10 r11 r16

-- ---- behind a byte that came, the memory

module _ (s : KernelState) (valid : Valid s) (line : List ℕ) (b few : ℕ) (low : b < 2 ^ 8) (m : Memory) (holds : Holds (with_line s line) m) (short : length line ≤ 254) where
  abbrev pub a : ℕ
  a = (registers_of s).r4

  abbrev pub size : ℕ
  size = length line

  abbrev pub behind : Memory
  behind = put_byte m (0xE900 + size) (b % 2 ^ 8)

  abbrev pub longer_line : List ℕ
  longer_line = line ++ b ∷ []

  is_valid : Valid (with_line s line)
  is_valid = valid_lined s line valid short

  held : Holds (with_line s line) behind
  held = holds_behind_line (with_line s line) is_valid m holds size (b % 2 ^ 8) (omega arith) (omega arith)

  grows : LineAt (byte behind) longer_line
  grows = let same : b % 2 ^ 8 ≡ b = omega (arith, low) in subst (λ y. LineAt (byte behind) (line ++ y ∷ [])) same (line_longer m line (b % 2 ^ 8) (omega arith) holds.reads.line)

  -- it ends by the byte
  pub ready : (rest : Stay) → 2304 ≤ few → rest ≡ gives_line (with_line s line) line
      → Ready rest (with_line s []) a few (size + 1) (line ++ 0 ∷ []) (put_word (put_byte behind (0xE900 + size) 0) 0xEA20 0)
  ready rest enough is =
      let n : Memory = put_byte behind (0xE900 + size) 0 in
      let long : length (line ++ 0 ∷ []) ≡ size + 1 = length_push line 0 in
      let t : Holds (with_line s line) n = holds_behind_line (with_line s line) is_valid behind held size 0 (omega arith) (omega arith) in
      record {
        left = behind_is rest _ _ is (behind_all rest);
        holds = holds_line (with_line s line) is_valid n t [] (omega arith) (λ j lt. absurd (omega (arith, lt)));
        there = line_past_word n (line ++ 0 ∷ []) 0 (omega (arith, long)) (line_longer behind line 0 (omega arith) held.reads.line);
        count = long;
        most = omega arith;
        enough = omega arith;
      }

  -- it ends since it is full
  pub ready_full : (rest : Stay) → 2304 ≤ few → rest ≡ gives_line (with_line s longer_line) longer_line
      → Ready rest (with_line s []) a few (size + 2) (longer_line ++ 0 ∷ []) (put_word (put_byte behind (0xE900 + length longer_line) 0) 0xEA20 0)
  ready_full rest enough is =
      let one : length longer_line ≡ size + 1 = length_push line b in
      let n : Memory = put_byte behind (0xE900 + length longer_line) 0 in
      let long : length (longer_line ++ 0 ∷ []) ≡ length longer_line + 1 = length_push longer_line 0 in
      let t : Holds (with_line s line) n = holds_behind_line (with_line s line) is_valid behind held (length longer_line) 0 (omega (arith, one)) (omega (arith, one)) in
      record {
        left = behind_is rest _ _ is (behind_all rest);
        holds = holds_line (with_line s line) is_valid n t [] (omega arith) (λ j lt. absurd (omega (arith, lt)));
        there = line_past_word n (longer_line ++ 0 ∷ []) 0 (omega (arith, long, one)) (line_longer behind longer_line 0 (omega (arith, one)) grows);
        count = omega (arith, long, one);
        most = omega arith;
        enough = omega arith;
      }

  -- it goes on
  pub goes : Holds (with_line s longer_line) (put_word behind 0xEA20 (size + 1))
  goes =
      let one : length longer_line ≡ size + 1 = length_push line b in
      subst (λ n. Holds (with_line s longer_line) (put_word behind 0xEA20 n)) one (holds_line (with_line s line) is_valid behind held longer_line (omega (arith, one)) grows)
