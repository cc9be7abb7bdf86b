-- memmove meets its stay.
use Rattle.psx_flow.proofs.Kit.{◌≡◌, ℕ, ◌+◌, ◌-◌, ◌*◌, ◌%◌, ◌^◌, ◌<◌, ◌≤◌, ◌++◌, refl, sym, ap, ◌∙◌, subst, arith, ⊎_elim, Memory, byte, put_byte, Run, Goal, Calls, calls, place, user, kernel_words, start}
use Rattle.std.proofs.Common.{[], true}
use Rattle.std.proofs.lemmas.Bool.{cases_lt}
use Rattle.psx_base.specs.KernelState.{KernelState}
use Rattle.psx_flow.specs.Told.{ports}
use Rattle.psx_flow.proofs.Users.{sort_user}
use Rattle.psx_ram.proofs.Bytes.{put_bytes-nil}
use Rattle.kern_layout.specs.Valid.{Valid}
use Rattle.abs_kernel.proofs.Moved.{valid_moved}
use Rattle.abs_kernel.specs.Stay.{Stay}
use Rattle.abs_kernel.specs.Answered.{registers_of, answered}
use Rattle.abs_kernel.specs.UserBytes.{bad_pointer, tests_bytes, count_of, with_byte}
use Rattle.abs_kernel.specs.Memmove.{moved, memmove}
use Rattle.abs_kernel.specs.declared.calls.CallId.TheVariants.{A2C}
use Rattle.abs_kernel.specs.Calls.{call}
use Rattle.kern_stay.specs.Room.{room}
use Rattle.kern_stay.specs.Shared.{tree, tested_there}
use Rattle.kern_stay.specs.Doors.{Holds, Through, Serves, called_with, begun, most_steps}
use Rattle.kern_stay.proofs.RoomGiven.{KnowsRoom, knows_room, true_then, false_then}
use Rattle.kern_stay.proofs.RoomLeft.{room_is_left}
use Rattle.kern_stay.proofs.Holding.{holds_byte}
use Rattle.kern_stay.proofs.Ending.{no_count, a_count, through, answers, Left, left_all, left_is, user_byte}
use Rattle.kern_stay.proofs.Looping.{Turning, FromLoop, looped, leaves, stops}
use Rattle.kern_mem.specs.Own.{own}
use Rattle.kern_mem.specs.declared.places.TheConstants.{MEMMOVE, ROOM}
use Rattle.kern_mem.specs.declared.a2c_memmove.TheConstants.{NODES}
use Rattle.kern_mem.proofs.Pointers.{null_first, null_other, not_null_both}
use Rattle.kern_stay.proofs.Tested.{Fine, fine, left_tested, left_untested}
use Rattle.kern_mem.proofs.Moving.{place_first, place_at, Course, rising, falling}

-- the state with its memory so far
abbrev now : KernelState → Memory → KernelState
now s u = record s { memory = u }

abbrev done : KernelState → (n d a : ℕ) → KernelState
done s n d a = now s (moved n s.memory (place d) (place a))

-- at the loop's head, with k bytes to come
record Head (s : KernelState) (n d a step : ℕ) (course : Course s.memory (place d) (place a) n step) (most k : ℕ) (e : Run) : Type 0 where
  holds : Holds (now s (course.memory k)) e.bytes
  few : k ≤ n
  within : e.steps + 8 * k + 20 ≤ most
  quiet : ports e.seen ≡ []
  r4 : e.regs.r4 ≡ d
  r8 : e.regs.r8 ≡ course.cursor a k
  r9 : e.regs.r9 ≡ course.cursor d k
  r10 : e.regs.r10 ≡ step
  r11 : e.regs.r11 ≡ course.cursor a 0

-- a byte that comes, at an address
record Comes (a n i x : ℕ) : Type 0 where
  good : user x ≡ true
  here : (x + 0) % 2 ^ 32 ≡ x
  at : place x ≡ place a + i

comes : (a n i x : ℕ) → Fine a n → i < n → x ≡ a + i → Comes a n i x
comes a n i x f lt e = record { good = ap user e ∙ f.good i lt; here = omega (arith, e, lt, f.within); at = ap place e ∙ place_at a n i lt f }

module _ (C : Calls) (know : KnowsRoom ROOM C) (stay : Stay) (s : KernelState) (valid : Valid s) (n d a step : ℕ)
    (fine_d : Fine d n) (fine_a : Fine a n) (course : Course s.memory (place d) (place a) n step) (most : ℕ) (left : Left most_steps stay (answered (done s n d a) d) most) where
  abbrev G : ℕ → Goal
  G to e = Through stay most_steps to e

  abbrev Inv : ℕ → Goal
  Inv k e = Head s n d a step course most k e

  turn : (k : ℕ) (e : Run) → Inv k e → Turning C (tree NODES) G Inv k e
  turn k e h =
      let x : ℕ = e.regs.r8 in
      let y : ℕ = e.regs.r9 in
      let i : ℕ = course.index k in
      let t : KernelState = now s (course.memory k) in
      let few = h.within in
      record {
        leave = λ eq.
            let z : k ≡ 0 = ⊎_elim (λ some. absurd (course.ends a k fine_a.within some h.few (sym h.r8 ∙ eq ∙ h.r11))) (λ none. omega arith) (cases_lt 0 k) in
            let all = subst (λ u. Holds (now s u) e.bytes) (ap course.memory z ∙ course.all) h.holds in
            leaves stay (answered (done s n d a) d) most (done s n d a) _ left h.quiet (ap (answered (done s n d a)) (sym h.r4)) all (omega arith);
        again = λ ne.
            let some : 0 < k = ⊎_elim (λ lt. lt) (λ none. absurd (let z : k ≡ 0 = omega arith in ne (h.r8 ∙ ap (course.cursor a) z ∙ sym h.r11))) (cases_lt 0 k) in
            let lt = course.inside k some h.few in
            let p = comes a n i x fine_a lt (h.r8 ∙ course.stands a k fine_a.within some h.few) in
            let q = comes d n i y fine_d lt (h.r9 ∙ course.stands d k fine_d.within some h.few) in
            let v : ℕ = byte s.memory (place a + i) in
            let is : byte e.bytes (place x) ≡ v = user_byte t e.bytes h.holds x p.good ∙ ap (byte (course.memory k)) p.at ∙ course.reads k some h.few in
            let kept : Valid t = valid_moved s (course.memory k) s.random s.running valid valid.running in
            let next : put_byte (course.memory k) (place y) (v % 2 ^ 8) ≡ course.memory (k - 1) = ap (λ o. put_byte (course.memory k) o (v % 2 ^ 8)) q.at ∙ course.writes k some h.few in
            let stored : Holds (now s (course.memory (k - 1))) (put_byte e.bytes (place y) (byte e.bytes (place x) % 2 ^ 8)) =
            subst (λ u. Holds (now s u) (put_byte e.bytes (place y) (byte e.bytes (place x) % 2 ^ 8))) next
            (subst (λ b. Holds (with_byte t y (v % 2 ^ 8)) (put_byte e.bytes (place y) (b % 2 ^ 8))) (sym is) (holds_byte t kept e.bytes h.holds y (v % 2 ^ 8) q.good)) in
            rw (p.here, sort_user x p.good, q.here, sort_user y q.good) (
              k - 1,
              omega (arith, some),
              record {
                holds = stored;
                few = omega (arith, h.few);
                within = omega (arith, some);
                quiet = h.quiet;
                r4 = h.r4;
                r8 = (λ j. (h.r8 j + h.r10 j) % 2 ^ 32) ∙ course.moves a k fine_a.within some h.few;
                r9 = (λ j. (h.r9 j + h.r10 j) % 2 ^ 32) ∙ course.moves d k fine_d.within some h.few;
                r10 = h.r10;
                r11 = h.r11;
              },
            );
      }

  -- from where the loop is reached
  loops : (e : Run) → course.memory n ≡ s.memory → Holds s e.bytes → e.steps + 8 * n + 20 ≤ most → ports e.seen ≡ []
      → e.regs.r4 ≡ d → e.regs.r8 ≡ course.cursor a n → e.regs.r9 ≡ course.cursor d n → e.regs.r10 ≡ step → e.regs.r11 ≡ course.cursor a 0 → FromLoop C (tree NODES) G e
  loops e none holds enough quiet r4 r8 r9 r10 r11 =
      looped C know.fair (tree NODES) G Inv turn n e
      record { holds = subst (λ u. Holds (now s u) e.bytes) (sym none) holds; few = omega arith; within = enough; quiet = quiet; r4 = r4; r8 = r8; r9 = r9; r10 = r10; r11 = r11 }

-- no byte is moved yet
moved_none : (n : ℕ) (m : Memory) (to from : ℕ) → moved (n - n) m to from ≡ m
moved_none n m to from = let e : n - n ≡ 0 = omega arith in ap (λ k. moved k m to from) e ∙ put_bytes-nil m to

-- the order of two places, by their shifted addresses
behind : (x y : ℕ) → x * 2 ^ 3 % 2 ^ 32 < y * 2 ^ 3 % 2 ^ 32 → x % 2 ^ 29 ≤ y % 2 ^ 29
behind x y h = omega arith

not_behind : (x y : ℕ) → y * 2 ^ 3 % 2 ^ 32 ≤ x * 2 ^ 3 % 2 ^ 32 → y % 2 ^ 29 ≤ x % 2 ^ 29
not_behind x y h = omega arith

-- what follows the tests
abbrev tests : KernelState → (n d a : ℕ) → Stay
tests s n d a = tests_bytes n s a (tests_bytes n s d (answered (done s n d a) d))

begins : (s : KernelState) (n : ℕ) → let r = registers_of s in (r.r4 ≡ 0 → ⊥) → (r.r5 ≡ 0 → ⊥) → count_of r.r6 ≡ n → memmove s ≡ tests s n r.r4 r.r5
begins s n nd na e = let r = registers_of s in not_null_both r.r4 r.r5 (answered s 0) (tests s (count_of r.r6) r.r4 r.r5) nd na ∙ ap (λ n. tests s n r.r4 r.r5) e

pub serves : Serves own most_steps (call A2C) MEMMOVE (tree NODES)
serves s c z m h =
    let C : Calls = calls kernel_words (own ++ tested_there) in
    let know : KnowsRoom ROOM C = knows_room ROOM tested_there in
    let d : ℕ = (registers_of s).r4 in
    let a : ℕ = (registers_of s).r5 in
    let n : ℕ = (registers_of s).r6 in
    let small_d : d < 2 ^ 32 = h.words 4 in
    let small_a : a < 2 ^ 32 = h.words 5 in
    let stay : Stay = memmove s in
    let go : Stay = tests s (count_of n) d a in
    let at_d = room_is_left d small_d in
    let at_a = room_is_left a small_a in
    start C know.fair (tree NODES) MEMMOVE (λ _. ⊥) (λ to e. Through stay most_steps to e) (begun (called_with (registers_of s) c) z m) (
      λ none. through stay most_steps _ _ refl (answers most_steps s _ stay (null_first d a (answered s 0) go none) h.holds (omega arith)),
      λ nd. (
        λ none. through stay most_steps _ _ refl (answers most_steps s _ stay (null_other d a (answered s 0) go nd none) h.holds (omega arith)),
        λ na. (
          λ few.
              let same : moved 0 s.memory (place d) (place a) ≡ s.memory = put_bytes-nil s.memory (place d) in
              through stay most_steps _ _ refl (answers most_steps s _ stay (begins s 0 nd na (no_count n few) ∙ ap (λ u. answered (now s u) d) same) h.holds (omega arith)),
          λ pos.
              let l = left_is stay _ _ most_steps (begins s n nd na (a_count n pos.1)) (left_all stay) in
              know.room _ _ _ _ _ _ _ small_a (λ x y p up_few. (
                λ ne.
                    let lt = true_then (room a) n ne in
                    let sum : (a + room a) % 2 ^ 32 ≡ a + room a = omega (arith, at_a.within) in
                    let bad = left_untested stay s n (room a) a _ most_steps lt (fine a (room a) small_a (omega arith)) at_a.bad l in
                    stops stay (bad_pointer s (a + room a)) _ s _ bad refl (ap (bad_pointer s) (sym sum)) h.holds (omega arith),
                λ le.
                    let fine_a = fine a n small_a (false_then (room a) n le) in
                    let l = left_tested stay s n a _ most_steps fine_a l in
                    know.room _ _ _ _ _ _ _ small_d (λ f g q more. (
                      λ ne.
                          let lt = true_then (room d) n ne in
                          let sum : (d + room d) % 2 ^ 32 ≡ d + room d = omega (arith, at_d.within) in
                          let bad = left_untested stay s n (room d) d _ (most_steps + 128 * n) lt (fine d (room d) small_d (omega arith)) at_d.bad l in
                          stops stay (bad_pointer s (d + room d)) _ s _ bad refl (ap (bad_pointer s) (sym sum)) h.holds (omega arith),
                      λ ge.
                          let fine_d = fine d n small_d (false_then (room d) n ge) in
                          let l = left_tested stay s n d _ (most_steps + 128 * n) fine_d l in
                          let low_d = place_first d n pos.0 fine_d in
                          let low_a = place_first a n pos.0 fine_a in (
                            λ fall.
                                let order = behind a d (true_then _ _ fall) in
                                let course = falling s.memory (place d) (place a) n (omega (arith, low_d, low_a, order)) in
                                loops C know stay s h.valid n d a 0xFFFFFFFF fine_d fine_a course _ l _ (moved_none n s.memory (place d + n) (place a + n)) h.holds
                                (omega (arith, up_few, more)) refl refl (omega arith) (omega arith) refl (omega arith),
                            λ rise.
                                let order = not_behind a d (false_then _ _ rise) in
                                let course = rising s.memory (place d) (place a) n (omega (arith, low_d, low_a, order)) in
                                loops C know stay s h.valid n d a 1 fine_d fine_a course _ l _ (moved_none n s.memory (place d) (place a)) h.holds
                                (omega (arith, up_few, more)) refl refl (omega arith) (omega arith) refl (omega (arith, fine_a.within)),
                          ),
                    )),
              )),
        ),
      ),
    )
