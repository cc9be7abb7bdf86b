-- gets meets its stay.
use Rattle.psx_flow.proofs.Kit.{◌≡◌, ℕ, suc, ◌+◌, ◌-◌, ◌*◌, ◌%◌, ◌^◌, ◌<◌, ◌≤◌, ◌++◌, refl, sym, ap, ◌∙◌, subst, arith, List, [], ◌∷◌, length, word, Run, Goal, Calls, calls, Access, kernel_words, start}
use Rattle.std.proofs.Common.{zero, true, false, Bool, eq-eqb, ne_eqb}
use Rattle.std.specs.Prelude.{nat_eq, ◌||◌, if◌then◌else◌}
use Rattle.std.proofs.lemmas.List.{length_push}
use Rattle.psx_base.specs.KernelState.{KernelState}
use Rattle.kern_layout.specs.Valid.{Valid}
use Rattle.abs_kernel.proofs.Lined.{valid_lined}
use Rattle.abs_kernel.specs.Stay.{Stay}
use Rattle.abs_kernel.specs.Answered.{registers_of, answered, waits}
use Rattle.abs_kernel.specs.ConsoleBytes.{takes_byte}
use Rattle.abs_kernel.specs.Gets.{with_line, gives_line, ends_line, gather_line, gets}
use Rattle.abs_kernel.specs.declared.calls.CallId.TheVariants.{A3D}
use Rattle.abs_kernel.specs.Calls.{call}
use Rattle.kern_stay.specs.Room.{room}
use Rattle.kern_stay.specs.Shared.{tree, tested_there}
use Rattle.kern_stay.specs.Doors.{Holds, called_with, begun, most_steps}
use Rattle.kern_stay.specs.Loops.{Passes, Repeats, ServesBy, earned}
use Rattle.kern_stay.proofs.RoomGiven.{KnowsRoom, knows_room, true_then, false_then}
use Rattle.kern_stay.proofs.Ending.{low_byte}
use Rattle.kern_stay.proofs.Passing.{passed, answers_now}
use Rattle.kern_stay.proofs.Cursor.{null, not_null}
use Rattle.kern_stay.proofs.Asking.{begins_is, none_due, one_due, waits_now, passed_ports, turned}
use Rattle.kern_stay.proofs.LineHolding.{LineByte, line_byte}
use Rattle.kern_file.specs.Own.{own}
use Rattle.kern_file.specs.declared.places.TheConstants.{GETS, GETS_LOOP, ROOM}
use Rattle.kern_file.specs.declared.a3d_gets.TheConstants.{NODES, LOOP_NODES}
use Rattle.kern_file.proofs.GetsStored.{gives_all, gives_some, ready, ready_full, goes}

-- ---- a turn

-- what is left behind a byte that came, where the line has room for n more behind it
abbrev grown : (n : ℕ) → KernelState → (b : ℕ) → Stay
grown n t b = if ends_line b then gives_line t t.line else gather_line n (with_line t (t.line ++ b ∷ []))

gather_more : (n : ℕ) (t : KernelState) → 0 < n → gather_line n t ≡ takes_byte (waits t) (grown (n - 1) t)
gather_more zero t h = absurd (omega arith)
gather_more (suc n) t h = let e : suc n - 1 ≡ n = omega arith in ap (λ k. takes_byte (waits t) (grown k t)) (sym e)

-- how many steps a turn may make: one that ends the line writes it
abbrev few_if : Bool → ℕ
few_if b = if b then 2304 else 64

abbrev few_of : (b size : ℕ) → ℕ
few_of b size = few_if (ends_line b || nat_eq size 254)

few_most : (b : Bool) → few_if b ≤ 2304
few_most true = omega arith
few_most false = omega arith

no_end : (b : ℕ) → (b ≡ 0x0A → ⊥) → (b ≡ 0x0D → ⊥) → ends_line b ≡ false
no_end b x y = λ i. ne_eqb b 0x0A x i || ne_eqb b 0x0D y i

few_going : (b size : ℕ) → ends_line b ≡ false → (size ≡ 254 → ⊥) → few_of b size ≡ 64
few_going b size e ne = λ i. few_if (e i || ne_eqb size 254 ne i)

few_full : (b size : ℕ) → ends_line b ≡ false → size ≡ 254 → few_of b size ≡ 2304
few_full b size e f = λ i. few_if (e i || eq-eqb size 254 f i)

few_ended : (b size : ℕ) → ends_line b ≡ true → few_of b size ≡ 2304
few_ended b size e = ap (λ c. few_if (c || nat_eq size 254)) e

-- at the loop's head, where a byte has come, with room for k more
record Head (s : KernelState) (a k : ℕ) (rest : Stay) (e : Run) : Type 0 where
  line : List ℕ
  fits : length line + k ≡ 254
  is : rest ≡ grown k (with_line s line) e.regs.r12
  low : e.regs.r12 < 2 ^ 8
  holds : Holds (with_line s line) e.bytes
  r4 : e.regs.r4 ≡ a
  r13 : e.regs.r13 ≡ length line
  r14 : e.regs.r14 ≡ 0x8000E900 + length line
  r26 : e.regs.r26 ≡ 0x1F800000
  r27 : e.regs.r27 ≡ 0x80010000

module _ (s : KernelState) (valid : Valid s) (out : s.running.context.in_slot ≡ false) (small : (registers_of s).r4 < 2 ^ 32) (most : ℕ) (enough : 2304 ≤ most) where
  abbrev p : ℕ
  p = (registers_of s).r4

  -- where a turn comes back to
  abbrev onward : (few m : ℕ) → Stay → List Access → Stay → Goal
  onward few m rest told r g = (g.steps ≤ few) × (few ≤ 128 * earned rest told) × Repeats own most GETS_LOOP (tree LOOP_NODES) m r g

  repeats : (m k : ℕ) (rest : Stay) (e : Run) → k < m → Head s p k rest e → Repeats own most GETS_LOOP (tree LOOP_NODES) m rest e
  repeats zero k rest e lt h = absurd (omega arith)
  repeats (suc m) k rest e lt h =
      let C : Calls = calls kernel_words (own ++ tested_there) in
      let know : KnowsRoom ROOM C = knows_room ROOM tested_there in
      let b : ℕ = e.regs.r12 in
      let size : ℕ = length h.line in
      let fits : size + k ≡ 254 = h.fits in
      let short : size ≤ 254 = omega (arith, fits) in
      let few : ℕ = few_of b size in
      let limit = few_most (ends_line b || nat_eq size 254) in
      let line : List ℕ = h.line ++ b ∷ [] in
      let one : length line ≡ size + 1 = length_push h.line b in
      let t : KernelState = with_line s line in
      let here = subst (λ a. LineByte a size) (sym h.r14) (line_byte size (omega (arith, fits))) in
      let longer : (e.regs.r13 + 1) % 2 ^ 32 ≡ size + 1 = ap (λ n. (n + 1) % 2 ^ 32) h.r13 ∙ omega (arith, fits) in
      let after : (e.regs.r14 + 1) % 2 ^ 32 ≡ 0x8000E900 + length line = ap (λ n. (n + 1) % 2 ^ 32) h.r14 ∙ omega (arith, fits, one) in
      let again : List Access → Stay → Goal = onward few m rest in
      let shut : ends_line b ≡ true → rest ≡ gives_line (with_line s h.line) h.line = λ q. h.is ∙ ap (λ y. if y then gives_line (with_line s h.line) h.line else gather_line k t) q in
      let goes_on : ends_line b ≡ false → rest ≡ gather_line k t = λ q. h.is ∙ ap (λ y. if y then gives_line (with_line s h.line) h.line else gather_line k t) q in (
        few,
        omega (arith, limit),
        start C know.fair (tree LOOP_NODES) GETS_LOOP (λ _. ⊥) (λ to f. Passes GETS_LOOP again rest few to f) (begun e.regs e.cop0 e.bytes) (rw here.here (rw here.sort (rw here.place (
          λ ne. (
            λ nd. (
              λ more.
                  let last : size ≡ 254 → ⊥ = λ q. more (longer ∙ omega (arith, q)) in
                  let steps = few_going b size (no_end b ne nd) last in
                  let on = goes_on (no_end b ne nd) ∙ gather_more k t (omega (arith, fits, last)) in
                  rw (h.r26, h.r27, longer) (λ v vs. (
                    λ none. passed_ports GETS_LOOP again rest (waits t) _ 1 few _ _ refl refl (begins_is rest _ _ _ 1 on (none_due (waits t) (grown (k - 1) t) v none))
                        (waits_now t few _ (waits t) refl out (goes s valid h.line b few h.low e.bytes h.holds short) (omega (arith, steps))),
                    λ some x xs.
                        let begin = begins_is rest _ _ _ 2 on (one_due (waits t) (grown (k - 1) t) v x some) in
                        turned GETS_LOOP again rest (grown (k - 1) t (x % 2 ^ 8)) _ 2 few _ refl refl begin (
                          omega (arith, steps),
                          (let earns = begin.earns in omega (arith, steps, earns)),
                          repeats m (k - 1) _ _ (omega (arith, lt, fits, last)) (record {
                            line = line;
                            fits = omega (arith, fits, one, last);
                            is = ap (grown (k - 1) t) (sym (low_byte x));
                            low = omega arith;
                            holds = goes s valid h.line b few h.low e.bytes h.holds short;
                            r4 = h.r4;
                            r13 = sym one;
                            r14 = after;
                            r26 = refl;
                            r27 = refl;
                          }),
                        ),
                  )),
              λ is.
                  let last : size ≡ 254 = (let l = sym longer ∙ is in omega (arith, l)) in
                  let w = goes_on (no_end b ne nd) ∙ ap (λ n. gather_line n t) (let z : k ≡ 0 = omega (arith, fits, last) in z) in
                  let steps = few_full b size (no_end b ne nd) last in
                  let next = subst (λ a. LineByte a (length line)) (sym after) (line_byte (length line) (omega (arith, fits, one))) in
                  let full : ((e.regs.r13 + 1) % 2 ^ 32 + 1) % 2 ^ 32 ≡ size + 2 = ap (λ n. (n + 1) % 2 ^ 32) longer ∙ omega (arith, fits) in
                  let r = ready_full s valid h.line b few h.low e.bytes h.holds short rest (omega (arith, steps)) w in
                  rw (next.here, next.sort, next.place) (rw (h.r4, h.r27, full) (know.room _ _ _ _ _ _ _ small (λ x y n up. (
                    λ q. gives_all C know again rest few (with_line s []) (valid_lined s [] valid (omega arith)) p (size + 2) small (line ++ 0 ∷ []) _ _ r q
                        (false_then (room p) (size + 2) q) (omega arith) refl refl refl refl refl refl,
                    λ z. gives_some C know again rest few (with_line s []) (valid_lined s [] valid (omega arith)) p (size + 2) small (line ++ 0 ∷ []) _ _ r z
                        (true_then (room p) (size + 2) z) (omega arith) refl refl refl refl refl refl,
                  )))),
            ),
            λ is.
                let r = ready s valid h.line b few h.low e.bytes h.holds short rest (let steps = few_ended b size (ap ends_line is) in omega (arith, steps)) (shut (ap ends_line is)) in
                rw (here.here, here.sort, here.place) (rw (h.r4, h.r27, longer) (know.room _ _ _ _ _ _ _ small (λ x y n up. (
                  λ q. gives_all C know again rest few (with_line s []) (valid_lined s [] valid (omega arith)) p (size + 1) small (h.line ++ 0 ∷ []) _ _ r q
                      (false_then (room p) (size + 1) q) (omega arith) refl refl refl refl refl refl,
                  λ z. gives_some C know again rest few (with_line s []) (valid_lined s [] valid (omega arith)) p (size + 1) small (h.line ++ 0 ∷ []) _ _ r z
                      (true_then (room p) (size + 1) z) (omega arith) refl refl refl refl refl refl,
                )))),
          ),
          λ is.
              let r = ready s valid h.line b few h.low e.bytes h.holds short rest (let steps = few_ended b size (ap ends_line is) in omega (arith, steps)) (shut (ap ends_line is)) in
              rw (here.here, here.sort, here.place) (rw (h.r4, h.r27, longer) (know.room _ _ _ _ _ _ _ small (λ x y n up. (
                λ q. gives_all C know again rest few (with_line s []) (valid_lined s [] valid (omega arith)) p (size + 1) small (h.line ++ 0 ∷ []) _ _ r q
                    (false_then (room p) (size + 1) q) (omega arith) refl refl refl refl refl refl,
                λ z. gives_some C know again rest few (with_line s []) (valid_lined s [] valid (omega arith)) p (size + 1) small (h.line ++ 0 ∷ []) _ _ r z
                    (true_then (room p) (size + 1) z) (omega arith) refl refl refl refl refl refl,
              )))),
        )))),
      )

  -- from where the loop is reached
  starts : (rest : Stay) (e : Run) → rest ≡ grown (254 - length s.line) s e.regs.r12 → e.regs.r12 < 2 ^ 8 → Holds s e.bytes → e.regs.r4 ≡ p → e.regs.r13 ≡ length s.line
      → e.regs.r14 ≡ 0x8000E900 + length s.line → e.regs.r26 ≡ 0x1F800000 → e.regs.r27 ≡ 0x80010000
      → (m : ℕ) × Repeats own most GETS_LOOP (tree LOOP_NODES) m rest e
  starts rest e is low holds r4 r13 r14 r26 r27 =
      let n : ℕ = 254 - length s.line in
      let few : length s.line ≤ 254 = valid.line in
      (suc n, repeats (suc n) n rest e (omega arith) (record { line = s.line; fits = omega (arith, few); is = is; low = low; holds = holds; r4 = r4; r13 = r13; r14 = r14; r26 = r26; r27 = r27 }))

pub serves : ServesBy own most_steps (call A3D) GETS (tree NODES) GETS_LOOP (tree LOOP_NODES)
serves s d z m h =
    let C : Calls = calls kernel_words (own ++ tested_there) in
    let know : KnowsRoom ROOM C = knows_room ROOM tested_there in
    let a : ℕ = (registers_of s).r4 in
    let n : ℕ = 254 - length s.line in
    let few : length s.line ≤ 254 = h.valid.line in
    let count : word m 0xEA20 ≡ length s.line = h.holds.reads.variables.1.1.1.1.1.1.1.1.0 in
    let stay : Stay = gather_line (255 - length s.line) s in
    let first : List Access → Stay → Goal = λ told rest g. (g.steps ≤ most_steps) × ((j : ℕ) × Repeats own (most_steps - g.steps) GETS_LOOP (tree LOOP_NODES) j rest g) in
    start C know.fair (tree NODES) GETS (λ _. ⊥) (λ to e. Passes GETS_LOOP first (gets s) most_steps to e) (begun (called_with (registers_of s) d) z m) (
      λ none. passed GETS_LOOP first (gets s) most_steps _ _ refl refl (answers_now s most_steps _ (gets s) (null a (answered s 0) stay none) h.holds (omega arith)),
      λ some.
          let e : 255 - length s.line - 1 ≡ n = omega arith in
          let is : gets s ≡ takes_byte (waits s) (grown n s) = not_null a (answered s 0) stay some ∙ gather_more (255 - length s.line) s (omega (arith, few)) ∙ ap
          (λ k. takes_byte (waits s) (grown k s)) e in
          rw count (λ v vs. (
            λ zero. passed_ports GETS_LOOP first (gets s) (waits s) _ 1 most_steps _ _ refl refl (begins_is (gets s) _ _ _ 1 is (none_due (waits s) (grown n s) v zero))
                (waits_now s most_steps _ (waits s) refl h.out h.holds (omega arith)),
            λ due x xs. turned GETS_LOOP first (gets s) (grown n s (x % 2 ^ 8)) _ 2 most_steps _ refl refl (begins_is (gets s) _ _ _ 2 is (one_due (waits s) (grown n s) v x due)) (
              omega arith,
              starts s h.valid h.out (h.words 4) _ (omega arith) (grown n s (x % 2 ^ 8)) _ (ap (grown n s) (sym (low_byte x))) (omega arith) h.holds refl refl (omega (arith, few)) refl refl,
            ),
          )),
    )
