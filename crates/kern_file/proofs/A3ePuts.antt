-- puts meets its stay.
use Rattle.psx_flow.proofs.Kit.{◌≡◌, ℕ, suc, ◌+◌, ◌-◌, ◌*◌, ◌%◌, ◌^◌, ◌<◌, ◌≤◌, ◌++◌, refl, sym, ap, ◌∙◌, arith, byte, Run, Goal, Calls, calls, Access, place, kernel_words, start}
use Rattle.std.proofs.Common.{zero, List, eq-eqb, ne_eqb}
use Rattle.std.specs.Prelude.{nat_eq, if◌then◌else◌}
use Rattle.psx_base.specs.KernelState.{KernelState}
use Rattle.abs_kernel.specs.Stay.{Stay, Write, Touch}
use Rattle.abs_kernel.specs.Answered.{registers_of, answered}
use Rattle.abs_kernel.specs.UserBytes.{reads_byte, bad_pointer, following, longest}
use Rattle.abs_kernel.specs.Puts.{write_text, puts}
use Rattle.abs_kernel.specs.declared.calls.CallId.TheVariants.{A3E}
use Rattle.abs_kernel.specs.Calls.{call}
use Rattle.kern_stay.specs.Room.{room}
use Rattle.kern_stay.specs.Shared.{tree, tested_there}
use Rattle.kern_stay.specs.Doors.{Holds, called_with, begun, most_steps}
use Rattle.kern_stay.specs.Loops.{Passes, Repeats, ServesBy, units, earned}
use Rattle.kern_stay.proofs.RoomGiven.{KnowsRoom, knows_room}
use Rattle.kern_stay.proofs.RoomLeft.{Span, span_some, room_few}
use Rattle.kern_stay.proofs.Ending.{user_byte}
use Rattle.kern_stay.proofs.Passing.{passed, answers_now, answers_last, refuses_last, enters, printed}
use Rattle.kern_stay.proofs.Looping.{starting}
use Rattle.kern_stay.proofs.Cursor.{Cursor, coming, done_bad, null, not_null}
use Rattle.kern_file.specs.Own.{own}
use Rattle.kern_file.specs.declared.places.TheConstants.{PUTS, PUTS_LOOP, ROOM}
use Rattle.kern_file.specs.declared.a3e_puts.TheConstants.{NODES, LOOP_NODES}

text_more : (n : ℕ) (s : KernelState) (at : ℕ) → 0 < n → write_text n s at ≡ reads_byte s at (λ b. if nat_eq b 0 then answered s 0 else Write (b % 2 ^ 8) (write_text (n - 1) s (following at)))
text_more zero s at h = absurd (omega arith)
text_more (suc n) s at h = let e : suc n - 1 ≡ n = omega arith in ap (λ j. reads_byte s at (λ b. if nat_eq b 0 then answered s 0 else Write (b % 2 ^ 8) (write_text j s (following at)))) (sym e)

-- at the loop's head, with k bytes to come
record Head (s : KernelState) (a n stop k : ℕ) (rest : Stay) (e : Run) : Type 0 where
  fuel : ℕ
  some : k ≤ fuel
  is : rest ≡ write_text fuel s e.regs.r8
  holds : Holds s e.bytes
  r11 : e.regs.r11 ≡ stop
  r26 : e.regs.r26 ≡ 0x1F800000
  cursor : Cursor a n stop k e.regs.r8

module _ (s : KernelState) (a n stop : ℕ) (span : Span a n stop 1) (most : ℕ) (enough : 64 ≤ most) where
  -- where a turn comes back to
  abbrev again : ℕ → Stay → List Access → Stay → Goal
  again m rest told r g = (g.steps ≤ 64) × (64 ≤ 128 * earned rest told) × Repeats own most PUTS_LOOP (tree LOOP_NODES) m r g

  repeats : (m k : ℕ) (rest : Stay) (e : Run) → k < m → Head s a n stop k rest e → Repeats own most PUTS_LOOP (tree LOOP_NODES) m rest e
  repeats zero k rest e lt h = absurd (omega arith)
  repeats (suc m) k rest e lt h =
      let C : Calls = calls kernel_words (own ++ tested_there) in
      let know : KnowsRoom ROOM C = knows_room ROOM tested_there in
      let x : ℕ = e.regs.r8 in
      let v : ℕ = byte s.memory (place x) in
      let on : Stay = write_text (h.fuel - 1) s (following x) in
      let next : ℕ → Stay = λ b. if nat_eq b 0 then answered s 0 else Write (b % 2 ^ 8) on in (
        64,
        enough,
        start C know.fair (tree LOOP_NODES) PUTS_LOOP (λ _. ⊥) (λ to f. Passes PUTS_LOOP (again m rest) rest 64 to f) (begun e.regs e.cop0 e.bytes) (
          λ eq.
              let b = done_bad a n stop 1 k x span h.cursor (eq ∙ h.r11) (λ z. absurd (omega (arith, z))) in
              let is : rest ≡ Touch 1 (bad_pointer s x) = h.is ∙ text_more h.fuel s x (omega (arith, b.some, h.some)) ∙ ap (λ y. Touch 1 (if y then next v else bad_pointer s x)) b.user in
              passed PUTS_LOOP (again m rest) rest 64 _ _ refl refl (refuses_last s 1 64 _ rest is h.holds (omega arith)),
          λ ne.
              let g = coming a n stop 1 k x span h.cursor (λ q. ne (q ∙ sym h.r11)) in
              let same : byte e.bytes (place x) ≡ v = user_byte s e.bytes h.holds x g.user in
              let read : rest ≡ Touch 1 (next v) = h.is ∙ text_more h.fuel s x (omega (arith, g.some, h.some)) ∙ ap (λ y. Touch 1 (if y then next v else bad_pointer s x)) g.user in
              rw (g.here, g.sort, h.r26) (
                λ z.
                    let is : rest ≡ Touch 1 (answered s 0) = read ∙ ap (λ y. Touch 1 (if y then answered s 0 else Write (v % 2 ^ 8) on)) (eq-eqb v 0 (sym same ∙ z)) in
                    passed PUTS_LOOP (again m rest) rest 64 _ _ refl refl (answers_last s 1 64 _ rest is h.holds (omega arith)),
                λ nz.
                    let is : rest ≡ Touch 1 (Write (v % 2 ^ 8) on) = read ∙ ap (λ y. Touch 1 (if y then answered s 0 else Write (v % 2 ^ 8) on)) (ne_eqb v 0 (λ q. nz (same ∙ q))) in
                    let earns : units rest ≡ 2 = ap units is in
                    printed PUTS_LOOP (again m rest) rest on 1 (v % 2 ^ 8) (byte e.bytes (place x)) 64 _ refl is refl (ap (λ y. y % 2 ^ 8) same) (
                      omega arith,
                      omega (arith, earns),
                      repeats m (k - 1) on _ (omega (arith, lt, g.some))
                          (record { fuel = h.fuel - 1; some = omega (arith, h.some); is = refl; holds = h.holds; r11 = h.r11; r26 = refl; cursor = g.next }),
                    ),
              ),
        ),
      )

  -- from where the loop is reached
  starts : (rest : Stay) (e : Run) → n ≤ longest → rest ≡ write_text longest s e.regs.r8 → Holds s e.bytes → e.regs.r8 ≡ a → e.regs.r11 ≡ stop → e.regs.r26 ≡ 0x1F800000
      → (m : ℕ) × Repeats own most PUTS_LOOP (tree LOOP_NODES) m rest e
  starts rest e some is holds r8 r11 r26 =
      (suc n, repeats (suc n) n rest e (omega arith) (record { fuel = longest; some = some; is = is; holds = holds; r11 = r11; r26 = r26; cursor = starting a n stop 1 e.regs.r8 span r8 }))

room_short : (a : ℕ) → room a + 1 ≤ longest
unfolding longest
room_short a = let h = room_few a in omega (arith, h)

pub serves : ServesBy own most_steps (call A3E) PUTS (tree NODES) PUTS_LOOP (tree LOOP_NODES)
serves s d z m h =
    let C : Calls = calls kernel_words (own ++ tested_there) in
    let know : KnowsRoom ROOM C = knows_room ROOM tested_there in
    let a : ℕ = (registers_of s).r4 in
    let small : a < 2 ^ 32 = h.words 4 in
    let n : ℕ = room a + 1 in
    let sp = span_some a n 1 small (λ e. absurd (omega (arith, e))) (omega arith) in
    let few : n ≤ longest = room_short a in
    let first : List Access → Stay → Goal = λ told rest g. (g.steps ≤ most_steps) × ((j : ℕ) × Repeats own (most_steps - g.steps) PUTS_LOOP (tree LOOP_NODES) j rest g) in
    start C know.fair (tree NODES) PUTS (λ _. ⊥) (λ to e. Passes PUTS_LOOP first (puts s) most_steps to e) (begun (called_with (registers_of s) d) z m) (
      λ none. passed PUTS_LOOP first (puts s) most_steps _ _ refl refl (answers_now s most_steps _ (puts s) (null a (answered s 0) (write_text longest s a) none) h.holds (omega arith)),
      λ some.
          know.room _ _ _ _ _ _ _ small (λ x y p up. enters PUTS_LOOP first (puts s) most_steps _ refl refl (
            omega arith,
            starts s a n ((a + room a) % 2 ^ 32) sp _ (omega arith) (puts s) _ few (not_null a (answered s 0) (write_text longest s a) some) h.holds refl refl refl,
          )),
    )
