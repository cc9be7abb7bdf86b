-- strtol meets its stay.
use Rattle.psx_flow.proofs.Kit.{◌≡◌, ℕ, ◌+◌, ◌%◌, ◌^◌, ◌<◌, ◌≤◌, ◌++◌, List, [], true, false, refl, sym, ap, ◌∙◌, subst, arith, ⊎_elim, Memory, Registers, Cop0, Access, Goal, Calls, calls, kernel_words, start, Sym, Count, ended}
use Rattle.std.proofs.Common.{Bool, tests, rules}
use Rattle.std.specs.Prelude.{nat_lt, if◌then◌else◌}
use Rattle.std.proofs.lemmas.Bool.{cases_lt, false≢true}
use Rattle.psx_base.specs.KernelState.{KernelState}
use Rattle.psx_cpu.specs.Words.{truth}
use Rattle.psx_flow.specs.Told.{ports}
use Rattle.psx_flow.proofs.Knows.{Knows}
use Rattle.kern_layout.specs.Valid.{Valid}
use Rattle.abs_kernel.specs.Stay.{Stay}
use Rattle.abs_kernel.specs.Answered.{registers_of, answered}
use Rattle.abs_kernel.specs.UserBytes.{bad_pointer}
use Rattle.abs_kernel.specs.UserWords.{with_word, writes_word}
use Rattle.abs_kernel.specs.Strtol.{takes_prefix, tells_rest, reads_number, is_base, strtol}
use Rattle.abs_kernel.specs.declared.calls.CallId.TheVariants.{A0D}
use Rattle.abs_kernel.specs.Calls.{call}
use Rattle.kern_stay.specs.Shared.{tree, tested_there}
use Rattle.kern_stay.specs.Doors.{Holds, Through, Serves, called_with, begun, most_steps}
use Rattle.kern_stay.proofs.Accessing.{places, knows_accesses}
use Rattle.kern_stay.proofs.RoomGiven.{KnowsRoom, knows_room}
use Rattle.kern_stay.proofs.Ending.{Left, through, answers, left_all, left_is}
use Rattle.kern_stay.proofs.Looping.{leaves, stops}
use Rattle.kern_stay.proofs.Cursor.{null, not_null}
use Rattle.kern_stay.proofs.UserWords.{good_is, word_of_user, holds_word, left_word_written, left_word_unwritten}
use Rattle.kern_text.specs.NumberOwn.{number_own}
use Rattle.kern_text.specs.declared.places.TheConstants.{STRTOL, ROOM}
use Rattle.kern_text.specs.declared.a0d_strtol.TheConstants.{NODES}
use Rattle.kern_text.proofs.TextSpan.{bytes_from, end_from, text_span, text_short}
use Rattle.kern_text.proofs.NumberBytes.{one, none, yes, no}
use Rattle.kern_text.proofs.Peeking.{Peeks}
use Rattle.kern_text.proofs.NumberRead.{digits}
use Rattle.kern_text.proofs.PrefixTaken.{behind}
use Rattle.kern_text.proofs.NumberCalls.{from_blanks, passing, choosing, taking}

-- ---- the bases

abbrev base_flag : ℕ → ℕ
base_flag b = (truth (nat_lt ((b + 0xFFFFFFFE) % 2 ^ 32) 35) + truth (nat_lt b 1)) % 2 ^ 32

base_between : (b : ℕ) → 2 ≤ b → b < 37 → is_base b ≡ true
base_between b h g = search (tests, arith, rules)

no_base : (b : ℕ) → 37 ≤ b → is_base b ≡ false
no_base b h = search (tests, arith, rules)

base_is : (b : ℕ) → b < 2 ^ 32 → truth (is_base b) ≡ base_flag b
base_is b small =
    ⊎_elim (λ l. let z : b ≡ 0 = omega (arith, l) in let e : truth (is_base b) ≡ 1 = ap (λ x. truth (is_base x)) z in
    let p = none ((b + 0xFFFFFFFE) % 2 ^ 32) 35 (omega (arith, z)) in let q = one b 1 l in omega (arith, e, p, q))
    (λ g. ⊎_elim (λ l. let z : b ≡ 1 = omega (arith, l, g) in let e : truth (is_base b) ≡ 0 = ap (λ x. truth (is_base x)) z in
    let p = none ((b + 0xFFFFFFFE) % 2 ^ 32) 35 (omega (arith, z)) in let q = none b 1 g in omega (arith, e, p, q))
    (λ g. ⊎_elim (λ l. let e = ap truth (base_between b g l) in let p = one ((b + 0xFFFFFFFE) % 2 ^ 32) 35 (omega (arith, l, g)) in let q = none b 1 (omega (arith, g)) in omega (arith, e, p, q))
    (λ h. let e = ap truth (no_base b h) in let p = none ((b + 0xFFFFFFFE) % 2 ^ 32) 35 (omega (arith, h, small)) in let q = none b 1 (omega (arith, g)) in omega (arith, e, p, q))
    (cases_lt b 37)) (cases_lt b 2)) (cases_lt b 1)

-- a base is 36 or less
base_low : (b : ℕ) → is_base b ≡ true → b ≤ 36
base_low b e = ⊎_elim (λ l. omega (arith, l)) (λ h. absurd (false≢true (sym (no_base b h) ∙ e))) (cases_lt b 37)

module _ (s : KernelState) (m : Memory) (valid : Valid s) (holds : Holds s m) where
  abbrev C : Calls
  C = calls kernel_words (number_own ++ tested_there)

  abbrev stay : Stay
  stay = strtol s

  abbrev G : ℕ → Goal
  G to e = Through stay most_steps to e

  -- the rest is told
  tells : (d : Registers) (z : Cop0) (q : List Access) (p : Count) (end most : ℕ) → d.r5 ≡ end → end < 2 ^ 32 → ports q ≡ [] → Left most_steps stay (tells_rest s end d.r13 d.r2) most
      → p.steps + 100 ≤ most → Sym C (behind 8 (tree NODES)) (STRTOL + 104) (ended (λ _. ⊥)) G d z m [] q p
  tells d z q p end most is small quiet left few =
      let know : Knows places C = knows_accesses number_own refl in
      let at : ℕ = d.r5 in
      let rest : ℕ = d.r13 in
      let value : ℕ = d.r2 in
      let next : KernelState → Stay = λ t. answered t value in
      let l : Left most_steps stay (tells_rest s at rest value) most = subst (λ x. Left most_steps stay (tells_rest s x rest value) most) (sym is) left in (
        λ none. leaves stay (answered s value) most s _ (left_is stay _ _ most (null at (answered s value) (writes_word s at rest next) none) l) quiet refl holds (omega (arith, few)),
        λ some.
            let l = left_is stay _ _ most (not_null at (answered s value) (writes_word s at rest next) some) l in
            know.write_word _ _ _ _ _ _ _ (omega (arith, is, small)) record {
              good = λ g y z.
                  let u = sym (good_is at) ∙ g in (
                    λ none. absurd (omega (arith, none)),
                    λ some. leaves stay (answered (with_word s at rest) value) (most + 512) (with_word s at rest) _ (left_word_written stay s at rest next most u l) quiet refl
                        (holds_word s valid m holds at rest (word_of_user at u).1) (omega (arith, few)),
                  );
              bad = λ b y z. (
                λ none. stops stay (bad_pointer s at) (most + 512) s _ (left_word_unwritten stay s at rest next most (sym (good_is at) ∙ b) l) quiet refl holds (omega (arith, few)),
                λ some. absurd (some refl),
              );
            },
      )

pub serves : Serves number_own most_steps (call A0D) STRTOL (tree NODES)
serves s d z m h =
    let know : KnowsRoom ROOM (C s m h.valid h.holds) = knows_room ROOM from_blanks in
    let r = registers_of s in
    let a : ℕ = r.r4 in
    let end : ℕ = r.r5 in
    let base : ℕ = r.r6 in
    let small : a < 2 ^ 32 = h.words 4 in
    let small_end : end < 2 ^ 32 = h.words 5 in
    let n : ℕ = bytes_from a in
    let stop : ℕ = end_from a in
    let text = text_span a small in
    let short = text_short a in
    let stay : Stay = strtol s in
    let number : Stay = reads_number s a end base in
    let rest : Stay = if is_base base then number else tells_rest s end a 0 in
    let next : Bool → ℕ → ℕ → Stay = λ minus. takes_prefix s base (digits s a end minus) in
    let flag = base_is base (h.words 6) in
    start (C s m h.valid h.holds) know.fair (tree NODES) STRTOL (λ _. ⊥) (λ to e. Through stay most_steps to e) (begun (called_with r d) z m) (
      λ none. through stay most_steps _ _ refl (answers most_steps s _ stay (null a (answered s 0) rest none) h.holds (omega arith)),
      λ some.
          let l = left_is stay _ _ most_steps (not_null a (answered s 0) rest some) (left_all stay) in (
            λ based.
                let is = yes (is_base base) _ flag based in
                let low = base_low base is in
                let l = left_is stay _ _ most_steps (ap (λ t. if t then number else tells_rest s end a 0) is) l in
                know.room _ _ _ _ _ _ _ small (λ x y p up. passing stay s m h.holds a n stop text short next _ _ _ _ _ most_steps refl refl l (omega arith) refl
                (λ d z q p quiet g.
                let few = g.within in
                choosing stay s m h.holds a n stop text short g.minus end _ _ _ _ _ g.most g.kept.r14 g.kept.r2 g.kept.r13 (omega (arith, low, g.kept.r6))
                (subst (λ b. Peeks stay s (takes_prefix s b (digits s a end g.minus)) a n stop d.r8 g.most) (sym g.kept.r6) g.peeks) (omega arith) quiet
                (λ e z q p quiet i.
                let few = i.within in
                taking stay s m h.holds a n stop text short g.minus end _ _ _ _ _ i.to_come i.most (i.kept.r14 ∙ g.kept.r14) (i.kept.r15 ∙ g.sign) i.few i.ready (omega arith) quiet
                (λ f z q p quiet t. let few = t.within in (
                  λ bad. stops stay (bad_pointer s f.r8) t.most s _ (t.bad bad) quiet refl h.holds (omega arith),
                  λ fine. tells s m h.valid h.holds _ _ _ _ end t.most (t.kept.r5 ∙ i.kept.r5 ∙ g.kept.r5) small_end quiet (t.good fine) (omega arith),
                ))))),
            λ other.
                let l = left_is stay _ _ most_steps (ap (λ t. if t then number else tells_rest s end a 0) (no (is_base base) _ flag other)) l in
                tells s m h.valid h.holds _ _ _ _ end most_steps refl small_end refl l (omega arith),
          ),
    )
