-- The listing of PREFIX chooses the base as the definition does.
use Rattle.psx_flow.proofs.Kit.{◌≡◌, ℕ, suc, ◌+◌, ◌-◌, ◌%◌, ◌^◌, ◌<◌, ◌≤◌, List, [], ◌∷◌, length, true, refl, sym, ap, ◌∙◌, subst, arith, Memory, byte, Registers, Cop0, Access, Meets, Goal, Calls, Fair, Tree, Do, When, Visit, place, kernel_words, Part, Anew, Count, Sym, run, ended}
use Rattle.std.proofs.Common.{zero, Bool, eq-eqb, ne_eqb}
use Rattle.std.specs.Prelude.{nat_lt, if◌then◌else◌}
use Rattle.std.proofs.lemmas.Bool.{lt-ltb}
use Rattle.psx_base.specs.KernelState.{KernelState}
use Rattle.psx_flow.specs.Told.{ports}
use Rattle.psx_flow.proofs.Sound.{sound}
use Rattle.abs_kernel.specs.Stay.{Stay}
use Rattle.abs_kernel.specs.UserBytes.{reads_byte, following, longest}
use Rattle.abs_kernel.specs.Numeral.{value_of}
use Rattle.abs_kernel.specs.Strtol.{digit_of, takes_x, takes_prefix}
use Rattle.kern_stay.specs.Shared.{tree}
use Rattle.kern_stay.specs.Doors.{Holds, most_steps}
use Rattle.kern_stay.proofs.RoomLeft.{Span}
use Rattle.kern_stay.proofs.RoomGiven.{true_then, false_then}
use Rattle.kern_stay.proofs.Ending.{Left, left_is, left_read, left_unread, user_byte}
use Rattle.kern_stay.proofs.Cursor.{coming, done_bad}
use Rattle.kern_text.specs.declared.places.TheConstants.{PREFIX}
use Rattle.kern_text.specs.declared.prefix.TheConstants.{PREFIX_NODES}
use Rattle.kern_text.proofs.NumberBytes.{yes, no, not_below, digits_stop}
use Rattle.kern_text.proofs.Peeking.{Peeks, peeked}
use Rattle.kern_text.proofs.DigitsTaken.{Ready}
use Rattle.kern_text.proofs.NumberRead.{number, digits, ending, taken, nothing, ready_from, ready_at, begins, no_prefix, by_zero, prefix_of_0, prefix_of_16, is_x, x_is, x_high}

-- the registers that stay
pub record Kept (c : Registers) (d4 d5 d14 d15 d31 : ℕ) : Type 0 where
  pub r4 : d4 ≡ c.r4
  pub r5 : d5 ≡ c.r5
  pub r14 : d14 ≡ c.r14
  pub r15 : d15 ≡ c.r15
  pub r31 : d31 ≡ c.r31

abbrev pub Keeps : (c d : Registers) → Type 0
Keeps c d = Kept c d.r4 d.r5 d.r14 d.r15 d.r31

-- with a base, at an address from which on digits may come
pub record Chosen (stay : Stay) (s : KernelState) (end : ℕ) (minus : Bool) (a n stop : ℕ) (c d : Registers) (p : Count) : Type 0 where
  pub kept : Keeps c d
  pub most : ℕ
  pub within : p.steps + 300 ≤ most
  pub few : d.r6 ≤ 36
  pub to_come : ℕ
  pub ready : Ready stay s d.r6 (ending s end minus) a n stop to_come d.r8 d.r2 d.r13 most

-- the listing behind so many nodes, an If with what stands in it as one
abbrev pub behind : ℕ → Tree → Tree
behind zero T = T
behind (suc n) (Do i rest) = behind n rest
behind (suc n) (When t a rest) = behind n rest
behind (suc n) (Visit a rest) = behind n rest
behind (suc n) T = T

module _ (C : Calls) (fair : Fair C) (stay : Stay) (s : KernelState) (m : Memory) (holds : Holds s m) (end : ℕ) (minus : Bool) (a n stop : ℕ) (span : Span a n stop 1) (short : n ≤ longest)
    (c : Registers) (c14 : c.r14 ≡ stop) (c2 : c.r2 ≡ 0) (c13 : c.r13 ≡ a) (K : Part)
    (known : (d : Registers) (z : Cop0) (q : List Access) (p : Count) → ports q ≡ [] → Chosen stay s end minus a n stop c d p → K d z m [] q p) where
  abbrev G : ℕ → Goal
  G to e = (to ≡ c.r31) × Anew K e

  abbrev next : (base : ℕ) (before : List ℕ) (at byte : ℕ) → Stay
  next base before = digits s a end minus base before

  -- back to the caller
  comes : (d : Registers) (z : Cop0) (q : List Access) (p : Count) → ports q ≡ [] → Chosen stay s end minus a n stop c d p → G d.r31 (run d z m [] q p)
  comes d z q p quiet gone = (gone.kept.r31, record { memory = m; log = []; same = refl; sorted = tt; goes = known d z q p quiet gone })

  -- where no digit was taken
  plainly : (d : Registers) (z : Cop0) (q : List Access) (p : Count) (base most : ℕ) → ports q ≡ [] → Keeps c d → d.r6 ≡ base → base ≤ 36 → d.r2 ≡ 0 → d.r13 ≡ a
      → Peeks stay s (next base []) a n stop d.r8 most → p.steps + 300 ≤ most → G d.r31 (run d z m [] q p)
  plainly d z q p base most quiet kept r6 few r2 r13 seen within = comes d z q p quiet record {
    kept = kept;
    most = most;
    within = within;
    few = omega (arith, r6, few);
    to_come = seen.to_come;
    ready = ready_at stay s end minus a n stop seen.to_come base d.r8 0 a most d.r6 d.r8 d.r2 d.r13 r6 refl r2 r13 (begins stay s base end minus a n stop d.r8 most span short seen);
  }

  -- where the first 0 was
  behind_zero : (d : Registers) (z : Cop0) (q : List Access) (p : Count) (base y most : ℕ) → ports q ≡ [] → Keeps c d → d.r6 ≡ base → base ≤ 36 → d.r2 ≡ 0 → d.r8 ≡ y → d.r13 ≡ y
      → Peeks stay s (next base (0 ∷ [])) a n stop y most → p.steps + 300 ≤ most → G d.r31 (run d z m [] q p)
  behind_zero d z q p base y most quiet kept r6 few r2 r8 r13 seen within = comes d z q p quiet record {
    kept = kept;
    most = most;
    within = within;
    few = omega (arith, r6, few);
    to_come = seen.to_come;
    ready = ready_at stay s end minus a n stop seen.to_come base y 0 y most d.r6 d.r8 d.r2 d.r13 r6 r8 r2 r13
        (ready_from stay s base end minus (number s a end minus base (0 ∷ [])) a n stop y y most span short seen (λ t ds at. taken s a end minus base 0 (t ∷ ds) at) (none_of base y));
  }
    where
      none_of : (base y : ℕ) → number s a end minus base (0 ∷ []) [] y ≡ ending s end minus y 0
      none_of base y = ap (λ v. ending s end minus y (v % 2 ^ 32)) (sym (nothing (base ^ 0) 0))

  -- behind the x of a prefix: where no hexadecimal digit comes, the 0 alone was the number
  behind_x : (d : Registers) (z : Cop0) (q : List Access) (p : Count) (base y w most : ℕ) → ports q ≡ [] → Keeps c d → d.r6 ≡ 16 → base ≤ 16 → d.r2 ≡ 0 → d.r8 ≡ following y → d.r13 ≡ y → is_x w ≡ true → 0 < n
      → Peeks stay s (λ at h. if nat_lt (digit_of h) 16 then next 16 [] at h else next base (0 ∷ []) y w) a n stop (following y) most → p.steps + 300 ≤ most → G d.r31 (run d z m [] q p)
  behind_x d z q p base y w most quiet kept r6 few r2 r8 r13 x some seen within =
      let at : ℕ = following y in
      let v : ℕ = byte s.memory (place at) in
      let high : digit_of w ≡ 33 = x_high w x in
      let cursor = seen.cursor in
      comes d z q p quiet record {
        kept = kept;
        most = most;
        within = within;
        few = omega (arith, r6);
        to_come = seen.to_come;
        ready = ready_at stay s end minus a n stop seen.to_come 16 at 0 y most d.r6 d.r8 d.r2 d.r13 r6 r8 r2 r13 record {
          fuel = longest;
          some = omega (arith, short, cursor.low, cursor.count);
          cursor = cursor;
          next = number s a end minus 16 [];
          shape = λ t ds i. taken s a end minus 16 t ds i ∙ ap (λ u. ending s end minus i (u % 2 ^ 32)) (nothing (16 ^ suc (length ds)) (value_of 16 (t ∷ ds)));
          bad = seen.bad;
          digit = λ ne lt. left_is stay _ _ most (ap (λ t. if t then next 16 [] at v else next base (0 ∷ []) y w) (lt-ltb (digit_of v) 16 lt)) (seen.good ne);
          other = λ ne le. left_is stay _ _ most (ap (λ t. if t then next 16 [] at v else next base (0 ∷ []) y w) (not_below (digit_of v) 16 le)
              ∙ digits_stop longest s base (number s a end minus base (0 ∷ [])) y w (omega (arith, short, some)) (omega (arith, high, few))
              ∙ ap (λ u. ending s end minus y (u % 2 ^ 32)) (sym (nothing (base ^ 0) 0))) (seen.good ne);
        };
      }

  -- where a first 0 may stand
  zeros : (d : Registers) (z : Cop0) (q : List Access) (p : Count) (plain top most : ℕ) → ports q ≡ [] → Keeps c d → d.r6 ≡ plain → plain ≤ 36 → d.r10 ≡ top → top ≤ 16 → d.r2 ≡ 0 → d.r13 ≡ a
      → Peeks stay s (by_zero s plain top next) a n stop d.r8 most → p.steps + 350 ≤ most → Sym C (behind 5 (tree PREFIX_NODES)) (PREFIX + 48) (ended (λ _. ⊥)) G d z m [] q p
  zeros d z q p plain top most quiet kept r6 few r10 low r2 r13 seen within =
      let x : ℕ = d.r8 in
      let r14 : d.r14 ≡ stop = kept.r14 ∙ c14 in
      let v : ℕ = byte m (place x) in (
        λ eq. plainly _ _ _ _ plain most quiet kept r6 few r2 r13 record {
          to_come = seen.to_come;
          cursor = seen.cursor;
          bad = seen.bad;
          good = λ ne. absurd (ne (eq ∙ r14));
        } (omega (arith, within)),
        λ ne.
            let some : x ≡ stop → ⊥ = λ e. ne (e ∙ sym r14) in
            let g = coming a n stop 1 seen.to_come x span seen.cursor some in
            let is : v ≡ byte s.memory (place x) = user_byte s m holds x g.user in
            let l = seen.good some in
            rw (g.here, g.sort) (
              λ other. plainly _ _ _ _ plain most quiet kept r6 few r2 r13 record {
                to_come = seen.to_come;
                cursor = seen.cursor;
                bad = seen.bad;
                good = λ ne. left_is stay _ _ most (ap (λ t. if t then takes_x s top next (following x) else next plain [] x (byte s.memory (place x))) (ne_eqb (byte s.memory (place x)) 0x30 (λ e. other (is ∙ e)))) l;
              } (omega (arith, within)),
              λ zero.
                  let y : ℕ = following x in
                  let after : ℕ → Stay = λ w. if is_x w then reads_byte s (following y) (λ h. if nat_lt (digit_of h) 16 then next 16 [] (following y) h else next top (0 ∷ []) y w) else next top (0 ∷ []) y w in
                  let l = left_is stay _ _ most (ap (λ t. if t then takes_x s top next y else next plain [] x (byte s.memory (place x))) (eq-eqb (byte s.memory (place x)) 0x30 (sym is ∙ zero))) l in (
                    λ eq. behind_zero _ _ _ _ top y (most + 128) quiet kept r10 (omega (arith, low)) r2 refl refl record {
                      to_come = seen.to_come - 1;
                      cursor = g.next;
                      bad = λ e. left_unread stay s y after most (done_bad a n stop 1 (seen.to_come - 1) y span g.next (eq ∙ r14) (λ z. absurd (omega (arith, z)))).user l;
                      good = λ ne. absurd (ne (eq ∙ r14));
                    } (omega (arith, within)),
                    λ ne.
                        let more : y ≡ stop → ⊥ = λ e. ne (e ∙ sym r14) in
                        let i = coming a n stop 1 (seen.to_come - 1) y span g.next more in
                        let w : ℕ = byte m (place y) in
                        let is : w ≡ byte s.memory (place y) = user_byte s m holds y i.user in
                        let l = left_is stay _ _ (most + 128) (ap after (sym is)) (left_read stay s y after most i.user l) in
                        let deeper : ℕ → Stay = λ h. if nat_lt (digit_of h) 16 then next 16 [] (following y) h else next top (0 ∷ []) y w in
                        rw (i.here, i.sort) (
                          λ flag.
                              let x = yes (is_x w) _ (x_is w) flag in
                              let l = left_is stay _ _ (most + 128) (ap (λ t. if t then reads_byte s (following y) deeper else next top (0 ∷ []) y w) x) l in
                              behind_x _ _ _ _ top y w (most + 128 + 128) quiet kept refl low r2 refl refl x (omega (arith, i.some, i.next.low, i.next.count))
                              (peeked stay s (λ at h. if nat_lt (digit_of h) 16 then next 16 [] at h else next top (0 ∷ []) y w) a n stop (seen.to_come - 1 - 1) (following y) (most + 128) span i.next l) (omega (arith, within)),
                          λ none.
                              let l = left_is stay _ _ (most + 128) (ap (λ t. if t then reads_byte s (following y) deeper else next top (0 ∷ []) y w) (no (is_x w) _ (x_is w) none)) l in
                              behind_zero _ _ _ _ top y (most + 128) quiet kept r10 (omega (arith, low)) r2 refl refl record {
                                to_come = seen.to_come - 1;
                                cursor = g.next;
                                bad = λ e. absurd (more e);
                                good = λ ne. subst (λ t. Left most_steps stay (next top (0 ∷ []) y t) (most + 128)) is l;
                              } (omega (arith, within)),
                        ),
                  ),
            ),
      )

  pub goes : (z : Cop0) (q : List Access) (p : Count) (most : ℕ) → c.r6 ≤ 36 → Peeks stay s (takes_prefix s c.r6 next) a n stop c.r8 most → p.steps + 380 ≤ most → ports q ≡ []
      → Meets kernel_words C (tree PREFIX_NODES) PREFIX (λ _. ⊥) G (run c z m [] q p)
  goes z q p most few seen within quiet =
      let x : ℕ = c.r8 in
      let b : ℕ = byte s.memory (place x) in
      let kept : Keeps c c = record { r4 = refl; r5 = refl; r14 = refl; r15 = refl; r31 = refl } in
      sound C fair (tree PREFIX_NODES) PREFIX (ended (λ _. ⊥)) (λ _. ⊥) G (λ c z m w q p ok h. h) c z m [] q p tt (
        λ none. (
          λ e. absurd (omega (arith, e)),
          λ _. zeros _ _ _ _ 10 8 most quiet kept refl (omega arith) refl (omega arith) c2 c13 record {
            to_come = seen.to_come;
            cursor = seen.cursor;
            bad = seen.bad;
            good = λ ne. left_is stay _ _ most (prefix_of_0 s c.r6 next x b none) (seen.good ne);
          } (omega (arith, within)),
        ),
        λ some. (
          λ z.
              let ge = false_then _ _ z in
              let other : c.r6 ≡ 16 → ⊥ = λ e. omega (arith, e, ge) in
              plainly _ _ _ _ c.r6 most quiet kept refl few c2 c13 record {
                to_come = seen.to_come;
                cursor = seen.cursor;
                bad = seen.bad;
                good = λ ne. left_is stay _ _ most (no_prefix s c.r6 next x b some other) (seen.good ne);
              } (omega (arith, within)),
          λ nz.
              let lt = true_then _ _ nz in
              let is : c.r6 ≡ 16 = omega (arith, lt, few) in
              zeros _ _ _ _ 16 16 most quiet kept is (omega arith) is (omega arith) c2 c13 record {
                to_come = seen.to_come;
                cursor = seen.cursor;
                bad = seen.bad;
                good = λ ne. left_is stay _ _ most (prefix_of_16 s c.r6 next x b is) (seen.good ne);
              } (omega (arith, within)),
        ),
      )
