-- The listing of BLANKS passes over blanks and a sign as the definition does.
use Rattle.psx_flow.proofs.Kit.{◌≡◌, ℕ, ◌+◌, ◌-◌, ◌%◌, ◌^◌, ◌≤◌, List, [], false, refl, sym, ap, ◌∙◌, subst, arith, ⊎_elim, Memory, byte, Registers, Cop0, Run, Access, Meets, Goal, Calls, Fair, Tree, place, kernel_words, Part, Anew, Count, run, ended}
use Rattle.std.proofs.Common.{Bool, eq-eqb, ne_eqb}
use Rattle.std.specs.Prelude.{nat_eq, ◌||◌, if◌then◌else◌}
use Rattle.std.proofs.lemmas.Bool.{cases_eq}
use Rattle.psx_base.specs.KernelState.{KernelState}
use Rattle.psx_cpu.specs.Words.{truth}
use Rattle.psx_flow.specs.Told.{ports}
use Rattle.psx_flow.proofs.Sound.{sound}
use Rattle.abs_kernel.specs.Stay.{Stay}
use Rattle.abs_kernel.specs.UserBytes.{reads_byte, following, longest}
use Rattle.abs_kernel.specs.Strtol.{is_blank, passes_blanks, takes_sign}
use Rattle.kern_stay.specs.Shared.{tree}
use Rattle.kern_stay.specs.Doors.{Holds, most_steps}
use Rattle.kern_stay.proofs.RoomLeft.{Span}
use Rattle.kern_stay.proofs.Ending.{Left, left_is, left_read, left_unread, user_byte}
use Rattle.kern_stay.proofs.Looping.{starting, Turning, looped}
use Rattle.kern_stay.proofs.Cursor.{Cursor, coming, done_bad}
use Rattle.kern_text.specs.declared.places.TheConstants.{BLANKS}
use Rattle.kern_text.specs.declared.blanks.TheConstants.{BLANKS_NODES}
use Rattle.kern_text.proofs.NumberBytes.{between, is_one, blank_is, yes, no, passes_more}
use Rattle.kern_text.proofs.Peeking.{Peeks, peeked}

-- the registers that stay
pub record Kept (c : Registers) (d2 d4 d5 d6 d13 d14 d31 : ℕ) : Type 0 where
  pub r2 : d2 ≡ c.r2
  pub r4 : d4 ≡ c.r4
  pub r5 : d5 ≡ c.r5
  pub r6 : d6 ≡ c.r6
  pub r13 : d13 ≡ c.r13
  pub r14 : d14 ≡ c.r14
  pub r31 : d31 ≡ c.r31

abbrev pub Keeps : (c d : Registers) → Type 0
Keeps c d = Kept c d.r2 d.r4 d.r5 d.r6 d.r13 d.r14 d.r31

-- at the byte behind a sign
pub record Signed (stay : Stay) (s : KernelState) (next : Bool → ℕ → ℕ → Stay) (a n stop : ℕ) (c d : Registers) (p : Count) : Type 0 where
  pub kept : Keeps c d
  pub most : ℕ
  pub within : p.steps + 400 ≤ most
  pub minus : Bool
  pub sign : d.r15 ≡ truth minus
  pub peeks : Peeks stay s (next minus) a n stop d.r8 most

-- at the head of the loop, with k bytes to come up to the first that isn't user memory, and that one
record Head (stay : Stay) (s : KernelState) (m : Memory) (next : Bool → ℕ → ℕ → Stay) (a n stop : ℕ) (c : Registers) (k : ℕ) (e : Run) : Type 0 where
  fuel : ℕ
  some : k ≤ fuel
  most : ℕ
  left : Left most_steps stay (passes_blanks fuel s e.regs.r8 (takes_sign s next)) most
  within : e.steps + 400 ≤ most
  bytes : e.bytes ≡ m
  quiet : ports e.seen ≡ []
  kept : Keeps c e.regs
  r15 : e.regs.r15 ≡ 0
  cursor : Cursor a n stop k e.regs.r8

abbrev blanks_loop : Tree
blanks_loop = tree BLANKS_NODES

module _ (C : Calls) (fair : Fair C) (stay : Stay) (s : KernelState) (m : Memory) (holds : Holds s m) (next : Bool → ℕ → ℕ → Stay) (a n stop : ℕ) (span : Span a n stop 1)
    (c : Registers) (c14 : c.r14 ≡ stop) (K : Part)
    (known : (d : Registers) (z : Cop0) (q : List Access) (p : Count) → ports q ≡ [] → Signed stay s next a n stop c d p → K d z m [] q p) where
  abbrev G : ℕ → Goal
  G to e = (to ≡ c.r31) × Anew K e

  abbrev Inv : ℕ → Goal
  Inv k e = Head stay s m next a n stop c k e

  -- back to the caller
  comes : (d : Registers) (z : Cop0) (u : Memory) (q : List Access) (p : Count) → u ≡ m → ports q ≡ [] → Signed stay s next a n stop c d p → G d.r31 (run d z u [] q p)
  comes d z u q p same quiet gone = (gone.kept.r31, record { memory = m; log = []; same = same; sorted = tt; goes = known d z q p quiet gone })

  -- behind the sign that a byte v is, or at it where it is none
  signs : (d : Registers) (p : Count) (k x v most : ℕ) → Cursor a n stop k x → (x ≡ stop → ⊥) → v ≡ byte s.memory (place x) → Keeps c d
      → d.r15 ≡ between 0x2D 0x2E v → d.r8 ≡ (x + (between 0x2B 0x2C v + between 0x2D 0x2E v) % 2 ^ 32) % 2 ^ 32
      → Left most_steps stay (takes_sign s next x v) most → p.steps + 400 ≤ most → Signed stay s next a n stop c d p
  signs d p k x v most cursor some is kept r15 r8 l few =
      let g = coming a n stop 1 k x span cursor some in
      let taken : Stay = reads_byte s (following x) (next (nat_eq v 0x2D) (following x)) in
      let minus = is_one 0x2D v in
      let plus = is_one 0x2B v in
      let moved : (e : d.r8 ≡ following x) → Left most_steps stay taken most → Signed stay s next a n stop c d p = λ e l. record {
        kept = kept;
        most = most + 128;
        within = omega (arith, few);
        minus = nat_eq v 0x2D;
        sign = r15 ∙ minus;
        peeks = subst (λ y. Peeks stay s (next (nat_eq v 0x2D)) a n stop y (most + 128)) (sym e) (peeked stay s (next (nat_eq v 0x2D)) a n stop (k - 1) (following x) most span g.next l);
      } in
      ⊎_elim (λ (e : v ≡ 0x2B).
      let isnt = ap truth (ne_eqb v 0x2D (λ q. omega (arith, e, q))) in
      let one = ap truth (eq-eqb v 0x2B e) in
      moved (omega (arith, r8, minus, plus, isnt, one)) (left_is stay _ _ most (ap (λ t. if t || nat_eq v 0x2D then taken else next false x v) (eq-eqb v 0x2B e)) l))
      (λ (ne : v ≡ 0x2B → ⊥).
      let l = left_is stay _ _ most (ap (λ t. if t || nat_eq v 0x2D then taken else next false x v) (ne_eqb v 0x2B ne)) l in
      let none = ap truth (ne_eqb v 0x2B ne) in
      ⊎_elim (λ (e : v ≡ 0x2D).
      let one = ap truth (eq-eqb v 0x2D e) in
      moved (omega (arith, r8, minus, plus, none, one)) (left_is stay _ _ most (ap (λ t. if t then taken else next false x v) (eq-eqb v 0x2D e)) l))
      (λ (ne : v ≡ 0x2D → ⊥).
      let isnt = ap truth (ne_eqb v 0x2D ne) in
      let here : d.r8 ≡ x = omega (arith, r8, minus, plus, none, isnt, g.here) in
      let l = left_is stay _ _ most (ap (λ t. if t then taken else next false x v) (ne_eqb v 0x2D ne)) l in
      record {
        kept = kept;
        most = most;
        within = few;
        minus = false;
        sign = r15 ∙ minus ∙ isnt;
        peeks = subst (λ y. Peeks stay s (next false) a n stop y most) (sym here) record {
          to_come = k;
          cursor = cursor;
          bad = λ e. absurd (some e);
          good = λ ne. subst (λ w. Left most_steps stay (next false x w) most) is l;
        };
      }) (cases_eq v 0x2D)) (cases_eq v 0x2B)

  turn : (k : ℕ) (e : Run) → Inv k e → Turning C blanks_loop G Inv k e
  turn k e h =
      let x : ℕ = e.regs.r8 in
      let there : Holds s e.bytes = subst (Holds s) (sym h.bytes) holds in
      let few = h.within in
      let more : Stay = passes_blanks (h.fuel - 1) s (following x) (takes_sign s next) in
      let after : ℕ → Stay = λ b. if is_blank b then more else takes_sign s next x b in
      record {
        leave = λ eq.
            let at : x ≡ stop = eq ∙ h.kept.r14 ∙ c14 in
            let b = done_bad a n stop 1 k x span h.cursor at (λ z. absurd (omega (arith, z))) in
            let l = left_unread stay s x after h.most b.user (left_is stay _ _ h.most (passes_more h.fuel s x (takes_sign s next) (omega (arith, b.some, h.some))) h.left) in
            comes _ _ _ _ _ h.bytes h.quiet record {
              kept = h.kept;
              most = h.most + 128;
              within = omega arith;
              minus = false;
              sign = h.r15;
              peeks = record { to_come = k; cursor = h.cursor; bad = λ e. l; good = λ ne. absurd (ne at) };
            };
        again = λ ne.
            let some : x ≡ stop → ⊥ = λ q. ne (q ∙ sym (h.kept.r14 ∙ c14)) in
            let g = coming a n stop 1 k x span h.cursor some in
            let v : ℕ = byte s.memory (place x) in
            let w : ℕ = byte e.bytes (place x) in
            let is : w ≡ v = user_byte s e.bytes there x g.user in
            let l = left_read stay s x after h.most g.user (left_is stay _ _ h.most (passes_more h.fuel s x (takes_sign s next) (omega (arith, g.some, h.some))) h.left) in
            rw (g.here, g.sort) (
              λ none.
                  let l = left_is stay _ _ (h.most + 128) (ap after (sym is) ∙ ap (λ t. if t then more else takes_sign s next x w) (no (is_blank w) _ (blank_is w) none)) l in
                  comes _ _ _ _ _ h.bytes h.quiet (signs _ _ k x w (h.most + 128) h.cursor some is h.kept refl refl l (omega arith)),
              λ flag.
                  let l = left_is stay _ _ (h.most + 128) (ap after (sym is) ∙ ap (λ t. if t then more else takes_sign s next x w) (yes (is_blank w) _ (blank_is w) flag)) l in (
                    k - 1,
                    g.less,
                    record {
                      fuel = h.fuel - 1;
                      some = omega (arith, h.some);
                      most = h.most + 128;
                      left = l;
                      within = omega arith;
                      bytes = h.bytes;
                      quiet = h.quiet;
                      kept = h.kept;
                      r15 = h.r15;
                      cursor = g.next;
                    },
                  ),
            );
      }

  pub goes : (z : Cop0) (q : List Access) (p : Count) (most : ℕ) → c.r8 ≡ a → n ≤ longest
      → Left most_steps stay (passes_blanks longest s c.r8 (takes_sign s next)) most → p.steps + 450 ≤ most → ports q ≡ []
      → Meets kernel_words C blanks_loop BLANKS (λ _. ⊥) G (run c z m [] q p)
  goes z q p most begin enough left few quiet =
      sound C fair blanks_loop BLANKS (ended (λ _. ⊥)) (λ _. ⊥) G (λ c z m w q p ok h. h) c z m [] q p tt (looped C fair blanks_loop G Inv turn n _ record {
        fuel = longest;
        some = enough;
        most = most;
        left = left;
        within = omega (arith, few);
        bytes = refl;
        quiet = quiet;
        kept = record { r2 = refl; r4 = refl; r5 = refl; r6 = refl; r13 = refl; r14 = refl; r31 = refl };
        r15 = refl;
        cursor = starting a n stop 1 c.r8 span begin;
      })
