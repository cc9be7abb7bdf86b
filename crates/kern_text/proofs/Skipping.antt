-- The listing of SKIP passes over bytes as the definition does.
use Rattle.psx_flow.proofs.Kit.{◌≡◌, ℕ, ◌+◌, ◌-◌, ◌%◌, ◌^◌, ◌<◌, ◌≤◌, ◌++◌, List, [], ◌∷◌, true, false, refl, sym, ap, ◌∙◌, subst, arith, Memory, byte, Registers, Cop0, Run, Access, Meets, Goal, Calls, calls, Tree, Stop, Loop, Fair, fair, place, kernel_words, while, Turn, Sym, Part, Anew, Calling, Count, by_branch, run, ended}
use Rattle.std.proofs.Common.{Bool, eq-eqb, ne_eqb}
use Rattle.std.specs.Prelude.{nat_eq, if◌then◌else◌}
use Rattle.psx_base.specs.KernelState.{KernelState}
use Rattle.psx_cpu.specs.Words.{truth}
use Rattle.psx_flow.specs.Told.{ports}
use Rattle.psx_flow.proofs.Sound.{sound}
use Rattle.psx_flow.proofs.Knows.{first_call, later_call}
use Rattle.abs_kernel.specs.Stay.{Stay}
use Rattle.abs_kernel.specs.UserBytes.{bad_pointer, following, longest}
use Rattle.abs_kernel.specs.ByteSets.{in_set, skips}
use Rattle.kern_stay.specs.declared.room.TheConstants.{ROOM_NODES}
use Rattle.kern_stay.specs.Shared.{tree, tested_there}
use Rattle.kern_stay.specs.Doors.{Holds, most_steps}
use Rattle.kern_stay.proofs.RoomLeft.{Span}
use Rattle.kern_stay.proofs.Ending.{Left, left_is, left_read, left_unread, user_byte}
use Rattle.kern_stay.proofs.Looping.{starting, loop_test, loop_body, behind_loop, Turning, looped}
use Rattle.kern_stay.proofs.Cursor.{Cursor, Coming, coming, done_bad}
use Rattle.kern_text.specs.declared.places.TheConstants.{ROOM, SKIP}
use Rattle.kern_text.specs.declared.skip.TheConstants.{SKIP_NODES}
use Rattle.kern_text.specs.SetOwn.{set_own}
use Rattle.kern_text.proofs.SkippedBytes.{set_more, tested, skips_more, goes_on, stops_at, outside_is, inside_is, seen_on, seen_over, seen_other, differ}

-- ---- how the listing comes back

-- the registers that stay
pub record Kept (c : Registers) (d2 d4 d5 d13 d14 d15 d31 : ℕ) : Type 0 where
  pub r2 : d2 ≡ c.r2
  pub r4 : d4 ≡ c.r4
  pub r5 : d5 ≡ c.r5
  pub r13 : d13 ≡ c.r13
  pub r14 : d14 ≡ c.r14
  pub r15 : d15 ≡ c.r15
  pub r31 : d31 ≡ c.r31

abbrev pub Keeps : (c d : Registers) → Type 0
Keeps c d = Kept c d.r2 d.r4 d.r5 d.r13 d.r14 d.r15 d.r31

-- at the byte that decides, or where r10 is 0 at an address that isn't user memory
pub record Gone (stay : Stay) (s : KernelState) (next : Bool → ℕ → Stay) (a n stop : ℕ) (c d : Registers) (p : Count) : Type 0 where
  pub kept : Keeps c d
  pub most : ℕ
  pub within : p.steps + 250 ≤ most
  pub to_come : ℕ
  pub bad : d.r10 ≡ 0 → Left most_steps stay (bad_pointer s d.r8) most
  pub cursor : (d.r10 ≡ 0 → ⊥) → Cursor a n stop to_come d.r8
  pub more : (d.r10 ≡ 0 → ⊥) → d.r8 ≡ stop → ⊥
  pub at_zero : (d.r10 ≡ 0 → ⊥) → d.r12 ≡ 0 → Left most_steps stay (next true d.r8) most
  pub at_other : (d.r10 ≡ 0 → ⊥) → (d.r12 ≡ 0 → ⊥) → Left most_steps stay (next false d.r8) most

-- at the head of the loop over the text, with k bytes to come up to the first that isn't user memory, and that one
record Head (stay : Stay) (s : KernelState) (m : Memory) (inside : Bool) (next : Bool → ℕ → Stay) (a n stop b : ℕ) (c : Registers) (k : ℕ) (e : Run) : Type 0 where
  fuel : ℕ
  some : k ≤ fuel
  most : ℕ
  left : Left most_steps stay (skips inside fuel s b e.regs.r8 next) most
  within : e.steps + 200 ≤ most
  bytes : e.bytes ≡ m
  quiet : ports e.seen ≡ []
  kept : Keeps c e.regs
  cursor : Cursor a n stop k e.regs.r8

-- at that of the loop over the set, for the byte v at x
record SetHead (stay : Stay) (s : KernelState) (m : Memory) (inside : Bool) (on over : Stay) (x v b l last : ℕ) (c : Registers) (k : ℕ) (e : Run) : Type 0 where
  fuel : ℕ
  some : k ≤ fuel
  most : ℕ
  seeks : (e.regs.r10 ≡ goes_on inside v → ⊥) → Left most_steps stay (in_set fuel s e.regs.r9 v (if inside then on else over) (if inside then over else on)) most
  hit : e.regs.r10 ≡ goes_on inside v → Left most_steps stay on most
  within : e.steps + 240 ≤ most
  bytes : e.bytes ≡ m
  quiet : ports e.seen ≡ []
  kept : Keeps c e.regs
  r8 : e.regs.r8 ≡ x
  r12 : e.regs.r12 ≡ v
  r24 : e.regs.r24 ≡ goes_on inside v
  r25 : e.regs.r25 ≡ stops_at inside v
  cursor : Cursor b l last k e.regs.r9

abbrev text_loop : Tree
text_loop = tree SKIP_NODES

abbrev set_loop : Tree
set_loop = loop_body text_loop

module _ (C : Calls) (fair : Fair C) (stay : Stay) (s : KernelState) (m : Memory) (holds : Holds s m) (inside : Bool) (next : Bool → ℕ → Stay) (a n stop : ℕ) (span : Span a n stop 1)
    (b l last : ℕ) (set : Span b l last 1) (short : l ≤ longest) (c : Registers) (mode : c.r13 ≡ truth inside) (c5 : c.r5 ≡ b) (c14 : c.r14 ≡ stop) (c15 : c.r15 ≡ last)
    (K : Part) (known : (d : Registers) (z : Cop0) (q : List Access) (p : Count) → ports q ≡ [] → Gone stay s next a n stop c d p → K d z m [] q p) where
  abbrev G : ℕ → Goal
  G to e = (to ≡ c.r31) × Anew K e

  abbrev Inv : ℕ → Goal
  Inv k e = Head stay s m inside next a n stop b c k e

  -- back to the caller
  comes : (d : Registers) (z : Cop0) (u : Memory) (q : List Access) (p : Count) → u ≡ m → d.r31 ≡ c.r31 → ports q ≡ [] → Gone stay s next a n stop c d p → G d.r31 (run d z u [] q p)
  comes d z u q p same back quiet gone = (back, record { memory = m; log = []; same = same; sorted = tt; goes = known d z q p quiet gone })

  -- with the first address that isn't user memory
  refused : (d : Registers) (z : Cop0) (u : Memory) (q : List Access) (p : Count) (most : ℕ) → u ≡ m → Keeps c d → ports q ≡ [] → d.r10 ≡ 0
      → Left most_steps stay (bad_pointer s d.r8) most → p.steps + 250 ≤ most → G d.r31 (run d z u [] q p)
  refused d z u q p most same kept quiet flag l few = comes d z u q p same kept.r31 quiet record {
    kept = kept;
    most = most;
    within = few;
    to_come = 0;
    bad = λ _. l;
    cursor = λ ne. absurd (ne flag);
    more = λ ne. absurd (ne flag);
    at_zero = λ ne. absurd (ne flag);
    at_other = λ ne. absurd (ne flag);
  }

  -- what follows the loop over the set, in a turn with k bytes to come
  abbrev Rest : ℕ → Part
  Rest k d z u w q p = (y : ℕ) × (y < k) × Inv y (run d z u w q (by_branch p))

  module _ (k : ℕ) (x fuel v : ℕ) (g : Coming a n stop k x) (cursor : Cursor a n stop k x) (short_of : x ≡ stop → ⊥) (enough : k ≤ fuel) (some : v ≡ 0 → ⊥) where
    abbrev on : Stay
    on = skips inside (fuel - 1) s b (following x) next

    abbrev over : Stay
    over = next false x

    abbrev SetInv : ℕ → Goal
    SetInv j e = SetHead stay s m inside on over x v b l last c j e

    set_turn : (j : ℕ) (e : Run) → SetInv j e → Turn C (loop_test set_loop) (loop_body set_loop) 64 (Sym C (behind_loop set_loop) 132 (Rest k) G) G ℕ (λ i. i) SetInv j e
    set_turn j e h =
        let y : ℕ = e.regs.r9 in
        let few = h.within in
        let there : Holds s e.bytes = subst (Holds s) (sym h.bytes) holds in
        let r15 = h.kept.r15 ∙ c15 in
        record {
          leave = λ eq. (
            k - 1,
            g.less,
            record {
              fuel = fuel - 1;
              some = omega (arith, enough);
              most = h.most;
              left = subst (λ r. Left most_steps stay (skips inside (fuel - 1) s b (following r) next) h.most) (sym h.r8) (h.hit (eq ∙ h.r24));
              within = omega arith;
              bytes = h.bytes;
              quiet = h.quiet;
              kept = h.kept;
              cursor = subst (λ r. Cursor a n stop (k - 1) ((r + 1) % 2 ^ 32)) (sym h.r8) g.next;
            },
          );
          again = λ ne.
              let found : Stay = if inside then on else over in
              let absent : Stay = if inside then over else on in
              let after : ℕ → Stay = λ w. if nat_eq w v then found else (if nat_eq w 0 then absent else in_set (h.fuel - 1) s (following y) v found absent) in
              let seeks = h.seeks (λ q. ne (q ∙ sym h.r24)) in (
                λ eq.
                    let bad = done_bad b l last 1 j y set h.cursor (eq ∙ r15) (λ z. absurd (omega (arith, z))) in
                    let l = left_unread stay s y after h.most bad.user (left_is stay _ _ h.most (set_more h.fuel s y v found absent (omega (arith, bad.some, h.some))) seeks) in
                    refused _ _ _ _ _ (h.most + 128) h.bytes h.kept h.quiet refl l (omega arith),
                λ nq.
                    let t = coming b l last 1 j y set h.cursor (λ q. nq (q ∙ sym r15)) in
                    let w : ℕ = byte s.memory (place y) in
                    let is : byte e.bytes (place y) ≡ w = user_byte s e.bytes there y t.user in
                    let l = left_read stay s y after h.most t.user (left_is stay _ _ h.most (set_more h.fuel s y v found absent (omega (arith, t.some, h.some))) seeks) in
                    let rest : Stay = in_set (h.fuel - 1) s (following y) v found absent in
                    rw (t.here, t.sort) (
                      λ stops.
                          let lo = left_is stay _ _ (h.most + 128) (seen_over v w some on over rest inside (sym is ∙ stops ∙ h.r25)) l in
                          comes _ _ _ _ _ h.bytes h.kept.r31 h.quiet record {
                            kept = h.kept;
                            most = h.most + 128;
                            within = omega arith;
                            to_come = k;
                            bad = λ z. absurd (omega (arith, z));
                            cursor = λ _. subst (λ r. Cursor a n stop k r) (sym h.r8) cursor;
                            more = λ _ q. short_of (sym h.r8 ∙ q);
                            at_zero = λ _ z. absurd (some (sym h.r12 ∙ z));
                            at_other = λ _ _. subst (λ r. Left most_steps stay (next false r) (h.most + 128)) (sym h.r8) lo;
                          },
                      λ goes. (
                        j - 1,
                        t.less,
                        record {
                          fuel = h.fuel - 1;
                          some = omega (arith, h.some);
                          most = h.most + 128;
                          seeks = λ q. left_is stay _ _ (h.most + 128) (seen_other v w some on over rest inside (λ e. q (is ∙ e)) (λ e. goes (is ∙ e ∙ sym h.r25))) l;
                          hit = λ q. left_is stay _ _ (h.most + 128) (seen_on v w some on over rest inside (sym is ∙ q)) l;
                          within = omega arith;
                          bytes = h.bytes;
                          quiet = h.quiet;
                          kept = h.kept;
                          r8 = h.r8;
                          r12 = h.r12;
                          r24 = h.r24;
                          r25 = h.r25;
                          cursor = t.next;
                        },
                      ),
                    ),
              );
        }

    -- from where the loop over the set is reached
    seeks : (e : Run) (most : ℕ) → Left most_steps stay (tested inside s b v on over) most → e.steps + 240 ≤ most → e.bytes ≡ m → ports e.seen ≡ [] → Keeps c e.regs → e.regs.r8 ≡ x → e.regs.r9 ≡ b
        → e.regs.r10 ≡ stops_at inside v → e.regs.r12 ≡ v → e.regs.r24 ≡ goes_on inside v → e.regs.r25 ≡ stops_at inside v
        → Meets kernel_words C (Loop (loop_test set_loop) (loop_body set_loop) Stop) 64 (Anew (Sym C (behind_loop set_loop) 132 (Rest k) G)) G e
    seeks e most left few bytes quiet kept r8 r9 r10 r12 r24 r25 = while C fair (loop_test set_loop) (loop_body set_loop) 64 (Sym C (behind_loop set_loop) 132 (Rest k) G) G ℕ (λ i. i)
        SetInv set_turn l e record {
          fuel = longest;
          some = short;
          most = most;
          seeks = λ _. subst (λ r. Left most_steps stay (in_set longest s r v (if inside then on else over) (if inside then over else on)) most) (sym r9) left;
          hit = λ q. absurd (differ inside v some (sym r10 ∙ q));
          within = few;
          bytes = bytes;
          quiet = quiet;
          kept = kept;
          r8 = r8;
          r12 = r12;
          r24 = r24;
          r25 = r25;
          cursor = starting b l last 1 e.regs.r9 set r9;
        }

  turn : (k : ℕ) (e : Run) → Inv k e → Turning C text_loop G Inv k e
  turn k e h =
      let x : ℕ = e.regs.r8 in
      let there : Holds s e.bytes = subst (Holds s) (sym h.bytes) holds in
      let few = h.within in
      let after : ℕ → Stay = λ v. if nat_eq v 0 then next true x else tested inside s b v (skips inside (h.fuel - 1) s b (following x) next) (next false x) in
      record {
        leave = λ eq.
            let bad = done_bad a n stop 1 k x span h.cursor (eq ∙ h.kept.r14 ∙ c14) (λ z. absurd (omega (arith, z))) in
            let l = left_unread stay s x after h.most bad.user (left_is stay _ _ h.most (skips_more inside h.fuel s b x next (omega (arith, bad.some, h.some))) h.left) in
            refused _ _ _ _ _ (h.most + 128) h.bytes h.kept h.quiet refl l (omega arith);
        again = λ ne.
            let ns : x ≡ stop → ⊥ = λ q. ne (q ∙ sym (h.kept.r14 ∙ c14)) in
            let g = coming a n stop 1 k x span h.cursor ns in
            let v : ℕ = byte s.memory (place x) in
            let rest : Stay = tested inside s b v (skips inside (h.fuel - 1) s b (following x) next) (next false x) in
            let is : byte e.bytes (place x) ≡ v = user_byte s e.bytes there x g.user in
            let l = left_read stay s x after h.most g.user (left_is stay _ _ h.most (skips_more inside h.fuel s b x next (omega (arith, g.some, h.some))) h.left) in
            rw (g.here, g.sort) (
              λ z.
                  let lz = left_is stay _ _ (h.most + 128) (ap (λ t. if t then next true x else rest) (eq-eqb v 0 (sym is ∙ z))) l in
                  comes _ _ _ _ _ h.bytes h.kept.r31 h.quiet record {
                    kept = h.kept;
                    most = h.most + 128;
                    within = omega arith;
                    to_come = k;
                    bad = λ z. absurd (omega (arith, z));
                    cursor = λ _. h.cursor;
                    more = λ _. ns;
                    at_zero = λ _ _. lz;
                    at_other = λ _ nz. absurd (nz z);
                  },
              λ nz.
                  let some : v ≡ 0 → ⊥ = λ q. nz (is ∙ q) in
                  let lv = left_is stay _ _ (h.most + 128) (ap (λ t. if t then next true x else rest) (ne_eqb v 0 some)) l in (
                    λ out.
                        let o = outside_is inside (sym mode ∙ sym h.kept.r13 ∙ out) in
                        seeks k x h.fuel v g h.cursor ns h.some some _ (h.most + 128) lv (omega arith) h.bytes h.quiet h.kept refl (h.kept.r5 ∙ c5)
                        (is ∙ sym (ap (λ t. stops_at t v) o)) is (sym (ap (λ t. goes_on t v) o)) (is ∙ sym (ap (λ t. stops_at t v) o)),
                    λ ins.
                        let i = inside_is inside (λ q. ins (h.kept.r13 ∙ mode ∙ q)) in
                        seeks k x h.fuel v g h.cursor ns h.some some _ (h.most + 128) lv (omega arith) h.bytes h.quiet h.kept refl (h.kept.r5 ∙ c5)
                        (sym (ap (λ t. stops_at t v) i)) is (is ∙ sym (ap (λ t. goes_on t v) i)) (sym (ap (λ t. stops_at t v) i)),
                  ),
            );
      }

  pub goes : (z : Cop0) (q : List Access) (p : Count) (j most : ℕ) → Cursor a n stop j c.r8 → j ≤ longest
      → Left most_steps stay (skips inside longest s b c.r8 next) most → p.steps + 200 ≤ most → ports q ≡ []
      → Meets kernel_words C text_loop SKIP (λ _. ⊥) G (run c z m [] q p)
  goes z q p j most cursor enough left few quiet =
      sound C fair text_loop SKIP (ended (λ _. ⊥)) (λ _. ⊥) G (λ c z m w q p ok h. h) c z m [] q p tt (looped C fair text_loop G Inv turn j (run c z m [] q p) record {
        fuel = longest;
        some = enough;
        most = most;
        left = left;
        within = few;
        bytes = refl;
        quiet = quiet;
        kept = record { r2 = refl; r4 = refl; r5 = refl; r13 = refl; r14 = refl; r15 = refl; r31 = refl };
        cursor = cursor;
      })

-- ---- what a routine takes of it

module _ (stay : Stay) (s : KernelState) (m : Memory) (holds : Holds s m) (inside : Bool) (next : Bool → ℕ → Stay) (a n stop : ℕ) (span : Span a n stop 1)
    (b l last : ℕ) (set : Span b l last 1) (short : l ≤ longest) where
  -- behind ROOM in the list of the crate's own
  pub skipping : (c : Registers) (z : Cop0) (q : List Access) (p : Count) (k : Part) (j most : ℕ) → c.r13 ≡ truth inside → c.r5 ≡ b → c.r14 ≡ stop → c.r15 ≡ last
      → Cursor a n stop j c.r8 → j ≤ longest → Left most_steps stay (skips inside longest s b c.r8 next) most → p.steps + 200 ≤ most → ports q ≡ []
      → ((d : Registers) (z : Cop0) (q : List Access) (p : Count) → ports q ≡ [] → Gone stay s next a n stop c d p → k d z m [] q p)
      → Calling (calls kernel_words (set_own ++ tested_there)) SKIP c.r31 k c z m [] q p
  skipping c z q p k j most mode c5 c14 c15 cursor enough left few quiet known =
      let skips_there : List (ℕ × Tree) = (SKIP, tree SKIP_NODES) ∷ tested_there in
      record {
        called = λ ok. later_call SKIP (ROOM, tree ROOM_NODES) skips_there c.r31 (Anew k) (run c z m [] q p) refl
            (first_call SKIP (tree SKIP_NODES) tested_there c.r31 (Anew k) (run c z m [] q p) refl
            (goes (calls kernel_words tested_there) (fair kernel_words tested_there) stay s m holds inside next a n stop span b l last set short c mode c5 c14 c15 k known
            z q p j most cursor enough left few quiet));
      }
