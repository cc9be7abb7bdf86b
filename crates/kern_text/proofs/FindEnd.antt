-- What strcat and strncat share: the zero of the destination is found.
use Rattle.psx_flow.proofs.Kit.{◌≡◌, ℕ, suc, ◌+◌, ◌-◌, ◌%◌, ◌^◌, ◌<◌, ◌≤◌, refl, sym, ap, ◌∙◌, subst, arith, Memory, byte, Registers, Cop0, List, Access, Count, Run, Goal, Calls, Part, Turn, counted, by_two, place}
use Rattle.std.proofs.Common.{zero, [], eq-eqb, ne_eqb}
use Rattle.std.specs.Prelude.{nat_eq, if◌then◌else◌}
use Rattle.psx_base.specs.KernelState.{KernelState}
use Rattle.psx_flow.specs.Told.{ports}
use Rattle.abs_kernel.specs.Stay.{Stay}
use Rattle.abs_kernel.specs.UserBytes.{reads_byte, bad_pointer, following, longest}
use Rattle.abs_kernel.specs.Strcat.{find_end}
use Rattle.kern_stay.specs.Shared.{tree}
use Rattle.kern_stay.specs.Doors.{Holds, Through, most_steps}
use Rattle.kern_stay.proofs.RoomLeft.{Span}
use Rattle.kern_stay.proofs.Ending.{Left, left_is, left_read, left_unread, user_byte}
use Rattle.kern_stay.proofs.Looping.{starting, loop_test, loop_body, stops}
use Rattle.kern_stay.proofs.Cursor.{Cursor, coming, done_bad}
use Rattle.kern_text.specs.declared.a15_strcat.TheConstants.{NODES}

abbrev pub byte_came : (n : ℕ) → KernelState → (at : ℕ) → (ℕ → Stay) → ℕ → Stay
byte_came n s at next v = if nat_eq v 0 then next at else find_end (n - 1) s (following at) next

find_more : (n : ℕ) (s : KernelState) (at : ℕ) (next : ℕ → Stay) → 0 < n → find_end n s at next ≡ reads_byte s at (byte_came n s at next)
find_more zero s at next h = absurd (omega arith)
find_more (suc n) s at next h =
    let e : suc n - 1 ≡ n = omega arith in
    ap (λ j. reads_byte s at (λ b. if nat_eq b 0 then next at else find_end j s (following at) next)) (sym e)

-- what is left where the zero was read, one byte before x
pub record Found (stay : Stay) (next : ℕ → Stay) (a stop x most : ℕ) : Type 0 where
  pub at : ℕ
  pub is : (x + 0xFFFFFFFF) % 2 ^ 32 ≡ at
  pub low : a ≤ at
  pub high : at < stop
  pub left : Left most_steps stay (next at) most

-- At the loop's head, with k bytes to come up to the first that isn't user memory, and that one. The registers are those before the loop but r4 and r8.
pub record Head (stay : Stay) (s : KernelState) (m : Memory) (c : Registers) (next : ℕ → Stay) (a n stop k : ℕ) (e : Run) : Type 0 where
  pub fuel : ℕ
  pub some : k ≤ fuel
  pub most : ℕ
  pub going : (e.regs.r4 ≡ 0 → ⊥) → Left most_steps stay (find_end fuel s e.regs.r8 next) most
  pub found : e.regs.r4 ≡ 0 → Found stay next a stop e.regs.r8 most
  pub within : e.steps + 100 ≤ most
  pub bytes : e.bytes ≡ m
  pub quiet : ports e.seen ≡ []
  pub regs : e.regs ≡ record c { r4 = e.regs.r4; r8 = e.regs.r8 }
  pub cursor : Cursor a n stop k e.regs.r8

module _ (C : Calls) (stay : Stay) (s : KernelState) (m : Memory) (holds : Holds s m) (c : Registers) (next : ℕ → Stay) (a n : ℕ) (span : Span a n c.r14 1) (K : Part) where
  abbrev G : ℕ → Goal
  G to e = Through stay most_steps to e

  abbrev Inv : ℕ → Goal
  Inv k e = Head stay s m c next a n c.r14 k e

  -- what is to be shown where the zero is found
  abbrev pub Behind : Type 0
  Behind = (v x most : ℕ) (z : Cop0) (q : List Access) (p : Count) → Found stay next a c.r14 x most → ports q ≡ [] → p.steps + 90 ≤ most → K (record c { r4 = v; r8 = x }) z m [] q p

  pub turn : Behind → (k : ℕ) (e : Run) → Inv k e → Turn C (loop_test (tree NODES)) (loop_body (tree NODES)) 0 K G ℕ (λ i. i) Inv k e
  turn behind k e h =
      let x : ℕ = e.regs.r8 in
      let v : ℕ = byte s.memory (place x) in
      let there : Holds s e.bytes = subst (Holds s) (sym h.bytes) holds in
      let few = h.within in
      let stop : e.regs.r14 ≡ c.r14 = ap (λ x. x.r14) h.regs in
      record {
        leave = λ z.
            let known = behind e.regs.r4 x h.most e.cop0 e.seen (by_two (counted e)) (h.found z) h.quiet (omega arith) in
            subst (λ y. K y e.cop0 e.bytes [] e.seen (by_two (counted e))) (sym h.regs)
            (subst (λ y. K (record c { r4 = e.regs.r4; r8 = x }) e.cop0 y [] e.seen (by_two (counted e))) (sym h.bytes) known);
        again = λ nz. (
          λ out.
              let b = done_bad a n c.r14 1 k x span h.cursor (out ∙ stop) (λ z. absurd (omega (arith, z))) in
              let l = left_unread stay s x (byte_came h.fuel s x next) h.most b.user (left_is stay _ _ h.most (find_more h.fuel s x next (omega (arith, b.some, h.some))) (h.going nz)) in
              stops stay (bad_pointer s x) (h.most + 128) s _ l h.quiet refl there (omega arith),
          λ ne.
              let g = coming a n c.r14 1 k x span h.cursor (λ q. ne (q ∙ sym stop)) in
              let l = left_read stay s x (byte_came h.fuel s x next) h.most g.user (left_is stay _ _ h.most (find_more h.fuel s x next (omega (arith, g.some, h.some))) (h.going nz)) in
              let is : byte e.bytes (place x) ≡ v = user_byte s e.bytes there x g.user in
              rw (g.here, g.sort) (
                k - 1,
                g.less,
                record {
                  fuel = h.fuel - 1;
                  some = omega (arith, h.some);
                  most = h.most + 128;
                  going = λ q. left_is stay _ _ (h.most + 128) (ap (λ b. if b then next x else find_end (h.fuel - 1) s (following x) next) (ne_eqb v 0 (λ o. q (is ∙ o)))) l;
                  found = λ q. record {
                    at = x;
                    is = g.back;
                    low = h.cursor.low;
                    high = omega (arith, h.cursor.high, ne, stop);
                    left = left_is stay _ _ (h.most + 128) (ap (λ b. if b then next x else find_end (h.fuel - 1) s (following x) next) (eq-eqb v 0 (sym is ∙ q))) l;
                  };
                  within = omega arith;
                  bytes = h.bytes;
                  quiet = h.quiet;
                  regs = λ i. record (h.regs i) { r4 = byte e.bytes (place x); r8 = (x + 1) % 2 ^ 32 };
                  cursor = g.next;
                },
              ),
        );
      }

  -- at its beginning
  pub begin : (e : Run) → n ≤ longest → Left most_steps stay (find_end longest s a next) most_steps → e.regs ≡ record c { r4 = e.regs.r4; r8 = e.regs.r8 }
      → (e.regs.r4 ≡ 0 → ⊥) → e.regs.r8 ≡ a → e.bytes ≡ m → e.steps ≤ 1000 → ports e.seen ≡ [] → Inv n e
  begin e short l regs nz r8 bytes few quiet = record {
    fuel = longest;
    some = short;
    most = most_steps;
    going = λ q. left_is stay _ _ most_steps (ap (λ y. find_end longest s y next) (sym r8)) l;
    found = λ z. absurd (nz z);
    within = omega arith;
    bytes = bytes;
    quiet = quiet;
    regs = regs;
    cursor = starting a n c.r14 1 e.regs.r8 span r8;
  }
