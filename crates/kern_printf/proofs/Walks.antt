-- The walk over the format: its next byte, and what a listing leaves of it.
use Rattle.std.proofs.Common.{◌≡◌, ℕ, zero, suc, ◌+◌, ◌-◌, ◌%◌, ◌^◌, ◌<◌, ◌≤◌, Option, sym, ap, ◌∙◌, subst, arith}
use Rattle.std.specs.Prelude.{nat_eq, if◌then◌else◌}
use Rattle.psx_base.specs.Addresses.{place}
use Rattle.psx_base.specs.Memory.{byte}
use Rattle.psx_base.specs.KernelState.{KernelState}
use Rattle.psx_flow.specs.Run.{Run}
use Rattle.abs_kernel.specs.Stay.{Stay, Touch}
use Rattle.abs_kernel.specs.Answered.{registers_of, answered}
use Rattle.abs_kernel.specs.UserBytes.{reads_byte, bad_pointer, following, longest}
use Rattle.abs_kernel.specs.Conversion.{Conversion}
use Rattle.abs_kernel.specs.Printf.{takes_format_byte, print_format}
use Rattle.kern_stay.specs.Room.{room}
use Rattle.kern_stay.specs.Doors.{Holds}
use Rattle.kern_stay.proofs.RoomLeft.{Span, span_some}
use Rattle.kern_stay.proofs.Ending.{user_byte}
use Rattle.kern_stay.proofs.Cursor.{Cursor, Coming, coming, Bad, done_bad}
use Rattle.kern_printf.specs.Walking.{Walk}

-- ---- the definition's next byte

-- what is made of it
abbrev pub with_byte_read : (fuel : ℕ) → KernelState → (at taken count : ℕ) → Option Conversion → ℕ → Stay
with_byte_read fuel s at taken count c b = if nat_eq b 0 then answered s (count % 2 ^ 32) else takes_format_byte c s b taken count (λ t m d. print_format (fuel - 1) s (following at) t m d)

format_more : (n : ℕ) (s : KernelState) (at taken count : ℕ) (c : Option Conversion) → 0 < n → print_format n s at taken count c ≡ reads_byte s at (with_byte_read n s at taken count c)
format_more zero s at taken count c h = absurd (omega arith)
format_more (suc n) s at taken count c h =
    let e : suc n - 1 ≡ n = omega arith in
    ap (λ j. reads_byte s at (λ b. if nat_eq b 0 then answered s (count % 2 ^ 32) else takes_format_byte c s b taken count (λ t m d. print_format j s (following at) t m d))) (sym e)

longest_is : longest ≡ 2 ^ 21
unfolding longest
longest_is = λ i. longest

module _ (s : KernelState) (fuel taken spare : ℕ) (e : Run) (w : Walk s fuel taken spare e) where
  abbrev pub a : ℕ
  a = (registers_of s).r4

  span : Span a (room a + 1) ((a + room a) % 2 ^ 32) 1
  span = let small = w.words 4 in span_some a (room a + 1) 1 small (λ z. absurd (omega (arith, z))) (omega arith)

  cursor : Cursor a (room a + 1) ((a + room a) % 2 ^ 32) (a + room a + 1 - e.regs.r4) e.regs.r4
  cursor =
      let sp = span in
      let low = w.begins in
      let high = w.ends in
      let at_end = w.r14 in
      let top = sp.high in
      record { low = low; high = omega (arith, high, at_end); count = omega (arith, high, at_end, top) }

  -- where user memory ends
  pub bad : e.regs.r4 ≡ e.regs.r14 → Bad (a + room a + 1 - e.regs.r4) e.regs.r4
  bad at = done_bad a (room a + 1) ((a + room a) % 2 ^ 32) 1 (a + room a + 1 - e.regs.r4) e.regs.r4 span cursor (at ∙ w.r14) (λ z. absurd (omega (arith, z)))

  pub good : (e.regs.r4 ≡ e.regs.r14 → ⊥) → Coming a (room a + 1) ((a + room a) % 2 ^ 32) (a + room a + 1 - e.regs.r4) e.regs.r4
  good ne = coming a (room a + 1) ((a + room a) % 2 ^ 32) 1 (a + room a + 1 - e.regs.r4) e.regs.r4 span cursor (λ q. ne (q ∙ sym w.r14))

  some_fuel : 0 < a + room a + 1 - e.regs.r4 → 0 < fuel
  some_fuel h = let k = w.enough in omega (arith, k, h)

  -- the stay there
  pub is_bad : (stay : Stay) (count : ℕ) (c : Option Conversion) → stay ≡ print_format fuel s e.regs.r4 taken count c → e.regs.r4 ≡ e.regs.r14 → stay ≡ Touch 1 (bad_pointer s e.regs.r4)
  is_bad stay count c is at =
      let b = bad at in
      is ∙ format_more fuel s e.regs.r4 taken count c (some_fuel b.some)
      ∙ ap (λ y. Touch 1 (if y then with_byte_read fuel s e.regs.r4 taken count c (byte s.memory (place e.regs.r4)) else bad_pointer s e.regs.r4)) b.user

  pub is_read : (stay : Stay) (count : ℕ) (c : Option Conversion) → stay ≡ print_format fuel s e.regs.r4 taken count c → (e.regs.r4 ≡ e.regs.r14 → ⊥)
      → stay ≡ Touch 1 (with_byte_read fuel s e.regs.r4 taken count c (byte e.bytes (place e.regs.r4)))
  is_read stay count c is ne =
      let g = good ne in
      is ∙ format_more fuel s e.regs.r4 taken count c (some_fuel g.some)
      ∙ ap (λ y. Touch 1 (if y then with_byte_read fuel s e.regs.r4 taken count c (byte s.memory (place e.regs.r4)) else bad_pointer s e.regs.r4)) g.user
      ∙ ap (λ v. Touch 1 (with_byte_read fuel s e.regs.r4 taken count c v)) (sym (user_byte s e.bytes w.holds e.regs.r4 g.user))

  -- ---- the walk in another state

  -- that has the same registers of it
  pub kept : (f : Run) → f.bytes ≡ e.bytes → f.regs ≡ record f.regs { r4 = e.regs.r4; r5 = e.regs.r5; r6 = e.regs.r6; r7 = e.regs.r7; r14 = e.regs.r14; r16 = e.regs.r16; r29 = e.regs.r29 } → f.regs.r26 ≡ 0x1F800000 → Walk s fuel taken spare f
  kept f m k port = record {
    holds = subst (λ y. Holds s y) (sym m) w.holds;
    words = w.words;
    begins = subst (λ y. a ≤ y) (sym (ap (λ r. r.r4) k)) w.begins;
    ends = subst (λ y. y ≤ f.regs.r14) (sym (ap (λ r. r.r4) k)) (subst (λ y. e.regs.r4 ≤ y) (sym (ap (λ r. r.r14) k)) w.ends);
    enough = subst (λ y. a + room a + 1 ≤ y + fuel) (sym (ap (λ r. r.r4) k)) w.enough;
    few = w.few;
    r14 = ap (λ r. r.r14) k ∙ w.r14;
    r5 = ap (λ r. r.r5) k ∙ w.r5;
    r6 = ap (λ r. r.r6) k ∙ w.r6;
    r7 = ap (λ r. r.r7) k ∙ w.r7;
    r29 = ap (λ r. r.r29) k ∙ w.r29;
    r16 = ap (λ r. r.r16) k ∙ w.r16;
    r26 = port;
  }

  -- and none is to be taken any more
  pub loosened : (f : Run) → f.bytes ≡ e.bytes → f.regs ≡ record f.regs { r4 = e.regs.r4; r5 = e.regs.r5; r6 = e.regs.r6; r7 = e.regs.r7; r14 = e.regs.r14; r16 = e.regs.r16; r29 = e.regs.r29 } → f.regs.r26 ≡ 0x1F800000 → Walk s fuel taken 0 f
  loosened f m k port =
      let same = kept f m k port in
      let few = w.few in
      record {
        holds = same.holds;
        words = same.words;
        begins = same.begins;
        ends = same.ends;
        enough = same.enough;
        few = omega (arith, few);
        r14 = same.r14;
        r5 = same.r5;
        r6 = same.r6;
        r7 = same.r7;
        r29 = same.r29;
        r16 = same.r16;
        r26 = same.r26;
      }

  -- behind an argument
  pub took : spare ≡ 1 → (f : Run) → f.bytes ≡ e.bytes → f.regs ≡ record f.regs { r4 = e.regs.r4; r5 = e.regs.r5; r6 = e.regs.r6; r7 = e.regs.r7; r14 = e.regs.r14; r16 = (e.regs.r16 + 1) % 2 ^ 32; r26 = e.regs.r26; r29 = e.regs.r29 } → Walk s fuel (taken + 1) 0 f
  took one f m k =
      let few = w.few in
      let last = longest_is in
      let r4 : f.regs.r4 ≡ e.regs.r4 = ap (λ r. r.r4) k in
      let r14 : f.regs.r14 ≡ e.regs.r14 = ap (λ r. r.r14) k in
      let r16 : f.regs.r16 ≡ (e.regs.r16 + 1) % 2 ^ 32 = ap (λ r. r.r16) k in
      let was = w.r16 in
      let begins = w.begins in
      let ends = w.ends in
      let enough = w.enough in
      record {
        holds = subst (λ y. Holds s y) (sym m) w.holds;
        words = w.words;
        begins = omega (arith, r4, begins);
        ends = omega (arith, r4, r14, ends);
        enough = omega (arith, r4, enough);
        few = omega (arith, few, one);
        r14 = r14 ∙ w.r14;
        r5 = ap (λ r. r.r5) k ∙ w.r5;
        r6 = ap (λ r. r.r6) k ∙ w.r6;
        r7 = ap (λ r. r.r7) k ∙ w.r7;
        r29 = ap (λ r. r.r29) k ∙ w.r29;
        r16 = omega (arith, r16, was, few, last);
        r26 = ap (λ r. r.r26) k ∙ w.r26;
      }

  -- behind a byte
  pub stepped : (after : ℕ) → after ≤ spare + 1 → (e.regs.r4 ≡ e.regs.r14 → ⊥) → (f : Run) → f.bytes ≡ e.bytes
      → f.regs ≡ record f.regs { r4 = following e.regs.r4; r5 = e.regs.r5; r6 = e.regs.r6; r7 = e.regs.r7; r14 = e.regs.r14; r16 = e.regs.r16; r29 = e.regs.r29 } → f.regs.r26 ≡ 0x1F800000 → Walk s (fuel - 1) taken after f
  stepped after le ne f m k port =
      let g = good ne in
      let n = g.next in
      let r4 : f.regs.r4 ≡ following e.regs.r4 = ap (λ r. r.r4) k in
      let r14 : f.regs.r14 ≡ e.regs.r14 = ap (λ r. r.r14) k in
      let old14 = w.r14 in
      let low = n.low in
      let high = n.high in
      let count = n.count in
      let some = g.some in
      let enough = w.enough in
      let few = w.few in
      record {
        holds = subst (λ y. Holds s y) (sym m) w.holds;
        words = w.words;
        begins = omega (arith, r4, low);
        ends = omega (arith, r4, r14, high, old14);
        enough = omega (arith, r4, count, some, enough);
        few = omega (arith, few, le, some, enough);
        r14 = r14 ∙ w.r14;
        r5 = ap (λ r. r.r5) k ∙ w.r5;
        r6 = ap (λ r. r.r6) k ∙ w.r6;
        r7 = ap (λ r. r.r7) k ∙ w.r7;
        r29 = ap (λ r. r.r29) k ∙ w.r29;
        r16 = ap (λ r. r.r16) k ∙ w.r16;
        r26 = port;
      }
