-- MEASURE measures a text.
use Rattle.psx_flow.proofs.Kit.{◌≡◌, ℕ, ◌+◌, ◌-◌, ◌%◌, ◌^◌, ◌<◌, ◌≤◌, ◌++◌, [], ◌∷◌, refl, sym, ap, ◌∙◌, subst, arith, true, false, byte, Run, Calls, calls, place, kernel_words, start}
use Rattle.std.proofs.Common.{eq-eqb, ne_eqb, zero, suc, None}
use Rattle.std.specs.Prelude.{nat_eq, if◌then◌else◌}
use Rattle.psx_base.specs.KernelState.{KernelState}
use Rattle.psx_cpu.specs.Words.{truth}
use Rattle.abs_kernel.specs.Stay.{Stay, Touch}
use Rattle.abs_kernel.specs.UserBytes.{bad_pointer, following}
use Rattle.abs_kernel.specs.Conversion.{Conversion, limited}
use Rattle.abs_kernel.specs.Printf.{print_format}
use Rattle.kern_stay.specs.Shared.{tree, tested_there}
use Rattle.kern_stay.specs.Doors.{begun}
use Rattle.kern_stay.specs.Room.{room}
use Rattle.kern_stay.specs.Stages.{Leads, Less, Asked}
use Rattle.kern_stay.proofs.RoomGiven.{KnowsRoom, knows_room}
use Rattle.kern_stay.proofs.RoomLeft.{room_is_left}
use Rattle.kern_stay.proofs.Passing.{refuses_last}
use Rattle.kern_stay.proofs.Staging.{to_door, to_stage}
use Rattle.kern_printf.specs.Own.{own}
use Rattle.kern_printf.specs.Walking.{Walk, turns}
use Rattle.kern_printf.specs.Interfaces.{interface, Does}
use Rattle.kern_printf.specs.declared.places.TheConstants as places
use Rattle.kern_printf.proofs.Walks.{kept}
use Rattle.psx_base.specs.Addresses.{user}
use Rattle.psx_flow.proofs.Users.{sort_user}
use Rattle.abs_kernel.specs.UserBytes.{reads_byte}
use Rattle.abs_kernel.specs.Printf.{measures}
use Rattle.kern_stay.proofs.RoomLeft.{room_few}
use Rattle.kern_stay.proofs.Ending.{user_byte}
use Rattle.kern_printf.specs.Texts.{Bytes, HasBytes}
use Rattle.kern_printf.specs.Taking.{writes_measured}
use Rattle.kern_printf.specs.declared.text.TheConstants.{MEASURE_NODES}
use Rattle.kern_printf.proofs.TextLimits.{capped}

measures_more : (n : ℕ) (s : KernelState) (at size : ℕ) (next : ℕ → Stay) → (n ≡ 0 → ⊥) → measures n s at size next ≡ reads_byte s at (λ b. if nat_eq b 0 then next size else measures (n - 1) s (following at) (size + 1) next)
measures_more zero s at size next ne = absurd (ne refl)
measures_more (suc n) s at size next ne =
    let e : n ≡ suc n - 1 = omega arith in
    ap (λ j. reads_byte s at (λ b. if nat_eq b 0 then next size else measures j s (following at) (size + 1) next)) e

-- measured, it goes to PADDING
to_measured : (s : KernelState) (todo fuel taken count : ℕ) (c : Conversion) (from size : ℕ) (f : Run) → turns fuel 0x800000 ≤ todo → Walk s fuel taken 0 f → f.regs.r17 ≡ count % 2 ^ 32 → f.regs.r18 ≡ truth c.left
    → f.regs.r20 ≡ limited c.width → f.regs.r12 ≡ size → HasBytes size from f → Less (interface s) todo places.PADDING (4096 + 100) (writes_measured c s from count (λ n. print_format fuel s f.regs.r4 taken n None) size) f
to_measured s todo fuel taken count c from size f more w n r18 r20 r12 has = (
  turns fuel 0x700000,
  omega (arith, more),
  record {
    fuel = fuel;
    taken = taken;
    count = count + ((limited c.width - size) + size);
    on_left = c.left;
    width = limited c.width;
    body = Bytes size from;
    walk = w;
    r17 = record { small = omega (arith, n); all = omega (arith, n) };
    r18 = r18;
    r20 = r20;
    r12 = r12;
    width_small = capped c.width;
    has = has;
    is = refl;
    to_do = omega arith;
    paid = omega arith;
  },
)

pub stage : Does places.MEASURE (tree MEASURE_NODES)
stage s todo bank stay e h =
    let C : Calls = calls kernel_words (own ++ tested_there) in
    let know : KnowsRoom places.ROOM C = knows_room places.ROOM tested_there in
    let asked : Asked = Less (interface s) todo in
    let w = h.walk in
    let c : Conversion = h.c in
    let from : ℕ = e.regs.r9 in
    let size : ℕ = e.regs.r10 in
    let x : ℕ = e.regs.r8 in
    let on : ℕ → Stay = λ n. print_format h.fuel s e.regs.r4 h.taken n None in
    let next : ℕ → Stay = writes_measured c s from h.count on in
    let left = room_is_left from h.text_small in
    let few = room_few from in
    let end = left.within in
    let r8 = h.r8 in
    let r11 = h.r11 in
    let up = h.up_to in
    let r21 = h.r21 in
    let fewest = h.fewest_few in
    let has : (f : Run) → f.regs.r10 ≡ size → f.regs.r9 ≡ from → f.regs.r30 ≡ e.regs.r30 → HasBytes size from f = λ f a b d. record {
      r10 = a;
      r9 = b;
      r30 = d ∙ h.r30;
      good = λ y low high. (let same : from + (y - from) ≡ y = omega (arith, low) in subst (λ z. user z ≡ true) same (left.good (y - from) (omega (arith, low, high, r8, r11, up, end))));
      few = omega (arith, few, r8, r11, up, end);
      ends = omega (arith, few, r8, r11, up, end);
    } in
    let paid = h.paid in
    let to_do = h.to_do in
    start C know.fair (tree MEASURE_NODES) places.MEASURE (λ _. ⊥) (λ to f. Leads asked bank stay to f) (begun e.regs e.cop0 e.bytes) (
      λ all.
          let none : h.fewest ≡ 0 = omega (arith, all, r21) in
          let is : stay ≡ next size = h.is ∙ ap (λ n. measures n s x size next) none in
          to_stage asked bank stay [] (next size) (4096 + 100) places.PADDING _ refl is (omega (arith, paid)) (omega (arith, paid))
          (to_measured s todo h.fuel h.taken h.count c from size _ (omega (arith, to_do)) (kept s h.fuel h.taken 0 e w _ refl refl w.r26) h.r17 h.r18 h.r20 refl (has _ refl refl refl)),
      λ more.
          let some : h.fewest ≡ 0 → ⊥ = λ z. more (omega (arith, z, r21)) in
          let known : stay ≡ reads_byte s x (λ b. if nat_eq b 0 then next size else measures (h.fewest - 1) s (following x) (size + 1) next) = h.is ∙ measures_more h.fewest s x size next some in
          let read : ℕ → Stay = λ b. if nat_eq b 0 then next size else measures (h.fewest - 1) s (following x) (size + 1) next in
          let v : ℕ = byte e.bytes (place x) in (
            λ at_end.
                let here : x ≡ from + room from = omega (arith, at_end, r11, end) in
                let u : user x ≡ false = ap user here ∙ left.bad in
                let is : stay ≡ Touch 1 (bad_pointer s x) = known ∙ ap (λ y. Touch 1 (if y then read (byte s.memory (place x)) else bad_pointer s x)) u in
                to_door asked bank stay _ _ refl (refuses_last s 1 bank _ stay is w.holds (omega (arith, paid))),
            λ not_end.
                let inside : size < room from = omega (arith, not_end, r8, r11, up, end) in
                let u : user x ≡ true = ap user r8 ∙ left.good size inside in
                let here : (x + 0) % 2 ^ 32 ≡ x = omega (arith, r8, inside, end) in
                let is_read : stay ≡ Touch 1 (read v) = known ∙ ap (λ y. Touch 1 (if y then read (byte s.memory (place x)) else bad_pointer s x)) u ∙ ap (λ b. Touch 1 (read b)) (sym (user_byte s e.bytes w.holds x u)) in
                let sort = sort_user x u in
                rw (here, sort) (
                  λ z.
                      let is : stay ≡ Touch 1 (next size) = is_read ∙ ap (λ y. Touch 1 (if y then next size else measures (h.fewest - 1) s (following x) (size + 1) next)) (eq-eqb v 0 z) in
                      to_stage asked bank stay (1 ∷ []) (next size) (4096 + 100) places.PADDING _ refl is (omega (arith, paid)) (omega (arith, paid))
                      (to_measured s todo h.fuel h.taken h.count c from size _ (omega (arith, to_do)) (kept s h.fuel h.taken 0 e w _ refl refl w.r26) h.r17 h.r18 h.r20 refl (has _ refl refl refl)),
                  λ nz.
                      let rest : Stay = measures (h.fewest - 1) s (following x) (size + 1) next in
                      let on_size : (size + 1) % 2 ^ 32 ≡ size + 1 = omega (arith, inside, end) in
                      let is : stay ≡ Touch 1 (measures (h.fewest - 1) s (following x) ((size + 1) % 2 ^ 32) next) = is_read ∙ ap (λ y. Touch 1 (if y then next size else rest)) (ne_eqb v 0 nz) ∙ ap (λ n. Touch 1 (measures (h.fewest - 1) s (following x) n next)) (sym on_size) in
                      to_stage asked bank stay (1 ∷ []) (measures (h.fewest - 1) s (following x) ((size + 1) % 2 ^ 32) next) (4096 + 108) places.MEASURE _ refl is (omega (arith, paid)) (omega (arith, paid)) (
                        turns h.fuel (0x800000 + (h.fewest - 1)),
                        omega (arith, to_do, some),
                        record {
                          fuel = h.fuel;
                          taken = h.taken;
                          count = h.count;
                          c = c;
                          fewest = h.fewest - 1;
                          walk = kept s h.fuel h.taken 0 e w _ refl refl w.r26;
                          r17 = h.r17;
                          r18 = h.r18;
                          r20 = h.r20;
                          r30 = h.r30;
                          text_small = h.text_small;
                          r11 = h.r11;
                          r8 = omega (arith, r8, inside, end);
                          up_to = omega (arith, r8, r11, inside, end);
                          r21 = omega (arith, r21, some, inside, end);
                          fewest_few = omega (arith, fewest);
                          is = refl;
                          to_do = omega arith;
                          paid = omega arith;
                        },
                      ),
                ),
          ),
    )
