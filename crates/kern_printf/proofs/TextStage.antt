-- TEXT asks how much user memory a text has.
use Rattle.psx_flow.proofs.Kit.{◌≡◌, ℕ, ◌+◌, ◌%◌, ◌^◌, ◌<◌, ◌≤◌, ◌++◌, [], refl, sym, ap, ◌∙◌, arith, Run, Calls, calls, kernel_words, start}
use Rattle.std.proofs.Common.{eq-eqb, ne_eqb, Option, None}
use Rattle.std.specs.Prelude.{unwrap_or, if◌then◌else◌}
use Rattle.psx_base.specs.KernelState.{KernelState}
use Rattle.psx_cpu.specs.Words.{truth}
use Rattle.abs_kernel.specs.Stay.{Stay}
use Rattle.abs_kernel.specs.Conversion.{Conversion, limited}
use Rattle.abs_kernel.specs.Printf.{print_format}
use Rattle.kern_stay.specs.Shared.{tree, tested_there}
use Rattle.kern_stay.specs.Doors.{begun}
use Rattle.kern_stay.specs.Room.{room}
use Rattle.kern_stay.specs.Stages.{Leads, Less, Asked}
use Rattle.kern_stay.proofs.RoomGiven.{KnowsRoom, knows_room}
use Rattle.kern_stay.proofs.RoomLeft.{room_is_left}
use Rattle.kern_stay.proofs.Staging.{to_stage}
use Rattle.kern_printf.specs.Own.{own}
use Rattle.kern_printf.specs.Walking.{Walk, turns}
use Rattle.kern_printf.specs.Interfaces.{interface, Does}
use Rattle.kern_printf.specs.declared.places.TheConstants as places
use Rattle.kern_printf.proofs.Walks.{kept}
use Rattle.std.specs.Prelude.{take}
use Rattle.abs_kernel.specs.Conversion.{null_text}
use Rattle.abs_kernel.specs.Printf.{most_of, measures, writes_padded}
use Rattle.kern_printf.specs.Taking.{writes_measured}
use Rattle.kern_printf.specs.declared.text.TheConstants.{TEXT_NODES}
use Rattle.kern_printf.proofs.TextLimits.{no_limit, its_limit, capped}

to_measure : (s : KernelState) (todo fuel taken count : ℕ) (c : Conversion) (most : ℕ) (f : Run) → turns fuel (0x800000 + most) < todo → Walk s fuel taken 0 f → f.regs.r17 ≡ count % 2 ^ 32 → f.regs.r18 ≡ truth c.left
    → f.regs.r20 ≡ limited c.width → f.regs.r30 ≡ places.TEXT_BYTES → f.regs.r9 < 2 ^ 32 → f.regs.r11 ≡ (f.regs.r9 + room f.regs.r9) % 2 ^ 32 → f.regs.r8 ≡ f.regs.r9 + f.regs.r10 → f.regs.r8 ≤ f.regs.r11
    → f.regs.r21 ≡ f.regs.r10 + most → most ≤ 2 ^ 21 → (rest : Stay) → rest ≡ measures most s f.regs.r8 f.regs.r10 (writes_measured c s f.regs.r9 count (λ n. print_format fuel s f.regs.r4 taken n None))
    → Less (interface s) todo places.MEASURE (4096 + 108) rest f
to_measure s todo fuel taken count c most f more w n r18 r20 r30 small r11 r8 up r21 few rest is = (
  turns fuel (0x800000 + most),
  more,
  record {
    fuel = fuel;
    taken = taken;
    count = count;
    c = c;
    fewest = most;
    walk = w;
    r17 = n;
    r18 = r18;
    r20 = r20;
    r30 = r30;
    text_small = small;
    r11 = r11;
    r8 = r8;
    up_to = up;
    r21 = r21;
    fewest_few = few;
    is = is;
    to_do = omega arith;
    paid = omega arith;
  },
)

pub stage : Does places.TEXT (tree TEXT_NODES)
stage s todo bank stay e h =
    let C : Calls = calls kernel_words (own ++ tested_there) in
    let know : KnowsRoom places.ROOM C = knows_room places.ROOM tested_there in
    let asked : Asked = Less (interface s) todo in
    let w = h.walk in
    let c : Conversion = h.c in
    let k = h.conversion in
    let o : Option ℕ = c.precision in
    let on : ℕ → Stay = λ n. print_format h.fuel s e.regs.r4 h.taken n None in
    let null : Stay = writes_padded c (take (most_of o) null_text) h.count on in
    let measured : Stay = measures (most_of o) s e.regs.r9 0 (writes_measured c s e.regs.r9 h.count on) in
    let r22 = k.r22 in
    let r21 = k.r21 in
    let small = h.small in
    let end = (room_is_left e.regs.r9 small).within in
    let paid = h.paid in
    let to_do = h.to_do in
    start C know.fair (tree TEXT_NODES) places.TEXT (λ _. ⊥) (λ to f. Leads asked bank stay to f) (begun e.regs e.cop0 e.bytes) (
      λ none.
          let is : stay ≡ null = h.is ∙ ap (λ y. if y then null else measured) (eq-eqb e.regs.r9 0 none) in
          to_stage asked bank stay [] null (4096 + 130) places.NULL_TEXT _ refl is (omega (arith, paid)) (omega (arith, paid)) (
            turns h.fuel 0xED0000,
            omega (arith, to_do),
            record {
              fuel = h.fuel;
              taken = h.taken;
              count = h.count;
              c = c;
              walk = kept s h.fuel h.taken 0 e w _ refl refl w.r26;
              r17 = h.r17;
              conversion = (record { r18 = k.r18; r19 = k.r19; r20 = k.r20; r21 = k.r21; r22 = k.r22 });
              is = refl;
              to_do = omega arith;
              paid = omega arith;
            },
          ),
      λ some.
          let is : stay ≡ measured = h.is ∙ ap (λ y. if y then null else measured) (ne_eqb e.regs.r9 0 some) in
          know.room _ _ _ _ _ _ _ small (λ x y p up. (
            λ none.
                let limit = no_limit o (sym r22 ∙ none) in
                to_stage asked bank stay [] measured (4096 + 108) places.MEASURE _ refl is (omega (arith, paid, up)) (omega (arith, paid, up))
                (to_measure s todo h.fuel h.taken h.count c (most_of o) _ (omega (arith, to_do, limit)) (kept s h.fuel h.taken 0 e w _ refl refl w.r26) h.r17 k.r18 k.r20 refl small refl (omega arith) (omega (arith, end)) (omega (arith, limit)) (omega (arith, limit)) measured refl),
            λ one.
                let limit = its_limit o (λ z. one (r22 ∙ z)) in
                let few = capped (unwrap_or o 0) in
                to_stage asked bank stay [] measured (4096 + 108) places.MEASURE _ refl is (omega (arith, paid, up)) (omega (arith, paid, up))
                (to_measure s todo h.fuel h.taken h.count c (most_of o) _ (omega (arith, to_do, limit, few)) (kept s h.fuel h.taken 0 e w _ refl refl w.r26) h.r17 k.r18 k.r20 refl small refl (omega arith) (omega (arith, end)) (omega (arith, limit, r21)) (omega (arith, limit, few)) measured refl),
          )),
    )
