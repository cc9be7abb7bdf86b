-- KIND takes the byte that ends a conversion.
use Rattle.psx_flow.proofs.Kit.{◌≡◌, ℕ, ◌+◌, ◌%◌, ◌^◌, ◌++◌, inl, inr, [], refl, ap, arith, true, false, Calls, calls, kernel_words, start}
use Rattle.std.proofs.Common.{Option, None}
use Rattle.abs_kernel.specs.Stay.{Stay, Write}
use Rattle.abs_kernel.specs.Conversion.{Conversion, Number, Byte, Text, Alone, kind_of}
use Rattle.abs_kernel.specs.Printf.{takes_within, print_format}
use Rattle.kern_stay.specs.Shared.{tree, tested_there}
use Rattle.kern_stay.specs.Doors.{begun}
use Rattle.kern_stay.specs.Stages.{Leads, Less, Asked}
use Rattle.kern_stay.proofs.RoomGiven.{KnowsRoom, knows_room}
use Rattle.kern_stay.proofs.Staging.{to_stage, printed_to}
use Rattle.kern_printf.specs.Own.{own}
use Rattle.kern_printf.specs.Walking.{turns}
use Rattle.kern_printf.specs.Interfaces.{interface, Does}
use Rattle.kern_printf.specs.declared.places.TheConstants as places
use Rattle.kern_printf.proofs.Walks.{kept}
use Rattle.kern_printf.specs.declared.kind.TheConstants.{KIND_NODES}
use Rattle.kern_printf.proofs.Walks.{loosened}
use Rattle.kern_printf.proofs.KindAsked.{alone, asks, asked_for}

pub stage : Does places.KIND (tree KIND_NODES)
stage s todo bank stay e h =
    let C : Calls = calls kernel_words (own ++ tested_there) in
    let know : KnowsRoom places.ROOM C = knows_room places.ROOM tested_there in
    let asked : Asked = Less (interface s) todo in
    let b : ℕ = e.regs.r12 in
    let w = h.walk in
    let c : Conversion = h.c in
    let k = h.conversion in
    let next : ℕ → ℕ → Option Conversion → Stay = λ t m d. print_format h.fuel s e.regs.r4 t m d in
    let within : Option Conversion → Stay = λ o. takes_within o c s b h.taken h.count next in
    let paid = h.paid in
    let to_do = h.to_do in
    start C know.fair (tree KIND_NODES) places.KIND (λ _. ⊥) (λ to f. Leads asked bank stay to f) (begun e.regs e.cop0 e.bytes) (
      λ at.
          to_stage asked bank stay [] _ (4096 + 170) _ _ refl (asked_for s h.fuel e.regs.r4 h.taken h.count c (Number true 10 0x61) b stay h.is (ap kind_of at)) (omega (arith, paid)) (omega (arith, paid))
          (asks s todo h.fuel h.taken h.count c (Number true 10 0x61) b _ _ to_do (kept s h.fuel h.taken 1 e w _ refl refl w.r26) h.r17
          (record { r18 = k.r18; r19 = k.r19; r20 = k.r20; r21 = k.r21; r22 = k.r22 }) (record { r15 = refl; r24 = refl; r25 = refl; is_base = inr (inl refl); letter_small = omega arith }, refl) refl),
      λ n1. (
        λ at.
            to_stage asked bank stay [] _ (4096 + 170) _ _ refl (asked_for s h.fuel e.regs.r4 h.taken h.count c (Number true 10 0x61) b stay h.is (ap kind_of at)) (omega (arith, paid)) (omega (arith, paid))
            (asks s todo h.fuel h.taken h.count c (Number true 10 0x61) b _ _ to_do (kept s h.fuel h.taken 1 e w _ refl refl w.r26) h.r17
            (record { r18 = k.r18; r19 = k.r19; r20 = k.r20; r21 = k.r21; r22 = k.r22 }) (record { r15 = refl; r24 = refl; r25 = refl; is_base = inr (inl refl); letter_small = omega arith }, refl) refl),
        λ n2. (
          λ at.
              to_stage asked bank stay [] _ (4096 + 170) _ _ refl (asked_for s h.fuel e.regs.r4 h.taken h.count c (Number false 10 0x61) b stay h.is (ap kind_of at)) (omega (arith, paid)) (omega (arith, paid))
              (asks s todo h.fuel h.taken h.count c (Number false 10 0x61) b _ _ to_do (kept s h.fuel h.taken 1 e w _ refl refl w.r26) h.r17
              (record { r18 = k.r18; r19 = k.r19; r20 = k.r20; r21 = k.r21; r22 = k.r22 }) (record { r15 = refl; r24 = refl; r25 = refl; is_base = inr (inl refl); letter_small = omega arith }, refl) refl),
          λ n3. (
            λ at.
                to_stage asked bank stay [] _ (4096 + 170) _ _ refl (asked_for s h.fuel e.regs.r4 h.taken h.count c (Number false 8 0x61) b stay h.is (ap kind_of at)) (omega (arith, paid)) (omega (arith, paid))
                (asks s todo h.fuel h.taken h.count c (Number false 8 0x61) b _ _ to_do (kept s h.fuel h.taken 1 e w _ refl refl w.r26) h.r17
                (record { r18 = k.r18; r19 = k.r19; r20 = k.r20; r21 = k.r21; r22 = k.r22 }) (record { r15 = refl; r24 = refl; r25 = refl; is_base = inl refl; letter_small = omega arith }, refl) refl),
            λ n4. (
              λ at.
                  to_stage asked bank stay [] _ (4096 + 170) _ _ refl (asked_for s h.fuel e.regs.r4 h.taken h.count c (Number false 16 0x61) b stay h.is (ap kind_of at)) (omega (arith, paid)) (omega (arith, paid))
                  (asks s todo h.fuel h.taken h.count c (Number false 16 0x61) b _ _ to_do (kept s h.fuel h.taken 1 e w _ refl refl w.r26) h.r17
                  (record { r18 = k.r18; r19 = k.r19; r20 = k.r20; r21 = k.r21; r22 = k.r22 }) (record { r15 = refl; r24 = refl; r25 = refl; is_base = inr (inr refl); letter_small = omega arith }, refl) refl),
              λ n5. (
                λ at.
                    to_stage asked bank stay [] _ (4096 + 170) _ _ refl (asked_for s h.fuel e.regs.r4 h.taken h.count c (Number false 16 0x41) b stay h.is (ap kind_of at)) (omega (arith, paid)) (omega (arith, paid))
                    (asks s todo h.fuel h.taken h.count c (Number false 16 0x41) b _ _ to_do (kept s h.fuel h.taken 1 e w _ refl refl w.r26) h.r17
                    (record { r18 = k.r18; r19 = k.r19; r20 = k.r20; r21 = k.r21; r22 = k.r22 }) (record { r15 = refl; r24 = refl; r25 = refl; is_base = inr (inr refl); letter_small = omega arith }, refl) refl),
                λ n6. (
                  λ at.
                      to_stage asked bank stay [] _ (4096 + 170) _ _ refl (asked_for s h.fuel e.regs.r4 h.taken h.count c (Byte) b stay h.is (ap kind_of at)) (omega (arith, paid)) (omega (arith, paid))
                      (asks s todo h.fuel h.taken h.count c (Byte) b _ _ to_do (kept s h.fuel h.taken 1 e w _ refl refl w.r26) h.r17
                      (record { r18 = k.r18; r19 = k.r19; r20 = k.r20; r21 = k.r21; r22 = k.r22 }) (refl, refl, refl) refl),
                  λ n7. (
                    λ at.
                        to_stage asked bank stay [] _ (4096 + 170) _ _ refl (asked_for s h.fuel e.regs.r4 h.taken h.count c (Text) b stay h.is (ap kind_of at)) (omega (arith, paid)) (omega (arith, paid))
                        (asks s todo h.fuel h.taken h.count c (Text) b _ _ to_do (kept s h.fuel h.taken 1 e w _ refl refl w.r26) h.r17
                        (record { r18 = k.r18; r19 = k.r19; r20 = k.r20; r21 = k.r21; r22 = k.r22 }) refl refl),
                    λ n8.
                        let is : stay ≡ Write (b % 2 ^ 8) (print_format h.fuel s e.regs.r4 h.taken (h.count + 1) None) = asked_for s h.fuel e.regs.r4 h.taken h.count c Alone b stay h.is (alone b n1 n2 n3 n4 n5 n6 n7 n8) in
                        let counted = h.r17 in
                        rw w.r26 (printed_to asked bank stay [] (b % 2 ^ 8) b _ 4096 _ _ refl refl is (omega (arith, paid)) (omega (arith, paid)) (
                          turns h.fuel 0,
                          omega (arith, to_do),
                          record {
                            fuel = h.fuel;
                            taken = h.taken;
                            count = h.count + 1;
                            walk = loosened s h.fuel h.taken 1 e w _ refl refl refl;
                            r17 = omega (arith, counted);
                            is = refl;
                            to_do = omega arith;
                            paid = omega arith;
                          },
                        )),
                  ),
                ),
              ),
            ),
          ),
        ),
      ),
    )
