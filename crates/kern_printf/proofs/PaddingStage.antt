-- PADDING says how many spaces stand on either side.
use Rattle.psx_flow.proofs.Kit.{◌≡◌, ℕ, ◌+◌, ◌-◌, ◌*◌, ◌%◌, ◌^◌, ◌≤◌, ◌++◌, [], true, false, refl, ap, ◌∙◌, arith, Run, Calls, calls, fair, kernel_words, start}
use Rattle.std.specs.Prelude.{None, if◌then◌else◌}
use Rattle.psx_base.specs.KernelState.{KernelState}
use Rattle.abs_kernel.specs.Stay.{Stay}
use Rattle.abs_kernel.specs.Conversion.{spaces}
use Rattle.abs_kernel.specs.Printf.{writes, print_format}
use Rattle.kern_stay.specs.Shared.{tree, tested_there}
use Rattle.kern_stay.specs.Doors.{begun}
use Rattle.kern_stay.specs.Stages.{Asked, Leads, Less}
use Rattle.kern_stay.proofs.RoomGiven.{true_then, false_then}
use Rattle.kern_stay.proofs.Staging.{to_stage}
use Rattle.kern_printf.specs.Own.{own}
use Rattle.kern_printf.specs.declared.places.TheConstants as places
use Rattle.kern_printf.specs.declared.padding.TheConstants.{PADDING_NODES}
use Rattle.kern_printf.specs.Texts.{Has, shows, size_of, owed, between}
use Rattle.kern_printf.specs.Walking.{Walk, turns}
use Rattle.kern_printf.specs.Writing.{AtPadding}
use Rattle.kern_printf.specs.Interfaces.{interface, Does}
use Rattle.kern_printf.proofs.Walks.{kept}
use Rattle.kern_printf.proofs.Bodies.{is_true, is_false, owed_few, has_on}

-- with the spaces in r13 and r20
leaves : (s : KernelState) (todo bank : ℕ) (stay : Stay) (e : Run) (h : AtPadding s todo bank stay e) (f : Run) → Walk s h.fuel h.taken 0 f → Has h.body f → f.regs.r17 ≡ e.regs.r17
    → f.regs.r13 + f.regs.r20 ≡ h.width - size_of h.body → stay ≡ between f.regs.r13 f.regs.r20 h.body s (print_format h.fuel s f.regs.r4 h.taken h.count None)
    → Less (interface s) todo places.LEFT (4096 + 88 - 10 * owed h.body) stay f
leaves s todo bank stay e h f walk has r17 room is = (
  turns h.fuel 0x600000,
  omega (arith, h.to_do),
  record {
    fuel = h.fuel;
    taken = h.taken;
    count = h.count;
    body = h.body;
    walk = walk;
    r17 = record { small = omega (arith, r17, h.r17.small); all = omega (arith, r17, room, h.r17.all) };
    left_small = omega (arith, room, h.width_small);
    right_small = omega (arith, room, h.width_small);
    has = has;
    is = is;
    to_do = omega (arith, room, h.width_small);
    paid = omega arith;
  },
)

pub stage : Does places.PADDING (tree PADDING_NODES)
stage s todo bank stay e h =
    let C : Calls = calls kernel_words (own ++ tested_there) in
    let asked : Asked = Less (interface s) todo in
    let on : Stay = print_format h.fuel s e.regs.r4 h.taken h.count None in
    let pays = owed_few h.body e h.has in
    let room : ℕ = h.width - size_of h.body in
    let right : h.on_left ≡ true → stay ≡ between 0 room h.body s on = λ q. h.is ∙ ap (λ t. if t then shows h.body s (writes (spaces room) on) else writes (spaces room) (shows h.body s on)) q in
    let left : h.on_left ≡ false → stay ≡ between room 0 h.body s on = λ q. h.is ∙ ap (λ t. if t then shows h.body s (writes (spaces room) on) else writes (spaces room) (shows h.body s on)) q in
    let walk : (f : Run) → f.bytes ≡ e.bytes → f.regs ≡ record f.regs { r4 = e.regs.r4; r5 = e.regs.r5; r6 = e.regs.r6; r7 = e.regs.r7; r14 = e.regs.r14; r16 = e.regs.r16; r29 = e.regs.r29 } → f.regs.r26 ≡ e.regs.r26 → Walk s h.fuel h.taken 0 f
    = λ f m k port. kept s h.fuel h.taken 0 e h.walk f m k (port ∙ h.walk.r26) in
    let few : e.regs.r20 ≤ 255 = omega (arith, h.r20, h.width_small) in
    start C (fair kernel_words (own ++ tested_there)) (tree PADDING_NODES) places.PADDING (λ _. ⊥) (λ to f. Leads asked bank stay to f) (begun e.regs e.cop0 e.bytes) (
      λ tight.
          let le = false_then e.regs.r12 e.regs.r20 tight in
          let none : room ≡ 0 = omega (arith, le, h.r12, h.r20) in (
            λ on_right.
                to_stage asked bank stay [] stay _ places.LEFT _ refl refl (omega (arith, h.paid, pays)) (omega (arith, h.paid, pays)) (leaves s todo bank stay e h _ (walk _ refl refl refl)
                (has_on e h.body _ h.has refl refl refl refl refl refl refl refl refl) refl (omega (arith, none)) (left (is_false h.on_left e.regs.r18 h.r18 on_right) ∙ ap (λ k. between k 0 h.body s on) none)),
            λ on_left.
                to_stage asked bank stay [] stay _ places.LEFT _ refl refl (omega (arith, h.paid, pays)) (omega (arith, h.paid, pays)) (leaves s todo bank stay e h _ (walk _ refl refl refl)
                (has_on e h.body _ h.has refl refl refl refl refl refl refl refl refl) refl (omega (arith, none)) (right (is_true h.on_left e.regs.r18 h.r18 on_left) ∙ ap (λ k. between 0 k h.body s on) none)),
          ),
      λ roomy.
          let lt = true_then e.regs.r12 e.regs.r20 roomy in
          let some : (e.regs.r20 + 2 ^ 32 - e.regs.r12) % 2 ^ 32 ≡ room = omega (arith, lt, few, h.r12, h.r20) in
          rw some (
            λ on_right.
                to_stage asked bank stay [] stay _ places.LEFT _ refl refl (omega (arith, h.paid, pays)) (omega (arith, h.paid, pays)) (leaves s todo bank stay e h _ (walk _ refl refl refl)
                (has_on e h.body _ h.has refl refl refl refl refl refl refl refl refl) refl (omega arith) (left (is_false h.on_left e.regs.r18 h.r18 on_right))),
            λ on_left.
                to_stage asked bank stay [] stay _ places.LEFT _ refl refl (omega (arith, h.paid, pays)) (omega (arith, h.paid, pays)) (leaves s todo bank stay e h _ (walk _ refl refl refl)
                (has_on e h.body _ h.has refl refl refl refl refl refl refl refl refl) refl (omega arith) (right (is_true h.on_left e.regs.r18 h.r18 on_left))),
          ),
    )
