-- The walk over the format begins at its first byte.
use Rattle.psx_flow.proofs.Kit.{◌≡◌, ℕ, ◌+◌, ◌%◌, ◌^◌, ◌<◌, ◌≤◌, sym, ap, ◌∙◌, subst, arith, Run}
use Rattle.std.proofs.Common.{None}
use Rattle.psx_base.specs.KernelState.{KernelState}
use Rattle.abs_kernel.specs.Stay.{Stay}
use Rattle.abs_kernel.specs.Answered.{registers_of}
use Rattle.abs_kernel.specs.UserBytes.{longest}
use Rattle.abs_kernel.specs.Printf.{print_format}
use Rattle.kern_stay.specs.Room.{room}
use Rattle.kern_stay.specs.Stages.{Less}
use Rattle.kern_stay.proofs.RoomLeft.{room_is_left}
use Rattle.kern_printf.specs.Walking.{Walk, turns, AtPrintf}
use Rattle.kern_printf.specs.Interfaces.{interface}
use Rattle.kern_printf.specs.declared.places.TheConstants as places
use Rattle.kern_stay.specs.Doors.{Holds}
use Rattle.kern_stay.proofs.RoomLeft.{room_few}

room_short : (a : ℕ) → room a + 1 ≤ longest
unfolding longest
room_short a = let h = room_few a in omega (arith, h)

pub first : (s : KernelState) {todo bank : ℕ} {stay : Stay} (e : Run) → AtPrintf s todo bank stay e → (f : Run) → f.bytes ≡ e.bytes
    → f.regs ≡ record f.regs { r4 = e.regs.r4; r5 = e.regs.r5; r6 = e.regs.r6; r7 = e.regs.r7; r14 = (e.regs.r4 + room e.regs.r4) % 2 ^ 32; r16 = 0; r26 = 0x1F800000; r29 = e.regs.r29 } → Walk s longest 0 0 f
first s e h f m k =
    let a : ℕ = (registers_of s).r4 in
    let small : a < 2 ^ 32 = h.words 4 in
    let end = (room_is_left a small).within in
    let r4 : f.regs.r4 ≡ a = ap (λ r. r.r4) k ∙ h.r4 in
    let r14 : f.regs.r14 ≡ (a + room a) % 2 ^ 32 = ap (λ r. r.r14) k ∙ ap (λ y. (y + room y) % 2 ^ 32) h.r4 in
    let few = room_short a in
    record {
      holds = subst (λ y. Holds s y) (sym m) h.holds;
      words = h.words;
      begins = omega (arith, r4);
      ends = omega (arith, r4, r14, end);
      enough = omega (arith, r4, few);
      few = omega arith;
      r14 = r14;
      r5 = ap (λ r. r.r5) k ∙ h.r5;
      r6 = ap (λ r. r.r6) k ∙ h.r6;
      r7 = ap (λ r. r.r7) k ∙ h.r7;
      r29 = ap (λ r. r.r29) k ∙ h.r29;
      r16 = ap (λ r. r.r16) k;
      r26 = ap (λ r. r.r26) k;
    }

pub at_first : (s : KernelState) (todo : ℕ) (e : Run) → e.regs.r4 ≡ (registers_of s).r4 → (f : Run) → turns longest 1 ≤ todo → Walk s longest 0 0 f → f.regs.r4 ≡ e.regs.r4 → f.regs.r17 ≡ 0
    → Less (interface s) todo places.FORMAT 4096 (print_format longest s e.regs.r4 0 0 None) f
at_first s todo e same f more w r4 r17 = (
  turns longest 0,
  omega (arith, more),
  record { fuel = longest; taken = 0; count = 0; walk = w; r17 = r17; is = ap (λ y. print_format longest s y 0 0 None) (sym r4); to_do = omega arith; paid = omega arith },
)
