-- The spaces behind a text.
use Rattle.psx_flow.proofs.Kit.{◌≡◌, ℕ, ◌+◌, ◌-◌, ◌%◌, ◌^◌, ◌++◌, [], refl, ap, ◌∙◌, arith, Calls, calls, fair, kernel_words, start}
use Rattle.std.specs.Prelude.{None}
use Rattle.abs_kernel.specs.Stay.{Stay, Write}
use Rattle.abs_kernel.specs.Conversion.{spaces}
use Rattle.abs_kernel.specs.Printf.{writes, print_format}
use Rattle.kern_stay.specs.Shared.{tree, tested_there}
use Rattle.kern_stay.specs.Doors.{begun}
use Rattle.kern_stay.specs.Stages.{Asked, Leads, Less}
use Rattle.kern_stay.proofs.Staging.{to_stage, printed_to}
use Rattle.kern_printf.specs.Own.{own}
use Rattle.kern_printf.specs.declared.places.TheConstants as places
use Rattle.kern_printf.specs.declared.padding.TheConstants.{RIGHT_NODES}
use Rattle.kern_printf.specs.Walking.{turns}
use Rattle.kern_printf.specs.Interfaces.{interface, Does}
use Rattle.kern_printf.proofs.Bodies.{first_of}
use Rattle.kern_printf.proofs.Walks.{kept}
use Rattle.kern_printf.proofs.Counting.{counts_on, counts_all}

pub stage : Does places.RIGHT (tree RIGHT_NODES)
stage s todo bank stay e h =
    let C : Calls = calls kernel_words (own ++ tested_there) in
    let less : Asked = Less (interface s) todo in
    let on : Stay = print_format h.fuel s e.regs.r4 h.taken h.count None in
    start C (fair kernel_words (own ++ tested_there)) (tree RIGHT_NODES) places.RIGHT (λ _. ⊥) (λ to f. Leads less bank stay to f) (begun e.regs e.cop0 e.bytes) (
      λ z.
          let is : stay ≡ on = h.is ∙ ap (λ n. writes (spaces n) on) z in
          to_stage less bank stay [] stay 4096 places.FORMAT _ refl refl (omega (arith, h.paid)) (omega (arith, h.paid)) (
            turns h.fuel 0,
            omega (arith, h.to_do),
            record { fuel = h.fuel; taken = h.taken; count = h.count; walk = kept s h.fuel h.taken 0 e h.walk _ refl refl h.walk.r26; r17 = counts_all z h.r17; is = is; to_do = omega arith; paid = omega arith },
          ),
      λ nz.
          let n : ℕ = e.regs.r20 in
          let fewer : (n + 0xFFFFFFFF) % 2 ^ 32 ≡ n - 1 = omega (arith, nz, h.right_small) in
          let is : stay ≡ Write 0x20 (writes (spaces (n - 1)) on) = h.is ∙ first_of n 0x20 on nz in
          rw (h.walk.r26, fewer) (printed_to less bank stay [] 0x20 0x20 (writes (spaces (n - 1)) on) bank places.RIGHT _ refl refl is (omega (arith, h.paid)) (omega (arith, h.paid)) (
            turns h.fuel n,
            omega (arith, h.to_do, nz),
            record {
              fuel = h.fuel;
              taken = h.taken;
              count = h.count;
              walk = kept s h.fuel h.taken 0 e h.walk _ refl refl refl;
              r17 = counts_on (n - 1) (omega (arith, nz)) h.r17;
              right_small = omega (arith, h.right_small);
              is = refl;
              to_do = omega (arith, nz);
              paid = h.paid;
            },
          )),
    )
