-- The spaces before a text.
use Rattle.psx_flow.proofs.Kit.{◌≡◌, ℕ, ◌+◌, ◌-◌, ◌*◌, ◌%◌, ◌^◌, ◌++◌, [], refl, ap, ◌∙◌, arith, Calls, calls, fair, kernel_words, start}
use Rattle.std.specs.Prelude.{None}
use Rattle.abs_kernel.specs.Stay.{Stay, Write}
use Rattle.abs_kernel.specs.Conversion.{spaces}
use Rattle.abs_kernel.specs.Printf.{writes, print_format}
use Rattle.kern_stay.specs.Shared.{tree, tested_there}
use Rattle.kern_stay.specs.Doors.{begun}
use Rattle.kern_stay.specs.Stages.{Asked, Leads, Less}
use Rattle.kern_stay.proofs.Staging.{to_stage, printed_to}
use Rattle.kern_printf.specs.Own.{own}
use Rattle.kern_printf.specs.declared.places.TheConstants as places
use Rattle.kern_printf.specs.declared.padding.TheConstants.{LEFT_NODES}
use Rattle.kern_printf.specs.Texts.{shows, size_of, owed}
use Rattle.kern_printf.specs.Walking.{turns}
use Rattle.kern_printf.specs.Interfaces.{interface, Does}
use Rattle.kern_printf.proofs.Walks.{kept}
use Rattle.kern_printf.proofs.Counting.{counts_on, counts_as}
use Rattle.kern_printf.proofs.Bodies.{first_of, owed_few, has_on, to_body}

pub stage : Does places.LEFT (tree LEFT_NODES)
stage s todo bank stay e h =
    let C : Calls = calls kernel_words (own ++ tested_there) in
    let less : Asked = Less (interface s) todo in
    let n : ℕ = e.regs.r13 in
    let pays = owed_few h.body e h.has in
    let inner : Stay = shows h.body s (writes (spaces e.regs.r20) (print_format h.fuel s e.regs.r4 h.taken h.count None)) in
    start C (fair kernel_words (own ++ tested_there)) (tree LEFT_NODES) places.LEFT (λ _. ⊥) (λ to f. Leads less bank stay to f) (begun e.regs e.cop0 e.bytes) (
      λ z.
          to_stage less bank stay [] stay (4096 + 84 - 10 * owed h.body) e.regs.r30 _ refl refl (omega (arith, h.paid, pays)) (omega (arith, h.paid, pays))
          (to_body s todo (4096 + 84 - 10 * owed h.body) h.fuel h.taken h.count h.body stay _ (kept s h.fuel h.taken 0 e h.walk _ refl refl h.walk.r26) (counts_as _ (omega (arith, z)) h.r17) h.right_small
          (has_on e h.body _ h.has refl refl refl refl refl refl refl refl refl) (h.is ∙ ap (λ k. writes (spaces k) inner) z) (omega (arith, h.to_do)) (omega arith)),
      λ nz.
          let fewer : (n + 0xFFFFFFFF) % 2 ^ 32 ≡ n - 1 = omega (arith, nz, h.left_small) in
          let is : stay ≡ Write 0x20 (writes (spaces (n - 1)) inner) = h.is ∙ first_of n 0x20 inner nz in
          rw (h.walk.r26, fewer) (printed_to less bank stay [] 0x20 0x20 (writes (spaces (n - 1)) inner) bank places.LEFT _ refl refl is (omega (arith, h.paid, pays)) (omega (arith, h.paid, pays)) (
            turns h.fuel (0x300000 + (n - 1)),
            omega (arith, h.to_do, nz),
            record {
              fuel = h.fuel;
              taken = h.taken;
              count = h.count;
              body = h.body;
              walk = kept s h.fuel h.taken 0 e h.walk _ refl refl refl;
              r17 = counts_on (n - 1 + (size_of h.body + e.regs.r20)) (omega (arith, nz)) h.r17;
              left_small = omega (arith, h.left_small);
              right_small = h.right_small;
              has = has_on e h.body _ h.has refl refl refl refl refl refl refl refl refl;
              is = refl;
              to_do = omega arith;
              paid = h.paid;
            },
          )),
    )
