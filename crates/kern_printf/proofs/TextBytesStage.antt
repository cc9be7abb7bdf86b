-- TEXT_BYTES writes the bytes of a text.
use Rattle.psx_flow.proofs.Kit.{◌≡◌, ℕ, suc, ◌+◌, ◌-◌, ◌%◌, ◌^◌, ◌++◌, [], ◌∷◌, true, refl, sym, ap, ◌∙◌, arith, byte, place, user, Calls, calls, fair, kernel_words, start}
use Rattle.std.proofs.Common.{zero}
use Rattle.std.specs.Prelude.{None, if◌then◌else◌}
use Rattle.psx_base.specs.KernelState.{KernelState}
use Rattle.psx_flow.proofs.Users.{sort_user}
use Rattle.abs_kernel.specs.Stay.{Stay, Write, Touch}
use Rattle.abs_kernel.specs.UserBytes.{bad_pointer, following}
use Rattle.abs_kernel.specs.Conversion.{spaces}
use Rattle.abs_kernel.specs.Printf.{writes, writes_from, print_format}
use Rattle.kern_stay.specs.Shared.{tree, tested_there}
use Rattle.kern_stay.specs.Doors.{begun}
use Rattle.kern_stay.specs.Stages.{Asked, Leads, Less}
use Rattle.kern_stay.proofs.Ending.{user_byte}
use Rattle.kern_stay.proofs.Staging.{to_stage, printed_to}
use Rattle.kern_printf.specs.Own.{own}
use Rattle.kern_printf.specs.declared.places.TheConstants as places
use Rattle.kern_printf.specs.declared.emission.TheConstants.{TEXT_BYTES_NODES}
use Rattle.kern_printf.specs.Walking.{turns}
use Rattle.kern_printf.specs.Interfaces.{interface, Does}
use Rattle.kern_printf.proofs.Walks.{kept}
use Rattle.kern_printf.proofs.Counting.{counts_on, counts_as}

-- the first byte of a text in user memory
first_byte : (n : ℕ) (s : KernelState) (at : ℕ) (next : Stay) → (n ≡ 0 → ⊥) → user at ≡ true → writes_from n s at next ≡ Touch 1 (Write (byte s.memory (place at) % 2 ^ 8) (writes_from (n - 1) s (following at) next))
first_byte zero s at next ne u = absurd (ne refl)
first_byte (suc n) s at next ne u =
    let e : n ≡ suc n - 1 = omega arith in
    ap (λ b. Touch 1 (if b then Write (byte s.memory (place at) % 2 ^ 8) (writes_from n s (following at) next) else bad_pointer s at)) u
    ∙ ap (λ k. Touch 1 (Write (byte s.memory (place at) % 2 ^ 8) (writes_from k s (following at) next))) e

pub stage : Does places.TEXT_BYTES (tree TEXT_BYTES_NODES)
stage s todo bank stay e h =
    let C : Calls = calls kernel_words (own ++ tested_there) in
    let asked : Asked = Less (interface s) todo in
    let on : Stay = writes (spaces e.regs.r20) (print_format h.fuel s e.regs.r4 h.taken h.count None) in
    let n : ℕ = h.size in
    let x : ℕ = e.regs.r9 in
    let has = h.has in
    start C (fair kernel_words (own ++ tested_there)) (tree TEXT_BYTES_NODES) places.TEXT_BYTES (λ _. ⊥) (λ to f. Leads asked bank stay to f) (begun e.regs e.cop0 e.bytes) (
      λ none.
          let z : n ≡ 0 = sym has.r10 ∙ none in
          to_stage asked bank stay [] stay (4096 + 50) places.RIGHT _ refl refl (omega (arith, h.paid)) (omega (arith, h.paid)) (
            turns h.fuel (1 + e.regs.r20),
            omega (arith, h.to_do, h.right_small),
            record {
              fuel = h.fuel;
              taken = h.taken;
              count = h.count;
              walk = kept s h.fuel h.taken 0 e h.walk _ refl refl h.walk.r26;
              r17 = counts_as e.regs.r20 (omega (arith, z)) h.r17;
              right_small = h.right_small;
              is = h.is ∙ ap (λ k. writes_from k s x on) z;
              to_do = omega arith;
              paid = omega arith;
            },
          ),
      λ some.
          let ne : n ≡ 0 → ⊥ = λ z. some (has.r10 ∙ z) in
          let u : user x ≡ true = has.good x (omega arith) (omega (arith, has.r10, some)) in
          let here : (x + 0) % 2 ^ 32 ≡ x = omega (arith, has.ends) in
          let v : ℕ = byte e.bytes (place x) in
          let same : v ≡ byte s.memory (place x) = user_byte s e.bytes h.walk.holds x u in
          let fewer : (e.regs.r10 + 0xFFFFFFFF) % 2 ^ 32 ≡ n - 1 = omega (arith, has.r10, some, has.few) in
          let next : following x ≡ x + 1 = omega (arith, has.r10, some, has.ends) in
          let is : stay ≡ Touch 1 (Write (v % 2 ^ 8) (writes_from (n - 1) s (following x) on)) = h.is ∙ first_byte n s x on ne u ∙ ap (λ b. Touch 1 (Write (b % 2 ^ 8) (writes_from (n - 1) s (following x) on))) (sym same) in
          rw (here, sort_user x u, h.walk.r26, fewer) (printed_to asked bank stay (1 ∷ []) (v % 2 ^ 8) v (writes_from (n - 1) s (following x) on) bank places.TEXT_BYTES _ refl refl is (omega (arith, h.paid)) (omega (arith, h.paid)) (
            turns h.fuel (0x1000 + (n - 1)),
            omega (arith, h.to_do, has.r10, some),
            record {
              fuel = h.fuel;
              taken = h.taken;
              count = h.count;
              size = n - 1;
              walk = kept s h.fuel h.taken 0 e h.walk _ refl refl refl;
              r17 = counts_on (n - 1 + e.regs.r20) (omega (arith, has.r10, some)) h.r17;
              right_small = h.right_small;
              has = record { r10 = refl; r9 = refl; r30 = has.r30; good = λ y low high. has.good y (omega (arith, low, next)) (omega (arith, high, next, has.r10, some)); few = omega (arith, has.few); ends = omega (arith, next, has.ends, has.r10, some) };
              is = refl;
              to_do = omega arith;
              paid = h.paid;
            },
          )),
    )
