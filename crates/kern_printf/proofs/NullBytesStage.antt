-- NULL_BYTES writes the bytes that stand for a text at 0.
use Rattle.psx_flow.proofs.Kit.{◌≡◌, ℕ, suc, ◌+◌, ◌-◌, ◌*◌, ◌%◌, ◌^◌, ◌<◌, ◌≤◌, ◌++◌, List, [], ◌∷◌, refl, sym, ap, ◌∙◌, arith, Calls, calls, fair, kernel_words, start}
use Rattle.std.proofs.Common.{zero, ◌/◌}
use Rattle.std.specs.Prelude.{None, take, drop}
use Rattle.abs_kernel.specs.Stay.{Stay, Write}
use Rattle.abs_kernel.specs.Conversion.{spaces, null_text}
use Rattle.abs_kernel.specs.Printf.{writes, print_format}
use Rattle.kern_stay.specs.Shared.{tree, tested_there}
use Rattle.kern_stay.specs.Doors.{begun}
use Rattle.kern_stay.specs.Stages.{Asked, Leads, Less}
use Rattle.kern_stay.proofs.Staging.{to_stage, printed_to}
use Rattle.kern_printf.specs.Own.{own}
use Rattle.kern_printf.specs.declared.places.TheConstants as places
use Rattle.kern_printf.specs.declared.emission.TheConstants.{NULL_BYTES_NODES}
use Rattle.kern_printf.specs.Texts.{null_first, null_second}
use Rattle.kern_printf.specs.Walking.{turns}
use Rattle.kern_printf.specs.Interfaces.{interface, Does}
use Rattle.kern_printf.proofs.Walks.{kept}
use Rattle.kern_printf.proofs.Counting.{counts_on, counts_as}

-- the next byte, and the words behind it
record Next (passed size : ℕ) : Type 0 where
  text : take size (drop passed null_text) ≡ null_first passed / 2 ^ 24 ∷ take (size - 1) (drop (suc passed) null_text)
  first : (null_first passed * 2 ^ 8 % 2 ^ 32 + null_second passed / 2 ^ 24) % 2 ^ 32 ≡ null_first (suc passed)
  second : null_second passed * 2 ^ 8 % 2 ^ 32 ≡ null_second (suc passed)
  low : null_first passed / 2 ^ 24 < 2 ^ 8

more : (b : ℕ) (xs : List ℕ) (size : ℕ) → (size ≡ 0 → ⊥) → take size (b ∷ xs) ≡ b ∷ take (size - 1) xs
more b xs zero ne = absurd (ne refl)
more b xs (suc n) ne = let e : n ≡ suc n - 1 = omega arith in ap (λ k. b ∷ take k xs) e

next_byte : (passed size : ℕ) → passed + size ≤ 6 → (size ≡ 0 → ⊥) → Next passed size
next_byte zero size few ne = record { text = more 0x28 (drop 1 null_text) size ne; first = refl; second = refl; low = omega arith }
next_byte (suc zero) size few ne = record { text = more 0x6E (drop 2 null_text) size ne; first = refl; second = refl; low = omega arith }
next_byte (suc (suc zero)) size few ne = record { text = more 0x75 (drop 3 null_text) size ne; first = refl; second = refl; low = omega arith }
next_byte (suc (suc (suc zero))) size few ne = record { text = more 0x6C (drop 4 null_text) size ne; first = refl; second = refl; low = omega arith }
next_byte (suc (suc (suc (suc zero)))) size few ne = record { text = more 0x6C (drop 5 null_text) size ne; first = refl; second = refl; low = omega arith }
next_byte (suc (suc (suc (suc (suc zero))))) size few ne = record { text = more 0x29 [] size ne; first = refl; second = refl; low = omega arith }
next_byte (suc (suc (suc (suc (suc (suc n)))))) size few ne = absurd (omega (arith, few, ne))

pub stage : Does places.NULL_BYTES (tree NULL_BYTES_NODES)
stage s todo bank stay e h =
    let C : Calls = calls kernel_words (own ++ tested_there) in
    let asked : Asked = Less (interface s) todo in
    let on : Stay = writes (spaces e.regs.r20) (print_format h.fuel s e.regs.r4 h.taken h.count None) in
    let n : ℕ = h.size in
    let p : ℕ = h.passed in
    let has = h.has in
    start C (fair kernel_words (own ++ tested_there)) (tree NULL_BYTES_NODES) places.NULL_BYTES (λ _. ⊥) (λ to f. Leads asked bank stay to f) (begun e.regs e.cop0 e.bytes) (
      λ none.
          let z : n ≡ 0 = sym has.r10 ∙ none in
          to_stage asked bank stay [] stay (4096 + 50) places.RIGHT _ refl refl (omega (arith, h.paid)) (omega (arith, h.paid)) (
            turns h.fuel (1 + e.regs.r20),
            omega (arith, h.to_do, h.right_small),
            record {
              fuel = h.fuel;
              taken = h.taken;
              count = h.count;
              walk = kept s h.fuel h.taken 0 e h.walk _ refl refl h.walk.r26;
              r17 = counts_as e.regs.r20 (omega (arith, z)) h.r17;
              right_small = h.right_small;
              is = h.is ∙ ap (λ k. writes (take k (drop p null_text)) on) z;
              to_do = omega arith;
              paid = omega arith;
            },
          ),
      λ some.
          let ne : n ≡ 0 → ⊥ = λ z. some (has.r10 ∙ z) in
          let b = next_byte p n has.few ne in
          let v : ℕ = null_first p / 2 ^ 24 in
          let fewer : (e.regs.r10 + 0xFFFFFFFF) % 2 ^ 32 ≡ n - 1 = omega (arith, has.r10, some, has.few) in
          let is : stay ≡ Write v (writes (take (n - 1) (drop (suc p) null_text)) on) = h.is ∙ ap (λ t. writes t on) b.text in
          rw (h.walk.r26, fewer, has.r9, has.r25, b.first, b.second) (printed_to asked bank stay [] v v (writes (take (n - 1) (drop (suc p) null_text)) on) bank places.NULL_BYTES _ refl (omega (arith, b.low)) is (omega (arith, h.paid)) (omega (arith, h.paid)) (
            turns h.fuel (0x1000 + (n - 1)),
            omega (arith, h.to_do, has.r10, some),
            record {
              fuel = h.fuel;
              taken = h.taken;
              count = h.count;
              passed = suc p;
              size = n - 1;
              walk = kept s h.fuel h.taken 0 e h.walk _ refl refl refl;
              r17 = counts_on (n - 1 + e.regs.r20) (omega (arith, has.r10, some)) h.r17;
              right_small = h.right_small;
              has = record { r10 = refl; r9 = refl; r25 = refl; r30 = has.r30; few = omega (arith, has.few, has.r10, some) };
              is = refl;
              to_do = omega arith;
              paid = h.paid;
            },
          )),
    )
