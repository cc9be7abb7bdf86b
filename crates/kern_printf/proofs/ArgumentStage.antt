-- ARGUMENT takes an argument.
use Rattle.psx_flow.proofs.Kit.{◌≡◌, ℕ, ◌+◌, ◌*◌, ◌%◌, ◌^◌, ◌<◌, ◌≤◌, ◌++◌, [], ◌∷◌, refl, sym, ap, ◌∙◌, arith, true, false, Run, Calls, calls, place, kernel_words, start}
use Rattle.std.proofs.Common.{None}
use Rattle.std.specs.Prelude.{nat_lt, if◌then◌else◌}
use Rattle.std.proofs.lemmas.Bool.{lt-ltb}
use Rattle.abs_kernel.specs.Stay.{Stay, Touch}
use Rattle.abs_kernel.specs.Answered.{registers_of}
use Rattle.abs_kernel.specs.UserBytes.{bad_pointer}
use Rattle.abs_kernel.specs.Conversion.{Conversion}
use Rattle.abs_kernel.specs.Printf.{print_format}
use Rattle.kern_stay.specs.Shared.{tree, tested_there}
use Rattle.kern_stay.specs.Doors.{begun}
use Rattle.kern_stay.specs.Stages.{Leads, Less, Asked}
use Rattle.kern_stay.proofs.RoomGiven.{true_then, false_then}
use Rattle.kern_stay.proofs.Passing.{refuses_last}
use Rattle.kern_stay.proofs.Staging.{to_door, to_stage}
use Rattle.kern_printf.specs.Own.{own}
use Rattle.kern_printf.specs.Walking.{Walk, HasConversion}
use Rattle.kern_printf.specs.Taking.{HasKind}
use Rattle.kern_printf.specs.Interfaces.{interface, Does}
use Rattle.kern_printf.specs.declared.places.TheConstants as places
use Rattle.psx_base.specs.Registers.{Registers}
use Rattle.psx_base.specs.Memory.{word}
use Rattle.psx_flow.proofs.Knows.{Knows}
use Rattle.kern_stay.proofs.Accessing.{knows_accesses, places as four}
use Rattle.kern_stay.proofs.UserWords.{good_is, word_is}
use Rattle.abs_kernel.specs.UserWords.{user_word, reads_word}
use Rattle.abs_kernel.specs.Printf.{argument, argument_register}
use Rattle.kern_printf.specs.declared.kind.TheConstants.{ARGUMENT_NODES}
use Rattle.kern_printf.proofs.Walks.{took}
use Rattle.kern_printf.proofs.ArgumentGiven.{on_value, takes_one, same_kind, to_taker, third}

pub stage : Does places.ARGUMENT (tree ARGUMENT_NODES)
stage s todo bank stay e h =
    let C : Calls = calls kernel_words (own ++ tested_there) in
    let know : Knows four C = knows_accesses own refl in
    let asked : Asked = Less (interface s) todo in
    let w = h.walk in
    let c : Conversion = h.c in
    let k = h.conversion in
    let r : Registers = registers_of s in
    let on : ℕ → ℕ → Stay = λ t n. print_format h.fuel s e.regs.r4 t n None in
    let next : ℕ → Stay = on_value h.kind c s h.taken h.count on in
    let paid = h.paid in
    let x : ℕ = ((e.regs.r16 * 2 ^ 2 % 2 ^ 32 + 4) % 2 ^ 32 + e.regs.r29) % 2 ^ 32 in
    let at : ℕ = (r.r29 + 4 * (h.taken + 1)) % 2 ^ 32 in
    let r16 = w.r16 in
    let r29 = w.r29 in
    let same : at ≡ x = omega (arith, r16, r29) in
    let read : Stay = reads_word s at (λ v. next (v % 2 ^ 32)) in
    let begins : stay ≡ argument s h.taken next = h.is ∙ takes_one h.kind e c s h.byte h.taken h.count on h.kind_is in
    let taker : (rest : Stay) (f : Run) → Walk s h.fuel (h.taken + 1) 0 f → f.regs.r17 ≡ h.count % 2 ^ 32 → HasConversion c f → HasKind h.kind f → f.regs.r9 < 2 ^ 32
    → rest ≡ on_value h.kind c s h.taken h.count (λ t n. print_format h.fuel s f.regs.r4 t n None) f.regs.r9 → Less (interface s) todo f.regs.r30 (4096 + 155) rest f
    = λ rest f w n k kind small is. to_taker s todo h.fuel h.taken h.count c h.kind rest f h.to_do w n k kind small is in
    start C know.fair (tree ARGUMENT_NODES) places.ARGUMENT (λ _. ⊥) (λ to f. Leads asked bank stay to f) (begun e.regs e.cop0 e.bytes) (
      λ in_memory.
          let many : 3 ≤ e.regs.r16 = false_then _ _ in_memory in
          let known : stay ≡ read = begins ∙ ap (λ y. if y then next (argument_register r h.taken) else read) (not_below h.taken 3 (omega (arith, many, r16))) in
          know.read_word _ _ _ _ _ _ _ (omega arith) record {
            good = λ g y z. (
              λ none. absurd (omega (arith, none)),
              λ some.
                  let u : user_word x ≡ true = sym (good_is x) ∙ g in
                  let v : ℕ = word e.bytes (place x) in
                  let cut : v * 2 ^ 0 % 2 ^ 32 ≡ v % 2 ^ 32 = omega arith in
                  let is : stay ≡ Touch 4 (next (v * 2 ^ 0 % 2 ^ 32)) = known ∙ ap (λ a. reads_word s a (λ v. next (v % 2 ^ 32))) same ∙ ap (λ y. Touch 4 (if y then next (word s.memory (place x) % 2 ^ 32) else bad_pointer s x)) u
                  ∙ ap (λ v. Touch 4 (next (v % 2 ^ 32))) (sym (word_is s e.bytes w.holds x u)) ∙ ap (λ v. Touch 4 (next v)) (sym cut) in
                  to_stage asked bank stay (4 ∷ []) (next (v * 2 ^ 0 % 2 ^ 32)) (4096 + 155) e.regs.r30 _ refl is (omega (arith, paid)) (omega (arith, paid))
                  (taker _ _ (took s h.fuel h.taken 1 e w refl _ refl refl) h.r17 (record { r18 = k.r18; r19 = k.r19; r20 = k.r20; r21 = k.r21; r22 = k.r22 }) (same_kind h.kind e _ h.kind_is refl refl refl refl) (omega arith) refl),
            );
            bad = λ b y z. (
              λ none.
                  let is : stay ≡ Touch 4 (bad_pointer s x) = known ∙ ap (λ a. reads_word s a (λ v. next (v % 2 ^ 32))) same ∙ ap (λ y. Touch 4 (if y then next (word s.memory (place x) % 2 ^ 32) else bad_pointer s x)) (sym (good_is x) ∙ b) in
                  to_door asked bank stay _ _ refl (refuses_last s 4 bank _ stay is w.holds (omega (arith, paid))),
              λ some. absurd (some refl),
            );
          },
      λ in_register.
          let few : e.regs.r16 < 3 = true_then _ _ in_register in
          let known : stay ≡ next (argument_register r h.taken) = begins ∙ ap (λ y. if y then next (argument_register r h.taken) else read) (lt-ltb h.taken 3 (omega (arith, few, r16))) in
          let r5 = w.r5 in
          let r6 = w.r6 in
          let r7 = w.r7 in
          let s5 : r.r5 < 2 ^ 32 = w.words 5 in
          let s6 : r.r6 < 2 ^ 32 = w.words 6 in
          let s7 : r.r7 < 2 ^ 32 = w.words 7 in
          let small5 : e.regs.r5 < 2 ^ 32 = omega (arith, s5, r5) in
          let small6 : e.regs.r6 < 2 ^ 32 = omega (arith, s6, r6) in
          let small7 : e.regs.r7 < 2 ^ 32 = omega (arith, s7, r7) in (
            λ n0. (
              λ n1.
                  let is : stay ≡ next e.regs.r7 = known ∙ ap next (third r h.taken (λ q. n0 (r16 ∙ q)) (λ q. n1 (r16 ∙ q)) ∙ sym r7) in
                  to_stage asked bank stay [] (next e.regs.r7) (4096 + 155) e.regs.r30 _ refl is (omega (arith, paid)) (omega (arith, paid)) (taker _ _ (took s h.fuel h.taken 1 e w refl _ refl refl) h.r17
                  (record { r18 = k.r18; r19 = k.r19; r20 = k.r20; r21 = k.r21; r22 = k.r22 }) (same_kind h.kind e _ h.kind_is refl refl refl refl) small7 refl),
              λ one.
                  let is : stay ≡ next e.regs.r6 = known ∙ ap next (ap (argument_register r) (sym r16 ∙ one) ∙ sym r6) in
                  to_stage asked bank stay [] (next e.regs.r6) (4096 + 155) e.regs.r30 _ refl is (omega (arith, paid)) (omega (arith, paid)) (taker _ _ (took s h.fuel h.taken 1 e w refl _ refl refl) h.r17
                  (record { r18 = k.r18; r19 = k.r19; r20 = k.r20; r21 = k.r21; r22 = k.r22 }) (same_kind h.kind e _ h.kind_is refl refl refl refl) small6 refl),
            ),
            λ z.
                let is : stay ≡ next e.regs.r5 = known ∙ ap next (ap (argument_register r) (sym r16 ∙ z) ∙ sym r5) in
                to_stage asked bank stay [] (next e.regs.r5) (4096 + 155) e.regs.r30 _ refl is (omega (arith, paid)) (omega (arith, paid)) (taker _ _ (took s h.fuel h.taken 1 e w refl _ refl refl) h.r17
                (record { r18 = k.r18; r19 = k.r19; r20 = k.r20; r21 = k.r21; r22 = k.r22 }) (same_kind h.kind e _ h.kind_is refl refl refl refl) small5 refl),
          ),
    )
  where
    not_below : (a b : ℕ) → b ≤ a → nat_lt a b ≡ false
    not_below a b h = grind arith
