-- The bits of a branch and of a jump, found again from the target that is printed.
use Rattle.std.proofs.Common.{◌≡◌, ℕ, ◌+◌, ◌-◌, ◌*◌, ◌/◌, ◌%◌, ◌^◌, ◌<◌, ◌≤◌, pos, Bool, true, false, ◌&&◌, ◌==◌, nat_lt, nat_le, cond, Some, None, refl, sym, ap, ◌∙◌, ⊎_elim, arith}
use Rattle.std.proofs.lemmas.Bool.{cond-true, cond-false, cases_lt, lt-ltb, le-ltb, le-leb, lt-leb, ltb-true, leb-true, eq-eqb, and_from}
use Rattle.psx_asm.specs.Numbers.{low_word}
use Rattle.psx_asm.specs.Encoding.{branch_bits, jump_bits}
use Rattle.psx_dis.specs.Targets.{branch_target, jump_target}

if_some : (b : Bool) (x n : ℕ) → cond b (Some x) None ≡ Some n → (b ≡ true) × (x ≡ n)
if_some true x n e = (refl, cc)
if_some false x n e = cc

forward_bits : (slot imm target : ℕ) → slot % 4 ≡ 0 → imm < 2 ^ 15 → slot + 4 * imm ≡ target → branch_bits slot target ≡ Some imm
forward_bits slot imm target multiple low e =
    cond-true (target % 4 == 0) _ _ (eq-eqb (target % 4) 0 (omega arith)) ∙ cond-true (nat_le slot target) _ _ (le-leb slot target (omega arith))
    ∙ cond-true (nat_le (target - slot) (4 * 32767)) _ _ (le-leb (target - slot) (4 * 32767) (omega arith)) ∙ ap Some (omega arith)

backward_bits : (slot imm target : ℕ) → slot % 4 ≡ 0 → 2 ^ 15 ≤ imm → imm < 2 ^ 16 → 4 * (2 ^ 16 - imm) ≤ slot → slot - 4 * (2 ^ 16 - imm) ≡ target → branch_bits slot target ≡ Some imm
backward_bits slot imm target multiple high small within e =
    cond-true (target % 4 == 0) _ _ (eq-eqb (target % 4) 0 (omega arith)) ∙ cond-false (nat_le slot target) _ _ (lt-leb slot target (omega arith))
    ∙ cond-true (nat_le (slot - target) (4 * 32768)) _ _ (le-leb (slot - target) (4 * 32768) (omega arith)) ∙ ap Some (omega arith)

branch_found : (slot imm target : ℕ) → slot % 4 ≡ 0 → slot ≤ 2 ^ 32 → imm < 2 ^ 16 → branch_target slot imm ≡ Some target → (target < 2 ^ 32) × (branch_bits slot target ≡ Some imm)
branch_found slot imm target multiple end small e = ⊎_elim
    (λ low.
    let there = if_some (nat_lt (slot + 4 * imm) (2 ^ 32)) (slot + 4 * imm) target (sym (cond-true (nat_lt imm (2 ^ 15)) _ _ (lt-ltb imm (2 ^ 15) low)) ∙ e) in
    let below = ltb-true (slot + 4 * imm) (2 ^ 32) there.0 in
    (omega (arith, there.1), forward_bits slot imm target multiple low there.1))
    (λ high.
    let there = if_some (nat_le (4 * (2 ^ 16 - imm)) slot) (slot - 4 * (2 ^ 16 - imm)) target (sym (cond-false (nat_lt imm (2 ^ 15)) _ _ (le-ltb imm (2 ^ 15) high)) ∙ e) in
    let within = leb-true (4 * (2 ^ 16 - imm)) slot there.0 in
    (omega (arith, there.1), backward_bits slot imm target multiple high small within there.1)) (cases_lt imm (2 ^ 15))

pub branch_back : (slot imm target : ℕ) → slot % 4 ≡ 0 → slot ≤ 2 ^ 32 → imm < 2 ^ 16 → branch_target slot imm ≡ Some target → branch_bits slot (low_word (pos target)) ≡ Some imm
branch_back slot imm target multiple end small e =
    let there = branch_found slot imm target multiple end small e in
    let same : low_word (pos target) ≡ target = omega (arith, there.0) in
    ap (branch_bits slot) same ∙ there.1

region_bits : (slot r n : ℕ) → slot % 2 ^ 32 / 2 ^ 28 ≡ r → r < 16 → n < 2 ^ 26 → jump_bits slot ((r * 2 ^ 28 + n * 4) % 2 ^ 32) ≡ Some n
region_bits slot r n region below small =
    let target : ℕ = (r * 2 ^ 28 + n * 4) % 2 ^ 32 in
    let same : target ≡ r * 2 ^ 28 + n * 4 = omega arith in
    let here : target / 2 ^ 28 ≡ slot % 2 ^ 32 / 2 ^ 28 = omega arith in
    cond-true (target % 4 == 0 && target / 2 ^ 28 == slot % 2 ^ 32 / 2 ^ 28) _ _
    (and_from (target % 4 == 0) (target / 2 ^ 28 == slot % 2 ^ 32 / 2 ^ 28) (eq-eqb (target % 4) 0 (omega arith)) (eq-eqb (target / 2 ^ 28) (slot % 2 ^ 32 / 2 ^ 28) here)) ∙ ap Some (omega arith)

pub jump_back : (slot n : ℕ) → n < 2 ^ 26 → jump_bits slot (low_word (pos (jump_target slot n))) ≡ Some n
jump_back slot n small = region_bits slot (slot % 2 ^ 32 / 2 ^ 28) n refl (omega arith) small
