use Rattle.std.proofs.Common.{◌≡◌, ℕ, ◌+◌, ◌-◌, ◌*◌, ◌/◌, ◌<◌, List, length, get_or, set, ap, ◌∙◌, arith, below_more, get_or-set_same, get_or-set_other}
use Rattle.std.proofs.lemmas.List.{length-set}
use Rattle.kern_layout.specs.BlockWords.{block_word}
use Rattle.kern_layout.specs.Opening.{opening_at, Opens}
use Rattle.kern_layout.proofs.opening.put_opening.Goals as goal

-- one word more is set
done_more : (xs ys : List ℕ) (n at v : ℕ) → at ≡ 0xB000 + 4 * n → v ≡ opening_at at → ys ≡ set xs (at / 4) v → length ys ≡ 0x4000 → n < 0x1400 → ((k : ℕ) → k < n → get_or xs (0x2C00 + k) 0 ≡ opening_at (0xB000 + 4 * k)) → (k : ℕ) → k < n + 1 → get_or ys (0x2C00 + k) 0 ≡ opening_at (0xB000 + 4 * k)
done_more xs ys n at v is as_opening written size few old =
    let place : at / 4 ≡ 0x2C00 + n = omega arith in
    let room : 0x2C00 + n < length xs = omega (arith, size, ap length written, length-set xs (at / 4) v) in
    let moved : ys ≡ set xs (0x2C00 + n) v = written ∙ ap (λ p. set xs p v) place in
    below_more (λ k. get_or ys (0x2C00 + k) 0 ≡ opening_at (0xB000 + 4 * k)) n
    (λ k lt. ap (λ zs. get_or zs (0x2C00 + k) 0) moved ∙ get_or-set_other xs (0x2C00 + n) (0x2C00 + k) v 0 (λ e. omega arith) ∙ old k lt)
    (ap (λ zs. get_or zs (0x2C00 + n) 0) moved ∙ get_or-set_same xs (0x2C00 + n) v 0 room ∙ as_opening ∙ ap opening_at is)

below_kept : (xs ys : List ℕ) (n at v : ℕ) → at ≡ 0xB000 + 4 * n → ys ≡ set xs (at / 4) v → (k : ℕ) → k < 0x2C00 → get_or ys k 0 ≡ get_or xs k 0
below_kept xs ys n at v is written k lt = ap (λ zs. get_or zs k 0) written ∙ get_or-set_other xs (at / 4) k v 0 (λ e. omega arith)

all_done : (xs : List ℕ) → ((k : ℕ) → k < 0x1400 → get_or xs (0x2C00 + k) 0 ≡ opening_at (0xB000 + 4 * k)) → Opens (block_word xs)
all_done xs h a al lo up =
    let p : a / 4 ≡ 0x2C00 + (a / 4 - 0x2C00) = omega arith in
    let q : 0xB000 + 4 * (a / 4 - 0x2C00) ≡ a = omega arith in
    ap (λ k. get_or xs k 0) p ∙ h (a / 4 - 0x2C00) (omega arith) ∙ ap opening_at q

pub loop-word-preserved : goal.loop-word-preserved
loop-word-preserved c = record {
  done = done_more c.loop-word.block _ c.loop-word.word _ _ (omega arith) c.opening_word.ensures c.put_word.ensures.set c.put_word.ensures.size (omega arith) c.loop-word.invariant.done;
  below = λ k lt. below_kept c.loop-word.block _ c.loop-word.word _ _ (omega arith) c.put_word.ensures.set k lt ∙ c.loop-word.invariant.below k lt;
}

pub returns-clause-opens : goal.returns-clause-opens
returns-clause-opens c = all_done _ (λ k lt. c.loop-word.invariant.done k (omega arith))
