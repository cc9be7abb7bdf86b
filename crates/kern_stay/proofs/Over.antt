-- Words from an address on.
use Rattle.std.proofs.Common.{◌≡◌, ℕ, ◌+◌, ◌-◌, ◌*◌, ◌/◌, ◌<◌, ◌≤◌, List, length, get_or, set, take, arith, rules, tests, sym, ◌∙◌, ap, ⊎_elim, get_or-set_same, get_or-set_other}
use Rattle.std.proofs.lemmas.Bool.{cases_lt}
use Rattle.std.proofs.lemmas.List.{length-take, get_or-take, take_all, length-set}
use Rattle.kern_layout.specs.BlockWords.{IsBlock}
use Rattle.kern_stay.specs.Words.{over}

pub over-within : (at : ℕ) (ws : List ℕ) (f : ℕ → ℕ) (a : ℕ) → at ≤ a → a < at + 4 * length ws → over at ws f a ≡ get_or ws ((a - at) / 4) 0
unfolding over
over-within at ws f a low high = search (tests, rules)

pub over-before : (at : ℕ) (ws : List ℕ) (f : ℕ → ℕ) (a : ℕ) → a < at → over at ws f a ≡ f a
unfolding over
over-before at ws f a low = search (tests, rules)

pub over-behind : (at : ℕ) (ws : List ℕ) (f : ℕ → ℕ) (a : ℕ) → at + 4 * length ws ≤ a → over at ws f a ≡ f a
unfolding over
over-behind at ws f a low = search (tests, rules)

-- what the first m words leave at an address
front-within : (at m : ℕ) (ws : List ℕ) (f : ℕ → ℕ) (a : ℕ) → m ≤ length ws → at ≤ a → a < at + 4 * m → over at (take m ws) f a ≡ get_or ws ((a - at) / 4) 0
front-within at m ws f a some low high =
    let len : length (take m ws) ≡ m = (let e = length-take m ws in omega arith) in
    over-within at (take m ws) f a low (omega arith) ∙ get_or-take m ws ((a - at) / 4) 0 (omega arith)

front-behind : (at m : ℕ) (ws : List ℕ) (f : ℕ → ℕ) (a : ℕ) → m ≤ length ws → at + 4 * m ≤ a → over at (take m ws) f a ≡ f a
front-behind at m ws f a some low =
    let len : length (take m ws) ≡ m = (let e = length-take m ws in omega arith) in
    over-behind at (take m ws) f a (omega arith)

pub block_none : (b : List ℕ) (at : ℕ) (ws : List ℕ) (f : ℕ → ℕ) → IsBlock b f → IsBlock b (over at (take 0 ws) f)
block_none b at ws f r = record {
  size = r.size;
  at = λ k low. r.at k low ∙ sym (⊎_elim (λ (h : 4 * k < at). over-before at (take 0 ws) f (4 * k) h) (λ (h : at ≤ 4 * k). front-behind at 0 ws f (4 * k) (omega arith) (omega arith)) (cases_lt (4 * k) at));
}

-- one word more, in place p
pub block_more : (b : List ℕ) (at p m : ℕ) (ws : List ℕ) (f : ℕ → ℕ) → at + 4 * m ≡ 4 * p → m < length ws → p < 0x4000 → IsBlock b (over at (take m ws) f) → IsBlock (set b p (get_or ws m 0)) (over at (take (m + 1) ws) f)
block_more b at p m ws f is some room r = record {
  size = length-set {A = ℕ} b p (get_or ws m 0) ∙ r.size;
  at = λ k low.
      ⊎_elim (λ (before : 4 * k < at).
      get_or-set_other b p k (get_or ws m 0) 0 (omega arith) ∙ r.at k low ∙ over-before at (take m ws) f (4 * k) before ∙ sym (over-before at (take (m + 1) ws) f (4 * k) before))
      (λ (from : at ≤ 4 * k). ⊎_elim (λ (earlier : k < p).
      get_or-set_other b p k (get_or ws m 0) 0 (omega arith) ∙ r.at k low ∙ front-within at m ws f (4 * k) (omega arith) from (omega arith) ∙ sym (front-within at (m + 1) ws f (4 * k) (omega arith) from (omega arith)))
      (λ (later : p ≤ k). ⊎_elim (λ (behind : p < k).
      get_or-set_other b p k (get_or ws m 0) 0 (omega arith) ∙ r.at k low ∙ front-behind at m ws f (4 * k) (omega arith) (omega arith) ∙ sym (front-behind at (m + 1) ws f (4 * k) (omega arith) (omega arith)))
      (λ (up : k ≤ p).
      let same : k ≡ p = omega arith in
      rw same (get_or-set_same b p (get_or ws m 0) 0 (omega (arith, r.size)) ∙ sym (front-within at (m + 1) ws f (4 * p) (omega arith) (omega arith) (omega arith) ∙ ap (λ (i : ℕ). get_or ws i 0) (let e : (4 * p - at) / 4 ≡ m = omega arith in e)))) (cases_lt p k)) (cases_lt k p)) (cases_lt (4 * k) at);
}

pub block_all : (b : List ℕ) (at m : ℕ) (ws : List ℕ) (f : ℕ → ℕ) → length ws ≤ m → IsBlock b (over at (take m ws) f) → IsBlock b (over at ws f)
block_all b at m ws f all r = let e = take_all m ws all in rw e at r
