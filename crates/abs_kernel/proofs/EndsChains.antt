-- The ends of the calls on chains.
use Rattle.std.proofs.Common.{◌≡◌, ℕ, zero, suc, ◌+◌, ◌-◌, ◌%◌, ◌^◌, ◌<◌, ◌≤◌, Bool, true, false, List, [], ◌∷◌, length, ap, ◌∙◌, sym, arith, ⊎_elim}
use Rattle.std.specs.Prelude.{nat_eq, nat_lt, slice_index_or, if◌then◌else◌}
use Rattle.std.proofs.lemmas.Bool.{false≢true, cases_lt, and_parts, eqb-true, ltb-true}
use Rattle.psx_base.specs.declared.stop.Stop.{Stop}
use Rattle.psx_base.specs.Memory.{Memory, put_word}
use Rattle.psx_base.specs.Addresses.{place, user}
use Rattle.psx_base.specs.FirstBad.{end_of}
use Rattle.psx_base.specs.Context.{Context, IsAtRest}
use Rattle.psx_base.specs.KernelState.{KernelState}
use Rattle.psx_base.proofs.Ranges.{within, end_of-above}
use Rattle.kern_layout.specs.Reads.{chain}
use Rattle.kern_layout.specs.Stores.{with_chain}
use Rattle.kern_layout.specs.Valid.{IsElement, ChainFits}
use Rattle.abs_kernel.specs.Answered.{registers_of, answered}
use Rattle.abs_kernel.specs.UserWords.{user_word}
use Rattle.abs_kernel.specs.Chains.{chain_count, most_elements, head_of, has, without}
use Rattle.abs_kernel.specs.SysEnqIntRP.{links, sys_enq_int_rp}
use Rattle.abs_kernel.specs.SysDeqIntRP.{sys_deq_int_rp}
use Rattle.abs_kernel.specs.StayLaws.{EachEnd}
use Rattle.abs_kernel.proofs.Chained.{ChainsFit, chains_same, chains_set}
use Rattle.abs_kernel.proofs.Ending.{running_in, answered_ends, if_ends, if_ends_by}

-- ---- an element whose three words are user memory

word_parts : (a : ℕ) → user_word a ≡ true → (a % 4 ≡ 0) × (user a ≡ true)
word_parts a h = let p = and_parts (nat_eq (a % 4) 0) (user a) h in (eqb-true (a % 4) 0 p.0, p.1)

user_below : (a : ℕ) → user a ≡ true → a < 0xC0000000
unfolding user
user_below a h = grind arith

-- a word of a range, and the next one of user memory, which is of the same range
end_even : (a : ℕ) → end_of a % 4 ≡ 0
end_even a = grind arith

end_bad : (a : ℕ) → user a ≡ true → user (end_of a) ≡ false
unfolding user
end_bad a h = grind arith

end_same : (a : ℕ) → user a ≡ true → a + 4 < end_of a → end_of (a + 4) ≡ end_of a
unfolding user
end_same a h l = grind arith

next_in : (a : ℕ) → a % 4 ≡ 0 → user a ≡ true → user (a + 4) ≡ true → a + 4 < end_of a
next_in a al h g =
    let below = user_below a h in
    let above = end_of-above a (omega (arith, below)) h in
    let even = end_even a in
    ⊎_elim (λ l. l) (λ k. absurd (false≢true (let is : end_of a ≡ a + 4 = omega (arith, al, above, even, k) in sym (end_bad a h) ∙ ap user is ∙ g))) (cases_lt (a + 4) (end_of a))

three_words : (a : ℕ) → a % 4 ≡ 0 → user a ≡ true → user ((a + 4) % 2 ^ 32) ≡ true → user ((a + 8) % 2 ^ 32) ≡ true → 12 ≤ end_of a - a
three_words a al h g k =
    let below = user_below a h in
    let four : (a + 4) % 2 ^ 32 ≡ a + 4 = omega (arith, below) in
    let eight : (a + 8) % 2 ^ 32 ≡ a + 4 + 4 = omega (arith, below) in
    let next : user (a + 4) ≡ true = sym (ap user four) ∙ g in
    let last : user (a + 4 + 4) ≡ true = sym (ap user eight) ∙ k in
    let near = next_in a al h next in
    let far = next_in (a + 4) (omega (arith, al)) next last in
    let same = end_same a h near in
    let even = end_even a in
    omega (arith, al, same, far, even)

pub element_fits : (e : ℕ) → user_word e ≡ true → user_word ((e + 4) % 2 ^ 32) ≡ true → user_word ((e + 8) % 2 ^ 32) ≡ true → IsElement e
element_fits e h g k =
    let p = word_parts e h in
    let q = word_parts ((e + 4) % 2 ^ 32) g in
    let r = word_parts ((e + 8) % 2 ^ 32) k in
    record { aligned = p.0; bytes = within 12 e (let below = user_below e p.1 in omega (arith, below)) p.1 (three_words e p.0 p.1 q.1 r.1) }

-- ---- another list of elements

more_fits : (e : ℕ) (es : List ℕ) → IsElement e → length es < 8 → ChainFits es → ChainFits (e ∷ es)
more_fits e es ok few h = record { few = omega (arith, few); each = λ k d lt. at k d lt }
  where
    at : (k d : ℕ) → suc k ≤ suc (length es) → IsElement (slice_index_or (e ∷ es) k d)
    at zero d lt = ok
    at (suc k) d lt = h.each k d (omega (arith, lt))

tail_fits : (x : ℕ) (es : List ℕ) → ChainFits (x ∷ es) → ChainFits es
tail_fits x es h = record { few = (let few = h.few in omega (arith, few)); each = λ k d lt. h.each (suc k) d (omega (arith, lt)) }

pub without_count : (e : ℕ) (es : List ℕ) → length (without e es) ≤ length es
without_count e [] = omega arith
without_count e (x ∷ es) = go (nat_eq x e) (without_count e es)
  where
    go : (b : Bool) → length (without e es) ≤ length es → length (if b then es else x ∷ without e es) ≤ suc (length es)
    go true few = omega arith
    go false few = omega (arith, few)

pub without_fits : (e : ℕ) (es : List ℕ) → ChainFits es → ChainFits (without e es)
without_fits e [] h = h
without_fits e (x ∷ es) h = go (nat_eq x e) (without_fits e es (tail_fits x es h))
  where
    fewer : length (without e es) < 8
    fewer = let few = h.few in let less = without_count e es in omega (arith, few, less)

    go : (b : Bool) → ChainFits (without e es) → ChainFits (if b then es else x ∷ without e es)
    go true rest = tail_fits x es h
    go false rest = more_fits x (without e es) (h.each 0 x (omega arith)) fewer rest

-- ---- the ends

module _ (P : KernelState → Type 0) (Q : Stop → Memory → Type 0) (s : KernelState)
    (halts : (stop : Stop) (m : Memory) → Q stop m)
    (returns : (m : Memory) (chains : List (List ℕ)) (c : Context) (on : Bool) → ChainsFit s.chains chains → IsAtRest c → P (running_in (record s { memory = m; chains = chains }) c on)) where
  chained : (m : Memory) (chains : List (List ℕ)) (value : ℕ) → ChainsFit s.chains chains → EachEnd P Q (answered (record s { memory = m; chains = chains }) value)
  chained m chains value fit = answered_ends P Q (record s { memory = m; chains = chains }) (λ stop. halts stop m) (λ c on r. returns m chains c on fit r) value

  -- with the chains as they are
  plain : (value : ℕ) → EachEnd P Q (answered s value)
  plain value = chained s.memory s.chains value (chains_same s.chains)

  linked_ends : (p e : ℕ) → IsElement e → EachEnd P Q (links s p e)
  linked_ends p e ok =
      let c = chain s p in
      if_ends_by P Q (nat_lt (length c) most_elements) _ _
      (λ few. if_ends P Q (user_word e) _ _ (chained (put_word s.memory (place e) (head_of c)) (with_chain s p (e ∷ c)).chains 0 (chains_set s.chains p (e ∷ c) (more_fits e c ok (ltb-true _ _ few)))) (halts _ _))
      (λ full. plain _)

  pub sys_enq_int_rp_ends : EachEnd P Q (sys_enq_int_rp s)
  sys_enq_int_rp_ends =
      let r = registers_of s in
      let e : ℕ = r.r5 in
      if_ends P Q (nat_lt r.r4 chain_count) _ _
      (if_ends_by P Q (user_word e) _ _ (λ h. if_ends_by P Q (user_word ((e + 4) % 2 ^ 32)) _ _
      (λ g. if_ends_by P Q (user_word ((e + 8) % 2 ^ 32)) _ _ (λ k. linked_ends r.r4 e (element_fits e h g k)) (λ k. halts _ _)) (λ g. halts _ _)) (λ h. halts _ _)) (plain _)

  pub sys_deq_int_rp_ends : EachEnd P Q (sys_deq_int_rp s)
  sys_deq_int_rp_ends =
      let r = registers_of s in
      let c = chain s r.r4 in
      if_ends P Q (has r.r5 c) _ _ (chained s.memory (with_chain s r.r4 (without r.r5 c)).chains 0 (chains_set s.chains r.r4 (without r.r5 c) (without_fits r.r5 c))) (plain _)
