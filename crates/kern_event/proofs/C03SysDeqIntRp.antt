-- SysDeqIntRP meets its stay.
use Rattle.psx_flow.proofs.Kit.{◌≡◌, ℕ, suc, ◌+◌, ◌-◌, ◌*◌, ◌%◌, ◌^◌, ◌<◌, ◌≤◌, [], refl, sym, ap, ◌∙◌, subst, arith, ⊎_elim, Memory, word, put_word, Run, Goal, Calls, Fair, Tree, calls, kernel_words, fair, start, true, false}
use Rattle.std.proofs.Common.{length, List, ◌∷◌, ne_eqb, eq-eqb}
use Rattle.std.proofs.lemmas.Bool.{cases_eq}
use Rattle.std.proofs.lemmas.List.{get_or_past}
use Rattle.std.specs.Prelude.{Bool, ◌||◌, nat_eq, if◌then◌else◌}
use Rattle.psx_base.specs.KernelState.{KernelState}
use Rattle.psx_flow.specs.Told.{ports}
use Rattle.kern_layout.specs.Fields.{Stack}
use Rattle.kern_layout.specs.Stores.{with_chain}
use Rattle.kern_layout.specs.Reads.{chain, chain_at}
use Rattle.kern_layout.specs.Valid.{Valid}
use Rattle.abs_kernel.specs.Answered.{registers_of, answered}
use Rattle.abs_kernel.specs.Chains.{has, without}
use Rattle.abs_kernel.specs.SysDeqIntRP.{sys_deq_int_rp}
use Rattle.abs_kernel.specs.declared.calls.CallId.TheVariants.{C03}
use Rattle.abs_kernel.specs.Calls.{call}
use Rattle.kern_stay.specs.Shared.{tree, tested_there}
use Rattle.kern_stay.specs.Doors.{Holds, Through, Serves, called_with, begun, most_steps}
use Rattle.kern_stay.proofs.Ending.{through, answers}
use Rattle.kern_stay.proofs.RoomGiven.{true_then, false_then}
use Rattle.kern_stay.proofs.Looping.{Turning, behind_loop, looped}
use Rattle.kern_event.specs.declared.places.TheConstants.{SYS_DEQ_INT_RP}
use Rattle.kern_event.specs.declared.c03_sys_deq_int_rp.TheConstants.{NODES}
use Rattle.kern_event.proofs.ChainsHeld.{in_chain, chain_is, Kept, kept_all, kept_put, put_same, put_else, holds_chain, behind, behind_low, without_one, removed}

-- an element that comes, and those behind it
record Next (rest : List ℕ) : Type 0 where
  x : ℕ
  xs : List ℕ
  is : rest ≡ x ∷ xs

next_of : (rest : List ℕ) → 0 < length rest → Next rest
next_of [] h = absurd (omega (arith, h))
next_of (x ∷ xs) h = record { x = x; xs = xs; is = refl }

none_of : (e : ℕ) (rest : List ℕ) → length rest ≡ 0 → has e rest ≡ false
none_of e [] h = refl
none_of e (x ∷ xs) h = absurd (omega (arith, h))

module _ (C : Calls) (s : KernelState) (valid : Valid s) (m : Memory) (holds : Holds s m) (p e n : ℕ) (few : p < 4) (is_e : (registers_of s).r5 ≡ e) (is_p : (registers_of s).r4 ≡ p) (count : length (chain s p) ≡ n) where
  abbrev b : ℕ
  b = chain_at p

  abbrev G : ℕ → Goal
  G to r = Through (sys_deq_int_rp s) most_steps to r

  abbrev search_loop : Tree
  search_loop = tree NODES

  abbrev move_loop : Tree
  move_loop = behind_loop search_loop

  -- the element is there, or not
  by : (f : Bool) → has e (chain s p) ≡ f → sys_deq_int_rp s ≡ (if f then answered (with_chain s p (without e (chain s p))) 0 else answered s (2 ^ 32 - 1))
  by f h =
      let stay = λ (q x : ℕ). if has x (chain s q) then answered (with_chain s q (without x (chain s q))) 0 else answered s (2 ^ 32 - 1) in
      (λ i. stay (is_p i) (is_e i)) ∙ ap (λ f. if f then answered (with_chain s p (without e (chain s p))) 0 else answered s (2 ^ 32 - 1)) h

  -- ---- the elements before it move on

  record Moving (k : ℕ) (r : Run) : Type 0 where
    j : ℕ
    sum : suc (j + k) ≡ n
    from : behind e (chain s p) ≤ j
    within : r.steps + 20 * k ≤ 1000
    quiet : ports r.seen ≡ []
    kept : Kept m r.bytes p
    low : (i : ℕ) → i < behind e (chain s p) → word r.bytes (b + (4 + 4 * i)) ≡ word m (b + (4 + 4 * i))
    mid : (i : ℕ) → behind e (chain s p) ≤ i → i < j → word r.bytes (b + (4 + 4 * i)) ≡ word m (b + (4 + 4 * suc i))
    high : (i : ℕ) → j < i → i < n → word r.bytes (b + (4 + 4 * i)) ≡ word m (b + (4 + 4 * i))
    r8 : r.regs.r8 ≡ 0x80000000 + b
    r9 : r.regs.r9 ≡ 0x80000000 + (b + (4 + 4 * j))
    r11 : r.regs.r11 ≡ n
    r13 : r.regs.r13 ≡ 0x80000000 + (b + 4 * n)

  module _ (there : has e (chain s p) ≡ true) (most : n ≤ 8) where
    move : (k : ℕ) (r : Run) → Moving k r → Turning C move_loop G Moving k r
    move k r h =
        let c : List ℕ = chain s p in
        let j : ℕ = h.j in
        let sum = h.sum in
        let within = h.within in
        record {
          leave = λ eq.
              let none : k ≡ 0 = omega (arith, eq, h.r9, h.r13, sum) in
              let a = in_chain p 0 ((r.regs.r8 + 0) % 2 ^ 32) few refl (omega arith) (omega (arith, h.r8, few)) in
              let one = without_one e c there in
              let less : (r.regs.r11 + 0xFFFFFFFF) % 2 ^ 32 ≡ length (without e c) = omega (arith, h.r11, one, count, most) in
              let x : Memory = put_word r.bytes (b + 0) ((r.regs.r11 + 0xFFFFFFFF) % 2 ^ 32) in
              let same : (i : ℕ) → word x (b + (4 + 4 * i)) ≡ word r.bytes (b + (4 + 4 * i)) = λ i. put_else r.bytes p 0 _ (4 + 4 * i) refl (omega arith) (λ q. omega (arith, q)) in
              let to : (y : Memory) (i : ℕ) → word y (b + 4 + 4 * i) ≡ word y (b + (4 + 4 * i)) = λ y i. (let q : b + 4 + 4 * i ≡ b + (4 + 4 * i) = omega arith in ap (word y) q) in
              let z : b + 0 ≡ b = omega arith in
              let elements = removed e c (word m) (word x) (b + 4) there (chain_is s valid m holds p few).elements (λ i lt. to x i ∙ same i ∙ h.low i lt ∙ sym (to m i))
              (λ i lo up. to x i ∙ same i ∙ h.mid i lo (omega (arith, up, none, sum, count)) ∙ sym (to m (suc i))) in
              rw (a.here, a.sort, a.place) (
              through (sys_deq_int_rp s) most_steps _ _ h.quiet (answers most_steps (with_chain s p (without e c)) _ (sys_deq_int_rp s) (by true there)
              (holds_chain s valid m x holds p (without e c) few (kept_put m r.bytes p 0 _ refl (omega arith) h.kept) (record { count = (ap (word x) (sym z) ∙ put_same r.bytes p 0 _ refl) ∙ less; elements = elements }))
              (omega (arith, within))));
          again = λ ne.
              let some : 0 < k = ⊎_elim (λ (q : k ≡ 0). absurd (ne (let same : r.regs.r9 ≡ r.regs.r13 = omega (arith, q, sum, h.r9, h.r13) in same))) (λ (nz : k ≡ 0 → ⊥). omega (arith, nz)) (cases_eq k 0) in
              let after = in_chain p (4 + 4 * suc j) ((r.regs.r9 + 4) % 2 ^ 32) few (omega arith) (omega (arith, some, sum, most)) (omega (arith, h.r9, few, some, sum, most)) in
              let here = in_chain p (4 + 4 * j) ((r.regs.r9 + 0) % 2 ^ 32) few (omega arith) (omega (arith, some, sum, most)) (omega (arith, h.r9, few, some, sum, most)) in
              let v : ℕ = word r.bytes (b + (4 + 4 * suc j)) in
              let came : v ≡ word m (b + (4 + 4 * suc j)) = h.high (suc j) (omega arith) (omega (arith, some, sum)) in
              let x : Memory = put_word r.bytes (b + (4 + 4 * j)) v in
              let other : (i : ℕ) → (i ≡ j → ⊥) → word x (b + (4 + 4 * i)) ≡ word r.bytes (b + (4 + 4 * i)) =
              λ i q. put_else r.bytes p (4 + 4 * j) v (4 + 4 * i) (omega arith) (omega arith) (λ y. q (omega (arith, y))) in
              rw (after.here, after.sort, after.place, here.here, here.sort, here.place) (
                k - 1,
                omega (arith, some),
                record {
                  j = suc j;
                  sum = omega (arith, sum, some);
                  from = (let from = h.from in omega (arith, from));
                  within = omega (arith, within, some);
                  quiet = h.quiet;
                  kept = kept_put m r.bytes p (4 + 4 * j) v (omega arith) (omega (arith, some, sum, most)) h.kept;
                  low = λ i lt. other i (λ q. (let from = h.from in omega (arith, q, lt, from))) ∙ h.low i lt;
                  mid = λ i lo up. ⊎_elim
                      (λ (q : i ≡ j). subst (λ y. word x (b + (4 + 4 * y)) ≡ word m (b + (4 + 4 * suc y))) (sym q) (put_same r.bytes p (4 + 4 * j) v (omega arith) ∙ came))
                      (λ (q : i ≡ j → ⊥). other i q ∙ h.mid i lo (omega (arith, q, up)))
                      (cases_eq i j);
                  high = λ i lo up. other i (λ q. omega (arith, q, lo)) ∙ h.high i (omega (arith, lo)) up;
                  r8 = h.r8;
                  r9 = omega (arith, h.r9, few, some, sum, most);
                  r11 = h.r11;
                  r13 = h.r13;
                },
              );
        }

  -- ---- it is searched for

  record Found (rest : List ℕ) : Type 0 where
    there : has e (chain s p) ≡ true
    place : behind e (chain s p) ≡ length rest

  record Going (rest : List ℕ) : Type 0 where
    has_it : has e (chain s p) ≡ has e rest
    place : behind e (chain s p) ≡ behind e rest

  record Head (k : ℕ) (r : Run) : Type 0 where
    rest : List ℕ
    length_is : length rest ≡ k
    few_are : k ≤ n
    stack : Stack (word m) (b + 4) rest
    found : r.regs.r12 ≡ e → Found rest
    going : (r.regs.r12 ≡ e → ⊥) → Going rest
    within : r.steps + 20 * k ≤ 500
    bytes : r.bytes ≡ m
    quiet : ports r.seen ≡ []
    r5 : r.regs.r5 ≡ e
    r8 : r.regs.r8 ≡ 0x80000000 + b
    r9 : r.regs.r9 ≡ 0x80000000 + (b + 4 * k)
    r11 : r.regs.r11 ≡ n
    r13 : r.regs.r13 ≡ 0x80000000 + (b + 4 * n)

  module _ (fair_C : Fair C) (most : n ≤ 8) where
    turn : (k : ℕ) (r : Run) → Head k r → Turning C search_loop G Head k r
    turn k r h =
        let within = h.within in
        let up = h.few_are in
        record {
          leave = λ eq.
              let f = h.found (eq ∙ h.r5) in
              let low = behind_low e (chain s p) f.there in
              looped C fair_C move_loop G Moving (move f.there most) (n - suc k) _ record {
                j = k;
                sum = omega (arith, low, f.place, h.length_is, count);
                from = omega (arith, f.place, h.length_is);
                within = omega (arith, within, most);
                quiet = h.quiet;
                kept = subst (λ y. Kept m y p) (sym h.bytes) (kept_all m p);
                low = λ i lt. ap (λ y. word y (b + (4 + 4 * i))) h.bytes;
                mid = λ i lo hi. absurd (omega (arith, lo, hi, f.place, h.length_is));
                high = λ i lo hi. ap (λ y. word y (b + (4 + 4 * i))) h.bytes;
                r8 = h.r8;
                r9 = omega (arith, h.r9, few, up, most);
                r11 = h.r11;
                r13 = h.r13;
              };
          again = λ ne.
              let g = h.going (λ q. ne (q ∙ sym h.r5)) in (
                λ end.
                    let none : length h.rest ≡ 0 = omega (arith, end, h.r8, h.r9, h.length_is) in
                    through (sys_deq_int_rp s) most_steps _ _ h.quiet (answers most_steps s _ (sys_deq_int_rp s) (by false (g.has_it ∙ none_of e h.rest none))
                    (subst (Holds s) (sym h.bytes) holds) (omega (arith, within))),
                λ more.
                    let some : 0 < k = ⊎_elim (λ (q : k ≡ 0). absurd (more (let same : r.regs.r9 ≡ r.regs.r8 = omega (arith, q, h.r8, h.r9) in same))) (λ (nz : k ≡ 0 → ⊥). omega (arith, nz)) (cases_eq k 0) in
                    let c = next_of h.rest (omega (arith, some, h.length_is)) in
                    let size : suc (length c.xs) ≡ k = sym (ap length c.is) ∙ h.length_is in
                    let st : Stack (word m) (b + 4) (c.x ∷ c.xs) = subst (Stack (word m) (b + 4)) c.is h.stack in
                    let a = in_chain p (4 * k) ((r.regs.r9 + 0) % 2 ^ 32) few (omega arith) (omega (arith, up, most)) (omega (arith, h.r9, few, up, most)) in
                    let v : ℕ = word r.bytes (b + 4 * k) in
                    let at : b + 4 * k ≡ b + 4 + 4 * length c.xs = omega (arith, size) in
                    let is : v ≡ c.x = ap (λ y. word y (b + 4 * k)) h.bytes ∙ ap (word m) at ∙ st.0 in
                    let has_is : has e (chain s p) ≡ (nat_eq c.x e || has e c.xs) = g.has_it ∙ ap (has e) c.is in
                    let place_is : behind e (chain s p) ≡ (if nat_eq c.x e then length c.xs else behind e c.xs) = g.place ∙ ap (behind e) c.is in
                    rw (a.here, a.sort, a.place) (
                      k - 1,
                      omega (arith, some),
                      record {
                        rest = c.xs;
                        length_is = omega (arith, size);
                        few_are = omega (arith, up);
                        stack = st.1;
                        found = λ q. (let same = eq-eqb c.x e (sym is ∙ q) in record {
                          there = has_is ∙ ap (λ f. f || has e c.xs) same;
                          place = place_is ∙ ap (λ f. if f then length c.xs else behind e c.xs) same;
                        });
                        going = λ q. (let other = ne_eqb c.x e (λ y. q (is ∙ y)) in record {
                          has_it = has_is ∙ ap (λ f. f || has e c.xs) other;
                          place = place_is ∙ ap (λ f. if f then length c.xs else behind e c.xs) other;
                        });
                        within = omega (arith, within, some);
                        bytes = h.bytes;
                        quiet = h.quiet;
                        r5 = h.r5;
                        r8 = h.r8;
                        r9 = omega (arith, h.r9, few, some, up, most);
                        r11 = h.r11;
                        r13 = h.r13;
                      },
                    ),
              );
        }

pub serves : Serves [] most_steps (call C03) SYS_DEQ_INT_RP (tree NODES)
serves s d z m h =
    let C : Calls = calls kernel_words tested_there in
    let p : ℕ = (registers_of s).r4 in
    let e : ℕ = (registers_of s).r5 in
    let small : e < 2 ^ 32 = h.words 5 in
    let valid = h.valid in
    start C (fair kernel_words tested_there) (tree NODES) SYS_DEQ_INT_RP (λ _. ⊥) (λ to e. Through (sys_deq_int_rp s) most_steps to e) (begun (called_with (registers_of s) d) z m) (
      λ none.
          let ge = false_then p 4 none in
          let past : chain s p ≡ [] = get_or_past s.chains p [] (omega (arith, ge, valid.chains_count)) in
          through (sys_deq_int_rp s) most_steps _ _ refl (answers most_steps s _ (sys_deq_int_rp s)
          (ap (λ c. if has e c then answered (with_chain s p (without e c)) 0 else answered s (2 ^ 32 - 1)) past) h.holds (omega arith)),
      λ some.
          let few : p < 4 = true_then p 4 some in
          let c : List ℕ = chain s p in
          let is = chain_is s valid m h.holds p few in
          let most : length c ≤ 8 = (valid.chains p [] (omega (arith, few, valid.chains_count))).few in
          let count : word m (chain_at p + 0) ≡ length c = (let z : chain_at p + 0 ≡ chain_at p = omega arith in ap (word m) z ∙ is.count) in
          let a = in_chain p 0 ((((p * 2 ^ 6 % 2 ^ 32 + 0x80010000) % 2 ^ 32 + 0xFFFFCF00) % 2 ^ 32 + 0) % 2 ^ 32) few refl (omega arith) (omega (arith, few)) in
          rw (a.here, a.sort, a.place) (
          looped C (fair kernel_words tested_there) (tree NODES) (G C s valid m h.holds p e (length c) few refl refl refl) (Head C s valid m h.holds p e (length c) few refl refl refl)
          (turn C s valid m h.holds p e (length c) few refl refl refl (fair kernel_words tested_there) most) (length c) _ record {
            rest = c;
            length_is = refl;
            few_are = omega arith;
            stack = is.elements;
            found = λ q. absurd (omega (arith, q, small));
            going = λ q. record { has_it = refl; place = refl };
            within = omega (arith, most);
            bytes = refl;
            quiet = refl;
            r5 = refl;
            r8 = omega (arith, few);
            r9 = omega (arith, few, count, most);
            r11 = count;
            r13 = omega (arith, few, count, most);
          }),
    )
