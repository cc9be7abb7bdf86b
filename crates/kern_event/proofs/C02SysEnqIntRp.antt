-- SysEnqIntRP meets its stay.
use Rattle.psx_flow.proofs.Kit.{◌≡◌, ℕ, suc, ◌+◌, ◌-◌, ◌*◌, ◌%◌, ◌^◌, ◌<◌, ◌≤◌, ◌++◌, [], refl, sym, ap, ◌∙◌, subst, arith, ⊎_elim, Memory, word, put_word, place, Calls, calls, kernel_words, start, true, false}
use Rattle.std.proofs.Common.{length, List, ◌∷◌, ne_eqb}
use Rattle.std.proofs.lemmas.Bool.{lt-ltb, cases_lt, and_parts, ltb-true}
use Rattle.std.specs.Prelude.{Bool, ◌&&◌, nat_eq, nat_le, nat_lt, if◌then◌else◌}
use Rattle.psx_base.specs.Addresses.{user}
use Rattle.psx_base.specs.KernelState.{KernelState}
use Rattle.psx_flow.proofs.Users.{sort_user_word}
use Rattle.kern_layout.specs.Stores.{with_chain}
use Rattle.kern_layout.specs.Reads.{chain, chain_at, ChainAt}
use Rattle.kern_layout.specs.Valid.{Valid}
use Rattle.abs_kernel.specs.Stay.{Stay}
use Rattle.abs_kernel.specs.Answered.{registers_of, answered}
use Rattle.abs_kernel.specs.UserBytes.{bad_pointer}
use Rattle.abs_kernel.specs.UserWords.{user_word, with_word, tests_word, writes_word}
use Rattle.abs_kernel.specs.Chains.{head_of}
use Rattle.abs_kernel.specs.SysEnqIntRP.{links, sys_enq_int_rp}
use Rattle.abs_kernel.specs.declared.calls.CallId.TheVariants.{C02}
use Rattle.abs_kernel.specs.Calls.{call}
use Rattle.abs_kernel.proofs.Moved.{valid_moved}
use Rattle.kern_stay.specs.Room.{left_in, room, IsLeft}
use Rattle.kern_stay.specs.Shared.{tree, tested_there}
use Rattle.kern_stay.specs.Doors.{Holds, Ends, Through, Serves, called_with, begun, most_steps}
use Rattle.kern_stay.proofs.Ending.{through, answers, Left, left_all, left_is}
use Rattle.kern_stay.proofs.Looping.{leaves, stops}
use Rattle.kern_stay.proofs.RoomGiven.{KnowsRoom, knows_room, true_then, false_then}
use Rattle.kern_stay.proofs.RoomLeft.{room_is_left}
use Rattle.kern_stay.proofs.UserWords.{holds_word, left_word_written}
use Rattle.kern_event.specs.Own.{own}
use Rattle.kern_event.specs.declared.places.TheConstants.{SYS_ENQ_INT_RP, ROOM}
use Rattle.kern_event.specs.declared.c02_sys_enq_int_rp.TheConstants.{NODES}
use Rattle.kern_event.proofs.ChainsHeld.{in_chain, chain_is, kept_all, kept_put, put_same, put_else, holds_chain, stack_by}

-- ---- words that are tested

left_word_tested : {flat : ℕ} (stay : Stay) (s : KernelState) (at : ℕ) (next : Stay) (most : ℕ) → user_word at ≡ true → Left flat stay (tests_word s at next) most → Left flat stay next (most + 512)
left_word_tested stay s at next most u l =
    let is : (if user_word at then next else bad_pointer s at) ≡ next = ap (λ b. if b then next else bad_pointer s at) u in
    record { enough = λ to e h. l.enough to e (subst (λ x. Ends 128 x (most + 512) to e) (sym is) h) }

left_word_untested : {flat : ℕ} (stay : Stay) (s : KernelState) (at : ℕ) (next : Stay) (most : ℕ) → user_word at ≡ false → Left flat stay (tests_word s at next) most → Left flat stay (bad_pointer s at) (most + 512)
left_word_untested stay s at next most u l =
    let is : (if user_word at then next else bad_pointer s at) ≡ bad_pointer s at = ap (λ b. if b then next else bad_pointer s at) u in
    record { enough = λ to e h. l.enough to e (subst (λ x. Ends 128 x (most + 512) to e) (sym is) h) }

-- ---- what ROOM says of words

four_left : (a from to k : ℕ) → a % 4 ≡ 0 → to % 4 ≡ 0 → k % 4 ≡ 0 → left_in a from to k % 4 ≡ 0
four_left a from to k al tl kl = go (nat_le from a && nat_lt a to) refl
  where
    go : (b : Bool) → (nat_le from a && nat_lt a to) ≡ b → (if b then to - a else k) % 4 ≡ 0
    go true e = let p = ltb-true a to (and_parts (nat_le from a) (nat_lt a to) e).1 in omega (arith, p, al, tl)
    go false e = kl

room_four : (a : ℕ) → a % 4 ≡ 0 → room a % 4 ≡ 0
unfolding room
room_four a al = four_left a 0x80010000 0x80200000 _ al refl (four_left a 0x10000 0x200000 _ al refl (four_left a 0xA0010000 0xA0200000 _ al refl (four_left a 0x1F800000 0x1F800400 _ al refl (four_left a 0x9F800000 0x9F800400 0 al refl refl))))

good_word : (a : ℕ) → a % 4 ≡ 0 → user a ≡ true → user_word a ≡ true
good_word a al u = (λ i. nat_eq (al i) 0 && u i)

bad_word : (a : ℕ) → a % 4 ≡ 0 → user a ≡ false → user_word a ≡ false
bad_word a al u = (λ i. nat_eq (al i) 0 && u i)

odd_word : (a : ℕ) → (a % 4 ≡ 0 → ⊥) → user_word a ≡ false
odd_word a ne = ap (λ b. b && user a) (ne_eqb (a % 4) 0 ne)

module _ (stay : Stay) (s : KernelState) (e : ℕ) (small : e < 2 ^ 32) (al : e % 4 ≡ 0) (rest : Stay)
    (l : Left most_steps stay (tests_word s e (tests_word s ((e + 4) % 2 ^ 32) (tests_word s ((e + 8) % 2 ^ 32) rest))) most_steps) where
  far : IsLeft e (room e)
  far = room_is_left e small

  -- a word at an offset is user memory, or not
  user_at : (o : ℕ) → o < room e → (o + e) % 4 ≡ 0 → user_word ((e + o) % 2 ^ 32) ≡ true
  user_at o lt even =
      let f = far in
      let w = f.within in
      let is : (e + o) % 2 ^ 32 ≡ e + o = omega (arith, lt, w) in
      ap user_word is ∙ good_word (e + o) (omega (arith, even)) (f.good o lt)

  bad_at : (o : ℕ) → o ≡ room e → (o + e) % 4 ≡ 0 → user_word ((e + o) % 2 ^ 32) ≡ false
  bad_at o is even =
      let f = far in
      let w = f.within in
      let at : (e + o) % 2 ^ 32 ≡ e + room e = omega (arith, is, w) in
      ap user_word at ∙ bad_word (e + room e) (omega (arith, even, is)) f.bad

  first : e ≡ (e + 0) % 2 ^ 32
  first = omega (arith, small)

  -- all three are user memory
  all_user : 12 ≤ room e → Left most_steps stay rest (most_steps + 512 + 512 + 512)
  all_user enough =
      left_word_tested stay s _ _ _ (user_at 8 (omega (arith, enough)) (omega (arith, al)))
      (left_word_tested stay s _ _ _ (user_at 4 (omega (arith, enough)) (omega (arith, al)))
      (left_word_tested stay s _ _ _ (ap user_word first ∙ user_at 0 (omega (arith, enough)) (omega (arith, al))) l))

  -- the first that isn't
  record Bad : Type 0 where
    most : ℕ
    enough : most_steps ≤ most
    left : Left most_steps stay (bad_pointer s ((e + room e) % 2 ^ 32)) most

  bad_is : (o most : ℕ) → o ≡ room e → Left most_steps stay (bad_pointer s ((e + o) % 2 ^ 32)) most → most_steps ≤ most → Bad
  bad_is o most is left enough = record { most = most; enough = enough; left = left_is stay _ _ most (ap (λ n. bad_pointer s ((e + n) % 2 ^ 32)) is) left }

  one_bad : room e < 12 → Bad
  one_bad short =
      let even = room_four e al in
      ⊎_elim
      (λ (lt : room e < 4).
      let z : 0 ≡ room e = omega (arith, lt, even) in
      bad_is 0 _ z (left_is stay _ _ _ (ap (bad_pointer s) first) (left_word_untested stay s _ _ _ (ap user_word first ∙ bad_at 0 z (omega (arith, al))) l)) (omega arith))
      (λ (some : 4 ≤ room e).
      let l1 = left_word_tested stay s _ _ _ (ap user_word first ∙ user_at 0 (omega (arith, some)) (omega (arith, al))) l in
      ⊎_elim
      (λ (lt : room e < 8). let z : 4 ≡ room e = omega (arith, lt, some, even) in bad_is 4 _ z (left_word_untested stay s _ _ _ (bad_at 4 z (omega (arith, al))) l1) (omega arith))
      (λ (more : 8 ≤ room e).
      let z : 8 ≡ room e = omega (arith, short, more, even) in
      bad_is 8 _ z (left_word_untested stay s _ _ _ (bad_at 8 z (omega (arith, al))) (left_word_tested stay s _ _ _ (user_at 4 (omega (arith, more)) (omega (arith, al))) l1)) (omega arith))
      (cases_lt (room e) 8))
      (cases_lt (room e) 4)

-- ---- an element at the head

-- the word at so many elements behind a chain's count is its head, and that of none the count
head_is : (w : ℕ → ℕ) (at : ℕ) (c : List ℕ) → ChainAt w at c → w (at + 4 * length c) ≡ head_of c
head_is w at [] h = (let z : at + 0 ≡ at = omega arith in ap w z) ∙ h.count
head_is w at (x ∷ xs) h = (let z : at + 4 * suc (length xs) ≡ at + 4 + 4 * length xs = omega arith in ap w z) ∙ h.elements.0

holds_linked : (s : KernelState) → Valid s → (m : Memory) → Holds s m → (p e n : ℕ) → p < 4 → n ≡ length (chain s p) → n < 8
    → Holds (with_chain s p (e ∷ chain s p)) (put_word (put_word m (chain_at p + (4 + 4 * n)) e) (chain_at p + 0) ((n + 1) % 2 ^ 32))
holds_linked s valid m h p e n few is less =
    let c : List ℕ = chain s p in
    let x : Memory = put_word m (chain_at p + (4 + 4 * n)) e in
    let y : Memory = put_word x (chain_at p + 0) ((n + 1) % 2 ^ 32) in
    let old = chain_is s valid m h p few in
    let z : chain_at p ≡ chain_at p + 0 = omega arith in
    let head : word y (chain_at p + 4 + 4 * length c) ≡ e =
    (let q : chain_at p + 4 + 4 * length c ≡ chain_at p + (4 + 4 * n) = omega (arith, is) in ap (word y) q)
    ∙ put_else x p 0 _ (4 + 4 * n) refl (omega arith) (λ q. omega (arith, q)) ∙ put_same m p (4 + 4 * n) e (omega arith) in
    let others : (i : ℕ) → i < length c → word y (chain_at p + 4 + 4 * i) ≡ word m (chain_at p + 4 + 4 * i) =
    λ i lt.
    let q : chain_at p + 4 + 4 * i ≡ chain_at p + (4 + 4 * i) = omega arith in
    ap (word y) q ∙ put_else x p 0 _ (4 + 4 * i) refl (omega arith) (λ q. omega (arith, q)) ∙ put_else m p (4 + 4 * n) e (4 + 4 * i) (omega arith) (omega arith) (λ q. omega (arith, q, lt, is)) ∙ sym (ap (word m) q) in
    holds_chain s valid m y h p (e ∷ c) few
    (kept_put m x p 0 _ refl (omega arith) (kept_put m m p (4 + 4 * n) e (omega arith) (omega (arith, less)) (kept_all m p)))
    (record { count = (ap (word y) z ∙ put_same x p 0 _ refl) ∙ (let q : (n + 1) % 2 ^ 32 ≡ suc (length c) = omega (arith, less, is) in q); elements = (head, stack_by (word m) (word y) (chain_at p + 4) c others old.elements) })

pub serves : Serves own most_steps (call C02) SYS_ENQ_INT_RP (tree NODES)
serves s d z m h =
    let C : Calls = calls kernel_words (own ++ tested_there) in
    let know : KnowsRoom ROOM C = knows_room ROOM tested_there in
    let p : ℕ = (registers_of s).r4 in
    let e : ℕ = (registers_of s).r5 in
    let small : e < 2 ^ 32 = h.words 5 in
    let valid = h.valid in
    let stay : Stay = sys_enq_int_rp s in
    let tests : Stay = tests_word s e (tests_word s ((e + 4) % 2 ^ 32) (tests_word s ((e + 8) % 2 ^ 32) (links s p e))) in
    let by : (b : Bool) → nat_lt p 4 ≡ b → stay ≡ (if b then tests else answered s (2 ^ 32 - 1)) = λ b q. ap (λ b. if b then tests else answered s (2 ^ 32 - 1)) q in
    start C know.fair (tree NODES) SYS_ENQ_INT_RP (λ _. ⊥) (λ to e. Through (sys_enq_int_rp s) most_steps to e) (begun (called_with (registers_of s) d) z m) (
      λ some.
          let few : p < 4 = true_then p 4 some in
          let l = left_is stay _ _ most_steps (by true (lt-ltb p 4 few)) (left_all stay) in (
            λ odd. stops stay (bad_pointer s e) (most_steps + 512) s _ (left_word_untested stay s _ _ _ (odd_word e (λ q. odd (omega (arith, q)))) l) refl refl h.holds (omega arith),
            λ even.
                let al : e % 4 ≡ 0 = omega (arith, even) in
                know.room _ _ _ _ _ _ _ small (λ x y q up. (
                  λ short.
                      let bad = one_bad stay s e small al (links s p e) l (true_then (room e) 12 short) in
                      let enough = bad.enough in
                      stops stay (bad_pointer s ((e + room e) % 2 ^ 32)) bad.most s _ bad.left refl refl h.holds (omega (arith, up, enough)),
                  λ full.
                      let l1 = all_user stay s e small al (links s p e) l (false_then (room e) 12 full) in
                      let c : List ℕ = chain s p in
                      let is = chain_is s valid m h.holds p few in
                      let n : ℕ = word m (chain_at p + 0) in
                      let count : n ≡ length c = (let z : chain_at p + 0 ≡ chain_at p = omega arith in ap (word m) z ∙ is.count) in
                      let a = in_chain p 0 (((p * 2 ^ 6 % 2 ^ 32 + 0x80010000) % 2 ^ 32 + 0xFFFFCF00) % 2 ^ 32) few refl (omega arith) (omega (arith, few)) in
                      let room_by : (b : Bool) → nat_lt (length c) 8 ≡ b → links s p e ≡ (if b then writes_word s e (head_of c) (λ t. answered (with_chain t p (e ∷ chain t p)) 0) else answered s (2 ^ 32 - 1)) =
                      λ b q. ap (λ b. if b then writes_word s e (head_of c) (λ t. answered (with_chain t p (e ∷ chain t p)) 0) else answered s (2 ^ 32 - 1)) q in
                      rw (a.here, a.sort, a.place) (
                        λ fits.
                            let less : n < 8 = true_then n 8 fits in
                            let lc : length c < 8 = omega (arith, less, count) in
                            let head_at = in_chain p (4 * n) (((n * 2 ^ 2 % 2 ^ 32 + (p * 2 ^ 6 % 2 ^ 32 + 0x80010000) % 2 ^ 32) % 2 ^ 32 + 0xFFFFCF00) % 2 ^ 32) few (omega arith) (omega (arith, less)) (omega (arith, few, less)) in
                            let next_at = in_chain p (4 + 4 * n) (((n * 2 ^ 2 % 2 ^ 32 + (p * 2 ^ 6 % 2 ^ 32 + 0x80010000) % 2 ^ 32) % 2 ^ 32 + 0xFFFFCF04) % 2 ^ 32) few (omega arith) (omega (arith, less)) (omega (arith, few, less)) in
                            let f = room_is_left e small in
                            let ge = false_then (room e) 12 full in
                            let u : user e ≡ true = (let z : e + 0 ≡ e = omega arith in sym (ap user z) ∙ f.good 0 (omega (arith, ge))) in
                            let here : (e + 0) % 2 ^ 32 ≡ e = omega (arith, small) in
                            let sort = sort_user_word e u al in
                            let head : word m (chain_at p + 4 * n) ≡ head_of c = (λ i. word m (chain_at p + 4 * count i)) ∙ head_is (word m) (chain_at p) c is in
                            let t : KernelState = with_word s e (head_of c) in
                            let valid_t : Valid t = valid_moved s t.memory s.random s.running valid valid.running in
                            let linked = holds_linked t valid_t (put_word m (place e) (head_of c)) (holds_word s valid m h.holds e (head_of c) u) p e n few count less in
                            let l2 = left_word_written stay s e (head_of c) (λ t. answered (with_chain t p (e ∷ chain t p)) 0) _ (good_word e al u) (left_is stay _ _ _ (room_by true (lt-ltb (length c) 8 lc)) l1) in
                            rw (head_at.here, head_at.sort, head_at.place) (
                            rw (here, sort, next_at.here, next_at.sort, next_at.place) (
                            rw (a.here, a.sort, a.place) (
                            leaves stay (answered (with_chain t p (e ∷ chain t p)) 0) _ (with_chain t p (e ∷ chain t p)) _ l2 refl refl
                            (subst (λ v. Holds (with_chain t p (e ∷ chain t p)) (put_word (put_word (put_word m (place e) v) (chain_at p + (4 + 4 * n)) e) (chain_at p + 0) ((n + 1) % 2 ^ 32))) (sym head) linked)
                            (omega (arith, up))))),
                        λ none.
                            let ge = false_then n 8 none in
                            leaves stay (answered s (2 ^ 32 - 1)) _ s _ (left_is stay _ _ _ (room_by false (not_below (length c) 8 (omega (arith, ge, count)))) l1) refl refl h.holds (omega (arith, up)),
                      ),
                )),
          ),
      λ none.
          through stay most_steps _ _ refl (answers most_steps s _ stay (by false (not_below p 4 (false_then p 4 none))) h.holds (omega arith)),
    )
  where
    not_below : (a b : ℕ) → b ≤ a → nat_lt a b ≡ false
    not_below a b g = grind arith
