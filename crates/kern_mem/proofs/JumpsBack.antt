-- longjmp behind setjmp gives the registers back.
use Rattle.std.proofs.Common.{◌≡◌, ◌≢◌, ℕ, suc, ◌+◌, ◌*◌, ◌%◌, ◌^◌, ◌<◌, ◌≤◌, List, [], ◌∷◌, length, true, false, refl, sym, ap, ◌∙◌, subst, arith, ⊎_elim}
use Rattle.std.specs.Prelude.{if◌then◌else◌}
use Rattle.std.proofs.lemmas.Bool.{cases_Bool}
use Rattle.psx_base.specs.declared.stop.Stop.{Stop}
use Rattle.psx_base.specs.Addresses.{place, user}
use Rattle.psx_base.specs.Memory.{Memory, word, put_word}
use Rattle.psx_base.specs.Context.{settled}
use Rattle.psx_base.specs.KernelState.{KernelState}
use Rattle.psx_ram.proofs.Laws.{word-put_word_same}
use Rattle.psx_flow.proofs.Sorts.{place_aligned}
use Rattle.kern_layout.proofs.MemoryStored.{word_stored}
use Rattle.kern_layout.proofs.Blocks.{put_other}
use Rattle.abs_kernel.specs.Stay.{Stay}
use Rattle.abs_kernel.specs.StayLaws.{EachEnd, EachReturn}
use Rattle.abs_kernel.specs.Answered.{registers_of, answered}
use Rattle.abs_kernel.specs.UserBytes.{bad_pointer}
use Rattle.abs_kernel.specs.UserWords.{user_word}
use Rattle.abs_kernel.specs.Jumps.{jump_words, with_jump_words, following_word, writes_words, reads_words, jumps}
use Rattle.kern_stay.proofs.UserWords.{word_of_user}
use Rattle.kern_mem.proofs.WrittenBytes.{user_small, user_low}
use Rattle.kern_mem.specs.Laws.{Jumps, LongjmpComesBack}

-- the words stand in user memory from an address on
abbrev StandIn : List ℕ → Memory → (at : ℕ) → Type 0
StandIn [] m at = Unit {0}
StandIn (w ∷ ws) m at = (user_word at ≡ true) × ((word m (place at) ≡ w) × StandIn ws m (following_word at))

-- ---- what setjmp leaves

-- words from an address on stand elsewhere than the one before them
behind : (at k : ℕ) → user at ≡ true → k < 12 → place at ≢ place ((following_word at + 4 * k) % 2 ^ 32)
behind at k u few e = let small = user_small at u in let low = user_low at u in two at k small few (sym low ∙ e)
  where
    two : (at k : ℕ) → at < 0xC0000000 → k < 12 → at % 2 ^ 29 ≢ place ((following_word at + 4 * k) % 2 ^ 32)
    two at k small few e = absurd (grind arith)

record Wrote (ws : List ℕ) (m : Memory) (at : ℕ) (n : Memory) : Type 0 where
  stand : StandIn ws n at
  others : (p : ℕ) → p % 4 ≡ 0 → ((k : ℕ) → k < length ws → p ≢ place ((at + 4 * k) % 2 ^ 32)) → word n p ≡ word m p

-- a later word of the buffer, from the next address on
later : (at k : ℕ) → (following_word at + 4 * k) % 2 ^ 32 ≡ (at + 4 * suc k) % 2 ^ 32
later at k = omega arith

wrote_more : (w : ℕ) (ws : List ℕ) (m : Memory) (at : ℕ) (n : Memory) → length ws ≤ 11 → user_word at ≡ true → Wrote ws (put_word m (place at) w) (following_word at) n → Wrote (w ∷ ws) m at n
wrote_more w ws m at n few u h =
    let both = word_of_user at u in
    let even = place_aligned at both.0 in
    record {
      stand = (u, (h.others (place at) even (λ k lt. behind at k both.1 (omega (arith, lt, few))) ∙ word-put_word_same m (place at) w, h.stand));
      others = λ p al out.
          h.others p al (λ k lt e. out (suc k) (omega (arith, lt)) (e ∙ ap place (later at k)))
          ∙ word_stored m (place at) w p even al ∙ put_other (word m) (place at) w p (λ e. out 0 (omega arith) (e ∙ ap place (here at (user_small at both.1))));
    }
  where
    here : (at : ℕ) → at < 0xC0000000 → at ≡ (at + 4 * 0) % 2 ^ 32
    here at small = omega arith

-- whatever holds of each such memory holds behind the words
written : (P : KernelState → Type 0) (ws : List ℕ) (s : KernelState) (at : ℕ) → length ws ≤ 12
    → ((n : Memory) → Wrote ws s.memory at n → EachReturn P (answered (record s { memory = n }) 0)) → EachReturn P (writes_words ws s at (λ t. answered t 0))
written P [] s at few h = h s.memory record { stand = tt; others = λ p al out. refl }
written P (w ∷ ws) s at few h =
    let t : KernelState = record s { memory = put_word s.memory (place at) w } in
    let next : Stay = writes_words ws t (following_word at) (λ t. answered t 0) in
    ⊎_elim
    (λ (u : user_word at ≡ true). subst (λ b. EachReturn P (if b then next else bad_pointer s at)) (sym u)
    (written P ws t (following_word at) (omega (arith, few)) (λ n r. h n (wrote_more w ws s.memory at n (omega (arith, few)) u r))))
    (λ (u : user_word at ≡ false). subst (λ b. EachReturn P (if b then next else bad_pointer s at)) (sym u) tt)
    (cases_Bool (user_word at))

-- ---- what longjmp reads

read : (P : KernelState → Type 0) (Q : Stop → Memory → Type 0) (ws : List ℕ) (u : KernelState) (at : ℕ) (next : List ℕ → Stay)
    → StandIn ws u.memory at → EachEnd P Q (next ws) → EachEnd P Q (reads_words (length ws) u at next)
read P Q [] u at next h k = k
read P Q (w ∷ ws) u at next h k =
    let v : ℕ = word u.memory (place at) in
    subst (λ b. EachEnd P Q (if b then reads_words (length ws) u (following_word at) (λ ys. next (v ∷ ys)) else bad_pointer u at)) (sym h.0)
    (read P Q ws u (following_word at) (λ ys. next (v ∷ ys)) h.1.1 (subst (λ x. EachEnd P Q (next (x ∷ ws))) (sym h.1.0) k))

same_stand : (ws : List ℕ) (m n : Memory) (at : ℕ) → ((k : ℕ) → k < length ws → word m (place ((at + 4 * k) % 2 ^ 32)) ≡ word n (place ((at + 4 * k) % 2 ^ 32))) → StandIn ws n at → StandIn ws m at
same_stand [] m n at same h = tt
same_stand (w ∷ ws) m n at same h =
    let small = user_small at (word_of_user at h.0).1 in
    let here : (at + 4 * 0) % 2 ^ 32 ≡ at = omega (arith, small) in (
      h.0,
      (
        subst (λ x. word m (place x) ≡ word n (place x)) here (same 0 (omega arith)) ∙ h.1.0,
        same_stand ws m n (following_word at) (λ k lt. subst (λ x. word m (place x) ≡ word n (place x)) (sym (later at k)) (same (suc k) (omega (arith, lt)))) h.1.1,
      ),
    )

pub longjmp_comes_back : LongjmpComesBack
longjmp_comes_back s =
    let ws : List ℕ = jump_words (registers_of s) in
    let a : ℕ = (registers_of s).r4 in
    written _ ws s a (omega arith) (λ n r u none to same.
    subst (λ x. EachEnd (Jumps s u) (λ stop memory. ⊥) (reads_words 12 u x (jumps u))) (sym to)
    (read (Jumps s u) (λ stop memory. ⊥) ws u a (jumps u) (same_stand ws u.memory n a same r.stand)
    record { registers = ap (λ o. jump_words (settled (with_jump_words (registers_of u) ws) o)) none; goes_on = refl; answer = refl }))
