-- The chains' blocks in memory, while the kernel runs.
use Rattle.std.proofs.Common.{◌≡◌, ℕ, suc, ◌+◌, ◌*◌, ◌%◌, ◌<◌, ◌≤◌, ◌⊎◌, inl, inr, Bool, true, false, List, [], ◌∷◌, length, refl, ap, ◌∙◌, arith, ⊎_elim}
use Rattle.std.specs.Prelude.{nat_eq, ◌||◌, if◌then◌else◌}
use Rattle.std.proofs.lemmas.Bool.{false≢true}
use Rattle.psx_base.specs.Memory.{Memory, byte, word, put_word}
use Rattle.psx_base.specs.Addresses.{place}
use Rattle.psx_base.specs.KernelState.{KernelState}
use Rattle.psx_ram.specs.Apart.{apart}
use Rattle.psx_ram.proofs.Laws.{byte-put_word_apart}
use Rattle.psx_flow.proofs.Log.{Kernel, word_sort}
use Rattle.kern_layout.specs.Fields.{Stack}
use Rattle.kern_layout.specs.Contexts.{saved}
use Rattle.kern_layout.specs.Stores.{with_chain}
use Rattle.kern_layout.specs.Reads.{chain, chain_at, ChainAt}
use Rattle.kern_layout.specs.Valid.{Valid}
use Rattle.kern_layout.proofs.Blocks.{block_same, put_here, put_other}
use Rattle.kern_layout.proofs.MemoryStored.{word_stored}
use Rattle.kern_layout.proofs.Written.{reads_chain}
use Rattle.abs_kernel.specs.Chains.{has, without}
use Rattle.kern_stay.specs.Doors.{Holds}
use Rattle.kern_stay.proofs.Copying.{data_place, data_sort}
use Rattle.kern_stay.proofs.Holding.{user_high}

-- ---- a word of a chain's block, at an offset from its address

pub record In (p o at : ℕ) : Type 0 where
  pub here : at ≡ 0x80000000 + (chain_at p + o)
  pub sort : word_sort (0x80000000 + (chain_at p + o)) ≡ Kernel
  pub place : place (0x80000000 + (chain_at p + o)) ≡ chain_at p + o

pub in_chain : (p o at : ℕ) → p < 4 → o % 4 ≡ 0 → o < 0x40 → at ≡ 0x80000000 + (chain_at p + o) → In p o at
in_chain p o at few even low here = record {
  here = here;
  sort = data_sort (chain_at p + o) (omega (arith, even)) (omega arith) (omega (arith, few, low));
  place = data_place (chain_at p + o) (omega (arith, few, low));
}

-- what is read there
pub chain_is : (s : KernelState) → Valid s → (m : Memory) → Holds s m → (p : ℕ) → p < 4 → ChainAt (word m) (chain_at p) (chain s p)
chain_is s valid m h p few = h.reads.chains p (omega (arith, few, valid.chains_count))

-- ---- stores to a chain's block

-- all else is as before
pub record Kept (m x : Memory) (p : ℕ) : Type 0 where
  pub words : (a : ℕ) → a % 4 ≡ 0 → (a < chain_at p) ⊎ (chain_at p + 0x40 ≤ a) → word x a ≡ word m a
  pub bytes : (a : ℕ) → (a < chain_at p) ⊎ (chain_at p + 0x40 ≤ a) → byte x a ≡ byte m a

pub kept_all : (m : Memory) (p : ℕ) → Kept m m p
kept_all m p = record { words = λ a al out. refl; bytes = λ a out. refl }

apart_out : (p a : ℕ) → (a < p) ⊎ (p + 4 ≤ a) → apart p 4 a 1 ≡ true
apart_out p a h = grind arith

pub kept_put : (m x : Memory) (p o v : ℕ) → o % 4 ≡ 0 → o < 0x40 → Kept m x p → Kept m (put_word x (chain_at p + o) v) p
kept_put m x p o v even low k =
    let q : ℕ = chain_at p + o in record {
      words = λ a al out. word_stored x q v a (omega (arith, even)) al ∙ put_other (word x) q v a (λ e. ⊎_elim (λ l. omega (arith, e, l)) (λ g. omega (arith, e, g, low)) out) ∙ k.words a al out;
      bytes = λ a out. byte-put_word_apart x q v a (apart_out q a (⊎_elim (λ l. inl (omega (arith, l))) (λ g. inr (omega (arith, g, low, even))) out)) ∙ k.bytes a out;
    }

-- the word that was stored, and another one
pub put_same : (x : Memory) (p o v : ℕ) → o % 4 ≡ 0 → word (put_word x (chain_at p + o) v) (chain_at p + o) ≡ v
put_same x p o v even = word_stored x (chain_at p + o) v (chain_at p + o) (omega (arith, even)) (omega (arith, even)) ∙ put_here (word x) (chain_at p + o) v

pub put_else : (x : Memory) (p o v q : ℕ) → o % 4 ≡ 0 → q % 4 ≡ 0 → (q ≡ o → ⊥) → word (put_word x (chain_at p + o) v) (chain_at p + q) ≡ word x (chain_at p + q)
put_else x p o v q even other ne = word_stored x (chain_at p + o) v (chain_at p + q) (omega (arith, even)) (omega (arith, other)) ∙ put_other (word x) (chain_at p + o) v (chain_at p + q) (λ e. ne (omega (arith, e)))

pub holds_chain : (s : KernelState) → Valid s → (m x : Memory) → Holds s m → (p : ℕ) (es : List ℕ) → p < 4 → Kept m x p → ChainAt (word x) (chain_at p) es → Holds (with_chain s p es) x
holds_chain s valid m x h p es few k there = record {
  settled = h.settled;
  area = block_same (word m) (word x) 0xEB00 0 0x98 (saved s.running) refl refl (λ a al lo up. k.words a al (inr (omega (arith, lo, few)))) h.area;
  reads = reads_chain s valid (word m) (word x) (byte m) (byte x) (λ a lo up. k.bytes a (inr (omega (arith, lo, few)))) p es few k.words there h.reads;
  user = λ a u. (let far = user_high a u in k.bytes a (inr (omega (arith, far, few)))) ∙ h.user a u;
}

-- ---- lists of elements in memory, the head last

pub stack_by : (w x : ℕ → ℕ) (at : ℕ) (es : List ℕ) → ((i : ℕ) → i < length es → x (at + 4 * i) ≡ w (at + 4 * i)) → Stack w at es → Stack x at es
stack_by w x at [] same h = tt
stack_by w x at (e ∷ es) same h = (same (length es) (omega arith) ∙ h.0, stack_by w x at es (λ i lt. same i (omega (arith, lt))) h.1)

-- how many elements stand behind the first one that is e
abbrev pub behind : ℕ → List ℕ → ℕ
behind e [] = 0
behind e (y ∷ ys) = if nat_eq y e then length ys else behind e ys

pub behind_low : (e : ℕ) (es : List ℕ) → has e es ≡ true → behind e es < length es
behind_low e [] h = absurd (false≢true h)
behind_low e (y ∷ ys) h = go (nat_eq y e) h (behind_low e ys)
  where
    go : (b : Bool) → (b || has e ys) ≡ true → (has e ys ≡ true → behind e ys < length ys) → (if b then length ys else behind e ys) < suc (length ys)
    go true h more = omega arith
    go false h more = let l = more h in omega (arith, l)

pub without_one : (e : ℕ) (es : List ℕ) → has e es ≡ true → suc (length (without e es)) ≡ length es
without_one e [] h = absurd (false≢true h)
without_one e (y ∷ ys) h = go (nat_eq y e) h (without_one e ys)
  where
    go : (b : Bool) → (b || has e ys) ≡ true → (has e ys ≡ true → suc (length (without e ys)) ≡ length ys) → suc (length (if b then ys else y ∷ without e ys)) ≡ suc (length ys)
    go true h more = refl
    go false h more = ap suc (more h)

-- the elements before it have moved on by a word, and those behind it are as they were
pub removed : (e : ℕ) (es : List ℕ) (w x : ℕ → ℕ) (at : ℕ) → has e es ≡ true → Stack w at es → ((i : ℕ) → i < behind e es → x (at + 4 * i) ≡ w (at + 4 * i))
    → ((i : ℕ) → behind e es ≤ i → suc i < length es → x (at + 4 * i) ≡ w (at + 4 * suc i)) → Stack x at (without e es)
removed e [] w x at h there low mid = absurd (false≢true h)
removed e (y ∷ ys) w x at h there low mid = go (nat_eq y e) h low mid (removed e ys w x at)
  where
    go : (b : Bool) → (b || has e ys) ≡ true → ((i : ℕ) → i < (if b then length ys else behind e ys) → x (at + 4 * i) ≡ w (at + 4 * i))
        → ((i : ℕ) → (if b then length ys else behind e ys) ≤ i → suc i < suc (length ys) → x (at + 4 * i) ≡ w (at + 4 * suc i))
        → (has e ys ≡ true → Stack w at ys → ((i : ℕ) → i < behind e ys → x (at + 4 * i) ≡ w (at + 4 * i))
        → ((i : ℕ) → behind e ys ≤ i → suc i < length ys → x (at + 4 * i) ≡ w (at + 4 * suc i)) → Stack x at (without e ys))
        → Stack x at (if b then ys else y ∷ without e ys)
    go true h low mid more = stack_by w x at ys low there.1
    go false h low mid more =
        let n : ℕ = length (without e ys) in
        let one = without_one e ys h in
        let under = behind_low e ys h in
        let is : w (at + 4 * suc n) ≡ y = ap (λ k. w (at + 4 * k)) one ∙ there.0 in
        (mid n (omega (arith, one, under)) (omega (arith, one)) ∙ is, more h there.1 low (λ i l u. mid i l (omega (arith, u))))
