-- The listing of COPY_HALF copies half a context.
use Rattle.psx_flow.proofs.Kit.{◌≡◌, ℕ, suc, ◌+◌, ◌-◌, ◌*◌, ◌%◌, ◌^◌, ◌<◌, ◌≤◌, ◌⊎◌, inl, inr, [], true, false, refl, sym, ap, ◌∙◌, subst, arith, ⊎_elim, Memory, byte, word, put_word, Registers, Run, Meets, Goal, Calls, calls, Tree, Stop, Do, GoTo, place, kernel_words, Fair, fair, start, Sym, ended, Part, Anew, Count, counted, Calling, run, Entry, applied, Access, Cop0, Kernel, word_sort}
use Rattle.std.proofs.Common.{zero, List, ◌∷◌}
use Rattle.std.specs.Prelude.{nat_eq, if◌then◌else◌}
use Rattle.std.proofs.lemmas.Bool.{lt-ltb, cases_eq, cases_lt}
use Rattle.psx_ins.specs.declared.reg.Reg.{Reg}
use Rattle.psx_ins.specs.declared.ins.Ins.TheVariants.{LW, SW, ADDIU}
use Rattle.psx_ram.specs.Apart.{apart}
use Rattle.psx_ram.proofs.Laws.{byte-put_word_apart}
use Rattle.psx_cpu.specs.Words.{sign_extended}
use Rattle.psx_flow.specs.Told.{ports}
use Rattle.psx_flow.proofs.Rules.{meets_mono}
use Rattle.psx_flow.proofs.Knows.{first_call}
use Rattle.psx_flow.proofs.Log.{KernelWord, kernel_word_then}
use Rattle.kern_layout.proofs.Blocks.{put_here, put_other}
use Rattle.kern_layout.proofs.MemoryStored.{word_stored}
use Rattle.kern_stay.specs.Shared.{tree}
use Rattle.kern_stay.specs.declared.copy_half.TheConstants.{COPY_HALF_NODES}
use Rattle.kern_stay.specs.Copy.{WordsCopied}
use Rattle.kern_stay.specs.CopyHalf.{Halves, NamesHalves, HalfCopied, CopiesHalf}
use Rattle.kern_stay.proofs.Copying.{data_place, data_sort}

abbrev r : ℕ → Reg
r n = record { 0 = n }

-- n pairs of words are moved, from word i on
abbrev pairs : (n i : ℕ) → Tree → Tree
pairs zero i T = T
pairs (suc n) i T = Do (LW (r 8) (r 10) (4 * i)) (Do (LW (r 8) (r 11) (4 * suc i)) (Do (SW (r 9) (r 10) (4 * i)) (Do (SW (r 9) (r 11) (4 * suc i)) (pairs n (suc (suc i)) T))))

-- word i of a block
record Word (a p i : ℕ) : Type 0 where
  here : (a + sign_extended (4 * i)) % 2 ^ 32 ≡ 0x80000000 + (p + 4 * i)
  sort : word_sort (0x80000000 + (p + 4 * i)) ≡ Kernel
  place : place (0x80000000 + (p + 4 * i)) ≡ p + 4 * i

offset : (i : ℕ) → i < 18 → sign_extended (4 * i) ≡ 4 * i
offset i lt = ap (λ b. if b then 4 * i else 4 * i + (2 ^ 32 - 2 ^ 16)) (lt-ltb (4 * i) (2 ^ 15) (omega (arith, lt)))

word_at : (a p i : ℕ) → a ≡ 0x80000000 + p → p % 4 ≡ 0 → 0xB000 ≤ p → p + 72 ≤ 0x10000 → i < 18 → Word a p i
word_at a p i e al low high lt = record {
  here = ap (λ o. (a + o) % 2 ^ 32) (offset i lt) ∙ omega arith;
  sort = data_sort (p + 4 * i) (omega arith) (omega arith) (omega arith);
  place = data_place (p + 4 * i) (omega arith);
}

apart_out : (p a : ℕ) → (a < p) ⊎ (p + 4 ≤ a) → apart p 4 a 1 ≡ true
apart_out p a h = grind arith

apart_words : (p a : ℕ) → (a + 4 ≤ p) ⊎ (p + 4 ≤ a) → apart p 4 a 4 ≡ true
apart_words p a h = grind arith

other : (p a : ℕ) → (a + 4 ≤ p) ⊎ (p + 4 ≤ a) → nat_eq p a ≡ false
other p a h = grind arith

-- a read behind a store of another word
read_past : (m : Memory) (w : List Entry) (b v p : ℕ) (k : ℕ → Type 0) → nat_eq b p ≡ false → apart b 4 p 4 ≡ true → kernel_word_then m w p k → kernel_word_then m (KernelWord b v ∷ w) p k
read_past m w b v p k e f h = rw (e, f) h

module _ (C : Calls) (K : Part) (G : ℕ → Goal) (m : Memory) (from to : ℕ) (blocks : Halves from to) where
  -- i words have been moved
  record Moved (i : ℕ) (w : List Entry) : Type 1 where
    copied : (j : ℕ) → j < i → word (applied m w) (to + 4 * j) ≡ word m (from + 4 * j)
    words : (a : ℕ) → a % 4 ≡ 0 → (a < to) ⊎ (to + 72 ≤ a) → word (applied m w) a ≡ word m a
    bytes : (a : ℕ) → (a < to) ⊎ (to + 72 ≤ a) → byte (applied m w) a ≡ byte m a
    reads : (p : ℕ) (k : ℕ → Type 0) → (p + 4 ≤ to) ⊎ (to + 72 ≤ p) → k (word m p) → kernel_word_then m w p k

  more : (i : ℕ) (w : List Entry) → i < 18 → Moved i w → Moved (suc i) (KernelWord (to + 4 * i) (word m (from + 4 * i)) ∷ w)
  more i w few h =
      let t : ℕ = to + 4 * i in
      let v : ℕ = word m (from + 4 * i) in
      let even = blocks.even.1 in
      let kept : (x : ℕ) → x % 4 ≡ 0 → (x ≡ t → ⊥) → word (put_word (applied m w) t v) x ≡ word (applied m w) x = λ x al ne. word_stored (applied m w) t v x (omega (arith, even)) al ∙ put_other (word (applied m w)) t v x ne in
      let new : word (put_word (applied m w) t v) t ≡ v = word_stored (applied m w) t v t (omega (arith, even)) (omega (arith, even)) ∙ put_here (word (applied m w)) t v in
      record {
        copied = λ j lt. ⊎_elim
            (λ (q : j ≡ i). subst (λ x. word (put_word (applied m w) t v) (to + 4 * x) ≡ word m (from + 4 * x)) (sym q) new)
            (λ (q : j ≡ i → ⊥). kept (to + 4 * j) (omega (arith, even)) (λ x. omega (arith, x, q)) ∙ h.copied j (omega (arith, lt, q)))
            (cases_eq j i);
        words = λ a al out. kept a al (λ q. ⊎_elim (λ o. omega (arith, o, q)) (λ o. omega (arith, o, q, few)) out) ∙ h.words a al out;
        bytes = λ a out. byte-put_word_apart (applied m w) t v a (apart_out t a (⊎_elim (λ o. inl (omega (arith, o))) (λ o. inr (omega (arith, o, few))) out)) ∙ h.bytes a out;
        reads = λ p k out g. (let far : (p + 4 ≤ t) ⊎ (t + 4 ≤ p) = ⊎_elim (λ o. inl (omega (arith, o))) (λ o. inr (omega (arith, o, few))) out in read_past m w t v p k (other t p far) (apart_words t p far) (h.reads p k out g));
      }

  from_far : (i : ℕ) → i < 18 → (from + 4 * i + 4 ≤ to) ⊎ (to + 72 ≤ from + 4 * i)
  from_far i few = ⊎_elim (λ o. inl (omega (arith, o, few))) (λ o. inr (omega (arith, o))) blocks.apart

  moves : (n i : ℕ) (T : Tree) (at : ℕ) (c : Registers) (z : Cop0) (w : List Entry) (q : List Access) (p : Count) → i + 2 * n ≤ 18 → NamesHalves c from to → Moved i w
      → ((x y at : ℕ) (w : List Entry) (seen : List Access) (later : Count) → Moved (i + 2 * n) w → ports seen ≡ ports q → later.steps ≡ p.steps + 4 * n → Sym C T at K G (record c { r10 = x; r11 = y }) z m w seen later)
      → Sym C (pairs n i T) at K G c z m w q p
  moves zero i T at c z w q p few names h k = k c.r10 c.r11 at w q p (subst (λ j. Moved j w) (omega arith) h) refl (omega arith)
  moves (suc n) i T at c z w q p few names h k =
      let a = word_at c.r8 from i names.r8 blocks.even.0 blocks.low.0 blocks.high.0 (omega (arith, few)) in
      let b = word_at c.r8 from (suc i) names.r8 blocks.even.0 blocks.low.0 blocks.high.0 (omega (arith, few)) in
      let d = word_at c.r9 to i names.r9 blocks.even.1 blocks.low.1 blocks.high.1 (omega (arith, few)) in
      let e = word_at c.r9 to (suc i) names.r9 blocks.even.1 blocks.low.1 blocks.high.1 (omega (arith, few)) in
      rw (a.here, a.sort, a.place) (h.reads _ _ (from_far i (omega (arith, few)))
      (rw (b.here, b.sort, b.place) (h.reads _ _ (from_far (suc i) (omega (arith, few)))
      (rw (d.here, d.sort, d.place, e.here, e.sort, e.place)
      (moves n (suc (suc i)) T _ _ z _ _ _ (omega (arith, few)) (record { r8 = names.r8; r9 = names.r9 }) (more (suc i) _ (omega (arith, few)) (more i w (omega (arith, few)) h))
      (λ x y at w seen later done quiet count. k x y at w seen later (subst (λ j. Moved j w) (omega arith) done) quiet (count ∙ omega arith)))))))

module _ (C : Calls) (fair : Fair C) (at : ℕ) (s : Run) (from to : ℕ) (blocks : Halves from to) (names : NamesHalves s.regs from to) where
  pub copies : Meets kernel_words C (tree COPY_HALF_NODES) at (λ _. ⊥) (λ b e. HalfCopied s from to b e) s
  copies =
      let low = blocks.low in
      let high = blocks.high in
      start C fair (tree COPY_HALF_NODES) at (λ _. ⊥) (λ b e. HalfCopied s from to b e) s
      (moves C (ended (λ _. ⊥)) (λ b e. HalfCopied s from to b e) s.bytes from to blocks 9 0 (Do (ADDIU (r 8) (r 8) 68) (Do (ADDIU (r 9) (r 9) 68) (GoTo (r 31) Stop))) at s.regs s.cop0 [] s.seen (counted s) (omega arith) names
      (record { copied = λ j lt. absurd (omega (arith, lt)); words = λ a al out. refl; bytes = λ a out. refl; reads = λ p k out h. h })
      (λ x y at w seen later done quiet count. record {
        back = refl;
        regs = refl;
        names = record { r8 = omega (arith, names.r8, low.0, high.0); r9 = omega (arith, names.r9, low.1, high.1) };
        cop0 = refl;
        words = record { copied = done.copied; words = done.words; bytes = done.bytes };
        ports = quiet;
        within = omega (arith, count);
      }))

pub copies_half : CopiesHalf (tree COPY_HALF_NODES)
copies_half at s from to blocks names = copies (calls kernel_words []) (fair kernel_words []) at s from to blocks names

-- ---- what a routine takes of it

-- what holds behind the call
abbrev Behind : (k : Part) (c : Registers) (z : Cop0) (before : Memory) (q : List Access) (p : Count) (from to : ℕ) → Type 0
Behind k c z before q p from to =
    (n : Memory) (x y u v : ℕ) (seen : List Access) (later : Count) → x ≡ 0x80000000 + (from + 68) → y ≡ 0x80000000 + (to + 68) → WordsCopied before n from to 18 → ports seen ≡ ports q → later.steps ≤ p.steps + 40
    → k (record c { r8 = x; r9 = y; r10 = u; r11 = v }) z n [] seen later

module _ (C : Calls) (fair : Fair C) (k : Part) (c : Registers) (z : Cop0) (m : Memory) (w : List Entry) (q : List Access) (p : Count) (from to : ℕ) (blocks : Halves from to) (names : NamesHalves c from to)
    (known : Behind k c z (applied m w) q p from to) where
  goes : (to_at : ℕ) (e : Run) → HalfCopied (run c z m w q p) from to to_at e → (to_at ≡ c.r31) × Anew k e
  goes to_at e h =
      let after : Registers = record c { r8 = e.regs.r8; r9 = e.regs.r9; r10 = e.regs.r10; r11 = e.regs.r11 } in
      let there : k after z e.bytes [] e.seen (counted e) = known e.bytes e.regs.r8 e.regs.r9 e.regs.r10 e.regs.r11 e.seen (counted e) h.names.r8 h.names.r9 h.words h.ports h.within in
      (h.back, record { memory = e.bytes; log = []; same = refl; sorted = tt; goes = subst (λ x. k x e.cop0 e.bytes [] e.seen (counted e)) (sym h.regs) (subst (λ x. k after x e.bytes [] e.seen (counted e)) (sym h.cop0) there) })

  pub gives_half : (place : ℕ) → Meets kernel_words C (tree COPY_HALF_NODES) place (λ _. ⊥) (λ b e. (b ≡ c.r31) × Anew k e) (run c z m w q p)
  gives_half place =
      meets_mono kernel_words C fair (tree COPY_HALF_NODES) place (λ _. ⊥) (λ _. ⊥) (λ b e. HalfCopied (run c z m w q p) from to b e) (λ b e. (b ≡ c.r31) × Anew k e) (run c z m w q p) (λ e x. x) (λ b e h. goes b e h)
      (copies C fair place (run c z m w q p) from to blocks names)

-- where it stands
pub record KnowsHalf (place : ℕ) (C : Calls) : Type 1 where
  pub half : (k : Part) (c : Registers) (z : Cop0) (m : Memory) (w : List Entry) (q : List Access) (p : Count) (from to : ℕ) → Halves from to → NamesHalves c from to
      → Behind k c z (applied m w) q p from to → Calling C place c.r31 k c z m w q p

pub knows_half : (place : ℕ) (ls : List (ℕ × Tree)) → KnowsHalf place (calls kernel_words ((place, tree COPY_HALF_NODES) ∷ ls))
knows_half place ls = record {
  half = λ k c z m w q p from to blocks names known. record {
    called = λ ok. first_call place (tree COPY_HALF_NODES) ls c.r31 (Anew k) (run c z m w q p) refl (gives_half (calls kernel_words ls) (fair kernel_words ls) k c z m w q p from to blocks names known place);
  };
}

-- ---- one run behind another

-- the second run begins where the first ones ended, k words on
pub more_copied : (m mid n : Memory) (from to k : ℕ) → (from % 4 ≡ 0) × (to % 4 ≡ 0) → (from + 4 * (k + 18) ≤ to) ⊎ (to + 4 * (k + 18) ≤ from) → WordsCopied m mid from to (suc k) → WordsCopied mid n (from + 4 * k) (to + 4 * k) 18
    → WordsCopied m n from to (k + 18)
more_copied m mid n from to k even far c d = let from_even = even.0 in let to_even = even.1 in record {
  copied = λ i lt. ⊎_elim
      (λ (l : i < k).
      d.words (to + 4 * i) (omega (arith, to_even)) (inl (omega (arith, l))) ∙ c.copied i (omega (arith, l)))
      (λ (g : k ≤ i).
      let j : ℕ = i - k in
      let to_is : to + 4 * i ≡ to + 4 * k + 4 * j = omega (arith, g) in
      let from_is : from + 4 * k + 4 * j ≡ from + 4 * i = omega (arith, g) in
      ap (word n) to_is ∙ d.copied j (omega (arith, g, lt)) ∙ ap (word mid) from_is
      ∙ c.words (from + 4 * i) (omega (arith, from_even)) (⊎_elim (λ o. inl (omega (arith, o, lt))) (λ o. inr (omega (arith, o))) far))
      (cases_lt i k);
  words = λ a al out. d.words a al (⊎_elim (λ o. inl (omega (arith, o))) (λ o. inr (omega (arith, o))) out) ∙ c.words a al (⊎_elim (λ o. inl o) (λ o. inr (omega (arith, o))) out);
  bytes = λ a out. d.bytes a (⊎_elim (λ o. inl (omega (arith, o))) (λ o. inr (omega (arith, o))) out) ∙ c.bytes a (⊎_elim (λ o. inl o) (λ o. inr (omega (arith, o))) out);
}

-- two runs copy a context
pub both_copied : (m mid n : Memory) (from to : ℕ) → (from % 4 ≡ 0) × (to % 4 ≡ 0) → (from + 140 ≤ to) ⊎ (to + 140 ≤ from) → WordsCopied m mid from to 18 → WordsCopied mid n (from + 68) (to + 68) 18 → WordsCopied m n from to 35
both_copied m mid n from to even far c d = more_copied m mid n from to 17 even far c d
