-- The listing of COPY copies words.
use Rattle.psx_flow.proofs.Kit.{◌≡◌, ℕ, suc, ◌+◌, ◌-◌, ◌*◌, ◌%◌, ◌^◌, ◌<◌, ◌≤◌, ◌⊎◌, inl, inr, [], true, false, refl, sym, ap, ◌∙◌, subst, arith, ⊎_elim, Memory, byte, word, put_word, Registers, Run, Meets, Goal, Calls, calls, Tree, Stop, Do, GoTo, place, kernel_words, Fair, fair, start, while, Turn, Sym, ended, Part, Anew, Count, counted, Calling, run, Entry, applied, Access, Cop0}
use Rattle.std.proofs.Common.{List, ◌∷◌, eq-eqb}
use Rattle.std.specs.Prelude.{nat_lt, nat_eq, if◌then◌else◌}
use Rattle.std.proofs.lemmas.Bool.{lt-ltb, cases_eq}
use Rattle.psx_ins.specs.declared.reg.Reg.{Reg}
use Rattle.psx_ins.specs.declared.ins.Ins.TheVariants.{LW, SW, ADDIU}
use Rattle.psx_flow.specs.declared.node.Test.TheVariants.{Differ}
use Rattle.psx_ram.specs.Apart.{apart}
use Rattle.psx_ram.proofs.Laws.{byte-put_word_apart}
use Rattle.psx_flow.specs.Told.{ports}
use Rattle.psx_flow.proofs.Rules.{meets_mono}
use Rattle.psx_flow.proofs.Knows.{first_call, later_call}
use Rattle.psx_flow.proofs.Log.{Kernel, Nowhere, sort, sort_by, in_user, is_port, word_sort}
use Rattle.kern_layout.proofs.Blocks.{put_here, put_other}
use Rattle.kern_layout.proofs.MemoryStored.{word_stored}
use Rattle.kern_stay.specs.Shared.{tree}
use Rattle.kern_stay.specs.declared.copy.TheConstants.{COPY_NODES}
use Rattle.kern_stay.specs.Copy.{WordsCopied, NamesBlocks, Copied, CopiesWords}

abbrev r : ℕ → Reg
r n = record { 0 = n }

abbrev turn_tree : Tree
turn_tree = Do (LW (r 8) (r 12) 0) (Do (ADDIU (r 8) (r 8) 4) (Do (SW (r 9) (r 12) 0) (Do (ADDIU (r 9) (r 9) 4) Stop)))

-- an address of the kernel's data in the cached segment
pub data_place : (p : ℕ) → p < 0x10000 → place (0x80000000 + p) ≡ p
data_place p h = grind arith

not_below : (p : ℕ) → 0xB000 ≤ p → nat_lt p 0xB000 ≡ false
not_below p h = grind arith

pub data_sort : (p : ℕ) → p % 4 ≡ 0 → 0xB000 ≤ p → p < 0x10000 → word_sort (0x80000000 + p) ≡ Kernel
data_sort p al low high =
    let e : (0x80000000 + p) % 4 ≡ 0 = omega arith in
    ap (λ b. if b then sort (place (0x80000000 + p)) else Nowhere) (eq-eqb _ 0 e) ∙ ap sort (data_place p high) ∙ (λ i. sort_by (not_below p low i) (lt-ltb p 0x10000 high i) (in_user p) (is_port p))

record Datum (a p : ℕ) : Type 0 where
  here : (a + 0) % 2 ^ 32 ≡ a
  sort : word_sort a ≡ Kernel
  place : place a ≡ p
  next : (a + 4) % 2 ^ 32 ≡ 0x80000000 + (p + 4)

datum : (a p : ℕ) → a ≡ 0x80000000 + p → p % 4 ≡ 0 → 0xB000 ≤ p → p + 4 ≤ 0x10000 → Datum a p
datum a p e al low high = record { here = omega arith; sort = ap word_sort e ∙ data_sort p al low (omega arith); place = ap place e ∙ data_place p (omega arith); next = omega arith }

apart_out : (p a : ℕ) → (a < p) ⊎ (p + 4 ≤ a) → apart p 4 a 1 ≡ true
apart_out p a h = grind arith

-- at the loop's head, with k words to come
record Head (s : Run) (from to count k : ℕ) (e : Run) : Type 0 where
  i : ℕ
  sum : i + k ≡ count
  r8 : e.regs.r8 ≡ 0x80000000 + (from + 4 * i)
  r9 : e.regs.r9 ≡ 0x80000000 + (to + 4 * i)
  regs : e.regs ≡ record s.regs { r8 = e.regs.r8; r9 = e.regs.r9; r12 = e.regs.r12 }
  cop0 : e.cop0 ≡ s.cop0
  copied : (j : ℕ) → j < i → word e.bytes (to + 4 * j) ≡ word s.bytes (from + 4 * j)
  words : (a : ℕ) → a % 4 ≡ 0 → (a < to) ⊎ (to + 4 * count ≤ a) → word e.bytes a ≡ word s.bytes a
  bytes : (a : ℕ) → (a < to) ⊎ (to + 4 * count ≤ a) → byte e.bytes a ≡ byte s.bytes a
  ports : ports e.seen ≡ ports s.seen
  within : e.steps ≤ s.steps + 8 * i

module _ (C : Calls) (fair : Fair C) (at : ℕ) (s : Run) (from to count : ℕ) (names : NamesBlocks s.regs from to count) where
  abbrev G : ℕ → Goal
  G b e = Copied s from to count b e

  r10_kept : (k : ℕ) (e : Run) → Head s from to count k e → e.regs.r10 ≡ 0x80000000 + (from + 4 * count)
  r10_kept k e h = ap (λ x. x.r10) h.regs ∙ names.r10

  turn : (k : ℕ) (e : Run) → Head s from to count k e → Turn C (Differ (r 8) (r 10)) turn_tree at (Sym C (GoTo (r 31) Stop) (at + 32) (ended (λ _. ⊥)) G) G ℕ (λ i. i) (Head s from to count) k e
  turn k e h =
      let i : ℕ = h.i in
      let sum = h.sum in
      let within = h.within in
      let r10 = r10_kept k e h in
      let from_even = names.even.0 in let to_even = names.even.1 in let from_low = names.low.0 in let to_low = names.low.1 in let from_high = names.high.0 in let to_high = names.high.1 in
      record {
        leave = λ eq.
            let all : i ≡ count = omega (arith, eq, h.r8, r10) in
            record {
              back = ap (λ x. x.r31) h.regs;
              regs = h.regs;
              next = h.r9 ∙ (let q : 0x80000000 + (to + 4 * i) ≡ 0x80000000 + (to + 4 * count) = omega (arith, all) in q);
              cop0 = h.cop0;
              words = record { copied = λ j lt. h.copied j (omega (arith, all)); words = h.words; bytes = h.bytes };
              ports = h.ports;
              within = omega (arith, within, all);
            };
        again = λ ne.
            let some : 0 < k = ⊎_elim (λ (z : k ≡ 0). absurd (ne (h.r8 ∙ (let q : 0x80000000 + (from + 4 * i) ≡ 0x80000000 + (from + 4 * count) = omega (arith, z, sum) in q) ∙ sym r10))) (λ (nz : k ≡ 0 → ⊥). omega (arith, nz)) (cases_eq k 0) in
            let p : ℕ = from + 4 * i in
            let t : ℕ = to + 4 * i in
            let a = datum e.regs.r8 p h.r8 (omega (arith, from_even)) (omega (arith, from_low)) (omega (arith, from_high, sum, some)) in
            let b = datum e.regs.r9 t h.r9 (omega (arith, to_even)) (omega (arith, to_low)) (omega (arith, to_high, sum, some)) in
            let v : ℕ = word e.bytes (place e.regs.r8) in
            let n : Memory = put_word e.bytes (place e.regs.r9) v in
            let n_is : n ≡ put_word e.bytes t v = ap (λ x. put_word e.bytes x v) b.place in
            let read : v ≡ word s.bytes p = ap (word e.bytes) a.place ∙ h.words p (omega (arith, from_even)) (⊎_elim (λ q. inl (omega (arith, q, sum, some))) (λ q. inr (omega (arith, q))) names.apart) in
            let stored : (x : ℕ) → x % 4 ≡ 0 → (x ≡ t → ⊥) → word n x ≡ word e.bytes x = λ x al other. ap (λ y. word y x) n_is ∙ word_stored e.bytes t v x (omega (arith, to_even)) al ∙ put_other (word e.bytes) t v x other in
            let new : word n t ≡ v = ap (λ y. word y t) n_is ∙ word_stored e.bytes t v t (omega (arith, to_even)) (omega (arith, to_even)) ∙ put_here (word e.bytes) t v in
            rw (a.here, a.sort, b.here, b.sort) (
              k - 1,
              omega (arith, some),
              record {
                i = suc i;
                sum = omega (arith, sum, some);
                r8 = a.next ∙ (let q : 0x80000000 + (p + 4) ≡ 0x80000000 + (from + 4 * suc i) = omega arith in q);
                r9 = b.next ∙ (let q : 0x80000000 + (t + 4) ≡ 0x80000000 + (to + 4 * suc i) = omega arith in q);
                regs = λ j. record (h.regs j) { r8 = (e.regs.r8 + 4) % 2 ^ 32; r9 = (e.regs.r9 + 4) % 2 ^ 32; r12 = v };
                cop0 = h.cop0;
                copied = λ j lt. ⊎_elim
                    (λ (q : j ≡ i). subst (λ x. word n (to + 4 * x) ≡ word s.bytes (from + 4 * x)) (sym q) (new ∙ read))
                    (λ (q : j ≡ i → ⊥). stored (to + 4 * j) (omega (arith, to_even)) (λ x. omega (arith, x, q)) ∙ h.copied j (omega (arith, lt, q)))
                    (cases_eq j i);
                words = λ x al out. stored x al (λ q. ⊎_elim (λ o. omega (arith, o, q)) (λ o. omega (arith, o, q, sum, some)) out) ∙ h.words x al out;
                bytes = λ x out. ap (λ y. byte y x) n_is ∙ byte-put_word_apart e.bytes t v x (apart_out t x (⊎_elim (λ o. inl (omega (arith, o))) (λ o. inr (omega (arith, o, sum, some))) out)) ∙ h.bytes x out;
                ports = h.ports;
                within = omega (arith, within);
              },
            );
      }

  pub copies : Meets kernel_words C (tree COPY_NODES) at (λ _. ⊥) (λ b e. Copied s from to count b e) s
  copies =
      start C fair (tree COPY_NODES) at (λ _. ⊥) (λ b e. Copied s from to count b e) s
      (while C fair (Differ (r 8) (r 10)) turn_tree at (Sym C (GoTo (r 31) Stop) (at + 32) (ended (λ _. ⊥)) G) G ℕ (λ i. i) (Head s from to count) turn count s
      record {
        i = 0;
        sum = omega arith;
        r8 = names.r8 ∙ (let q : 0x80000000 + from ≡ 0x80000000 + (from + 4 * 0) = omega arith in q);
        r9 = names.r9 ∙ (let q : 0x80000000 + to ≡ 0x80000000 + (to + 4 * 0) = omega arith in q);
        regs = refl;
        cop0 = refl;
        copied = λ j lt. absurd (omega (arith, lt));
        words = λ a al out. refl;
        bytes = λ a out. refl;
        ports = refl;
        within = omega arith;
      })

pub copies_words : CopiesWords (tree COPY_NODES)
copies_words at s from to count names = copies (calls kernel_words []) (fair kernel_words []) at s from to count names

-- ---- what a routine takes of it

module _ (C : Calls) (fair : Fair C) (k : Part) (c : Registers) (z : Cop0) (m : Memory) (w : List Entry) (q : List Access) (p : Count) (from to count : ℕ) (names : NamesBlocks c from to count)
    (known : (n : Memory) (x y v : ℕ) (seen : List Access) (later : Count) → WordsCopied (applied m w) n from to count → ports seen ≡ ports q → later.steps ≤ p.steps + (8 * count + 4) → k (record c { r8 = x; r9 = y; r12 = v }) z n [] seen later) where
  goes : (to_at : ℕ) (e : Run) → Copied (run c z m w q p) from to count to_at e → (to_at ≡ c.r31) × Anew k e
  goes to_at e h =
      let there : k (record c { r8 = e.regs.r8; r9 = e.regs.r9; r12 = e.regs.r12 }) z e.bytes [] e.seen (counted e) = known e.bytes e.regs.r8 e.regs.r9 e.regs.r12 e.seen (counted e) h.words h.ports h.within in
      (h.back, record { memory = e.bytes; log = []; same = refl; sorted = tt; goes = subst (λ x. k x e.cop0 e.bytes [] e.seen (counted e)) (sym h.regs) (subst (λ x. k (record c { r8 = e.regs.r8; r9 = e.regs.r9; r12 = e.regs.r12 }) x e.bytes [] e.seen (counted e)) (sym h.cop0) there) })

  pub gives_copy : (place : ℕ) → Meets kernel_words C (tree COPY_NODES) place (λ _. ⊥) (λ b e. (b ≡ c.r31) × Anew k e) (run c z m w q p)
  gives_copy place =
      meets_mono kernel_words C fair (tree COPY_NODES) place (λ _. ⊥) (λ _. ⊥) (λ b e. Copied (run c z m w q p) from to count b e) (λ b e. (b ≡ c.r31) × Anew k e) (run c z m w q p) (λ e x. x) (λ b e h. goes b e h)
      (copies C fair place (run c z m w q p) from to count names)

-- where it stands
pub record KnowsCopy (place : ℕ) (C : Calls) : Type 1 where
  pub copy : (k : Part) (c : Registers) (z : Cop0) (m : Memory) (w : List Entry) (q : List Access) (p : Count) (from to count : ℕ) → NamesBlocks c from to count
      → ((n : Memory) (x y v : ℕ) (seen : List Access) (later : Count) → WordsCopied (applied m w) n from to count → ports seen ≡ ports q → later.steps ≤ p.steps + (8 * count + 4) → k (record c { r8 = x; r9 = y; r12 = v }) z n [] seen later) → Calling C place c.r31 k c z m w q p

pub knows_copy : (place : ℕ) (ls : List (ℕ × Tree)) → KnowsCopy place (calls kernel_words ((place, tree COPY_NODES) ∷ ls))
knows_copy place ls = record {
  copy = λ k c z m w q p from to count names known. record {
    called = λ ok. first_call place (tree COPY_NODES) ls c.r31 (Anew k) (run c z m w q p) refl (gives_copy (calls kernel_words ls) (fair kernel_words ls) k c z m w q p from to count names known place);
  };
}

-- and behind a listing that stands elsewhere
pub knows_copy_behind : (place : ℕ) (l : ℕ × Tree) (ls : List (ℕ × Tree)) → nat_eq place l.0 ≡ false → KnowsCopy place (calls kernel_words ls) → KnowsCopy place (calls kernel_words (l ∷ ls))
knows_copy_behind place l ls far know = record {
  copy = λ k c z m w q p from to count names known. record { called = λ ok. later_call place l ls c.r31 (Anew k) (run c z m w q p) far ((know.copy k c z m w q p from to count names known).called ok) };
}
