-- Stores to the fields of a thread's block, one behind the other.
use Rattle.std.proofs.Common.{◌≡◌, ℕ, ◌+◌, ◌%◌, ◌^◌, ◌<◌, ◌≤◌, ◌⊎◌, inl, inr, [], ◌∷◌, Bool, true, refl, ap, ◌∙◌, arith, ⊎_elim}
use Rattle.std.specs.Prelude.{nat_eq, nat_lt, ◌&&◌, not}
use Rattle.std.proofs.lemmas.Bool.{and_parts}
use Rattle.psx_base.specs.Memory.{Memory, byte, word, put_word}
use Rattle.psx_base.specs.Addresses.{place}
use Rattle.psx_ram.specs.Apart.{apart}
use Rattle.psx_ram.proofs.Laws.{byte-put_word_apart}
use Rattle.psx_flow.proofs.Log.{Kernel, word_sort}
use Rattle.kern_layout.specs.Fields.{Fields, Block}
use Rattle.kern_layout.proofs.Blocks.{put_here, put_other}
use Rattle.kern_layout.proofs.MemoryStored.{word_stored}
use Rattle.kern_stay.proofs.Copying.{data_place, data_sort}

abbrev pub stores : Memory → (at : ℕ) → Fields → Memory
stores m at [] = m
stores m at (f ∷ fs) = stores (put_word m (at + f.0) f.1) at fs

-- the same at the addresses in the cached segment
abbrev pub stores_there : Memory → (at : ℕ) → Fields → Memory
stores_there m at [] = m
stores_there m at (f ∷ fs) = stores_there (put_word m (place (0x80000000 + (at + f.0))) f.1) at fs

-- no field stands at an offset, and all stand in a block
abbrev pub absent : ℕ → Fields → Bool
absent o [] = true
absent o (f ∷ fs) = not (nat_eq f.0 o) && absent o fs

abbrev pub each_apart : Fields → Bool
each_apart [] = true
each_apart (f ∷ fs) = ((nat_lt f.0 0xBD && nat_eq (f.0 % 4) 0) && absent f.0 fs) && each_apart fs

record Field (o : ℕ) (a b : Bool) : Type 0 where
  low : o < 0xBD
  even : o % 4 ≡ 0
  here : a ≡ true
  rest : b ≡ true

field : (o : ℕ) (a b : Bool) → (((nat_lt o 0xBD && nat_eq (o % 4) 0) && a) && b) ≡ true → Field o a b
field o a b h =
    let p = and_parts ((nat_lt o 0xBD && nat_eq (o % 4) 0) && a) b h in
    let q = and_parts (nat_lt o 0xBD && nat_eq (o % 4) 0) a p.0 in
    let r = and_parts (nat_lt o 0xBD) (nat_eq (o % 4) 0) q.0 in
    record { low = below o r.0; even = same (o % 4) r.1; here = q.1; rest = p.1 }
  where
    below : (o : ℕ) → nat_lt o 0xBD ≡ true → o < 0xBD
    below o h = grind arith

    same : (x : ℕ) → nat_eq x 0 ≡ true → x ≡ 0
    same x h = grind arith

one : (m : Memory) (at o v a : ℕ) → at % 4 ≡ 0 → o % 4 ≡ 0 → a % 4 ≡ 0 → (a ≡ at + o → ⊥) → word (put_word m (at + o) v) a ≡ word m a
one m at o v a al ol am ne = word_stored m (at + o) v a (omega (arith, al, ol)) am ∙ put_other (word m) (at + o) v a ne

pub stores_words : (fs : Fields) (m : Memory) (at a : ℕ) → each_apart fs ≡ true → at % 4 ≡ 0 → a % 4 ≡ 0 → (a < at) ⊎ (at + 0xC0 ≤ a) → word (stores m at fs) a ≡ word m a
stores_words [] m at a h al am out = refl
stores_words (f ∷ fs) m at a h al am out =
    let g = field f.0 (absent f.0 fs) (each_apart fs) h in
    stores_words fs (put_word m (at + f.0) f.1) at a g.rest al am out ∙ one m at f.0 f.1 a al g.even am (λ e. let low = g.low in ⊎_elim (λ l. omega (arith, e, l)) (λ k. omega (arith, e, k, low)) out)

apart_out : (p a : ℕ) → (a < p) ⊎ (p + 4 ≤ a) → apart p 4 a 1 ≡ true
apart_out p a h = grind arith

pub stores_bytes : (fs : Fields) (m : Memory) (at a : ℕ) → each_apart fs ≡ true → (a < at) ⊎ (at + 0xC0 ≤ a) → byte (stores m at fs) a ≡ byte m a
stores_bytes [] m at a h out = refl
stores_bytes (f ∷ fs) m at a h out =
    let g = field f.0 (absent f.0 fs) (each_apart fs) h in
    let low = g.low in
    stores_bytes fs (put_word m (at + f.0) f.1) at a g.rest out ∙ byte-put_word_apart m (at + f.0) f.1 a
    (apart_out (at + f.0) a (⊎_elim (λ l. inl (omega (arith, l))) (λ k. inr (omega (arith, k, low))) out))

differs : (x o : ℕ) → not (nat_eq x o) ≡ true → x ≡ o → ⊥
differs x o h e = grind arith

kept : (fs : Fields) (m : Memory) (at o : ℕ) → each_apart fs ≡ true → absent o fs ≡ true → at % 4 ≡ 0 → o % 4 ≡ 0 → word (stores m at fs) (at + o) ≡ word m (at + o)
kept [] m at o h n al ol = refl
kept (f ∷ fs) m at o h n al ol =
    let g = field f.0 (absent f.0 fs) (each_apart fs) h in
    let p = and_parts (not (nat_eq f.0 o)) (absent o fs) n in
    kept fs (put_word m (at + f.0) f.1) at o g.rest p.1 al ol ∙ one m at f.0 f.1 (at + o) al g.even (omega (arith, al, ol)) (λ e. differs f.0 o p.0 (omega (arith, e)))

pub stores_block : (fs : Fields) (m : Memory) (at : ℕ) → each_apart fs ≡ true → at % 4 ≡ 0 → Block (word (stores m at fs)) at fs
stores_block [] m at h al = tt
stores_block (f ∷ fs) m at h al =
    let g = field f.0 (absent f.0 fs) (each_apart fs) h in
    let n : Memory = put_word m (at + f.0) f.1 in (
      kept fs n at f.0 g.rest g.here al g.even ∙ word_stored m (at + f.0) f.1 (at + f.0) (omega (arith, al, g.even)) (omega (arith, al, g.even)) ∙ put_here (word m) (at + f.0) f.1,
      stores_block fs n at g.rest al,
    )

pub stores_placed : (fs : Fields) (m : Memory) (at : ℕ) → each_apart fs ≡ true → at + 0xC0 ≤ 0x10000 → stores_there m at fs ≡ stores m at fs
stores_placed [] m at h small = refl
stores_placed (f ∷ fs) m at h small =
    let g = field f.0 (absent f.0 fs) (each_apart fs) h in
    let low = g.low in
    stores_placed fs (put_word m (place (0x80000000 + (at + f.0))) f.1) at g.rest small ∙ ap (λ q. stores (put_word m q f.1) at fs) (data_place (at + f.0) (omega (arith, low, small)))

-- where a store goes
pub record To (r p o : ℕ) : Type 0 where
  pub here : (r + o) % 2 ^ 32 ≡ 0x80000000 + (p + o)
  pub sort : word_sort (0x80000000 + (p + o)) ≡ Kernel
  pub place : place (0x80000000 + (p + o)) ≡ p + o

pub to : (r p o : ℕ) → r ≡ 0x80000000 + p → p % 4 ≡ 0 → o % 4 ≡ 0 → 0xB000 ≤ p → p + o < 0x10000 → To r p o
to r p o e pe oe low high = record { here = omega (arith, e, high); sort = data_sort (p + o) (omega (arith, pe, oe)) (omega (arith, low)) high; place = data_place (p + o) high }
