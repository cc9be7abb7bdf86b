-- What allocating and freeing keep of the heap's blocks: the sum of their sizes, that the sizes are multiples of 8 above 0, and that no two neighbours are free.
use Rattle.std.proofs.Common.{◌≡◌, ℕ, suc, ◌+◌, ◌-◌, ◌%◌, ◌≤◌, Bool, true, false, [], ◌∷◌, length, inl, inr, ⊎_elim, refl, sym, ap, ◌∙◌, subst, arith}
use Rattle.std.specs.Prelude.{All, sum_by, Option, Some, None, nat_eq, nat_lt, is_some, ◌||◌, if◌then◌else◌}
use Rattle.std.proofs.lemmas.Bool.{false≢true, or_parts, or_cases, eqb-true, eqb-false, leb-true, ltb-true}
use Rattle.std.proofs.lemmas.List.Elements.{All-cons}
use Rattle.std.proofs.lemmas.List.Sums.{sum_by-cons}
use Rattle.psx_base.specs.FirstBad.{first_bad_of}
use Rattle.psx_base.specs.KernelState.{Heap}
use Rattle.kern_layout.specs.Valid.{BlockFits, NoneFreeBoth, HeapFits}
use Rattle.abs_kernel.specs.Heap.{Block, Blocks, rounded, Given, fits, splits, behind, allots, has_spare, allocates, used_size, joins, releases, frees_by, frees}

-- the sum of the sizes
abbrev pub total : Blocks → ℕ
total [] = 0
total (b ∷ bs) = b.0 + total bs

pub sum_total : (bs : Blocks) → sum_by (λ (b : Block). b.0) bs ≡ total bs
sum_total [] = refl
sum_total (b ∷ bs) = sum_by-cons (λ (c : Block). c.0) b bs ∙ ap (λ n. b.0 + n) (sum_total bs)

-- each block has a size that fits
abbrev pub Sized : Blocks → Type 0
Sized [] = Unit {0}
Sized (b ∷ bs) = BlockFits b × Sized bs

pub sized : (bs : Blocks) → All BlockFits bs → Sized bs
sized [] h = tt
sized (b ∷ bs) h = (h 0 b (omega arith), sized bs (λ k d lt. h (suc k) d (omega arith)))

pub all_fit : (bs : Blocks) → Sized bs → All BlockFits bs
all_fit [] h = λ k d lt. absurd (omega (arith, lt))
all_fit (b ∷ bs) h = All-cons BlockFits b bs h.0 (all_fit bs h.1)

-- ---- neighbours

pub none_behind : (b : Block) (bs : Blocks) → NoneFreeBoth (b ∷ bs) → NoneFreeBoth bs
none_behind b [] h = tt
none_behind b (c ∷ cs) h = h.1

-- before any blocks a used one may stand
pub used_before : (b : Block) (bs : Blocks) → b.1 ≡ true → NoneFreeBoth bs → NoneFreeBoth (b ∷ bs)
used_before b [] u h = tt
used_before b (c ∷ cs) u h = (inl u, h)

-- where a block stands, also another may that is used as it is
pub same_before : (b c : Block) (bs : Blocks) → b.1 ≡ c.1 → NoneFreeBoth (b ∷ bs) → NoneFreeBoth (c ∷ bs)
same_before b c [] e h = tt
same_before b c (d ∷ ds) e h = (⊎_elim (λ u. inl (sym e ∙ u)) (λ u. inr u) h.0, h.1)

-- ---- to allocate

-- what stays where blocks change; they are one more at most, and that only where an entry is spare
pub record Kept (spare : Bool) (old new : Blocks) : Type 0 where
  pub sizes : Sized old → Sized new
  pub joined : (b : Block) → NoneFreeBoth (b ∷ old) → NoneFreeBoth (b ∷ new)
  pub sum : total new ≡ total old
  pub count : length new ≤ length old + (if spare then 1 else 0)

pub fits_free : (n : ℕ) (b : Block) → fits n b ≡ true → b.1 ≡ false
fits_free n (size, false) h = refl
fits_free n (size, true) h = absurd (false≢true h)

pub fits_enough : (n : ℕ) (b : Block) → fits n b ≡ true → n ≤ b.0
fits_enough n (size, false) h = leb-true n size h
fits_enough n (size, true) h = absurd (false≢true h)

-- the blocks that are given in the place of others
abbrev pub GivenKept : (spare : Bool) (old : Blocks) → Option Given → Type 0
GivenKept spare old None = Unit {0}
GivenKept spare old (Some g) = Kept spare old g.blocks

-- n bytes that are above 0 and a multiple of 8
pub record IsSize (n : ℕ) : Type 0 where
  pub multiple : n % 8 ≡ 0
  pub some : n ≡ 0 → ⊥

whole_kept : (n : ℕ) (spare : Bool) (b : Block) (bs : Blocks) → IsSize n → b.0 ≡ n → Kept spare (b ∷ bs) ((n, true) ∷ bs)
whole_kept n spare b bs z e = record {
  sizes = λ h. (record { multiple = z.multiple; some = z.some }, h.1);
  joined = λ c h. (inr refl, used_before (n, true) bs refl (none_behind b bs h.1));
  sum = ap (λ k. k + total bs) (sym e);
  count = omega arith;
}

split_kept : (n : ℕ) (b : Block) (bs : Blocks) → IsSize n → b.1 ≡ false → n ≤ b.0 → (b.0 ≡ n → ⊥) → Kept true (b ∷ bs) ((n, true) ∷ (b.0 - n, false) ∷ bs)
split_kept n b bs z free few other = record {
  sizes = λ h. (record { multiple = z.multiple; some = z.some }, (record { multiple = omega (arith, h.0.multiple, z.multiple); some = λ e. other (omega (arith, e, few)) }, h.1));
  joined = λ c h. (inr refl, (inl refl, same_before b (b.0 - n, false) bs free h.1));
  sum = omega (arith, few);
  count = omega arith;
}

splits_kept : (n at : ℕ) (spare : Bool) (b : Block) (bs : Blocks) → IsSize n → b.1 ≡ false → n ≤ b.0 → GivenKept spare (b ∷ bs) (splits n at spare b bs)
splits_kept n at spare b bs z free few = by_size (nat_eq b.0 n) refl spare
  where
    by_size : (c : Bool) → nat_eq b.0 n ≡ c → (spare : Bool)
        → GivenKept spare (b ∷ bs) (if c then Some (record { at = at; blocks = (n, true) ∷ bs }) else if spare then Some (record { at = at; blocks = (n, true) ∷ (b.0 - n, false) ∷ bs }) else None)
    by_size true e spare = whole_kept n spare b bs z (eqb-true b.0 n e)
    by_size false e true = split_kept n b bs z free few (λ q. grind arith)
    by_size false e false = tt

behind_kept : (spare : Bool) (b : Block) (bs : Blocks) (o : Option Given) → GivenKept spare bs o → GivenKept spare (b ∷ bs) (behind b o)
behind_kept spare b bs None h = tt
behind_kept spare b bs (Some g) h = record {
  sizes = λ q. (q.0, h.sizes q.1);
  joined = λ c q. (q.0, h.joined b q.1);
  sum = ap (λ k. b.0 + k) h.sum;
  count = omega (arith, h.count);
}

pub allots_kept : (n at : ℕ) (spare : Bool) (bs : Blocks) → IsSize n → GivenKept spare bs (allots n at spare bs)
allots_kept n at spare [] z = tt
allots_kept n at spare (b ∷ bs) z = by_fit (fits n b) refl (allots n (at + b.0) spare bs) (allots_kept n (at + b.0) spare bs z)
  where
    by_fit : (c : Bool) → fits n b ≡ c → (o : Option Given) → GivenKept spare bs o → GivenKept spare (b ∷ bs) (if c then splits n at spare b bs else behind b o)
    by_fit true e o h = splits_kept n at spare b bs z (fits_free n b e) (fits_enough n b e)
    by_fit false e o h = behind_kept spare b bs o h

pub rounded_size : (n : ℕ) → (n ≡ 0 → ⊥) → IsSize (rounded n)
rounded_size n h = record { multiple = omega arith; some = λ e. h (omega (arith, e)) }

-- ---- to free

pub joins_sized : (b : Block) (bs : Blocks) → BlockFits b → Sized bs → Sized (joins b bs)
joins_sized b [] f h = (f, tt)
joins_sized b (c ∷ cs) f h = by_use (b.1 || c.1)
  where
    by_use : (u : Bool) → Sized (if u then b ∷ c ∷ cs else (b.0 + c.0, false) ∷ cs)
    by_use true = (f, h)
    by_use false = (record { multiple = omega (arith, f.multiple, h.0.multiple); some = λ e. f.some (omega (arith, e)) }, h.1)

pub joins_joined : (b : Block) (bs : Blocks) → NoneFreeBoth bs → NoneFreeBoth (joins b bs)
joins_joined b [] h = tt
joins_joined b (c ∷ cs) h = by_use (b.1 || c.1) refl
  where
    by_use : (u : Bool) → (b.1 || c.1) ≡ u → NoneFreeBoth (if u then b ∷ c ∷ cs else (b.0 + c.0, false) ∷ cs)
    by_use true e = (or_cases b.1 c.1 e, h)
    by_use false e = same_before c (b.0 + c.0, false) cs (or_parts b.1 c.1 e).1 h

pub joins_total : (b : Block) (bs : Blocks) → total (joins b bs) ≡ b.0 + total bs
joins_total b [] = refl
joins_total b (c ∷ cs) = by_use (b.1 || c.1)
  where
    by_use : (u : Bool) → total (if u then b ∷ c ∷ cs else (b.0 + c.0, false) ∷ cs) ≡ b.0 + (c.0 + total cs)
    by_use true = refl
    by_use false = omega arith

pub joins_few : (b : Block) (bs : Blocks) → length (joins b bs) ≤ suc (length bs)
joins_few b [] = omega arith
joins_few b (c ∷ cs) = by_use (b.1 || c.1)
  where
    by_use : (u : Bool) → length (if u then b ∷ c ∷ cs else (b.0 + c.0, false) ∷ cs) ≤ suc (suc (length cs))
    by_use true = omega arith
    by_use false = omega arith

-- what stays where a block is freed
pub record Freed (old new : Blocks) : Type 0 where
  pub sizes : Sized old → Sized new
  pub joined : NoneFreeBoth old → NoneFreeBoth new
  pub sum : total new ≡ total old
  pub count : length new ≤ length old

joins_freed : (b c : Block) (bs cs : Blocks) → b.0 ≡ c.0 → Freed bs cs → Freed (b ∷ bs) (joins c cs)
joins_freed b c bs cs e h = record {
  sizes = λ q. joins_sized c cs (record { multiple = subst (λ k. k % 8 ≡ 0) e q.0.multiple; some = subst (λ k. k ≡ 0 → ⊥) e q.0.some }) (h.sizes q.1);
  joined = λ q. joins_joined c cs (h.joined (none_behind b bs q));
  sum = joins_total c cs ∙ omega (arith, e, h.sum);
  count = omega (arith, joins_few c cs, h.count);
}

pub same_freed : (bs : Blocks) → Freed bs bs
same_freed bs = record { sizes = λ q. q; joined = λ q. q; sum = refl; count = omega arith }

pub releases_freed : (p at : ℕ) (bs : Blocks) → Freed bs (releases p at bs)
releases_freed p at [] = same_freed []
releases_freed p at (b ∷ bs) = by_address (nat_eq at p) (releases p (at + b.0) bs) (releases_freed p (at + b.0) bs)
  where
    by_address : (c : Bool) (cs : Blocks) → Freed bs cs → Freed (b ∷ bs) (if c then joins (b.0, false) bs else joins b cs)
    by_address true cs h = joins_freed b (b.0, false) bs bs refl (same_freed bs)
    by_address false cs h = joins_freed b b bs cs refl h

pub frees_freed : (p : ℕ) (h : Heap) → Freed h.blocks (frees p h)
frees_freed p h = by_size (used_size p h.base h.blocks)
  where
    by_size : (o : Option ℕ) → Freed h.blocks (frees_by p h o)
    by_size None = same_freed h.blocks
    by_size (Some n) = releases_freed p h.base h.blocks

-- ---- a heap that fits

pub other_fits : (h : Heap) (new : Blocks) → (Sized h.blocks → Sized new) → (NoneFreeBoth h.blocks → NoneFreeBoth new) → total new ≡ total h.blocks → length new ≤ 512 → HeapFits h
    → HeapFits (record h { blocks = new })
other_fits h new sizes joined sum few f = record {
  base = f.base;
  few = few;
  sizes = all_fit new (sizes (sized h.blocks f.sizes));
  joined = joined f.joined;
  bytes = ap (first_bad_of h.base) (sum_total new ∙ sum ∙ sym (sum_total h.blocks)) ∙ f.bytes;
}

pub frees_fits : (p : ℕ) (h : Heap) → HeapFits h → HeapFits (record h { blocks = frees p h })
frees_fits p h f = let k = frees_freed p h in other_fits h (frees p h) k.sizes k.joined k.sum (omega (arith, k.count, f.few)) f

spare_room : (spare : Bool) (k : ℕ) → nat_lt k 512 ≡ spare → k ≤ 512 → k + (if spare then 1 else 0) ≤ 512
spare_room true k e few = omega (arith, ltb-true k 512 e)
spare_room false k e few = omega (arith, few)

given_kept : (spare : Bool) (old : Blocks) (o : Option Given) (g : Given) → o ≡ Some g → GivenKept spare old o → Kept spare old g.blocks
given_kept spare old o g e h = subst (GivenKept spare old) e h

-- none isn't some
pub no_block : {A : Type 0} (g : Given) → None ≡ Some g → A
no_block g e = absurd (false≢true (let f : false ≡ true = ap is_some e in f))

-- what is allocated is taken from the blocks, with a size above 0
pub allocates_by : (h : Heap) (n : ℕ) (g : Given) → allocates h n ≡ Some g → (n ≡ 0 → ⊥) × (allots (rounded n) h.base (has_spare h) h.blocks ≡ Some g)
allocates_by h n g e = by_size (nat_eq n 0) refl (nat_lt 0xFFFFFFF8 n) e
  where
    by_size : (c : Bool) → nat_eq n 0 ≡ c → (d : Bool) → (if c || d then None else allots (rounded n) h.base (has_spare h) h.blocks) ≡ Some g
        → (n ≡ 0 → ⊥) × (allots (rounded n) h.base (has_spare h) h.blocks ≡ Some g)
    by_size true q d e = no_block g e
    by_size false q true e = no_block g e
    by_size false q false e = (eqb-false n 0 q, e)

pub allocates_kept : (h : Heap) (n : ℕ) (g : Given) → allocates h n ≡ Some g → Kept (has_spare h) h.blocks g.blocks
allocates_kept h n g e =
    let a = allocates_by h n g e in
    given_kept (has_spare h) h.blocks _ g a.1 (allots_kept (rounded n) h.base (has_spare h) h.blocks (rounded_size n a.0))

pub allocates_fits : (h : Heap) (n : ℕ) (g : Given) → allocates h n ≡ Some g → HeapFits h → HeapFits (record h { blocks = g.blocks })
allocates_fits h n g e f =
    let k = allocates_kept h n g e in
    other_fits h g.blocks k.sizes (λ q. none_behind (0, true) g.blocks (k.joined (0, true) (used_before (0, true) h.blocks refl q))) k.sum (omega (arith, k.count, spare_room (has_spare h) (length h.blocks) refl f.few)) f
