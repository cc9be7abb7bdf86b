-- Where the heap's used blocks are, and that calls keep them.
use Rattle.std.proofs.Common.{◌≡◌, ℕ, ◌+◌, ◌-◌, ◌%◌, ◌<◌, ◌≤◌, Bool, true, false, [], ◌∷◌, ◌⊎◌, inl, inr, ⊎_elim, refl, sym, ap, ◌∙◌, subst, arith}
use Rattle.std.specs.Prelude.{Option, Some, None, unwrap_or, is_some, nat_eq, ◌||◌, if◌then◌else◌}
use Rattle.std.proofs.lemmas.Bool.{false≢true, eqb-true, eqb-false, eq-eqb, ne_eqb, or_left, or_right, or_parts}
use Rattle.kern_layout.specs.Valid.{NoneFreeBoth}
use Rattle.abs_kernel.specs.Heap.{Block, Blocks, Given, fits, behind, allots, used_size, joins, releases}
use Rattle.abs_kernel.proofs.HeapKept.{total, Sized, none_behind, same_before, fits_free, fits_enough, no_block, releases_freed}

some_is : {a b : ℕ} → Some a ≡ Some b → a ≡ b
some_is e = ap (λ o. unwrap_or o 0) e

pub no_size : {A : Type 0} {k : ℕ} → None ≡ Some k → A
no_size e = absurd (false≢true (let f : false ≡ true = ap is_some e in f))

-- ---- the used block at p, by the first block

-- it is the first one, or one of those behind
pub used_first : (p at : ℕ) (b : Block) (bs : Blocks) (k : ℕ) → used_size p at (b ∷ bs) ≡ Some k
    → ((at ≡ p) × (b.1 ≡ true) × (b.0 ≡ k)) ⊎ ((at ≡ p → ⊥) × (used_size p (at + b.0) bs ≡ Some k))
used_first p at b bs k h = by (nat_eq at p) refl b.1 refl h
  where
    by : (c : Bool) → nat_eq at p ≡ c → (u : Bool) → b.1 ≡ u → (if c then (if u then Some b.0 else None) else used_size p (at + b.0) bs) ≡ Some k
        → ((at ≡ p) × (b.1 ≡ true) × (b.0 ≡ k)) ⊎ ((at ≡ p → ⊥) × (used_size p (at + b.0) bs ≡ Some k))
    by true e true u h = inl (eqb-true at p e, u, some_is h)
    by true e false u h = no_size h
    by false e u v h = inr (eqb-false at p e, h)

pub used_here : (at : ℕ) (b : Block) (bs : Blocks) (k : ℕ) → b.1 ≡ true → b.0 ≡ k → used_size at at (b ∷ bs) ≡ Some k
used_here at b bs k u e =
    ap (λ c. if c then (if b.1 then Some b.0 else None) else used_size at (at + b.0) bs) (eq-eqb at at refl) ∙ ap (λ c. if c then Some b.0 else None) u ∙ ap Some e

pub used_later : (p at : ℕ) (b : Block) (bs : Blocks) (k : ℕ) → (at ≡ p → ⊥) → used_size p (at + b.0) bs ≡ Some k → used_size p at (b ∷ bs) ≡ Some k
used_later p at b bs k ne h = ap (λ c. if c then (if b.1 then Some b.0 else None) else used_size p (at + b.0) bs) (ne_eqb at p ne) ∙ h

-- it lies between the first address and the end
pub used_inside : (p at : ℕ) (bs : Blocks) (k : ℕ) → used_size p at bs ≡ Some k → (at ≤ p) × (p + k ≤ at + total bs)
used_inside p at [] k h = no_size h
used_inside p at (b ∷ bs) k h = ⊎_elim
    (λ f. (omega (arith, f.0), omega (arith, f.0, f.2)))
    (λ l. let i = used_inside p (at + b.0) bs k l.1 in (omega (arith, i.0), omega (arith, i.1)))
    (used_first p at b bs k h)

-- and has a size that fits
pub used_sized : (p at : ℕ) (bs : Blocks) (k : ℕ) → at % 8 ≡ 0 → Sized bs → used_size p at bs ≡ Some k → (p % 8 ≡ 0) × (k % 8 ≡ 0) × (k ≡ 0 → ⊥)
used_sized p at [] k even z h = no_size h
used_sized p at (b ∷ bs) k even z h = ⊎_elim
    (λ f. (subst (λ a. a % 8 ≡ 0) f.0 even, subst (λ a. a % 8 ≡ 0) f.2 z.0.multiple, λ e. z.0.some (f.2 ∙ e)))
    (λ l. used_sized p (at + b.0) bs k (omega (arith, even, z.0.multiple)) z.1 l.1)
    (used_first p at b bs k h)

-- two lie apart
pub used_apart : (p q at : ℕ) (bs : Blocks) (k j : ℕ) → used_size p at bs ≡ Some k → used_size q at bs ≡ Some j → p < q → p + k ≤ q
used_apart p q at [] k j h g lt = no_size h
used_apart p q at (b ∷ bs) k j h g lt = ⊎_elim
    (λ f. ⊎_elim
    (λ (e : (at ≡ q) × (b.1 ≡ true) × (b.0 ≡ j)). absurd (omega (arith, f.0, e.0, lt)))
    (λ l. let i = used_inside q (at + b.0) bs j l.1 in omega (arith, f.0, f.2, i.0))
    (used_first q at b bs j g))
    (λ l. let i = used_inside p (at + b.0) bs k l.1 in ⊎_elim
    (λ (e : (at ≡ q) × (b.1 ≡ true) × (b.0 ≡ j)). absurd (omega (arith, i.0, e.0, lt)))
    (λ m. used_apart p q (at + b.0) bs k j l.1 m.1 lt)
    (used_first q at b bs j g))
    (used_first p at b bs k h)

-- ---- to allocate

-- the ways to allocate: a whole block, a part of one, or one of those behind
pub allots_by : (n at : ℕ) (spare : Bool) (b : Block) (bs : Blocks) (C : Given → Type 0)
    → (b.1 ≡ false → b.0 ≡ n → C (record { at = at; blocks = (n, true) ∷ bs }))
    → (b.1 ≡ false → n ≤ b.0 → (b.0 ≡ n → ⊥) → C (record { at = at; blocks = (n, true) ∷ (b.0 - n, false) ∷ bs }))
    → ((h : Given) → allots n (at + b.0) spare bs ≡ Some h → C (record h { blocks = b ∷ h.blocks }))
    → (g : Given) → allots n at spare (b ∷ bs) ≡ Some g → C g
allots_by n at spare b bs C whole part later g e = by (fits n b) refl (nat_eq b.0 n) refl spare (allots n (at + b.0) spare bs) refl e
  where
    is : {x : Given} → Some x ≡ Some g → C x → C g
    is {x} e h = subst C (ap (λ o. unwrap_or o x) e) h

    by : (f : Bool) → fits n b ≡ f → (same : Bool) → nat_eq b.0 n ≡ same → (room : Bool) → (o : Option Given) → allots n (at + b.0) spare bs ≡ o
        → (if f then (if same then Some (record { at = at; blocks = (n, true) ∷ bs }) else if room then Some (record { at = at; blocks = (n, true) ∷ (b.0 - n, false) ∷ bs }) else None) else behind b o) ≡ Some g → C g
    by true f true q room o r e = is e (whole (fits_free n b f) (eqb-true b.0 n q))
    by true f false q true o r e = is e (part (fits_free n b f) (fits_enough n b f) (eqb-false b.0 n q))
    by true f false q false o r e = no_block g e
    by false f same q room None r e = no_block g e
    by false f same q room (Some h) r e = is e (later h r)

free_not_used : (b : Block) {A : Type 0} → b.1 ≡ false → b.1 ≡ true → A
free_not_used b f u = absurd (false≢true (sym f ∙ u))

-- other blocks stay where they are
pub allots_keeps : (n at : ℕ) (spare : Bool) (bs : Blocks) (g : Given) (q k : ℕ) → allots n at spare bs ≡ Some g → used_size q at bs ≡ Some k → used_size q at g.blocks ≡ Some k
allots_keeps n at spare [] g q k e h = no_block g e
allots_keeps n at spare (b ∷ bs) g q k e h = ⊎_elim
    (λ f. allots_by n at spare b bs (λ x. used_size q at x.blocks ≡ Some k)
    (λ free same. free_not_used b free f.1)
    (λ free few other. free_not_used b free f.1)
    (λ x r. subst (λ a. used_size a at (b ∷ x.blocks) ≡ Some k) f.0 (used_here at b x.blocks k f.1 f.2)) g e)
    (λ l. allots_by n at spare b bs (λ x. used_size q at x.blocks ≡ Some k)
    (λ free same. used_later q at (n, true) bs k l.0 (subst (λ m. used_size q (at + m) bs ≡ Some k) same l.1))
    (λ free few other.
    let i = used_inside q (at + b.0) bs k l.1 in
    let a : at + b.0 ≡ at + n + (b.0 - n) = omega (arith, few) in
    used_later q at (n, true) ((b.0 - n, false) ∷ bs) k l.0 (used_later q (at + n) (b.0 - n, false) bs k (λ z. other (omega (arith, z, i.0, few))) (subst (λ m. used_size q m bs ≡ Some k) a l.1)))
    (λ x r. used_later q at b x.blocks k l.0 (allots_keeps n (at + b.0) spare bs x q k r l.1)) g e)
    (used_first q at b bs k h)

-- the block that is given is used, with this size
pub allots_uses : (n at : ℕ) (spare : Bool) (bs : Blocks) (g : Given) → Sized bs → allots n at spare bs ≡ Some g → used_size g.at at g.blocks ≡ Some n
allots_uses n at spare [] g z e = no_block g e
allots_uses n at spare (b ∷ bs) g z e = allots_by n at spare b bs (λ x. used_size x.at at x.blocks ≡ Some n)
    (λ free same. used_here at (n, true) bs n refl refl)
    (λ free few other. used_here at (n, true) ((b.0 - n, false) ∷ bs) n refl refl)
    (λ x r.
    let u = allots_uses n (at + b.0) spare bs x z.1 r in
    let i = used_inside x.at (at + b.0) x.blocks n u in
    used_later x.at at b x.blocks n (λ q. z.0.some (omega (arith, q, i.0))) u) g e

-- and nothing was used there
pub allots_unused : (n at : ℕ) (spare : Bool) (bs : Blocks) (g : Given) (k : ℕ) → Sized bs → allots n at spare bs ≡ Some g → used_size g.at at bs ≡ Some k → ⊥
allots_unused n at spare [] g k z e = no_block g e
allots_unused n at spare (b ∷ bs) g k z e = allots_by n at spare b bs (λ x. used_size x.at at (b ∷ bs) ≡ Some k → ⊥)
    (λ free same h. at_first free h)
    (λ free few other h. at_first free h)
    (λ x r h. let i = used_inside x.at (at + b.0) x.blocks n (allots_uses n (at + b.0) spare bs x z.1 r) in ⊎_elim
    (λ (f : (at ≡ x.at) × (b.1 ≡ true) × (b.0 ≡ k)). z.0.some (omega (arith, f.0, i.0)))
    (λ l. allots_unused n (at + b.0) spare bs x k z.1 r l.1)
    (used_first x.at at b bs k h)) g e
  where
    at_first : b.1 ≡ false → used_size at at (b ∷ bs) ≡ Some k → ⊥
    at_first free h = ⊎_elim (λ (f : (at ≡ at) × (b.1 ≡ true) × (b.0 ≡ k)). free_not_used b free f.1) (λ l. l.0 refl) (used_first at at b bs k h)

-- ---- to free

-- the same blocks are used where two are joined
pub joins_keeps : (q at : ℕ) (b : Block) (bs : Blocks) (k : ℕ) → used_size q at (b ∷ bs) ≡ Some k → used_size q at (joins b bs) ≡ Some k
joins_keeps q at b [] k h = h
joins_keeps q at b (c ∷ cs) k h = by (b.1 || c.1) refl
  where
    by : (u : Bool) → (b.1 || c.1) ≡ u → used_size q at (if u then b ∷ c ∷ cs else (b.0 + c.0, false) ∷ cs) ≡ Some k
    by true e = h
    by false e = let f = or_parts b.1 c.1 e in ⊎_elim
        (λ x. free_not_used b f.0 x.1)
        (λ l. ⊎_elim
        (λ x. free_not_used c f.1 x.1)
        (λ m. let a : at + b.0 + c.0 ≡ at + (b.0 + c.0) = omega arith in used_later q at (b.0 + c.0, false) cs k l.0 (subst (λ n. used_size q n cs ≡ Some k) a m.1))
        (used_first q (at + b.0) c cs k l.1))
        (used_first q at b (c ∷ cs) k h)

pub joins_uses : (q at : ℕ) (b : Block) (bs : Blocks) (k : ℕ) → Sized bs → used_size q at (joins b bs) ≡ Some k → used_size q at (b ∷ bs) ≡ Some k
joins_uses q at b [] k z = λ h. h
joins_uses q at b (c ∷ cs) k z = by (b.1 || c.1)
  where
    by : (u : Bool) → used_size q at (if u then b ∷ c ∷ cs else (b.0 + c.0, false) ∷ cs) ≡ Some k → used_size q at (b ∷ c ∷ cs) ≡ Some k
    by true h = h
    by false h = ⊎_elim
        (λ (x : (at ≡ q) × (false ≡ true) × (b.0 + c.0 ≡ k)). absurd (false≢true x.1))
        (λ l.
        let a : at + (b.0 + c.0) ≡ at + b.0 + c.0 = omega arith in
        let i = used_inside q (at + (b.0 + c.0)) cs k l.1 in
        used_later q at b (c ∷ cs) k l.0 (used_later q (at + b.0) c cs k (λ e. z.0.some (omega (arith, e, i.0))) (subst (λ n. used_size q n cs ≡ Some k) a l.1)))
        (used_first q at (b.0 + c.0, false) cs k h)

-- neighbours of which one is used aren't joined
pub joins_apart : (b : Block) (bs : Blocks) → NoneFreeBoth (b ∷ bs) → joins b bs ≡ b ∷ bs
joins_apart b [] h = refl
joins_apart b (c ∷ cs) h = ap (λ u. if u then b ∷ c ∷ cs else (b.0 + c.0, false) ∷ cs) (⊎_elim (λ u. or_left b.1 c.1 u) (λ u. or_right b.1 c.1 u) h.0)

-- other blocks stay where they are
pub releases_keeps : (p q at : ℕ) (bs : Blocks) (k : ℕ) → (p ≡ q → ⊥) → used_size q at bs ≡ Some k → used_size q at (releases p at bs) ≡ Some k
releases_keeps p q at [] k ne h = h
releases_keeps p q at (b ∷ bs) k ne h = by (nat_eq at p) refl (releases p (at + b.0) bs) (releases_keeps p q (at + b.0) bs k ne)
  where
    by : (c : Bool) → nat_eq at p ≡ c → (cs : Blocks) → (used_size q (at + b.0) bs ≡ Some k → used_size q (at + b.0) cs ≡ Some k)
        → used_size q at (if c then joins (b.0, false) bs else joins b cs) ≡ Some k
    by true e cs r = joins_keeps q at (b.0, false) bs k (⊎_elim
        (λ (f : (at ≡ q) × (b.1 ≡ true) × (b.0 ≡ k)). absurd (ne (sym (eqb-true at p e) ∙ f.0)))
        (λ l. used_later q at (b.0, false) bs k l.0 l.1)
        (used_first q at b bs k h))
    by false e cs r = joins_keeps q at b cs k (⊎_elim
        (λ f. subst (λ a. used_size a at (b ∷ cs) ≡ Some k) f.0 (used_here at b cs k f.1 f.2))
        (λ l. used_later q at b cs k l.0 (r l.1))
        (used_first q at b bs k h))

-- and nothing is used at p
pub releases_unused : (p at : ℕ) (bs : Blocks) (k : ℕ) → Sized bs → used_size p at (releases p at bs) ≡ Some k → ⊥
releases_unused p at [] k z = λ h. no_size h
releases_unused p at (b ∷ bs) k z = by (nat_eq at p) refl (releases p (at + b.0) bs) ((releases_freed p (at + b.0) bs).sizes z.1) (λ j. releases_unused p (at + b.0) bs j z.1)
  where
    by : (c : Bool) → nat_eq at p ≡ c → (cs : Blocks) → Sized cs → ((j : ℕ) → used_size p (at + b.0) cs ≡ Some j → ⊥) → used_size p at (if c then joins (b.0, false) bs else joins b cs) ≡ Some k → ⊥
    by true e cs y r h = ⊎_elim
        (λ (f : (at ≡ p) × (false ≡ true) × (b.0 ≡ k)). absurd (false≢true f.1))
        (λ l. l.0 (eqb-true at p e))
        (used_first p at (b.0, false) bs k (joins_uses p at (b.0, false) bs k z.1 h))
    by false e cs y r h = ⊎_elim
        (λ (f : (at ≡ p) × (b.1 ≡ true) × (b.0 ≡ k)). eqb-false at p e f.0)
        (λ l. r k l.1)
        (used_first p at b cs k (joins_uses p at b cs k y h))

-- ---- free of what was given

released_first : (at : ℕ) (b : Block) (bs : Blocks) → releases at at (b ∷ bs) ≡ joins (b.0, false) bs
released_first at b bs = ap (λ c. if c then joins (b.0, false) bs else joins b (releases at (at + b.0) bs)) (eq-eqb at at refl)

released_later : (p at : ℕ) (b : Block) (bs : Blocks) → (at ≡ p → ⊥) → releases p at (b ∷ bs) ≡ joins b (releases p (at + b.0) bs)
released_later p at b bs ne = ap (λ c. if c then joins (b.0, false) bs else joins b (releases p (at + b.0) bs)) (ne_eqb at p ne)

pub allots_undone : (n at : ℕ) (spare : Bool) (bs : Blocks) (g : Given) → Sized bs → NoneFreeBoth bs → allots n at spare bs ≡ Some g → releases g.at at g.blocks ≡ bs
allots_undone n at spare [] g z h e = no_block g e
allots_undone n at spare (b ∷ bs) g z h e = allots_by n at spare b bs (λ x. releases x.at at x.blocks ≡ b ∷ bs)
    (λ free same. released_first at (n, true) bs ∙ joins_apart (n, false) bs (same_before b (n, false) bs free h) ∙ (λ i. (sym same i, sym free i) ∷ bs))
    (λ free few other. let e : n + (b.0 - n) ≡ b.0 = omega (arith, few) in released_first at (n, true) ((b.0 - n, false) ∷ bs) ∙ (λ i. (e i, sym free i) ∷ bs))
    (λ x r.
    let i = used_inside x.at (at + b.0) x.blocks n (allots_uses n (at + b.0) spare bs x z.1 r) in
    released_later x.at at b x.blocks (λ q. z.0.some (omega (arith, q, i.0))) ∙ ap (joins b) (allots_undone n (at + b.0) spare bs x z.1 (none_behind b bs h) r) ∙ joins_apart b bs h) g e
