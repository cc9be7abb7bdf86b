-- The listing of ALLOT gives bytes of the first free block that has so many.
use Rattle.psx_flow.proofs.Kit.{◌≡◌, ℕ, suc, ◌+◌, ◌-◌, ◌*◌, ◌%◌, ◌^◌, ◌<◌, ◌≤◌, ◌++◌, List, [], ◌∷◌, length, true, false, refl, sym, ap, ◌∙◌, subst, arith, Memory, word, Registers, Cop0, Run, Access, Meets, Goal, Calls, Fair, kernel_words, Part, Anew, Count, run, ended}
use Rattle.std.proofs.Common.{zero, Bool, inl, inr, ⊎_elim, eq-eqb, ne_eqb, ◌/◌}
use Rattle.std.specs.Prelude.{◌⊎◌, Option, Some, None, nat_eq, nat_lt, nat_le, not, ◌&&◌, ◌||◌, if◌then◌else◌}
use Rattle.std.proofs.lemmas.Bool.{lt-ltb, le-leb, cases_lt}
use Rattle.psx_base.specs.KernelState.{KernelState}
use Rattle.psx_cpu.specs.Words.{truth}
use Rattle.psx_flow.specs.Told.{ports}
use Rattle.psx_flow.proofs.Sound.{sound}
use Rattle.kern_layout.specs.HeapTable.{IsEntry, Linked, Spare, cell_at}
use Rattle.kern_layout.specs.Valid.{Valid}
use Rattle.kern_layout.proofs.HeapLinks.{cell_next}
use Rattle.abs_kernel.specs.Heap.{Blocks, Given, rounded, fits, splits, allots, has_spare, allocates, with_blocks}
use Rattle.abs_kernel.proofs.HeapKept.{total}
use Rattle.kern_stay.specs.Shared.{tree}
use Rattle.kern_stay.specs.Doors.{Holds}
use Rattle.kern_stay.proofs.Looping.{Turning, looped}
use Rattle.kern_stay.proofs.RoomGiven.{true_then, false_then}
use Rattle.kern_heap.specs.declared.places.TheConstants.{ALLOT}
use Rattle.kern_heap.specs.declared.allot.TheConstants.{ALLOT_NODES}
use Rattle.kern_heap.proofs.HeapLists.{append_one, length_one, Fit, some_block, total_append, behind_all, behind_last, behind_none, behind_some, allots_on, allots_here}
use Rattle.kern_heap.proofs.TableHeld.{at_entry, held}
use Rattle.kern_heap.proofs.Joining.{not_0}
use Rattle.kern_heap.proofs.Finding.{flag_false, flag_true}
use Rattle.kern_heap.proofs.TableStores.{used_table, split_table}

-- ---- the size asked for

rounded_0 : (n : ℕ) → n < 2 ^ 32 → (n + 7) % 2 ^ 32 / 2 ^ 3 * 2 ^ 3 % 2 ^ 32 ≡ 0 → (nat_eq n 0 || nat_lt 0xFFFFFFF8 n) ≡ true
rounded_0 n small h = ⊎_elim (λ (z : n < 1). ap (λ b. b || nat_lt 0xFFFFFFF8 n) (eq-eqb n 0 (omega (arith, z))))
    (λ (g : 1 ≤ n). let big : 0xFFFFFFF8 < n = omega (arith, h, g, small) in ap (λ b. b || nat_lt 0xFFFFFFF8 n) (ne_eqb n 0 (λ z. omega (arith, z, g))) ∙ lt-ltb 0xFFFFFFF8 n big) (cases_lt n 1)

record Rounds (n r : ℕ) : Type 0 where
  is : r ≡ rounded n
  some : (nat_eq n 0 || nat_lt 0xFFFFFFF8 n) ≡ false

rounds : (n : ℕ) → n < 2 ^ 32 → ((n + 7) % 2 ^ 32 / 2 ^ 3 * 2 ^ 3 % 2 ^ 32 ≡ 0 → ⊥) → Rounds n ((n + 7) % 2 ^ 32 / 2 ^ 3 * 2 ^ 3 % 2 ^ 32)
rounds n small ne = ⊎_elim
    (λ (l : n ≤ 0xFFFFFFF8). record {
      is = omega (arith, l);
      some = ap (λ b. b || nat_lt 0xFFFFFFF8 n) (ne_eqb n 0 (λ z. ne (omega (arith, z)))) ∙ not_less n l;
    })
    (λ (g : 0xFFFFFFF8 < n). absurd (ne (omega (arith, g, small))))
    (cases_le n)
  where
    not_less : (n : ℕ) → n ≤ 0xFFFFFFF8 → nat_lt 0xFFFFFFF8 n ≡ false
    not_less n h = grind arith

    cases_le : (n : ℕ) → (n ≤ 0xFFFFFFF8) ⊎ (0xFFFFFFF8 < n)
    cases_le n = ⊎_elim (λ (l : n < 0xFFFFFFF9). inl (omega (arith, l))) (λ (g : 0xFFFFFFF9 ≤ n). inr (omega (arith, g))) (cases_lt n 0xFFFFFFF9)

-- ---- spare entries

spare_none : (w : ℕ → ℕ) (c n : ℕ) → Spare w c n → w c ≡ 0 → n ≡ 0
spare_none w c zero h z = refl
spare_none w c (suc n) h z = absurd (not_0 (w c) h.0 z)

spare_entry : (w : ℕ → ℕ) (c n : ℕ) → Spare w c n → (w c ≡ 0 → ⊥) → IsEntry (w c)
spare_entry w c zero h ne = absurd (ne h)
spare_entry w c (suc n) h ne = h.0

spare_some : (w : ℕ → ℕ) (c n : ℕ) → Spare w c n → (w c ≡ 0 → ⊥) → 0 < n
spare_some w c zero h ne = absurd (ne h)
spare_some w c (suc n) h ne = omega arith

not_below : (n k : ℕ) → k ≤ n → nat_lt n k ≡ false
not_below n k h = grind arith

not_within : (n k : ℕ) → k < n → nat_le n k ≡ false
not_within n k h = grind arith

-- ---- how the listing comes back

-- with the bytes that the definition gives, or none
abbrev pub Came : KernelState → Option Given → (value : ℕ) → Memory → Type 0
Came s None value x = (value ≡ 0) × Holds s x
Came s (Some g) value x = (value ≡ g.at) × Holds (with_blocks s g.blocks) x

pub record NotGiven (s : KernelState) (o : Option Given) (value : ℕ) (x : Memory) : Type 0 where
  pub is : o ≡ None
  pub null : value ≡ 0
  pub holds : Holds s x

pub record IsGiven (s : KernelState) (o : Option Given) (value : ℕ) (x : Memory) : Type 0 where
  pub given : Given
  pub is : o ≡ Some given
  pub at : value ≡ given.at
  pub holds : Holds (with_blocks s given.blocks) x

pub came_by : (s : KernelState) (o : Option Given) (value : ℕ) (x : Memory) → Came s o value x → NotGiven s o value x ⊎ IsGiven s o value x
came_by s None value x h = inl (record { is = refl; null = h.0; holds = h.1 })
came_by s (Some g) value x h = inr (record { given = g; is = refl; at = h.0; holds = h.1 })

abbrev pub behind_allot : Registers → (a2 a8 a9 a10 a11 a12 a13 a15 : ℕ) → Registers
behind_allot c a2 a8 a9 a10 a11 a12 a13 a15 = record c { r2 = a2; r8 = a8; r9 = a9; r10 = a10; r11 = a11; r12 = a12; r13 = a13; r14 = 0x10000; r15 = a15 }

abbrev pub AllotKnown : Part → KernelState → Registers → List Access → Count → Type 0
AllotKnown K s c q p =
    (a2 a8 a9 a10 a11 a12 a13 a15 : ℕ) (z : Cop0) (x : Memory) (u : List Access) (p' : Count) → ports u ≡ ports q → Came s (allocates s.heap c.r5) a2 x → p'.steps ≤ p.steps + 6800
    → K (behind_allot c a2 a8 a9 a10 a11 a12 a13 a15) z x [] u p'

-- at the loop's head, with k blocks to come
record Head (s : KernelState) (m : Memory) (c : Registers) (q : List Access) (p : Count) (n k : ℕ) (e : Run) : Type 0 where
  before : Blocks
  after : Blocks
  is : s.heap.blocks ≡ before ++ after
  count : length after ≡ k
  left : allots n s.heap.base (has_spare s.heap) s.heap.blocks ≡ behind_all before (allots n e.regs.r2 (has_spare s.heap) after)
  within : e.steps + 13 * k ≤ p.steps + 6700
  bytes : e.bytes ≡ m
  quiet : ports e.seen ≡ ports q
  regs : e.regs ≡ behind_allot c e.regs.r2 e.regs.r8 e.regs.r9 n e.regs.r11 e.regs.r12 e.regs.r13 e.regs.r15
  r2 : e.regs.r2 ≡ s.heap.base + total before
  r9 : e.regs.r9 ≡ cell_at (word m) 0xEA40 (suc (length before))
  linked : Linked (word m) (cell_at (word m) 0xEA40 (length before)) after

module _ (C : Calls) (fair : Fair C) (s : KernelState) (valid : Valid s) (m : Memory) (holds : Holds s m) (fit : Fit s.heap.blocks) (ends : 0 < total s.heap.blocks → s.heap.base + total s.heap.blocks < 2 ^ 32)
    (c : Registers) (small : c.r5 < 2 ^ 32) (q : List Access) (p : Count) (K : Part) (known : AllotKnown K s c q p) where
  abbrev G : ℕ → Goal
  G to e = (to ≡ c.r31) × Anew K e

  abbrev w : ℕ → ℕ
  w = word m

  -- back to the caller
  comes : (d : Registers) (z : Cop0) (x : Memory) (u : List Access) (p' : Count) (a10 : ℕ) → d ≡ behind_allot c d.r2 d.r8 d.r9 a10 d.r11 d.r12 d.r13 d.r15 → ports u ≡ ports q
      → (o : Option Given) → allocates s.heap c.r5 ≡ o → Came s o d.r2 x → p'.steps ≤ p.steps + 6800 → G d.r31 (run d z x [] u p')
  comes d z x u p' a10 kept quiet o is came few = (
    ap (λ r. r.r31) kept,
    record {
      memory = x;
      log = [];
      same = refl;
      sorted = tt;
      goes = subst (λ r. K r z x [] u p') (sym kept)
          (known d.r2 d.r8 d.r9 a10 d.r11 d.r12 d.r13 d.r15 z x u p' quiet (subst (λ y. Came s y d.r2 x) (sym is) came) few);
    },
  )

  module _ (n : ℕ) (given : allocates s.heap c.r5 ≡ allots n s.heap.base (has_spare s.heap) s.heap.blocks) (some_n : n ≡ 0 → ⊥) where
    abbrev Inv : ℕ → Goal
    Inv k e = Head s m c q p n k e

    module _ (k : ℕ) (e : Run) (h : Inv k e) where
      abbrev x : ℕ
      x = e.regs.r9

      r10 : e.regs.r10 ≡ n
      r10 = ap (λ r. r.r10) h.regs

      r14 : e.regs.r14 ≡ 0x10000
      r14 = ap (λ r. r.r14) h.regs

      -- at the end of the list
      at_end : h.after ≡ [] → Turning C (tree ALLOT_NODES) G Inv k e
      at_end z =
          let few = h.within in
          let null : x ≡ 0 = h.r9 ∙ cell_next w 0xEA40 (length h.before) ∙ subst (λ l. Linked w (cell_at w 0xEA40 (length h.before)) l) z h.linked in
          let none : allocates s.heap c.r5 ≡ None = given ∙ h.left ∙ ap (λ l. behind_all h.before (allots n e.regs.r2 (has_spare s.heap) l)) z ∙ behind_none h.before in
          record {
            leave = λ eq. comes _ _ _ _ _ n (λ j. record (h.regs j) { r2 = 0 }) h.quiet None none (refl, subst (Holds s) (sym h.bytes) holds) (omega (arith, few));
            again = λ ne. absurd (ne null);
          }

      module _ (a : ℕ) (u : Bool) (rest : Blocks) (z : h.after ≡ (a, u) ∷ rest) where
        abbrev spare : Bool
        spare = has_spare s.heap

        is : s.heap.blocks ≡ h.before ++ (a, u) ∷ rest
        is = h.is ∙ ap (λ l. h.before ++ l) z

        linked : Linked w (cell_at w 0xEA40 (length h.before)) ((a, u) ∷ rest)
        linked = subst (λ l. Linked w (cell_at w 0xEA40 (length h.before)) l) z h.linked

        named : w (cell_at w 0xEA40 (length h.before)) ≡ x
        named = sym (cell_next w 0xEA40 (length h.before)) ∙ sym h.r9

        entry : IsEntry x
        entry = subst IsEntry named linked.0

        left : allocates s.heap c.r5 ≡ behind_all h.before (allots n e.regs.r2 spare ((a, u) ∷ rest))
        left = given ∙ h.left ∙ ap (λ l. behind_all h.before (allots n e.regs.r2 spare l)) z

        -- it isn't large enough, or is used
        passes : fits n (a, u) ≡ false → (a12 a13 : ℕ) (v : Cop0) (seen : List Access) (t : Count) → ports seen ≡ ports q → t.steps ≤ e.steps + 13
            → (y : ℕ) × (y < k) × Inv y (run (record e.regs { r2 = (e.regs.r2 + a) % 2 ^ 32; r9 = w x; r11 = a; r12 = a12; r13 = a13 }) v m [] seen t)
        passes unfit a12 a13 v seen t quiet few =
            let count : suc (length rest) ≡ k = sym (ap length z) ∙ h.count in
            let bound = h.within in
            let sum : e.regs.r2 + a + total rest < 2 ^ 32 = (let y = ap total is ∙ total_append h.before ((a, u) ∷ rest) in let f = ends (omega (arith, y, some_block s h.before a u rest fit is)) in omega (arith, f, y, h.r2)) in
            let on : (e.regs.r2 + a) % 2 ^ 32 ≡ e.regs.r2 + a = omega (arith, sum) in
            let len = length_one h.before (a, u) in
            let cells : cell_at w 0xEA40 (length (h.before ++ (a, u) ∷ [])) ≡ x = ap (cell_at w 0xEA40) len ∙ sym h.r9 in (
              k - 1,
              omega (arith, count),
              record {
                before = h.before ++ (a, u) ∷ [];
                after = rest;
                is = is ∙ append_one h.before (a, u) rest;
                count = omega (arith, count);
                left = sym given ∙ left ∙ ap (behind_all h.before) (allots_on n e.regs.r2 spare (a, u) rest unfit) ∙ behind_last h.before (a, u) (allots n (e.regs.r2 + a) spare rest)
                    ∙ ap (λ y. behind_all (h.before ++ (a, u) ∷ []) (allots n y spare rest)) (sym on);
                within = omega (arith, few, bound, count);
                bytes = refl;
                quiet = quiet;
                regs = λ j. record (h.regs j) { r2 = (e.regs.r2 + a) % 2 ^ 32; r9 = w x; r11 = a; r12 = a12; r13 = a13 };
                r2 = (let y = total_append h.before ((a, u) ∷ []) in omega (arith, on, y, h.r2));
                r9 = sym (cell_next w 0xEA40 (length (h.before ++ (a, u) ∷ [])) ∙ ap w cells);
                linked = subst (λ y. Linked w y rest) (named ∙ sym cells) linked.2;
              },
            )

        -- it is given
        module _ (free : u ≡ false) (large : n ≤ a) where
          there : s.heap.blocks ≡ h.before ++ (a, false) ∷ rest
          there = is ∙ ap (λ b. h.before ++ (a, b) ∷ rest) free

          fitting : fits n (a, u) ≡ true
          fitting = ap (λ b. not b && nat_le n a) free ∙ le-leb n a large

          gives : (o : Option Given) → splits n e.regs.r2 spare (a, u) rest ≡ o → allocates s.heap c.r5 ≡ behind_all h.before o
          gives o y = left ∙ ap (behind_all h.before) (allots_here n e.regs.r2 spare (a, u) rest fitting ∙ y)

          -- whole
          whole : a ≡ n → allocates s.heap c.r5 ≡ Some (record { at = e.regs.r2; blocks = h.before ++ (a, true) ∷ rest })
          whole y = gives (Some (record { at = e.regs.r2; blocks = (n, true) ∷ rest })) (ap (λ b. if b then Some (record { at = e.regs.r2; blocks = (n, true) ∷ rest })
              else if spare then Some (record { at = e.regs.r2; blocks = (n, true) ∷ (a - n, false) ∷ rest }) else None) (eq-eqb a n y))
              ∙ behind_some h.before (record { at = e.regs.r2; blocks = (n, true) ∷ rest })
              ∙ ap (λ b. Some (record { at = e.regs.r2; blocks = h.before ++ (b, true) ∷ rest })) (sym y)

          parted : (b : Bool) → (a ≡ n → ⊥) → spare ≡ b → allocates s.heap c.r5 ≡ behind_all h.before (if b then Some (record { at = e.regs.r2; blocks = (n, true) ∷ (a - n, false) ∷ rest }) else None)
          parted b ne y = gives (if b then Some (record { at = e.regs.r2; blocks = (n, true) ∷ (a - n, false) ∷ rest }) else None) (ap (λ t. if t then Some (record { at = e.regs.r2; blocks = (n, true) ∷ rest })
              else if spare then Some (record { at = e.regs.r2; blocks = (n, true) ∷ (a - n, false) ∷ rest }) else None) (ne_eqb a n ne)
              ∙ ap (λ t. if t then Some (record { at = e.regs.r2; blocks = (n, true) ∷ (a - n, false) ∷ rest }) else None) y)

        at_block : Turning C (tree ALLOT_NODES) G Inv k e
        at_block =
            let few = h.within in
            let here : w (x + 4) ≡ a = ap (λ y. w (y + 4)) (sym named) ∙ linked.1.0 in
            let used : w (x + 8) ≡ (if u then 1 else 0) = ap (λ y. w (y + 8)) (sym named) ∙ linked.1.1.0 in
            let f : ℕ = w 0xEA44 in
            let o0 = at_entry x 0 x entry (omega arith) refl (omega arith) in
            let o4 = at_entry x 4 (x + 4) entry (omega arith) refl refl in
            let o8 = at_entry x 8 (x + 8) entry (omega arith) refl refl in
            let small_a : a < 2 ^ 32 = (let v = fit.small in let y = ap total is ∙ total_append h.before ((a, u) ∷ rest) in omega (arith, v, y)) in
            let spares = holds.reads.heap.spare in
            let full = fit.few in
            record {
              leave = λ eq. absurd (not_0 x entry eq);
              again = λ ne. rw (h.bytes, o4.here, o4.sort, o4.place, o8.here, o8.sort, o8.place, here) (
                λ free.
                    let uf = flag_false u (sym used ∙ free) in (
                      λ large.
                          let le : n ≤ a = subst (λ y. y ≤ a) r10 (false_then a e.regs.r10 large) in (
                            λ larger.
                                let na : a ≡ n → ⊥ = λ y. larger (y ∙ sym r10) in
                                let cut : (a + 2 ^ 32 - e.regs.r10) % 2 ^ 32 ≡ a - n = omega (arith, r10, le, small_a) in
                                rw (r14, cut) (
                                  λ none.
                                      let over = spare_none w 0xEA44 (512 - length s.heap.blocks) spares none in
                                      let not_there = parted uf le false na (not_below (length s.heap.blocks) 512 (omega (arith, over, full))) ∙ behind_none h.before in
                                      comes _ _ _ _ _ n (λ j. record (h.regs j) { r2 = 0; r8 = f; r11 = a - n; r12 = w (x + 8); r13 = truth (nat_lt a e.regs.r10); r14 = 0x10000 }) h.quiet None not_there (refl, holds) (omega (arith, few)),
                                  λ some.
                                      let room = spare_some w 0xEA44 (512 - length s.heap.blocks) spares some in
                                      let jf : IsEntry f = spare_entry w 0xEA44 (512 - length s.heap.blocks) spares some in
                                      let f0 = at_entry f 0 f jf (omega arith) refl (omega arith) in
                                      let f4 = at_entry f 4 (f + 4) jf (omega arith) refl refl in
                                      let f8 = at_entry f 8 (f + 8) jf (omega arith) refl refl in
                                      let there_is = parted uf le true na (lt-ltb (length s.heap.blocks) 512 (omega (arith, room))) ∙ behind_some h.before (record { at = e.regs.r2; blocks = (n, true) ∷ (a - n, false) ∷ rest }) in
                                      let t = split_table s m h.before a n (a - n) rest x f holds (there uf le) fit (omega (arith, room)) some_n h.r9 refl in
                                      rw (f0.here, f0.sort, f0.place, o0.here, o0.sort, o0.place) (rw (o4.here, o4.sort, o4.place) (rw (o8.here, o8.sort, o8.place) (rw (f0.here, f0.sort, f0.place) (
                                      rw (f4.here, f4.sort, f4.place) (rw (f8.here, f8.sort, f8.place) (rw (o0.here, o0.sort, o0.place, r10) (
                                      comes _ _ _ _ _ n (λ j. record (h.regs j) { r8 = f; r10 = n; r11 = a - n; r12 = w f; r13 = 1; r14 = 0x10000; r15 = w x }) h.quiet _ there_is (refl, held s valid m _ _ holds t) (omega (arith, few))))))))),
                                ),
                            λ same.
                                let t = used_table s m h.before a rest x holds (there uf le) fit h.r9 in
                                rw (o8.here, o8.sort, o8.place) (
                                comes _ _ _ _ _ n (λ j. record (h.regs j) { r11 = a; r12 = w (x + 8); r13 = 1 }) h.quiet _ (whole uf le (same ∙ r10)) (refl, held s valid m _ _ holds t) (omega (arith, few))),
                          ),
                      λ little.
                          let lt : a < n = subst (λ y. a < y) r10 (true_then a e.regs.r10 little) in
                          rw (o0.here, o0.sort, o0.place) (passes (ap (λ b. not b && nat_le n a) uf ∙ not_within n a lt) (w (x + 8)) _ _ _ _ h.quiet (omega arith)),
                    ),
                λ taken.
                    let ut = flag_true u (λ y. taken (used ∙ y)) in
                    rw (o0.here, o0.sort, o0.place) (passes (ap (λ b. not b && nat_le n a) ut) (w (x + 8)) _ _ _ _ h.quiet (omega arith)),
              );
            }

    turn : (k : ℕ) (e : Run) → Inv k e → Turning C (tree ALLOT_NODES) G Inv k e
    turn k e h = by h.after refl
      where
        by : (l : Blocks) → h.after ≡ l → Turning C (tree ALLOT_NODES) G Inv k e
        by [] z = at_end k e h z
        by (b ∷ rest) z = at_block k e h b.0 b.1 rest z

  pub allots_there : (z : Cop0) → Meets kernel_words C (tree ALLOT_NODES) ALLOT (λ _. ⊥) G (run c z m [] q p)
  allots_there z =
      let n : ℕ = (c.r5 + 7) % 2 ^ 32 / 2 ^ 3 * 2 ^ 3 % 2 ^ 32 in
      let base : word m 0xEA24 ≡ s.heap.base = holds.reads.variables.1.1.1.1.1.1.1.1.1.0 in
      sound C fair (tree ALLOT_NODES) ALLOT (ended (λ _. ⊥)) (λ _. ⊥) G (λ c z m w q p ok h. h) c z m [] q p tt (
        λ null.
            let none : allocates s.heap c.r5 ≡ None = ap (λ b. if b then None else allots (rounded c.r5) s.heap.base (has_spare s.heap) s.heap.blocks) (rounded_0 c.r5 small null) in
            comes _ _ _ _ _ _ refl refl None none (refl, holds) (omega arith),
        λ some.
            let g = rounds c.r5 small some in
            let given : allocates s.heap c.r5 ≡ allots n s.heap.base (has_spare s.heap) s.heap.blocks =
            ap (λ b. if b then None else allots (rounded c.r5) s.heap.base (has_spare s.heap) s.heap.blocks) g.some ∙ ap (λ y. allots y s.heap.base (has_spare s.heap) s.heap.blocks) (sym g.is) in
            looped C fair (tree ALLOT_NODES) G (Inv n given some) (turn n given some) (length s.heap.blocks) _ record {
              before = [];
              after = s.heap.blocks;
              is = refl;
              count = refl;
              left = ap (λ y. allots n y (has_spare s.heap) s.heap.blocks) (sym base);
              within = (let f = fit.few in omega (arith, f));
              bytes = refl;
              quiet = refl;
              regs = refl;
              r2 = base ∙ omega arith;
              r9 = refl;
              linked = holds.reads.heap.blocks;
            },
      )
