-- What strcpy, strcat and strncat share: from the rooms and a count on, the bytes of a text are copied and closed with a zero.
use Rattle.psx_flow.proofs.Kit.{◌≡◌, ℕ, suc, ◌+◌, ◌-◌, ◌%◌, ◌^◌, ◌<◌, ◌≤◌, List, refl, sym, ap, ◌∙◌, subst, arith, ⊎_elim, Memory, byte, put_byte, Registers, Cop0, Run, Goal, Calls, Fair, Tree, Stop, Do, When, Visit, Access, Count, counted, by_two, by_branch, run, Sym, ended, place, user}
use Rattle.std.proofs.Common.{Bool, zero, [], true, false, eq-eqb, ne_eqb}
use Rattle.std.specs.Prelude.{nat_eq, nat_lt, if◌then◌else◌}
use Rattle.std.proofs.lemmas.Bool.{cases_eq}
use Rattle.psx_base.specs.KernelState.{KernelState}
use Rattle.psx_cpu.specs.Words.{truth}
use Rattle.psx_flow.specs.Told.{ports}
use Rattle.psx_flow.proofs.Users.{sort_user}
use Rattle.kern_layout.specs.Valid.{Valid}
use Rattle.abs_kernel.proofs.Moved.{valid_moved}
use Rattle.abs_kernel.specs.Stay.{Stay}
use Rattle.abs_kernel.specs.Answered.{answered}
use Rattle.abs_kernel.specs.UserBytes.{reads_byte, writes_byte, bad_pointer, following, longest, with_byte}
use Rattle.abs_kernel.specs.Strcpy.{copy_text, closes}
use Rattle.kern_stay.specs.Room.{IsLeft}
use Rattle.kern_stay.specs.Shared.{tree}
use Rattle.kern_stay.specs.Doors.{Holds, Through, most_steps}
use Rattle.kern_stay.proofs.RoomGiven.{true_then, false_then}
use Rattle.kern_stay.proofs.Holding.{holds_byte}
use Rattle.kern_stay.proofs.Ending.{Left, left_is, left_read, left_unread, left_written, left_unwritten, user_byte}
use Rattle.kern_stay.proofs.Looping.{loop_body, behind_loop, Turning, FromLoop, looped, leaves, stops}
use Rattle.kern_stay.proofs.TwoCursors.{Pair, Cursors, both_come, both_done, first_bad, other_bad}
use Rattle.kern_text.specs.declared.a19_strcpy.TheConstants.{NODES}

-- the state with its memory so far
abbrev pub now : KernelState → Memory → KernelState
now s u = record s { memory = u }

-- what may follow the bytes
abbrev pub Next : Type 0
Next = ℕ → KernelState → ℕ → Stay

abbrev pub byte_came : (k : ℕ) → KernelState → (to from : ℕ) → Next → ℕ → Stay
byte_came k s to from next v = if nat_eq v 0 then next k s to else writes_byte s to (v % 2 ^ 8) (λ t. copy_text (k - 1) t (following to) (following from) next)

pub copy_more : (k : ℕ) (s : KernelState) (to from : ℕ) (next : Next) → 0 < k → copy_text k s to from next ≡ reads_byte s from (byte_came k s to from next)
copy_more zero s to from next h = absurd (omega arith)
copy_more (suc k) s to from next h =
    let e : suc k - 1 ≡ k = omega arith in
    ap (λ n. reads_byte s from (λ v. if nat_eq v 0 then next (suc k) s to else writes_byte s to (v % 2 ^ 8) (λ t. copy_text n t (following to) (following from) next))) (sym e)

pub copy_none : (k : ℕ) (s : KernelState) (to from : ℕ) (next : Next) → k ≡ 0 → copy_text k s to from next ≡ next 0 s to
copy_none k s to from next e = ap (λ n. copy_text n s to from next) e

pub zero_came : (k : ℕ) (s : KernelState) (to from : ℕ) (next : Next) (v : ℕ) → v ≡ 0 → byte_came k s to from next v ≡ next k s to
zero_came k s to from next v z = ap (λ b. if b then next k s to else writes_byte s to (v % 2 ^ 8) (λ t. copy_text (k - 1) t (following to) (following from) next)) (eq-eqb v 0 z)

pub other_came : (k : ℕ) (s : KernelState) (to from : ℕ) (next : Next) (v : ℕ) → (v ≡ 0 → ⊥) → byte_came k s to from next v ≡ writes_byte s to (v % 2 ^ 8)
    (λ t. copy_text (k - 1) t (following to) (following from) next)
other_came k s to from next v nz = ap (λ b. if b then next k s to else writes_byte s to (v % 2 ^ 8) (λ t. copy_text (k - 1) t (following to) (following from) next)) (ne_eqb v 0 nz)

-- what memory stands for behind the store of a byte that was read
pub copied : (s : KernelState) → Valid s → (u m : Memory) → Holds (now s u) m → (to v w : ℕ) → user to ≡ true → w ≡ v → Holds (with_byte (now s u) to (v % 2 ^ 8)) (put_byte m (place to) (w % 2 ^ 8))
copied s valid u m holds to v w good e =
    let kept : Valid (now s u) = valid_moved s u s.random s.running valid valid.running in
    subst (λ x. Holds (with_byte (now s u) to (v % 2 ^ 8)) (put_byte m (place to) (x % 2 ^ 8))) (sym e) (holds_byte (now s u) kept m holds to (v % 2 ^ 8) good)

-- ---- what is to be shown of a loop: where it is left, and of a turn

abbrev pub Leaving : Calls → Tree → (ℕ → Goal) → Goal
Leaving C T G e = Sym C (behind_loop T) 0 (ended (λ _. ⊥)) G e.regs e.cop0 e.bytes [] e.seen (by_two (counted e))

abbrev pub Again : Calls → Tree → (ℕ → Goal) → (ℕ → Goal) → ℕ → Goal
Again C T G Inv k e = Sym C (loop_body T) 8 (λ c z m w q p. (j : ℕ) × (j < k) × Inv j (run c z m w q (by_branch p))) G e.regs e.cop0 e.bytes [] e.seen (by_two (counted e))

-- ---- where the bytes end

-- From a on ra bytes are user memory and from b on rb. The bytes up to the m-th of n can be copied.
-- Where `bad` isn't 0, the source's next one is bad; where it is 0 and m isn't n, the destination's alone is.
record Ending (a b n m rb flag second bad stop : ℕ) : Type 0 where
  pair : Pair a b n m flag second
  good : (i : ℕ) → i < rb → user (b + i) ≡ true
  end_bad : user (b + rb) ≡ false
  fits : m ≤ rb
  end : stop ≡ b + rb
  small : b + rb < 2 ^ 32
  source : (bad ≡ 0 → ⊥) → (flag ≡ 0 → ⊥) × (second ≡ 0)
  other : bad ≡ 0 → (flag ≡ 0 → ⊥) → (second ≡ 0 → ⊥) × (m ≡ rb)

truth_one : (x y : ℕ) → truth (nat_lt x y) ≤ 1
truth_one x y = go (nat_lt x y)
  where
    go : (b : Bool) → truth b ≤ 1
    go true = omega arith
    go false = omega arith

-- by how the lesser room compares with the count, and the two rooms with each other
module _ (a b n stop ra rb : ℕ) (la : IsLeft a ra) (lb : IsLeft b rb) (e : stop ≡ b + rb) (flag second : ℕ) (one : flag ≤ 1) where
  ending : (m : ℕ) → (m ≤ ra) × (m ≤ rb) × (m ≤ n) → (flag ≡ 0 → m ≡ n) → ((flag ≡ 0 → ⊥) → m < n) → ((flag ≡ 0 → ⊥) → second ≡ 0 → m ≡ ra) →
      ((flag ≡ 0 → ⊥) → (second ≡ 0 → ⊥) → (m ≡ rb) × (rb < ra))
      → Ending a b n m rb flag second (truth (nat_lt second flag)) stop
  ending m most all some first behind = record {
    pair = record {
      first = λ i lt. la.good i (omega (arith, most));
      other = λ i lt. lb.good i (omega (arith, most));
      within = (omega (arith, la.within, most), omega (arith, lb.within, most));
      most = most.2;
      all = all;
      some = some;
      bad_first = λ ne z. ap (λ i. user (a + i)) (first ne z) ∙ la.bad;
      bad_other = λ ne nz. let p = behind ne nz in (la.good m (omega (arith, p)), ap (λ i. user (b + i)) p.0 ∙ lb.bad);
    };
    good = lb.good;
    end_bad = lb.bad;
    fits = most.1;
    end = e;
    small = lb.within;
    source = λ nb. let lt = true_then second flag nb in ((λ z. omega (arith, lt, z)), omega (arith, lt, one));
    other = λ z ne. let le = false_then second flag z in let nz : second ≡ 0 → ⊥ = λ sz. ne (omega (arith, le, sz)) in (nz, (behind ne nz).0);
  }

  -- all come; or the source ends first; or the destination does
  all_come : flag ≡ 0 → n ≤ ra → n ≤ rb → Ending a b n n rb flag second (truth (nat_lt second flag)) stop
  all_come z in_a in_b = ending n (in_a, in_b, omega arith) (λ q. refl) (λ ne. absurd (ne z)) (λ ne q. absurd (ne z)) (λ ne q. absurd (ne z))

  first_ends : (flag ≡ 0 → ⊥) → second ≡ 0 → ra < n → ra ≤ rb → Ending a b n ra rb flag second (truth (nat_lt second flag)) stop
  first_ends nz z lt le = ending ra (omega arith, le, omega arith) (λ q. absurd (nz q)) (λ ne. lt) (λ ne q. refl) (λ ne q. absurd (q z))

  other_ends : (flag ≡ 0 → ⊥) → (second ≡ 0 → ⊥) → rb < n → rb < ra → Ending a b n rb rb flag second (truth (nat_lt second flag)) stop
  other_ends nz sz lt less = ending rb (omega arith, omega arith, omega arith) (λ q. absurd (nz q)) (λ ne. lt) (λ ne q. absurd (sz q)) (λ ne q. (refl, less))

-- ---- the loop

-- at its head, with k bytes to come
record Head (stay : Stay) (s : KernelState) (a b n m d bad stop k : ℕ) (e : Run) : Type 0 where
  memory : Memory
  holds : Holds (now s memory) e.bytes
  most : ℕ
  left : Left most_steps stay (copy_text k (now s memory) e.regs.r8 e.regs.r5 (closes d)) most
  within : e.steps + 20 ≤ most
  quiet : ports e.seen ≡ []
  r2 : e.regs.r2 ≡ d
  r10 : e.regs.r10 ≡ bad
  r11 : e.regs.r11 ≡ (a + m) % 2 ^ 32
  r14 : e.regs.r14 ≡ stop
  cursors : Cursors a b n m k e.regs.r5 e.regs.r8

-- the destination's cursor, where the source's is at its end
record AtEnd (b m rb stop y : ℕ) : Type 0 where
  is : y ≡ b + m
  here : (y + 0) % 2 ^ 32 ≡ y
  some : (y ≡ stop → ⊥) → user y ≡ true
  none : y ≡ stop → user y ≡ false

at_end : (a b n m rb flag second bad stop k x y : ℕ) → Ending a b n m rb flag second bad stop → Cursors a b n m k x y → x ≡ (a + m) % 2 ^ 32 → AtEnd b m rb stop y
at_end a b n m rb flag second bad stop k x y w c eq =
    let small = w.pair.within in
    let is : y ≡ b + m = omega (arith, eq, c.first, c.other, c.most, c.room, small) in
    record {
      is = is;
      here = omega (arith, is, small);
      some = λ ne. ap user is ∙ w.good m (omega (arith, is, ne, w.end, w.fits));
      none = λ e. ap user (e ∙ w.end) ∙ w.end_bad;
    }

-- a byte came, and the destination is bad
left_refused : (stay : Stay) (t : KernelState) (y x d k v most : ℕ) → user y ≡ false → Left most_steps stay (byte_came k t y x (closes d) v) most → Left most_steps stay (bad_pointer t y) (most + 128)
left_refused stay t y x d k v most out l = ⊎_elim
    (λ (o : v ≡ 0). left_unwritten stay t y 0 (λ u. answered u d) most out (left_is stay _ _ most (zero_came k t y x (closes d) v o) l))
    (λ (o : v ≡ 0 → ⊥). left_unwritten stay t y (v % 2 ^ 8) (λ u. copy_text (k - 1) u (following y) (following x) (closes d)) most out (left_is stay _ _ most (other_came k t y x (closes d) v o) l))
    (cases_eq v 0)

-- what is left may end within so many steps, or more
record Later (stay rest : Stay) (low : ℕ) : Type 0 where
  most : ℕ
  enough : low ≤ most
  left : Left most_steps stay rest most

module _ (C : Calls) (fair : Fair C) (stay : Stay) (s : KernelState) (valid : Valid s) (a b n m d rb flag second bad stop : ℕ) (w : Ending a b n m rb flag second bad stop) where
  abbrev G : ℕ → Goal
  G to e = Through stay most_steps to e

  abbrev Inv : ℕ → Goal
  Inv k e = Head stay s a b n m d bad stop k e

  -- the destination's next byte is bad
  refused : (k : ℕ) (e : Run) (h : Inv k e) → e.regs.r5 ≡ (a + m) % 2 ^ 32 → user e.regs.r8 ≡ false → bad ≡ 0 → Later stay (bad_pointer (now s h.memory) e.regs.r8) h.most
  refused k e h eq out z =
      let x : ℕ = e.regs.r5 in
      let y : ℕ = e.regs.r8 in
      let t : KernelState = now s h.memory in
      let v : ℕ = byte h.memory (place x) in
      ⊎_elim
      (λ (f : flag ≡ 0).
      let l = left_is stay _ _ h.most (copy_none k t y x (closes d) (both_done a b n m flag second k x y w.pair h.cursors eq f)) h.left in
      record { most = h.most + 128; enough = omega arith; left = left_unwritten stay t y 0 (λ u. answered u d) h.most out l })
      (λ (f : flag ≡ 0 → ⊥).
      let p = other_bad a b n m flag second k x y w.pair h.cursors eq f (w.other z f).0 in
      let l = left_read stay t x (byte_came k t y x (closes d)) h.most p.0 (left_is stay _ _ h.most (copy_more k t y x (closes d) p.1.some) h.left) in
      record { most = h.most + 128 + 128; enough = omega arith; left = left_refused stay t y x d k v (h.most + 128) out l })
      (cases_eq flag 0)

  leave : (k : ℕ) (e : Run) → Inv k e → e.regs.r5 ≡ e.regs.r11 → Leaving C (tree NODES) G e
  leave k e h eq =
      let x : ℕ = e.regs.r5 in
      let y : ℕ = e.regs.r8 in
      let t : KernelState = now s h.memory in
      let v : ℕ = byte h.memory (place x) in
      let few = h.within in
      let o = at_end a b n m rb flag second bad stop k x y w h.cursors (eq ∙ h.r11) in (
        λ z. (
          λ ne.
              let u = o.some (λ q. ne (q ∙ sym h.r14)) in
              let f : flag ≡ 0 = ⊎_elim (λ f. f) (λ f. absurd (ne (o.is ∙ ap (λ i. b + i) (w.other (sym h.r10 ∙ z) f).1 ∙ sym w.end ∙ sym h.r14))) (cases_eq flag 0) in
              let l = left_is stay _ _ h.most (copy_none k t y x (closes d) (both_done a b n m flag second k x y w.pair h.cursors (eq ∙ h.r11) f)) h.left in
              let l = left_written stay t y 0 (λ u. answered u d) h.most u l in
              rw (o.here, sort_user y u) (leaves stay (answered (with_byte t y 0) d) (h.most + 128) (with_byte t y 0) _ l h.quiet
              (ap (answered (with_byte t y 0)) (sym h.r2)) (copied s valid h.memory e.bytes h.holds y 0 0 u refl) (omega arith)),
          λ q.
              let l = refused k e h (eq ∙ h.r11) (o.none (q ∙ h.r14)) (sym h.r10 ∙ z) in
              let enough = l.enough in
              stops stay (bad_pointer t y) l.most t _ l.left h.quiet refl h.holds (omega arith),
        ),
        λ nz.
            let at = w.source (λ z. nz (h.r10 ∙ z)) in
            let p = first_bad a b n m flag second k x y w.pair h.cursors (eq ∙ h.r11) at.0 at.1 in
            let l = left_unread stay t x (byte_came k t y x (closes d)) h.most p.user (left_is stay _ _ h.most (copy_more k t y x (closes d) p.some) h.left) in
            stops stay (bad_pointer t x) (h.most + 128) t _ l h.quiet refl h.holds (omega arith),
      )

  again : (k : ℕ) (e : Run) → Inv k e → (e.regs.r5 ≡ e.regs.r11 → ⊥) → Again C (tree NODES) G Inv k e
  again k e h ne =
      let x : ℕ = e.regs.r5 in
      let y : ℕ = e.regs.r8 in
      let t : KernelState = now s h.memory in
      let v : ℕ = byte h.memory (place x) in
      let few = h.within in
      let g = both_come a b n m flag second k x y w.pair h.cursors (λ q. ne (q ∙ sym h.r11)) in
      let l = left_read stay t x (byte_came k t y x (closes d)) h.most g.user_x (left_is stay _ _ h.most (copy_more k t y x (closes d) g.some) h.left) in
      let is : byte e.bytes (place x) ≡ v = user_byte t e.bytes h.holds x g.user_x in
      rw (g.here_x, g.sort_x, g.here_y, g.sort_y) (
        λ z.
            let l = left_written stay t y 0 (λ u. answered u d) (h.most + 128) g.user_y (left_is stay _ _ _ (zero_came k t y x (closes d) v (sym is ∙ z)) l) in
            leaves stay (answered (with_byte t y 0) d) (h.most + 128 + 128) (with_byte t y 0) _ l h.quiet (ap (answered (with_byte t y 0)) (sym h.r2))
            (copied s valid h.memory e.bytes h.holds y 0 _ g.user_y z) (omega arith),
        λ nz.
            let l = left_is stay _ _ _ (other_came k t y x (closes d) v (λ q. nz (is ∙ q))) l in
            let l = left_written stay t y (v % 2 ^ 8) (λ u. copy_text (k - 1) u (following y) (following x) (closes d)) (h.most + 128) g.user_y l in (
              k - 1,
              g.less,
              record {
                memory = put_byte h.memory (place y) (v % 2 ^ 8);
                holds = copied s valid h.memory e.bytes h.holds y v _ g.user_y is;
                most = h.most + 128 + 128;
                left = l;
                within = omega arith;
                quiet = h.quiet;
                r2 = h.r2;
                r10 = h.r10;
                r11 = h.r11;
                r14 = h.r14;
                cursors = g.next;
              },
            ),
      )

  turn : (k : ℕ) (e : Run) → Inv k e → Turning C (tree NODES) G Inv k e
  turn k e h = record { leave = leave k e h; again = again k e h }

  -- from where it is reached
  loops : (most : ℕ) (e : Run) → Left most_steps stay (copy_text n s e.regs.r8 e.regs.r5 (closes d)) most → Holds s e.bytes → e.steps + 20 ≤ most → ports e.seen ≡ []
      → e.regs.r5 ≡ a → e.regs.r8 ≡ b → e.regs.r2 ≡ d → e.regs.r10 ≡ bad → e.regs.r11 ≡ (a + m) % 2 ^ 32 → e.regs.r14 ≡ stop → FromLoop C (tree NODES) G e
  loops most e l holds few quiet r5 r8 r2 r10 r11 r14 =
      looped C fair (tree NODES) G Inv turn n e record {
        memory = s.memory;
        holds = holds;
        most = most;
        left = l;
        within = few;
        quiet = quiet;
        r2 = r2;
        r10 = r10;
        r11 = r11;
        r14 = r14;
        cursors = let p = w.pair.most in record { first = ap (λ x. x + n) r5; other = ap (λ x. x + n) r8; most = omega arith; room = omega arith };
      }

-- ---- from the rooms and the count on

-- what stands behind n nodes
abbrev behind : ℕ → Tree → Tree
behind zero T = T
behind (suc n) (Do i rest) = behind n rest
behind (suc n) (When t a rest) = behind n rest
behind (suc n) (Visit a rest) = behind n rest
behind (suc n) _ = Stop

-- from the subtraction that gives the destination's room
abbrev pub rest_tree : Tree
rest_tree = behind 10 (tree NODES)

module _ (C : Calls) (fair : Fair C) (stay : Stay) (s : KernelState) (valid : Valid s) (at most : ℕ) (c : Registers) (z : Cop0) (m : Memory) (q : List Access) (p : Count)
    (quiet : ports q ≡ []) (holds : Holds s m) (few : p.steps + 60 ≤ most) (left : Left most_steps stay (copy_text c.r6 s c.r8 c.r5 (closes c.r2)) most) where
  abbrev rb : ℕ
  rb = (c.r14 + 2 ^ 32 - c.r8) % 2 ^ 32

  abbrev second : ℕ
  second = truth (nat_lt rb c.r13)

  -- r13 is the source's room, and r14 is where the destination's ends
  pub copies : IsLeft c.r5 c.r13 → ((x : ℕ) → c.r8 ≤ x → x < c.r14 → user x ≡ true) → user c.r14 ≡ false → c.r8 ≤ c.r14 → c.r14 < 2 ^ 32 → Sym C rest_tree at
      (ended (λ _. ⊥)) (λ to e. Through stay most_steps to e) c z m [] q p
  copies la good bad low small =
      let n : ℕ = c.r6 in
      let e : c.r14 ≡ c.r8 + rb = omega (arith, low, small) in
      let lb : IsLeft c.r8 rb = record { good = λ i lt. good (c.r8 + i) (omega arith) (omega (arith, lt, e)); bad = ap user (sym e) ∙ bad; within = omega (arith, e, small) } in
      let ra : ℕ = c.r13 in
      let go = λ (k flag : ℕ) (w : Ending c.r5 c.r8 n k rb flag second (truth (nat_lt second flag)) c.r14). loops C fair stay s valid c.r5 c.r8 n k c.r2 rb flag second
      (truth (nat_lt second flag)) c.r14 w most in
      let flag_b : ℕ = truth (nat_lt rb n) in
      let flag_a : ℕ = truth (nat_lt ra n) in (
        λ nz.
            let less = true_then rb ra nz in (
              λ o. let fits = false_then rb n o in go n flag_b (all_come c.r5 c.r8 n c.r14 ra rb la lb e flag_b second (truth_one rb n) o (omega (arith, fits, less)) fits) _ left holds
                  (omega arith) quiet refl refl refl refl refl refl,
              λ o. go rb flag_b (other_ends c.r5 c.r8 n c.r14 ra rb la lb e flag_b second (truth_one rb n) o nz (true_then rb n o) less) _ left holds
                  (omega arith) quiet refl refl refl refl refl refl,
            ),
        λ nz.
            let le = false_then rb ra nz in (
              λ o. let fits = false_then ra n o in go n flag_a (all_come c.r5 c.r8 n c.r14 ra rb la lb e flag_a second (truth_one ra n) o fits (omega (arith, fits, le))) _ left holds
                  (omega arith) quiet refl refl refl refl refl refl,
              λ o. go ra flag_a (first_ends c.r5 c.r8 n c.r14 ra rb la lb e flag_a second (truth_one ra n) o nz (true_then ra n o) le) _ left holds (omega arith) quiet refl refl refl refl refl refl,
            ),
      )

-- the count of a text's bytes, as a register has it
pub longest_is : longest ≡ 0x200000
unfolding longest
longest_is = refl
