-- The listing of ROOM gives the number.
use Rattle.psx_flow.proofs.Kit.{false, ◌≡◌, ℕ, ◌+◌, ◌-◌, ◌%◌, ◌^◌, ◌<◌, ◌≤◌, inl, inr, List, refl, sym, ap, ◌∙◌, subst, arith, ⊎_elim, Memory, Registers, Cop0, Run, Access, Meets, Goal, Calls, calls, kernel_words, Fair, fair, Part, Anew, Count, counted, run, Entry, Sorted, ended, Calling, [], ◌∷◌, Tree}
use Rattle.std.specs.Prelude.{nat_lt}
use Rattle.std.proofs.lemmas.Bool.{cases_lt, lt-ltb}
use Rattle.psx_cpu.specs.Words.{truth}
use Rattle.psx_flow.proofs.Sound.{sound, anew}
use Rattle.psx_flow.proofs.Rules.{meets_mono}
use Rattle.psx_flow.proofs.Knows.{first_call}
use Rattle.kern_stay.specs.declared.room.TheConstants.{ROOM_NODES}
use Rattle.kern_stay.specs.Room.{room, Given, GivesRoom}
use Rattle.kern_stay.specs.Shared.{tree}
use Rattle.kern_stay.proofs.RoomLeft.{room_1, room_3, room_5, room_7, room_9, room_none, Out}

-- a test of a range
abbrev over : (a from : ℕ) → ℕ
over a from = (a + 2 ^ 32 - from) % 2 ^ 32

pub true_then : (x y : ℕ) → (truth (nat_lt x y) ≡ 0 → ⊥) → x < y
true_then x y h = ⊎_elim (λ l. l) (λ g. absurd (h (ap truth (low x y g)))) (cases_lt x y)
  where
    low : (x y : ℕ) → y ≤ x → nat_lt x y ≡ false
    low x y g = grind arith

pub false_then : (x y : ℕ) → truth (nat_lt x y) ≡ 0 → y ≤ x
false_then x y h = ⊎_elim (λ l. absurd (let e = ap truth (lt-ltb x y l) in omega (arith, e, h))) (λ g. g) (cases_lt x y)

record Hit (from size a : ℕ) : Type 0 where
  low : from ≤ a
  high : a < from + size
  value : (size + 2 ^ 32 - over a from) % 2 ^ 32 ≡ from + size - a

hit : (from size a : ℕ) → a < 2 ^ 32 → from + size < 2 ^ 32 → (truth (nat_lt (over a from) size) ≡ 0 → ⊥) → Hit from size a
hit from size a small fits h = let lt = true_then _ _ h in record { low = omega (arith, lt); high = omega (arith, lt); value = omega (arith, lt) }

miss : (from size a : ℕ) → a < 2 ^ 32 → from + size < 2 ^ 32 → truth (nat_lt (over a from) size) ≡ 0 → Out a from (from + size)
miss from size a small fits h = let ge = false_then _ _ h in ⊎_elim (λ l. inl l) (λ g. inr (omega (arith, ge, g))) (cases_lt a from)

abbrev Back : Part → ℕ → ℕ → Goal
Back k ra b s = (b ≡ ra) × Anew k s

module _ (C : Calls) (fair : Fair C) (k : Part) (at : ℕ) (c : Registers) (z : Cop0) (m : Memory) (w : List Entry) (q : List Access) (p : Count) (small : c.r8 < 2 ^ 32) (ok : Sorted w)
    (known : (x y : ℕ) (n : Count) → n.steps ≤ p.steps + 30 → k (record c { r9 = room c.r8; r10 = x; r11 = y }) z m w q n) where
  come : (v x y : ℕ) (n : Count) → room c.r8 ≡ v → n.steps ≤ p.steps + 30 → Back k c.r31 c.r31 (run (record c { r9 = v; r10 = x; r11 = y }) z m w q n)
  come v x y n e few = (refl, record { memory = m; log = w; same = refl; sorted = ok; goes = subst (λ r. k (record c { r9 = r; r10 = x; r11 = y }) z m w q n) e (known x y n few) })

  abbrev of : (from size : ℕ) → ℕ
  of from size = (size + 2 ^ 32 - over c.r8 from) % 2 ^ 32

  pub gives : Meets kernel_words C (tree ROOM_NODES) at (λ _. ⊥) (Back k c.r31) (run c z m w q p)
  gives =
      sound C fair (tree ROOM_NODES) at (ended (λ _. ⊥)) (λ _. ⊥) (Back k c.r31) (λ c z m w q p ok h. h) c z m w q p ok (
        λ h1. let g = hit 0x80010000 0x1F0000 c.r8 small (omega arith) h1 in come (of 0x80010000 0x1F0000) (over c.r8 0x80010000) 0x1F0000 _ (room_5 c.r8 g.low g.high ∙ sym g.value) (omega arith),
        λ e1. (
          λ h2. let g = hit 0x10000 0x1F0000 c.r8 small (omega arith) h2 in come (of 0x10000 0x1F0000) (over c.r8 0x10000) 0x1F0000 _ (room_1 c.r8 g.low g.high ∙ sym g.value) (omega arith),
          λ e2. (
            λ h3. let g = hit 0xA0010000 0x1F0000 c.r8 small (omega arith) h3 in come (of 0xA0010000 0x1F0000) (over c.r8 0xA0010000) 0x1F0000 _ (room_9 c.r8 g.low g.high ∙ sym g.value) (omega arith),
            λ e3. (
              λ h4. let g = hit 0x1F800000 0x400 c.r8 small (omega arith) h4 in come (of 0x1F800000 0x400) (over c.r8 0x1F800000) 0x400 _ (room_3 c.r8 g.low g.high ∙ sym g.value) (omega arith),
              λ e4. (
                λ h5. let g = hit 0x9F800000 0x400 c.r8 small (omega arith) h5 in come (of 0x9F800000 0x400) (over c.r8 0x9F800000) 0x400 _ (room_7 c.r8 g.low g.high ∙ sym g.value) (omega arith),
                λ e5. come 0 (over c.r8 0x9F800000) 0x400 _
                    (room_none c.r8 (miss 0x80010000 0x1F0000 c.r8 small (omega arith) e1) (miss 0x10000 0x1F0000 c.r8 small (omega arith) e2) (miss 0xA0010000 0x1F0000 c.r8 small (omega arith) e3) (miss 0x1F800000 0x400 c.r8 small (omega arith) e4) (miss 0x9F800000 0x400 c.r8 small (omega arith) e5))
                    (omega arith),
              ),
            ),
          ),
        ),
      )

-- what it promises
abbrev Gave : Run → Part
Gave s c z m w q p = Given s s.regs.r31 (run c z m w q p)

gave : (at : ℕ) (s : Run) → Meets kernel_words (calls kernel_words []) (tree ROOM_NODES) at (λ _. ⊥) (Back (Gave s) s.regs.r31) s → Meets kernel_words (calls kernel_words []) (tree ROOM_NODES) at (λ _. ⊥) (λ to e. Given s to e) s
gave at s h =
    meets_mono kernel_words (calls kernel_words []) (fair kernel_words []) (tree ROOM_NODES) at (λ _. ⊥) (λ _. ⊥) (Back (Gave s) s.regs.r31) (λ to e. Given s to e) s (λ m x. x)
    (λ to e b. subst (λ n. Given s n e) (sym b.0) (anew (Gave s) (Given s s.regs.r31) (λ c z m w q p ok h. h) e b.1)) h

pub gives_room : GivesRoom (tree ROOM_NODES)
gives_room at s small =
    gave at s (gives (calls kernel_words []) (fair kernel_words []) (Gave s) at s.regs s.cop0 s.bytes [] s.seen (counted s) small tt (λ x y n few. record { back = refl; regs = refl; cop0 = refl; bytes = refl; seen = refl; within = few }))

-- what a routine takes of it, where it stands
pub record KnowsRoom (place : ℕ) (C : Calls) : Type 1 where
  pub fair : Fair C
  pub room : (k : Part) (c : Registers) (z : Cop0) (m : Memory) (w : List Entry) (q : List Access) (p : Count) → c.r8 < 2 ^ 32 → ((x y : ℕ) (n : Count) → n.steps ≤ p.steps + 30 → k (record c { r9 = room c.r8; r10 = x; r11 = y }) z m w q n) → Calling C place c.r31 k c z m w q p

pub knows_room : (place : ℕ) (ls : List (ℕ × Tree)) → KnowsRoom place (calls kernel_words ((place, tree ROOM_NODES) ∷ ls))
knows_room place ls = record {
  fair = fair kernel_words ((place, tree ROOM_NODES) ∷ ls);
  room = λ k c z m w q p h x. record {
    called = λ ok. first_call place (tree ROOM_NODES) ls c.r31 (Anew k) (run c z m w q p) refl (gives (calls kernel_words ls) (fair kernel_words ls) k place c z m w q p h ok x);
  };
}
