-- The listing of DIGITS takes digits as the definition does.
use Rattle.psx_flow.proofs.Kit.{◌≡◌, ℕ, suc, ◌+◌, ◌-◌, ◌*◌, ◌%◌, ◌^◌, ◌<◌, ◌≤◌, List, [], ◌∷◌, length, refl, sym, ap, ◌∙◌, subst, arith, ⊎_elim, Memory, byte, Registers, Cop0, Run, Access, Meets, Goal, Calls, Fair, Tree, place, kernel_words, Part, Anew, Count, run, ended}
use Rattle.std.proofs.Common.{Bool}
use Rattle.std.specs.Prelude.{nat_lt, if◌then◌else◌}
use Rattle.std.proofs.lemmas.Bool.{cases_lt}
use Rattle.std.proofs.lemmas.Nat.{mul-mod_first}
use Rattle.std.proofs.Math.Nat.{mod-add-mod, pow-succ', pow-zero}
use Rattle.psx_base.specs.KernelState.{KernelState}
use Rattle.psx_cpu.specs.Words.{truth}
use Rattle.psx_flow.specs.Told.{ports}
use Rattle.psx_flow.proofs.Sound.{sound}
use Rattle.abs_kernel.specs.Stay.{Stay}
use Rattle.abs_kernel.specs.UserBytes.{bad_pointer, following}
use Rattle.abs_kernel.specs.Abs.{negated}
use Rattle.abs_kernel.specs.Numeral.{value_of}
use Rattle.abs_kernel.specs.Strtol.{digit_of, takes_digits}
use Rattle.kern_stay.specs.Shared.{tree}
use Rattle.kern_stay.specs.Doors.{Holds, most_steps}
use Rattle.kern_stay.proofs.RoomLeft.{Span}
use Rattle.kern_stay.proofs.RoomGiven.{true_then, false_then}
use Rattle.kern_stay.proofs.Ending.{Left, left_is, user_byte}
use Rattle.kern_stay.proofs.Looping.{Turning, looped}
use Rattle.kern_stay.proofs.Cursor.{Cursor, coming}
use Rattle.kern_text.specs.declared.places.TheConstants.{DIGITS}
use Rattle.kern_text.specs.declared.digits.TheConstants.{DIGITS_NODES}
use Rattle.kern_text.proofs.NumberBytes.{one, none, yes, no, digit_low, digit_figure, digit_mark, digit_capital, digit_other, digit_small, digit_high, digits_more, digits_stop}
use Rattle.kern_text.proofs.Peeking.{peeked}

-- ---- the number that digits stand for, one by one

ahead : (m y b v : ℕ) → (y % m * b + v) % m ≡ (y * b + v) % m
ahead m y b v = sym (mod-add-mod (y % m * b) m v) ∙ ap (λ x. (x + v) % m) (mul-mod_first y b m) ∙ mod-add-mod (y * b) m v

spread : (x b p d v : ℕ) → (x * b + d) * p + v ≡ x * (b * p) + (d * p + v)
spread x b p d v = grind arith

-- one digit more in front of k others
pub one_more : (m x base d k v : ℕ) → (x * base ^ suc k + (d * base ^ k + v)) % m ≡ ((x * base % m + d) % m * base ^ k + v) % m
one_more m x base d k v =
    ap (λ p. (x * p + (d * base ^ k + v)) % m) (pow-succ' base k) ∙ ap (λ y. y % m) (sym (spread x base (base ^ k) d v))
    ∙ sym (ahead m (x * base + d) (base ^ k) v) ∙ ap (λ y. (y * base ^ k + v) % m) (sym (mod-add-mod (x * base) m d))

-- the last
pub last_one : (m x base d : ℕ) → (x * base ^ 1 + (d * base ^ 0 + 0)) % m ≡ (x * base % m + d) % m
last_one m x base d =
    ap (λ p. (x * base ^ 1 + (d * p + 0)) % m) (pow-zero base) ∙ ap (λ p. (x * p + (d * 1 + 0)) % m) (pow-succ' base 0 ∙ ap (λ p. base * p) (pow-zero base))
    ∙ ap (λ y. y % m) (plain x base d) ∙ sym (mod-add-mod (x * base) m d)
  where
    plain : (x base d : ℕ) → x * (base * 1) + (d * 1 + 0) ≡ x * base + d
    plain x base d = grind arith

-- what a byte is in r10
record Worth (value b : ℕ) : Type 0 where
  below : (base : ℕ) → base ≤ 36 → value < base → value ≡ digit_of b
  above : (base : ℕ) → base ≤ 36 → base ≤ value → base ≤ digit_of b

same : (value b : ℕ) → value ≡ digit_of b → Worth value b
same value b e = record { below = λ base few lt. e; above = λ base few le. omega (arith, e, le) }

neither : (value b : ℕ) → 36 ≤ value → digit_of b ≡ 36 → Worth value b
neither value b h e = record { below = λ base few lt. absurd (omega (arith, few, lt, h)); above = λ base few le. omega (arith, e, few) }

figure : (b : ℕ) → b < 0x3A → Worth ((b + 0xFFFFFFD0) % 2 ^ 32) b
figure b h = ⊎_elim (λ l. neither _ b (omega (arith, l)) (digit_low b l)) (λ g. same _ b (let e = digit_figure b g h in omega (arith, e, g, h))) (cases_lt b 0x30)

-- whether a byte before the end of the letters is one: its value is 10 or more then
abbrev letter_flag : (end value b : ℕ) → ℕ
letter_flag end value b = truth (nat_lt (truth (nat_lt value 10)) (truth (nat_lt b end)))

record Letter (end value b : ℕ) : Type 0 where
  high : 10 ≤ value
  low : b < end

letter : (end value b : ℕ) → (letter_flag end value b ≡ 0 → ⊥) → Letter end value b
letter end value b ne =
    let lt = true_then _ _ ne in record {
      high = ⊎_elim (λ l. absurd (⊎_elim (λ u. let x = one value 10 l in let y = one b end u in omega (arith, lt, x, y)) (λ g. let y = none b end g in omega (arith, lt, y)) (cases_lt b end))) (λ g. g) (cases_lt value 10);
      low = ⊎_elim (λ u. u) (λ g. absurd (let y = none b end g in omega (arith, lt, y))) (cases_lt b end);
    }

no_letter : (end value b : ℕ) → letter_flag end value b ≡ 0 → b < end → value < 10
no_letter end value b z lt =
    let le = false_then _ _ z in
    ⊎_elim (λ l. l) (λ g. absurd (let x = none value 10 g in let y = one b end lt in omega (arith, le, x, y))) (cases_lt value 10)

capital : (b : ℕ) → 0x3A ≤ b → (letter_flag 0x5B ((b + 0xFFFFFFC9) % 2 ^ 32) b ≡ 0 → ⊥) → Worth ((b + 0xFFFFFFC9) % 2 ^ 32) b
capital b g ne =
    let l = letter 0x5B _ b ne in
    let low = l.low in
    let high = l.high in
    same _ b (let e = digit_capital b (omega (arith, g, low, high)) low in omega (arith, e, g, low, high))

no_capital : (b : ℕ) → 0x3A ≤ b → b < 0x5B → letter_flag 0x5B ((b + 0xFFFFFFC9) % 2 ^ 32) b ≡ 0 → Worth 36 b
no_capital b g low z = let few = no_letter 0x5B _ b z low in neither 36 b (omega arith) (digit_mark b g (omega (arith, g, low, few)))

small : (b : ℕ) → 0x5B ≤ b → (letter_flag 0x7B ((b + 0xFFFFFFA9) % 2 ^ 32) b ≡ 0 → ⊥) → Worth ((b + 0xFFFFFFA9) % 2 ^ 32) b
small b g ne =
    let l = letter 0x7B _ b ne in
    let low = l.low in
    let high = l.high in
    same _ b (let e = digit_small b (omega (arith, g, low, high)) low in omega (arith, e, g, low, high))

no_small : (b : ℕ) → 0x5B ≤ b → letter_flag 0x7B ((b + 0xFFFFFFA9) % 2 ^ 32) b ≡ 0 → Worth 36 b
no_small b g z =
    ⊎_elim (λ low. let few = no_letter 0x7B _ b z low in neither 36 b (omega arith) (digit_other b g (omega (arith, g, low, few)))) (λ high. neither 36 b (omega arith) (digit_high b high)) (cases_lt b 0x7B)

-- ---- the loop

-- What is to be done at an address: the stop there; or by its byte the digits from it on, or the end of the number.
pub record Ready (stay : Stay) (s : KernelState) (base : ℕ) (ending : (rest word : ℕ) → Stay) (a n stop k x word rest most : ℕ) : Type 0 where
  pub fuel : ℕ
  pub some : k ≤ fuel
  pub cursor : Cursor a n stop k x
  pub next : List ℕ → ℕ → Stay
  pub shape : (d : ℕ) (ds : List ℕ) (at : ℕ) → next (d ∷ ds) at ≡ ending at ((word * base ^ suc (length ds) + value_of base (d ∷ ds)) % 2 ^ 32)
  pub bad : x ≡ stop → Left most_steps stay (bad_pointer s x) most
  pub digit : (x ≡ stop → ⊥) → digit_of (byte s.memory (place x)) < base → Left most_steps stay (takes_digits fuel s base next x (byte s.memory (place x))) most
  pub other : (x ≡ stop → ⊥) → base ≤ digit_of (byte s.memory (place x)) → Left most_steps stay (ending rest word) most

-- the registers that stay
pub record Kept (c : Registers) (d4 d5 d6 d14 d15 d31 : ℕ) : Type 0 where
  pub r4 : d4 ≡ c.r4
  pub r5 : d5 ≡ c.r5
  pub r6 : d6 ≡ c.r6
  pub r14 : d14 ≡ c.r14
  pub r15 : d15 ≡ c.r15
  pub r31 : d31 ≡ c.r31

abbrev pub Keeps : (c d : Registers) → Type 0
Keeps c d = Kept c d.r4 d.r5 d.r6 d.r14 d.r15 d.r31

-- a number with its sign
abbrev pub signed : (minus : Bool) → ℕ → ℕ
signed minus w = if minus then negated w else w

-- behind the digits, or where r10 is 0 at an address that isn't user memory
pub record Taken (stay : Stay) (s : KernelState) (told : (rest word : ℕ) → Stay) (c d : Registers) (p : Count) : Type 0 where
  pub kept : Keeps c d
  pub most : ℕ
  pub within : p.steps + 200 ≤ most
  pub bad : d.r10 ≡ 0 → Left most_steps stay (bad_pointer s d.r8) most
  pub good : (d.r10 ≡ 0 → ⊥) → Left most_steps stay (told d.r13 d.r2) most

record Head (stay : Stay) (s : KernelState) (m : Memory) (ending : (rest word : ℕ) → Stay) (a n stop : ℕ) (c : Registers) (k : ℕ) (e : Run) : Type 0 where
  most : ℕ
  within : e.steps + 250 ≤ most
  bytes : e.bytes ≡ m
  quiet : ports e.seen ≡ []
  kept : Keeps c e.regs
  ready : Ready stay s c.r6 ending a n stop k e.regs.r8 e.regs.r2 e.regs.r13 most

abbrev digits_loop : Tree
digits_loop = tree DIGITS_NODES

module _ (C : Calls) (fair : Fair C) (stay : Stay) (s : KernelState) (m : Memory) (holds : Holds s m) (minus : Bool) (told : (rest word : ℕ) → Stay) (a n stop : ℕ) (span : Span a n stop 1)
    (c : Registers) (c14 : c.r14 ≡ stop) (c15 : c.r15 ≡ truth minus) (few : c.r6 ≤ 36) (K : Part)
    (known : (d : Registers) (z : Cop0) (q : List Access) (p : Count) → ports q ≡ [] → Taken stay s told c d p → K d z m [] q p) where
  abbrev G : ℕ → Goal
  G to e = (to ≡ c.r31) × Anew K e

  abbrev ending : (rest word : ℕ) → Stay
  ending rest word = told rest (signed minus word)

  abbrev Inv : ℕ → Goal
  Inv k e = Head stay s m ending a n stop c k e

  comes : (d : Registers) (z : Cop0) (u : Memory) (q : List Access) (p : Count) → u ≡ m → ports q ≡ [] → Taken stay s told c d p → G d.r31 (run d z u [] q p)
  comes d z u q p same quiet gone = (gone.kept.r31, record { memory = m; log = []; same = same; sorted = tt; goes = known d z q p quiet gone })

  module _ (k : ℕ) (e : Run) (h : Inv k e) (some : e.regs.r8 ≡ stop → ⊥) (value b : ℕ) (is : b ≡ byte s.memory (place e.regs.r8)) (worth : Worth value b) where
    -- at a byte that is no digit of the base
    stops : (d : Registers) (z : Cop0) (q : List Access) (p : Count) → truth (nat_lt value e.regs.r6) ≡ 0 → ports q ≡ [] → Keeps c d → d.r10 ≡ 1 → d.r13 ≡ e.regs.r13 → d.r2 ≡ signed minus e.regs.r2
        → p.steps + 200 ≤ h.most → G d.r31 (run d z e.bytes [] q p)
    stops d z q p flag quiet kept r10 r13 r2 within =
        let le : c.r6 ≤ value = let l = false_then _ _ flag in omega (arith, l, h.kept.r6) in
        let none = worth.above c.r6 few le in
        comes d z e.bytes q p h.bytes quiet record {
          kept = kept;
          most = h.most;
          within = within;
          bad = λ z. absurd (omega (arith, z, r10));
          good = λ ne. left_is stay _ _ h.most (ap (λ x. told x (signed minus e.regs.r2)) (sym r13) ∙ ap (told d.r13) (sym r2)) (h.ready.other some (omega (arith, none, ap digit_of is)));
        }

    -- behind one that is
    goes_on : (d : Registers) (z : Cop0) (q : List Access) (p : Count) → (truth (nat_lt value e.regs.r6) ≡ 0 → ⊥) → ports q ≡ [] → Keeps c d → d.r8 ≡ following e.regs.r8 → d.r13 ≡ following e.regs.r8
        → d.r2 ≡ (e.regs.r2 * e.regs.r6 % 2 ^ 32 + value) % 2 ^ 32 → p.steps + 130 ≤ h.most → (y : ℕ) × (y < k) × Inv y (run d z e.bytes [] q p)
    goes_on d z q p flag quiet kept r8 r13 r2 within =
        let x : ℕ = e.regs.r8 in
        let r = h.ready in
        let g = coming a n stop 1 k x span r.cursor some in
        let lt : value < c.r6 = let l = true_then _ _ flag in omega (arith, l, h.kept.r6) in
        let v : ℕ = byte s.memory (place x) in
        let digit : value ≡ digit_of v = worth.below c.r6 few lt ∙ ap digit_of is in
        let y : ℕ = following x in
        let more : List ℕ → ℕ → Stay = λ ds. r.next (digit_of v ∷ ds) in
        let left = left_is stay _ _ h.most (digits_more r.fuel s c.r6 r.next x v (omega (arith, r.some, g.some)) (omega (arith, lt, digit))) (r.digit some (omega (arith, lt, digit))) in
        let seen = peeked stay s (takes_digits (r.fuel - 1) s c.r6 more) a n stop (k - 1) y h.most span g.next left in
        let now : d.r2 ≡ (e.regs.r2 * c.r6 % 2 ^ 32 + digit_of v) % 2 ^ 32 = r2 ∙ ap (λ b. (e.regs.r2 * b % 2 ^ 32 + value) % 2 ^ 32) h.kept.r6 ∙ ap (λ t. (e.regs.r2 * c.r6 % 2 ^ 32 + t) % 2 ^ 32) digit in (
          k - 1,
          g.less,
          record {
            most = h.most + 128;
            within = omega (arith, within);
            bytes = h.bytes;
            quiet = quiet;
            kept = kept;
            ready = record {
              fuel = r.fuel - 1;
              some = omega (arith, r.some);
              cursor = subst (λ i. Cursor a n stop (k - 1) i) (sym r8) g.next;
              next = more;
              shape = λ t ds at. r.shape (digit_of v) (t ∷ ds) at
                  ∙ ap (ending at) (one_more (2 ^ 32) e.regs.r2 c.r6 (digit_of v) (suc (length ds)) (value_of c.r6 (t ∷ ds)) ∙ ap (λ i. (i * c.r6 ^ suc (length ds) + value_of c.r6 (t ∷ ds)) % 2 ^ 32) (sym now));
              bad = λ q. subst (λ i. Left most_steps stay (bad_pointer s i) (h.most + 128)) (sym r8) (seen.bad (sym r8 ∙ q));
              digit = λ ne lt. subst (λ i. Left most_steps stay (takes_digits (r.fuel - 1) s c.r6 more i (byte s.memory (place i))) (h.most + 128)) (sym r8) (seen.good (λ q. ne (r8 ∙ q)));
              other = λ ne le.
                  let w : ℕ = byte s.memory (place y) in
                  let there : y ≡ stop → ⊥ = λ q. ne (r8 ∙ q) in
                  let back = coming a n stop 1 (k - 1) y span g.next there in
                  let high : c.r6 ≤ digit_of w = subst (λ i. c.r6 ≤ digit_of (byte s.memory (place i))) r8 le in
                  left_is stay _ _ (h.most + 128) (digits_stop (r.fuel - 1) s c.r6 more y w (omega (arith, back.some, r.some)) high ∙ r.shape (digit_of v) [] y
                  ∙ ap (ending y) (last_one (2 ^ 32) e.regs.r2 c.r6 (digit_of v) ∙ sym now) ∙ ap (λ i. ending i d.r2) (sym r13)) (seen.good there);
            };
          },
        )

  turn : (k : ℕ) (e : Run) → Inv k e → Turning C digits_loop G Inv k e
  turn k e h =
      let x : ℕ = e.regs.r8 in
      let there : Holds s e.bytes = subst (Holds s) (sym h.bytes) holds in
      let within = h.within in
      record {
        leave = λ eq. comes _ _ _ _ _ h.bytes h.quiet record {
          kept = h.kept;
          most = h.most;
          within = omega arith;
          bad = λ z. h.ready.bad (eq ∙ h.kept.r14 ∙ c14);
          good = λ ne. absurd (ne refl);
        };
        again = λ ne.
            let some : x ≡ stop → ⊥ = λ q. ne (q ∙ sym (h.kept.r14 ∙ c14)) in
            let g = coming a n stop 1 k x span h.ready.cursor some in
            let w : ℕ = byte e.bytes (place x) in
            let is : w ≡ byte s.memory (place x) = user_byte s e.bytes there x g.user in
            let sign : truth minus ≡ e.regs.r15 = sym (h.kept.r15 ∙ c15) in
            let negative : (e.regs.r15 ≡ 0 → ⊥) → negated e.regs.r2 ≡ signed minus e.regs.r2 = λ q. ap (λ t. signed t e.regs.r2) (sym (yes minus _ sign q)) in
            let positive : e.regs.r15 ≡ 0 → e.regs.r2 ≡ signed minus e.regs.r2 = λ q. ap (λ t. signed t e.regs.r2) (sym (no minus _ sign q)) in
            rw (g.here, g.sort) (
              λ high.
                  let from : 0x3A ≤ w = false_then _ _ high in (
                    λ far.
                        let behind : 0x5B ≤ w = false_then _ _ far in (
                          λ none. (
                            λ flag. (λ q. stops k e h some _ w is (no_small w behind none) _ _ _ _ flag h.quiet h.kept refl refl (negative q) (omega arith), λ q. stops k e h some _ w is (no_small w behind none) _ _ _ _ flag h.quiet h.kept refl refl (positive q) (omega arith)),
                            λ flag. goes_on k e h some _ w is (no_small w behind none) _ _ _ _ flag h.quiet h.kept refl refl refl (omega arith),
                          ),
                          λ some_letter. (
                            λ flag. (λ q. stops k e h some _ w is (small w behind some_letter) _ _ _ _ flag h.quiet h.kept refl refl (negative q) (omega arith), λ q. stops k e h some _ w is (small w behind some_letter) _ _ _ _ flag h.quiet h.kept refl refl (positive q) (omega arith)),
                            λ flag. goes_on k e h some _ w is (small w behind some_letter) _ _ _ _ flag h.quiet h.kept refl refl refl (omega arith),
                          ),
                        ),
                    λ near. (
                      λ none. (
                        λ flag. (λ q. stops k e h some _ w is (no_capital w from (true_then _ _ near) none) _ _ _ _ flag h.quiet h.kept refl refl (negative q) (omega arith), λ q. stops k e h some _ w is (no_capital w from (true_then _ _ near) none) _ _ _ _ flag h.quiet h.kept refl refl (positive q) (omega arith)),
                        λ flag. goes_on k e h some _ w is (no_capital w from (true_then _ _ near) none) _ _ _ _ flag h.quiet h.kept refl refl refl (omega arith),
                      ),
                      λ some_letter. (
                        λ flag. (λ q. stops k e h some _ w is (capital w from some_letter) _ _ _ _ flag h.quiet h.kept refl refl (negative q) (omega arith), λ q. stops k e h some _ w is (capital w from some_letter) _ _ _ _ flag h.quiet h.kept refl refl (positive q) (omega arith)),
                        λ flag. goes_on k e h some _ w is (capital w from some_letter) _ _ _ _ flag h.quiet h.kept refl refl refl (omega arith),
                      ),
                    ),
                  ),
              λ low. (
                λ flag. (λ q. stops k e h some _ w is (figure w (true_then _ _ low)) _ _ _ _ flag h.quiet h.kept refl refl (negative q) (omega arith), λ q. stops k e h some _ w is (figure w (true_then _ _ low)) _ _ _ _ flag h.quiet h.kept refl refl (positive q) (omega arith)),
                λ flag. goes_on k e h some _ w is (figure w (true_then _ _ low)) _ _ _ _ flag h.quiet h.kept refl refl refl (omega arith),
              ),
            );
      }

  pub goes : (z : Cop0) (q : List Access) (p : Count) (k most : ℕ) → Ready stay s c.r6 ending a n stop k c.r8 c.r2 c.r13 most → p.steps + 250 ≤ most → ports q ≡ []
      → Meets kernel_words C digits_loop DIGITS (λ _. ⊥) G (run c z m [] q p)
  goes z q p k most ready within quiet =
      sound C fair digits_loop DIGITS (ended (λ _. ⊥)) (λ _. ⊥) G (λ c z m w q p ok h. h) c z m [] q p tt (looped C fair digits_loop G Inv turn k _ record {
        most = most;
        within = within;
        bytes = refl;
        quiet = quiet;
        kept = record { r4 = refl; r5 = refl; r6 = refl; r14 = refl; r15 = refl; r31 = refl };
        ready = ready;
      })
