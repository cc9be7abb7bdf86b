-- Behind the loop: the sizes are stored, the registers get their opening values, and the return leaves to the program in the opening state.
use Rattle.std.proofs.Common.{◌≡◌, ℕ, ◌+◌, ◌*◌, ◌%◌, ◌^◌, ◌<◌, ◌≤◌, Bool, true, false, None, List, [], ◌∷◌, refl, ap, sym, ◌∙◌, subst, arith, ⊎_elim}
use Rattle.std.specs.Prelude.{bit_or, nat_eq, nat_le, nat_lt, ◌&&◌, slice_index, if◌then◌else◌}
use Rattle.std.specs.List.{list_any, list_all}
use Rattle.std.specs.Int.Bits.{or_zero_r}
use Rattle.std.proofs.lemmas.Bool.{and_parts, or_cases, eqb-true, leb-true, ltb-true, false≢true}
use Rattle.psx_base.specs.Memory.{Memory, byte, word, put_word}
use Rattle.psx_base.specs.Registers.{no_registers}
use Rattle.psx_base.specs.Context.{Context, settle}
use Rattle.psx_ram.specs.Words.{word_at}
use Rattle.psx_ram.specs.Apart.{apart}
use Rattle.psx_ram.proofs.Laws.{byte-put_word_apart, word-put_word_same, word-put_word_apart}
use Rattle.psx_exe.specs.Placed.{stack_top}
use Rattle.psx_cpu.specs.Processor.{Cop0}
use Rattle.psx_cpu.specs.Changes.{forth}
use Rattle.psx_cpu.specs.Exceptions.{reset, left_sr}
use Rattle.kern_layout.specs.declared.ranges.Range.{Range}
use Rattle.kern_layout.specs.Opening.{opening_at, Opens}
use Rattle.kern_layout.specs.Reads.{Reads}
use Rattle.kern_layout.specs.Stores.{put}
use Rattle.kern_layout.specs.Start.{SizesFit}
use Rattle.kern_layout.specs.Stands.{is_fixed, fixed_ranges, Stands}
use Rattle.kern_layout.proofs.OpeningRead.{opens_as_start}
use Rattle.abs_run.specs.Serves.{Boots}
use Rattle.abs_run.specs.Accepted.{opening, program_memory}
use Rattle.kern_image.proofs.BootWalk.{Setting, Next, Walk, more, core, Base, IsBoot}
use Rattle.kern_image.proofs.BootWords.{last, is_last, is_return}
use Rattle.kern_image.proofs.BootSound.{walks, ends}
use Rattle.kern_image.proofs.BootCopy.{IsCopied, at_copy}
use Rattle.kern_image.proofs.BootLoop.{alike, Done}

-- the context at the return, and the memory with the sizes
abbrev at_return : Setting → Context
at_return g = record {
  regs = record no_registers { r4 = 1; r26 = g.exe.pc; r28 = g.exe.gp; r29 = stack_top g.exe; r30 = bit_or (stack_top g.exe) 0; r31 = 0xD0 };
  pending = None;
  pc = 0xBFC000BC;
  next = g.exe.pc;
  in_slot = true;
}

abbrev sized : Setting → Memory → Memory
sized g m = put_word (put_word m 0xEA0C g.sizes.threads) 0xEA10 g.sizes.events

abbrev returning : Cop0
returning = record reset.cop0 { sr = 0x404 }

abbrev AtReturn : Setting → Memory → Next
AtReturn g m c z n = (c ≡ at_return g) × (z ≡ returning) × (n ≡ sized g m)

comes : (g : Setting) (v : ℕ → ℕ) (m : Memory) → Walk g 22 last (at_copy 0xBFC00058 0xBFC20000 0x80010000 v) reset.cop0 m (AtReturn g m)
unfolding last
comes g v m =
    (record { aligned = refl; asked = refl }, (record { aligned = refl; asked = refl }, (record { aligned = refl; asked = refl }, (record { aligned = refl; asked = refl }, (record { aligned = refl; asked = refl }, (0xEA0C, record { is = refl; aligned = refl; within = omega arith }, (0xEA10, record { is = refl; aligned = refl; within = omega arith }, (refl, refl, refl))))))))

-- ---- the words in the memory

below_all : (rs : List Range) (high a : ℕ) → list_all (λ (r : Range). nat_le r.to high) rs ≡ true → list_any (λ (r : Range). nat_le r.from a && nat_lt a r.to) rs ≡ true → a < high
below_all [] high a all h = absurd (false≢true h)
below_all (r ∷ rs) high a all h =
    let p = and_parts (nat_le r.to high) (list_all (λ (r : Range). nat_le r.to high) rs) all in
    ⊎_elim
    (λ q. let e = leb-true r.to high p.0 in let f = ltb-true a r.to (and_parts (nat_le r.from a) (nat_lt a r.to) q).1 in omega (arith, e, f))
    (λ q. below_all rs high a p.1 q)
    (or_cases (nat_le r.from a && nat_lt a r.to) (list_any (λ (r : Range). nat_le r.from a && nat_lt a r.to) rs) h)

fixed_below : (a : ℕ) → is_fixed a ≡ true → a < 0xB000
fixed_below a h = below_all fixed_ranges 0xB000 a refl h

copied_word : (g : Setting) (m : Memory) (a : ℕ) → IsCopied g 0x10000 m → a + 4 ≤ 0x10000 → word m a ≡ word_at g.rom (0x10000 + a)
unfolding word
copied_word g m a c up =
    let e0 = c.bytes a (omega arith) in let e1 = next 1 (omega arith) in let e2 = next 2 (omega arith) in let e3 = next 3 (omega arith) in
    λ i. e0 i + e1 i * 2 ^ 8 + e2 i * 2 ^ 16 + e3 i * 2 ^ 24
  where
    next : (k : ℕ) → a + k < 0x10000 → byte m (a + k) ≡ slice_index g.rom (0x10000 + a + k)
    next k lt = c.bytes (a + k) lt ∙ ap (slice_index g.rom) {x = 0x10000 + (a + k)} {y = 0x10000 + a + k} (omega arith)

word_apart : (at a : ℕ) → at % 4 ≡ 0 → a % 4 ≡ 0 → (a ≡ at → ⊥) → apart at 4 a 4 ≡ true
word_apart at a al b n = grind arith

byte_apart : (at a : ℕ) → a < at → apart at 4 a 1 ≡ true
byte_apart at a lt = grind arith

-- words w with two values of them as they were before
module _ (w : ℕ → ℕ) (x y t e : ℕ) (is_t : w 0xEA0C ≡ t) (is_e : w 0xEA10 ≡ e) where
  abbrev before : ℕ → ℕ
  before = put (put w 0xEA0C x) 0xEA10 y

  by : (a : ℕ) (p q : Bool) → nat_eq a 0xEA0C ≡ p → nat_eq a 0xEA10 ≡ q → (if q then e else (if p then t else (if q then y else (if p then x else w a)))) ≡ w a
  by a p true h k = sym is_e ∙ ap w (sym (eqb-true a 0xEA10 k))
  by a true false h k = sym is_t ∙ ap w (sym (eqb-true a 0xEA0C h))
  by a false false h k = refl

  again : put (put before 0xEA0C t) 0xEA10 e ≡ w
  again = λ i a. by a (nat_eq a 0xEA0C) (nat_eq a 0xEA10) refl refl i

module _ (g : Setting) (boot : IsBoot g) (m : Memory) (c : IsCopied g 0x10000 m) where
  w : ℕ → ℕ
  w = word (sized g m)

  threads_word : w 0xEA0C ≡ g.sizes.threads
  unfolding w
  threads_word = word-put_word_apart (put_word m 0xEA0C g.sizes.threads) 0xEA10 g.sizes.events 0xEA0C refl ∙ word-put_word_same m 0xEA0C g.sizes.threads

  events_word : w 0xEA10 ≡ g.sizes.events
  unfolding w
  events_word = word-put_word_same (put_word m 0xEA0C g.sizes.threads) 0xEA10 g.sizes.events

  other_word : (a : ℕ) → a % 4 ≡ 0 → 0xB000 ≤ a → a < 0x10000 → (a ≡ 0xEA0C → ⊥) → (a ≡ 0xEA10 → ⊥) → w a ≡ opening_at a
  unfolding w
  other_word a al lo up n1 n2 =
      word-put_word_apart (put_word m 0xEA0C g.sizes.threads) 0xEA10 g.sizes.events a (word_apart 0xEA10 a refl al n2)
      ∙ word-put_word_apart m 0xEA0C g.sizes.threads a (word_apart 0xEA0C a refl al n1)
      ∙ copied_word g m a c (omega arith) ∙ boot.opens a al lo up

  opened : Opens (before w (opening_at 0xEA0C) (opening_at 0xEA10) g.sizes.threads g.sizes.events threads_word events_word)
  opened a al lo up = go (nat_eq a 0xEA0C) (nat_eq a 0xEA10) refl refl
    where
      go : (p q : Bool) → nat_eq a 0xEA0C ≡ p → nat_eq a 0xEA10 ≡ q → (if q then opening_at 0xEA10 else (if p then opening_at 0xEA0C else w a)) ≡ opening_at a
      go p true h k = ap opening_at (sym (eqb-true a 0xEA10 k))
      go true false h k = ap opening_at (sym (eqb-true a 0xEA0C h))
      go false false h k = other_word a al lo up (λ e. false≢true (sym h ∙ ap (λ x. nat_eq x 0xEA0C) e)) (λ e. false≢true (sym k ∙ ap (λ x. nat_eq x 0xEA10) e))

  reads : SizesFit g.sizes → Reads (opening g.exe g.sizes) (word (sized g m)) (byte (sized g m))
  unfolding w
  reads fit =
      subst (λ (x : ℕ → ℕ). Reads (opening g.exe g.sizes) x (byte (sized g m))) (again w (opening_at 0xEA0C) (opening_at 0xEA10) g.sizes.threads g.sizes.events threads_word events_word)
      (opens_as_start (before w (opening_at 0xEA0C) (opening_at 0xEA10) g.sizes.threads g.sizes.events threads_word events_word) (byte (sized g m)) g.exe.pc g.exe.gp (stack_top g.exe) (program_memory g.exe) g.sizes fit opened)

  code : (a : ℕ) → is_fixed a ≡ true → byte (sized g m) a ≡ slice_index g.rom (0x10000 + a)
  code a h =
      let lt = fixed_below a h in
      byte-put_word_apart (put_word m 0xEA0C g.sizes.threads) 0xEA10 g.sizes.events a (byte_apart 0xEA10 a (omega arith))
      ∙ byte-put_word_apart m 0xEA0C g.sizes.threads a (byte_apart 0xEA0C a (omega arith))
      ∙ c.bytes a (omega arith)

  stands : SizesFit g.sizes → Base g (sized g m) → Stands (record { context = forth (settle (at_return g)); sr = left_sr 0x404; latch = false }) (sized g m) (opening g.exe g.sizes) g.rom
  stands fit b = record {
    context = ap (λ (x : ℕ). record { regs = record no_registers { r4 = 1; r26 = g.exe.pc; r28 = g.exe.gp; r29 = stack_top g.exe; r30 = x; r31 = 0xD0 }; pending = None; pc = g.exe.pc; next = (g.exe.pc + 4) % 2 ^ 32; in_slot = false }) (or_zero_r (stack_top g.exe));
    sr = refl;
    latch = refl;
    reads = reads fit;
    user = b.user;
    code = code;
  }

-- the steps behind the loop
pub finishes : (g : Setting) (boot : IsBoot g) → SizesFit g.sizes → Done g boot (more last 1)
finishes g boot fit v m b c =
    walks g 22 last (at_copy 0xBFC00058 0xBFC20000 0x80010000 v) reset.cop0 m 1 (AtReturn g m) boot is_last b (comes g v m)
    (λ c' z' m' b' h. alike g 1 c' (at_return g) z' returning m' h.0 h.1
    (subst (λ (x : Memory). Boots g.rom g.exe g.sizes 1 (core (at_return g) returning x)) (sym h.2)
    (let sound = subst (Base g) h.2 b' in ends g 47 (at_return g) returning (sized g m) boot (omega arith) is_return refl sound (stands g boot m c fit sound))))
