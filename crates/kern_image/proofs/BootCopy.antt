-- One turn of the boot code's loop copies eight words of the kernel's block.
use Rattle.std.proofs.Common.{◌≡◌, ℕ, zero, suc, ◌+◌, ◌-◌, ◌*◌, ◌/◌, ◌%◌, ◌^◌, ◌<◌, ◌≤◌, true, false, None, refl, ap, ◌∙◌, subst, arith, ⊎_elim, ne_eqb}
use Rattle.std.specs.Prelude.{nat_eq, nat_lt, ◌&&◌, slice_index}
use Rattle.std.proofs.lemmas.Bool.{cases_lt}
use Rattle.psx_base.specs.Memory.{Memory, byte, put_byte, put_word}
use Rattle.psx_base.specs.Registers.{no_registers}
use Rattle.psx_base.specs.Context.{Context}
use Rattle.psx_ram.specs.Words.{word_at}
use Rattle.psx_ram.specs.Apart.{apart}
use Rattle.psx_ram.proofs.Laws.{byte-put_byte_same, byte-put_byte_apart, byte-put_word_apart}
use Rattle.psx_cpu.specs.Exceptions.{reset}
use Rattle.kern_image.proofs.BootWords.{copy, back}
use Rattle.kern_image.proofs.BootWalk.{Setting, IsRom, IsKernel, Next, Walk, IsBoot}

-- ---- the bytes of a word that is put

module _ (a b c d : ℕ) (ha : a < 2 ^ 8) (hb : b < 2 ^ 8) (hc : c < 2 ^ 8) where
  byte_0 : (a + b * 2 ^ 8 + c * 2 ^ 16 + d * 2 ^ 24) % 2 ^ 8 ≡ a
  byte_0 = omega arith

  byte_1 : (a + b * 2 ^ 8 + c * 2 ^ 16 + d * 2 ^ 24) / 2 ^ 8 % 2 ^ 8 ≡ b
  byte_1 = omega arith

  byte_2 : (a + b * 2 ^ 8 + c * 2 ^ 16 + d * 2 ^ 24) / 2 ^ 16 % 2 ^ 8 ≡ c
  byte_2 = omega arith

  byte_3 : (a + b * 2 ^ 8 + c * 2 ^ 16 + d * 2 ^ 24) / 2 ^ 24 ≡ d
  byte_3 = omega arith

-- the kernel's memory up to an address has the block's bytes
pub record IsCopied (g : Setting) (n : ℕ) (m : Memory) : Type 0 where
  pub bytes : (a : ℕ) → a < n → byte m a ≡ slice_index g.rom (0x10000 + a)

apart_below : (p a : ℕ) → a < p → apart p 4 a 1 ≡ true
apart_below p a h = grind arith

module _ (g : Setting) (boot : IsBoot g) (m : Memory) (p : ℕ) where
  abbrev v : ℕ
  v = word_at g.rom (0x10000 + p)

  new : (k : ℕ) → k < 4 → byte (put_word m p v) (p + k) ≡ slice_index g.rom (0x10000 + p + k)
  unfolding put_word
  new k lt =
      let i = 0x10000 + p in
      let m0 = put_byte m p (v % 2 ^ 8) in
      let m1 = put_byte m0 (p + 1) (v / 2 ^ 8 % 2 ^ 8) in
      let m2 = put_byte m1 (p + 2) (v / 2 ^ 16 % 2 ^ 8) in
      let h0 = boot.bytes i in let h1 = boot.bytes (i + 1) in let h2 = boot.bytes (i + 2) in
      let b0 = slice_index g.rom i in let b1 = slice_index g.rom (i + 1) in let b2 = slice_index g.rom (i + 2) in let b3 = slice_index g.rom (i + 3) in
      go k lt
      (byte-put_byte_apart m2 (p + 3) (v / 2 ^ 24) p (omega arith) ∙ byte-put_byte_apart m1 (p + 2) (v / 2 ^ 16 % 2 ^ 8) p (omega arith) ∙ byte-put_byte_apart m0 (p + 1) (v / 2 ^ 8 % 2 ^ 8) p (omega arith) ∙ byte-put_byte_same m p (v % 2 ^ 8) ∙ byte_0 b0 b1 b2 b3 h0 h1 h2)
      (byte-put_byte_apart m2 (p + 3) (v / 2 ^ 24) (p + 1) (omega arith) ∙ byte-put_byte_apart m1 (p + 2) (v / 2 ^ 16 % 2 ^ 8) (p + 1) (omega arith) ∙ byte-put_byte_same m0 (p + 1) (v / 2 ^ 8 % 2 ^ 8) ∙ byte_1 b0 b1 b2 b3 h0 h1 h2)
      (byte-put_byte_apart m2 (p + 3) (v / 2 ^ 24) (p + 2) (omega arith) ∙ byte-put_byte_same m1 (p + 2) (v / 2 ^ 16 % 2 ^ 8) ∙ byte_2 b0 b1 b2 b3 h0 h1 h2)
      (byte-put_byte_same m2 (p + 3) (v / 2 ^ 24) ∙ byte_3 b0 b1 b2 b3 h0 h1 h2)
    where
      go : (k : ℕ) → k < 4
          → byte (put_word m p v) p ≡ slice_index g.rom (0x10000 + p) → byte (put_word m p v) (p + 1) ≡ slice_index g.rom (0x10000 + p + 1)
          → byte (put_word m p v) (p + 2) ≡ slice_index g.rom (0x10000 + p + 2) → byte (put_word m p v) (p + 3) ≡ slice_index g.rom (0x10000 + p + 3)
          → byte (put_word m p v) (p + k) ≡ slice_index g.rom (0x10000 + p + k)
      go zero lt a b c d = ap (byte (put_word m p v)) {x = p + 0} {y = p} (omega arith) ∙ a ∙ ap (slice_index g.rom) {x = 0x10000 + p} {y = 0x10000 + p + 0} (omega arith)
      go (suc zero) lt a b c d = b
      go (suc (suc zero)) lt a b c d = c
      go (suc (suc (suc zero))) lt a b c d = d
      go (suc (suc (suc (suc k)))) lt a b c d = absurd (omega arith)

  copied-put : IsCopied g p m → (q : ℕ) → q ≡ p + 4 → IsCopied g q (put_word m p v)
  copied-put c q is = record {
    bytes = λ a lt. ⊎_elim (λ (h : a < p). byte-put_word_apart m p v a (apart_below p a h) ∙ c.bytes a h)
        (λ (h : p ≤ a). ap (byte (put_word m p v)) {x = a} {y = p + (a - p)} (omega arith) ∙ new (a - p) (omega arith) ∙ ap (slice_index g.rom) {x = 0x10000 + p + (a - p)} {y = 0x10000 + a} (omega arith)) (cases_lt a p);
  }

-- ---- the loop's body

-- the context in the loop, by pc, the two cursors and the eight registers of words
abbrev pub at_copy : (pc from to : ℕ) → (ℕ → ℕ) → Context
at_copy pc from to v = record {
  regs = record no_registers { r8 = from; r9 = to; r10 = 0xBFC20000; r11 = v 0; r12 = v 1; r13 = v 2; r14 = v 3; r15 = v 4; r16 = v 5; r17 = v 6; r18 = v 7 };
  pending = None;
  pc = pc;
  next = pc + 4;
  in_slot = false;
}

-- the words of the block from a place on
abbrev pub block : Setting → ℕ → ℕ → ℕ
block g n j = word_at g.rom (0x10000 + (n + 4 * j))

is_word : (j : ℕ) → (nat_lt j 32 && nat_eq (j % 4) 0) ≡ true → (j < 32) × (j % 4 ≡ 0)
is_word j h = grind arith

rom_at : (n j : ℕ) → n + 32 ≤ 0x10000 → n % 4 ≡ 0 → (nat_lt j 32 && nat_eq (j % 4) 0) ≡ true → IsRom ((0xBFC10000 + n + j) % 2 ^ 32) (0x10000 + (n + j))
rom_at n j up al h = let w = is_word j h in record { is = omega arith; aligned = omega arith; within = omega arith }

kernel_at : (n j : ℕ) → n + 32 ≤ 0x10000 → n % 4 ≡ 0 → (nat_lt j 32 && nat_eq (j % 4) 0) ≡ true → IsKernel ((0x80000000 + n + j) % 2 ^ 32) (n + j)
kernel_at n j up al h = let w = is_word j h in record { is = omega arith; aligned = omega arith; within = omega arith }

rom_next : (n : ℕ) → n + 32 ≤ 0x10000 → (0xBFC10000 + n + 32) % 2 ^ 32 ≡ 0xBFC10000 + (n + 32)
rom_next n up = omega arith

kernel_next : (n : ℕ) → n + 32 ≤ 0x10000 → (0x80000000 + n + 32) % 2 ^ 32 ≡ 0x80000000 + (n + 32)
kernel_next n up = omega arith

module _ (g : Setting) (boot : IsBoot g) (n : ℕ) (up : n + 32 ≤ 0x10000) (al : n % 4 ≡ 0) where
  -- behind the eight loads and stores
  abbrev pub Copied : Next
  Copied c z m = (c ≡ at_copy 0xBFC00050 (0xBFC10000 + (n + 32)) (0x80000000 + n) (block g n)) × (z ≡ reset.cop0) × IsCopied g (n + 32) m

  pub copies : (v : ℕ → ℕ) (m : Memory) → IsCopied g n m → Walk g 3 copy (at_copy 0xBFC0000C (0xBFC10000 + n) (0x80000000 + n) v) reset.cop0 m Copied
  unfolding copy
  copies v m c = (0x10000 + (n + 0), rom_at n 0 up al refl, (0x10000 + (n + 4), rom_at n 4 up al refl, (0x10000 + (n + 8), rom_at n 8 up al refl, (0x10000 + (n + 12), rom_at n 12 up al refl, (0x10000 + (n + 16), rom_at n 16 up al refl, (0x10000 + (n + 20), rom_at n 20 up al refl, (0x10000 + (n + 24), rom_at n 24 up al refl, (0x10000 + (n + 28), rom_at n 28 up al refl, (n + 0, kernel_at n 0 up al refl, (n + 4, kernel_at n 4 up al refl, (n + 8, kernel_at n 8 up al refl, (n + 12, kernel_at n 12 up al refl, (n + 16, kernel_at n 16 up al refl, (n + 20, kernel_at n 20 up al refl, (n + 24, kernel_at n 24 up al refl, (n + 28, kernel_at n 28 up al refl, (ap (λ a. at_copy 0xBFC00050 a (0x80000000 + n) (block g n)) (rom_next n up), refl, more 28 refl _ (more 24 refl _ (more 20 refl _ (more 16 refl _ (more 12 refl _ (more 8 refl _ (more 4 refl _ (more 0 refl m begun))))))))))))))))))))))))
    where
      more : (j : ℕ) → (nat_lt j 32 && nat_eq (j % 4) 0) ≡ true → (m : Memory) → IsCopied g (n + j) m → IsCopied g (n + (j + 4)) (put_word m (n + j) (word_at g.rom (0x10000 + (n + j))))
      more j h m c = copied-put g boot m (n + j) c (n + (j + 4)) (omega arith)

      begun : IsCopied g (n + 0) m
      begun = subst (λ k. IsCopied g k m) (let e : n ≡ n + 0 = omega arith in e) c

  -- behind the branch and its slot
  abbrev pub Turned : Next
  Turned c z m = (c ≡ at_copy 0xBFC0000C (0xBFC10000 + (n + 32)) (0x80000000 + (n + 32)) (block g n)) × (z ≡ reset.cop0) × IsCopied g (n + 32) m

  pub turns : (m : Memory) → n + 32 < 0x10000 → IsCopied g (n + 32) m → Walk g 20 back (at_copy 0xBFC00050 (0xBFC10000 + (n + 32)) (0x80000000 + n) (block g n)) reset.cop0 m Turned
  unfolding back
  turns m less c = (false, ne_eqb _ _ (λ e. omega arith), (ap (λ a. at_copy 0xBFC0000C (0xBFC10000 + (n + 32)) a (block g n)) (kernel_next n up), refl, c))

-- behind the last turn the branch isn't taken
abbrev pub Through : Setting → Next
Through g c z m = (c ≡ at_copy 0xBFC00058 0xBFC20000 0x80010000 (block g 65504)) × (z ≡ reset.cop0) × IsCopied g 0x10000 m

pub goes_through : (g : Setting) (m : Memory) → IsCopied g 0x10000 m → Walk g 20 back (at_copy 0xBFC00050 0xBFC20000 0x8000FFE0 (block g 65504)) reset.cop0 m (Through g)
unfolding back
goes_through g m c = (true, refl, (refl, refl, c))
