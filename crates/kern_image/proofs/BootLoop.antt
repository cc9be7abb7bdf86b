-- The 2,048 turns of the boot code's loop.
use Rattle.std.proofs.Common.{◌≡◌, ℕ, zero, suc, ◌+◌, ◌*◌, ◌%◌, ◌≤◌, refl, sym, subst, arith}
use Rattle.psx_base.specs.Memory.{Memory}
use Rattle.psx_base.specs.Context.{Context}
use Rattle.psx_cpu.specs.Processor.{Core, Cop0}
use Rattle.psx_cpu.specs.Exceptions.{reset}
use Rattle.abs_run.specs.Serves.{Boots}
use Rattle.kern_image.proofs.BootWalk.{Setting, more, core, Base, IsBoot}
use Rattle.kern_image.proofs.BootWords.{copy, back, is_copy, is_back, steps}
use Rattle.kern_image.proofs.BootSound.{walks}
use Rattle.kern_image.proofs.BootCopy.{IsCopied, at_copy, block, Copied, copies, Turned, turns, Through, goes_through}

module _ (g : Setting) where
  -- a boot goes on alike from equal states
  pub alike : (left : ℕ) (c d : Context) (z y : Cop0) (m : Memory) → c ≡ d → z ≡ y → Boots g.rom g.exe g.sizes left (core d y m) → Boots g.rom g.exe g.sizes left (core c z m)
  alike left c d z y m e f h = subst (λ (x : Context). Boots g.rom g.exe g.sizes left (core x z m)) (sym e) (subst (λ (x : Cop0). Boots g.rom g.exe g.sizes left (core d x m)) (sym f) h)

module _ (g : Setting) (boot : IsBoot g) where
  abbrev B : ℕ → Core → Type 0
  B = Boots g.rom g.exe g.sizes

  -- behind the loop
  abbrev pub Done : ℕ → Type 0
  Done left = (v : ℕ → ℕ) (m : Memory) → Base g m → IsCopied g 0x10000 m → B left (core (at_copy 0xBFC00058 0xBFC20000 0x80010000 v) reset.cop0 m)

  -- a turn up to its branch
  turn : (n : ℕ) (v : ℕ → ℕ) (m : Memory) (left : ℕ) → n + 32 ≤ 0x10000 → n % 4 ≡ 0 → Base g m → IsCopied g n m
      → ((m' : Memory) → Base g m' → IsCopied g (n + 32) m' → B left (core (at_copy 0xBFC00050 (0xBFC10000 + (n + 32)) (0x80000000 + n) (block g n)) reset.cop0 m'))
      → B (more copy left) (core (at_copy 0xBFC0000C (0xBFC10000 + n) (0x80000000 + n) v) reset.cop0 m)
  turn n v m left up al b c f =
      walks g 3 copy (at_copy 0xBFC0000C (0xBFC10000 + n) (0x80000000 + n) v) reset.cop0 m left (Copied g boot n up al) boot is_copy b (copies g boot n up al v m c)
      (λ c' z' m' b' h. alike g left c' _ z' _ m' h.0 h.1 (f m' b' h.2))

  last_turn : (v : ℕ → ℕ) (m : Memory) (left : ℕ) → Base g m → IsCopied g 65504 m → Done left → B (more copy (more back left)) (core (at_copy 0xBFC0000C (0xBFC10000 + 65504) (0x80000000 + 65504) v) reset.cop0 m)
  last_turn v m left b c done =
      turn 65504 v m (more back left) (omega arith) refl b c (λ m' b' c'.
      walks g 20 back (at_copy 0xBFC00050 0xBFC20000 0x8000FFE0 (block g 65504)) reset.cop0 m' left (Through g) boot is_back b' (goes_through g m' c')
      (λ c'' z'' m'' b'' h. alike g left c'' _ z'' _ m'' h.0 h.1 (done (block g 65504) m'' b'' h.2)))

  -- so many turns and the last one
  pub loops : (t n : ℕ) (v : ℕ → ℕ) (m : Memory) (left : ℕ) → n + 32 * t ≡ 65504 → n % 4 ≡ 0 → Base g m → IsCopied g n m → Done left
      → B (steps t left) (core (at_copy 0xBFC0000C (0xBFC10000 + n) (0x80000000 + n) v) reset.cop0 m)
  unfolding steps
  loops zero n v m left e al b c done =
      let is : n ≡ 65504 = omega arith in
      subst (λ (k : ℕ). B (more copy (more back left)) (core (at_copy 0xBFC0000C (0xBFC10000 + k) (0x80000000 + k) v) reset.cop0 m)) (sym is) (last_turn v m left b (subst (λ (k : ℕ). IsCopied g k m) is c) done)
  loops (suc t) n v m left e al b c done =
      let up : n + 32 ≤ 0x10000 = omega arith in
      turn n v m (more back (steps t left)) up al b c (λ m' b' c'.
      walks g 20 back (at_copy 0xBFC00050 (0xBFC10000 + (n + 32)) (0x80000000 + n) (block g n)) reset.cop0 m' (steps t left) (Turned g boot n up al) boot is_back b' (turns g boot n up al m' (omega arith) c')
      (λ c'' z'' m'' b'' h. alike g (steps t left) c'' _ z'' _ m'' h.0 h.1 (loops t (n + 32) (block g n) m'' left (omega arith) (omega arith) b'' h.2 done)))
