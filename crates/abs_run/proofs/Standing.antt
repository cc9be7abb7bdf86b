-- A processor that stands for a state stands, after a step of user code, for the state after it: the kernel's memory stays.
use Rattle.std.proofs.Common.{◌≡◌, ℕ, ◌+◌, ◌*◌, ◌%◌, ◌^◌, ◌<◌, Bool, true, false, List, refl, sym, ap, ◌∙◌, arith}
use Rattle.std.specs.Prelude.{if◌then◌else◌, nat_eq, nat_le, nat_lt, ◌&&◌, [], ◌∷◌}
use Rattle.std.specs.List.{list_any}
use Rattle.std.proofs.lemmas.Bool.Decides.{nat_tests}
use Rattle.kern_layout.specs.declared.ranges.Range.{Range}
use Rattle.std.proofs.lemmas.Bool.{false≢true}
use Rattle.psx_base.specs.Memory.{Memory, byte, word}
use Rattle.psx_base.specs.Context.{Context}
use Rattle.psx_base.specs.KernelState.{KernelState}
use Rattle.psx_cpu.specs.Processor.{Processor, Core}
use Rattle.psx_cpu.specs.Exceptions.{takes_interrupt}
use Rattle.kern_layout.specs.Reads.{Reads}
use Rattle.kern_layout.specs.Valid.{Valid}
use Rattle.kern_layout.specs.Stands.{Stands, is_fixed, fixed_ranges, user_sr}
use Rattle.kern_layout.proofs.Written.{reads_free}
use Rattle.abs_kernel.specs.UserLaws.{stepped}
use Rattle.abs_run.specs.InKernel.{side_of}
use Rattle.abs_run.proofs.UserMemory.{kernel-not_shared, Agrees}
use Rattle.abs_run.proofs.UserSide.{Continues}

-- ---- the kernel's memory

module _ (m now other : Memory) (h : Agrees m now other) where
  byte-kept : (a : ℕ) → a < 0x10000 → byte now a ≡ byte m a
  byte-kept a low = h.rest a (kernel-not_shared a low)

  word-kept : (a : ℕ) → a % 4 ≡ 0 → a < 0x10000 → word now a ≡ word m a
  unfolding word
  word-kept a aligned low =
      let b0 = byte-kept a low in
      let b1 = byte-kept (a + 1) (omega arith) in
      let b2 = byte-kept (a + 2) (omega arith) in
      let b3 = byte-kept (a + 3) (omega arith) in
      (λ i. b0 i + b1 i * 2 ^ 8 + b2 i * 2 ^ 16 + b3 i * 2 ^ 24)

  pub reads-kept : (s : KernelState) → Valid s → Reads s (word m) (byte m) → Reads s (word now) (byte now)
  reads-kept s v r =
      let few = v.frames_most in
      reads_free s v (word m) (word now) (byte m) (byte now)
      (λ a low high. byte-kept a (omega arith))
      (λ a aligned low high. word-kept a aligned (omega (arith, high, few)))
      (λ a aligned low high. word-kept a aligned (omega arith))
      (λ a aligned low high. word-kept a aligned (omega arith)) r

abbrev all_low : List Range → Bool
all_low [] = true
all_low (r ∷ rs) = nat_le r.to 0x10000 && all_low rs

any-low : (a : ℕ) (rs : List Range) → all_low rs ≡ true → list_any (λ (r : Range). nat_le r.from a && nat_lt a r.to) rs ≡ true → a < 0x10000
any-low a [] low h = absurd (false≢true h)
any-low a (r ∷ rs) low h = grind (arith, nat_tests, any-low a rs)

fixed-low : (a : ℕ) → is_fixed a ≡ true → a < 0x10000
fixed-low a h = any-low a fixed_ranges refl h

-- ---- a step of user code

pub stands-on : (k next : Core) (s : KernelState) (c : Context) (n : Memory) (rom : List ℕ) → Valid s → Stands (side_of k) k.bytes s rom → Continues k next c n → Stands (side_of next) next.bytes (stepped s c n) rom
stands-on k next s c n rom v st on =
    let r = reads-kept k.bytes next.bytes n on.memory s v st.reads in
    record {
      context = on.context;
      sr = ap (λ x. x.sr) on.cop0 ∙ st.sr;
      latch = on.latch ∙ st.latch;
      reads = record { threads = r.threads; events = r.events; frames = r.frames; chains = r.chains; heap = r.heap; files = r.files; line = r.line; variables = r.variables };
      user = on.memory.user;
      code = λ a f. byte-kept k.bytes next.bytes n on.memory a (fixed-low a f) ∙ st.code a f;
    }

-- ---- interrupts

interrupts-on : (on : Bool) (sr : ℕ) → sr ≡ user_sr on → nat_eq (sr % 2) 1 ≡ true → on ≡ true
interrupts-on true sr e h = refl
interrupts-on false sr e h = absurd (false≢true (ap (λ (x : ℕ). nat_eq (x % 2) 1) (sym e) ∙ h))

first-of : (a b : Bool) → (if a then b else false) ≡ true → a ≡ true
first-of true b h = refl
first-of false b h = h

pub takes-on : (p : Processor) (line on : Bool) → p.cop0.sr ≡ user_sr on → takes_interrupt p line ≡ true → (line ≡ true) × (on ≡ true)
takes-on p true on e h = (refl, interrupts-on on p.cop0.sr e (first-of (nat_eq (p.cop0.sr % 2) 1) _ h))
takes-on p false on e h = absurd (false≢true h)
