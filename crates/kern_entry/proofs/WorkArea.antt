-- The work area while the kernel runs: which context it holds, what a store makes of it, and that no other memory is written.
use Rattle.std.proofs.Common.{◌≡◌, ℕ, ◌+◌, ◌%◌, ◌^◌, ◌<◌, ◌≤◌, ◌⊎◌, List, [], ◌∷◌, Bool, true, false, None, refl, ◌∙◌, subst, arith}
use Rattle.std.specs.Prelude.{nat_le, ◌&&◌}
use Rattle.std.proofs.lemmas.Bool.{and_parts, leb-true, false≢true}
use Rattle.psx_base.specs.Memory.{Memory, word, put_word}
use Rattle.psx_base.specs.Registers.{Registers}
use Rattle.psx_base.specs.KernelState.{ThreadContext}
use Rattle.psx_ram.specs.Apart.{apart}
use Rattle.psx_ram.proofs.Laws.{byte-put_word_apart}
use Rattle.psx_cpu.specs.Processor.{Cop0}
use Rattle.psx_flow.specs.Run.{Run, Access}
use Rattle.psx_flow.specs.Told.{ports}
use Rattle.psx_flow.proofs.Log.{Entry, KernelWord, KernelByte, UserWord, UserByte, applied, Sorted, kernel_word_then, kernel_word_is}
use Rattle.kern_layout.specs.Fields.{Fields, Block}
use Rattle.kern_layout.specs.Contexts.{saved, saved_sr_of}
use Rattle.kern_layout.specs.Stores.{put, with_field}
use Rattle.kern_layout.proofs.Blocks.{inside, block_same, block_put}
use Rattle.kern_layout.proofs.MemoryStored.{word_stored}
use Rattle.kern_entry.specs.Made.{Spared}

-- a context at an address
abbrev pub held : Registers → ℕ → Bool → ThreadContext
held c pc on = record { context = record { regs = c; pending = None; pc = pc; next = (pc + 4) % 2 ^ 32; in_slot = false }; interrupts = on }

-- The work area holds a context, the rest of memory is as at the entry, and the accesses to ports so far are these. At most so many steps are made.
pub record AreaHolds (c : Registers) (pc : ℕ) (on : Bool) (m : Memory) (p : List Access) (most : ℕ) (e : Run) : Type 0 where
  pub area : Block (word e.bytes) 0xEB00 (saved (held c pc on))
  pub spared : Spared m e.bytes
  pub ports : ports e.seen ≡ p
  pub within : e.steps ≤ most

-- The same, while the registers that a call is told by are the program's, and coprocessor 0 as at the entry.
pub record AreaEntered (c : Registers) (z : Cop0) (on : Bool) (m : Memory) (p : List Access) (most : ℕ) (e : Run) : Type 0 where
  pub holds : AreaHolds c z.epc on m p most e
  pub r2 : e.regs.r2 ≡ c.r2
  pub r4 : e.regs.r4 ≡ c.r4
  pub r9 : e.regs.r9 ≡ c.r9
  pub r31 : e.regs.r31 ≡ c.r31
  pub args : (e.regs.r5 ≡ c.r5) × (e.regs.r6 ≡ c.r6) × (e.regs.r7 ≡ c.r7) × (e.regs.r29 ≡ c.r29)
  pub cop0 : e.cop0 ≡ z

-- ---- memory outside

abbrev pub in_stack : List Entry → Bool
in_stack [] = true
in_stack (KernelWord p v ∷ w) = (nat_le 0xEB00 p && nat_le (p + 4) 0xF000) && in_stack w
in_stack (_ ∷ w) = false

outside : (p a : ℕ) → 0xEB00 ≤ p → p + 4 ≤ 0xF000 → (a < 0xEB00) ⊎ (0xF000 ≤ a) → apart p 4 a 1 ≡ true
outside p a lo up o = grind arith

pub applied_spared : (m : Memory) (w : List Entry) → in_stack w ≡ true → Spared m (applied m w)
applied_spared m [] h a o = refl
applied_spared m (KernelWord p v ∷ w) h a o =
    let both = and_parts (nat_le 0xEB00 p && nat_le (p + 4) 0xF000) (in_stack w) h in
    let ends = and_parts (nat_le 0xEB00 p) (nat_le (p + 4) 0xF000) both.0 in
    byte-put_word_apart (applied m w) p v a (outside p a (leb-true _ _ ends.0) (leb-true _ _ ends.1) o) ∙ applied_spared m w both.1 a o
applied_spared m (KernelByte p v ∷ w) h a o = absurd (false≢true h)
applied_spared m (UserWord p v ∷ w) h a o = absurd (false≢true h)
applied_spared m (UserByte p v ∷ w) h a o = absurd (false≢true h)

above : (p : ℕ) → p + 4 ≤ 0xF000 → p + 4 ≤ 0x10000
above p h = omega arith

pub stack_sorted : (w : List Entry) → in_stack w ≡ true → Sorted w
stack_sorted [] h = tt
stack_sorted (KernelWord p v ∷ w) h =
    let both = and_parts (nat_le 0xEB00 p && nat_le (p + 4) 0xF000) (in_stack w) h in
    let ends = and_parts (nat_le 0xEB00 p) (nat_le (p + 4) 0xF000) both.0 in
    (above p (leb-true _ _ ends.1), stack_sorted w both.1)
stack_sorted (KernelByte p v ∷ w) h = absurd (false≢true h)
stack_sorted (UserWord p v ∷ w) h = absurd (false≢true h)
stack_sorted (UserByte p v ∷ w) h = absurd (false≢true h)

pub spared_then : (m n o : Memory) → Spared m n → Spared n o → Spared m o
spared_then m n o f g a h = g a h ∙ f a h

-- ---- the area

-- what a log of stores leaves at the fields
abbrev pub AllThen : Memory → List Entry → ℕ → Fields → Type 0
AllThen m w at [] = Unit {0}
AllThen m w at (f ∷ fs) = kernel_word_then m w (at + f.0) (λ x. x ≡ f.1) × AllThen m w at fs

abbrev pub all_low : ℕ → Fields → Bool
all_low at [] = true
all_low at (f ∷ fs) = nat_le (at + f.0 + 4) 0x10000 && all_low at fs

pub area_after : (m : Memory) (w : List Entry) (at : ℕ) (fs : Fields) → in_stack w ≡ true → all_low at fs ≡ true → AllThen m w at fs → Block (word (applied m w)) at fs
area_after m w at [] ok low h = tt
area_after m w at (f ∷ fs) ok low h =
    let both = and_parts (nat_le (at + f.0 + 4) 0x10000) (all_low at fs) low in
    (kernel_word_is m w (at + f.0) (λ x. x ≡ f.1) (stack_sorted w ok) (leb-true _ _ both.0) h.0, area_after m w at fs ok both.1 h.1)

-- a store to a field
pub area_put : (m : Memory) (o v : ℕ) (f g : Fields) → o % 4 ≡ 0 → inside 0 0x98 g ≡ true → with_field f o v ≡ g → Block (word m) 0xEB00 f → Block (word (put_word m (0xEB00 + o) v)) 0xEB00 g
area_put m o v f g al i e h =
    let P : Fields → Type 0 = λ x. Block (put (word m) (0xEB00 + o) v) 0xEB00 x in
    block_same (put (word m) (0xEB00 + o) v) (word (put_word m (0xEB00 + o) v)) 0xEB00 0 0x98 g refl i (λ a ala lo up. word_stored m (0xEB00 + o) v a (omega arith) ala) (subst P e (block_put (word m) 0xEB00 o v f h))

-- the stores of fields, in their order
abbrev pub stored : Fields → List Entry → List Entry
stored [] w = w
stored (f ∷ fs) w = stored fs (KernelWord (0xEB00 + f.0) f.1 ∷ w)

-- ---- registers changed, memory read, and nothing else

pub holds_on : (c : Registers) (pc : ℕ) (on : Bool) (m : Memory) (p : List Access) (most more : ℕ) (s : Run) → AreaHolds c pc on m p most s → (d : Registers) (z : Cop0) (q : List Access) (passed n : ℕ) → ports q ≡ ports s.seen → n ≤ more
    → AreaHolds c pc on m p more (record { regs = d; cop0 = z; bytes = s.bytes; seen = q; passed = passed; steps = n })
holds_on c pc on m p most more s h d z q passed n e few = record { area = h.area; spared = h.spared; ports = e ∙ h.ports; within = few }

pub entered_on : (c : Registers) (z : Cop0) (on : Bool) (m : Memory) (p : List Access) (most more : ℕ) (s : Run) → AreaEntered c z on m p most s → (d : Registers) (q : List Access) (passed n : ℕ) → d.r2 ≡ s.regs.r2 → d.r4 ≡ s.regs.r4 → d.r9 ≡ s.regs.r9 → d.r31 ≡ s.regs.r31 → (d.r5 ≡ s.regs.r5) × (d.r6 ≡ s.regs.r6) × (d.r7 ≡ s.regs.r7) × (d.r29 ≡ s.regs.r29) → ports q ≡ ports s.seen → n ≤ more
    → AreaEntered c z on m p more (record { regs = d; cop0 = s.cop0; bytes = s.bytes; seen = q; passed = passed; steps = n })
entered_on c z on m p most more s h d q passed n e2 e4 e9 e31 a e few = record {
  holds = holds_on c z.epc on m p most more s h.holds d s.cop0 q passed n e few;
  r2 = e2 ∙ h.r2;
  r4 = e4 ∙ h.r4;
  r9 = e9 ∙ h.r9;
  r31 = e31 ∙ h.r31;
  args = (a.0 ∙ h.args.0, a.1 ∙ h.args.1, a.2 ∙ h.args.2, a.3 ∙ h.args.3);
  cop0 = h.cop0;
}

-- ---- what the area holds

pub area_r31 : (m : Memory) (c : Registers) (pc : ℕ) (on : Bool) → Block (word m) 0xEB00 (saved (held c pc on)) → word m 0xEB84 ≡ c.r31
area_r31 m c pc on h = h.1.1.1.1.1.1.1.1.1.1.1.1.1.1.1.1.1.1.1.1.1.1.1.1.1.1.1.1.0

pub area_pc : (m : Memory) (c : Registers) (pc : ℕ) (on : Bool) → Block (word m) 0xEB00 (saved (held c pc on)) → word m 0xEB88 ≡ pc
area_pc m c pc on h = h.1.1.1.1.1.1.1.1.1.1.1.1.1.1.1.1.1.1.1.1.1.1.1.1.1.1.1.1.1.0

pub area_sr : (m : Memory) (c : Registers) (pc : ℕ) (on : Bool) → Block (word m) 0xEB00 (saved (held c pc on)) → word m 0xEB94 ≡ saved_sr_of on
area_sr m c pc on h = h.1.1.1.1.1.1.1.1.1.1.1.1.1.1.1.1.1.1.1.1.1.1.1.1.1.1.1.1.1.1.1.1.0

-- all registers from their places, k0 with the address and k1 with 0
abbrev pub loaded : Memory → Registers
loaded m = record { r1 = word m 0xeb0c; r2 = word m 0xeb10; r3 = word m 0xeb14; r4 = word m 0xeb18; r5 = word m 0xeb1c; r6 = word m 0xeb20; r7 = word m 0xeb24; r8 = word m 0xeb28; r9 = word m 0xeb2c; r10 = word m 0xeb30; r11 = word m 0xeb34; r12 = word m 0xeb38; r13 = word m 0xeb3c; r14 = word m 0xeb40; r15 = word m 0xeb44; r16 = word m 0xeb48; r17 = word m 0xeb4c; r18 = word m 0xeb50; r19 = word m 0xeb54; r20 = word m 0xeb58; r21 = word m 0xeb5c; r22 = word m 0xeb60; r23 = word m 0xeb64; r24 = word m 0xeb68; r25 = word m 0xeb6c; r26 = word m 0xeb88; r27 = 0; r28 = word m 0xeb78; r29 = word m 0xeb7c; r30 = word m 0xeb80; r31 = word m 0xeb84; hi = word m 0xeb8c; lo = word m 0xeb90 }

pub area_loaded : (m : Memory) (c : Registers) (pc : ℕ) (on : Bool) → Block (word m) 0xEB00 (saved (held c pc on)) → loaded m ≡ record c { r26 = pc; r27 = 0 }
area_loaded m c pc on h = λ i. record { r1 = (h.0) i; r2 = (h.1.0) i; r3 = (h.1.1.0) i; r4 = (h.1.1.1.0) i; r5 = (h.1.1.1.1.0) i; r6 = (h.1.1.1.1.1.0) i; r7 = (h.1.1.1.1.1.1.0) i; r8 = (h.1.1.1.1.1.1.1.0) i; r9 = (h.1.1.1.1.1.1.1.1.0) i; r10 = (h.1.1.1.1.1.1.1.1.1.0) i; r11 = (h.1.1.1.1.1.1.1.1.1.1.0) i; r12 = (h.1.1.1.1.1.1.1.1.1.1.1.0) i; r13 = (h.1.1.1.1.1.1.1.1.1.1.1.1.0) i; r14 = (h.1.1.1.1.1.1.1.1.1.1.1.1.1.0) i; r15 = (h.1.1.1.1.1.1.1.1.1.1.1.1.1.1.0) i; r16 = (h.1.1.1.1.1.1.1.1.1.1.1.1.1.1.1.0) i; r17 = (h.1.1.1.1.1.1.1.1.1.1.1.1.1.1.1.1.0) i; r18 = (h.1.1.1.1.1.1.1.1.1.1.1.1.1.1.1.1.1.0) i; r19 = (h.1.1.1.1.1.1.1.1.1.1.1.1.1.1.1.1.1.1.0) i; r20 = (h.1.1.1.1.1.1.1.1.1.1.1.1.1.1.1.1.1.1.1.0) i; r21 = (h.1.1.1.1.1.1.1.1.1.1.1.1.1.1.1.1.1.1.1.1.0) i; r22 = (h.1.1.1.1.1.1.1.1.1.1.1.1.1.1.1.1.1.1.1.1.1.0) i; r23 = (h.1.1.1.1.1.1.1.1.1.1.1.1.1.1.1.1.1.1.1.1.1.1.0) i; r24 = (h.1.1.1.1.1.1.1.1.1.1.1.1.1.1.1.1.1.1.1.1.1.1.1.0) i; r25 = (h.1.1.1.1.1.1.1.1.1.1.1.1.1.1.1.1.1.1.1.1.1.1.1.1.0) i; r26 = (h.1.1.1.1.1.1.1.1.1.1.1.1.1.1.1.1.1.1.1.1.1.1.1.1.1.1.1.1.1.0) i; r27 = 0; r28 = (h.1.1.1.1.1.1.1.1.1.1.1.1.1.1.1.1.1.1.1.1.1.1.1.1.1.0) i; r29 = (h.1.1.1.1.1.1.1.1.1.1.1.1.1.1.1.1.1.1.1.1.1.1.1.1.1.1.0) i; r30 = (h.1.1.1.1.1.1.1.1.1.1.1.1.1.1.1.1.1.1.1.1.1.1.1.1.1.1.1.0) i; r31 = (h.1.1.1.1.1.1.1.1.1.1.1.1.1.1.1.1.1.1.1.1.1.1.1.1.1.1.1.1.0) i; hi = (h.1.1.1.1.1.1.1.1.1.1.1.1.1.1.1.1.1.1.1.1.1.1.1.1.1.1.1.1.1.1.0) i; lo = (h.1.1.1.1.1.1.1.1.1.1.1.1.1.1.1.1.1.1.1.1.1.1.1.1.1.1.1.1.1.1.1.0) i }
