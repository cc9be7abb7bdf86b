-- One instruction of a listing, by the word that stands at pc: the plain step of the processor.
use Rattle.std.proofs.Common.{◌≡◌, ℕ, suc, ◌+◌, ◌*◌, ◌%◌, ◌^◌, List, [], ◌∷◌, map, Bool, true, false, Some, None, refl, ap, ◌∙◌}
use Rattle.std.specs.Prelude.{◌&&◌, if◌then◌else◌}
use Rattle.std.proofs.lemmas.Bool.{true≢false, false≢true}
use Rattle.psx_ins.specs.declared.ins.Ins.{Ins}
use Rattle.psx_ins.specs.declared.ins.Ins.TheVariants.{LW, SW, RFE}
use Rattle.psx_ins.specs.Words.{word as word_of, fits_fields}
use Rattle.psx_ins.specs.Decoding.{instruction_of}
use Rattle.psx_ins.proofs.Decodes.{decodes}
use Rattle.psx_base.specs.Memory.{Memory, word, is_mapped}
use Rattle.psx_base.specs.Addresses.{place}
use Rattle.psx_base.specs.PortAddresses.{port}
use Rattle.psx_base.specs.Registers.{register}
use Rattle.psx_cpu.specs.Processor.{Core, State, Bus}
use Rattle.psx_cpu.specs.DataAccess.{data_address, read_word}
use Rattle.psx_cpu.specs.Effect.{effect}
use Rattle.psx_cpu.specs.Traps.{trap_of}
use Rattle.psx_cpu.specs.Step.{Move, Goes, Reads, Writes, after, executed, step}
use Rattle.psx_cpu.proofs.KernelSide.{step_executes}
use Rattle.psx_flow.specs.Well.{enters_or_leaves}
use Rattle.psx_flow.specs.Run.{Run, Access, accessed}
use Rattle.psx_flow.specs.Plain.{Execution, went, seen_by, onward, plain_step, kernel_core}
use Rattle.psx_flow.specs.Reaches.{keeps_word, Lies, Stands, Keeps}

-- ---- the word at an address

-- the word of an instruction stands at an address
abbrev pub LiesAs : (ℕ → Bool) → Memory → ℕ → Ins → Type 0
LiesAs kept m at i = Lies kept m at (word_of i)

abbrev pub StandsAs : (ℕ → Bool) → Memory → ℕ → List Ins → Type 0
StandsAs kept m at [] = Unit {0}
StandsAs kept m at (i ∷ is) = LiesAs kept m at i × StandsAs kept m (at + 4) is

pub as_code : (kept : ℕ → Bool) (m : Memory) (at : ℕ) (is : List Ins) → Stands kept m at (map word_of is) → StandsAs kept m at is
as_code kept m at [] h = tt
as_code kept m at (i ∷ is) h = (h.0, as_code kept m (at + 4) is h.1)

pub both : (a b : Bool) → (a && b) ≡ true → (a ≡ true) × (b ≡ true)
both true b h = (refl, h)
both false b h = absurd (false≢true h)

mapped_word : (m : Memory) (a : ℕ) → is_mapped (place a) 4 ≡ true → read_word m a ≡ word m (place a)
unfolding read_word
mapped_word m a h = ap (λ b. if b then word m (place a) else 0) h

same_word : (kept : ℕ → Bool) (first : Memory) (s : Run) (p : ℕ) → Keeps kept first s → keeps_word kept p ≡ true → word s.bytes p ≡ word first p
unfolding word
same_word kept first s p k h =
    let a = both (kept p && kept (p + 1)) (kept (p + 2) && kept (p + 3)) h in
    let b = both (kept p) (kept (p + 1)) a.0 in
    let c = both (kept (p + 2)) (kept (p + 3)) a.1 in
    let e0 = k.bytes p b.0 in let e1 = k.bytes (p + 1) b.1 in let e2 = k.bytes (p + 2) c.0 in let e3 = k.bytes (p + 3) c.1 in
    λ i. e0 i + e1 i * 2 ^ 8 + e2 i * 2 ^ 16 + e3 i * 2 ^ 24

pub fetched : (kept : ℕ → Bool) (first : Memory) (s : Run) (at : ℕ) (i : Ins) → Keeps kept first s → LiesAs kept first at i → fits_fields i ≡ true → instruction_of (read_word s.bytes at) ≡ Some i
fetched kept first s at i k l fit =
    ap instruction_of (mapped_word s.bytes at l.mapped ∙ same_word kept first s (place at) k l.spared ∙ l.is) ∙ decodes i fit

-- ---- a step

gone : (b : Bool) (x y : Move) (next : Core) → went x ≡ Some next → went y ≡ Some next → went (if b then x else y) ≡ Some next
gone true x y next h g = h
gone false x y next h g = g

executes : (k : Core) (bus : Bus) (i : Ins) → enters_or_leaves i ≡ false → went (executed k bus i) ≡ Some (after k bus i)
executes k bus (LW s t imm) g = gone (port (place (data_address k.processor.context s imm))) (Reads (after k bus (LW s t imm)) (place (data_address k.processor.context s imm)) bus.value) (Goes (after k bus (LW s t imm))) _ refl refl
executes k bus (SW s t imm) g = gone (port (place (data_address k.processor.context s imm))) (Writes (after k bus (SW s t imm)) (place (data_address k.processor.context s imm)) (register k.processor.context.regs t.0)) (Goes (after k bus (SW s t imm))) _ refl refl
executes k bus RFE g = absurd (true≢false g)
executes k bus _ g = refl

-- a state on the kernel's side steps by the effect of the instruction at pc
pub core_steps : (x : State) (bus : Bus) (i : Ins) → x.context.pc % 4 ≡ 0 → x.cop0.sr % 2 ≡ 0 → instruction_of (read_word x.bytes x.context.pc) ≡ Some i → enters_or_leaves i ≡ false → trap_of i x.context ≡ None
    → went (step (kernel_core x) bus) ≡ Some (kernel_core (effect i x bus))
core_steps x bus i even off is g none = ap went (step_executes x.context x.cop0 x.bytes bus i even off is none) ∙ executes (kernel_core x) bus i g

-- an execution in a state, with the accesses so far, at a count
abbrev pub standing : State → List Access → ℕ → Execution
standing x q c = record { core = kernel_core x; seen = q; clock = c }

pub step_is : (bus : ℕ → Bus) (x : State) (q : List Access) (c : ℕ) (i : Ins) → x.context.pc % 4 ≡ 0 → x.cop0.sr % 2 ≡ 0 → instruction_of (read_word x.bytes x.context.pc) ≡ Some i → enters_or_leaves i ≡ false → trap_of i x.context ≡ None
    → plain_step bus (standing x q c) ≡ Some (standing (effect i x (bus c)) (accessed i x (bus c) q) (suc c))
step_is bus x q c i even off is g none =
    let b = standing x q c in
    ap (onward b (bus c)) (core_steps x (bus c) i even off is g none)
    ∙ ap (λ o. Some (standing (effect i x (bus c)) (seen_by o x (bus c) q) (suc c))) is
