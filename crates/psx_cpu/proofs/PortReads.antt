-- Which port a step reads: that of an LW on the kernel's side, and else none.
use Rattle.std.proofs.Common.{◌≡◌, ◌≢◌, ℕ, ◌/◌, ◌%◌, ◌^◌, ◌<◌, Bool, true, false, nat_eq, ◌||◌, ◌&&◌, Option, Some, None, refl, ap, ◌∙◌, arith}
use Rattle.std.specs.Prelude.{if◌then◌else◌}
use Rattle.std.proofs.lemmas.Bool.{eq-eqb, ne_eqb}
use Rattle.psx_ins.specs.declared.reg.Reg.{Reg}
use Rattle.psx_ins.specs.declared.ins.Ins.{Ins}
use Rattle.psx_ins.specs.declared.ins.Ins.TheVariants.{LW, SW}
use Rattle.psx_ins.specs.Forms.{reg}
use Rattle.psx_ins.specs.Decoding.{instruction_of, instruction_by}
use Rattle.psx_base.specs.Addresses.{top, low, user_main, scratchpad, place, user}
use Rattle.psx_base.specs.PortAddresses.{port}
use Rattle.psx_cpu.specs.Processor.{Core, Bus, Trap}
use Rattle.psx_cpu.specs.DataAccess.{data_address, read_word}
use Rattle.psx_cpu.specs.Traps.{DataUse, data_use, own_trap}
use Rattle.psx_cpu.specs.Exceptions.{takes_interrupt}
use Rattle.psx_cpu.specs.Guard.{guard_data, guard_word}
use Rattle.psx_cpu.specs.Step.{Move, Stops, entered, executed, performed, passed, decided, step, port_read}

-- no port of user memory
low_no_port : (p : ℕ) → p < 0x1F801070 → port p ≡ false
unfolding port
low_no_port p h = grind arith

in_main : (p : ℕ) → user_main p ≡ true → p < 0x1F801070
in_main p h = grind arith

in_scratchpad : (p : ℕ) → scratchpad p ≡ true → p < 0x1F801070
in_scratchpad p h = grind arith

by_segment : (x y z m s : Bool) (a b : ℕ) → (m ≡ true → a < b) → (s ≡ true → a < b) → (((x || (y || z)) && m) || ((x || y) && s)) ≡ true → (if x || (y || z) then a else 2 ^ 29) < b
by_segment x y z m s a b main scratch h = grind arith

user_no_port : (a : ℕ) → user a ≡ true → port (place a) ≡ false
unfolding user
user_no_port a h = low_no_port (place a) (by_segment (nat_eq (top a) 0) (nat_eq (top a) 4) (nat_eq (top a) 5) (user_main (low a)) (scratchpad (low a)) (low a) 0x1F801070 (in_main (low a)) (in_scratchpad (low a)) h)

-- whether an instruction is LW
abbrev is_load_word : Ins → Bool
is_load_word (LW s t imm) = true
is_load_word _ = false

abbrev decodes_load_word : Option Ins → Bool
decodes_load_word None = false
decodes_load_word (Some i) = is_load_word i

if_other : (b : Bool) (x y : Option Ins) → decodes_load_word (if b then x else y) ≡ (if b then decodes_load_word x else decodes_load_word y)
if_other true x y = refl
if_other false x y = refl

if_same : {A : Type 0} (b : Bool) (x : A) → (if b then x else x) ≡ x
if_same true x = refl
if_same false x = refl

-- any other op is another instruction, or none
by_other : (op : ℕ) (s t d : Reg) (n funct imm target : ℕ) → op ≢ 0x23 → decodes_load_word (instruction_by op s t d n funct imm target) ≡ false
by_other op s t d n funct imm target h = simp (if_other, if_same, ne_eqb op 0x23 h)

if_reads : (b : Bool) (x y : Move) → port_read (if b then x else y) ≡ (if b then port_read x else port_read y)
if_reads true x y = refl
if_reads false x y = refl

executed_none : (k : Core) (bus : Bus) (i : Ins) → is_load_word i ≡ false → port_read (executed k bus i) ≡ None
executed_none k bus (LW s t imm) h = absurd (cc)
executed_none k bus (SW s t imm) h = simp (if_reads, if_same)
executed_none k bus _ h = refl

performed_none : (k : Core) (bus : Bus) (i : Ins) (trap : Option Trap) → is_load_word i ≡ false → port_read (performed k bus i trap) ≡ None
performed_none k bus i (Some trap) h = refl
performed_none k bus i None h = executed_none k bus i h

data_none : (k : Core) (bus : Bus) (i : Ins) (u : Option DataUse) → is_load_word i ≡ false →
    port_read (guard_data Stops (entered k) (passed k bus) k.processor.context k.processor.latch i u) ≡ None
data_none k bus i None h = performed_none k bus i (own_trap i k.processor.context) h
data_none k bus i (Some u) h = simp (if_reads, if_same, performed_none k bus i (own_trap i k.processor.context) h)

-- an instruction other than LW reads none
decided_none : (k : Core) (bus : Bus) (i : Ins) → is_load_word i ≡ false → port_read (decided k bus i) ≡ None
decided_none k bus i h = simp (if_reads, if_same, data_none k bus i (data_use i k.processor.context) h)

guarded_none : (k : Core) (bus : Bus) (w : ℕ) (o : Option Ins) → decodes_load_word o ≡ false →
    port_read (guard_word Stops (entered k) (passed k bus) k.processor.context k.processor.latch w o) ≡ None
guarded_none k bus w None h = refl
guarded_none k bus w (Some i) h = decided_none k bus i h

-- the word of another op
pub other_none : (k : Core) (bus : Bus) → read_word k.bytes k.processor.context.pc / 2 ^ 26 ≢ 0x23 → port_read (step k bus) ≡ None
unfolding step instruction_of
other_none k bus h =
    let w : ℕ = read_word k.bytes k.processor.context.pc in
    let n : decodes_load_word (instruction_of w) ≡ false = by_other (w / 2 ^ 26) (reg (w / 2 ^ 21 % 32)) (reg (w / 2 ^ 16 % 32)) (reg (w / 2 ^ 11 % 32)) (w / 2 ^ 6 % 32) (w % 64) (w % 2 ^ 16) (w % 2 ^ 26) h in
    simp (if_reads, if_same, guarded_none k bus w (instruction_of w) n)

pub interrupt_none : (k : Core) (bus : Bus) → takes_interrupt k.processor bus.line ≡ true → port_read (step k bus) ≡ None
unfolding step
interrupt_none k bus h = rw h refl

pub unaligned_none : (k : Core) (bus : Bus) → k.processor.context.pc % 4 ≢ 0 → port_read (step k bus) ≡ None
unfolding step
unaligned_none k bus h = simp (if_reads, if_same, ne_eqb (k.processor.context.pc % 4) 0 h)

-- the word of LW
load_word_of : (w : ℕ) → w / 2 ^ 26 ≡ 0x23 → instruction_of w ≡ Some (LW (reg (w / 2 ^ 21 % 32)) (reg (w / 2 ^ 16 % 32)) (w % 2 ^ 16))
unfolding instruction_of
load_word_of w h = ap (λ op. instruction_by op (reg (w / 2 ^ 21 % 32)) (reg (w / 2 ^ 16 % 32)) (reg (w / 2 ^ 11 % 32)) (w / 2 ^ 6 % 32) (w % 64) (w % 2 ^ 16) (w % 2 ^ 26)) h

-- what LW reads
load_word_reads : (k : Core) (bus : Bus) (s t : Reg) (imm : ℕ) →
    port_read (decided k bus (LW s t imm))
    ≡ (if nat_eq (data_address k.processor.context s imm % 4) 0
    then (if k.processor.latch || user (data_address k.processor.context s imm)
    then (if port (place (data_address k.processor.context s imm)) then Some (place (data_address k.processor.context s imm)) else None)
    else None)
    else None)
load_word_reads k bus s t imm = simp if_reads

neither : (u p : Bool) (x : Option ℕ) → (u ≡ true → p ≡ false) → (if u then (if p then x else None) else None) ≡ None
neither true p x h = rw (h refl) refl
neither false p x h = refl

-- the guard keeps the user's LW from ports
load_word_none : (k : Core) (bus : Bus) (s t : Reg) (imm : ℕ) → k.processor.latch ≡ false → port_read (decided k bus (LW s t imm)) ≡ None
load_word_none k bus s t imm h =
    let a : ℕ = data_address k.processor.context s imm in
    load_word_reads k bus s t imm ∙ simp (h, neither (user a) (port (place a)) (Some (place a)) (user_no_port a), if_same)

user_decided_none : (k : Core) (bus : Bus) (i : Ins) → k.processor.latch ≡ false → port_read (decided k bus i) ≡ None
user_decided_none k bus (LW s t imm) h = load_word_none k bus s t imm h
user_decided_none k bus i h = decided_none k bus i refl

user_guarded_none : (k : Core) (bus : Bus) (w : ℕ) (o : Option Ins) → k.processor.latch ≡ false →
    port_read (guard_word Stops (entered k) (passed k bus) k.processor.context k.processor.latch w o) ≡ None
user_guarded_none k bus w None h = refl
user_guarded_none k bus w (Some i) h = user_decided_none k bus i h

pub user_none : (k : Core) (bus : Bus) → k.processor.latch ≡ false → port_read (step k bus) ≡ None
unfolding step
user_none k bus h =
    let w : ℕ = read_word k.bytes k.processor.context.pc in
    simp (if_reads, if_same, user_guarded_none k bus w (instruction_of w) h)

-- LW on the kernel's side
pub load_reads : (k : Core) (bus : Bus) → k.processor.latch ≡ true → takes_interrupt k.processor bus.line ≡ false →
    k.processor.context.pc % 4 ≡ 0 → read_word k.bytes k.processor.context.pc / 2 ^ 26 ≡ 0x23 →
    let at : ℕ = data_address k.processor.context (reg (read_word k.bytes k.processor.context.pc / 2 ^ 21 % 32)) (read_word k.bytes k.processor.context.pc % 2 ^ 16) in
    port_read (step k bus) ≡ (if nat_eq (at % 4) 0 then (if port (place at) then Some (place at) else None) else None)
unfolding step
load_reads k bus latch no_interrupt aligned op =
    let w : ℕ = read_word k.bytes k.processor.context.pc in
    simp (no_interrupt, eq-eqb (k.processor.context.pc % 4) 0 aligned, latch, load_word_of w op, if_reads)

pub ruleset port_reads = (user_none, interrupt_none, unaligned_none, other_none, load_reads)
