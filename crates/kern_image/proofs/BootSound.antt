-- A walk over the boot code's instructions is a boot, step by step.
use Rattle.std.proofs.Common.{◌≡◌, ℕ, suc, ◌+◌, ◌*◌, ◌%◌, ◌<◌, ◌≤◌, List, [], ◌∷◌, Bool, true, false, None, Some, refl, ap, sym, ◌∙◌, subst, arith, ⊎_elim}
use Rattle.std.specs.Prelude.{nat_eq, not, slice_index, if◌then◌else◌, ◌||◌}
use Rattle.std.proofs.lemmas.Bool.{and_parts, or_cases, eqb-true, ltb-true, eq-eqb}
use Rattle.psx_ins.specs.declared.ins.Ins.{Ins}
use Rattle.psx_ins.specs.declared.ins.Ins.TheVariants.{LW, SW, RFE}
use Rattle.psx_ins.specs.Forms.{reg}
use Rattle.psx_ins.specs.Decoding.{instruction_of}
use Rattle.psx_base.specs.declared.ports.TheConstants.{START_PC, START_GP, START_SP, START_THREADS, START_EVENTS}
use Rattle.psx_base.specs.Addresses.{place, user_main, scratchpad}
use Rattle.psx_base.specs.PortAddresses.{port}
use Rattle.psx_base.specs.Memory.{Memory, put_word, is_writable}
use Rattle.psx_base.specs.Registers.{register}
use Rattle.psx_base.specs.Context.{Context, settle}
use Rattle.psx_ram.specs.Words.{word_at}
use Rattle.psx_ram.specs.Apart.{apart}
use Rattle.psx_ram.proofs.Laws.{byte-put_word_apart}
use Rattle.psx_cpu.specs.Processor.{Core, Cop0, Bus}
use Rattle.psx_cpu.specs.DataAccess.{data_address, read_word, load_word, write_word}
use Rattle.psx_cpu.specs.Traps.{data_use, misaligned, use_trap, own_trap}
use Rattle.psx_cpu.specs.Changes.{forth, branch_target, through_slot}
use Rattle.psx_cpu.specs.Exceptions.{left_sr}
use Rattle.kern_layout.specs.Stands.{Stands}
use Rattle.psx_cpu.specs.Step.{Move, Goes, Reads, Writes, executed, step}
use Rattle.psx_ports.specs.History.{start_answer}
use Rattle.psx_board.specs.Machine.{given}
use Rattle.abs_run.specs.Serves.{Boots, BootMakes, is_start_port}
use Rattle.abs_run.specs.Accepted.{opening}
use Rattle.kern_image.specs.declared.boot.TheConstants.{BOOT}
use Rattle.kern_image.proofs.BootWalk.{Setting, Act, Lui, Add, Or, ToSr, Jump, Differ, Load, Ask, Store, ins_of, IsAt, IsRom, IsKernel, IsAsked, loaded, Next, Does, is_there, Only, Walk, more, core, Base, IsBoot}
use Rattle.kern_image.proofs.BootStep.{step_is, rom_place, kernel_place, rom_no_port, kernel_no_port, kernel_writable, rom_word_is}

-- ---- a store to the kernel's memory

shared-above : (a : ℕ) → (user_main a || scratchpad a) ≡ true → 0x10000 ≤ a
shared-above a h = grind arith

apart_from : (p a : ℕ) → p % 4 ≡ 0 → p < 0x10000 → 0x10000 ≤ a → apart p 4 a 1 ≡ true
apart_from p a al within up = grind arith

pub base-put : (g : Setting) (m : Memory) (p v : ℕ) → p % 4 ≡ 0 → p < 0x10000 → Base g m → Base g (put_word m p v)
base-put g m p v al within b = record {
  user = λ a h. byte-put_word_apart m p v a (apart_from p a al within (shared-above a h)) ∙ b.user a h;
  rom = λ i. byte-put_word_apart m p v (0x1FC00000 + i) (apart_from p (0x1FC00000 + i) al within (omega arith)) ∙ b.rom i;
}

-- ---- one step

asked_port : (p : ℕ) → is_start_port p ≡ true → port p ≡ true
unfolding port
asked_port p h =
    ⊎_elim (λ q. ap port (eqb-true p START_PC q)) (λ h. ⊎_elim (λ q. ap port (eqb-true p START_GP q)) (λ h. ⊎_elim (λ q. ap port (eqb-true p START_SP q)) (λ h. ⊎_elim (λ q. ap port (eqb-true p START_THREADS q))
    (λ q. ap port (eqb-true p START_EVENTS q)) (or_cases _ _ h)) (or_cases _ _ h)) (or_cases _ _ h)) (or_cases _ _ h)

loads_rom : (g : Setting) (m : Memory) (a i v : ℕ) → IsRom a i → Base g m → load_word m a v ≡ word_at g.rom i
unfolding load_word
loads_rom g m a i v r b =
    ap (λ q. load_word m q v) r.is
    ∙ ap (λ p. if port p then v else read_word m (0xBFC00000 + i)) (rom_place i r.within)
    ∙ ap (λ t. if t then v else read_word m (0xBFC00000 + i)) (rom_no_port i)
    ∙ rom_word_is g.rom m i b.rom r.aligned r.within

loads_answer : (m : Memory) (a v : ℕ) → port (place a) ≡ true → load_word m a v ≡ v
unfolding load_word
loads_answer m a v h = ap (λ t. if t then v else read_word m a) h

stores_word : (m : Memory) (a p v : ℕ) → IsKernel a p → write_word m a v ≡ put_word m p v
unfolding write_word
stores_word m a p v k =
    ap (λ q. write_word m q v) k.is
    ∙ ap (λ q. if is_writable q then put_word m q v else m) (kernel_place p k.within)
    ∙ ap (λ t. if t then put_word m p v else m) (kernel_writable p k.within)

module _ (g : Setting) where
  abbrev B : ℕ → Core → Type 0
  B = Boots g.rom g.exe g.sizes

  abbrev Made : ℕ → Move → Type 0
  Made n move = BootMakes g.rom g.exe g.sizes n move (B n)

  loads : (c : Context) (z : Cop0) (m : Memory) (bus : Bus) (s t imm i n : ℕ) → IsRom (data_address c (reg s) imm) i → Base g m → B n (core (loaded c t (word_at g.rom i)) z m)
      → Made n (executed (core c z m) bus (LW (reg s) (reg t) imm))
  loads c z m bus s t imm i n r b h =
      let a = data_address c (reg s) imm in
      let k = core (loaded c t (load_word m a bus.value)) z m in
      let e : port (place a) ≡ false = ap port (ap place r.is ∙ rom_place i r.within) ∙ rom_no_port i in
      subst (λ (t : Bool). Made n (if t then Reads k (place a) bus.value else Goes k)) (sym e)
      (subst (λ w. B n (core (loaded c t w) z m)) (sym (loads_rom g m a i bus.value r b)) h)

  asks : (c : Context) (z : Cop0) (m : Memory) (bus : Bus) (s t imm n : ℕ) → IsAsked (data_address c (reg s) imm) → B n (core (loaded c t (start_answer (given g.exe g.sizes) (place (data_address c (reg s) imm)) 0)) z m)
      → Made n (executed (core c z m) bus (LW (reg s) (reg t) imm))
  asks c z m bus s t imm n r h =
      let a = data_address c (reg s) imm in
      let k = core (loaded c t (load_word m a bus.value)) z m in
      let e : port (place a) ≡ true = asked_port (place a) r.asked in
      subst (λ (t : Bool). Made n (if t then Reads k (place a) bus.value else Goes k)) (sym e)
      (r.asked, λ is. subst (λ w. B n (core (loaded c t w) z m)) (sym (loads_answer m a bus.value e ∙ is)) h)

  stores : (c : Context) (z : Cop0) (m : Memory) (bus : Bus) (s t imm p n : ℕ) → IsKernel (data_address c (reg s) imm) p → B n (core (forth (settle c)) z (put_word m p (register c.regs t)))
      → Made n (executed (core c z m) bus (SW (reg s) (reg t) imm))
  stores c z m bus s t imm p n r h =
      let a = data_address c (reg s) imm in
      let v = register c.regs t in
      let k = core (forth (settle c)) z (write_word m a v) in
      let e : port (place a) ≡ false = ap port (ap place r.is ∙ kernel_place p r.within) ∙ kernel_no_port p r.within in
      subst (λ (t : Bool). Made n (if t then Writes k (place a) v else Goes k)) (sym e)
      (subst (λ w. B n (core (forth (settle c)) z w)) (sym (stores_word m a p v r)) h)

  -- a step of each kind, as the walk has it
  made : (a : Act) (c : Context) (z : Cop0) (m : Memory) (bus : Bus) (n : ℕ) (on : Next) → Base g m → Does g a c z m on → ((c' : Context) (z' : Cop0) (m' : Memory) → Base g m' → on c' z' m' → B n (core c' z' m'))
      → Made n (executed (core c z m) bus (ins_of a))
  made (Lui t imm) c z m bus n on b h f = f _ z m b h
  made (Add s t imm) c z m bus n on b h f = f _ z m b h
  made (Or s t d) c z m bus n on b h f = f _ z m b h
  made (ToSr t) c z m bus n on b h f = f _ _ m b h
  made (Jump s) c z m bus n on b h f = f _ z m b h
  made (Differ s t imm) c z m bus n on b h f =
      subst (λ (q : Bool). B n (core (through_slot (settle c) (branch_target c (not q) imm)) z m)) (sym h.1) (f _ z m b h.2)
  made (Load s t imm) c z m bus n on b h f = loads c z m bus s t imm h.0 n h.1 b (f _ z m b h.2)
  made (Ask s t imm) c z m bus n on b h f = asks c z m bus s t imm n h.0 (f _ z m b h.1)
  made (Store s t imm) c z m bus n on b h f = stores c z m bus s t imm h.0 n h.1 (f _ z _ (base-put g m h.0 (register c.regs t) h.1.aligned h.1.within b) h.2)

  -- none of them raises an exception
  none_own : (a : Act) (c : Context) → own_trap (ins_of a) c ≡ None
  none_own (Lui t imm) c = refl
  none_own (Add s t imm) c = refl
  none_own (Or s t d) c = refl
  none_own (ToSr t) c = refl
  none_own (Jump s) c = refl
  none_own (Differ s t imm) c = refl
  none_own (Load s t imm) c = refl
  none_own (Ask s t imm) c = refl
  none_own (Store s t imm) c = refl

  aligned_none : (at : ℕ) (write : Bool) → at % 4 ≡ 0 → use_trap (Some (record { at = at; stores = write; multiple = Some 4 })) ≡ None
  aligned_none at write h = ap (λ (b : Bool). if b then None else Some (misaligned (record { at = at; stores = write; multiple = Some 4 }))) (eq-eqb (at % 4) 0 h)

  rom_aligned : (a i : ℕ) → IsRom a i → a % 4 ≡ 0
  rom_aligned a i r = omega (arith, r.is, r.aligned)

  kernel_aligned : (a p : ℕ) → IsKernel a p → a % 4 ≡ 0
  kernel_aligned a p r = omega (arith, r.is, r.aligned)

  none_used : (a : Act) (c : Context) (z : Cop0) (m : Memory) (on : Next) → Does g a c z m on → use_trap (data_use (ins_of a) c) ≡ None
  none_used (Lui t imm) c z m on h = refl
  none_used (Add s t imm) c z m on h = refl
  none_used (Or s t d) c z m on h = refl
  none_used (ToSr t) c z m on h = refl
  none_used (Jump s) c z m on h = refl
  none_used (Differ s t imm) c z m on h = refl
  none_used (Load s t imm) c z m on h = aligned_none _ false (rom_aligned _ h.0 h.1)
  none_used (Ask s t imm) c z m on h = aligned_none _ false h.0.aligned
  none_used (Store s t imm) c z m on h = aligned_none _ true (kernel_aligned _ h.0 h.1)

  -- the instruction at pc is the boot code's
  fetched : (k : ℕ) (i : Ins) (c : Context) (m : Memory) → IsBoot g → Base g m → k < 48 → instruction_of (slice_index BOOT k) ≡ Some i → c.pc ≡ 0xBFC00000 + 4 * k → instruction_of (read_word m c.pc) ≡ Some i
  fetched k i c m w b few is at =
      ap instruction_of (ap (read_word m) at ∙ rom_word_is g.rom m (4 * k) b.rom (omega arith) (omega arith) ∙ w.words k few) ∙ is

  only : (b : Bool) (P : Type 0) → Only b P → (b ≡ true) × P
  only true P h = (refl, h)
  only false P h = absurd h

  stepped : (k : ℕ) (a : Act) (c : Context) (z : Cop0) (m : Memory) (bus : Bus) (on : Next) → IsBoot g → Base g m → k < 48 → instruction_of (slice_index BOOT k) ≡ Some (ins_of a) → is_there k c z ≡ true → Does g a c z m on
      → step (core c z m) bus ≡ executed (core c z m) bus (ins_of a)
  stepped k a c z m bus on w b few is there h =
      let p = and_parts (nat_eq c.pc (0xBFC00000 + 4 * k)) (nat_eq (z.sr % 2) 0) there in
      let at = eqb-true c.pc (0xBFC00000 + 4 * k) p.0 in
      step_is c z m bus (ins_of a) (omega (arith, at)) (eqb-true (z.sr % 2) 0 p.1) (fetched k (ins_of a) c m w b few is at) (none_used a c z m on h) (none_own a c)

  -- a walk takes a step for each instruction
  pub walks : (k : ℕ) (acts : List Act) (c : Context) (z : Cop0) (m : Memory) (n : ℕ) (on : Next) → IsBoot g → IsAt k acts → Base g m → Walk g k acts c z m on
      → ((c' : Context) (z' : Cop0) (m' : Memory) → Base g m' → on c' z' m' → B n (core c' z' m')) → B (more acts n) (core c z m)
  walks k [] c z m n on w is b h f = f c z m b h
  walks k (a ∷ rest) c z m n on w is b h f =
      let next : Next = λ c' z' m'. Walk g (suc k) rest c' z' m' on in
      let o = only (is_there k c z) (Does g a c z m next) h in (
        b.user,
        λ bus small. subst (Made (more rest n)) (sym (stepped k a c z m bus next w b (ltb-true k 48 is.0) is.1 o.0 o.1))
            (made a c z m bus (more rest n) next b o.1 (λ c' z' m' b' r. walks (suc k) rest c' z' m' n on w is.2 b' r f)),
      )

  -- RFE ends it
  pub ends : (k : ℕ) (c : Context) (z : Cop0) (m : Memory) → IsBoot g → k < 48 → instruction_of (slice_index BOOT k) ≡ Some RFE → is_there k c z ≡ true → Base g m
      → Stands (record { context = forth (settle c); sr = left_sr z.sr; latch = false }) m (opening g.exe g.sizes) g.rom → B 1 (core c z m)
  ends k c z m w few is there b h =
      let p = and_parts (nat_eq c.pc (0xBFC00000 + 4 * k)) (nat_eq (z.sr % 2) 0) there in
      let at = eqb-true c.pc (0xBFC00000 + 4 * k) p.0 in
      (b.user, λ bus small. subst (Made 0) (sym (step_is c z m bus RFE (omega (arith, at)) (eqb-true (z.sr % 2) 0 p.1) (fetched k RFE c m w b few is at) refl refl)) h)
