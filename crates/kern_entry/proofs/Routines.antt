-- The stops, and the routines.
use Rattle.psx_flow.proofs.Kit.{◌≡◌, ℕ, suc, ◌+◌, ◌*◌, ◌%◌, ◌^◌, ◌<◌, ◌≤◌, true, false, refl, ap, ◌∙◌, subst, arith, Memory, word, Registers, Cop0, Run, Access, PortWrite, Meets, calls, kernel_words, fair, start, put_word, Sym, counted, ended}
use Rattle.std.proofs.Common.{Bool, zero, List, [], ◌∷◌, ◌/◌}
use Rattle.std.specs.Prelude.{if◌then◌else◌, bit_and}
use Rattle.psx_base.specs.declared.ports.TheConstants.{HALT, HALT_A, HALT_B, HALT_C}
use Rattle.psx_cpu.specs.Exceptions.{cause_of}
use Rattle.psx_flow.specs.Told.{ports}
use Rattle.psx_flow.proofs.Log.{KernelWord}
use Rattle.kern_layout.specs.Fields.{Block}
use Rattle.kern_layout.specs.Contexts.{saved, saved_sr_of}
use Rattle.kern_entry.specs.declared.places.TheConstants.{UNSERVED, EXCEPTION, EXIT, DONE, SYSCALLS, DELIVER, BEHIND, BAD_POINTER, BAD_THREAD, DEEP, BAD_RETURN}
use Rattle.kern_entry.specs.declared.calls.TheConstants.{EXIT_NODES}
use Rattle.kern_entry.specs.declared.stops.TheConstants.{UNSERVED_NODES, EXCEPTION_NODES, DONE_NODES, BAD_POINTER_NODES, BAD_THREAD_NODES, DEEP_NODES, BAD_RETURN_NODES}
use Rattle.kern_entry.specs.declared.sys.TheConstants.{SYSCALLS_NODES}
use Rattle.kern_entry.specs.EntryWords.{tree}
use Rattle.kern_entry.specs.Made.{Spared}
use Rattle.kern_entry.proofs.WorkArea.{held, entered_on, AreaHolds, AreaEntered, holds_on, applied_spared, spared_then, area_put, area_sr, area_r31}
use Rattle.kern_entry.proofs.Choosing.{code_is}

-- the last access writes a code to the halt port, behind these to ports
pub record Stops (code : ℕ) (writes : List Access) (m : Memory) (most : ℕ) (e : Run) : Type 0 where
  pub rest : List Access
  pub seen : e.seen ≡ PortWrite HALT code ∷ rest
  pub told : ports rest ≡ writes
  pub spared : Spared m e.bytes
  pub within : e.steps ≤ most

-- the program's return comes to exit with its answer
pub record Exits (value : ℕ) (c : Registers) (pc : ℕ) (on : Bool) (m : Memory) (p : List Access) (most to : ℕ) (e : Run) : Type 0 where
  pub to_is : to ≡ EXIT
  pub holds : AreaHolds c pc on m p most e
  pub value_is : e.regs.r4 ≡ value

pub exit_meets : (c : Registers) (pc : ℕ) (on : Bool) (m : Memory) (p : List Access) (most more v : ℕ) (s : Run) → AreaHolds c pc on m p most s → s.regs.r4 ≡ v → most + 10 ≤ more
    → Meets kernel_words (calls kernel_words []) (tree EXIT_NODES) EXIT (λ e. Stops 1 (PortWrite HALT_A v ∷ p) m more e) (λ _ _. ⊥) s
exit_meets c pc on m p most more v s h e few =
    let within = h.within in
    start (calls kernel_words []) (fair kernel_words []) (tree EXIT_NODES) EXIT (λ e. Stops 1 (PortWrite HALT_A v ∷ p) m more e) (λ _ _. ⊥) s
    (record { rest = _; seen = refl; told = (λ i. PortWrite HALT_A (e i) ∷ h.ports i); spared = h.spared; within = omega arith })

module _ (c : Registers) (z : Cop0) (on : Bool) (m : Memory) (p : List Access) (most more : ℕ) (s : Run) (h : AreaEntered c z on m p most s) (few : most + 30 ≤ more) where
  pub done_meets : Meets kernel_words (calls kernel_words []) (tree DONE_NODES) DONE (λ _. ⊥) (λ to e. Exits c.r2 c z.epc on m p more to e) s
  done_meets =
      let within = h.holds.within in
      start (calls kernel_words []) (fair kernel_words []) (tree DONE_NODES) DONE (λ _. ⊥) (λ to e. Exits c.r2 c z.epc on m p more to e) s
      (record { to_is = refl; holds = holds_on c z.epc on m p most more s h.holds _ _ _ _ _ refl (omega arith); value_is = h.r2 })

  pub unserved_meets : (table : ℕ) → s.regs.r10 ≡ table
      → Meets kernel_words (calls kernel_words []) (tree UNSERVED_NODES) UNSERVED (λ e. Stops 3 (PortWrite HALT_C c.r31 ∷ PortWrite HALT_B c.r9 ∷ PortWrite HALT_A table ∷ p) m more e) (λ _ _. ⊥) s
  unserved_meets table e =
      let within = h.holds.within in
      start (calls kernel_words []) (fair kernel_words []) (tree UNSERVED_NODES) UNSERVED (λ e. Stops 3 (PortWrite HALT_C c.r31 ∷ PortWrite HALT_B c.r9 ∷ PortWrite HALT_A table ∷ p) m more e) (λ _ _. ⊥) s
      (record { rest = _; seen = refl; told = (λ i. PortWrite HALT_C (h.r31 i) ∷ PortWrite HALT_B (h.r9 i) ∷ PortWrite HALT_A (e i) ∷ h.holds.ports i); spared = h.holds.spared; within = omega arith })

  pub exception_meets : (code : ℕ) (slot : Bool) → z.cause ≡ cause_of code slot → code < 32
      → Meets kernel_words (calls kernel_words []) (tree EXCEPTION_NODES) EXCEPTION (λ e. Stops 2 (PortWrite HALT_B z.epc ∷ PortWrite HALT_A code ∷ p) m more e) (λ _ _. ⊥) s
  exception_meets code slot cause small =
      let within = h.holds.within in
      let coded : (line : Bool) → (s.cop0.cause + (if line then 2 ^ 10 else 0)) * 2 ^ 25 % 2 ^ 32 / 2 ^ 27 ≡ code = λ line.
      ap (λ x. (x.cause + (if line then 2 ^ 10 else 0)) * 2 ^ 25 % 2 ^ 32 / 2 ^ 27) h.cop0 ∙ ap (λ x. (x + (if line then 2 ^ 10 else 0)) * 2 ^ 25 % 2 ^ 32 / 2 ^ 27) cause ∙ code_is code slot line small in
      start (calls kernel_words []) (fair kernel_words []) (tree EXCEPTION_NODES) EXCEPTION (λ e. Stops 2 (PortWrite HALT_B z.epc ∷ PortWrite HALT_A code ∷ p) m more e) (λ _ _. ⊥) s
      (λ line. record { rest = _; seen = refl; told = (λ i. PortWrite HALT_B ((h.cop0 i).epc) ∷ PortWrite HALT_A (coded line i) ∷ h.holds.ports i); spared = h.holds.spared; within = omega arith })

-- a frame too many
pub deep_meets : (m : Memory) (p : List Access) (v more : ℕ) (s : Run) → Spared m s.bytes → ports s.seen ≡ p → s.regs.r31 ≡ v → s.steps + 10 ≤ more → Meets kernel_words (calls kernel_words []) (tree DEEP_NODES) DEEP (λ e. Stops 6 (PortWrite HALT_A v ∷ p) m more e) (λ _ _. ⊥) s
deep_meets m p v more s spared told e few =
    start (calls kernel_words []) (fair kernel_words []) (tree DEEP_NODES) DEEP (λ e. Stops 6 (PortWrite HALT_A v ∷ p) m more e) (λ _ _. ⊥) s
    (record { rest = _; seen = refl; told = (λ i. PortWrite HALT_A (e i) ∷ told i); spared = spared; within = omega arith })

-- from a context in the work area
module _ (c : Registers) (pc : ℕ) (on : Bool) (m : Memory) (p : List Access) (most more : ℕ) (s : Run) (h : AreaHolds c pc on m p most s) (few : most + 30 ≤ more) where
  -- an address that isn't user memory
  pub bad_pointer_meets : (v : ℕ) → s.regs.r8 ≡ v → Meets kernel_words (calls kernel_words []) (tree BAD_POINTER_NODES) BAD_POINTER (λ e. Stops 4 (PortWrite HALT_B c.r31 ∷ PortWrite HALT_A v ∷ p) m more e) (λ _ _. ⊥) s
  bad_pointer_meets v r8 =
      let within = h.within in
      let r31 = area_r31 s.bytes c pc on h.area in
      start (calls kernel_words []) (fair kernel_words []) (tree BAD_POINTER_NODES) BAD_POINTER (λ e. Stops 4 (PortWrite HALT_B c.r31 ∷ PortWrite HALT_A v ∷ p) m more e) (λ _ _. ⊥) s
      (record { rest = _; seen = refl; told = (λ i. PortWrite HALT_B (r31 i) ∷ PortWrite HALT_A (r8 i) ∷ h.ports i); spared = h.spared; within = omega arith })

  -- a handle that names no thread
  pub bad_thread_meets : (v : ℕ) → s.regs.r8 ≡ v → Meets kernel_words (calls kernel_words []) (tree BAD_THREAD_NODES) BAD_THREAD (λ e. Stops 5 (PortWrite HALT_B c.r31 ∷ PortWrite HALT_A v ∷ p) m more e) (λ _ _. ⊥) s
  bad_thread_meets v r8 =
      let within = h.within in
      let r31 = area_r31 s.bytes c pc on h.area in
      start (calls kernel_words []) (fair kernel_words []) (tree BAD_THREAD_NODES) BAD_THREAD (λ e. Stops 5 (PortWrite HALT_B c.r31 ∷ PortWrite HALT_A v ∷ p) m more e) (λ _ _. ⊥) s
      (record { rest = _; seen = refl; told = (λ i. PortWrite HALT_B (r31 i) ∷ PortWrite HALT_A (r8 i) ∷ h.ports i); spared = h.spared; within = omega arith })

  -- the return of a function that the kernel hasn't called
  pub bad_return_meets : Meets kernel_words (calls kernel_words []) (tree BAD_RETURN_NODES) BAD_RETURN (λ e. Stops 7 (PortWrite HALT_A c.r31 ∷ p) m more e) (λ _ _. ⊥) s
  bad_return_meets =
      let within = h.within in
      let r31 = area_r31 s.bytes c pc on h.area in
      start (calls kernel_words []) (fair kernel_words []) (tree BAD_RETURN_NODES) BAD_RETURN (λ e. Stops 7 (PortWrite HALT_A c.r31 ∷ p) m more e) (λ _ _. ⊥) s
      (record { rest = _; seen = refl; told = (λ i. PortWrite HALT_A (r31 i) ∷ h.ports i); spared = h.spared; within = omega arith })

-- ---- the SYSCALLs, by r4

-- 1 where interrupts were on
abbrev pub was_on : Bool → ℕ
was_on on = if on then 1 else 0

abbrev pub SysGoes : (number : ℕ) (c : Registers) (z : Cop0) (on : Bool) (m : Memory) (p : List Access) (most to : ℕ) (e : Run) → Type 0
SysGoes zero c z on m p most to e = (to ≡ BEHIND) × AreaHolds c z.epc on m p most e
SysGoes (suc zero) c z on m p most to e = (to ≡ BEHIND) × AreaHolds (record c { r2 = was_on on }) z.epc false m p most e
SysGoes (suc (suc zero)) c z on m p most to e = (to ≡ BEHIND) × AreaHolds c z.epc true m p most e
SysGoes (suc (suc (suc zero))) c z on m p most to e = ⊥
SysGoes (suc (suc (suc (suc n)))) c z on m p most to e = (to ≡ DELIVER) × AreaEntered c z on m p most e

abbrev pub SysStops : (number : ℕ) (epc : ℕ) (m : Memory) (p : List Access) (most : ℕ) (e : Run) → Type 0
SysStops (suc (suc (suc zero))) epc m p most e = Stops 3 (PortWrite HALT_C epc ∷ PortWrite HALT_B 3 ∷ PortWrite HALT_A 3 ∷ p) m most e
SysStops _ epc m p most e = ⊥

sr_bit : (on : Bool) → bit_and (saved_sr_of on / 2 ^ 2) 1 ≡ was_on on
sr_bit true = refl
sr_bit false = refl

module _ (c : Registers) (z : Cop0) (on : Bool) (m : Memory) (p : List Access) (most more : ℕ) (s : Run) (h : AreaEntered c z on m p most s) (few : most + 30 ≤ more) where
  abbrev SysMeets : ℕ → Type 0
  SysMeets n = Meets kernel_words (calls kernel_words []) (tree SYSCALLS_NODES) SYSCALLS (λ e. SysStops n z.epc m p more e) (λ to e. SysGoes n c z on m p more to e) s

  abbrev SysAsks : ℕ → Type 0
  SysAsks n = Sym (calls kernel_words []) (tree SYSCALLS_NODES) SYSCALLS (ended (λ e. SysStops n z.epc m p more e)) (λ to e. SysGoes n c z on m p more to e) s.regs s.cop0 s.bytes [] s.seen (counted s)

  sys_start : (n : ℕ) → SysAsks n → SysMeets n
  sys_start n = start (calls kernel_words []) (fair kernel_words []) (tree SYSCALLS_NODES) SYSCALLS (λ e. SysStops n z.epc m p more e) (λ to e. SysGoes n c z on m p more to e) s

  -- SYSCALL 1: the answer and SR are stored
  off_area : (x : ℕ) → x ≡ was_on on → Block (word (put_word (put_word s.bytes 0xEB10 x) 0xEB94 0x400)) 0xEB00 (saved (held (record c { r2 = was_on on }) z.epc false))
  off_area x e =
      let n : Memory = put_word s.bytes 0xEB10 x in
      let P : ℕ → Type 0 = λ v. Block (word (put_word n 0xEB94 0x400)) 0xEB00 (saved (held (record c { r2 = v }) z.epc false)) in
      subst P e (area_put n 0x94 0x400 (saved (held (record c { r2 = x }) z.epc on)) _ refl refl refl (area_put s.bytes 0x10 x (saved (held c z.epc on)) _ refl refl refl h.holds.area))

  pub sys_meets : (n : ℕ) → s.regs.r4 ≡ n → SysMeets n
  sys_meets zero e =
      let within = h.holds.within in
      sys_start zero (λ _. (refl, holds_on c z.epc on m p most more s h.holds _ _ _ _ _ refl (omega arith)), λ ne. absurd (ne e))
  sys_meets (suc zero) e =
      let within = h.holds.within in
      let x : ℕ = bit_and (word s.bytes 0xEB94 / 2 ^ 2) 1 in
      sys_start 1 (
        λ y. absurd (omega (arith, e, y)),
        λ _. (
          λ _. (
            refl,
            record {
              area = off_area x (ap (λ v. bit_and (v / 2 ^ 2) 1) (area_sr s.bytes c z.epc on h.holds.area) ∙ sr_bit on);
              spared = spared_then m s.bytes _ h.holds.spared (applied_spared s.bytes (KernelWord 0xEB94 0x400 ∷ KernelWord 0xEB10 x ∷ []) refl);
              ports = h.holds.ports;
              within = omega arith;
            },
          ),
          λ ne. absurd (ne e),
        ),
      )
  sys_meets (suc (suc zero)) e =
      let within = h.holds.within in
      sys_start 2 (
        λ y. absurd (omega (arith, e, y)),
        λ _. (
          λ y. absurd (omega (arith, e, y)),
          λ _. (
            λ _. (
              refl,
              record {
                area = area_put s.bytes 0x94 0x404 (saved (held c z.epc on)) _ refl refl refl h.holds.area;
                spared = spared_then m s.bytes _ h.holds.spared (applied_spared s.bytes (KernelWord 0xEB94 0x404 ∷ []) refl);
                ports = h.holds.ports;
                within = omega arith;
              },
            ),
            λ ne. absurd (ne e),
          ),
        ),
      )
  sys_meets (suc (suc (suc zero))) e =
      let within = h.holds.within in
      sys_start 3 (
        λ y. absurd (omega (arith, e, y)),
        λ _. (
          λ y. absurd (omega (arith, e, y)),
          λ _. (
            λ y. absurd (omega (arith, e, y)),
            λ _. (
              λ ne. absurd (ne e),
              λ _. record {
                rest = _;
                seen = refl;
                told = (λ i. PortWrite HALT_C ((h.cop0 i).epc) ∷ PortWrite HALT_B (e i) ∷ PortWrite HALT_A 3 ∷ h.holds.ports i);
                spared = h.holds.spared;
                within = omega arith;
              },
            ),
          ),
        ),
      )
  sys_meets (suc (suc (suc (suc n)))) e =
      let within = h.holds.within in
      sys_start (suc (suc (suc (suc n)))) (
        λ y. absurd (omega (arith, e, y)),
        λ _. (
          λ y. absurd (omega (arith, e, y)),
          λ _. (
            λ y. absurd (omega (arith, e, y)),
            λ _. (λ _. (refl, entered_on c z on m p most more s h _ _ _ _ refl refl refl refl (refl, refl, refl, refl) refl (omega arith)), λ y. absurd (omega (arith, e, y))),
          ),
        ),
      )
