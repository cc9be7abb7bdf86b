-- From the vector on each stay is made: by its entrance, and a call by its row.
use Rattle.std.proofs.Common.{◌≡◌, ℕ, zero, suc, ◌+◌, ◌-◌, ◌*◌, ◌%◌, ◌^◌, ◌<◌, ◌≤◌, List, [], ◌∷◌, Bool, true, false, Option, Some, None, inl, inr, refl, sym, ap, ◌∙◌, subst, arith}
use Rattle.std.specs.Prelude.{nat_eq, option_map, if◌then◌else◌, unwrap_or}
use Rattle.std.proofs.lemmas.Bool.{lt-ltb, false≢true}
use Rattle.psx_base.specs.declared.ports.TheConstants.{HALT_A, HALT_B, HALT_C}
use Rattle.psx_base.specs.declared.stop.Table.{Table}
use Rattle.psx_base.specs.declared.stop.Table.TheVariants.{A, B, C, Sys}
use Rattle.psx_base.specs.declared.stop.Stop.TheVariants.{Exit, Exception, Unserved}
use Rattle.psx_base.specs.Memory.{Memory, byte, word}
use Rattle.psx_base.specs.Registers.{Registers}
use Rattle.psx_base.specs.Context.{Context, settled, settle, epc_of, placed, taken}
use Rattle.psx_base.specs.Addresses.{is_mirrored}
use Rattle.psx_base.specs.Items.{Entrance, ByA, ByB, ByC, BySyscall, ByInterrupt, ByDone, ByBack, ByTrap}
use Rattle.psx_base.specs.Entrances.{entrance, number}
use Rattle.psx_base.specs.KernelState.{KernelState}
use Rattle.psx_cpu.specs.Processor.{Core, Cop0}
use Rattle.psx_cpu.specs.Exceptions.{cause_of, entered_sr, vector, enter}
use Rattle.psx_ports.specs.HaltCodes.{table_of}
use Rattle.psx_flow.specs.Run.{Run, Access, PortWrite, state_at}
use Rattle.psx_flow.specs.Plain.{kernel_core}
use Rattle.kern_layout.specs.Fields.{Block}
use Rattle.kern_layout.specs.Contexts.{saved}
use Rattle.psx_flow.specs.Kernel.{kernel_words}
use Rattle.psx_flow.specs.Tree.{Tree}
use Rattle.psx_flow.specs.Meets.{Meets, calls}
use Rattle.psx_flow.specs.Reaches.{IsPlaced, Keeps}
use Rattle.kern_layout.specs.Contexts.{saved_sr_of}
use Rattle.kern_layout.specs.Stands.{user_sr}
use Rattle.abs_kernel.specs.declared.calls.CallId.{CallId}
use Rattle.abs_kernel.specs.CallTable.{served_call}
use Rattle.abs_kernel.specs.Cause.{entrance_of}
use Rattle.abs_kernel.specs.Stay.{Stay}
use Rattle.abs_kernel.specs.Answered.{registers_of, with_running, with_answer}
use Rattle.abs_kernel.specs.Interrupt.{interrupted, interrupts}
use Rattle.abs_kernel.specs.Sys.{with_interrupts, sys_delivers, syscall}
use Rattle.abs_kernel.specs.Calls.{by_row}
use Rattle.abs_kernel.specs.KernelStep.{settled_state, by_entrance, stay_of}
use Rattle.kern_entry.specs.declared.places.TheConstants.{VECTOR, SAVE, CAUSES, CALL_A, CALL_B, CALL_C, SYSCALLS, DELIVER, INTERRUPTS, BEHIND, EXCEPTION}
use Rattle.kern_entry.specs.declared.save.TheConstants.{VECTOR_NODES, SAVE_NODES, CAUSES_NODES}
use Rattle.kern_entry.specs.declared.calls.TheConstants.{CALL_A_NODES, CALL_B_NODES, CALL_C_NODES}
use Rattle.kern_entry.specs.declared.sys.TheConstants.{SYSCALLS_NODES}
use Rattle.kern_entry.specs.EntryWords.{tree}
use Rattle.kern_stay.specs.Doors.{called_with}
use Rattle.kern_entry.specs.Within.{Aim, Within}
use Rattle.kern_entry.specs.Made.{Made}
use Rattle.kern_entry.specs.Tables.{destination, TableAt, TablesRead}
use Rattle.kern_entry.specs.EntryLaws.{KeepsRest, Routine, OfCall, OfBack, OfDelivery, OfInterrupt, stay_by, entered_by, place_by, routine_by, routine_of_entry, Begins, StaysBegin, kernel_at}
use Rattle.kern_entry.proofs.WorkArea.{held, AreaHolds, AreaEntered}
use Rattle.kern_entry.proofs.Saving.{Arrived, vector_meets, save_meets}
use Rattle.kern_entry.proofs.Choosing.{arrival, causes_meets}
use Rattle.kern_entry.proofs.Lookup.{Called, call_a_meets, call_b_meets, call_c_meets}
use Rattle.kern_entry.proofs.Routines.{was_on, SysGoes, SysStops, sys_meets}
use Rattle.kern_entry.proofs.Placed.{AllPlaced, all_placed}
use Rattle.kern_entry.proofs.Stages.{Shown, walks, Returns, done_shown, unserved_shown, exception_shown, behind_shown, stops_here}
use Rattle.kern_entry.proofs.Walk.{within_here}

-- the table that a word of a halt names
abbrev table_number : Table → ℕ
table_number A = 0
table_number B = 1
table_number C = 2
table_number Sys = 3

table_is : (T : Table) → table_of (table_number T) ≡ T
table_is A = refl
table_is B = refl
table_is C = refl
table_is Sys = refl

-- the tables are read as at the entry
word_kept : (m : Memory) (e : Run) (p : ℕ) → Keeps kernel_words m e → p + 4 ≤ 0xB000 → word e.bytes p ≡ word m p
unfolding word
word_kept m e p ke low =
    let b : (x : ℕ) → x < 0xB000 → byte e.bytes x ≡ byte m x = λ x lt. ke.bytes x (lt-ltb x 0xB000 lt) in
    let e0 = b p (omega arith) in let e1 = b (p + 1) (omega arith) in let e2 = b (p + 2) (omega arith) in let e3 = b (p + 3) (omega arith) in
    λ i. e0 i + e1 i * 2 ^ 8 + e2 i * 2 ^ 16 + e3 i * 2 ^ 24

table_kept : (go : CallId → ℕ) (m : Memory) (e : Run) (T : Table) (at count : ℕ) → Keeps kernel_words m e → at + 4 * count ≤ 0xB000 → TableAt go m T at count → TableAt go e.bytes T at count
table_kept go m e T at count ke low t = λ n lt. word_kept m e (at + 4 * n) ke (omega arith) ∙ t n lt

further : (c : Registers) (pc : ℕ) (on : Bool) (m : Memory) (p : List Access) (most more : ℕ) (e : Run) → most ≤ more → AreaHolds c pc on m p most e → AreaHolds c pc on m p more e
further c pc on m p most more e le h = record { area = h.area; spared = h.spared; ports = h.ports; within = omega (arith, h.within) }

further_in : (c : Registers) (z : Cop0) (on : Bool) (m : Memory) (p : List Access) (most more : ℕ) (e : Run) → most ≤ more → AreaEntered c z on m p most e → AreaEntered c z on m p more e
further_in c z on m p most more e le h = record { holds = further c z.epc on m p most more e le h.holds; r2 = h.r2; r4 = h.r4; r9 = h.r9; r31 = h.r31; args = h.args; cop0 = h.cop0 }

-- SYSCALLs that aren't traps are in no slot
abbrev is_syscall : Entrance → Bool
is_syscall ByInterrupt = false
is_syscall ByTrap = false
is_syscall _ = true

no_slot : (code : ℕ) (slot : Bool) (epc : ℕ) (by : Entrance) → entrance code slot epc ≡ by → is_syscall by ≡ true → slot ≡ false
no_slot code false epc by e h = refl
no_slot code true epc by e h = absurd (false≢true (sym (trapped (nat_eq code 0) (nat_eq code 8)) ∙ (ap is_syscall e ∙ h)))
  where
    trapped : (a b : Bool) → is_syscall (if a then ByInterrupt else (if b then ByTrap else ByTrap)) ≡ false
    trapped true b = refl
    trapped false true = refl
    trapped false false = refl

-- in a memory with the entry's words and the tables, from a state and a code, with coprocessor 0 as the entry leaves it
module _ (go : CallId → ℕ) (m : Memory) (all : AllPlaced m) (tables : TablesRead go m) (s : KernelState) (code sr bad : ℕ) (small : code < 32) where
  abbrev t : KernelState
  t = settled_state s

  abbrev c : Registers
  c = settled s.running.context.regs s.running.context.pending

  abbrev on : Bool
  on = s.running.interrupts

  abbrev z : Cop0
  z = record { sr = sr; cause = cause_of code s.running.context.in_slot; epc = epc_of s.running.context; bad_address = bad }

  abbrev Z : Stay → Aim
  Z stay = Begins go m s code stay

  abbrev Show : Stay → Run → ℕ → Type 0
  Show stay e at = Shown m (Z stay) e at

  mine : (stay : Stay) → KeepsRest s stay → (k : Core) (q : List Access) → Made m stay k q → Z stay k q
  mine stay own k q h = inl (own, h)

  trap_shown : (e : Run) → Keeps kernel_words m e → AreaEntered c z on m [] 100 e → Show (by_entrance ByTrap code t) e EXCEPTION
  trap_shown e ke h = exception_shown m all (by_entrance ByTrap code t) (Z (by_entrance ByTrap code t)) (mine (by_entrance ByTrap code t) refl) c z on [] e ke h code s.running.context.in_slot refl small (record {
    stop = Exception code z.epc;
    memory = s.memory;
    follows = ((tt, refl), refl);
    is = refl;
    stops = λ x y w. refl;
  })

  -- the routine of the entry is arrived at
  module _ (r : Routine) (by : routine_of_entry s code ≡ Some r) (e : Run) (ke : Keeps kernel_words m e) (h : AreaEntered c z on m [] 130 e) where
    arrives_in : (u : KernelState) → entered_by r s ≡ u → (registers_of u).r4 ≡ c.r4 → ((registers_of u).r5 ≡ c.r5) × ((registers_of u).r6 ≡ c.r6) × ((registers_of u).r7 ≡ c.r7) × ((registers_of u).r29 ≡ c.r29)
        → u.running.context.in_slot ≡ false → Block (word e.bytes) 0xEB00 (saved u.running) → Show (stay_by r u) e (place_by go r)
    arrives_in u is r4 args out area n few = within_here (Z (stay_by r u)) n (kernel_core (state_at e (place_by go r))) e.seen (inr (record {
      routine = r;
      by = by;
      is = ap (stay_by r) (sym is);
      regs = e.regs;
      cop0 = e.cop0;
      core = (λ i. kernel_at (record e.regs { r4 = h.r4 i; r5 = h.args.0 i; r6 = h.args.1 i; r7 = h.args.2 i; r29 = h.args.3 i }) e.cop0 e.bytes (place_by go r))
          ∙ (λ i. kernel_at (record e.regs { r4 = sym r4 i; r5 = sym args.0 i; r6 = sym args.1 i; r7 = sym args.2 i; r29 = sym args.3 i }) e.cop0 e.bytes (place_by go r))
          ∙ (λ i. kernel_at (called_with (registers_of (sym is i)) e.regs) e.cop0 e.bytes (place_by go r));
      off = ke.masked;
      out = subst (λ x. x.running.context.in_slot ≡ false) (sym is) out;
      area = subst (λ x. Block (word e.bytes) 0xEB00 (saved x.running)) (sym is) area;
      spared = h.holds.spared;
      quiet = h.holds.ports;
    }))

  arrives : s.running.context.in_slot ≡ false → (r : Routine) → routine_of_entry s code ≡ Some r → entered_by r s ≡ t → (e : Run) → Keeps kernel_words m e → AreaEntered c z on m [] 130 e → Show (stay_by r t) e (place_by go r)
  arrives out r by in_t e ke h =
      arrives_in r by e ke h t in_t refl (refl, refl, refl, refl) out
      (subst (λ x. Block (word e.bytes) 0xEB00 (saved (held c x on))) (ap (λ b. if b then (s.running.context.pc + (2 ^ 32 - 4)) % 2 ^ 32 else s.running.context.pc) out) h.holds.area)

  interrupt_arrives : routine_of_entry s code ≡ Some OfInterrupt → (e : Run) → Keeps kernel_words m e → AreaEntered c z on m [] 130 e → Show (interrupts t) e INTERRUPTS
  interrupt_arrives by e ke h = arrives_in OfInterrupt by e ke h (interrupted t) refl refl (refl, refl, refl, refl) refl h.holds.area

  called : s.running.context.in_slot ≡ false → (T : Table) (o : Option CallId) → routine_of_entry s code ≡ option_map OfCall o → (e : Run) → Keeps kernel_words m e → AreaEntered c z on m [] 100 e → e.regs.r10 ≡ table_number T → Show (by_row T o t) e (destination go o)
  called out T None made e ke h r = unserved_shown m all (by_row T None t) (Z (by_row T None t)) (mine (by_row T None t) refl) c z on [] e ke h (table_number T) r (record {
    stop = Unserved T c.r9 c.r31;
    memory = s.memory;
    follows = (((tt, refl), refl), refl);
    is = refl;
    stops = λ x y w. ap (λ n. Some (Unserved n c.r9 c.r31)) (table_is T);
  })
  called out T (Some id) made e ke h r = arrives out (OfCall id) made refl e ke (further_in c z on m [] 100 130 e (omega arith) h)

  table_shown : s.running.context.in_slot ≡ false → (T : Table) → routine_of_entry s code ≡ option_map OfCall (served_call T c.r9) → (tr : Tree) (at : ℕ) (e : Run) → IsPlaced kernel_words m at tr → Keeps kernel_words m e → Meets kernel_words (calls kernel_words []) tr at (λ _. ⊥) (λ to x. Called go T (table_number T) c z on m [] 100 to x) e
      → Show (by_row T (served_call T c.r9) t) e at
  table_shown out T made tr at e pl ke me =
      let stay = by_row T (served_call T c.r9) t in
      walks m (Z stay) tr at (λ _. ⊥) (λ to x. Called go T (table_number T) c z on m [] 100 to x) e pl ke (λ x b. absurd b) (λ a x g. low x g.entered) (λ x kx b. absurd b)
      (λ a x kx g. subst (λ n. Show stay x n) (sym g.to_is) (called out T (served_call T c.r9) made x kx g.entered g.table_is)) me
    where
      low : (x : Run) → AreaEntered c z on m [] 100 x → x.steps ≤ 200
      low x h = omega (arith, h.holds.within)

  -- a SYSCALL by its number
  abbrev behind : ℕ
  behind = (epc_of s.running.context + 4) % 2 ^ 32

  sys_goes : (n : ℕ) (d : Registers) (off : Bool) (e : Run) → Keeps kernel_words m e → KeepsRest s (syscall n t) → Returns (syscall n t) d behind off [] → ((x : Run) → SysStops n z.epc m [] 130 x → ⊥) → ((to : ℕ) (x : Run) → SysGoes n c z on m [] 130 to x → (to ≡ BEHIND) × AreaHolds d z.epc off m [] 130 x)
      → Meets kernel_words (calls kernel_words []) (tree SYSCALLS_NODES) SYSCALLS (λ x. SysStops n z.epc m [] 130 x) (λ to x. SysGoes n c z on m [] 130 to x) e → Show (syscall n t) e SYSCALLS
  sys_goes n d off e ke own r none goes me =
      let stay = syscall n t in
      walks m (Z stay) (tree SYSCALLS_NODES) SYSCALLS (λ x. SysStops n z.epc m [] 130 x) (λ to x. SysGoes n c z on m [] 130 to x) e all.syscalls ke (λ x b. absurd (none x b)) (λ a x g. low x (goes a x g).1) (λ x kx b. absurd (none x b))
      (λ a x kx g. let f = goes a x g in subst (λ y. Show stay x y) (sym f.0) (behind_shown m all stay (Z stay) (mine stay own) d z.epc off [] x kx f.1 r)) me
    where
      low : (x : Run) → AreaHolds d z.epc off m [] 130 x → x.steps ≤ 200
      low x h = omega (arith, h.within)

  -- one that delivers
  sys_delivered : s.running.context.in_slot ≡ false → (n : ℕ) → routine_of_entry s code ≡ Some OfDelivery → (e : Run) → Keeps kernel_words m e → Meets kernel_words (calls kernel_words []) (tree SYSCALLS_NODES) SYSCALLS (λ _. ⊥) (λ to x. (to ≡ DELIVER) × AreaEntered c z on m [] 130 x) e
      → Show (sys_delivers t) e SYSCALLS
  sys_delivered out n by e ke me =
      walks m (Z (sys_delivers t)) (tree SYSCALLS_NODES) SYSCALLS (λ _. ⊥) (λ to x. (to ≡ DELIVER) × AreaEntered c z on m [] 130 x) e all.syscalls ke (λ x b. absurd b) (λ a x g. low x g.1) (λ x kx b. absurd b)
      (λ a x kx g. subst (λ y. Show (sys_delivers t) x y) (sym g.0) (arrives out OfDelivery by refl x kx g.1)) me
    where
      low : (x : Run) → AreaEntered c z on m [] 130 x → x.steps ≤ 200
      low x h = omega (arith, h.holds.within)

  sys_shown : s.running.context.in_slot ≡ false → (n : ℕ) → routine_of_entry s code ≡ routine_by BySyscall n → (e : Run) → Keeps kernel_words m e → AreaEntered c z on m [] 100 e → e.regs.r4 ≡ n → Show (syscall n t) e SYSCALLS
  sys_shown out zero by e ke h q =
      sys_goes zero c on e ke refl (record { state = with_running t (taken t.running.context behind); follows = tt; is = refl; context = refl; interrupts = refl }) (λ x b. b) (λ to x g. g) (sys_meets c z on m [] 100 130 e h (omega arith) 0 q)
  sys_shown out (suc zero) by e ke h q =
      sys_goes 1 (record c { r2 = was_on on }) false e ke refl (record { state = with_interrupts (with_running t (with_answer (taken t.running.context behind) (was_on on))) false; follows = tt; is = refl; context = refl; interrupts = refl }) (λ x b. b) (λ to x g. g) (sys_meets c z on m [] 100 130 e h (omega arith) 1 q)
  sys_shown out (suc (suc zero)) by e ke h q =
      sys_goes 2 c true e ke refl (record { state = with_running (with_interrupts t true) (taken t.running.context behind); follows = tt; is = refl; context = refl; interrupts = refl }) (λ x b. b) (λ to x g. g) (sys_meets c z on m [] 100 130 e h (omega arith) 2 q)
  sys_shown out (suc (suc (suc zero))) by e ke h q =
      stops_here m all (syscall 3 t) (Z (syscall 3 t)) (mine (syscall 3 t) refl) (tree SYSCALLS_NODES) SYSCALLS 3 (PortWrite HALT_C z.epc ∷ PortWrite HALT_B 3 ∷ PortWrite HALT_A 3 ∷ []) e all.syscalls ke (record {
        stop = Unserved Sys 3 z.epc;
        memory = s.memory;
        follows = (((tt, refl), refl), refl);
        is = refl;
        stops = λ x y w. refl;
      }) (sys_meets c z on m [] 100 200 e h (omega arith) 3 q)
  sys_shown out (suc (suc (suc (suc n)))) by e ke h q = sys_delivered out n by e ke (sys_meets c z on m [] 100 130 e h (omega arith) (suc (suc (suc (suc n)))) q)

  -- the routine of an entry, by its entrance
  made_by : (by : Entrance) → entrance code s.running.context.in_slot z.epc ≡ by → routine_of_entry s code ≡ routine_by by (number by code c)
  made_by by is = ap (λ x. routine_by x (number x code c)) is

  -- an entry by its entrance
  arrived : (by : Entrance) → entrance code s.running.context.in_slot z.epc ≡ by → (e : Run) → Keeps kernel_words m e → AreaEntered c z on m [] 80 e → Show (by_entrance by code t) e (arrival by)
  arrived ByA is e ke h = table_shown (no_slot code s.running.context.in_slot z.epc ByA is refl) A (made_by ByA is) (tree CALL_A_NODES) CALL_A e all.call_a ke (call_a_meets go tables.there c z on m [] 80 100 e h (omega arith) (table_kept go m e A 0x200 0xC0 ke (omega arith) tables.a))
  arrived ByB is e ke h = table_shown (no_slot code s.running.context.in_slot z.epc ByB is refl) B (made_by ByB is) (tree CALL_B_NODES) CALL_B e all.call_b ke (call_b_meets go tables.there c z on m [] 80 100 e h (omega arith) (table_kept go m e B 0x874 0x5F ke (omega arith) tables.b))
  arrived ByC is e ke h = table_shown (no_slot code s.running.context.in_slot z.epc ByC is refl) C (made_by ByC is) (tree CALL_C_NODES) CALL_C e all.call_c ke (call_c_meets go tables.there c z on m [] 80 100 e h (omega arith) (table_kept go m e C 0x674 0x20 ke (omega arith) tables.c))
  arrived BySyscall is e ke h = sys_shown (no_slot code s.running.context.in_slot z.epc BySyscall is refl) c.r4 (made_by BySyscall is) e ke (further_in c z on m [] 80 100 e (omega arith) h) h.r4
  arrived ByInterrupt is e ke h = interrupt_arrives (made_by ByInterrupt is) e ke (further_in c z on m [] 80 130 e (omega arith) h)
  arrived ByTrap is e ke h = trap_shown e ke (further_in c z on m [] 80 100 e (omega arith) h)
  arrived ByDone is e ke h = done_shown m all (by_entrance ByDone code t) (Z (by_entrance ByDone code t)) (mine (by_entrance ByDone code t) refl) c z on [] e ke (further_in c z on m [] 80 100 e (omega arith) h) (record { stop = Exit c.r2; memory = s.memory; follows = (tt, refl); is = refl; stops = λ x y w. refl })
  arrived ByBack is e ke h = arrives (no_slot code s.running.context.in_slot z.epc ByBack is refl) OfBack (made_by ByBack is) refl e ke (further_in c z on m [] 80 130 e (omega arith) h)

  -- from the causes on, from the save and from the vector
  abbrev own : Entrance
  own = entrance code s.running.context.in_slot z.epc

  abbrev whole : Stay
  whole = by_entrance own code t

  causes_shown : (code ≡ 8 → s.running.context.in_slot ≡ false → is_mirrored z.epc ≡ true) → (e : Run) → Keeps kernel_words m e → AreaEntered c z on m [] 42 e → Show whole e CAUSES
  causes_shown mirror e ke h =
      walks m (Z whole) (tree CAUSES_NODES) CAUSES (λ _. ⊥) (λ to x. (to ≡ arrival own) × AreaEntered c z on m [] 80 x) e all.causes ke (λ x b. absurd b) (λ a x g. low x g.1) (λ x kx b. absurd b)
      (λ a x kx g. subst (λ n. Show whole x n) (sym g.0) (arrived own refl x kx g.1)) (causes_meets c code s.running.context.in_slot z on m [] 42 80 e h refl small mirror (omega arith))
    where
      low : (x : Run) → AreaEntered c z on m [] 80 x → x.steps ≤ 200
      low x g = omega (arith, g.holds.within)

  save_shown : z.sr ≡ saved_sr_of on → (code ≡ 8 → s.running.context.in_slot ≡ false → is_mirrored z.epc ≡ true) → (e : Run) → Keeps kernel_words m e → Arrived c z m 2 e → Show whole e SAVE
  save_shown as_saved mirror e ke h =
      walks m (Z whole) (tree SAVE_NODES) SAVE (λ _. ⊥) (λ to x. (to ≡ CAUSES) × AreaEntered e.regs e.cop0 on e.bytes [] 42 x) e all.save ke (λ x b. absurd b) (λ a x g. low x g.1) (λ x kx b. absurd b)
      (λ a x kx g. subst (λ n. Show whole x n) (sym g.0) (causes_shown mirror x kx (same x g.1))) (save_meets e on 42 (ap (λ y. y.sr) h.cop0 ∙ as_saved) h.seen (omega (arith, h.within)))
    where
      low : (x : Run) → AreaEntered e.regs e.cop0 on e.bytes [] 42 x → x.steps ≤ 200
      low x g = omega (arith, g.holds.within)

      same : (x : Run) → AreaEntered e.regs e.cop0 on e.bytes [] 42 x → AreaEntered c z on m [] 42 x
      same x g =
          let P : Registers → Type 0 = λ y. AreaEntered y e.cop0 on e.bytes [] 42 x in
          let Q : Cop0 → Type 0 = λ y. AreaEntered c y on e.bytes [] 42 x in
          let R : Memory → Type 0 = λ y. AreaEntered c z on y [] 42 x in
          subst R h.bytes (subst Q h.cop0 (subst P h.regs g))

  -- at the vector
  abbrev first : Run
  first = record { regs = c; cop0 = z; bytes = m; seen = []; passed = 0; steps = 0 }

  pub vector_shown : z.sr ≡ saved_sr_of on → z.sr % 2 ≡ 0 → (code ≡ 8 → s.running.context.in_slot ≡ false → is_mirrored z.epc ≡ true) → Show whole first VECTOR
  vector_shown as_saved off mirror =
      walks m (Z whole) (tree VECTOR_NODES) VECTOR (λ _. ⊥) (λ to x. (to ≡ SAVE) × Arrived c z m 2 x) first all.vector (record { bytes = λ x e. refl; masked = off }) (λ x b. absurd b) (λ a x g. low x g.1) (λ x kx b. absurd b)
      (λ a x kx g. subst (λ n. Show whole x n) (sym g.0) (save_shown as_saved mirror x kx g.1)) (vector_meets first 2 refl (omega arith))
    where
      low : (x : Run) → Arrived c z m 2 x → x.steps ≤ 200
      low x g = omega (arith, g.within)

-- ---- an entry

-- SR and the vector at an entry from the user side
pub sr_entered : (on : Bool) → entered_sr (user_sr on) ≡ saved_sr_of on
sr_entered true = refl
sr_entered false = refl

pub sr_off : (on : Bool) → entered_sr (user_sr on) % 2 ≡ 0
sr_off true = refl
sr_off false = refl

pub vector_is : (on : Bool) → vector (user_sr on) ≡ VECTOR
vector_is true = refl
vector_is false = refl

-- the address of a SYSCALL that is in no slot
mirror_of : (x : Context) → x.in_slot ≡ false → is_mirrored x.pc ≡ true → is_mirrored (epc_of x) ≡ true
mirror_of x out h = ap (λ b. is_mirrored (if b then (x.pc + (2 ^ 32 - 4)) % 2 ^ 32 else x.pc)) out ∙ h

pub stays_begin : StaysBegin
unfolding stay_of
stays_begin go k s trap h =
    let on : Bool = s.running.interrupts in
    let m : Memory = k.bytes in
    let x : Context = s.running.context in
    let bad : ℕ = unwrap_or trap.bad k.processor.cop0.bad_address in
    let made : Core → Type 0 = λ y. Within (Begins go m s trap.code (by_entrance (entrance_of x trap.code) trap.code (settled_state s))) 202 y [] in
    let cop : ℕ → Cop0 = λ sr. record { sr = entered_sr sr; cause = cause_of trap.code x.in_slot; epc = epc_of x; bad_address = bad } in
    let at : ℕ → ℕ → Core = λ sr pc. record { processor = record { context = placed (settle x) pc; cop0 = cop sr; latch = true }; bytes = m } in
    let begun : made (at (user_sr on) VECTOR) =
    vector_shown go m (all_placed m h.words) h.tables s trap.code (entered_sr (user_sr on)) bad h.code (sr_entered on) (sr_off on) (λ e out. mirror_of x out (h.mirrored e out)) 202 (omega arith) in
    let placed_there : made (at (user_sr on) (vector (user_sr on))) = subst (λ a. made (at (user_sr on) a)) (sym (vector_is on)) begun in
    let by_sr : made (at k.processor.cop0.sr (vector k.processor.cop0.sr)) = subst (λ a. made (at a (vector a))) (sym h.sr) placed_there in
    subst (λ a. made (record k { processor = enter (record k.processor { context = a }) trap })) (sym h.context) by_sr
