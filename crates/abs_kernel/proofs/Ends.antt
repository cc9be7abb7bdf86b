-- The ends of the stays, call by call, and what follows for all of them.
use Rattle.std.proofs.Common.{◌≡◌, ℕ, zero, suc, ◌%◌, ◌^◌, Bool, true, false, inl, inr, refl, sym, Option, Some, None, List}
use Rattle.std.specs.Prelude.{if◌then◌else◌, ◌-◌}
use Rattle.std.proofs.lemmas.Bool.{false≢true}
use Rattle.psx_base.specs.declared.stop.Stop.{Stop}
use Rattle.psx_base.specs.declared.stop.Table.{Table}
use Rattle.psx_base.specs.declared.stop.Table.TheVariants.{A, B, C}
use Rattle.psx_base.specs.Memory.{Memory}
use Rattle.psx_base.specs.Context.{Context, IsAtRest}
use Rattle.psx_base.specs.Items.{Entrance, ByA, ByB, ByC, BySyscall, ByInterrupt, ByDone, ByBack, ByTrap}
use Rattle.psx_base.specs.KernelState.{Thread, Event, Heap, KernelState}
use Rattle.kern_layout.specs.Valid.{Valid, HeapFits}
use Rattle.kern_layout.specs.declared.places.TheConstants.{EVENT_FREE, EVENT_DISABLED, EVENT_BUSY}
use Rattle.abs_kernel.specs.declared.calls.CallId.{CallId}
use Rattle.abs_kernel.specs.declared.calls.CallId.TheVariants.{A00, A02, A03, A04, A06, A08, A09, A0C, A0D, A0E, A0F, A10, A11, A13, A14, A15, A16, A17, A18, A19, A1A, A1B, A1C, A1D, A1E, A1F, A20, A21, A22, A23, A24, A25, A26, A27, A28, A29, A2A, A2B, A2C, A2D, A2E, A2F, A30, A33, A34, A37, A38, A39, A3A, A3B, A3C, A3D, A3E, A3F, A44, B02, B03, B04, B05, B06, B07, B08, B09, B0A, B0B, B0C, B0D, B0E, B0F, B10, B17, B20, B32, B34, B35, B36, B38, B3A, B3B, B3C, B3D, B3E, B3F, B54, C02, C03}
use Rattle.abs_kernel.specs.CallTable.{served_call}
use Rattle.abs_kernel.specs.Cause.{entrance_of}
use Rattle.abs_kernel.specs.Answered.{registers_of}
use Rattle.abs_kernel.specs.UserBytes.{count_of, longest}
use Rattle.abs_kernel.specs.Rand.{random_next}
use Rattle.abs_kernel.specs.Abs.{magnitude_of}
use Rattle.abs_kernel.specs.Toupper.{capital_of}
use Rattle.abs_kernel.specs.Tolower.{small_of}
use Rattle.abs_kernel.specs.Calls.{call, by_row}
use Rattle.abs_kernel.specs.Sys.{behind_syscall, syscall}
use Rattle.abs_kernel.specs.KernelStep.{settled_state, by_entrance, stay_of}
use Rattle.abs_kernel.proofs.Moved.{valid_placed, valid_moved}
use Rattle.abs_kernel.proofs.Lined.{valid_lined}
use Rattle.abs_kernel.proofs.Threaded.{ThreadsFit, threads_same, valid_threaded}
use Rattle.abs_kernel.proofs.Evented.{EventsFit, events_same, valid_evented}
use Rattle.abs_kernel.proofs.Chained.{ChainsFit, chains_same, valid_chained}
use Rattle.abs_kernel.proofs.Heaped.{valid_heaped}
use Rattle.psx_base.specs.Entrances.{number}
use Rattle.abs_kernel.proofs.EndsTasks.{back_ends, from_exception_ends, delivery_ends, interrupt_ends}
use Rattle.abs_kernel.proofs.EndsThreads.{close_thread_ends, open_thread_ends, change_thread_ends}
use Rattle.abs_kernel.proofs.EndsEvents.{status_ends, open_event_ends, test_event_ends, wait_event_ends, undeliver_event_ends}
use Rattle.abs_kernel.proofs.EndsCounters.{init_timer_ends, get_timer_ends, enable_timer_irq_ends, disable_timer_irq_ends, restart_timer_ends}
use Rattle.abs_kernel.proofs.EndsChains.{sys_enq_int_rp_ends, sys_deq_int_rp_ends}
use Rattle.abs_kernel.proofs.Filed.{FilesFit, files_same, valid_filed}
use Rattle.abs_kernel.specs.Changes.{Part, ContextAlone, AndMemory, AndRandom, AndFiles, AndInput, AndLine, changes, changes_of, changes_by, changed, Changed, keeps_memory, takes_up_another, AndPlace, AndThreads, AndEvents, AndChains, AndHeap, AndHeapMemory, AndFrames, changes_by_syscall}
use Rattle.abs_kernel.specs.StayLaws.{EachEnd, MemoryKept, RestKept, ReturnsAtRest, ValidKept}
use Rattle.abs_kernel.specs.HeapLaws.{changes_heap, OthersKeepHeap}
use Rattle.abs_kernel.proofs.Ending.{running_in, LineFits, Halts, Returns, on_at, answer_at, at_rest, answer_at_rest, rest_fits, answered_ends, pointer_ends, pointers_end}
use Rattle.abs_kernel.proofs.EndsHeap.{malloc_ends, free_ends, calloc_ends, realloc_ends, init_heap_ends}
use Rattle.abs_kernel.proofs.EndsJumps.{longjmp_ends, words_written_ends}
use Rattle.abs_kernel.specs.Jumps.{jump_words}
use Rattle.abs_kernel.proofs.EndsMemory.{found_ends, compared_bytes_ends, fills_end, copies_end, memmove_ends}
use Rattle.abs_kernel.proofs.EndsText.{counted_ends, compared_ends, first_ends, last_ends, found_text_ends, skipped_ends, strcpy_ends, strcat_ends, strncat_ends, strncpy_ends, strtok_ends}
use Rattle.abs_kernel.proofs.EndsNumbers.{strtol_ends, atoi_ends}
use Rattle.abs_kernel.proofs.EndsPrintf.{format_ends}
use Rattle.abs_kernel.proofs.EndsFiles.{written_ends, getchar_ends, open_ends, close_ends, write_ends, getc_ends, putc_ends, read_ends, gets_ends}

-- ---- a system call

module _ (P : KernelState → Type 0) (Q : Stop → Memory → Type 0) (s : KernelState) where
  pub syscall_ends : (n : ℕ) → Halts (changes_by_syscall n) Q s → Returns (changes_by_syscall n) P s → EachEnd P Q (syscall n s)
  syscall_ends zero halts returns = on_at P Q s halts returns (behind_syscall s.running.context) s.running.interrupts
  syscall_ends (suc zero) halts returns = answer_at P Q s halts returns (behind_syscall s.running.context) (if s.running.interrupts then 1 else 0) false
  syscall_ends (suc (suc zero)) halts returns = on_at P Q s halts returns (behind_syscall s.running.context) true
  syscall_ends (suc (suc (suc zero))) halts returns = halts _
  syscall_ends (suc (suc (suc (suc n)))) halts returns = let c = s.running.context in delivery_ends P Q s halts returns _ _ _ _ (at_rest c (behind_syscall c))

-- ---- all stays

module _ (P : KernelState → Type 0) (Q : Stop → Memory → Type 0) (s : KernelState) where
  pub call_ends : (id : CallId) → Halts (changes id) Q s → Returns (changes id) P s → EachEnd P Q (call id s)
  call_ends A00 halts returns = open_ends P Q s halts returns
  call_ends A02 halts returns = read_ends P Q s halts returns
  call_ends A03 halts returns = write_ends P Q s halts returns
  call_ends A04 halts returns = close_ends P Q s halts returns
  call_ends A06 halts returns = halts _
  call_ends A08 halts returns = getc_ends P Q s halts returns
  call_ends A09 halts returns = putc_ends P Q s halts returns
  call_ends A0C halts returns = strtol_ends P Q s halts returns
  call_ends A0D halts returns = strtol_ends P Q s halts returns
  call_ends A0E halts returns = answered_ends P Q s halts returns (magnitude_of (registers_of s).r4)
  call_ends A0F halts returns = answered_ends P Q s halts returns (magnitude_of (registers_of s).r4)
  call_ends A10 halts returns = atoi_ends P Q s halts returns
  call_ends A11 halts returns = atoi_ends P Q s halts returns
  call_ends A13 halts returns = words_written_ends P Q s halts returns (jump_words (registers_of s)) s.memory (registers_of s).r4 0
  call_ends A14 halts returns = longjmp_ends P Q s halts returns
  call_ends A15 halts returns = strcat_ends P Q s halts returns
  call_ends A16 halts returns = strncat_ends P Q s halts returns
  call_ends A17 halts returns = let r = registers_of s in pointers_end P Q s halts returns _ (compared_ends P Q s halts returns longest r.r4 r.r5)
  call_ends A18 halts returns = let r = registers_of s in pointers_end P Q s halts returns _ (compared_ends P Q s halts returns (count_of r.r6) r.r4 r.r5)
  call_ends A19 halts returns = strcpy_ends P Q s halts returns
  call_ends A1A halts returns = strncpy_ends P Q s halts returns
  call_ends A1B halts returns = pointer_ends P Q s halts returns _ (counted_ends P Q s halts returns longest (registers_of s).r4 0)
  call_ends A1C halts returns = pointer_ends P Q s halts returns _ (first_ends P Q s halts returns longest (registers_of s).r4 ((registers_of s).r5 % 2 ^ 8))
  call_ends A1D halts returns = pointer_ends P Q s halts returns _ (last_ends P Q s halts returns longest (registers_of s).r4 ((registers_of s).r5 % 2 ^ 8) 0)
  call_ends A1E halts returns = pointer_ends P Q s halts returns _ (first_ends P Q s halts returns longest (registers_of s).r4 ((registers_of s).r5 % 2 ^ 8))
  call_ends A1F halts returns = pointer_ends P Q s halts returns _ (last_ends P Q s halts returns longest (registers_of s).r4 ((registers_of s).r5 % 2 ^ 8) 0)
  call_ends A20 halts returns =
      let r = registers_of s in
      pointers_end P Q s halts returns _ (skipped_ends P Q s halts false longest r.r5 r.r4 _ (λ ended at. answered_ends P Q s halts returns (if ended then 0 else at)))
  call_ends A21 halts returns =
      let r = registers_of s in
      pointers_end P Q s halts returns _ (skipped_ends P Q s halts true longest r.r5 r.r4 _ (λ ended at. answered_ends P Q s halts returns (at - r.r4)))
  call_ends A22 halts returns =
      let r = registers_of s in
      pointers_end P Q s halts returns _ (skipped_ends P Q s halts false longest r.r5 r.r4 _ (λ ended at. answered_ends P Q s halts returns (at - r.r4)))
  call_ends A23 halts returns = strtok_ends P Q s halts returns
  call_ends A24 halts returns = let r = registers_of s in pointers_end P Q s halts returns _ (found_text_ends P Q s halts returns longest r.r4 r.r5)
  call_ends A25 halts returns = answered_ends P Q s halts returns (capital_of ((registers_of s).r4 % 2 ^ 8))
  call_ends A26 halts returns = answered_ends P Q s halts returns (small_of ((registers_of s).r4 % 2 ^ 8))
  call_ends A27 halts returns = let r = registers_of s in copies_end P Q s halts returns r.r5 r.r4 r.r6
  call_ends A28 halts returns = let r = registers_of s in fills_end P Q s halts returns r.r4 0 r.r5
  call_ends A29 halts returns = let r = registers_of s in pointers_end P Q s halts returns _ (compared_bytes_ends P Q s halts returns (count_of r.r6) r.r4 r.r5)
  call_ends A2A halts returns = let r = registers_of s in copies_end P Q s halts returns r.r4 r.r5 r.r6
  call_ends A2B halts returns = let r = registers_of s in fills_end P Q s halts returns r.r4 r.r5 r.r6
  call_ends A2C halts returns = memmove_ends P Q s halts returns
  call_ends A2D halts returns = let r = registers_of s in pointers_end P Q s halts returns _ (compared_bytes_ends P Q s halts returns (count_of r.r6) r.r4 r.r5)
  call_ends A2E halts returns = let r = registers_of s in pointer_ends P Q s halts returns _ (found_ends P Q s halts returns (count_of r.r6) r.r4 (r.r5 % 2 ^ 8))
  call_ends A2F halts returns = answered_ends P Q (record s { random = random_next s.random }) halts (returns _) _
  call_ends A30 halts returns = answered_ends P Q (record s { random = (registers_of s).r4 }) halts (returns _) 0
  call_ends A33 halts returns = malloc_ends P Q s halts returns
  call_ends A34 halts returns = free_ends P Q s halts returns
  call_ends A37 halts returns = calloc_ends P Q s halts returns
  call_ends A38 halts returns = realloc_ends P Q s halts returns
  call_ends A39 halts returns = init_heap_ends P Q s halts returns
  call_ends A3A halts returns = halts _
  call_ends A3B halts returns = getchar_ends P Q s halts returns
  call_ends A3C halts returns = answered_ends P Q s halts returns ((registers_of s).r4 % 2 ^ 8)
  call_ends A3D halts returns = gets_ends P Q s halts returns
  call_ends A3E halts returns = pointer_ends P Q s halts returns _ (written_ends P Q s halts returns longest (registers_of s).r4)
  call_ends A3F halts returns = pointer_ends P Q s halts returns _ (format_ends P Q s halts returns longest (registers_of s).r4 0 0 None)
  call_ends A44 halts returns = answered_ends P Q s halts returns 0
  call_ends B02 halts returns = init_timer_ends P Q s halts returns
  call_ends B03 halts returns = get_timer_ends P Q s halts returns
  call_ends B04 halts returns = enable_timer_irq_ends P Q s halts returns
  call_ends B05 halts returns = disable_timer_irq_ends P Q s halts returns
  call_ends B06 halts returns = restart_timer_ends P Q s halts returns
  call_ends B07 halts returns = let r = registers_of s in delivery_ends P Q s halts returns _ _ _ _ (answer_at_rest s.running.context r.r31 0)
  call_ends B08 halts returns = open_event_ends P Q s halts returns
  call_ends B09 halts returns = status_ends P Q s halts returns EVENT_FREE (inl refl)
  call_ends B0A halts returns = wait_event_ends P Q s halts returns
  call_ends B0B halts returns = test_event_ends P Q s halts returns
  call_ends B0C halts returns = status_ends P Q s halts returns EVENT_BUSY (inr (inr (inl refl)))
  call_ends B0D halts returns = status_ends P Q s halts returns EVENT_DISABLED (inr (inl refl))
  call_ends B0E halts returns = open_thread_ends P Q s halts returns
  call_ends B0F halts returns = close_thread_ends P Q s halts returns
  call_ends B10 halts returns = change_thread_ends P Q s halts returns
  call_ends B17 halts returns = from_exception_ends P Q s halts returns
  call_ends B20 halts returns = undeliver_event_ends P Q s halts returns
  call_ends B32 halts returns = open_ends P Q s halts returns
  call_ends B34 halts returns = read_ends P Q s halts returns
  call_ends B35 halts returns = write_ends P Q s halts returns
  call_ends B36 halts returns = close_ends P Q s halts returns
  call_ends B38 halts returns = halts _
  call_ends B3A halts returns = getc_ends P Q s halts returns
  call_ends B3B halts returns = putc_ends P Q s halts returns
  call_ends B3C halts returns = getchar_ends P Q s halts returns
  call_ends B3D halts returns = answered_ends P Q s halts returns ((registers_of s).r4 % 2 ^ 8)
  call_ends B3E halts returns = gets_ends P Q s halts returns
  call_ends B3F halts returns = pointer_ends P Q s halts returns _ (written_ends P Q s halts returns longest (registers_of s).r4)
  call_ends B54 halts returns = answered_ends P Q s halts returns s.errno
  call_ends C02 halts returns = sys_enq_int_rp_ends P Q s halts returns
  call_ends C03 halts returns = sys_deq_int_rp_ends P Q s halts returns

  row_ends : (table : Table) (row : Option CallId) → Halts (changes_of row) Q s → Returns (changes_of row) P s → EachEnd P Q (by_row table row s)
  row_ends table None halts returns = halts _
  row_ends table (Some id) halts returns = call_ends id halts returns

  ends : (e : Entrance) (code : ℕ) → Halts (changes_by e (number e code (registers_of s))) Q s → Returns (changes_by e (number e code (registers_of s))) P s → EachEnd P Q (by_entrance e code s)
  ends ByA code halts returns = row_ends A (served_call A (registers_of s).r9) halts returns
  ends ByB code halts returns = row_ends B (served_call B (registers_of s).r9) halts returns
  ends ByC code halts returns = row_ends C (served_call C (registers_of s).r9) halts returns
  ends BySyscall code halts returns = syscall_ends P Q s (registers_of s).r4 halts returns
  ends ByInterrupt code halts returns = interrupt_ends P Q s halts returns
  ends ByDone code halts returns = halts _
  ends ByBack code halts returns = back_ends P Q s halts returns
  ends ByTrap code halts returns = halts _

pub stay_ends : (P : KernelState → Type 0) (Q : Stop → Memory → Type 0) (s : KernelState) (code : ℕ)
    → Halts (changed s code) Q (settled_state s) → Returns (changed s code) P (settled_state s) → EachEnd P Q (stay_of s code)
unfolding stay_of
stay_ends P Q s code halts returns = ends P Q (settled_state s) (entrance_of s.running.context code) code halts returns

-- ---- the laws

abbrev pub Any : Stop → Memory → Type 0
Any stop memory = Unit {0}

pub halts_any : (part : Part) (s : KernelState) → Halts part Any s
halts_any ContextAlone s = λ stop. tt
halts_any AndMemory s = λ stop m. tt
halts_any AndRandom s = λ stop. tt
halts_any AndPlace s = λ stop m. tt
halts_any AndFiles s = λ stop. tt
halts_any AndInput s = λ stop m. tt
halts_any AndLine s = λ stop m. tt
halts_any AndThreads s = λ stop. tt
halts_any AndEvents s = λ stop. tt
halts_any AndChains s = λ stop m. tt
halts_any AndHeap s = λ stop. tt
halts_any AndHeapMemory s = λ stop m. tt
halts_any AndFrames s = λ stop. tt

-- that a return is valid whatever is changed but the frames
abbrev Whatever : (KernelState → Type 0) → KernelState → Type 0
Whatever P s =
    (m : Memory) (x place : ℕ) (files : List (Option ℕ)) (errno : ℕ) (line : List ℕ) (threads : List Thread) (current : ℕ) (next : Option ℕ) (events : List Event) (chains : List (List ℕ)) (heap : Heap) (c : Context) (on : Bool)
    → FilesFit s.files files → LineFits s line → (Valid s → ThreadsFit s threads current next) → EventsFit s.events events → ChainsFit s.chains chains → (Valid s → HeapFits heap) → (Valid s → IsAtRest c)
    → P (running_in (record s { memory = m; random = x; token = place; files = files; errno = errno; line = line; threads = threads; current = current; next = next; events = events; chains = chains; heap = heap }) c on)

returns_valid : (part : Part) (s : KernelState) → Valid s → Whatever Valid s → Returns part Valid s
returns_valid ContextAlone s valid h = λ c on r. h s.memory s.random s.token s.files s.errno s.line s.threads s.current s.next s.events s.chains s.heap c on (files_same s.files) (λ q. q) (threads_same s) (events_same s.events) (chains_same s.chains) (λ v. v.heap) (λ v. r)
returns_valid AndMemory s valid h = λ m c on r. h m s.random s.token s.files s.errno s.line s.threads s.current s.next s.events s.chains s.heap c on (files_same s.files) (λ q. q) (threads_same s) (events_same s.events) (chains_same s.chains) (λ v. v.heap) (λ v. r)
returns_valid AndRandom s valid h = λ x c on r. h s.memory x s.token s.files s.errno s.line s.threads s.current s.next s.events s.chains s.heap c on (files_same s.files) (λ q. q) (threads_same s) (events_same s.events) (chains_same s.chains) (λ v. v.heap) (λ v. r)
returns_valid AndPlace s valid h = λ m place c on r. h m s.random place s.files s.errno s.line s.threads s.current s.next s.events s.chains s.heap c on (files_same s.files) (λ q. q) (threads_same s) (events_same s.events) (chains_same s.chains) (λ v. v.heap) (λ v. r)
returns_valid AndFiles s valid h = λ files errno c on fit r. h s.memory s.random s.token files errno s.line s.threads s.current s.next s.events s.chains s.heap c on fit (λ q. q) (threads_same s) (events_same s.events) (chains_same s.chains) (λ v. v.heap) (λ v. r)
returns_valid AndInput s valid h = λ m errno c on r. h m s.random s.token s.files errno s.line s.threads s.current s.next s.events s.chains s.heap c on (files_same s.files) (λ q. q) (threads_same s) (events_same s.events) (chains_same s.chains) (λ v. v.heap) (λ v. r)
returns_valid AndLine s valid h = λ m line fits c on r. h m s.random s.token s.files s.errno line s.threads s.current s.next s.events s.chains s.heap c on (files_same s.files) fits (threads_same s) (events_same s.events) (chains_same s.chains) (λ v. v.heap) (λ v. r)
returns_valid AndThreads s valid h = λ threads current next c on fit r. h s.memory s.random s.token s.files s.errno s.line threads current next s.events s.chains s.heap c on (files_same s.files) (λ q. q) fit (events_same s.events) (chains_same s.chains) (λ v. v.heap) r
returns_valid AndEvents s valid h = λ events c on fit r. h s.memory s.random s.token s.files s.errno s.line s.threads s.current s.next events s.chains s.heap c on (files_same s.files) (λ q. q) (threads_same s) fit (chains_same s.chains) (λ v. v.heap) (λ v. r)
returns_valid AndChains s valid h = λ m chains c on fit r. h m s.random s.token s.files s.errno s.line s.threads s.current s.next s.events chains s.heap c on (files_same s.files) (λ q. q) (threads_same s) (events_same s.events) fit (λ v. v.heap) (λ v. r)
returns_valid AndHeap s valid h = λ heap c on fit r. h s.memory s.random s.token s.files s.errno s.line s.threads s.current s.next s.events s.chains heap c on (files_same s.files) (λ q. q) (threads_same s) (events_same s.events) (chains_same s.chains) fit (λ v. r)
returns_valid AndHeapMemory s valid h = λ m heap c on fit r. h m s.random s.token s.files s.errno s.line s.threads s.current s.next s.events s.chains heap c on (files_same s.files) (λ q. q) (threads_same s) (events_same s.events) (chains_same s.chains) fit (λ v. r)
returns_valid AndFrames s valid h = λ threads current next events frames c on r. (r valid).0

pub returns_changed : (part : Part) (s : KernelState) → Returns part (Changed part s) (settled_state s)
returns_changed ContextAlone s = λ c on r. refl
returns_changed AndMemory s = λ m c on r. refl
returns_changed AndRandom s = λ x c on r. refl
returns_changed AndFiles s = λ files errno c on fit r. refl
returns_changed AndInput s = λ m errno c on r. refl
returns_changed AndLine s = λ m line fits c on r. refl
returns_changed AndThreads s = λ threads current next c on fit r. refl
returns_changed AndEvents s = λ events c on fit r. refl
returns_changed AndChains s = λ m chains c on fit r. refl
returns_changed AndHeap s = λ heap c on fit r. refl
returns_changed AndHeapMemory s = λ m heap c on fit r. refl
returns_changed AndPlace s = λ m place c on r. refl
returns_changed AndFrames s = λ threads current next events frames c on r. refl

pub rest_kept : RestKept
rest_kept s code = stay_ends (Changed (changed s code) s) Any s code (halts_any (changed s code) (settled_state s)) (returns_changed (changed s code) s)

-- the memory of a state and of a stop is that of another
abbrev SameMemory : KernelState → KernelState → Type 0
SameMemory s t = t.memory ≡ s.memory

abbrev SameAtStop : KernelState → Stop → Memory → Type 0
SameAtStop s stop memory = memory ≡ s.memory

halts_same : (part : Part) (s : KernelState) → keeps_memory part ≡ true → Halts part (SameAtStop s) (settled_state s)
halts_same ContextAlone s h = λ stop. refl
halts_same AndMemory s h = absurd (false≢true h)
halts_same AndRandom s h = λ stop. refl
halts_same AndFiles s h = λ stop. refl
halts_same AndInput s h = absurd (false≢true h)
halts_same AndLine s h = absurd (false≢true h)
halts_same AndThreads s h = λ stop. refl
halts_same AndEvents s h = λ stop. refl
halts_same AndChains s h = absurd (false≢true h)
halts_same AndHeap s h = λ stop. refl
halts_same AndHeapMemory s h = absurd (false≢true h)
halts_same AndPlace s h = absurd (false≢true h)
halts_same AndFrames s h = λ stop. refl

returns_same : (part : Part) (s : KernelState) → keeps_memory part ≡ true → Returns part (SameMemory s) (settled_state s)
returns_same ContextAlone s h = λ c on r. refl
returns_same AndMemory s h = absurd (false≢true h)
returns_same AndRandom s h = λ x c on r. refl
returns_same AndFiles s h = λ files errno c on fit r. refl
returns_same AndInput s h = absurd (false≢true h)
returns_same AndLine s h = absurd (false≢true h)
returns_same AndThreads s h = λ threads current next c on fit r. refl
returns_same AndEvents s h = λ events c on fit r. refl
returns_same AndChains s h = absurd (false≢true h)
returns_same AndHeap s h = λ heap c on fit r. refl
returns_same AndHeapMemory s h = absurd (false≢true h)
returns_same AndPlace s h = absurd (false≢true h)
returns_same AndFrames s h = λ threads current next events frames c on r. refl

pub memory_kept : MemoryKept
memory_kept s code h = stay_ends (SameMemory s) (SameAtStop s) s code (halts_same (changed s code) s h) (returns_same (changed s code) s h)

-- the heap of a state is that of another
abbrev SameHeap : KernelState → KernelState → Type 0
SameHeap s t = t.heap ≡ s.heap

returns_heap : (part : Part) (s : KernelState) → changes_heap part ≡ false → Returns part (SameHeap s) (settled_state s)
returns_heap ContextAlone s h = λ c on r. refl
returns_heap AndMemory s h = λ m c on r. refl
returns_heap AndRandom s h = λ x c on r. refl
returns_heap AndFiles s h = λ files errno c on fit r. refl
returns_heap AndInput s h = λ m errno c on r. refl
returns_heap AndLine s h = λ m line fits c on r. refl
returns_heap AndThreads s h = λ threads current next c on fit r. refl
returns_heap AndPlace s h = λ m place c on r. refl
returns_heap AndEvents s h = λ events c on fit r. refl
returns_heap AndChains s h = λ m chains c on fit r. refl
returns_heap AndHeap s h = absurd (false≢true (sym h))
returns_heap AndHeapMemory s h = absurd (false≢true (sym h))
returns_heap AndFrames s h = λ threads current next events frames c on r. refl

pub others_keep_heap : OthersKeepHeap
others_keep_heap s code h = stay_ends (SameHeap s) Any s code (halts_any (changed s code) (settled_state s)) (returns_heap (changed s code) s h)

-- as it is settled
valid_settled : (s : KernelState) → Valid s → Valid (settled_state s)
valid_settled s v = valid_moved s s.memory s.random (settled_state s).running v (record { follows = v.running.follows; branch = v.running.branch })

abbrev RestsInIt : KernelState → Type 0
RestsInIt t = IsAtRest t.running.context

returns_rested : (part : Part) (s : KernelState) → (takes_up_another part ≡ true → Valid s) → Returns part RestsInIt s
returns_rested ContextAlone s h = λ c on r. r
returns_rested AndMemory s h = λ m c on r. r
returns_rested AndRandom s h = λ x c on r. r
returns_rested AndPlace s h = λ m place c on r. r
returns_rested AndFiles s h = λ files errno c on fit r. r
returns_rested AndInput s h = λ m errno c on r. r
returns_rested AndLine s h = λ m line fits c on r. r
returns_rested AndThreads s h = λ threads current next c on fit r. r (h refl)
returns_rested AndEvents s h = λ events c on fit r. r
returns_rested AndChains s h = λ m chains c on fit r. r
returns_rested AndHeap s h = λ heap c on fit r. r
returns_rested AndHeapMemory s h = λ m heap c on fit r. r
returns_rested AndFrames s h = λ threads current next events frames c on r. (r (h refl)).1

pub returns_at_rest : ReturnsAtRest
returns_at_rest s code h = stay_ends RestsInIt Any s code (halts_any (changed s code) (settled_state s)) (returns_rested (changed s code) (settled_state s) (λ e. valid_settled s (h e)))

pub valid_kept : ValidKept
valid_kept s code valid =
    let u : KernelState = settled_state s in
    let v : Valid u = valid_settled s valid in
    stay_ends Valid Any s code (halts_any (changed s code) u)
    (returns_valid (changed s code) u v (λ m x place files errno line threads current next events chains heap c on fit fits threads_fit events_fit chains_fit heap_fits r.
    let t : KernelState = record u { threads = threads; current = current; next = next } in
    let w : KernelState = record t { events = events; chains = chains } in
    let filed : KernelState = record w { files = files; errno = errno } in
    let run : KernelState = record filed { memory = m; random = x; token = place; running = record { context = c; interrupts = on } } in
    let w_valid = valid_chained (record t { events = events }) chains (valid_evented t events (valid_threaded u threads current next v (threads_fit v)) events_fit) chains_fit in
    valid_heaped _ heap
    (valid_lined run line
    (valid_placed filed m x place (record { context = c; interrupts = on })
    (valid_filed w files errno w_valid fit) (rest_fits c (r v))) (fits v.line)) (heap_fits v)))
