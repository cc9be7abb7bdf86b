-- INTERRUPTS puts the elements of the chains and the lines that are due into the work area.
use Rattle.psx_flow.proofs.Kit.{◌≡◌, ℕ, suc, ◌+◌, ◌-◌, ◌*◌, ◌%◌, ◌^◌, ◌<◌, ◌≤◌, ◌++◌, List, [], ◌∷◌, length, refl, sym, ◌∙◌, subst, arith, Memory, word, put_word, Registers, Cop0, Run, Access, PortRead, Goal, Tree, Stop, Do, When, Calls, calls, Fair, fair, kernel_words, Part, Count, start, Sym, ended, Entry, applied}
use Rattle.std.proofs.Common.{zero, ◌/◌, Bool, true, false, cond, bit_and}
use Rattle.std.specs.Prelude.{slice_index_or}
use Rattle.std.specs.List.{concat, filter}
use Rattle.std.proofs.lemmas.List.{length-append}
use Rattle.psx_base.specs.Ports.{I_STAT, I_MASK}
use Rattle.psx_ins.specs.declared.ins.Ins.TheVariants.{LW, ADDIU, ANDI}
use Rattle.psx_base.specs.Context.{IsAtRest}
use Rattle.psx_base.specs.KernelState.{Task, KernelState}
use Rattle.psx_flow.specs.Told.{ports}
use Rattle.psx_flow.proofs.Log.{KernelWord}
use Rattle.kern_layout.specs.Fields.{Block, Stack}
use Rattle.kern_layout.specs.Tasks.{TasksAt}
use Rattle.kern_layout.specs.Reads.{chain}
use Rattle.kern_layout.proofs.Blocks.{put_other, stack_same}
use Rattle.kern_layout.proofs.MemoryStored.{word_stored}
use Rattle.abs_kernel.specs.Answered.{registers_of}
use Rattle.abs_kernel.specs.Tasks.{work}
use Rattle.abs_kernel.specs.Interrupt.{handled, is_due, interrupt_tasks, handles_interrupt}
use Rattle.abs_kernel.proofs.Interrupted.{none_under_way as tasks_none, interrupt_works}
use Rattle.kern_stay.specs.Shared.{tree, tested_there}
use Rattle.kern_stay.specs.Doors.{Holds, Arrives, AtWorkBegun, GoesOnWithin, ServesWithin, called_with, begun, most_interrupt_steps}
use Rattle.kern_stay.specs.declared.places.TheConstants.{WORK}
use Rattle.kern_stay.specs.declared.copy.TheConstants.{COPY_NODES}
use Rattle.kern_stay.specs.declared.copy_half.TheConstants.{COPY_HALF_NODES}
use Rattle.kern_stay.proofs.CopyingOn.{CopiesOn, copies_on, copies_on_behind}
use Rattle.kern_stay.proofs.Ending.{at_once}
use Rattle.kern_entry.specs.declared.places.TheConstants.{COPY, COPY_HALF, INTERRUPTS}
use Rattle.kern_entry.specs.declared.interrupts.TheConstants.{INTERRUPTS_NODES}
use Rattle.kern_entry.specs.FramesOwn.{frames_own}
use Rattle.kern_entry.proofs.TasksHeld.{Sized, sized, behind_none, behind_put, holds_behind}
use Rattle.kern_entry.proofs.TaskForms.{plain, elements_plain, lines_plain, none_under_way, tasks_at}
use Rattle.kern_entry.proofs.ChainsGathered.{Gathered, gathers}
use Rattle.kern_entry.proofs.LinesGathered.{HasTasks, Lined, bit_of, with_line, gathers_line, gathers_first}

abbrev C : Calls
C = calls kernel_words (frames_own ++ tested_there)

fair_own : Fair C
fair_own = fair kernel_words (frames_own ++ tested_there)

knows : CopiesOn COPY C
knows = copies_on_behind COPY (COPY_HALF, tree COPY_HALF_NODES) ((COPY, tree COPY_NODES) ∷ tested_there) refl (copies_on COPY tested_there)

-- what stands behind so many instructions, a chain and a line
abbrev behind : ℕ → Tree → Tree
behind zero T = T
behind (suc n) (Do i rest) = behind n rest
behind (suc n) T = T

abbrev behind_test : Tree → Tree
behind_test (When t a rest) = rest
behind_test _ = Stop

-- ---- the tasks in the work area

-- behind the stores of the lines' count and of no task under way
has_all : (m : Memory) (es ls : List ℕ) (n : Memory) → length es ≤ 32 → length ls ≤ 4 → HasTasks m es ls n → HasTasks m es ls (put_word (put_word n 0xEBAC (length ls)) 0xEB98 0) × TasksAt (word (put_word (put_word n 0xEBAC (length ls)) 0xEB98 0)) 0xEB00 (plain es ls)
has_all m es ls n few four h =
    let n1 : Memory = put_word n 0xEBAC (length ls) in
    let n2 : Memory = put_word n1 0xEB98 0 in
    let kept : (a : ℕ) → a % 4 ≡ 0 → (a ≡ 0xEBAC → ⊥) → (a ≡ 0xEB98 → ⊥) → word n2 a ≡ word n a = λ a al ne ne'.
    word_stored n1 0xEB98 0 a refl al ∙ put_other (word n1) 0xEB98 0 a ne' ∙ word_stored n 0xEBAC (length ls) a refl al ∙ put_other (word n) 0xEBAC (length ls) a ne in
    let elements : Stack (word n2) 0xEC00 es = stack_same (word n) (word n2) 0xEC00 0xEC80 es refl (omega (arith, few)) (λ a al lo up. kept a al (λ e. omega (arith, e, lo)) (λ e. omega (arith, e, lo))) h.elements in
    let lines : Stack (word n2) 0xEBB0 ls = stack_same (word n) (word n2) 0xEBB0 0xEBC0 ls refl (omega (arith, four)) (λ a al lo up. kept a al (λ e. omega (arith, e, lo)) (λ e. omega (arith, e, lo))) h.lines in
    let count : word n2 0xEBA8 ≡ length es = kept 0xEBA8 refl (λ e. omega (arith, e)) (λ e. omega (arith, e)) ∙ h.count in
    let line_count : word n2 0xEBAC ≡ length ls = word_stored n1 0xEB98 0 0xEBAC refl refl ∙ word_stored n 0xEBAC (length ls) 0xEBAC refl refl in
    let kind : word n2 0xEB98 ≡ 0 = word_stored n1 0xEB98 0 0xEB98 refl refl in (
      record { same = behind_put m n1 0xEB98 0 refl (omega arith) (omega arith) (behind_put m n 0xEBAC (length ls) refl (omega arith) (omega arith) h.same); elements = elements; count = count; lines = lines },
      tasks_at (word n2) (plain es ls) es ls (elements_plain es ls) (lines_plain es ls) (subst (Block (word n2) 0xEB00) (sym (none_under_way es ls)) (kind, tt))
          (record { element_count = count; line_count = line_count; lines = lines; elements = elements }),
    )

all_chains : (cs : List (List ℕ)) → length cs ≡ 4 → slice_index_or cs 0 [] ++ (slice_index_or cs 1 [] ++ (slice_index_or cs 2 [] ++ (slice_index_or cs 3 [] ++ []))) ≡ concat cs
all_chains [] e = absurd (omega (arith, e))
all_chains (a ∷ []) e = absurd (omega (arith, e))
all_chains (a ∷ b ∷ []) e = absurd (omega (arith, e))
all_chains (a ∷ b ∷ c ∷ []) e = absurd (omega (arith, e))
all_chains (a ∷ b ∷ c ∷ d ∷ []) e = refl
all_chains (a ∷ b ∷ c ∷ d ∷ f ∷ cs) e = absurd (omega (arith, e))

-- ---- the whole listing

abbrev T3 : Tree
T3 = behind 7 (tree INTERRUPTS_NODES)

abbrev next_of : ℕ → Tree → Tree
next_of n T = behind_test (behind n T)

abbrev T2 : Tree
T2 = next_of 2 T3

abbrev T1 : Tree
T1 = next_of 2 T2

abbrev T0 : Tree
T0 = next_of 2 T1

abbrev counting : Tree
counting = next_of 2 T0

-- what the listing has there: a chain's two places, and a line's bit and number
abbrev count_in : Tree → ℕ
count_in (Do (LW s t i) rest) = i
count_in _ = 0

abbrev from_in : Tree → ℕ
from_in (Do i (Do (ADDIU s t f) rest)) = f
from_in _ = 0

abbrev bit_in : Tree → ℕ
bit_in (Do (ANDI s t b) rest) = b
bit_in _ = 0

abbrev number_in : Tree → ℕ
number_in (Do i (When t (Do (ADDIU s d n) body) rest)) = n
number_in _ = 0

abbrev L6 : Tree
L6 = behind 6 counting

abbrev L5 : Tree
L5 = next_of 1 L6

abbrev L4 : Tree
L4 = next_of 1 L5

abbrev L0 : Tree
L0 = next_of 1 L4

abbrev ending : Tree
ending = next_of 1 L0

module _ (s : KernelState) (m : Memory) (arrived : Arrives s m) (rests : IsAtRest s.running.context) (stat mask : ℕ) where
  abbrev told : List Access
  told = PortRead I_MASK mask ∷ PortRead I_STAT stat ∷ []

  abbrev bits : ℕ
  bits = bit_and stat mask

  abbrev Aim : ℕ → Goal
  Aim to e = GoesOnWithin AtWorkBegun (handles_interrupt s) most_interrupt_steps to e

  abbrev K : Part
  K = ended (λ _. ⊥)

  sz : Sized s
  sz = sized s (interrupt_works s stat mask arrived.valid rests).valid

  few_of : (j : ℕ) → j < 4 → length (chain s j) ≤ 8
  few_of j lt = (arrived.valid.chains j [] (let n = arrived.valid.chains_count in omega (arith, n, lt))).few

  abbrev e3 : List ℕ
  e3 = chain s 3 ++ []

  abbrev e2 : List ℕ
  e2 = chain s 2 ++ e3

  abbrev e1 : List ℕ
  e1 = chain s 1 ++ e2

  abbrev e0 : List ℕ
  e0 = chain s 0 ++ e1

  few3 : length e3 ≤ 8
  few3 = let n = length-append (chain s 3) [] in let a = few_of 3 (omega arith) in omega (arith, n, a)

  few2 : length e2 ≤ 16
  few2 = let n = length-append (chain s 2) e3 in let a = few_of 2 (omega arith) in let b = few3 in omega (arith, n, a, b)

  few1 : length e1 ≤ 24
  few1 = let n = length-append (chain s 1) e2 in let a = few_of 1 (omega arith) in let b = few2 in omega (arith, n, a, b)

  few0 : length e0 ≤ 32
  few0 = let n = length-append (chain s 0) e1 in let a = few_of 0 (omega arith) in let b = few1 in omega (arith, n, a, b)

  abbrev l6 : List ℕ
  l6 = with_line bits 6 []

  abbrev l5 : List ℕ
  l5 = with_line bits 5 l6

  abbrev l4 : List ℕ
  l4 = with_line bits 4 l5

  abbrev l0 : List ℕ
  l0 = with_line bits 0 l4

  few_lines : (line : ℕ) (ls : List ℕ) (k : ℕ) → length ls ≤ k → length (with_line bits line ls) ≤ suc k
  few_lines line ls k few = go (bit_of bits line)
    where
      go : (b : Bool) → length (cond b (line ∷ ls) ls) ≤ suc k
      go true = omega (arith, few)
      go false = omega (arith, few)

  pc : word m 0xEB88 ≡ s.running.context.pc
  pc = arrived.holds.area.1.1.1.1.1.1.1.1.1.1.1.1.1.1.1.1.1.1.1.1.1.1.1.1.1.1.1.1.1.0

  -- at WORK
  comes : (e : Run) (n : Memory) → HasTasks m e0 l0 n → e.bytes ≡ put_word (put_word n 0xEBAC (length l0)) 0xEB98 0 → e.regs.r2 ≡ 0 → e.regs.r31 ≡ word m 0xEB88 → ports e.seen ≡ told → e.steps ≤ 384 → Aim WORK e
  comes e n has bytes r2 r31 told_is few =
      let four = few_lines 0 l4 3 (few_lines 4 l5 2 (few_lines 5 l6 1 (few_lines 6 [] 0 (omega arith)))) in
      let all = has_all m e0 l0 n few0 four has in
      let elements : e0 ≡ concat s.chains = all_chains s.chains arrived.valid.chains_count in
      let tasks : List Task = interrupt_tasks s stat mask in
      let at : e.regs.r31 ≡ s.running.context.pc = r31 ∙ pc in
      record {
        told = told;
        ports = told_is;
        follows = ((tt, refl), refl);
        goes = (
          few,
          omega (arith, few),
          at_once (λ x. AtWorkBegun x WORK e) (work s s.running tasks 0 s.running.context.pc) (
            refl,
            record {
              works = record {
                state = s;
                context = s.running;
                tasks = tasks;
                is = (λ j. work s s.running tasks (sym r2 j) (sym at j));
                working = interrupt_works s stat mask arrived.valid rests;
                holds = subst (Holds s) (sym bytes) (holds_behind s s.running sz m (put_word (put_word n 0xEBAC (length l0)) 0xEB98 0) all.0.same arrived.holds);
                there = subst (λ b. TasksAt (word b) 0xEB00 tasks) (sym bytes) (subst (λ es. TasksAt (word (put_word (put_word n 0xEBAC (length l0)) 0xEB98 0)) 0xEB00 (plain es l0)) elements all.1);
              };
              none = tasks_none (concat s.chains) (filter (is_due stat mask) handled);
            },
          ),
        );
      }

  -- from the last line on
  ends : (d : Registers) (z : Cop0) (n : Memory) (w : List Entry) (u : List Access) (l : Count) → Lined m e0 l0 bits (word m 0xEB88) told 364 d n w u l → Sym C ending (INTERRUPTS + 0x110) K Aim d z n w u l
  ends d z n w u l h =
      let four = few_lines 0 l4 3 (few_lines 4 l5 2 (few_lines 5 l6 1 (few_lines 6 [] 0 (omega arith)))) in
      let count : (0x80010000 + 4 * length l0 + 2 ^ 32 - 0x80010000) % 2 ^ 32 / 2 ^ 2 ≡ length l0 = omega (arith, four) in
      let within = h.within in
      rw (h.r13, h.r14, count) (comes _ (applied n w) h.has refl h.r2 h.r31 h.told_is (omega (arith, within)))

  -- from the lines on
  lines : (d : Registers) (z : Cop0) (n : Memory) (w : List Entry) (u : List Access) (l : Count) → Lined m e0 [] bits (word m 0xEB88) told 340 d n w u l → Sym C L6 (INTERRUPTS + 0xB4) K Aim d z n w u l
  lines d z n w u l h =
      gathers_line C Aim m e0 few0 bits (word m 0xEB88) told 6 [] (omega arith) 340 n u L5 (INTERRUPTS + 0xB4) K (bit_in L6) (number_in L6) refl refl refl (omega arith) d z w l h (λ d5 w5 u5 p5 h5.
      gathers_line C Aim m e0 few0 bits (word m 0xEB88) told 5 l6 (few_lines 6 [] 2 (omega arith)) 346 n u5 L4 (INTERRUPTS + 0xCC) K (bit_in L5) (number_in L5) refl refl refl (omega arith) d5 z w5 p5 h5 (λ d4 w4 u4 p4 h4.
      gathers_line C Aim m e0 few0 bits (word m 0xEB88) told 4 l5 (few_lines 5 l6 2 (few_lines 6 [] 1 (omega arith))) 352 n u4 L0 (INTERRUPTS + 0xE4) K (bit_in L4) (number_in L4) refl refl refl (omega arith) d4 z w4 p4 h4 (λ d0 w0 u0 p0 h0.
      gathers_first C Aim m e0 few0 bits (word m 0xEB88) told 0 l4 (few_lines 4 l5 2 (few_lines 5 l6 1 (few_lines 6 [] 0 (omega arith)))) 358 n u0 ending (INTERRUPTS + 0xFC) K (bit_in L0) refl refl d0 z w0 p0 h0 (λ e w u l h. ends e z n w u l h))))

  -- the elements are counted
  counts : (d : Registers) (z : Cop0) (n : Memory) (u : List Access) (l : Count) → Gathered m e0 bits told 327 d n u l → Sym C counting (INTERRUPTS + 0x9C) K Aim d z n [] u l
  counts d z n u l h =
      let few = few0 in
      let count : (0x80000000 + (0xEC00 + 4 * length e0) + 2 ^ 32 - 0x8000EC00) % 2 ^ 32 / 2 ^ 2 ≡ length e0 = omega (arith, few) in
      let ra : word n 0xEB88 ≡ word m 0xEB88 = h.same.words 0xEB88 refl (omega arith) in
      let within = h.within in
      rw (h.r14, h.r9, count) (lines (record d { r8 = 0x8000EC00; r9 = length e0; r13 = 0x80010000; r14 = 0x80010000; r31 = word n 0xEB88 }) z n (KernelWord 0xEBA8 (length e0) ∷ []) _ _ record {
        has = record {
          same = behind_put m n 0xEBA8 (length e0) refl (omega arith) (omega arith) h.same;
          elements = stack_same (word n) (word (put_word n 0xEBA8 (length e0))) 0xEC00 0xEC80 e0 refl (omega (arith, few)) (λ a al lo up. word_stored n 0xEBA8 (length e0) a refl al ∙ put_other (word n) 0xEBA8 (length e0) a (λ e. omega (arith, e, lo))) h.stack;
          count = word_stored n 0xEBA8 (length e0) 0xEBA8 refl refl;
          lines = tt;
        };
        r2 = h.r2;
        r13 = refl;
        r14 = refl;
        r16 = h.r16;
        r31 = ra;
        told_is = h.told_is;
        within = omega (arith, within);
      })

  -- from the last chain on
  chains : (d : Registers) (z : Cop0) (u : List Access) (l : Count) → Gathered m [] bits told 7 d m u l → Sym C T3 (INTERRUPTS + 0x1C) K Aim d z m [] u l
  chains d z u l g =
      let held = arrived.holds.reads.chains in
      gathers C knows Aim s sz m held bits told 3 (count_in T3) (from_in T3) (omega arith) (record { here = refl; from = refl }) T2 (INTERRUPTS + 0x1C) K [] (omega arith) 7 d z m u l g (λ d2 n2 u2 p2 h2.
      gathers C knows Aim s sz m held bits told 2 (count_in T2) (from_in T2) (omega arith) (record { here = refl; from = refl }) T1 (INTERRUPTS + 0x3C) K e3 (let f = few3 in omega (arith, f)) 87 d2 z n2 u2 p2 h2 (λ d1 n1 u1 p1 h1.
      gathers C knows Aim s sz m held bits told 1 (count_in T1) (from_in T1) (omega arith) (record { here = refl; from = refl }) T0 (INTERRUPTS + 0x5C) K e2 (let f = few2 in omega (arith, f)) 167 d1 z n1 u1 p1 h1 (λ d0 n0 u0 p0 h0.
      gathers C knows Aim s sz m held bits told 0 (count_in T0) (from_in T0) (omega arith) (record { here = refl; from = refl }) counting (INTERRUPTS + 0x7C) K e1 few1 247 d0 z n0 u0 p0 h0 (λ e n u l h. counts e z n u l h))))

pub serves : ServesWithin frames_own most_interrupt_steps AtWorkBegun handles_interrupt INTERRUPTS (tree INTERRUPTS_NODES)
serves s d z m h rests =
    start C fair_own (tree INTERRUPTS_NODES) INTERRUPTS (λ _. ⊥) (λ to e. GoesOnWithin AtWorkBegun (handles_interrupt s) most_interrupt_steps to e) (begun (called_with (registers_of s) d) z m) (λ stat small mask few.
    chains s m h rests stat mask (record (called_with (registers_of s) d) { r2 = 0; r9 = 0x8000EC00; r14 = 0x80010000; r15 = 0x1F800000; r16 = bit_and stat mask; r17 = mask }) z _ _ record {
      same = behind_none m;
      stack = tt;
      r2 = refl;
      r9 = refl;
      r14 = refl;
      r16 = refl;
      told_is = refl;
      within = omega arith;
    })
