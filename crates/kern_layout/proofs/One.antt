-- Words read as one state only, but for what they don't show.
use Rattle.std.proofs.Common.{◌≡◌, ℕ, ◌+◌, ◌*◌, ◌%◌, ◌^◌, ◌<◌, Bool, true, false, cond, List, [], ◌∷◌, ◌++◌, length, refl, sym, ap, ◌∙◌, subst, arith, inl, inr, get_or-set_same, get_or-set_other, ne_eqb}
use Rattle.std.specs.Prelude.{◌⊎◌, Option, Some, None, slice_index_or, slice_index, slice_set, map}
use Rattle.std.proofs.lemmas.List.{length-set}
use Rattle.std.proofs.lemmas.Bool.{cases_eq}
use Rattle.psx_base.specs.Context.{IsAtRest}
use Rattle.psx_base.specs.Memory.{no_bytes}
use Rattle.psx_base.specs.KernelState.{ThreadContext, Thread, Free, Used, Event, Task, Element, Second, Line, Scan, Frame, KernelState}
use Rattle.kern_layout.specs.Fields.{Block, Rows}
use Rattle.kern_layout.specs.Contexts.{saved, saved_sr_of, thread_fields}
use Rattle.kern_layout.specs.Tasks.{under_way, elements_of, lines_of, InOrder, under_way_fields, TasksAt, FrameAt}
use Rattle.kern_layout.specs.Reads.{Reads, event_fields, no_event, file_fields, no_frame, no_context, ChainAt, next_word, frame_at, thread_at}
use Rattle.kern_layout.specs.Valid.{Valid, ThreadRests, FileFits}
use Rattle.kern_layout.specs.Shown.{only_status, shown}
use Rattle.kern_layout.proofs.Blocks.{lists_one, stack_one}
use Rattle.kern_layout.proofs.HeapLinks.{linked_one}

-- ---- contexts and threads

sr_one : (a b : Bool) → saved_sr_of a ≡ saved_sr_of b → a ≡ b
sr_one true true e = refl
sr_one true false e = absurd (let f : ◌≡◌ {A = ℕ} 0x404 0x400 = e in omega arith)
sr_one false true e = absurd (let f : ◌≡◌ {A = ℕ} 0x400 0x404 = e in omega arith)
sr_one false false e = refl

context_one : (w : ℕ → ℕ) (at : ℕ) (t u : ThreadContext) → IsAtRest t.context → IsAtRest u.context → Block w at (saved t) → Block w at (saved u) → t ≡ u
context_one w at t u a b h k =
    let p_r1 = sym h.0 ∙ k.0 in
    let p_r2 = sym h.1.0 ∙ k.1.0 in
    let p_r3 = sym h.1.1.0 ∙ k.1.1.0 in
    let p_r4 = sym h.1.1.1.0 ∙ k.1.1.1.0 in
    let p_r5 = sym h.1.1.1.1.0 ∙ k.1.1.1.1.0 in
    let p_r6 = sym h.1.1.1.1.1.0 ∙ k.1.1.1.1.1.0 in
    let p_r7 = sym h.1.1.1.1.1.1.0 ∙ k.1.1.1.1.1.1.0 in
    let p_r8 = sym h.1.1.1.1.1.1.1.0 ∙ k.1.1.1.1.1.1.1.0 in
    let p_r9 = sym h.1.1.1.1.1.1.1.1.0 ∙ k.1.1.1.1.1.1.1.1.0 in
    let p_r10 = sym h.1.1.1.1.1.1.1.1.1.0 ∙ k.1.1.1.1.1.1.1.1.1.0 in
    let p_r11 = sym h.1.1.1.1.1.1.1.1.1.1.0 ∙ k.1.1.1.1.1.1.1.1.1.1.0 in
    let p_r12 = sym h.1.1.1.1.1.1.1.1.1.1.1.0 ∙ k.1.1.1.1.1.1.1.1.1.1.1.0 in
    let p_r13 = sym h.1.1.1.1.1.1.1.1.1.1.1.1.0 ∙ k.1.1.1.1.1.1.1.1.1.1.1.1.0 in
    let p_r14 = sym h.1.1.1.1.1.1.1.1.1.1.1.1.1.0 ∙ k.1.1.1.1.1.1.1.1.1.1.1.1.1.0 in
    let p_r15 = sym h.1.1.1.1.1.1.1.1.1.1.1.1.1.1.0 ∙ k.1.1.1.1.1.1.1.1.1.1.1.1.1.1.0 in
    let p_r16 = sym h.1.1.1.1.1.1.1.1.1.1.1.1.1.1.1.0 ∙ k.1.1.1.1.1.1.1.1.1.1.1.1.1.1.1.0 in
    let p_r17 = sym h.1.1.1.1.1.1.1.1.1.1.1.1.1.1.1.1.0 ∙ k.1.1.1.1.1.1.1.1.1.1.1.1.1.1.1.1.0 in
    let p_r18 = sym h.1.1.1.1.1.1.1.1.1.1.1.1.1.1.1.1.1.0 ∙ k.1.1.1.1.1.1.1.1.1.1.1.1.1.1.1.1.1.0 in
    let p_r19 = sym h.1.1.1.1.1.1.1.1.1.1.1.1.1.1.1.1.1.1.0 ∙ k.1.1.1.1.1.1.1.1.1.1.1.1.1.1.1.1.1.1.0 in
    let p_r20 = sym h.1.1.1.1.1.1.1.1.1.1.1.1.1.1.1.1.1.1.1.0 ∙ k.1.1.1.1.1.1.1.1.1.1.1.1.1.1.1.1.1.1.1.0 in
    let p_r21 = sym h.1.1.1.1.1.1.1.1.1.1.1.1.1.1.1.1.1.1.1.1.0 ∙ k.1.1.1.1.1.1.1.1.1.1.1.1.1.1.1.1.1.1.1.1.0 in
    let p_r22 = sym h.1.1.1.1.1.1.1.1.1.1.1.1.1.1.1.1.1.1.1.1.1.0 ∙ k.1.1.1.1.1.1.1.1.1.1.1.1.1.1.1.1.1.1.1.1.1.0 in
    let p_r23 = sym h.1.1.1.1.1.1.1.1.1.1.1.1.1.1.1.1.1.1.1.1.1.1.0 ∙ k.1.1.1.1.1.1.1.1.1.1.1.1.1.1.1.1.1.1.1.1.1.1.0 in
    let p_r24 = sym h.1.1.1.1.1.1.1.1.1.1.1.1.1.1.1.1.1.1.1.1.1.1.1.0 ∙ k.1.1.1.1.1.1.1.1.1.1.1.1.1.1.1.1.1.1.1.1.1.1.1.0 in
    let p_r25 = sym h.1.1.1.1.1.1.1.1.1.1.1.1.1.1.1.1.1.1.1.1.1.1.1.1.0 ∙ k.1.1.1.1.1.1.1.1.1.1.1.1.1.1.1.1.1.1.1.1.1.1.1.1.0 in
    let p_r28 = sym h.1.1.1.1.1.1.1.1.1.1.1.1.1.1.1.1.1.1.1.1.1.1.1.1.1.0 ∙ k.1.1.1.1.1.1.1.1.1.1.1.1.1.1.1.1.1.1.1.1.1.1.1.1.1.0 in
    let p_r29 = sym h.1.1.1.1.1.1.1.1.1.1.1.1.1.1.1.1.1.1.1.1.1.1.1.1.1.1.0 ∙ k.1.1.1.1.1.1.1.1.1.1.1.1.1.1.1.1.1.1.1.1.1.1.1.1.1.1.0 in
    let p_r30 = sym h.1.1.1.1.1.1.1.1.1.1.1.1.1.1.1.1.1.1.1.1.1.1.1.1.1.1.1.0 ∙ k.1.1.1.1.1.1.1.1.1.1.1.1.1.1.1.1.1.1.1.1.1.1.1.1.1.1.1.0 in
    let p_r31 = sym h.1.1.1.1.1.1.1.1.1.1.1.1.1.1.1.1.1.1.1.1.1.1.1.1.1.1.1.1.0 ∙ k.1.1.1.1.1.1.1.1.1.1.1.1.1.1.1.1.1.1.1.1.1.1.1.1.1.1.1.1.0 in
    let p_pc = sym h.1.1.1.1.1.1.1.1.1.1.1.1.1.1.1.1.1.1.1.1.1.1.1.1.1.1.1.1.1.0 ∙ k.1.1.1.1.1.1.1.1.1.1.1.1.1.1.1.1.1.1.1.1.1.1.1.1.1.1.1.1.1.0 in
    let p_hi = sym h.1.1.1.1.1.1.1.1.1.1.1.1.1.1.1.1.1.1.1.1.1.1.1.1.1.1.1.1.1.1.0 ∙ k.1.1.1.1.1.1.1.1.1.1.1.1.1.1.1.1.1.1.1.1.1.1.1.1.1.1.1.1.1.1.0 in
    let p_lo = sym h.1.1.1.1.1.1.1.1.1.1.1.1.1.1.1.1.1.1.1.1.1.1.1.1.1.1.1.1.1.1.1.0 ∙ k.1.1.1.1.1.1.1.1.1.1.1.1.1.1.1.1.1.1.1.1.1.1.1.1.1.1.1.1.1.1.1.0 in
    let p_sr = sym h.1.1.1.1.1.1.1.1.1.1.1.1.1.1.1.1.1.1.1.1.1.1.1.1.1.1.1.1.1.1.1.1.0 ∙ k.1.1.1.1.1.1.1.1.1.1.1.1.1.1.1.1.1.1.1.1.1.1.1.1.1.1.1.1.1.1.1.1.0 in
    let p_k0 = a.k0 ∙ p_pc ∙ sym b.k0 in
    let p_k1 = a.k1 ∙ sym b.k1 in
    let p_next = a.follows ∙ ap (λ p. (p + 4) % 2 ^ 32) p_pc ∙ sym b.follows in
    let p_slot = a.no_slot ∙ sym b.no_slot in
    let p_pending = a.none_pending ∙ sym b.none_pending in
    let p_on = sr_one t.interrupts u.interrupts p_sr in
    λ i. record { context = record { regs = record { r1 = p_r1 i; r2 = p_r2 i; r3 = p_r3 i; r4 = p_r4 i; r5 = p_r5 i; r6 = p_r6 i; r7 = p_r7 i; r8 = p_r8 i; r9 = p_r9 i; r10 = p_r10 i; r11 = p_r11 i; r12 = p_r12 i; r13 = p_r13 i; r14 = p_r14 i; r15 = p_r15 i; r16 = p_r16 i; r17 = p_r17 i; r18 = p_r18 i; r19 = p_r19 i; r20 = p_r20 i; r21 = p_r21 i; r22 = p_r22 i; r23 = p_r23 i; r24 = p_r24 i; r25 = p_r25 i; r26 = p_k0 i; r27 = p_k1 i; r28 = p_r28 i; r29 = p_r29 i; r30 = p_r30 i; r31 = p_r31 i; hi = p_hi i; lo = p_lo i }; pending = p_pending i; pc = p_pc i; next = p_next i; in_slot = p_slot i }; interrupts = p_on i }

used_not_free : ◌≡◌ {A = ℕ} 0x1000 0x4000 → ⊥
used_not_free e = omega arith

-- a thread that isn't the running one
thread_one : (w : ℕ → ℕ) (at current n : ℕ) (t u : Thread) → (n ≡ current → ⊥) → ThreadRests t → ThreadRests u → Block w at (thread_fields current n t) → Block w at (thread_fields current n u) → t ≡ u
thread_one w at current n Free Free ne a b h k = refl
thread_one w at current n Free (Used u) ne a b h k = absurd (used_not_free (sym h.0 ∙ k.0))
thread_one w at current n (Used t) Free ne a b h k = absurd (used_not_free (sym k.0 ∙ h.0))
thread_one w at current n (Used t) (Used u) ne a b h k =
    let open_block = λ (x : ThreadContext) (z : Block w at (cond (Rattle.std.specs.Prelude.nat_eq n current) [] (saved x))). subst (λ c. Block w at (cond c [] (saved x))) (ne_eqb n current ne) z in
    ap Used (context_one w at t u a b (open_block t h.1) (open_block u k.1))

-- the running one
status_one : (w : ℕ → ℕ) (at current n : ℕ) (t u : Thread) → Block w at (thread_fields current n t) → Block w at (thread_fields current n u) → only_status t ≡ only_status u
status_one w at current n Free Free h k = refl
status_one w at current n Free (Used u) h k = absurd (used_not_free (sym h.0 ∙ k.0))
status_one w at current n (Used t) Free h k = absurd (used_not_free (sym k.0 ∙ h.0))
status_one w at current n (Used t) (Used u) h k = refl

-- ---- events and files

event_one : (w : ℕ → ℕ) (at i : ℕ) (e f : Event) → Block w at (event_fields i e) → Block w at (event_fields i f) → e ≡ f
event_one w at i e f h k =
    let class = sym h.0 ∙ k.0 in
    let status = sym h.1.0 ∙ k.1.0 in
    let spec = sym h.1.1.0 ∙ k.1.1.0 in
    let mode = sym h.1.1.1.0 ∙ k.1.1.1.0 in
    let function = sym h.1.1.1.1.0 ∙ k.1.1.1.1.0 in
    λ j. record { status = status j; class = class j; spec = spec j; mode = mode j; function = function j }

file_one : (w : ℕ → ℕ) (at n : ℕ) (f g : Option ℕ) → FileFits f → FileFits g → Block w at (file_fields n f) → Block w at (file_fields n g) → f ≡ g
file_one w at n None None a b h k = refl
file_one w at n None (Some m) a b h k = absurd (let e : 0 ≡ m = sym h.0 ∙ k.0 in omega (arith, e, b.0))
file_one w at n (Some m) None a b h k = absurd (let e : 0 ≡ m = sym k.0 ∙ h.0 in omega (arith, e, a.0))
file_one w at n (Some l) (Some m) a b h k = ap Some (sym h.0 ∙ k.0)

next_one : (a b : Option ℕ) → next_word a ≡ next_word b → a ≡ b
next_one None None e = refl
next_one None (Some n) e = absurd (omega arith)
next_one (Some n) None e = absurd (omega arith)
next_one (Some m) (Some n) e = ap Some (let f : m ≡ n = omega arith in f)

-- ---- frames

kinds : (a b : ℕ) → (a ≡ b → ⊥) → {A : Type 0} → a ≡ b → A
kinds a b ne e = absurd (ne e)

-- the task under way is one
way_one : (w : ℕ → ℕ) (at : ℕ) (ts us : List Task) → Block w at (under_way_fields ts) → Block w at (under_way_fields us) → under_way ts ≡ under_way us
way_one w at [] [] h k = refl
way_one w at [] (Element e' ∷ us) h k = refl
way_one w at [] (Second e' ∷ us) h k = kinds 0 1 (omega arith) (sym h.0 ∙ k.0)
way_one w at [] (Line n' ∷ us) h k = refl
way_one w at [] (Scan class' spec' j' ∷ us) h k = kinds 0 2 (omega arith) (sym h.0 ∙ k.0)
way_one w at (Element e ∷ ts) [] h k = refl
way_one w at (Element e ∷ ts) (Element e' ∷ us) h k = refl
way_one w at (Element e ∷ ts) (Second e' ∷ us) h k = kinds 0 1 (omega arith) (sym h.0 ∙ k.0)
way_one w at (Element e ∷ ts) (Line n' ∷ us) h k = refl
way_one w at (Element e ∷ ts) (Scan class' spec' j' ∷ us) h k = kinds 0 2 (omega arith) (sym h.0 ∙ k.0)
way_one w at (Second e ∷ ts) [] h k = kinds 1 0 (omega arith) (sym h.0 ∙ k.0)
way_one w at (Second e ∷ ts) (Element e' ∷ us) h k = kinds 1 0 (omega arith) (sym h.0 ∙ k.0)
way_one w at (Second e ∷ ts) (Second e' ∷ us) h k = let e = sym h.1.0 ∙ k.1.0 in λ i. Second (e i) ∷ []
way_one w at (Second e ∷ ts) (Line n' ∷ us) h k = kinds 1 0 (omega arith) (sym h.0 ∙ k.0)
way_one w at (Second e ∷ ts) (Scan class' spec' j' ∷ us) h k = kinds 1 2 (omega arith) (sym h.0 ∙ k.0)
way_one w at (Line n ∷ ts) [] h k = refl
way_one w at (Line n ∷ ts) (Element e' ∷ us) h k = refl
way_one w at (Line n ∷ ts) (Second e' ∷ us) h k = kinds 0 1 (omega arith) (sym h.0 ∙ k.0)
way_one w at (Line n ∷ ts) (Line n' ∷ us) h k = refl
way_one w at (Line n ∷ ts) (Scan class' spec' j' ∷ us) h k = kinds 0 2 (omega arith) (sym h.0 ∙ k.0)
way_one w at (Scan class spec j ∷ ts) [] h k = kinds 2 0 (omega arith) (sym h.0 ∙ k.0)
way_one w at (Scan class spec j ∷ ts) (Element e' ∷ us) h k = kinds 2 0 (omega arith) (sym h.0 ∙ k.0)
way_one w at (Scan class spec j ∷ ts) (Second e' ∷ us) h k = kinds 2 1 (omega arith) (sym h.0 ∙ k.0)
way_one w at (Scan class spec j ∷ ts) (Line n' ∷ us) h k = kinds 2 0 (omega arith) (sym h.0 ∙ k.0)
way_one w at (Scan class spec j ∷ ts) (Scan class' spec' j' ∷ us) h k = let p = sym h.1.0 ∙ k.1.0 in let q = sym h.1.1.0 ∙ k.1.1.0 in let r = sym h.1.1.1.0 ∙ k.1.1.1.0 in λ i. Scan (p i) (q i) (r i) ∷ []

tasks_one : (w : ℕ → ℕ) (at : ℕ) (ts us : List Task) → InOrder ts → InOrder us → TasksAt w at ts → TasksAt w at us → ts ≡ us
tasks_one w at ts us a b h k =
    let way = way_one w at ts us h.first k.first in
    let elements = stack_one w (at + 0x100) (elements_of ts) (elements_of us) (sym h.counts.0 ∙ k.counts.0) h.elements k.elements in
    let lines = stack_one w (at + 0xB0) (lines_of ts) (lines_of us) (sym h.counts.1.0 ∙ k.counts.1.0) h.lines k.lines in
    a ∙ (λ i. way i ++ (map Element (elements i) ++ map Line (lines i))) ∙ sym b

frame_one : (w : ℕ → ℕ) (at : ℕ) (f g : Frame) → IsAtRest f.context.context → IsAtRest g.context.context → InOrder f.tasks → InOrder g.tasks → FrameAt w at f → FrameAt w at g → f ≡ g
frame_one w at f g a b c d h k =
    let context = context_one w at f.context g.context a b h.context k.context in
    let tasks = tasks_one w at f.tasks g.tasks c d h.tasks k.tasks in
    λ i. record { context = context i; tasks = tasks i }

-- ---- the state

-- elements that are the same at each number, where the list ends too
chain_one : (w : ℕ → ℕ) (at : ℕ) (es fs : List ℕ) → ChainAt w at es → ChainAt w at fs → es ≡ fs
chain_one w at es fs h k = stack_one w (at + 4) es fs (sym h.count ∙ k.count) h.elements k.elements

threads_one : (w : ℕ → ℕ) (m n : ℕ) (ts us : List Thread) → m ≡ n → length ts ≡ length us → ((k : ℕ) → k < length ts → ThreadRests (slice_index_or ts k Free)) → ((k : ℕ) → k < length us → ThreadRests (slice_index_or us k Free)) → m < length ts
    → Rows w 0xB000 0xC0 (thread_fields m) ts Free → Rows w 0xB000 0xC0 (thread_fields n) us Free → slice_set ts m (only_status (slice_index_or ts m Free)) ≡ slice_set us n (only_status (slice_index_or us n Free))
threads_one w m n ts us e len a b lt h k =
    let t' = slice_set ts m (only_status (slice_index_or ts m Free)) in
    let u' = slice_set us n (only_status (slice_index_or us n Free)) in
    let h' = subst (λ z. Rows w 0xB000 0xC0 (thread_fields z) ts Free) e h in
    lists_one Free t' u' (length-set ts m (only_status (slice_index_or ts m Free)) ∙ len ∙ sym (length-set us n (only_status (slice_index_or us n Free))))
    (λ j lj. at_place j (omega (arith, lj, length-set ts m (only_status (slice_index_or ts m Free)))) h' (cases_eq j m))
  where
    at_place : (j : ℕ) → j < length ts → Rows w 0xB000 0xC0 (thread_fields n) ts Free → (j ≡ m) ⊎ (j ≡ m → ⊥) → slice_index_or (slice_set ts m (only_status (slice_index_or ts m Free))) j Free ≡ slice_index_or (slice_set us n (only_status (slice_index_or us n Free))) j Free
    at_place j lj h' (inl q) =
        let here = status_one w (thread_at m) n m (slice_index_or ts m Free) (slice_index_or us m Free) (h' m lt) (k m (omega (arith, len, lt))) in
        ap (λ z. slice_index_or (slice_set ts m (only_status (slice_index_or ts m Free))) z Free) q
        ∙ get_or-set_same ts m (only_status (slice_index_or ts m Free)) Free lt
        ∙ here
        ∙ ap (λ z. only_status (slice_index_or us z Free)) e
        ∙ sym (get_or-set_same us n (only_status (slice_index_or us n Free)) Free (omega (arith, len, lt, e)))
        ∙ sym (ap (λ z. slice_index_or (slice_set us n (only_status (slice_index_or us n Free))) z Free) (q ∙ e))
    at_place j lj h' (inr ne) =
        get_or-set_other ts m j (only_status (slice_index_or ts m Free)) Free ne
        ∙ thread_one w (thread_at j) n j (slice_index_or ts j Free) (slice_index_or us j Free) (λ q. ne (q ∙ sym e)) (a j lj) (b j (omega (arith, len, lj))) (h' j lj) (k j (omega (arith, len, lj)))
        ∙ sym (get_or-set_other us n j (only_status (slice_index_or us n Free)) Free (λ q. ne (q ∙ sym e)))

pub reads_one : (w b : ℕ → ℕ) (s t : KernelState) → Valid s → Valid t → Reads s w b → Reads t w b → shown s ≡ shown t
reads_one w b s t v u h k =
    let p = h.variables in
    let q = k.variables in
    let current = sym p.0 ∙ q.0 in
    let next = next_one s.next t.next (sym p.1.0 ∙ q.1.0) in
    let frame_count = sym p.1.1.0 ∙ q.1.1.0 in
    let thread_count = sym p.1.1.1.0 ∙ q.1.1.1.0 in
    let event_count = sym p.1.1.1.1.0 ∙ q.1.1.1.1.0 in
    let random = sym p.1.1.1.1.1.0 ∙ q.1.1.1.1.1.0 in
    let token = sym p.1.1.1.1.1.1.0 ∙ q.1.1.1.1.1.1.0 in
    let errno = sym p.1.1.1.1.1.1.1.0 ∙ q.1.1.1.1.1.1.1.0 in
    let line_length = sym p.1.1.1.1.1.1.1.1.0 ∙ q.1.1.1.1.1.1.1.1.0 in
    let base = sym p.1.1.1.1.1.1.1.1.1.0 ∙ q.1.1.1.1.1.1.1.1.1.0 in
    let threads = threads_one w s.current t.current s.threads t.threads current thread_count (λ j l. v.threads j Free l) (λ j l. u.threads j Free l) v.current h.threads k.threads in
    let events = lists_one no_event s.events t.events event_count (λ i l. event_one w (0xBC00 + 0x1C * i) i (slice_index_or s.events i no_event) (slice_index_or t.events i no_event) (h.events i l) (k.events i (omega (arith, l, event_count)))) in
    let frames = lists_one no_frame s.frames t.frames frame_count (λ n l. let l' : n < length t.frames = omega (arith, l, frame_count) in let f = v.frames n no_frame l in let g = u.frames n no_frame l' in frame_one w (frame_at n) (slice_index_or s.frames n no_frame) (slice_index_or t.frames n no_frame) f.rests g.rests f.tasks.order g.tasks.order (h.frames n l) (k.frames n l')) in
    let chains = lists_one [] s.chains t.chains (v.chains_count ∙ sym u.chains_count) (λ n l. let l' : n < length t.chains = omega (arith, l, v.chains_count, u.chains_count) in chain_one w (0xCF00 + 0x40 * n) (slice_index_or s.chains n []) (slice_index_or t.chains n []) (h.chains n l) (k.chains n l')) in
    let blocks = linked_one w 0xEA40 s.heap.blocks t.heap.blocks h.heap.blocks k.heap.blocks in
    let files = lists_one None s.files t.files (v.files_count ∙ sym u.files_count) (λ n l. let l' : n < length t.files = omega (arith, l, v.files_count, u.files_count) in file_one w (0xE800 + 4 * n) n (slice_index_or s.files n None) (slice_index_or t.files n None) (v.files n None l) (u.files n None l') (h.files n l) (k.files n l')) in
    let line = lists_one 0 s.line t.line line_length (λ n l. sym (h.line n l) ∙ k.line n (omega (arith, l, line_length))) in
    λ i. record { memory = no_bytes; running = no_context; threads = threads i; current = current i; next = next i; events = events i; frames = frames i; chains = chains i; heap = record { base = base i; blocks = blocks i }; files = files i; random = random i; token = token i; line = line i; errno = errno i }
