-- The tasks of an interrupt: they are those that a frame may have, so that an interrupt keeps a valid state valid.
use Rattle.std.proofs.Common.{◌≡◌, ℕ, suc, ◌+◌, ◌*◌, ◌≤◌, Bool, true, false, cond, List, [], ◌∷◌, ◌++◌, length, refl, sym, ap, arith, inl, inr}
use Rattle.std.specs.Prelude.{All, map}
use Rattle.std.specs.List.{concat, filter}
use Rattle.std.proofs.lemmas.List.{length-append}
use Rattle.std.proofs.lemmas.List.Elements.{All-append, All-tail}
use Rattle.psx_base.specs.Context.{IsAtRest}
use Rattle.psx_base.specs.KernelState.{Task, Element, Line, KernelState}
use Rattle.kern_layout.specs.Tasks.{under_way, elements_of, lines_of}
use Rattle.kern_layout.specs.Valid.{IsElement, AllFit, NoneAfterScan, TasksFit, ChainFits, Valid}
use Rattle.abs_kernel.specs.Interrupt.{interrupted, is_due, handled, interrupt_tasks, handles_interrupt}
use Rattle.abs_kernel.specs.StayLaws.{EachReturn}
use Rattle.abs_kernel.specs.WorkLaws.{Working, GoesOn}
use Rattle.abs_kernel.proofs.Ending.{at_rest, rest_fits}
use Rattle.abs_kernel.proofs.Moved.{valid_moved}
use Rattle.abs_kernel.proofs.Worked.{next_of, valid_no_next, work_keeps_valid}

-- ---- elements, and then lines

module _ (es ls : List ℕ) where
  abbrev pub tasks_of : List Task
  tasks_of = map Element es ++ map Line ls

line_elements : (ls : List ℕ) → elements_of (map Line ls) ≡ []
line_elements [] = refl
line_elements (l ∷ ls) = line_elements ls

line_lines : (ls : List ℕ) → lines_of (map Line ls) ≡ ls
line_lines [] = refl
line_lines (l ∷ ls) = ap (λ ns. l ∷ ns) (line_lines ls)

pub elements_are : (es ls : List ℕ) → elements_of (tasks_of es ls) ≡ es
elements_are [] ls = line_elements ls
elements_are (e ∷ es) ls = ap (λ ns. e ∷ ns) (elements_are es ls)

pub lines_are : (es ls : List ℕ) → lines_of (tasks_of es ls) ≡ ls
lines_are [] ls = line_lines ls
lines_are (e ∷ es) ls = lines_are es ls

-- none is under way
pub none_under_way : (es ls : List ℕ) → under_way (tasks_of es ls) ≡ []
none_under_way [] [] = refl
none_under_way [] (l ∷ ls) = refl
none_under_way (e ∷ es) ls = refl

no_scan : (es ls : List ℕ) → NoneAfterScan (tasks_of es ls)
no_scan [] [] = tt
no_scan [] (l ∷ ls) = tt
no_scan (e ∷ es) ls = tt

elements_fit : (events : ℕ) (es : List ℕ) (ts : List Task) → All IsElement es → AllFit events ts → AllFit events (map Element es ++ ts)
elements_fit events [] ts h g = g
elements_fit events (e ∷ es) ts h g = (h 0 e (omega arith), elements_fit events es ts (All-tail IsElement e es h) g)

-- ---- the chains, and the lines that are due

chains_few : (xs : List (List ℕ)) → All ChainFits xs → length (concat xs) ≤ 8 * length xs
chains_few [] h = omega arith
chains_few (x ∷ xs) h =
    let first = (h 0 x (omega arith)).few in
    let more = chains_few xs (All-tail ChainFits x xs h) in
    let both : length (x ++ concat xs) ≡ length x + length (concat xs) = length-append x (concat xs) in
    omega (arith, first, more, both)

chains_elements : (xs : List (List ℕ)) → All ChainFits xs → All IsElement (concat xs)
chains_elements [] h = λ k d lt. absurd (omega (arith, lt))
chains_elements (x ∷ xs) h = All-append IsElement x (concat xs) (h 0 x (omega arith)).each (chains_elements xs (All-tail ChainFits x xs h))

due_few : (due : ℕ → Bool) (ls : List ℕ) → length (filter due ls) ≤ length ls
due_few due [] = omega arith
due_few due (l ∷ ls) = go (due l) (due_few due ls)
  where
    go : (b : Bool) → length (filter due ls) ≤ length ls → length (cond b (l ∷ filter due ls) (filter due ls)) ≤ suc (length ls)
    go true h = omega (arith, h)
    go false h = omega (arith, h)

due_fit : (events : ℕ) (due : ℕ → Bool) (ls : List ℕ) → AllFit events (map Line ls) → AllFit events (map Line (filter due ls))
due_fit events due [] h = tt
due_fit events due (l ∷ ls) h = go (due l) (due_fit events due ls h.1)
  where
    go : (b : Bool) → AllFit events (map Line (filter due ls)) → AllFit events (map Line (cond b (l ∷ filter due ls) (filter due ls)))
    go true g = (h.0, g)
    go false g = g

-- ---- an interrupt

pub tasks_fit : (s : KernelState) (stat mask : ℕ) → Valid s → TasksFit (length s.events) (interrupt_tasks s stat mask)
tasks_fit s stat mask v =
    let es : List ℕ = concat s.chains in
    let ls : List ℕ = filter (is_due stat mask) handled in
    let u : [] ≡ under_way (tasks_of es ls) = sym (none_under_way es ls) in
    let e : es ≡ elements_of (tasks_of es ls) = sym (elements_are es ls) in
    let l : ls ≡ lines_of (tasks_of es ls) = sym (lines_are es ls) in
    let few = chains_few s.chains v.chains in
    let four = due_few (is_due stat mask) handled in
    record {
      order = λ i. u i ++ (map Element (e i) ++ map Line (l i));
      after_scan = no_scan es ls;
      elements = omega (arith, ap length e, few, v.chains_count);
      lines = omega (arith, ap length l, four);
      each = elements_fit (length s.events) es (map Line ls) (chains_elements s.chains v.chains)
          (due_fit (length s.events) (is_due stat mask) handled (inl refl, (inr (inl refl), (inr (inr (inl refl)), (inr (inr (inr refl)), tt)))));
    }

pub interrupted_valid : (s : KernelState) → Valid s → Valid (interrupted s)
interrupted_valid s v = valid_moved s s.memory s.random (interrupted s).running v (rest_fits _ (at_rest s.running.context _))

-- a state in whose context nothing is pending is one in which these are done
pub interrupt_works : (s : KernelState) (stat mask : ℕ) → Valid s → IsAtRest s.running.context → Working s s.running (interrupt_tasks s stat mask)
interrupt_works s stat mask v rests = record { valid = valid_no_next s v; next = next_of s s.next v.next; context = rests; tasks = tasks_fit s stat mask v }

pub interrupt_keeps_valid : (s : KernelState) → Valid s → IsAtRest s.running.context → EachReturn GoesOn (handles_interrupt s)
interrupt_keeps_valid s v rests = λ stat mask. work_keeps_valid s s.running (interrupt_tasks s stat mask) 0 s.running.context.pc (interrupt_works s stat mask v rests)
