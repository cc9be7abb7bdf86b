-- A text is one schedule at most, or has one first fault.
use Rattle.std.proofs.Common.{◌≡◌, ◌≢◌, ℕ, ◌<◌, ◌≤◌, List, [], length, Result, Ok, Err, refl, sym, ap, subst, ◌∙◌, ⊎_elim, arith}
use Rattle.std.proofs.lemmas.Bool.{cases_lt}
use Rattle.psx_sched.specs.declared.schedule.Entry.{Entry}
use Rattle.psx_sched.specs.declared.fault.SchedError.{SchedError}
use Rattle.psx_sched.specs.declared.fault.SchedError.TheVariants.{TooLong, BadLine, OutOfOrder, TooMany, Memory}
use Rattle.psx_sched.specs.Accepted.{longest, IsLinesThen, IsLineFault, IsFirstFault, IsScheduleOf}
use Rattle.psx_sched.proofs.EntryReading.{same_entry, line_some}
use Rattle.psx_sched.proofs.SameEntries.{NoneFollows, same_split}

ends_at_end : (entries : List Entry) → NoneFollows 0 0 entries []
ends_at_end entries next told begins room order = line_some next begins.0 told (sym begins.1)

ends_at_fault : (before : List Entry) (rest : List ℕ) (fault : SchedError) → IsLineFault before rest fault → NoneFollows 0 0 before rest
ends_at_fault before rest TooMany wrong next told begins room order = absurd (omega arith)
ends_at_fault before rest (BadLine number) wrong next told begins room order = wrong.2 next told begins
ends_at_fault before rest (OutOfOrder number) wrong next told begins room order =
    let late = wrong.2 in
    let same : next ≡ late.0 = same_entry next late.0 begins.0 late.2.0 told late.1 (sym begins.1 ∙ late.2.1) in
    let counts : next.count ≡ late.0.count = ap (λ (e : Entry). e.count) same in
    let less = late.3 in
    absurd (omega arith)
ends_at_fault before rest (TooLong limit) wrong next told begins room order = absurd wrong
ends_at_fault before rest Memory wrong next told begins room order = absurd wrong

same_wrong : (before : List Entry) (rest : List ℕ) (a b : SchedError) → IsLineFault before rest a → IsLineFault before rest b → a ≡ b
same_wrong before rest (TooLong limit) b wrong_a wrong_b = absurd wrong_a
same_wrong before rest Memory b wrong_a wrong_b = absurd wrong_a
same_wrong before rest TooMany TooMany wrong_a wrong_b = refl
same_wrong before rest TooMany (BadLine n) wrong_a wrong_b = absurd (omega arith)
same_wrong before rest TooMany (OutOfOrder n) wrong_a wrong_b = absurd (omega arith)
same_wrong before rest TooMany (TooLong limit) wrong_a wrong_b = absurd wrong_b
same_wrong before rest TooMany Memory wrong_a wrong_b = absurd wrong_b
same_wrong before rest (BadLine m) TooMany wrong_a wrong_b = absurd (omega arith)
same_wrong before rest (BadLine m) (BadLine n) wrong_a wrong_b = ap BadLine (omega arith)
same_wrong before rest (BadLine m) (OutOfOrder n) wrong_a wrong_b = let late = wrong_b.2 in absurd (wrong_a.2 late.0 late.1 late.2)
same_wrong before rest (BadLine m) (TooLong limit) wrong_a wrong_b = absurd wrong_b
same_wrong before rest (BadLine m) Memory wrong_a wrong_b = absurd wrong_b
same_wrong before rest (OutOfOrder m) TooMany wrong_a wrong_b = absurd (omega arith)
same_wrong before rest (OutOfOrder m) (BadLine n) wrong_a wrong_b = let late = wrong_a.2 in absurd (wrong_b.2 late.0 late.1 late.2)
same_wrong before rest (OutOfOrder m) (OutOfOrder n) wrong_a wrong_b = ap OutOfOrder (omega arith)
same_wrong before rest (OutOfOrder m) (TooLong limit) wrong_a wrong_b = absurd wrong_b
same_wrong before rest (OutOfOrder m) Memory wrong_a wrong_b = absurd wrong_b

-- what a text gives where its lines of a schedule end
abbrev Gives : List Entry → List ℕ → Result (List Entry) SchedError → Type 0
Gives before rest (Ok entries) = (entries ≡ before) × (rest ≡ [])
Gives before rest (Err fault) = (rest ≢ []) × IsLineFault before rest fault

same_given : (before : List Entry) (rest : List ℕ) (a b : Result (List Entry) SchedError) → Gives before rest a → Gives before rest b → a ≡ b
same_given before rest (Ok xs) (Ok ys) a b = ap Ok (a.0 ∙ sym b.0)
same_given before rest (Ok xs) (Err fault) a b = absurd (b.0 a.1)
same_given before rest (Err fault) (Ok ys) a b = absurd (a.0 b.1)
same_given before rest (Err one) (Err other) a b = ap Err (same_wrong before rest one other a.1 b.1)

record Reached (text : List ℕ) (answer : Result (List Entry) SchedError) : Type 0 where
  before : List Entry
  rest : List ℕ
  split : IsLinesThen text before rest
  ends : NoneFollows 0 0 before rest
  gives : Gives before rest answer

reached_fault : (text : List ℕ) (fault : SchedError) → IsFirstFault text fault → Reached text (Err fault)
reached_fault text fault first = record {
  before = first.before;
  rest = first.rest;
  split = first.split;
  ends = ends_at_fault first.before first.rest fault first.wrong;
  gives = (first.some, first.wrong);
}

reached : (text : List ℕ) (answer : Result (List Entry) SchedError) → length text ≤ longest → IsScheduleOf text answer → Reached text answer
reached text (Ok entries) short is = record { before = entries; rest = []; split = is.1; ends = ends_at_end entries; gives = (refl, refl) }
reached text (Err (TooLong limit)) short is = absurd (omega arith)
reached text (Err (BadLine line)) short is = reached_fault text (BadLine line) is.1
reached text (Err (OutOfOrder line)) short is = reached_fault text (OutOfOrder line) is.1
reached text (Err TooMany) short is = reached_fault text TooMany is.1
reached text (Err Memory) short is = reached_fault text Memory is.1

same_reached : (text : List ℕ) (a b : Result (List Entry) SchedError) → Reached text a → Reached text b → a ≡ b
same_reached text a b at_a at_b =
    let both = same_split 0 0 at_a.before at_b.before at_a.rest at_b.rest at_a.split.bytes at_b.split.bytes at_a.split.schedule.ordered at_b.split.schedule.ordered
    (omega arith) (omega arith) (sym at_a.split.is ∙ at_b.split.is) at_a.ends at_b.ends in
    same_given at_b.before at_b.rest a b
    (subst (λ (rest : List ℕ). Gives at_b.before rest a) both.1 (subst (λ (before : List Entry). Gives before at_a.rest a) both.0 at_a.gives)) at_b.gives

too_long : (text : List ℕ) (answer : Result (List Entry) SchedError) → longest < length text → IsScheduleOf text answer → answer ≡ Err (TooLong longest)
too_long text (Ok entries) long is = absurd (omega arith)
too_long text (Err (TooLong limit)) long is = ap (λ l. Err (TooLong l)) is.1
too_long text (Err (BadLine line)) long is = absurd (omega arith)
too_long text (Err (OutOfOrder line)) long is = absurd (omega arith)
too_long text (Err TooMany) long is = absurd (omega arith)
too_long text (Err Memory) long is = absurd (omega arith)

-- a text is one schedule at most, or has one first fault
pub one_answer : (text : List ℕ) (a b : Result (List Entry) SchedError) → IsScheduleOf text a → IsScheduleOf text b → a ≡ b
one_answer text a b is_a is_b = ⊎_elim
    (λ long. too_long text a long is_a ∙ sym (too_long text b long is_b))
    (λ short. same_reached text a b (reached text a short is_a) (reached text b short is_b)) (cases_lt longest (length text))
