-- Each text is one schedule, or has one first fault.
use Rattle.std.proofs.Common.{◌≡◌, ℕ, zero, suc, ◌+◌, ◌<◌, ◌≤◌, List, [], ◌∷◌, ◌++◌, length, drop, take, Result, Ok, Err, refl, sym, ap, subst, ◌∙◌, ◌⊎◌, inl, inr, ⊎_elim, append_assoc, append-nil, length-append, arith}
use Rattle.std.specs.Str.{bytes_eq}
use Rattle.std.proofs.lemmas.Bool.{cases_lt, cases_Bool, both_ways}
use Rattle.std.proofs.lemmas.Bool.Decides.{Decides-eqb}
use Rattle.std.proofs.lemmas.List.Concat.{flat_map-append}
use Rattle.std.proofs.lemmas.List.Elements.{All-push}
use Rattle.std.proofs.lemmas.Slice.Eq.{starts_is}
use Rattle.psx_sched.specs.declared.schedule.What.{What}
use Rattle.psx_sched.specs.declared.schedule.What.TheVariants.{Byte, Line}
use Rattle.psx_sched.specs.declared.schedule.Entry.{Entry}
use Rattle.psx_sched.specs.declared.fault.SchedError.{SchedError}
use Rattle.psx_sched.specs.declared.fault.SchedError.TheVariants.{TooLong, BadLine, OutOfOrder, TooMany}
use Rattle.psx_sched.specs.Schedule.{IsLine, last_count}
use Rattle.psx_sched.specs.Line.{line, lines_of}
use Rattle.psx_sched.specs.Accepted.{longest, most, IsByte, IsTold, BeginsWith, BeginsWithNone, IsLinesThen, IsScheduleOf, HasOneAnswer}
use Rattle.psx_sched.proofs.Ordered.{IsSchedule-push}
use Rattle.psx_sched.proofs.EntryReading.{entry_read, entry_read_is, length-line}
use Rattle.psx_sched.proofs.OneAnswer.{one_answer}

what_cases : (what : What) → (IsByte what × IsLine what) ⊎ (IsByte what → IsLine what → ⊥)
what_cases (Byte b) = ⊎_elim (λ below. inl (below, tt)) (λ above. inr (λ byte line. omega arith)) (cases_lt b 256)
what_cases (Line n) = ⊎_elim (λ above. inr (λ byte line. omega arith)) (λ below. inl (tt, below)) (cases_lt 10 n)

told_cases : (e : Entry) → IsTold e ⊎ (IsTold e → ⊥)
told_cases e = ⊎_elim
    (λ large. inr (λ told. omega arith))
    (λ small. ⊎_elim
    (λ fits. inl (record { plausible = record { count = small; line = fits.1 }; byte = fits.0 }))
    (λ other. inr (λ told. other told.byte told.plausible.line)) (what_cases e.what))
    (cases_lt 4000000000 e.count)

begins_cases : (text : List ℕ) (e : Entry) → BeginsWith text e ⊎ (BeginsWith text e → ⊥)
begins_cases text e =
    let test = bytes_eq (line e) (take (length (line e)) text) in
    let is = starts_is Decides-eqb text (line e) test refl in
    ⊎_elim (λ yes. inl (drop (length (line e)) text, is.0 yes)) (λ no. inr (λ begins. both_ways test no (is.1 begins.0 begins.1))) (cases_Bool test)

-- a text begins with the line of an entry, or with none
first_line : (text : List ℕ) → ((e : Entry) × IsTold e × BeginsWith text e) ⊎ BeginsWithNone text
first_line text =
    let same = λ (other : Entry) (told : IsTold other) (begins : BeginsWith text other). ap entry_read begins.1 ∙ entry_read_is other begins.0 told in
    ⊎_elim
    (λ told. ⊎_elim
    (λ begins. inl (entry_read text, told, begins))
    (λ none. inr (λ other told begins. none (subst (BeginsWith text) (sym (same other told begins)) begins)))
    (begins_cases text (entry_read text)))
    (λ none. inr (λ other told begins. none (subst IsTold (sym (same other told begins)) told)))
    (told_cases (entry_read text))

longer : (text : List ℕ) (before : List Entry) (rest : List ℕ) (e : Entry) → IsLinesThen text before rest → length before < most → last_count 0 before ≤ e.count → IsTold e
    → (begins : BeginsWith rest e) → IsLinesThen text (before ++ e ∷ []) begins.0
longer text before rest e split room order told begins = record {
  schedule = IsSchedule-push before e split.schedule room order told.plausible;
  bytes = All-push (λ (e : Entry). IsByte e.what) before e split.bytes told.byte;
  is = split.is ∙ ap (λ l. lines_of before ++ l) begins.1 ∙ sym (append_assoc (lines_of before) (line e) begins.0)
      ∙ ap (λ l. l ++ begins.0) (ap (λ l. lines_of before ++ l) (sym (append-nil (line e))) ∙ sym (flat_map-append line before (e ∷ [])));
}

abbrev Answer : List ℕ → Type 0
Answer text = (answer : Result (List Entry) SchedError) × IsScheduleOf text answer

shorter : (e : Entry) (after rest : List ℕ) (fuel : ℕ) → IsTold e → rest ≡ line e ++ after → length rest ≤ suc fuel → length after ≤ fuel
shorter e after rest fuel told is few = omega (arith, ap length is, length-append (line e) after, length-line e told)

answer_from : (fuel : ℕ) (text : List ℕ) (before : List Entry) (rest : List ℕ) → length text ≤ longest → IsLinesThen text before rest → length rest ≤ fuel → Answer text
answer_from fuel text before [] short split few = (Ok before, (short, split))
answer_from zero text before (x ∷ xs) short split few = absurd (omega arith)
answer_from (suc fuel) text before (x ∷ xs) short split few = ⊎_elim
    (λ room. ⊎_elim
    (λ found. ⊎_elim
    (λ late. (
      Err (OutOfOrder (length before + 1)),
      (
        short,
        record { before = before; rest = x ∷ xs; split = split; some = λ e. cc; wrong = (room, refl, (found.0, found.1, found.2, late)) },
      ),
    ))
    (λ order. answer_from fuel text (before ++ found.0 ∷ []) found.2.0 short (longer text before (x ∷ xs) found.0 split room order found.1 found.2)
    (shorter found.0 found.2.0 (x ∷ xs) fuel found.1 found.2.1 few))
    (cases_lt found.0.count (last_count 0 before)))
    (λ none. (
      Err (BadLine (length before + 1)),
      (
        short,
        record { before = before; rest = x ∷ xs; split = split; some = λ e. cc; wrong = (room, refl, none) },
      ),
    ))
    (first_line (x ∷ xs)))
    (λ full. (Err TooMany, (short, record { before = before; rest = x ∷ xs; split = split; some = λ e. cc; wrong = omega arith })))
    (cases_lt (length before) most)

pub has_one_answer : (text : List ℕ) → HasOneAnswer text
has_one_answer text =
    let found : Answer text = ⊎_elim
    (λ long. (Err (TooLong longest), (long, refl)))
    (λ short. answer_from (length text) text [] text short (record { schedule = record { few = omega arith; ordered = tt }; bytes = λ k d below. absurd (omega arith); is = refl }) (omega arith))
    (cases_lt longest (length text)) in
    (found.0, found.1, λ other is. one_answer text other found.0 is found.1)
