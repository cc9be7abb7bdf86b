use Rattle.std.proofs.Common.{◌∙◌, ◌++◌, ap, drop, slice_index, refl, lit<}
use Rattle.psx_base.specs.declared.stop.Stop.TheVariants.{Exit, Budget, UserFetch, UserData, Protected, SlotBranch, Exception, Unserved, BadPointer, BadThread, Deep, BadReturn}
use Rattle.psx_text.specs.Digits.{hex8}
use Rattle.psx_trace.specs.Digits.{field}
use Rattle.psx_trace.specs.StopText.{stop_text}
use Rattle.psx_trace.proofs.StopsFit.{tried_fit}
use Rattle.psx_trace.proofs.read.stops_of.Goals as goal

pub returns-clause-value : goal.returns-clause-value
unfolding hex8 stop_text
returns-clause-value c (Exit code) rest fit e = (0, lit< tt, ap Exit (c.word_after-after_four.ensures code rest fit (ap (drop 5) e)))
returns-clause-value c Budget rest fit e = (1, lit< tt, refl)
returns-clause-value c (UserFetch at) rest fit e = (2, lit< tt, ap UserFetch (c.word_after-after_nine.ensures at rest fit (ap (drop 10) e)))
returns-clause-value c (UserData pc at) rest fit e =
    let first = c.word_after-after_eight.ensures pc (field at ++ rest) fit.0 (ap (drop 9) e) in
    let second = c.word_after-second_after_eight.ensures at rest fit.1 (ap (drop 18) e) in
    (3, lit< tt, λ i. UserData (first i) (second i))
returns-clause-value c (Protected pc) rest fit e = (4, lit< tt, ap Protected (c.word_after-after_nine.ensures pc rest fit (ap (drop 10) e)))
returns-clause-value c (SlotBranch pc) rest fit e = (5, lit< tt, ap SlotBranch (c.word_after-after_ten.ensures pc rest fit (ap (drop 11) e)))
returns-clause-value c (Exception code pc) rest fit e =
    let first = c.word_after-after_nine.ensures code (field pc ++ rest) fit.0 (ap (drop 10) e) in
    let second = c.word_after-second_after_nine.ensures pc rest fit.1 (ap (drop 19) e) in
    (6, lit< tt, λ i. Exception (first i) (second i))
returns-clause-value c (Unserved table number ra) rest fit e =
    let letter = c.table_of-table.ensures table (c.byte_at.ensures ∙ ap (λ l. slice_index l 10) e) in
    let first = c.word_after-after_ten.ensures number (field ra ++ rest) fit.0 (ap (drop 11) e) in
    let second = c.word_after-ra.ensures ra rest fit.1 (ap (drop 20) e) in
    (7, lit< tt, λ i. Unserved (letter i) (first i) (second i))
returns-clause-value c (BadPointer at ra) rest fit e =
    let first = c.word_after-after_ten.ensures at (field ra ++ rest) fit.0 (ap (drop 11) e) in
    let second = c.word_after-ra.ensures ra rest fit.1 (ap (drop 20) e) in
    (8, lit< tt, λ i. BadPointer (first i) (second i))
returns-clause-value c (BadThread number ra) rest fit e =
    let first = c.word_after-after_nine.ensures number (field ra ++ rest) fit.0 (ap (drop 10) e) in
    let second = c.word_after-second_after_nine.ensures ra rest fit.1 (ap (drop 19) e) in
    (9, lit< tt, λ i. BadThread (first i) (second i))
returns-clause-value c (Deep ra) rest fit e = (10, lit< tt, ap Deep (c.word_after-after_four.ensures ra rest fit (ap (drop 5) e)))
returns-clause-value c (BadReturn ra) rest fit e = (11, lit< tt, ap BadReturn (c.word_after-after_nine.ensures ra rest fit (ap (drop 10) e)))

pub returns-clause-fit : goal.returns-clause-fit
returns-clause-fit c = tried_fit c.table_of-table.result c.word_after-after_four.result c.word_after-after_eight.result c.word_after-after_nine.result c.word_after-after_ten.result
    c.word_after-second_after_eight.result c.word_after-second_after_nine.result c.word_after-ra.result
    c.word_after-after_four.type_inv c.word_after-after_eight.type_inv c.word_after-after_nine.type_inv c.word_after-after_ten.type_inv
    c.word_after-second_after_eight.type_inv c.word_after-second_after_nine.type_inv c.word_after-ra.type_inv
