-- The text of a schedule is short enough to be read.
use Rattle.std.proofs.Common.{ℕ, ◌*◌, ◌≤◌, List, [], ◌∷◌, ◌++◌, length, decimal, codes, length-append, arith}
use Rattle.std.proofs.lemmas.Fmt.{length-decimal-le}
use Rattle.psx_sched.specs.declared.schedule.What.{What}
use Rattle.psx_sched.specs.declared.schedule.What.TheVariants.{Byte, Line}
use Rattle.psx_sched.specs.declared.schedule.Entry.{Entry}
use Rattle.psx_sched.specs.Schedule.{IsLine, IsPlausible, IsOrdered}
use Rattle.psx_sched.specs.Line.{what_text, line, lines_of}

length-what_text : (what : What) → IsLine what → length (what_text what) ≤ 8
length-what_text (Byte b) small = omega arith
length-what_text (Line n) small = omega (arith, length-append (codes " line ") (decimal n), length-decimal-le 2 n (omega arith) (omega arith) (omega arith))

length-line : (e : Entry) → IsPlausible e → length (line e) ≤ 19
length-line e small =
    omega (
      arith,
      length-append (decimal e.count ++ what_text e.what) (codes "\n"),
      length-append (decimal e.count) (what_text e.what),
      length-decimal-le 10 e.count (omega arith) (omega arith) (omega arith),
      length-what_text e.what small.line,
    )

-- the lines of plausible entries
pub length-lines_of : (least : ℕ) (entries : List Entry) → IsOrdered least entries → length (lines_of entries) ≤ 19 * length entries
length-lines_of least [] order = omega arith
length-lines_of least (e ∷ entries) order =
    omega (arith, length-append (line e) (lines_of entries), length-line e order.1, length-lines_of e.count entries order.2)
