use Rattle.std.proofs.Common.{ℕ, take}
use Rattle.kern_layout.specs.BlockWords.{IsBlock}
use Rattle.kern_stay.specs.Words.{over}
use Rattle.kern_image.specs.Tables.{table_words}
use Rattle.kern_image.proofs.tables.put_table.Given as goal

abbrev pub invariant-loop-number : goal.invariant-loop-number
invariant-loop-number l = (f : ℕ → ℕ) → IsBlock l.fn.block f → IsBlock l.block (over l.fn.at (take l.number (table_words l.table l.count)) f)
