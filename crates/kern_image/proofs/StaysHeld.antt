-- Memory that holds the ROM has the words of each crate, and the tables have each call's routine.
use Rattle.std.proofs.Common.{◌≡◌, ℕ, ◌+◌, ◌*◌, ◌<◌, List, [], ◌∷◌, ◌++◌, length, get_or, ◌∙◌, arith}
use Rattle.psx_base.specs.declared.stop.Table.{Table}
use Rattle.psx_base.specs.declared.stop.Table.TheVariants.{A, B, C}
use Rattle.psx_base.specs.Memory.{Memory, word}
use Rattle.kern_layout.specs.Stands.{HoldsRom}
use Rattle.abs_kernel.specs.declared.calls.CallId.TheVariants.{A06}
use Rattle.abs_kernel.specs.CallTable.{served_call}
use Rattle.kern_stay.specs.Words.{Stand}
use Rattle.kern_stay.proofs.Standing.{stand_first, stand_second}
use Rattle.kern_entry.specs.EntryWords.{vector_pieces, code_pieces}
use Rattle.kern_entry.specs.Holding.{HoldsEntry}
use Rattle.kern_entry.specs.Tables.{table_word, AllThere, TableAt, TablesRead}
use Rattle.kern_image.specs.Tables.{routine_of, table_words}
use Rattle.kern_image.specs.Words.{joined}
use Rattle.kern_image.specs.Rom.{crate_pieces, rom}
use Rattle.kern_image.proofs.Bytes.{length-listed, get_or-listed}
use Rattle.kern_image.proofs.RomLemmas.{pieces_stand}

stand_both : (w : ℕ → ℕ) (ps qs : List (ℕ × List ℕ)) → Stand w ps → Stand w qs → Stand w (ps ++ qs)
stand_both w [] qs h g = g
stand_both w (p ∷ ps) qs h g = (h.0, stand_both w ps qs h.1 g)

abbrev pub EachStands : (ℕ → ℕ) → List (List (ℕ × List ℕ)) → Type 0
EachStands w [] = Unit {0}
EachStands w (ps ∷ pss) = Stand w ps × EachStands w pss

each_stands : (w : ℕ → ℕ) (pss : List (List (ℕ × List ℕ))) → Stand w (joined pss) → EachStands w pss
each_stands w [] h = tt
each_stands w (ps ∷ pss) h = (stand_first w ps (joined pss) h, each_stands w pss (stand_second w ps (joined pss) h))

module _ (m : Memory) (h : HoldsRom m rom) where
  pub pieces : EachStands (word m) crate_pieces
  pieces = each_stands (word m) crate_pieces (pieces_stand m h)

  pub holds_entry : HoldsEntry m
  holds_entry = stand_both (word m) vector_pieces code_pieces pieces.0 pieces.1.1.0

  there : AllThere routine_of
  there A06 e = absurd (omega (arith, e))
  there _ e = absurd (omega (arith, e))

  table_reads : (T : Table) (from count : ℕ) → ((k : ℕ) → k < length (table_words T count) → word m (from + 4 * k) ≡ get_or (table_words T count) k 0) → TableAt routine_of m T from count
  table_reads T from count r n lt =
      let len : length (table_words T count) ≡ count = length-listed (λ k. table_word routine_of (served_call T k)) count in
      r n (omega (arith, len)) ∙ get_or-listed (λ k. table_word routine_of (served_call T k)) count n lt

  pub tables_read : TablesRead routine_of m
  tables_read =
      let r = pieces.1.0 in
      record { there = there; a = table_reads A 0x200 0xC0 r.0; b = table_reads B 0x874 0x5F r.1.1.0; c = table_reads C 0x674 0x20 r.1.0 }
