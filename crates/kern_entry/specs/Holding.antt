-- That a memory has the entry's words.
use Rattle.psx_base.specs.Memory.{Memory, word}
use Rattle.kern_stay.specs.Words.{Stand}
use Rattle.kern_entry.specs.EntryWords.{pieces}

-- each piece stands at its address
abbrev pub HoldsEntry : Memory → Type 0
HoldsEntry m = Stand (word m) pieces
