-- The ROM. Its words are little-endian (R3000A manual, data formats).
use Rattle.std.specs.Prelude.{ℕ, ◌-◌, ◌*◌, ◌/◌, List, [], ◌∷◌, flat_map, slice_index, if◌then◌else◌, nat_lt}
use Rattle.byteorder.specs.Endian.{little_bytes}
use Rattle.kern_layout.specs.Numbers.{threads_at}
use Rattle.kern_layout.specs.Opening.{opening_at}
use Rattle.kern_stay.specs.Words.{overlaid}
use Rattle.kern_entry.specs.EntryWords.{vector_pieces, code_pieces}
use Rattle.kern_thread.specs.ThreadWords.{thread_pieces}
use Rattle.kern_event.specs.EventWords.{event_pieces}
use Rattle.kern_timer.specs.TimerWords.{timer_pieces}
use Rattle.kern_mem.specs.MemWords.{mem_pieces}
use Rattle.kern_text.specs.TextWords.{text_pieces}
use Rattle.kern_printf.specs.PrintfWords.{printf_pieces}
use Rattle.kern_heap.specs.HeapWords.{heap_pieces}
use Rattle.kern_file.specs.FileWords.{file_pieces}
use Rattle.kern_image.specs.Tables.{table_pieces}
use Rattle.kern_image.specs.Words.{joined, listed}
use Rattle.kern_image.specs.declared.boot.TheConstants.{BOOT}

-- the kernel's 64 KB without its code: the opening values in the data ranges, and 0 below them
unfoldable pub opened_word : ℕ → ℕ
opened_word a = if nat_lt a threads_at then 0 else opening_at a

-- the words of the kernel's code, crate by crate, in the order of their addresses
abbrev pub crate_pieces : List (List (ℕ × List ℕ))
crate_pieces = vector_pieces ∷ table_pieces ∷ code_pieces ∷ thread_pieces ∷ event_pieces ∷ timer_pieces ∷ mem_pieces ∷ text_pieces ∷ printf_pieces ∷ heap_pieces ∷ file_pieces ∷ []

abbrev pub all_pieces : List (ℕ × List ℕ)
all_pieces = joined crate_pieces

-- the word at an address of the kernel's 64 KB: the vector, the gates, the tables and the code, else an opening value
unfoldable pub kernel_word : ℕ → ℕ
kernel_word a = overlaid all_pieces opened_word a

-- the word of the boot code at an offset, and 0 behind it
unfoldable pub boot_word : ℕ → ℕ
boot_word o = slice_index BOOT (o / 4)

-- the word at an offset: the boot code from 0 on, the kernel's 64 KB from 10000h on, and 0 elsewhere
unfoldable pub rom_word : ℕ → ℕ
rom_word o = if nat_lt o 0x10000 then boot_word o else (if nat_lt o 0x20000 then kernel_word (o - 0x10000) else 0)

-- the words in their order
unfoldable pub rom_words : List ℕ
rom_words = listed (λ k. rom_word (4 * k)) 0x20000

-- the ROM: 524,288 bytes
unfoldable pub rom : List ℕ
rom = flat_map (little_bytes 4) rom_words
