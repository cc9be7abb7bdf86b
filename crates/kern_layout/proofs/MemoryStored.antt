-- A store to memory is the store to its words, and to the bytes of the line.
use Rattle.std.proofs.Common.{◌≡◌, ℕ, ◌+◌, ◌%◌, ◌<◌, ◌≤◌, true, sym, ap, ◌∙◌, arith, ⊎_elim}
use Rattle.std.specs.Prelude.{◌⊎◌}
use Rattle.std.proofs.lemmas.Bool.{cases_eq}
use Rattle.psx_base.specs.Memory.{word, put_word}
use Rattle.psx_ram.specs.Apart.{apart}
use Rattle.psx_ram.proofs.Laws.{word-put_word_same, word-put_word_apart, byte-put_word_apart, word-put_byte_apart, byte-put_byte_same, byte-put_byte_apart}
use Rattle.kern_layout.specs.Stores.{put}
use Rattle.kern_layout.specs.MemoryLaws.{WordStored, LineKept, ByteStored}
use Rattle.kern_layout.proofs.Blocks.{put_here, put_other}

words_apart : (a b : ℕ) → a % 4 ≡ 0 → b % 4 ≡ 0 → (b ≡ a → ⊥) → apart a 4 b 4 ≡ true
words_apart a b al bl ne = grind arith

line_apart : (at a : ℕ) → (at + 4 ≤ 0xE900) ⊎ (0xEA00 ≤ at) → 0xE900 ≤ a → a < 0xEA00 → apart at 4 a 1 ≡ true
line_apart at a o lo up = grind arith

byte_before : (k a : ℕ) → a % 4 ≡ 0 → a < 0xE900 → apart (0xE900 + k) 1 a 4 ≡ true
byte_before k a al up = grind arith

byte_behind : (k a : ℕ) → k < 0x100 → 0xEA00 ≤ a → apart (0xE900 + k) 1 a 4 ≡ true
byte_behind k a few lo = grind arith

pub word_stored : WordStored
word_stored m at v a al am =
    ⊎_elim
    (λ (e : a ≡ at). ap (word (put_word m at v)) e ∙ word-put_word_same m at v ∙ sym (put_here (word m) at v) ∙ ap (put (word m) at v) (sym e))
    (λ (ne : a ≡ at → ⊥). word-put_word_apart m at v a (words_apart at a al am ne) ∙ sym (put_other (word m) at v a ne))
    (cases_eq a at)

pub line_kept : LineKept
line_kept m at v o a lo up = byte-put_word_apart m at v a (line_apart at a o lo up)

pub byte_stored : ByteStored
byte_stored m k v few = record {
  before = λ a al lo up. word-put_byte_apart m (0xE900 + k) v a (byte_before k a al up);
  behind = λ a al lo up. word-put_byte_apart m (0xE900 + k) v a (byte_behind k a few lo);
  stored = byte-put_byte_same m (0xE900 + k) v;
  others = λ a ne. byte-put_byte_apart m (0xE900 + k) v a ne;
}
