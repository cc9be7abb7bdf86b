use Rattle.std.proofs.Common.{length}
use Rattle.psx_ram.proofs.Laws as law
use Rattle.psx_ram.proofs.Bytes.{byte-put_bytes_at, byte-put_bytes_apart, word-put_bytes_at, word-put_bytes_apart}
use Rattle.psx_ram.proofs.Reset.{byte-reset_memory}
use Rattle.psx_ram.proofs.memory.laws.Goals as goal

pub returns : goal.returns
returns c = record {
  byte_same = law.byte-put_byte_same;
  byte_apart = law.byte-put_byte_apart;
  half_same = law.half-put_half_same;
  half_apart = law.half-put_half_apart;
  half_kept_by_byte = law.half-put_byte_apart;
  half_kept_by_word = law.half-put_word_apart;
  byte_kept_by_half = law.byte-put_half_apart;
  word_same = law.word-put_word_same;
  word_apart = law.word-put_word_apart;
  word_kept_by_byte = law.word-put_byte_apart;
  word_kept_by_half = law.word-put_half_apart;
  byte_kept_by_word = law.byte-put_word_apart;
  bytes_same = byte-put_bytes_at;
  bytes_apart = λ m a xs b h. byte-put_bytes_apart m a xs b (law.outside_cases a (length xs) b h);
  word_in_bytes = word-put_bytes_at;
  word_beside_bytes = word-put_bytes_apart;
  reset = byte-reset_memory;
}
