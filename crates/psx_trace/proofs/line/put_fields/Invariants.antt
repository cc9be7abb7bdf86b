use Rattle.std.proofs.Common.{◌≡◌, ◌+◌, ◌*◌, ◌++◌, take}
use Rattle.arrayvec.specs.ArrayVec.{array_vec_len}
use Rattle.psx_trace.specs.Digits.{fields}
use Rattle.psx_trace.proofs.line.put_fields.Given as goal

abbrev pub invariant-loop-word : goal.invariant-loop-word
invariant-loop-word l = record {
  items : l.text.items ≡ l.initial.text.items ++ fields (take l.word-index l.words);
  len : array_vec_len l.text ≡ array_vec_len l.initial.text + 9 * l.word-index;
}
