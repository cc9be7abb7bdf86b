-- A stop is read from its text.
use Rattle.std.proofs.Common.{◌≡◌, ℕ, ◌+◌, ◌*◌, ◌/◌, ◌%◌, ◌^◌, List, ◌∷◌, ◌++◌, drop, slice_index, cond, ◌==◌, refl, ap, ◌∙◌, arith}
use Rattle.psx_base.specs.declared.stop.Stop.{Stop}
use Rattle.psx_base.specs.declared.stop.Stop.TheVariants.{Exit, Budget, UserFetch, UserData, Protected, SlotBranch, Exception, Unserved, BadPointer, BadThread, Deep, BadReturn}
use Rattle.psx_base.specs.declared.stop.Table.{Table}
use Rattle.psx_base.specs.declared.stop.Table.TheVariants.{A, B, C, Sys}
use Rattle.psx_text.specs.Digits.{hex8}
use Rattle.psx_text.proofs.HexDigits.{digit_read, digit_read_is}
use Rattle.psx_trace.specs.Digits.{field}
use Rattle.psx_trace.specs.Reading.{IsWord, IsStop}
use Rattle.psx_trace.specs.StopText.{table_letter, stop_text}
use Rattle.psx_trace.proofs.WordDigits.{high_digits, low_digits}

-- the word behind a space
pub word_read : List ℕ → ℕ
word_read t = (digit_read (slice_index t 1) * 4096 + digit_read (slice_index t 2) * 256 + digit_read (slice_index t 3) * 16 + digit_read (slice_index t 4)) * 65536
    + (digit_read (slice_index t 5) * 4096 + digit_read (slice_index t 6) * 256 + digit_read (slice_index t 7) * 16 + digit_read (slice_index t 8))

pub word_read_is : (w : ℕ) (rest : List ℕ) → IsWord w → word_read (field w ++ rest) ≡ w
unfolding hex8 word_read
word_read_is w rest fit =
    let a = digit_read_is (w / 2 ^ 28) (omega arith) in
    let b = digit_read_is (w / 2 ^ 24 % 16) (omega arith) in
    let d = digit_read_is (w / 2 ^ 20 % 16) (omega arith) in
    let e = digit_read_is (w / 2 ^ 16 % 16) (omega arith) in
    let f = digit_read_is (w / 2 ^ 12 % 16) (omega arith) in
    let g = digit_read_is (w / 2 ^ 8 % 16) (omega arith) in
    let h = digit_read_is (w / 2 ^ 4 % 16) (omega arith) in
    let k = digit_read_is (w % 16) (omega arith) in
    (λ i. (a i * 4096 + b i * 256 + d i * 16 + e i) * 65536 + (f i * 4096 + g i * 256 + h i * 16 + k i)) ∙ omega (arith, high_digits w, low_digits w)

abbrev table_read : ℕ → Table
table_read c = cond (c == 65) A (cond (c == 66) B (cond (c == 67) C Sys))

table_read_is : (table : Table) → table_read (table_letter table) ≡ table
table_read_is A = refl
table_read_is B = refl
table_read_is C = refl
table_read_is Sys = refl

abbrev key : List ℕ → ℕ
key t = slice_index t 4 * 256 + slice_index t 5

-- the stop whose text stands behind a space: the fourth and the fifth byte tell its kind
pub stop_read : List ℕ → Stop
stop_read t =
    cond (key t == 29728) (Exit (word_read (drop 5 t))) (
    cond (key t == 26469) Budget (
    cond (key t == 29254) (UserFetch (word_read (drop 10 t))) (
    cond (key t == 29252) (UserData (word_read (drop 9 t)) (word_read (drop 18 t))) (
    cond (key t == 29797) (Protected (word_read (drop 10 t))) (
    cond (key t == 29762) (SlotBranch (word_read (drop 11 t))) (
    cond (key t == 25968) (Exception (word_read (drop 10 t)) (word_read (drop 19 t))) (
    cond (key t == 25970) (Unserved (table_read (slice_index t 10)) (word_read (drop 11 t)) (word_read (drop 20 t))) (
    cond (key t == 20591) (BadPointer (word_read (drop 11 t)) (word_read (drop 20 t))) (
    cond (key t == 21608) (BadThread (word_read (drop 10 t)) (word_read (drop 19 t))) (
    cond (key t == 28704) (Deep (word_read (drop 5 t))) (
    (BadReturn (word_read (drop 10 t))))))))))))))

pub stop_read_is : (stop : Stop) (rest : List ℕ) → IsStop stop → stop_read (32 ∷ (stop_text stop ++ (10 ∷ rest))) ≡ stop
unfolding hex8 stop_text stop_read
stop_read_is (Exit a) rest fit = ap Exit (word_read_is a (10 ∷ rest) fit)
stop_read_is Budget rest fit = refl
stop_read_is (UserFetch a) rest fit = ap UserFetch (word_read_is a (10 ∷ rest) fit)
stop_read_is (UserData a b) rest fit = λ i. UserData (word_read_is a (field b ++ (10 ∷ rest)) fit.0 i) (word_read_is b (10 ∷ rest) fit.1 i)
stop_read_is (Protected a) rest fit = ap Protected (word_read_is a (10 ∷ rest) fit)
stop_read_is (SlotBranch a) rest fit = ap SlotBranch (word_read_is a (10 ∷ rest) fit)
stop_read_is (Exception a b) rest fit = λ i. Exception (word_read_is a (field b ++ (10 ∷ rest)) fit.0 i) (word_read_is b (10 ∷ rest) fit.1 i)
stop_read_is (Unserved t a b) rest fit = λ i. Unserved (table_read_is t i) (word_read_is a (field b ++ (10 ∷ rest)) fit.0 i) (word_read_is b (10 ∷ rest) fit.1 i)
stop_read_is (BadPointer a b) rest fit = λ i. BadPointer (word_read_is a (field b ++ (10 ∷ rest)) fit.0 i) (word_read_is b (10 ∷ rest) fit.1 i)
stop_read_is (BadThread a b) rest fit = λ i. BadThread (word_read_is a (field b ++ (10 ∷ rest)) fit.0 i) (word_read_is b (10 ∷ rest) fit.1 i)
stop_read_is (Deep a) rest fit = ap Deep (word_read_is a (10 ∷ rest) fit)
stop_read_is (BadReturn a) rest fit = ap BadReturn (word_read_is a (10 ∷ rest) fit)
