-- The printed words of a program end within the 32 bits.
use Rattle.std.proofs.Common.{◌≡◌, ℕ, zero, suc, ◌+◌, ◌-◌, ◌*◌, ◌/◌, ◌%◌, ◌^◌, ◌<◌, ◌≤◌, length, None, arith}
use Rattle.std.proofs.lemmas.List.FromFn.{length-map-range_with_len}
use Rattle.psx_base.specs.FirstBad.{first_bad_of}
use Rattle.psx_base.proofs.Ranges.{end_of-below}
use Rattle.psx_exe.specs.declared.exe.Exe.{Exe}
use Rattle.abs_run.specs.Accepted.{IsAccepted}
use Rattle.psx_exe.proofs.Placing.{safe, user_first, bounded}
use Rattle.psxk_run.specs.Printing.{word_at, word_count, words_of}

-- a range without a bad address ends within them
range-end : (a n : ℕ) → a < 2 ^ 32 → first_bad_of a n ≡ None → a + n ≤ 2 ^ 32
range-end a zero small none = omega arith
range-end a (suc n) small none =
    let end = bounded a (suc n) small (omega arith) none in
    let below = end_of-below a small (user_first a (suc n) (omega arith) none) in
    omega arith

whole-words : (a n : ℕ) → a < 2 ^ 32 → a + n ≤ 2 ^ 32 → a - a % 4 + 4 * ((a % 4 + n + 3) / 4) ≤ 2 ^ 32
whole-words a n small end = omega arith

pub length-words_of : (e : Exe) → length (words_of e) ≡ word_count e
unfolding words_of
length-words_of e = length-map-range_with_len (word_at e) 0 (word_count e)

pub words_end : (e : Exe) → IsAccepted e → e.dest < 2 ^ 32 → e.dest - e.dest % 4 + 4 * length (words_of e) ≤ 2 ^ 32
words_end e r small =
    let s = safe e r.readable in
    rw (length-words_of e) (whole-words e.dest (length e.text) small (range-end e.dest (length e.text) small s.text))

pub few : (e : Exe) → IsAccepted e → length e.text ≤ 2 ^ 23
few e r = let fits = (safe e r.readable).fits in omega arith
