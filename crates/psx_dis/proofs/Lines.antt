-- Lines of more words.
use Rattle.std.proofs.Common.{◌≡◌, ℕ, ◌+◌, ◌*◌, ◌<◌, List, [], ◌∷◌, ◌++◌, length, take, get_or, sym, ap, ◌∙◌, append_assoc, append-nil, arith}
use Rattle.std.proofs.lemmas.List.{length-take-le, take_more}
use Rattle.psx_dis.specs.Printed.{head, line, lines, printed}

-- lines of words and of further words, which stand behind them
pub lines-append : (at : ℕ) (xs ys : List ℕ) → lines at (xs ++ ys) ≡ lines at xs ++ lines (at + 4 * length xs) ys
lines-append at [] ys = ap (λ n. lines n ys) (omega arith)
lines-append at (x ∷ xs) ys =
    let here : at + 4 + 4 * length xs ≡ at + 4 * length (x ∷ xs) = omega arith in
    ap (λ l. line at x ++ l) (lines-append (at + 4) xs ys ∙ ap (λ n. lines (at + 4) xs ++ lines n ys) here)
    ∙ sym (append_assoc (line at x) (lines (at + 4) xs) (lines (at + 4 * length (x ∷ xs)) ys))

-- the printed form of one word more
pub printed_more : (start : ℕ) (ws : List ℕ) (i : ℕ) → i < length ws → printed start (take (i + 1) ws) ≡ printed start (take i ws) ++ line (start + 4 * i) (get_or ws i 0)
printed_more start ws i h =
    let short : length (take i ws) ≡ i = length-take-le i ws (omega arith) in
    let last : lines (start + 4 * length (take i ws)) (get_or ws i 0 ∷ []) ≡ line (start + 4 * i) (get_or ws i 0) =
    append-nil (line (start + 4 * length (take i ws)) (get_or ws i 0)) ∙ ap (λ n. line (start + 4 * n) (get_or ws i 0)) short in
    let more : lines start (take (i + 1) ws) ≡ lines start (take i ws) ++ line (start + 4 * i) (get_or ws i 0) =
    ap (λ l. lines start l) (take_more ws i 0 h) ∙ lines-append start (take i ws) (get_or ws i 0 ∷ []) ∙ ap (λ l. lines start (take i ws) ++ l) last in
    ap (λ l. head start ++ l) more ∙ sym (append_assoc (head start) (lines start (take i ws)) (line (start + 4 * i) (get_or ws i 0)))
