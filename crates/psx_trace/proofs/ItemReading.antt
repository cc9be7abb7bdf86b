-- An item is read from its line, so a line is the line of one item.
use Rattle.std.proofs.Common.{◌≡◌, ℕ, zero, suc, ◌*◌, ◌<◌, ◌^◌, List, ◌∷◌, ◌++◌, All, length, drop, take, slice_index, cond, ◌==◌, decimal, codes, refl, sym, ap, ◌∙◌, append_assoc, lit<, arith}
use Rattle.std.specs.Char.{is_ascii_digit}
use Rattle.std.specs.List.{prefix_len}
use Rattle.std.specs.Str.Parse.{digits_value}
use Rattle.std.proofs.lemmas.Fmt.{decimal_is_IsNumeral}
use Rattle.psx_trace.specs.declared.item.Entered.{Entered}
use Rattle.psx_trace.specs.declared.item.Entered.TheVariants.{A, B as TableB, C, Sys, Interrupt, Done, Back, Trap}
use Rattle.psx_trace.specs.declared.item.Item.{Item}
use Rattle.psx_trace.specs.declared.item.Item.TheVariants.{B, E, R, W, X, S}
use Rattle.psx_trace.specs.declared.item.Regs.{Regs}
use Rattle.psx_text.specs.Digits.{hex8}
use Rattle.psx_trace.specs.Digits.{field, fields, mark}
use Rattle.psx_trace.specs.Line.{head, gate_letter, item_text, line}
use Rattle.psx_trace.specs.Plain.{entrance_of, item_of}
use Rattle.psx_trace.specs.Reading.{IsWord, IsItem, BeginsWith}
use Rattle.psx_trace.specs.StopText.{stop_text}
use Rattle.psx_trace.proofs.AllRegisters.{tabulate, rebuilt, all_registers}
use Rattle.psx_trace.proofs.Fields.{drop_fields}
use Rattle.psx_trace.proofs.HeadParts.{parts}
use Rattle.psx_trace.proofs.StopReading.{word_read, word_read_is, stop_read, stop_read_is}

abbrev gate_read : ℕ → Entered
gate_read c = cond (c == 65) A (cond (c == 66) TableB (cond (c == 67) C (cond (c == 89) Sys (cond (c == 73) Interrupt (cond (c == 80) Done (cond (c == 75) Back Trap))))))

gate_read_is : (gate : Entered) → gate_read (gate_letter (entrance_of gate)) ≡ gate
gate_read_is A = refl
gate_read_is TableB = refl
gate_read_is C = refl
gate_read_is Sys = refl
gate_read_is Interrupt = refl
gate_read_is Done = refl
gate_read_is Back = refl
gate_read_is Trap = refl

tabulate_same : (n : ℕ) (f g : ℕ → ℕ) → ((k : ℕ) → k < n → f k ≡ g k) → tabulate n f ≡ tabulate n g
tabulate_same zero f g same = refl
tabulate_same (suc n) f g same = λ i. same 0 (omega arith) i ∷ tabulate_same n (λ k. f (suc k)) (λ k. g (suc k)) (λ k below. same (suc k) (omega arith)) i

-- 31 words of a text
regs_read : List ℕ → Regs
regs_read t = record { 0 = tabulate 31 (λ k. word_read (drop (9 * k) t)) }

regs_read_is : (regs : Regs) (rest : List ℕ) → length regs.0 ≡ 31 → All IsWord regs.0 → regs_read (fields regs.0 ++ rest) ≡ regs
unfolding regs_read
regs_read_is regs rest all fit =
    let words = tabulate_same 31 (λ k. word_read (drop (9 * k) (fields regs.0 ++ rest))) (slice_index regs.0)
    (λ k below. let at = drop_fields k regs.0 rest (omega arith) in ap word_read at.1 ∙ word_read_is (slice_index regs.0 k) at.0 (fit k 0 (omega arith))) in
    ap (λ (ws : List ℕ). let r : Regs = record { 0 = ws } in r) (words ∙ rebuilt 31 regs.0 all)

-- the item of a letter, a count and fields
abbrev item_from : ℕ → ℕ → List ℕ → Item
item_from letter n t =
    cond (letter == 66) (B n) (
    cond (letter == 69) (E n (word_read t) (word_read (drop 9 t)) (gate_read (slice_index t 19)) (word_read (drop 20 t))) (
    cond (letter == 82) (R n (word_read t) (word_read (drop 9 t))) (
    cond (letter == 87) (W n (word_read t) (word_read (drop 9 t))) (
    cond (letter == 88) (X n (word_read t) (word_read (drop 9 t)) (word_read (drop 18 t)) (word_read (drop 27 t)) (regs_read (drop 36 t)))
    (S n (stop_read t))))))

abbrev digits_end : List ℕ → ℕ
digits_end t = prefix_len is_ascii_digit (drop 2 t)

abbrev count_read : List ℕ → ℕ
count_read t = digits_value 10 (take (digits_end t) (drop 2 t))

abbrev fields_read : List ℕ → List ℕ
fields_read t = drop (digits_end t) (drop 2 t)

-- the item whose line a text begins with
pub item_read : List ℕ → Item
item_read t = item_from (slice_index t 0) (count_read t) (fields_read t)

split : (text : List ℕ) (letter n : ℕ) (after : List ℕ) → n < 2 ^ 64 → slice_index after 0 < 48 → text ≡ letter ∷ 32 ∷ (decimal n ++ after) → item_read text ≡ item_from letter n after
unfolding item_read
split text letter n after small low is =
    let p = parts text (drop 2 text) (take (digits_end text) (drop 2 text)) (fields_read text) (digits_end text) (count_read text) refl refl refl refl
    (λ n small e. ap (digits_value 10) e ∙ (decimal_is_IsNumeral n small).1) letter n after small low is in
    λ i. item_from (slice_index (is i) 0) (p.0 i) (p.1 i)

pub item_read_is : (item : Item) (rest : List ℕ) → IsItem item → item_read (line (item_of item) ++ rest) ≡ item
unfolding item_text hex8
item_read_is (B n) rest fit = split (line (item_of (B n)) ++ rest) 66 n (10 ∷ rest) fit (lit< tt) (simp append_assoc)
item_read_is (E n cause epc gate number) rest fit =
    let after = field cause ++ (field epc ++ (mark (gate_letter (entrance_of gate)) ++ (field number ++ (10 ∷ rest)))) in
    split (line (item_of (E n cause epc gate number)) ++ rest) 69 n after fit.0 (lit< tt) (simp append_assoc)
    ∙ (λ i. E n (word_read_is cause (field epc ++ (mark (gate_letter (entrance_of gate)) ++ (field number ++ (10 ∷ rest)))) fit.1 i)
    (word_read_is epc (mark (gate_letter (entrance_of gate)) ++ (field number ++ (10 ∷ rest))) fit.2 i) (gate_read_is gate i) (word_read_is number (10 ∷ rest) fit.3 i))
item_read_is (R n at value) rest fit =
    split (line (item_of (R n at value)) ++ rest) 82 n (field at ++ (field value ++ (10 ∷ rest))) fit.0 (lit< tt) (simp append_assoc)
    ∙ (λ i. R n (word_read_is at (field value ++ (10 ∷ rest)) fit.1 i) (word_read_is value (10 ∷ rest) fit.2 i))
item_read_is (W n at value) rest fit =
    split (line (item_of (W n at value)) ++ rest) 87 n (field at ++ (field value ++ (10 ∷ rest))) fit.0 (lit< tt) (simp append_assoc)
    ∙ (λ i. W n (word_read_is at (field value ++ (10 ∷ rest)) fit.1 i) (word_read_is value (10 ∷ rest) fit.2 i))
item_read_is (X n pc sr hi lo regs) rest fit =
    let last = fields regs.0 ++ (10 ∷ rest) in
    let is : line (item_of (X n pc sr hi lo regs)) ++ rest ≡ 88 ∷ 32 ∷ (decimal n ++ (field pc ++ (field sr ++ (field hi ++ (field lo ++ last)))))
    = ap (λ (ws : List ℕ). ((head 88 n ++ field pc ++ field sr ++ field hi ++ field lo ++ fields ws) ++ codes "\n") ++ rest) (all_registers regs.0 hi lo fit.5) ∙ simp append_assoc in
    split (line (item_of (X n pc sr hi lo regs)) ++ rest) 88 n (field pc ++ (field sr ++ (field hi ++ (field lo ++ last)))) fit.0 (lit< tt) is
    ∙ (λ i. X n (word_read_is pc (field sr ++ (field hi ++ (field lo ++ last))) fit.1 i) (word_read_is sr (field hi ++ (field lo ++ last)) fit.2 i)
    (word_read_is hi (field lo ++ last) fit.3 i) (word_read_is lo last fit.4 i) (regs_read_is regs (10 ∷ rest) fit.5 fit.6 i))
item_read_is (S n stop) rest fit =
    split (line (item_of (S n stop)) ++ rest) 83 n (32 ∷ (stop_text stop ++ (10 ∷ rest))) fit.0 (lit< tt) (simp append_assoc) ∙ ap (S n) (stop_read_is stop rest fit.1)

-- a text begins with the line of one item at most
pub same_item : (a b : Item) (text : List ℕ) → IsItem a → IsItem b → BeginsWith text a → BeginsWith text b → a ≡ b
same_item a b text fit_a fit_b at_a at_b = sym (item_read_is a at_a.0 fit_a) ∙ ap item_read (sym at_a.1 ∙ at_b.1) ∙ item_read_is b at_b.0 fit_b
