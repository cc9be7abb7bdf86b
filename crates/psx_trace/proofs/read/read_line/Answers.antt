use Rattle.std.proofs.Common.{◌≡◌, ◌∙◌, ◌++◌, ◌∷◌, ℕ, List, ap, sym, lit<, codes, decimal, append_assoc}
use Rattle.psx_base.specs.declared.stop.Stop.{Stop}
use Rattle.psx_trace.specs.declared.item.Item.{Item}
use Rattle.psx_trace.specs.declared.item.Item.TheVariants.{B, E, R, W, X, S}
use Rattle.psx_trace.specs.Digits.{field, fields, mark}
use Rattle.psx_trace.specs.Line.{head, gate_letter, item_text, line}
use Rattle.psx_trace.specs.Plain.{entrance_of, item_of}
use Rattle.psx_trace.specs.Reading.{IsItem, BeginsWith}
use Rattle.psx_trace.specs.StopText.{stop_text}
use Rattle.psx_trace.proofs.AllRegisters.{all_registers}
use Rattle.psx_trace.proofs.HeadParts.{parts}
use Rattle.psx_trace.proofs.read.read_line.Goals as goal

-- An item whose line begins the text is one of the items that were compared, since its count and its fields are those that were read.
pub returns-clause-none : goal.returns-clause-none
unfolding item_text
returns-clause-none c =
    let text = c.args.text.now in
    let count = c.count_of-count.result in
    let split = parts text c.skip-body.result.now c.front.result.now c.skip-fields.result.now c.digits_len-digits.result count
    c.skip-body.ensures c.digits_len-digits.ensures c.front.ensures c.skip-fields.ensures c.count_of-count.ensures in
    let plain = c.in_default.ensures.none in
    let moved = λ (item other : Item) (same : item ≡ other) (rest : List ℕ) (e : text ≡ line (item_of other) ++ rest).
    e ∙ ap (λ (i : Item). line (item_of i) ++ rest) (sym same) in
    λ item. elim item as (λ item. IsItem item → BeginsWith text item → ⊥) [
      | B n ↦ λ fit begins.
          let is : text ≡ 66 ∷ 32 ∷ (decimal n ++ (10 ∷ begins.0)) = begins.1 ∙ simp append_assoc in
          let p = split 66 n (10 ∷ begins.0) fit (lit< tt) is in
          plain 4 (B 0) (lit< tt) (begins.0, moved (B count) (B n) (ap B p.0) begins.0 begins.1)
      | E n cause epc gate number ↦ λ fit begins.
          let after = field cause ++ (field epc ++ (mark (gate_letter (entrance_of gate)) ++ (field number ++ (10 ∷ begins.0)))) in
          let is : text ≡ 69 ∷ 32 ∷ (decimal n ++ after) = begins.1 ∙ simp append_assoc in
          let p = split 69 n after fit.0 (lit< tt) is in
          let same = c.entry_of.ensures.value cause epc number gate (10 ∷ begins.0) fit.1 fit.2 fit.3 p.1 ∙ ap (λ k. E k cause epc gate number) p.0 in
          plain 2 (B 0) (lit< tt) (begins.0, moved c.entry_of.result (E n cause epc gate number) same begins.0 begins.1)
      | R n at value ↦ λ fit begins.
          let after = field at ++ (field value ++ (10 ∷ begins.0)) in
          let is : text ≡ 82 ∷ 32 ∷ (decimal n ++ after) = begins.1 ∙ simp append_assoc in
          let p = split 82 n after fit.0 (lit< tt) is in
          let same = c.read_of.ensures.value at value (10 ∷ begins.0) fit.1 fit.2 p.1 ∙ ap (λ k. R k at value) p.0 in
          plain 0 (B 0) (lit< tt) (begins.0, moved c.read_of.result (R n at value) same begins.0 begins.1)
      | W n at value ↦ λ fit begins.
          let after = field at ++ (field value ++ (10 ∷ begins.0)) in
          let is : text ≡ 87 ∷ 32 ∷ (decimal n ++ after) = begins.1 ∙ simp append_assoc in
          let p = split 87 n after fit.0 (lit< tt) is in
          let same = c.write_of.ensures.value at value (10 ∷ begins.0) fit.1 fit.2 p.1 ∙ ap (λ k. W k at value) p.0 in
          plain 1 (B 0) (lit< tt) (begins.0, moved c.write_of.result (W n at value) same begins.0 begins.1)
      | X n pc sr hi lo regs ↦ λ fit begins.
          let after = field pc ++ (field sr ++ (field hi ++ (field lo ++ (fields regs.0 ++ (10 ∷ begins.0))))) in
          let is : text ≡ 88 ∷ 32 ∷ (decimal n ++ after) = begins.1
          ∙ ap (λ (ws : List ℕ). ((head 88 n ++ field pc ++ field sr ++ field hi ++ field lo ++ fields ws) ++ codes "\n") ++ begins.0) (all_registers regs.0 hi lo fit.5)
          ∙ simp append_assoc in
          let p = split 88 n after fit.0 (lit< tt) is in
          let same = c.return_of.ensures.value pc sr hi lo regs (10 ∷ begins.0) fit.1 fit.2 fit.3 fit.4 fit.5 fit.6 p.1 ∙ ap (λ k. X k pc sr hi lo regs) p.0 in
          plain 3 (B 0) (lit< tt) (begins.0, moved c.return_of.result (X n pc sr hi lo regs) same begins.0 begins.1)
      | S n stop ↦ λ fit begins.
          let after = 32 ∷ (stop_text stop ++ (10 ∷ begins.0)) in
          let is : text ≡ 83 ∷ 32 ∷ (decimal n ++ after) = begins.1 ∙ simp append_assoc in
          let p = split 83 n after fit.0 (lit< tt) is in
          let has = c.stops_of.ensures.value stop (10 ∷ begins.0) fit.1 p.1 in
          let same = ap (λ (s : Stop). S count s) has.2 ∙ ap (λ k. S k stop) p.0 in
          c.in_default-first_stop.ensures.none has.0 stop has.1 (begins.0, moved _ (S n stop) same begins.0 begins.1)
    ]
