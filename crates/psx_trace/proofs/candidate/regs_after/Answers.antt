use Rattle.std.proofs.Common.{◌≢◌, ◌<◌, ◌*◌, ℕ, List, length, drop, get_or, get_or-set_other, get_or-set_same, length-set, below_more, sym, ap, ◌∙◌, arith}
use Rattle.std.proofs.lemmas.List.{drop-drop, ext_get_or}
use Rattle.psx_trace.specs.declared.item.Regs.{Regs}
use Rattle.std.proofs.lemmas.List.Elements.{All-set}
use Rattle.psx_trace.specs.Reading.{IsWord}
use Rattle.psx_trace.proofs.Fields.{drop_fields}
use Rattle.psx_trace.proofs.candidate.regs_after.Goals as goal

pub loop-number-preserved : goal.loop-number-preserved
loop-number-preserved c = record {
  len = omega (arith, length-set {A = ℕ});
  fit = All-set IsWord c.loop-number.words c.loop-number.number c.word_after.result c.word_after.type_inv c.loop-number.invariant.fit;
  same = λ regs rest all fit e.
      let i = c.loop-number.number in
      let here : i < length regs.0 = omega arith in
      let at = drop_fields i regs.0 rest here in
      let stands = sym (drop-drop (9 * i) c.args.at c.args.text.now) ∙ ap (drop (9 * i)) e ∙ at.1 in
      let same = c.word_after.ensures (get_or regs.0 i 0) at.0 (fit i 0 here) stands in
      below_more _ _
      (λ k h. let ne : k ≢ c.loop-number.number = omega arith in rw get_or-set_other (c.loop-number.invariant.same regs rest all fit e k h))
      (let lt : c.loop-number.number < length c.loop-number.words = omega arith in rw get_or-set_same same);
}

pub returns-clause-value : goal.returns-clause-value
returns-clause-value c regs rest all fit e =
    ap (λ (words : List ℕ). let regs : Regs = record { 0 = words } in regs)
    (ext_get_or 0 c.loop-number.words regs.0 (omega arith) (λ k h. c.loop-number.invariant.same regs rest all fit e k (omega arith)))
