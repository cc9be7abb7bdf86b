use Rattle.std.proofs.Common.{◌≡◌, ◌∙◌, [], ap, sym, subst, drop, take, length, arith}
use Rattle.std.specs.Char.{is_digit}
use Rattle.std.specs.List.{prefix_len}
use Rattle.std.specs.Str.Parse.{IsNumeral, digits_value}
use Rattle.std.proofs.lemmas.Grind.{common_steps}
use Rattle.psxk_run.specs.Config.{behind}
use Rattle.psxk_run.proofs.ConfigParts.{digits_end, digits_len_is, nothing_after, digits_found, hexadecimal}
use Rattle.psxk_run.proofs.configuration.number.Goals as goal
use Rattle.psxk_run.proofs.configuration.number.Goals.{then-len-eq0-via-then-len-eq0, then-len-eq0-via-else-len-eq0+then-len-gt8}

pub returns-then-len-eq0-clause-none : goal.returns-then-len-eq0-clause-none
returns-then-len-eq0-clause-none c n h =
    let len : c.digits_len-len.result ≡ digits_end c.args.value.now = c.digits_len-len.ensures ∙ ap (prefix_len (λ c. is_digit c 16)) c.skip_blanks-text.ensures in
    let is = digits_len_is c.args.value.now n h in
    elim c.then-len-eq0.branch [ then-len-eq0-via-then-len-eq0 w ↦ omega arith | then-len-eq0-via-else-len-eq0+then-len-gt8 w ↦ omega arith ]

pub returns-then-not-is_empty-clause-none : goal.returns-then-not-is_empty-clause-none
returns-then-not-is_empty-clause-none c n h =
    let len : c.digits_len-len.result ≡ digits_end c.args.value.now = c.digits_len-len.ensures ∙ ap (prefix_len (λ c. is_digit c 16)) c.skip_blanks-text.ensures in
    let none : c.skip_blanks.result.now ≡ [] =
    c.skip_blanks.ensures ∙ ap behind (c.skip.ensures ∙ (λ i. drop (len i) (c.skip_blanks-text.ensures i))) ∙ nothing_after c.args.value.now n h in
    let empty = ap length none in
    grind (arith, common_steps)

pub value_of-requires-clause-digits : goal.value_of-requires-clause-digits
value_of-requires-clause-digits c =
    let len : c.digits_len-len.result ≡ digits_end c.args.value.now = c.digits_len-len.ensures ∙ ap (prefix_len (λ c. is_digit c 16)) c.skip_blanks-text.ensures in
    subst (IsNumeral 16) (sym (c.front.ensures ∙ (λ i. take (len i) (c.skip_blanks-text.ensures i)))) (digits_found c.args.value.now (omega arith))

pub returns-clause-found : goal.returns-clause-found
returns-clause-found c =
    let len : c.digits_len-len.result ≡ digits_end c.args.value.now = c.digits_len-len.ensures ∙ ap (prefix_len (λ c. is_digit c 16)) c.skip_blanks-text.ensures in
    let none : c.skip_blanks.result.now ≡ [] = grind (arith, common_steps) in
    hexadecimal c.args.value.now c.value_of.result (omega arith) (omega arith)
    (sym (c.skip_blanks.ensures ∙ ap behind (c.skip.ensures ∙ (λ i. drop (len i) (c.skip_blanks-text.ensures i)))) ∙ none)
    (c.value_of.ensures ∙ ap (digits_value 16) (c.front.ensures ∙ (λ i. take (len i) (c.skip_blanks-text.ensures i))))
