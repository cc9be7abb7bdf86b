use Rattle.std.proofs.Common.{◌∙◌, ◌+◌, ◌<◌, ◌≤◌, List, ℕ, Ok, Err, ap, sym, subst, drop, take, length, arith}
use Rattle.std.specs.Str.Lines.{strip_carriage_return}
use Rattle.psx_base.specs.declared.stop.Sizes.{Sizes}
use Rattle.psxk_run.specs.declared.configuration.ConfError.TheVariants.{BadLine}
use Rattle.psxk_run.specs.Config.{Says}
use Rattle.psxk_run.proofs.ConfigAnswer.{one_answer}
use Rattle.psxk_run.proofs.ConfigProgress.{Progress, line_end, line_end_within, start, more, sizes, says_none, says_wrong}
use Rattle.psxk_run.proofs.configuration.config.Goals as goal

pub loop-setting-init : goal.loop-setting-init
loop-setting-init c = start c.args.text.now

pub returns-in_default-clause-value : goal.returns-in_default-clause-value
returns-in_default-clause-value c =
    let rest = c.loop-setting.rest.now in
    let line = c.without_return.ensures ∙ ap strip_carriage_return (c.front.ensures ∙ ap (λ k. take k rest) c.line_len-len.ensures) in
    says_none c.args.text.now rest c.loop-setting.kept c.loop-setting.line (omega arith) c.loop-setting.invariant
    (λ s says. c.in_default.ensures.none s (subst (λ (l : List ℕ). Says l s) (sym line) says))

pub returns-in_default-clause-only : goal.returns-in_default-clause-only
returns-in_default-clause-only c other is =
    one_answer c.args.text.now other (Err (BadLine c.loop-setting.line)) is (returns-in_default-clause-value c)

pub returns-in-Err-clause-value : goal.returns-in-Err-clause-value
returns-in-Err-clause-value c =
    let rest = c.loop-setting.rest.now in
    let s = c.in-Some.setting in
    let line = c.without_return.ensures ∙ ap strip_carriage_return (c.front.ensures ∙ ap (λ k. take k rest) c.line_len-len.ensures) in
    let says = subst (λ (l : List ℕ). Says l s) line c.in-Some.ensures.found in
    says_wrong c.args.text.now rest c.loop-setting.kept c.loop-setting.line s c.in-Err.fault (omega arith) c.loop-setting.invariant says
    (c.in-Err.ensures.err c.loop-setting.invariant.settings c.loop-setting.invariant.kept_is)

pub returns-in-Err-clause-only : goal.returns-in-Err-clause-only
returns-in-Err-clause-only c other is = one_answer c.args.text.now other (Err c.in-Err.fault) is (returns-in-Err-clause-value c)

pub returns-then-len-rest-clause-value : goal.returns-then-len-rest-clause-value
returns-then-len-rest-clause-value c =
    let rest = c.loop-setting.rest.now in
    let s = c.in-Some.setting in
    let len = c.line_len-len.ensures in
    let line = c.without_return.ensures ∙ ap strip_carriage_return (c.front.ensures ∙ ap (λ k. take k rest) len) in
    let says = subst (λ (l : List ℕ). Says l s) line c.in-Some.ensures.found in
    let end : length rest ≤ line_end rest = omega arith in (
      omega arith,
      sizes c.args.text.now rest c.loop-setting.kept c.in-Ok.next c.loop-setting.line s c.unwrap_or.result c.unwrap_or-then-len-rest.result c.loop-setting.invariant end says
          (c.in-Ok.ensures.ok c.loop-setting.invariant.settings c.loop-setting.invariant.kept_is) c.unwrap_or.ensures c.unwrap_or-then-len-rest.ensures,
    )

pub returns-then-len-rest-clause-only : goal.returns-then-len-rest-clause-only
returns-then-len-rest-clause-only c other is =
    let found : Sizes = record { threads = c.unwrap_or.result; events = c.unwrap_or-then-len-rest.result } in
    one_answer c.args.text.now other (Ok found) is (returns-then-len-rest-clause-value c)

pub loop-setting-preserved : goal.loop-setting-preserved
loop-setting-preserved c =
    let rest = c.loop-setting.rest.now in
    let s = c.in-Some.setting in
    let len = c.line_len-len.ensures in
    let line = c.without_return.ensures ∙ ap strip_carriage_return (c.front.ensures ∙ ap (λ k. take k rest) len) in
    let says = subst (λ (l : List ℕ). Says l s) line c.in-Some.ensures.found in
    let below : line_end rest < length rest = omega (arith, line_end_within rest) in
    let next = more c.args.text.now rest c.loop-setting.kept c.in-Ok.next c.loop-setting.line s c.loop-setting.invariant below says
    (c.in-Ok.ensures.ok c.loop-setting.invariant.settings c.loop-setting.invariant.kept_is) in
    subst (λ (r : List ℕ). Progress c.args.text.now r c.in-Ok.next (c.loop-setting.line + 1)) (sym (c.skip-rest.ensures ∙ ap (λ k. drop (k + 1) rest) len)) next
