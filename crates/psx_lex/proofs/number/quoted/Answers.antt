use Rattle.std.proofs.Common.{◌≡◌, slice_index, sym, subst, ◌∙◌, arith}
use Rattle.psx_lex.specs.Magnitude.{IsLongestMagnitude}
use Rattle.psx_lex.proofs.Magnitudes.{quoted_longest, not_quoted}
use Rattle.psx_lex.proofs.number.quoted.Goals as goal

pub returns-then-byte_at-ne39-clause-none : goal.returns-then-byte_at-ne39-clause-none
returns-then-byte_at-ne39-clause-none c = not_quoted c.args.text.now c.requires (λ value second third low high quote slash. c.if-byte_at-ne39.true (c.byte_at.ensures ∙ third))

pub returns-then-byte-lt32-clause-none : goal.returns-then-byte-lt32-clause-none
returns-then-byte-lt32-clause-none c = not_quoted c.args.text.now c.requires (λ value second third low high quote slash. absurd (omega arith))

pub returns-then-byte-gt126-clause-none : goal.returns-then-byte-gt126-clause-none
returns-then-byte-gt126-clause-none c = not_quoted c.args.text.now c.requires (λ value second third low high quote slash. absurd (omega arith))

pub returns-then-byte-eq39-clause-none : goal.returns-then-byte-eq39-clause-none
returns-then-byte-eq39-clause-none c = not_quoted c.args.text.now c.requires (λ value second third low high quote slash. quote (sym second ∙ sym c.byte_at-byte.ensures ∙ c.if-byte-eq39.true))

pub returns-then-byte-eq92-clause-none : goal.returns-then-byte-eq92-clause-none
returns-then-byte-eq92-clause-none c = not_quoted c.args.text.now c.requires (λ value second third low high quote slash. slash (sym second ∙ sym c.byte_at-byte.ensures ∙ c.if-byte-eq92.true))

pub returns-clause-found : goal.returns-clause-found
returns-clause-found c =
    let byte = c.byte_at-byte.ensures in
    let value : slice_index c.args.text.now 1 ≡ c.from-value.result = omega arith in
    subst (IsLongestMagnitude c.args.text.now 3) value
    (quoted_longest c.args.text.now c.requires (sym c.byte_at.ensures ∙ c.if-byte_at-ne39.false) (omega arith) (omega arith) (λ e. c.if-byte-eq39.false (byte ∙ e)) (λ e. c.if-byte-eq92.false (byte ∙ e)))
