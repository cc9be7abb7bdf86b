use Rattle.std.proofs.Common.{sym, ◌∙◌, arith}
use Rattle.psx_lex.proofs.Texts.{bad_escape, low_byte, no_quote, closed}
use Rattle.psx_lex.proofs.first.quoted.Goals as goal

pub returns-then-not-is_escape-clause-none : goal.returns-then-not-is_escape-clause-none
returns-then-not-is_escape-clause-none c =
    bad_escape c.args.text.now c.skip-byte-items.result.now c.loop-i.escaped c.loop-i.i
    (record { quote = c.requires; items_are = c.skip-byte-items.ensures; far = c.loop-i.invariant }) c.if-escaped.true (omega arith) (sym c.is_escape.ensures ∙ c.if-not-is_escape.true)

pub returns-then-byte-eq34-clause-found : goal.returns-then-byte-eq34-clause-found
returns-then-byte-eq34-clause-found c = record {
  lexeme =
      closed c.args.text.now c.skip-byte-items.result.now c.loop-i.escaped c.loop-i.i
      (record { quote = c.requires; items_are = c.skip-byte-items.ensures; far = c.loop-i.invariant }) c.if-escaped.false (omega arith) c.if-byte-eq34.true;
  fits = tt;
}

pub returns-then-byte-lt32-clause-none : goal.returns-then-byte-lt32-clause-none
returns-then-byte-lt32-clause-none c =
    low_byte c.args.text.now c.skip-byte-items.result.now c.loop-i.escaped c.loop-i.i
    (record { quote = c.requires; items_are = c.skip-byte-items.ensures; far = c.loop-i.invariant }) c.if-escaped.false (omega arith) c.if-byte-eq34.false c.if-byte-lt32.true

pub returns-clause-none : goal.returns-clause-none
returns-clause-none c =
    no_quote c.args.text.now c.skip-byte-items.result.now c.loop-i.escaped c.loop-i.i
    (record { quote = c.requires; items_are = c.skip-byte-items.ensures; far = c.loop-i.invariant }) (omega arith)
