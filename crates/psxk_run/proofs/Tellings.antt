-- What is told of a step, from what was put behind a piece.
use Rattle.std.proofs.Common.{◌≡◌, ℕ, List, [], ◌∷◌, ◌++◌, Option, Some, None, refl, sym, ap, ◌∙◌, append-nil, append_assoc}
use Rattle.psx_base.specs.declared.host.Out.{Out}
use Rattle.psx_base.specs.declared.host.Out.TheVariants.{Tty, Trace, Ram, Report}
use Rattle.psx_base.specs.Items.{Item}
use Rattle.psx_trace.specs.Line.{line}
use Rattle.psxk_run.specs.Sent.{Grew, OnlyOn}
use Rattle.psxk_run.specs.Texts.{trace_text}
use Rattle.psxk_run.specs.Pieces.{Puts, PutsBoth}

pub trace_text-nil : trace_text [] ≡ []
unfolding trace_text
trace_text-nil = refl

pub trace_text-cons : (item : Item) (items : List Item) → trace_text (item ∷ items) ≡ line item ++ trace_text items
unfolding trace_text
trace_text-cons item items = refl

pub trace_text-one : (item : Item) → trace_text (item ∷ []) ≡ line item
trace_text-one item = trace_text-cons item [] ∙ ap (λ t. line item ++ t) trace_text-nil ∙ append-nil (line item)

pub trace_text-append : (xs ys : List Item) → trace_text (xs ++ ys) ≡ trace_text xs ++ trace_text ys
trace_text-append [] ys = ap (λ t. t ++ trace_text ys) (sym trace_text-nil)
trace_text-append (x ∷ xs) ys =
    trace_text-cons x (xs ++ ys) ∙ ap (λ t. line x ++ t) (trace_text-append xs ys) ∙ sym (append_assoc (line x) (trace_text xs) (trace_text ys))
    ∙ ap (λ t. t ++ trace_text ys) (sym (trace_text-cons x xs))

pub grew-none : (before now : Option (List ℕ)) → now ≡ before → Grew before now []
grew-none None now same = tt
grew-none (Some old) now same = same ∙ ap Some (sym (append-nil old))

pub puts-none : (before now : Option (List ℕ)) (piece : List ℕ) → now ≡ before → Puts before now piece [] piece
puts-none before now piece same = record { sent = []; grew = grew-none before now same; kept = sym (append-nil piece) }

-- nothing is told
pub tells-none : (before : Out → Option (List ℕ)) (tty trace : List ℕ) → PutsBoth before before tty trace [] [] tty trace
tells-none before tty trace = record {
  tty = puts-none (before Tty) (before Tty) tty refl;
  trace = rw trace_text-nil (puts-none (before Trace) (before Trace) trace refl);
  ram = refl;
  report = refl;
}

-- the line of an item was put behind the trace's piece
pub tells-line : (before now : Out → Option (List ℕ)) (tty trace bytes later : List ℕ) (item : Item) → bytes ≡ line item
    → Puts (before Trace) (now Trace) trace bytes later → OnlyOn Trace before now → PutsBoth before now tty trace [] (item ∷ []) tty later
tells-line before now tty trace bytes later item is puts only = record {
  tty = puts-none (before Tty) (now Tty) tty (only Tty (λ e. cc));
  trace = rw (trace_text-one item, ← is) puts;
  ram = only Ram (λ e. cc);
  report = only Report (λ e. cc);
}

-- bytes were put behind the console's piece
pub tells-bytes : (before now : Out → Option (List ℕ)) (tty trace bytes later : List ℕ)
    → Puts (before Tty) (now Tty) tty bytes later → OnlyOn Tty before now → PutsBoth before now tty trace bytes [] later trace
tells-bytes before now tty trace bytes later puts only = record {
  tty = puts;
  trace = rw trace_text-nil (puts-none (before Trace) (now Trace) trace (only Trace (λ e. cc)));
  ram = only Ram (λ e. cc);
  report = only Report (λ e. cc);
}
