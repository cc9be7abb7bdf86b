-- How a run's texts end.
use Rattle.std.proofs.Common.{◌≡◌, ℕ, ◌+◌, ◌<◌, List, [], ◌∷◌, ◌++◌, length, Option, refl, sym, ap, subst, ◌∙◌, append-nil, append_assoc, zero-add}
use Rattle.std.specs.Prelude.{slice_index}
use Rattle.std.proofs.Common.{inl, inr}
use Rattle.std.proofs.lemmas.List.FromFn.{fill_by_all}
use Rattle.psx_base.specs.declared.host.Out.{Out}
use Rattle.psx_base.specs.declared.host.Out.TheVariants.{Tty, Trace, Ram, Report}
use Rattle.psx_base.specs.declared.stop.Stop.{Stop}
use Rattle.psx_base.specs.Host.{SendsFront}
use Rattle.psx_base.specs.Items.{Item, S}
use Rattle.psx_base.specs.Memory.{Memory, byte}
use Rattle.psx_trace.specs.Line.{line}
use Rattle.psx_board.specs.Run.{Outcome}
use Rattle.psx_board.specs.Stands.{View}
use Rattle.psxk_run.specs.Sent.{Grew, GrewFront, OnlyOn}
use Rattle.psxk_run.specs.Texts.{trace_text, bytes_from, ram_text, Delivers, BreaksOff}
use Rattle.psxk_run.specs.Pieces.{PutsBoth, Breaks, BreaksOne, AtTty, AtTrace, SendsLast, SendsLastFront}
use Rattle.psxk_run.specs.Underway.{Stopped}
use Rattle.psxk_run.proofs.Tellings.{trace_text-one}
use Rattle.psxk_run.proofs.Streams.{grew-more, stream-grew, stream-front, front-none, front-all, front-more, front-sends, front-puts, front-puts_more, grew-puts}

abbrev Sent : Type 0
Sent = Out → Option (List ℕ)

-- ---- the last line, and what waits

-- the same growth, where an output stayed before or after
grew-from : (a b c : Option (List ℕ)) (text : List ℕ) → b ≡ a → Grew b c text → Grew a c text
grew-from a b c text same g = subst (λ (x : Option (List ℕ)). Grew x c text) same g

grew-to : (a b c : Option (List ℕ)) (text : List ℕ) → c ≡ b → Grew a b text → Grew a c text
grew-to a b c text same g = subst (λ (x : Option (List ℕ)). Grew a x text) (sym same) g

front-to : (a b c : Option (List ℕ)) (text : List ℕ) → c ≡ b → GrewFront a b text → GrewFront a c text
front-to a b c text same g = subst (λ (x : Option (List ℕ)). GrewFront a x text) (sym same) g

front-from : (a b c : Option (List ℕ)) (text : List ℕ) → b ≡ a → GrewFront b c text → GrewFront a c text
front-from a b c text same g = subst (λ (x : Option (List ℕ)). GrewFront x c text) same g

pub ends-all : (before m n now : Sent) (tty trace tty' trace' : List ℕ) (item : Item) → PutsBoth before m tty trace [] (item ∷ []) tty' trace'
    → Grew (m Tty) (n Tty) tty' → OnlyOn Tty m n → Grew (n Trace) (now Trace) trace' → OnlyOn Trace n now → SendsLast before now tty trace (line item)
ends-all before m n now tty trace tty' trace' item t g only g' only' =
    record {
      tty = grew-to _ _ _ tty (only' Tty (λ e. cc)) (subst (λ (x : List ℕ). Grew (before Tty) (n Tty) x) (append-nil tty) (grew-puts _ _ _ tty [] tty' t.tty g));
      trace = subst (λ (x : List ℕ). Grew (before Trace) (now Trace) (trace ++ x)) (trace_text-one item)
          (grew-puts _ _ _ trace (trace_text (item ∷ [])) trace' t.trace (grew-from _ _ _ trace' (only Trace (λ e. cc)) g'));
      ram = only' Ram (λ e. cc) ∙ only Ram (λ e. cc) ∙ t.ram;
      report = only' Report (λ e. cc) ∙ only Report (λ e. cc) ∙ t.report;
    }

-- the last line broke
pub ends-broke_line : (before now : Sent) (tty trace text : List ℕ) → BreaksOne before now tty trace → SendsLastFront before now tty trace text
ends-broke_line before now tty trace text (AtTty b) = record {
  tty = front-sends _ _ tty b.front;
  trace = front-none _ _ _ (b.others Trace (λ e. cc));
  ram = b.others Ram (λ e. cc);
  report = b.others Report (λ e. cc);
}
ends-broke_line before now tty trace text (AtTrace b) = record {
  tty = front-none _ _ _ (b.others Tty (λ e. cc));
  trace = front-more _ _ trace text (front-sends _ _ trace b.front);
  ram = b.others Ram (λ e. cc);
  report = b.others Report (λ e. cc);
}

-- the console's piece broke
pub ends-broke_tty : (before m now : Sent) (tty trace tty' trace' : List ℕ) (item : Item) → PutsBoth before m tty trace [] (item ∷ []) tty' trace' → Breaks m now Tty tty' → SendsLastFront before now tty trace (line item)
ends-broke_tty before m now tty trace tty' trace' item t b = record {
  tty = subst (λ (x : List ℕ). GrewFront (before Tty) (now Tty) x) (append-nil tty) (front-puts_more _ _ _ tty [] tty' t.tty (front-sends _ _ tty' b.front));
  trace = front-to _ _ _ _ (b.others Trace (λ e. cc)) (subst (λ (x : List ℕ). GrewFront (before Trace) (m Trace) (trace ++ x)) (trace_text-one item) (front-puts _ _ trace _ trace' t.trace));
  ram = b.others Ram (λ e. cc) ∙ t.ram;
  report = b.others Report (λ e. cc) ∙ t.report;
}

-- the trace's piece broke
pub ends-broke_trace : (before m n now : Sent) (tty trace tty' trace' : List ℕ) (item : Item) → PutsBoth before m tty trace [] (item ∷ []) tty' trace'
    → Grew (m Tty) (n Tty) tty' → OnlyOn Tty m n → Breaks n now Trace trace' → SendsLastFront before now tty trace (line item)
ends-broke_trace before m n now tty trace tty' trace' item t g only b = record {
  tty = front-to _ _ _ tty (b.others Tty (λ e. cc)) (front-all _ _ tty (subst (λ (x : List ℕ). Grew (before Tty) (n Tty) x) (append-nil tty) (grew-puts _ _ _ tty [] tty' t.tty g)));
  trace = subst (λ (x : List ℕ). GrewFront (before Trace) (now Trace) (trace ++ x)) (trace_text-one item)
      (front-puts_more _ _ _ trace (trace_text (item ∷ [])) trace' t.trace (front-from _ _ _ trace' (only Trace (λ e. cc)) (front-sends _ _ trace' b.front)));
  ram = b.others Ram (λ e. cc) ∙ only Ram (λ e. cc) ∙ t.ram;
  report = b.others Report (λ e. cc) ∙ only Report (λ e. cc) ∙ t.report;
}

-- ---- the memory

pub bytes-listed : (m : Memory) (at n : ℕ) (xs : List ℕ) → length xs ≡ n → ((k : ℕ) → k < n → slice_index xs k ≡ byte m (at + k)) → xs ≡ bytes_from m at n
unfolding bytes_from
bytes-listed m at n xs len h = fill_by_all (λ k. byte m (at + k)) xs n 0 len h

-- these are the bytes of main memory, and these of the scratchpad
pub record IsMain (m : Memory) (main : List ℕ) : Type 0 where
  pub len : length main ≡ 0x200000
  pub bytes : (k : ℕ) → k < 0x200000 → slice_index main k ≡ byte m k

pub record IsScratchpad (m : Memory) (scratchpad : List ℕ) : Type 0 where
  pub len : length scratchpad ≡ 0x400
  pub bytes : (k : ℕ) → k < 0x400 → slice_index scratchpad k ≡ byte m (0x1F800000 + k)

main-is : (m : Memory) (main : List ℕ) → IsMain m main → main ≡ bytes_from m 0 0x200000
main-is m main h = bytes-listed m 0 0x200000 main h.len (λ k low. h.bytes k low ∙ ap (byte m) (sym (zero-add k)))

scratchpad-is : (m : Memory) (scratchpad : List ℕ) → IsScratchpad m scratchpad → scratchpad ≡ bytes_from m 0x1F800000 0x400
scratchpad-is m scratchpad h = bytes-listed m 0x1F800000 0x400 scratchpad h.len h.bytes

ram-parts : (m : Memory) (main scratchpad : List ℕ) → main ≡ bytes_from m 0 0x200000 → scratchpad ≡ bytes_from m 0x1F800000 0x400 → main ++ scratchpad ≡ ram_text m
unfolding ram_text
ram-parts m main scratchpad p q = λ i. p i ++ q i

pub ram-sent : (m : Memory) (main scratchpad : List ℕ) (a b c : Option (List ℕ)) → IsMain m main → IsScratchpad m scratchpad → Grew a b main → Grew b c scratchpad → Grew a c (ram_text m)
ram-sent m main scratchpad a b c p q g h =
    subst (λ (x : List ℕ). Grew a c x) (ram-parts m main scratchpad (main-is m main p) (scratchpad-is m scratchpad q)) (grew-more a b c main scratchpad g h)

pub ram-broke_main : (m : Memory) (main : List ℕ) (a b : Option (List ℕ)) → IsMain m main → SendsFront a b main → GrewFront a b (ram_text m)
ram-broke_main m main a b p f =
    subst (λ (x : List ℕ). GrewFront a b x) (ram-parts m main (bytes_from m 0x1F800000 0x400) (main-is m main p) refl) (front-more a b main (bytes_from m 0x1F800000 0x400) (front-sends a b main f))

pub ram-broke_scratchpad : (m : Memory) (main scratchpad : List ℕ) (a b c : Option (List ℕ)) → IsMain m main → IsScratchpad m scratchpad → Grew a b main → SendsFront b c scratchpad → GrewFront a c (ram_text m)
ram-broke_scratchpad m main scratchpad a b c p q g f =
    let front = front-sends b c scratchpad f in
    subst (λ (x : List ℕ). GrewFront a c x) (ram-parts m main scratchpad (main-is m main p) (scratchpad-is m scratchpad q)) (record {
      shown = main ++ front.shown;
      rest = front.rest;
      grew = grew-more a b c main front.shown g front.grew;
      whole = append_assoc main front.shown front.rest ∙ ap (λ t. main ++ t) front.whole;
    })

-- ---- the whole

pub delivered : (whole : Outcome) (stop : Stop) (b : View) (before mid end now : Sent) (tty trace : List ℕ) → Stopped whole stop b before mid tty trace → SendsLast mid end tty trace (line (S b.taken stop))
    → Grew (end Ram) (now Ram) (ram_text b.core.bytes) → OnlyOn Ram end now → Delivers before now whole
delivered whole stop b before mid end now tty trace s e g only = record {
  tty = grew-to _ _ _ _ (only Tty (λ x. cc)) (stream-grew _ _ _ tty [] _ s.tty (subst (λ (x : List ℕ). Grew (mid Tty) (end Tty) x) (sym (append-nil tty)) e.tty));
  trace = grew-to _ _ _ _ (only Trace (λ x. cc)) (stream-grew _ _ _ trace _ _ s.trace e.trace);
  ram = grew-from _ _ _ _ (e.ram ∙ s.ram) (subst (λ (m : Memory). Grew (end Ram) (now Ram) (ram_text m)) (λ i. (s.stands.core i).bytes) g);
  report = only Report (λ x. cc) ∙ e.report ∙ s.report;
}

pub broke-end : (whole : Outcome) (stop : Stop) (b : View) (before mid now : Sent) (tty trace : List ℕ) → Stopped whole stop b before mid tty trace → SendsLastFront mid now tty trace (line (S b.taken stop)) → BreaksOff before now whole
broke-end whole stop b before mid now tty trace s e = record {
  tty = stream-front _ _ _ tty [] _ s.tty (subst (λ (x : List ℕ). GrewFront (mid Tty) (now Tty) x) (sym (append-nil tty)) e.tty);
  trace = stream-front _ _ _ trace _ _ s.trace e.trace;
  ram = front-none _ _ _ (e.ram ∙ s.ram);
  late = inl (e.ram ∙ s.ram);
  report = e.report ∙ s.report;
}

pub broke-ram : (whole : Outcome) (stop : Stop) (b : View) (before mid end now : Sent) (tty trace : List ℕ) → Stopped whole stop b before mid tty trace → SendsLast mid end tty trace (line (S b.taken stop))
    → GrewFront (end Ram) (now Ram) (ram_text b.core.bytes) → OnlyOn Ram end now → BreaksOff before now whole
broke-ram whole stop b before mid end now tty trace s e f only =
    let t = grew-to _ _ _ _ (only Tty (λ x. cc)) (stream-grew _ _ _ tty [] _ s.tty (subst (λ (x : List ℕ). Grew (mid Tty) (end Tty) x) (sym (append-nil tty)) e.tty)) in
    let l = grew-to _ _ _ _ (only Trace (λ x. cc)) (stream-grew _ _ _ trace _ _ s.trace e.trace) in
    record {
      tty = front-all _ _ _ t;
      trace = front-all _ _ _ l;
      ram = front-from _ _ _ _ (e.ram ∙ s.ram) (subst (λ (m : Memory). GrewFront (end Ram) (now Ram) (ram_text m)) (λ i. (s.stands.core i).bytes) f);
      late = inr (t, l);
      report = only Report (λ x. cc) ∙ e.report ∙ s.report;
    }
