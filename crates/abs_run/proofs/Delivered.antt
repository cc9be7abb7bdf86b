-- What deliveries, accesses and finished steps leave of a history.
use Rattle.std.proofs.Common.{◌≡◌, ℕ, ◌^◌, ◌<◌, Bool, true, false, List, [], ◌∷◌, Option, Some, None, refl, sym, ◌∙◌, arith}
use Rattle.std.specs.Prelude.{if◌then◌else◌, nat_le}
use Rattle.std.proofs.lemmas.List.Elements.{All-head, All-tail}
use Rattle.psx_base.specs.Ports.{HALT_A, HALT_B, HALT_C}
use Rattle.psx_sched.specs.declared.schedule.What.{What}
use Rattle.psx_sched.specs.declared.schedule.What.TheVariants.{Byte, Line}
use Rattle.psx_sched.specs.declared.schedule.Entry.{Entry}
use Rattle.psx_sched.specs.Accepted.{IsByte}
use Rattle.psx_cpu.specs.Processor.{Core}
use Rattle.psx_ports.specs.History.{History, last_written, line}
use Rattle.psx_board.specs.Machine.{Machine}
use Rattle.psx_board.specs.Delivery.{due, later, arrived, all_arrived, delivered}
use Rattle.psx_board.specs.Turn.{asked, answered, bus_of}
use Rattle.abs_run.specs.Accepted.{AreBytes}
use Rattle.abs_run.specs.Invariant.{Passes}
use Rattle.abs_run.specs.InKernel.{in_kernel}
use Rattle.abs_run.proofs.Answers.{HistoryFits, answer-small}

-- ---- time

pub passes-none : (h : History) → Passes h h
passes-none h = record { given = refl; accesses = refl; now = omega arith }

pub passes-then : (h m n : History) → Passes h m → Passes m n → Passes h n
passes-then h m n a b = record { given = b.given ∙ a.given; accesses = b.accesses ∙ a.accesses; now = let x = a.now in let y = b.now in omega arith }

-- ---- deliveries

-- what entries leave of a history
pub record Arrives (h now : History) : Type 0 where
  pub passes : Passes h now
  pub count : now.now ≡ h.now
  pub a : last_written now.events HALT_A ≡ last_written h.events HALT_A
  pub b : last_written now.events HALT_B ≡ last_written h.events HALT_B
  pub c : last_written now.events HALT_C ≡ last_written h.events HALT_C
  pub fits : HistoryFits h → HistoryFits now

arrives-none : (h : History) → Arrives h h
arrives-none h = record { passes = passes-none h; count = refl; a = refl; b = refl; c = refl; fits = λ f. f }

arrives-then : (h m n : History) → Arrives h m → Arrives m n → Arrives h n
arrives-then h m n x y = record { passes = passes-then h m n x.passes y.passes; count = y.count ∙ x.count; a = y.a ∙ x.a; b = y.b ∙ x.b; c = y.c ∙ x.c; fits = λ f. y.fits (x.fits f) }

arrives-one : (h : History) (what : What) → IsByte what → Arrives h (arrived h what)
arrives-one h (Byte byte) small = record {
  passes = record { given = refl; accesses = refl; now = omega arith };
  count = refl;
  a = refl;
  b = refl;
  c = refl;
  fits = λ f. record { given = f.given; bytes = (small, f.bytes) };
}
arrives-one h (Line line) small = record {
  passes = record { given = refl; accesses = refl; now = omega arith };
  count = refl;
  a = refl;
  b = refl;
  c = refl;
  fits = λ f. record { given = f.given; bytes = f.bytes };
}

-- the entries' bytes are bytes
abbrev pub EntriesFit : List Entry → Type 0
EntriesFit [] = Unit {0}
EntriesFit (e ∷ es) = IsByte e.what × EntriesFit es

pub entries-fit : (es : List Entry) → AreBytes es → EntriesFit es
entries-fit [] h = tt
entries-fit (e ∷ es) h = (All-head (λ (x : Entry). IsByte x.what) e es h, entries-fit es (All-tail (λ (x : Entry). IsByte x.what) e es h))

arrives-all : (h : History) (es : List Entry) → EntriesFit es → Arrives h (all_arrived h es)
arrives-all h [] f = arrives-none h
arrives-all h (e ∷ es) f = arrives-then h (arrived h e.what) (all_arrived (arrived h e.what) es) (arrives-one h e.what f.0) (arrives-all (arrived h e.what) es f.1)

fit-if : (b : Bool) (xs ys : List Entry) → EntriesFit xs → EntriesFit ys → EntriesFit (if b then xs else ys)
fit-if true xs ys h g = h
fit-if false xs ys h g = g

due-fit : (count : ℕ) (es : List Entry) → EntriesFit es → EntriesFit (due count es)
due-fit count [] f = tt
due-fit count (e ∷ es) f = fit-if (nat_le e.count count) _ _ (f.0, due-fit count es f.1) tt

later-fit : (count : ℕ) (es : List Entry) → EntriesFit es → EntriesFit (later count es)
later-fit count [] f = tt
later-fit count (e ∷ es) f = fit-if (nat_le e.count count) _ _ (later-fit count es f.1) f

-- ---- machines

-- a machine's history and schedule bring words
pub record MachineFits (m : Machine) : Type 0 where
  pub history : HistoryFits m.history
  pub waiting : EntriesFit m.waiting

pub delivers : (m : Machine) → MachineFits m → Arrives m.history (delivered m).history
delivers m f = arrives-all m.history (due m.history.now m.waiting) (due-fit m.history.now m.waiting f.waiting)

pub delivered-fits : (m : Machine) → MachineFits m → MachineFits (delivered m)
delivered-fits m f = record { history = (delivers m f).fits f.history; waiting = later-fit m.history.now m.waiting f.waiting }

answered-small : (h : History) (o : Option ℕ) → HistoryFits h → answered h o < 2 ^ 32
answered-small h None f = omega arith
answered-small h (Some at) f = answer-small h at f

pub bus-small : (m : Machine) → MachineFits m → (bus_of m).value < 2 ^ 32
bus-small m f = answered-small m.history (asked m) f.history

pub in_kernel-arrived : (k : Core) (h now : History) → Arrives h now → in_kernel k h ≡ in_kernel k now
in_kernel-arrived k h now x = (λ i. record { core = k; a = sym x.a i; b = sym x.b i; c = sym x.c i })
