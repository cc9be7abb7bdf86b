-- What a step of the processor shows is what the board's step makes of it.
use Rattle.std.proofs.Common.{◌≡◌, ◌≢◌, ℕ, zero, suc, ◌+◌, ◌%◌, ◌^◌, Bool, true, false, List, [], ◌∷◌, Option, Some, None, refl, sym, ap, subst, ◌∙◌, arith}
use Rattle.std.specs.Prelude.{if◌then◌else◌, nat_eq, nat_le, ◌&&◌}
use Rattle.std.proofs.lemmas.Bool.{eqb-true}
use Rattle.psx_base.specs.Ports.{CONSOLE_STATUS, CONSOLE_DATA, HALT, HALT_A, HALT_B, HALT_C}
use Rattle.psx_base.specs.declared.stop.Stop.{Stop}
use Rattle.psx_base.specs.declared.stop.Stop.TheVariants.{Budget}
use Rattle.psx_base.specs.Items.{Item, R, W, X}
use Rattle.psx_cpu.specs.Processor.{Core}
use Rattle.psx_cpu.specs.Step.{Move, Goes, Reads, Writes, Enters, Leaves, Stops}
use Rattle.psx_ports.specs.declared.PortDid.{PortDid}
use Rattle.psx_ports.specs.declared.PortDid.TheVariants.{Quiet, Tty}
use Rattle.psx_ports.specs.HaltCodes.{halt_stop}
use Rattle.psx_ports.specs.History.{History, Read, Write, then_event, last_written, halted}
use Rattle.psx_board.specs.Machine.{Machine}
use Rattle.psx_board.specs.Entries.{return}
use Rattle.psx_board.specs.Turn.{Turn, On, Final, moved, accessed, shown, write_shown, after_write, by_move}
use Rattle.abs_run.specs.InWords.{CoreFits, MoveFits}
use Rattle.abs_run.specs.InKernel.{in_kernel, Sign, Nothing, PortRead, PortWritten, Printed, LeftKernel, EndedRun, Strayed, halt_sign, write_sign, sign_of}
use Rattle.abs_run.specs.Invariant.{Passes, accesses_of}
use Rattle.abs_run.proofs.Delivered.{MachineFits}

-- a machine after a finished step from d, in which the history became h
pub record After (d : Machine) (h : History) (next : Machine) : Type 0 where
  pub passes : Passes h next.history
  pub counted : next.history.now ≡ d.history.now + 1
  pub began : next.began ≡ true
  pub fits : MachineFits d → MachineFits next
  pub words : CoreFits next.core

-- the board's turn shows the same
abbrev pub Signed : Machine → Sign → Turn → Type 0
Signed d (Nothing k) turn = (next : Machine) × (turn ≡ On next [] []) × (in_kernel next.core next.history ≡ k) × After d d.history next
Signed d (PortRead k at value) turn =
    (next : Machine) × (turn ≡ On next (R d.history.now at value ∷ []) []) × (in_kernel next.core next.history ≡ k) × After d (then_event d.history (Read d.history.now at)) next
Signed d (PortWritten k at value) turn =
    (next : Machine) × (turn ≡ On next (W d.history.now at value ∷ []) []) × (in_kernel next.core next.history ≡ k) × After d (then_event d.history (Write d.history.now at value)) next
Signed d (Printed k byte) turn =
    (next : Machine) × (value : ℕ) × (turn ≡ On next [] (byte ∷ [])) × (in_kernel next.core next.history ≡ k) × (value % 2 ^ 8 ≡ byte) × After d (then_event d.history (Write d.history.now CONSOLE_DATA value)) next
Signed d (LeftKernel core) turn =
    (next : Machine) × (turn ≡ On next (X (d.history.now + 1) core.processor.context.pc core.processor.cop0.sr core.processor.context.regs ∷ []) []) × (next.core ≡ core) × After d d.history next
Signed d (EndedRun core stop) turn = (last : Machine) × (turn ≡ Final last stop) × (last.core ≡ core) × (stop ≢ Budget)
Signed d Strayed turn = Unit {0}

module _ (d : Machine) (began : d.began ≡ true) where
  after-quiet : (k : Core) → CoreFits k → After d d.history (moved d k)
  after-quiet k w = record {
    passes = record { given = refl; accesses = refl; now = omega arith };
    counted = refl;
    began = began;
    fits = λ f. record { history = record { given = f.history.given; bytes = f.history.bytes }; waiting = f.waiting };
    words = w;
  }

  after-read : (k : Core) (at : ℕ) → CoreFits k → After d (then_event d.history (Read d.history.now at)) (moved (accessed d (Read d.history.now at)) k)
  after-read k at w = record {
    passes = record { given = refl; accesses = refl; now = omega arith };
    counted = refl;
    began = began;
    fits = λ f. record { history = record { given = f.history.given; bytes = f.history.bytes }; waiting = f.waiting };
    words = w;
  }

  after-written : (k : Core) (at value : ℕ) → CoreFits k → After d (then_event d.history (Write d.history.now at value)) (moved (accessed d (Write d.history.now at value)) k)
  after-written k at value w = record {
    passes = record { given = refl; accesses = refl; now = omega arith };
    counted = refl;
    began = began;
    fits = λ f. record { history = record { given = f.history.given; bytes = f.history.bytes }; waiting = f.waiting };
    words = w;
  }

  -- a write of a halt port is no access
  after-halt : (k : Core) (at value : ℕ) → CoreFits k → accesses_of (Write d.history.now at value ∷ d.history.events) ≡ accesses_of d.history.events → After d d.history (moved (accessed d (Write d.history.now at value)) k)
  after-halt k at value w e = record {
    passes = record { given = refl; accesses = e; now = omega arith };
    counted = refl;
    began = began;
    fits = λ f. record { history = record { given = f.history.given; bytes = f.history.bytes }; waiting = f.waiting };
    words = w;
  }

  shown-true : (item : Item) → shown d.began item ≡ item ∷ []
  shown-true item = ap (λ (b : Bool). shown b item) began

  if-both : (b : Bool) (x y : Sign) (t : PortDid → Turn) (u v : PortDid) → (b ≡ true → Signed d x (t u)) → (b ≡ false → Signed d y (t v)) → Signed d (if b then x else y) (t (if b then u else v))
  if-both true x y t u v f g = f refl
  if-both false x y t u v f g = g refl

  if-one : (b : Bool) (x y : Sign) (t : Turn) → (b ≡ true → Signed d x t) → (b ≡ false → Signed d y t) → Signed d (if b then x else y) t
  if-one true x y t f g = f refl
  if-one false x y t f g = g refl

  stop-not_budget : (code a b c : ℕ) (stop : Stop) → halt_stop code a b c ≡ Some stop → stop ≢ Budget
  stop-not_budget zero a b c stop h e = absurd (cc)
  stop-not_budget (suc zero) a b c stop h e = absurd (cc)
  stop-not_budget (suc (suc zero)) a b c stop h e = absurd (cc)
  stop-not_budget (suc (suc (suc zero))) a b c stop h e = absurd (cc)
  stop-not_budget (suc (suc (suc (suc zero)))) a b c stop h e = absurd (cc)
  stop-not_budget (suc (suc (suc (suc (suc zero))))) a b c stop h e = absurd (cc)
  stop-not_budget (suc (suc (suc (suc (suc (suc zero)))))) a b c stop h e = absurd (cc)
  stop-not_budget (suc (suc (suc (suc (suc (suc (suc zero))))))) a b c stop h e = absurd (cc)
  stop-not_budget (suc (suc (suc (suc (suc (suc (suc (suc n)))))))) a b c stop h e = absurd (cc)

  module _ (k : Core) (value : ℕ) (w : CoreFits k) where
    abbrev went : ℕ → Machine
    went at = moved (accessed d (Write d.history.now at value)) k

    abbrev wrote : ℕ → PortDid → Turn
    wrote at did = after_write d at value did (went at)

    data-signed : (at : ℕ) → at ≡ CONSOLE_DATA → Signed d (Printed (in_kernel k d.history) (value % 2 ^ 8)) (wrote at (Tty (value % 2 ^ 8)))
    data-signed at e = subst (λ (p : ℕ). Signed d (Printed (in_kernel k d.history) (value % 2 ^ 8)) (wrote p (Tty (value % 2 ^ 8)))) (sym e) (went CONSOLE_DATA, value, refl, refl, refl, after-written k CONSOLE_DATA value w)

    halt-told : (o : Option Stop) → ((stop : Stop) → o ≡ Some stop → stop ≢ Budget) → Signed d (halt_sign (in_kernel k d.history) o) (wrote HALT (halted o))
    halt-told None h = (went HALT, refl, refl, after-halt k HALT value w refl)
    halt-told (Some stop) h = (went HALT, refl, refl, h stop refl)

    halt-signed : (at : ℕ) → at ≡ HALT → (o : Option Stop) → ((stop : Stop) → o ≡ Some stop → stop ≢ Budget) → Signed d (halt_sign (in_kernel k d.history) o) (wrote at (halted o))
    halt-signed at e o h = subst (λ (p : ℕ). Signed d (halt_sign (in_kernel k d.history) o) (wrote p (halted o))) (sym e) (halt-told o h)

    a-signed : (at : ℕ) → at ≡ HALT_A → Signed d (Nothing (record (in_kernel k d.history) { a = value })) (wrote at Quiet)
    a-signed at e = subst (λ (p : ℕ). Signed d (Nothing (record (in_kernel k d.history) { a = value })) (wrote p Quiet)) (sym e) (went HALT_A, refl, refl, after-halt k HALT_A value w refl)

    b-signed : (at : ℕ) → at ≡ HALT_B → Signed d (Nothing (record (in_kernel k d.history) { b = value })) (wrote at Quiet)
    b-signed at e = subst (λ (p : ℕ). Signed d (Nothing (record (in_kernel k d.history) { b = value })) (wrote p Quiet)) (sym e) (went HALT_B, refl, refl, after-halt k HALT_B value w refl)

    c-signed : (at : ℕ) → at ≡ HALT_C → Signed d (Nothing (record (in_kernel k d.history) { c = value })) (wrote at Quiet)
    c-signed at e = subst (λ (p : ℕ). Signed d (Nothing (record (in_kernel k d.history) { c = value })) (wrote p Quiet)) (sym e) (went HALT_C, refl, refl, after-halt k HALT_C value w refl)

    other-signed : (at : ℕ) → nat_eq at HALT_A ≡ false → nat_eq at HALT_B ≡ false → nat_eq at HALT_C ≡ false → (nat_le CONSOLE_STATUS at && nat_le at HALT) ≡ false → Signed d (PortWritten (in_kernel k d.history) at value) (wrote at Quiet)
    other-signed at a b c r =
        let shows : write_shown d.began d.history.now at value ≡ W d.history.now at value ∷ [] = ap (λ (x : Bool). if x then [] else shown d.began (W d.history.now at value)) r ∙ shown-true (W d.history.now at value) in
        let h = d.history in (
          went at,
          ap (λ (items : List Item). On (went at) items []) shows,
          (λ i. record { core = k; a = if a i then value else last_written h.events HALT_A; b = if b i then value else last_written h.events HALT_B; c = if c i then value else last_written h.events HALT_C }),
          after-written k at value w,
        )

    write-signed : (at : ℕ) → Signed d (write_sign (in_kernel k d.history) at value) (by_move d (Writes k at value))
    write-signed at =
        let x = in_kernel k d.history in
        if-both (nat_eq at CONSOLE_DATA) _ _ (wrote at) _ _ (λ e. data-signed at (eqb-true at CONSOLE_DATA e))
        (λ _. if-both (nat_eq at HALT) _ _ (wrote at) _ _ (λ e. halt-signed at (eqb-true at HALT e) (halt_stop value x.a x.b x.c) (λ stop f. stop-not_budget value x.a x.b x.c stop f))
        (λ _. if-one (nat_eq at HALT_A) _ _ _ (λ e. a-signed at (eqb-true at HALT_A e))
        (λ a. if-one (nat_eq at HALT_B) _ _ _ (λ e. b-signed at (eqb-true at HALT_B e))
        (λ b. if-one (nat_eq at HALT_C) _ _ _ (λ e. c-signed at (eqb-true at HALT_C e))
        (λ c. if-one (nat_le CONSOLE_STATUS at && nat_le at HALT) _ _ _ (λ _. tt) (λ r. other-signed at a b c r))))))

  pub signed : (move : Move) → MoveFits move → Signed d (sign_of (in_kernel d.core d.history) move) (by_move d move)
  signed (Goes next) w = (moved d next, refl, refl, after-quiet next w)
  signed (Reads next at value) w =
      (moved (accessed d (Read d.history.now at)) next, ap (λ (items : List Item). On (moved (accessed d (Read d.history.now at)) next) items []) (shown-true (R d.history.now at value)), refl, after-read next at w)
  signed (Writes next at value) w = write-signed next value w at
  signed (Enters next code) w = tt
  signed (Leaves next) w = (
    record (moved d next) { began = true },
    ap (λ (b : Bool). On (record (moved d next) { began = true }) (return d.history.now b next ∷ []) []) began,
    refl,
    record {
      passes = record { given = refl; accesses = refl; now = omega arith };
      counted = refl;
      began = refl;
      fits = λ f. record { history = record { given = f.history.given; bytes = f.history.bytes }; waiting = f.waiting };
      words = w;
    },
  )
  signed (Stops stop) w = tt
