-- What the code's step answers and leaves is the machine's turn.
use Rattle.std.proofs.Common.{◌≡◌, ℕ, ◌+◌, ◌%◌, ◌^◌, Bool, true, false, List, [], ◌∷◌, Option, Some, None, refl, sym, ap, subst, ◌∙◌}
use Rattle.std.specs.Prelude.{nat_eq, if◌then◌else◌}
use Rattle.psx_base.specs.Ports.{CONSOLE_DATA, HALT, HALT_A, HALT_B, HALT_C}
use Rattle.psx_base.specs.declared.stop.Stop.{Stop}
use Rattle.psx_base.specs.Items.{R}
use Rattle.psx_sched.specs.declared.schedule.Entry.{Entry}
use Rattle.psx_cpu.specs.declared.step.Did.{Did}
use Rattle.psx_cpu.specs.declared.step.Did.TheVariants.{Plain, PortRead, PortWrite, Entered, Left, Stopped}
use Rattle.psx_cpu.specs.Processor.{Core, Bus}
use Rattle.psx_cpu.specs.Step.{Move, Goes, Reads, Writes, Enters, Leaves, Stops, Does, port_read, step}
use Rattle.psx_ports.specs.declared.PortDid.{PortDid}
use Rattle.psx_ports.specs.declared.PortDid.TheVariants.{Quiet, Tty, Halt}
use Rattle.psx_ports.specs.History.{History, Read, Write, line, at_count, halted, written, last_written}
use Rattle.psx_ports.specs.HaltCodes.{halt_stop}
use Rattle.psx_board.specs.Machine.{Machine}
use Rattle.psx_board.specs.Delivery.{due, delivered}
use Rattle.psx_board.specs.Turn.{Turn, after_write, accessed, moved, by_move, shown, asked, answered, bus_of, stepped, turn}
use Rattle.psx_board.specs.Entries.{entry, return}
use Rattle.psx_board.specs.StepDid.{step_did, move_did, stepped_did, write_did}
use Rattle.psx_board.specs.Devices.{KeptDevices, Carries}
use Rattle.psx_board.specs.Finished.{Counted, Wrote, Finished, after_read, stop_of}
use Rattle.psx_board.specs.Stands.{View, Stands, Turned, TurnedBy, console_bytes}
use Rattle.psx_board.proofs.Again.{all_arrived-now, arrived-again, later-again}

-- the board behind a counted step
pub stands-moved : (m : Machine) (next core : Core) (new : View) → new.core ≡ next → new.taken ≡ new.devices.count → Counted new.devices m.history m.waiting → Stands new (moved m next)
stands-moved m next core new k t d = record { core = k; devices = d; taken = t ∙ d.counted ∙ all_arrived-now (at_count m.history (m.history.now + 1)) (due (m.history.now + 1) m.waiting) }

-- ---- the byte that a write makes

abbrev tty_of : PortDid → List ℕ
tty_of Quiet = []
tty_of (Tty byte) = byte ∷ []
tty_of (Halt stop) = []

halt-silent : (b : Bool) (o : Option Stop) → tty_of (if b then halted o else Quiet) ≡ []
halt-silent true None = refl
halt-silent true (Some stop) = refl
halt-silent false o = refl

first : (b : Bool) (byte : ℕ) (rest : PortDid) → tty_of rest ≡ [] → tty_of (if b then Tty byte else rest) ≡ (if b then byte ∷ [] else [])
first true byte rest silent = refl
first false byte rest silent = silent

console : (h : History) (at value : ℕ) → tty_of (written h at value) ≡ console_bytes (PortWrite at value)
console h at value =
    first (nat_eq at CONSOLE_DATA) (value % 2 ^ 8) _ (halt-silent (nat_eq at HALT) (halt_stop value (last_written h.events HALT_A) (last_written h.events HALT_B) (last_written h.events HALT_C)))

-- ---- what a step did

write_answered : (h : History) (waiting : List Entry) (at value : ℕ) (port : PortDid) (did : Did) (new : KeptDevices) → Wrote h waiting at value port did new → did ≡ write_did at value port
write_answered h waiting at value Quiet did new w = w.0
write_answered h waiting at value (Tty byte) did new w = w.0
write_answered h waiting at value (Halt stop) did new w = w.0

answers : (h : History) (waiting : List Entry) (old : Core) (move : Move) (did result : Did) (next : Core) (new : KeptDevices)
    → Does old move did next → Finished (after_read h (port_read move)) waiting did result new → result ≡ move_did h move
answers h waiting old (Goes k) Plain result next new does f = f.0
answers h waiting old (Reads k at value) (PortRead at' value') result next new does f = f.0 ∙ (λ i. PortRead (does.1.0 i) (does.1.1 i))
answers h waiting old (Enters k code) (Entered code') result next new does f = f.0 ∙ ap Entered does.1
answers h waiting old (Leaves k) Left result next new does f = f.0
answers h waiting old (Writes k at value) (PortWrite at' value') result next new does f =
    write_answered h waiting at' value' (written h at' value') result new f ∙ (λ i. write_did (does.1.0 i) (does.1.1 i) (written h (does.1.0 i) (does.1.1 i)))
answers h waiting old (Stops stop) (Stopped stop') result next new does f = f.0 ∙ ap Stopped does.1
answers h waiting old _ _ result next new does f = absurd does

-- ---- a step, by what the processor did

module _ (m : Machine) (new : View) (taken : new.taken ≡ new.devices.count) where
  abbrev Is : Turn → Did → Type 0
  Is turn told = TurnedBy m.began (line m.history) m.history.now turn told new

  -- a write, by what it did
  after-write : (at value : ℕ) (next : Core) (port : PortDid) (told : Did) → tty_of port ≡ console_bytes (PortWrite at value) → new.core ≡ next → new.stopped ≡ stop_of told
      → Wrote m.history m.waiting at value port told new.devices → Is (after_write m at value port (moved (accessed m (Write m.history.now at value)) next)) told
  after-write at value next Quiet told tty k s w =
      subst (λ t. new.stopped ≡ stop_of t → Is (after_write m at value Quiet (moved (accessed m (Write m.history.now at value)) next)) t) (sym w.0)
      (λ stopped. record { went_on = tt; items = refl; tty = tty; stands = stands-moved (accessed m (Write m.history.now at value)) next next new k taken w.1; began = refl; stopped = stopped }) s
  after-write at value next (Tty byte) told tty k s w =
      subst (λ t. new.stopped ≡ stop_of t → Is (after_write m at value (Tty byte) (moved (accessed m (Write m.history.now at value)) next)) t) (sym w.0)
      (λ stopped. record { went_on = tt; items = refl; tty = tty; stands = stands-moved (accessed m (Write m.history.now at value)) next next new k taken w.1; began = refl; stopped = stopped }) s
  after-write at value next (Halt stop) told tty k s w =
      record { told = w.0; stands = stands-moved (accessed m (Write m.history.now at value)) next next new k taken w.1; stopped = s ∙ ap stop_of w.0 }

  -- a step without a write and without a stop
  counted : (did told : Did) (t : Turn) → told ≡ did → new.stopped ≡ stop_of told → (new.stopped ≡ stop_of did → Is t did) → Is t told
  counted did told t is s made = subst (λ d. new.stopped ≡ stop_of d → Is t d) (sym is) made s

  pub turned : (move : Move) (did told : Did) → Does m.core move did new.core → new.stopped ≡ stop_of told → (new.core ≡ m.core → Carries new.devices m.history m.waiting → Stands new m)
      → Finished (after_read m.history (port_read move)) m.waiting did told new.devices → Is (by_move m move) told
  turned (Goes next) Plain told does s again f =
      counted Plain told (by_move m (Goes next)) f.0 s (λ stopped. record { went_on = tt; items = refl; tty = refl; stands = stands-moved m next next new does taken f.1; began = refl; stopped = stopped })
  turned (Reads next at value) (PortRead at' value') told does s again f =
      counted (PortRead at' value') told (by_move m (Reads next at value)) f.0 s (λ stopped. record {
        went_on = tt;
        items = λ i. shown m.began (R m.history.now (sym does.1.0 i) (sym does.1.1 i));
        tty = refl;
        stands = stands-moved (accessed m (Read m.history.now at)) next next new does.0 taken f.1;
        began = refl;
        stopped = stopped;
      })
  turned (Enters next code) (Entered code') told does s again f =
      counted (Entered code') told (by_move m (Enters next code)) f.0 s (λ stopped. record {
        went_on = tt;
        items = λ i. shown m.began (entry m.history.now (sym does.1 i) (line m.history) (sym does.0 i));
        tty = refl;
        stands = stands-moved m next next new does.0 taken f.1;
        began = refl;
        stopped = stopped;
      })
  turned (Leaves next) Left told does s again f =
      counted Left told (by_move m (Leaves next)) f.0 s (λ stopped. record {
        went_on = tt;
        items = λ i. return m.history.now m.began (sym does i) ∷ [];
        tty = refl;
        stands = let moved_on = stands-moved m next next new does taken f.1 in record { core = moved_on.core; devices = moved_on.devices; taken = moved_on.taken };
        began = refl;
        stopped = stopped;
      })
  turned (Writes next at value) (PortWrite at' value') told does s again f =
      let W : ℕ → ℕ → Type 0 = λ a v. Wrote m.history m.waiting a v (written m.history a v) told new.devices in
      after-write at value next (written m.history at value) told (console m.history at value) does.0 s (subst (λ (v : ℕ). W at v) does.1.1 (subst (λ (a : ℕ). W a value') does.1.0 f))
  turned (Stops stop) (Stopped stop') told does s again f = record { told = f.0 ∙ ap Stopped does.1; stands = again does.0 f.1; stopped = s ∙ ap stop_of (f.0 ∙ ap Stopped does.1) }
  turned _ _ told does s again f = absurd does

-- a board whose devices are as they were stands for the machine with what is due delivered
again : (m : Machine) (new : View) → new.taken ≡ new.devices.count → new.core ≡ m.core → Carries new.devices (delivered m).history (delivered m).waiting → Stands new (delivered m)
again m new taken core c =
    let d = delivered m in
    let now : d.history.now ≡ m.history.now = all_arrived-now m.history (due m.history.now m.waiting) in
    record {
      core = core;
      devices = subst (λ (h : History). Carries new.devices h (delivered d).waiting) (sym (arrived-again m.history.now d.history m.waiting now))
          (subst (λ (es : List Entry). Carries new.devices d.history es) (sym (later-again m.history.now d.history.now m.waiting now)) c);
      taken = taken ∙ c.counted;
    }

as_turn : (m : Machine) (told : Did) (new : View) → TurnedBy m.began (line (delivered m).history) (delivered m).history.now (stepped (delivered m)) told new → Turned m (turn m) told new
unfolding turn
as_turn m told new t = subst (λ (n : ℕ). TurnedBy m.began (line (delivered m).history) n (stepped (delivered m)) told new) (all_arrived-now m.history (due m.history.now m.waiting)) t

as_did : (m : Machine) (result : Did) → result ≡ stepped_did (delivered m) → result ≡ step_did m
unfolding step_did
as_did m result is = is

-- the code's step, from its parts: what it leaves, and what it did
pub turned-step : (m : Machine) (new : View) (k : Core) (l : Bool) (value : ℕ) (did result : Did) → k ≡ m.core → l ≡ line (delivered m).history → value ≡ answered (delivered m).history (asked (delivered m))
    → Does k (step k (record { line = l; value = value })) did new.core → port_read (step m.core (bus_of (delivered m))) ≡ asked (delivered m)
    → Finished (after_read (delivered m).history (asked (delivered m))) (delivered m).waiting did result new.devices → new.taken ≡ new.devices.count → new.stopped ≡ stop_of result → Turned m (turn m) result new × (result ≡ step_did m)
turned-step m new k l value did result core is_line answer does reads f taken stopped =
    let d = delivered m in
    let bus : (record { line = l; value = value }) ≡ bus_of d = (λ i. record { line = is_line i; value = answer i }) in
    let by_bus : Does k (step k (bus_of d)) did new.core = subst (λ (u : Bus). Does k (step k u) did new.core) bus does in
    let by_core : Does m.core (step m.core (bus_of d)) did new.core = subst (λ (x : Core). Does x (step x (bus_of d)) did new.core) core by_bus in
    let finished : Finished (after_read d.history (port_read (step m.core (bus_of d)))) d.waiting did result new.devices = subst (λ (o : Option ℕ). Finished (after_read d.history o) d.waiting did result new.devices) (sym reads) f in (
      as_turn m result new (turned d new taken (step m.core (bus_of d)) did result by_core stopped (again m new taken) finished),
      as_did m result (answers d.history d.waiting m.core (step m.core (bus_of d)) did result new.core new.devices by_core finished),
    )
