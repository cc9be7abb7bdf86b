-- Ports that stand for a history stand for it with an event more.
use Rattle.std.proofs.Common.{◌≡◌, ℕ, ◌+◌, ◌%◌, ◌^◌, ◌≤◌, ◌<◌, true, false, ◌⊎◌, inl, inr, List, [], ◌∷◌, ◌++◌, drop, refl, sym, ap, ap₂, subst, ◌∙◌, arith}
use Rattle.std.specs.Prelude.{◌&&◌, nat_eq, nat_le, bit_and, bit_or, if◌then◌else◌}
use Rattle.std.proofs.lemmas.Bool.{le-leb}
use Rattle.std.proofs.lemmas.Bool.Decides.{eqb_tells, leb_tells}
use Rattle.psx_base.specs.Ports.{I_STAT, I_MASK, COUNTERS, value_port, mode_port, target_port, CONSOLE_DATA, HALT_A, HALT_B, HALT_C}
use Rattle.psx_ports.specs.Counter.{Act, SetValue, SetMode, SetTarget, TakeMode, bit}
use Rattle.psx_ports.specs.KeptCounter.{KeptCounter, Follows}
use Rattle.psx_ports.specs.Interrupts.{with_pending, with_mask}
use Rattle.psx_ports.specs.History.{History, Event, Read, Write, Raise, Give, then_event, acts_of, last_written, then_act, i_stat, due, is_counter_port}
use Rattle.psx_ports.specs.Stands.{KeptPorts, KeptCounters, StandsFor, CounterStands, CountersStand, least_next}
use Rattle.psx_ports.proofs.Pending.{stat-same, stat-raised, stat-acknowledged}

-- ---- addresses

-- another address than those of the counters
pub apart : (at p : ℕ) → is_counter_port at ≡ false → COUNTERS ≤ p → p ≤ COUNTERS + 0x28 → nat_eq at p ≡ false
apart at p outside low high = elim (eqb_tells at p) [
  | inr e ↦ e.0
  | inl e ↦
      let inside : is_counter_port at ≡ true = ap₂ ◌&&◌ (le-leb COUNTERS at (omega arith)) (le-leb at (COUNTERS + 0x28) (omega arith)) in
      absurd (cc)
]

-- and one of them
pub within : (at p : ℕ) → is_counter_port at ≡ true → (p < COUNTERS) ⊎ (COUNTERS + 0x28 < p) → nat_eq at p ≡ false
within at p inside out = elim (eqb_tells at p) [
  | inr e ↦ e.0
  | inl e ↦ elim out [
    | inl low ↦ elim (leb_tells COUNTERS at) [ inl f ↦ absurd (omega arith) | inr f ↦ let outside : is_counter_port at ≡ false = ap (λ b. b && nat_le at (COUNTERS + 0x28)) f.0 in absurd (cc) ]
    | inr high ↦ elim (leb_tells at (COUNTERS + 0x28)) [ inl f ↦ absurd (omega arith) | inr f ↦ let outside : is_counter_port at ≡ false = ap₂ ◌&&◌ (le-leb COUNTERS at (omega arith)) f.0 in absurd (cc) ]
  ]
]

read-apart : (at count t : ℕ) (acts : List Act) → is_counter_port at ≡ false → t ≤ 2 → then_act t (Read count at) acts ≡ acts
read-apart at count t acts outside h = ap (λ b. if b then TakeMode count ∷ acts else acts) (apart at (mode_port t) outside (omega arith) (omega arith))

write-apart : (at count value t : ℕ) (acts : List Act) → is_counter_port at ≡ false → t ≤ 2 → then_act t (Write count at value) acts ≡ acts
write-apart at count value t acts outside h =
    ap (λ b. if b then SetValue count value ∷ acts else (if nat_eq at (mode_port t) then SetMode count value ∷ acts else (if nat_eq at (target_port t) then SetTarget count value ∷ acts else acts)))
    (apart at (value_port t) outside (omega arith) (omega arith))
    ∙ ap (λ b. if b then SetMode count value ∷ acts else (if nat_eq at (target_port t) then SetTarget count value ∷ acts else acts)) (apart at (mode_port t) outside (omega arith) (omega arith))
    ∙ ap (λ b. if b then SetTarget count value ∷ acts else acts) (apart at (target_port t) outside (omega arith) (omega arith))

-- ---- counters that an event leaves alone

counter-apart : (t : ℕ) (k : KeptCounter) (events : List Event) (now : ℕ) (event : Event) → CounterStands t k events now → then_act t event (acts_of t events) ≡ acts_of t events
    → CounterStands t k (event ∷ events) now
counter-apart t k events now event s same =
    record { number = s.number; follows = subst (λ (acts : List Act). Follows k acts now) (sym same) s.follows; ahead = s.ahead; later = s.later }

counters-apart : (k : KeptCounters) (events : List Event) (now : ℕ) (event : Event) → CountersStand k events now → ((t : ℕ) (acts : List Act) → t ≤ 2 → then_act t event acts ≡ acts)
    → CountersStand k (event ∷ events) now
counters-apart k events now event s same = record {
  zero = counter-apart 0 k.zero events now event s.zero (same 0 (acts_of 0 events) (omega arith));
  one = counter-apart 1 k.one events now event s.one (same 1 (acts_of 1 events) (omega arith));
  two = counter-apart 2 k.two events now event s.two (same 2 (acts_of 2 events) (omega arith));
}

-- ---- lines and bytes

pub stands-raised : (k : KeptPorts) (h : History) (line : ℕ) → StandsFor k h → line ≤ 10
    → StandsFor (record k { interrupts = with_pending k.interrupts (bit_or k.interrupts.pending (2 ^ line)) }) (then_event h (Raise h.now line))
stands-raised k h line s low = record {
  given = s.given;
  a = s.a;
  b = s.b;
  c = s.c;
  console = s.console;
  pending = ap (λ stat. bit_or stat (2 ^ line)) s.pending ∙ sym (stat-raised h line low);
  mask = s.mask;
  line = refl;
  counters = counters-apart k.counters h.events h.now (Raise h.now line) s.counters (λ t acts l. refl);
  now = s.now;
  latest = omega arith;
  deadline = s.deadline;
}

pub stands-given : (k : KeptPorts) (h : History) (byte : ℕ) → StandsFor k h → StandsFor (record k { console = k.console ++ byte ∷ [] }) (then_event h (Give h.now byte))
stands-given k h byte s = record {
  given = s.given;
  a = s.a;
  b = s.b;
  c = s.c;
  console = ap (λ bytes. bytes ++ byte ∷ []) s.console;
  pending = s.pending ∙ sym (stat-same h (Give h.now byte) refl (λ n b. refl));
  mask = s.mask;
  line = s.line;
  counters = counters-apart k.counters h.events h.now (Give h.now byte) s.counters (λ t acts l. refl);
  now = s.now;
  latest = omega arith;
  deadline = s.deadline;
}

-- ---- reads

pub stands-looked : (k : KeptPorts) (h : History) (at : ℕ) → StandsFor k h → is_counter_port at ≡ false → nat_eq at CONSOLE_DATA ≡ false → StandsFor k (then_event h (Read h.now at))
stands-looked k h at s outside other = record {
  given = s.given;
  a = s.a;
  b = s.b;
  c = s.c;
  console = s.console ∙ sym (ap (λ b. if b then drop 1 (due h.events) else due h.events) other);
  pending = s.pending ∙ sym (stat-same h (Read h.now at) refl (λ n b. refl));
  mask = s.mask;
  line = s.line;
  counters = counters-apart k.counters h.events h.now (Read h.now at) s.counters (λ t acts l. read-apart at h.now t acts outside l);
  now = s.now;
  latest = omega arith;
  deadline = s.deadline;
}

pub stands-taken : (k : KeptPorts) (h : History) → StandsFor k h → StandsFor (record k { console = drop 1 k.console }) (then_event h (Read h.now CONSOLE_DATA))
stands-taken k h s = record {
  given = s.given;
  a = s.a;
  b = s.b;
  c = s.c;
  console = ap (drop 1) s.console;
  pending = s.pending ∙ sym (stat-same h (Read h.now CONSOLE_DATA) refl (λ n b. refl));
  mask = s.mask;
  line = s.line;
  counters = counters-apart k.counters h.events h.now (Read h.now CONSOLE_DATA) s.counters (λ t acts l. read-apart CONSOLE_DATA h.now t acts refl l);
  now = s.now;
  latest = omega arith;
  deadline = s.deadline;
}

pub stands-read : (k : KeptPorts) (h : History) (at deadline : ℕ) (counters : KeptCounters) → StandsFor k h → is_counter_port at ≡ true
    → CountersStand counters (Read h.now at ∷ h.events) h.now → deadline ≡ least_next counters → StandsFor (record k { counters = counters; deadline = deadline }) (then_event h (Read h.now at))
stands-read k h at deadline counters s inside stands least = record {
  given = s.given;
  a = s.a;
  b = s.b;
  c = s.c;
  console = s.console ∙ sym (ap (λ b. if b then drop 1 (due h.events) else due h.events) (within at CONSOLE_DATA inside (inr (omega arith))));
  pending = s.pending ∙ sym (stat-same h (Read h.now at) refl (λ n b. refl));
  mask = s.mask;
  line = s.line;
  counters = stands;
  now = s.now;
  latest = omega arith;
  deadline = least;
}

-- ---- writes

-- a write to another port than I_STAT leaves the lines
stat-written : (h : History) (at value : ℕ) → nat_eq at I_STAT ≡ false → i_stat (then_event h (Write h.now at value)) ≡ i_stat h
stat-written h at value other = stat-same h (Write h.now at value) refl (λ n b. ap (λ c. if c then b && bit value n else b) other)

kept : (at port value before : ℕ) → nat_eq at port ≡ false → (if nat_eq at port then value else before) ≡ before
kept at port value before other = ap (λ b. if b then value else before) other

pub stands-written : (k : KeptPorts) (h : History) (at value deadline : ℕ) (counters : KeptCounters) → StandsFor k h → is_counter_port at ≡ true
    → CountersStand counters (Write h.now at value ∷ h.events) h.now → deadline ≡ least_next counters → StandsFor (record k { counters = counters; deadline = deadline }) (then_event h (Write h.now at value))
stands-written k h at value deadline counters s inside stands least = record {
  given = s.given;
  a = s.a ∙ sym (kept at HALT_A value (last_written h.events HALT_A) (within at HALT_A inside (inr (omega arith))));
  b = s.b ∙ sym (kept at HALT_B value (last_written h.events HALT_B) (within at HALT_B inside (inr (omega arith))));
  c = s.c ∙ sym (kept at HALT_C value (last_written h.events HALT_C) (within at HALT_C inside (inr (omega arith))));
  console = s.console;
  pending = s.pending ∙ sym (stat-written h at value (within at I_STAT inside (inl (omega arith))));
  mask = s.mask ∙ ap (λ mask. mask % 2 ^ 11) (sym (kept at I_MASK value (last_written h.events I_MASK) (within at I_MASK inside (inl (omega arith)))));
  line = s.line;
  counters = stands;
  now = s.now;
  latest = omega arith;
  deadline = least;
}

pub stands-acknowledged : (k : KeptPorts) (h : History) (value : ℕ) → StandsFor k h
    → StandsFor (record k { interrupts = with_pending k.interrupts (bit_and k.interrupts.pending value) }) (then_event h (Write h.now I_STAT value))
stands-acknowledged k h value s = record {
  given = s.given;
  a = s.a;
  b = s.b;
  c = s.c;
  console = s.console;
  pending = ap (λ stat. bit_and stat value) s.pending ∙ sym (stat-acknowledged h value);
  mask = s.mask;
  line = refl;
  counters = counters-apart k.counters h.events h.now (Write h.now I_STAT value) s.counters (λ t acts l. write-apart I_STAT h.now value t acts refl l);
  now = s.now;
  latest = omega arith;
  deadline = s.deadline;
}

pub stands-masked : (k : KeptPorts) (h : History) (value : ℕ) → StandsFor k h
    → StandsFor (record k { interrupts = with_mask k.interrupts (value % 2 ^ 11) }) (then_event h (Write h.now I_MASK value))
stands-masked k h value s = record {
  given = s.given;
  a = s.a;
  b = s.b;
  c = s.c;
  console = s.console;
  pending = s.pending ∙ sym (stat-written h I_MASK value refl);
  mask = refl;
  line = refl;
  counters = counters-apart k.counters h.events h.now (Write h.now I_MASK value) s.counters (λ t acts l. write-apart I_MASK h.now value t acts refl l);
  now = s.now;
  latest = omega arith;
  deadline = s.deadline;
}

-- the halt words, which the other ports leave as they are
pub stands-kept : (k : KeptPorts) (h : History) (at value a b c : ℕ) → StandsFor k h → is_counter_port at ≡ false → nat_eq at I_STAT ≡ false → nat_eq at I_MASK ≡ false
    → a ≡ (if nat_eq at HALT_A then value else k.a) → b ≡ (if nat_eq at HALT_B then value else k.b) → c ≡ (if nat_eq at HALT_C then value else k.c)
    → StandsFor (record k { a = a; b = b; c = c }) (then_event h (Write h.now at value))
stands-kept k h at value a b c s outside stat mask is_a is_b is_c = record {
  given = s.given;
  a = is_a ∙ ap (λ before. if nat_eq at HALT_A then value else before) s.a;
  b = is_b ∙ ap (λ before. if nat_eq at HALT_B then value else before) s.b;
  c = is_c ∙ ap (λ before. if nat_eq at HALT_C then value else before) s.c;
  console = s.console;
  pending = s.pending ∙ sym (stat-written h at value stat);
  mask = s.mask ∙ ap (λ mask. mask % 2 ^ 11) (sym (kept at I_MASK value (last_written h.events I_MASK) mask));
  line = s.line;
  counters = counters-apart k.counters h.events h.now (Write h.now at value) s.counters (λ t acts l. write-apart at h.now value t acts outside l);
  now = s.now;
  latest = omega arith;
  deadline = s.deadline;
}
