-- What a read answers, by its address.
use Rattle.std.proofs.Common.{◌≡◌, ℕ, ◌≤◌, Bool, true, false, inl, inr, List, refl, ap, ◌∙◌, arith}
use Rattle.std.specs.Prelude.{nat_eq, if◌then◌else◌}
use Rattle.psx_base.specs.Ports.{I_STAT, I_MASK, value_port, mode_port, target_port, CONSOLE_STATUS, CONSOLE_DATA, START_PC, START_GP, START_SP, START_THREADS, START_EVENTS}
use Rattle.psx_ports.specs.History.{History, Event, answer, counters_answer, counter_answer, is_counter_port, due, first_of}
use Rattle.psx_ports.proofs.Events.{apart, within}

pub answer-data : (h : History) → answer h CONSOLE_DATA ≡ first_of (due h.events)
unfolding answer
answer-data h = refl

-- an address that isn't one of a choice
other : (b : Bool) (x y : ℕ) → b ≡ false → (if b then x else y) ≡ y
other b x y e = ap (λ b. if b then x else y) e

pub answer-counter : (h : History) (at : ℕ) → is_counter_port at ≡ true → answer h at ≡ counters_answer h.events h.now at
unfolding answer
answer-counter h at inside =
    other (nat_eq at I_STAT) _ _ (within at I_STAT inside (inl (omega arith)))
    ∙ other (nat_eq at I_MASK) _ _ (within at I_MASK inside (inl (omega arith)))
    ∙ other (nat_eq at CONSOLE_STATUS) _ _ (within at CONSOLE_STATUS inside (inr (omega arith)))
    ∙ other (nat_eq at CONSOLE_DATA) _ _ (within at CONSOLE_DATA inside (inr (omega arith)))
    ∙ other (nat_eq at START_PC) _ _ (within at START_PC inside (inr (omega arith)))
    ∙ other (nat_eq at START_GP) _ _ (within at START_GP inside (inr (omega arith)))
    ∙ other (nat_eq at START_SP) _ _ (within at START_SP inside (inr (omega arith)))
    ∙ other (nat_eq at START_THREADS) _ _ (within at START_THREADS inside (inr (omega arith)))
    ∙ other (nat_eq at START_EVENTS) _ _ (within at START_EVENTS inside (inr (omega arith)))

counter-other : (t : ℕ) (events : List Event) (now at last : ℕ) → t ≤ 2 → is_counter_port at ≡ false → counter_answer t events now at last ≡ last
counter-other t events now at last h outside =
    other (nat_eq at (value_port t)) _ _ (apart at (value_port t) outside (omega arith) (omega arith))
    ∙ other (nat_eq at (mode_port t)) _ _ (apart at (mode_port t) outside (omega arith) (omega arith))
    ∙ other (nat_eq at (target_port t)) _ _ (apart at (target_port t) outside (omega arith) (omega arith))

pub counters-other : (events : List Event) (now at : ℕ) → is_counter_port at ≡ false → counters_answer events now at ≡ 0
unfolding counters_answer
counters-other events now at outside =
    counter-other 0 events now at _ (omega arith) outside ∙ counter-other 1 events now at _ (omega arith) outside ∙ counter-other 2 events now at 0 (omega arith) outside

-- the halt ports, and an address that is no port
pub answer-other : (h : History) (at : ℕ) → is_counter_port at ≡ false → nat_eq at I_STAT ≡ false → nat_eq at I_MASK ≡ false → nat_eq at CONSOLE_STATUS ≡ false → nat_eq at CONSOLE_DATA ≡ false
    → nat_eq at START_PC ≡ false → nat_eq at START_GP ≡ false → nat_eq at START_SP ≡ false → nat_eq at START_THREADS ≡ false → nat_eq at START_EVENTS ≡ false → answer h at ≡ 0
unfolding answer
answer-other h at outside stat mask status bytes pc gp sp threads events =
    other (nat_eq at I_STAT) _ _ stat ∙ other (nat_eq at I_MASK) _ _ mask ∙ other (nat_eq at CONSOLE_STATUS) _ _ status ∙ other (nat_eq at CONSOLE_DATA) _ _ bytes
    ∙ other (nat_eq at START_PC) _ _ pc ∙ other (nat_eq at START_GP) _ _ gp ∙ other (nat_eq at START_SP) _ _ sp ∙ other (nat_eq at START_THREADS) _ _ threads ∙ other (nat_eq at START_EVENTS) _ _ events
    ∙ counters-other h.events h.now at outside
