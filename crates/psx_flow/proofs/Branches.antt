-- What an Op, a branch and a jump do to the place in the program.
use Rattle.std.proofs.Common.{◌≡◌, ℕ, ◌+◌, ◌-◌, ◌*◌, ◌/◌, ◌%◌, ◌^◌, ◌<◌, ◌≤◌, ◌⊎◌, inl, inr, List, Bool, true, false, None, refl, sym, ap, ◌∙◌, arith, ⊎_elim, eq-eqb, ne_eqb}
use Rattle.std.specs.Prelude.{not, nat_eq, nat_lt, nat_le, ◌&&◌, ◌||◌, if◌then◌else◌}
use Rattle.std.proofs.lemmas.Bool.{true≢false, false≢true, cases_Bool, eqb-true, ltb-true, leb-true, lt-ltb}
use Rattle.psx_ins.specs.declared.ins.Ins.{Ins}
use Rattle.psx_ins.specs.declared.ins.Ins.TheVariants.{JR, JALR, SYSCALL, BREAK, BLTZ, BGEZ, BLTZAL, BGEZAL, J, JAL, BEQ, BNE, BLEZ, BGTZ, RFE}
use Rattle.psx_ins.specs.Words.{fits_fields}
use Rattle.psx_base.specs.Memory.{is_mapped}
use Rattle.psx_base.specs.Addresses.{place, is_mirrored, low}
use Rattle.psx_base.specs.Registers.{Registers, register}
use Rattle.psx_cpu.specs.Words.{sign_extended}
use Rattle.psx_cpu.specs.Processor.{State, Bus}
use Rattle.psx_cpu.specs.Changes.{branch_target}
use Rattle.psx_cpu.specs.Effect.{effect}
use Rattle.psx_cpu.specs.Traps.{trap_of}
use Rattle.psx_cpu.specs.Guard.{is_branch}
use Rattle.psx_flow.specs.declared.node.Test.{Test}
use Rattle.psx_flow.specs.declared.node.Test.TheVariants.{Same, Differ, NotAbove, Above, Negative, NotNegative}
use Rattle.psx_flow.specs.Well.{enters_or_leaves, is_register, test_fits}
use Rattle.psx_flow.specs.Lowered.{opposite, branch_by, distance, in_reach, in_region}
use Rattle.psx_flow.specs.Run.{Run, Access, accessed, state_at}
use Rattle.psx_flow.specs.Meets.{TestHolds}
use Rattle.psx_flow.proofs.Step.{both}

-- ---- addresses

mapped_top : (at : ℕ) → is_mapped (place at) 4 ≡ true → at / 2 ^ 29 ≤ 5
mapped_top at h = go (is_mirrored at) refl h
  where
    go : (b : Bool) → is_mirrored at ≡ b → is_mapped (if b then low at else 2 ^ 29) 4 ≡ true → at / 2 ^ 29 ≤ 5
    go true e h = grind arith
    go false e h = absurd (false≢true h)

-- where a word is mapped, its address is below C0000000h
pub mapped_below : (at : ℕ) → is_mapped (place at) 4 ≡ true → at < 0xC0000000
mapped_below at h = let e = mapped_top at h in omega arith

pub no_wrap : (at : ℕ) → is_mapped (place at) 4 ≡ true → (at + 4) % 2 ^ 32 ≡ at + 4
no_wrap at h = let e = mapped_below at h in omega arith

fore : (n : ℕ) → n < 2 ^ 15 → (n + 2 ^ 16) % 2 ^ 16 ≡ n
fore n h = omega arith

extended_low : (n : ℕ) → n < 2 ^ 15 → sign_extended n ≡ n
extended_low n h = ap (λ b. if b then n else n + (2 ^ 32 - 2 ^ 16)) (lt-ltb n (2 ^ 15) h)

not_low : (n : ℕ) → 2 ^ 15 ≤ n → nat_lt n (2 ^ 15) ≡ false
not_low n h = grind arith

extended_high : (n : ℕ) → 2 ^ 15 ≤ n → sign_extended n ≡ n + (2 ^ 32 - 2 ^ 16)
extended_high n h = ap (λ b. if b then n else n + (2 ^ 32 - 2 ^ 16)) (not_low n h)

quarter : (x n : ℕ) → x ≡ 4 * n → x / 4 ≡ n
quarter x n e = omega arith

-- forward by n words
goes_fore : (at n : ℕ) → n < 2 ^ 15 → (at + 4 + 4 * n) < 2 ^ 32 → (at + 4 + sign_extended (distance at (at + 4 + 4 * n)) * 4) % 2 ^ 32 ≡ at + 4 + 4 * n
goes_fore at n h small =
    let e : (at + 4 + 4 * n + 2 ^ 18 - (at + 4)) / 4 ≡ n + 2 ^ 16 = quarter _ (n + 2 ^ 16) (omega arith) in
    let d : distance at (at + 4 + 4 * n) ≡ n = ap (λ x. x % 2 ^ 16) e ∙ fore n h in
    let s : sign_extended (distance at (at + 4 + 4 * n)) ≡ n = ap sign_extended d ∙ extended_low n h in
    ap (λ x. (at + 4 + x * 4) % 2 ^ 32) s ∙ wraps small
  where
    wraps : at + 4 + 4 * n < 2 ^ 32 → (at + 4 + n * 4) % 2 ^ 32 ≡ at + 4 + 4 * n
    wraps small = omega arith

-- back by n words
goes_back : (at to n : ℕ) → 0 < n → n ≤ 2 ^ 15 → to + 4 * n ≡ at + 4 → to < 2 ^ 32 → (at + 4 + sign_extended (distance at to) * 4) % 2 ^ 32 ≡ to
goes_back at to n pos h f small =
    let e : (to + 2 ^ 18 - (at + 4)) / 4 ≡ 2 ^ 16 - n = quarter _ (2 ^ 16 - n) (omega arith) in
    let d : distance at to ≡ 2 ^ 16 - n = ap (λ x. x % 2 ^ 16) e ∙ below n pos in
    let s : sign_extended (distance at to) ≡ 2 ^ 16 - n + (2 ^ 32 - 2 ^ 16) = ap sign_extended d ∙ extended_high (2 ^ 16 - n) (omega arith) in
    ap (λ x. (at + 4 + x * 4) % 2 ^ 32) s ∙ wraps n h f small
  where
    below : (n : ℕ) → 0 < n → (2 ^ 16 - n) % 2 ^ 16 ≡ 2 ^ 16 - n
    below n pos = omega arith

    wraps : (n : ℕ) → n ≤ 2 ^ 15 → to + 4 * n ≡ at + 4 → to < 2 ^ 32 → (at + 4 + (2 ^ 16 - n + (2 ^ 32 - 2 ^ 16)) * 4) % 2 ^ 32 ≡ to
    wraps n h f small = omega arith

-- a branch that is taken goes where it is to
pub goes_to : (at to : ℕ) → at < 0xC0000000 → at % 4 ≡ 0 → to % 4 ≡ 0 → in_reach at to ≡ true → (at + 4 + sign_extended (distance at to) * 4) % 2 ^ 32 ≡ to
goes_to at to low even even' h =
    let p = both (nat_le (at + 4) (to + 2 ^ 17)) (nat_lt to (at + 4 + 2 ^ 17)) h in
    let a : at + 4 ≤ to + 2 ^ 17 = leb-true _ _ p.0 in
    let b : to < at + 4 + 2 ^ 17 = ltb-true _ _ p.1 in
    ⊎_elim (λ f. ahead a b f) (λ f. behind a b f) (order (at + 4) to)
  where
    order : (a b : ℕ) → (a ≤ b) ⊎ (b < a)
    order a b = ⊎_elim (λ e. inl (leb-true a b e)) (λ e. inr (grind arith)) (cases_Bool (nat_le a b))

    ahead : at + 4 ≤ to + 2 ^ 17 → to < at + 4 + 2 ^ 17 → at + 4 ≤ to → (at + 4 + sign_extended (distance at to) * 4) % 2 ^ 32 ≡ to
    ahead a b f =
        let e : at + 4 + 4 * ((to - (at + 4)) / 4) ≡ to = omega arith in
        ap (λ x. (at + 4 + sign_extended (distance at x) * 4) % 2 ^ 32) (sym e) ∙ goes_fore at ((to - (at + 4)) / 4) (omega arith) (omega arith) ∙ e

    behind : at + 4 ≤ to + 2 ^ 17 → to < at + 4 + 2 ^ 17 → to < at + 4 → (at + 4 + sign_extended (distance at to) * 4) % 2 ^ 32 ≡ to
    behind a b f = goes_back at to ((at + 4 - to) / 4) (omega arith) (omega arith) (omega arith) (omega arith)

-- a jump to a word of the same 256 MB
pub jumps_to : (at to : ℕ) → in_region at to ≡ true → (at + 4) % 2 ^ 32 / 2 ^ 28 * 2 ^ 28 + to / 4 % 2 ^ 26 * 4 ≡ to
jumps_to at to h = let p = both (nat_eq (to % 4) 0) (nat_eq (to / 2 ^ 28) ((at + 4) % 2 ^ 32 / 2 ^ 28)) h in here (eqb-true _ _ p.0) (eqb-true _ _ p.1)
  where
    region : (to h : ℕ) → to % 4 ≡ 0 → to / 2 ^ 28 ≡ h → h * 2 ^ 28 + to / 4 % 2 ^ 26 * 4 ≡ to
    region to h e f = omega arith

    here : to % 4 ≡ 0 → to / 2 ^ 28 ≡ (at + 4) % 2 ^ 32 / 2 ^ 28 → (at + 4) % 2 ^ 32 / 2 ^ 28 * 2 ^ 28 + to / 4 % 2 ^ 26 * 4 ≡ to
    here e f = region to ((at + 4) % 2 ^ 32 / 2 ^ 28) e f

-- ---- an Op

abbrev pub resting : State → ℕ → State
resting y pc = record { context = record { regs = y.context.regs; pending = y.context.pending; pc = pc; next = (pc + 4) % 2 ^ 32; in_slot = false }; cop0 = y.cop0; bytes = y.bytes }

-- an Op goes on to the next word
pub op_after : (i : Ins) (s : Run) (at : ℕ) (bus : Bus) → is_branch i ≡ false → enters_or_leaves i ≡ false → (at + 4) % 2 ^ 32 ≡ at + 4
    → effect i (state_at s at) bus ≡ (let y = effect i (state_at s at) bus in record { context = record { regs = y.context.regs; pending = y.context.pending; pc = at + 4; next = (at + 4 + 4) % 2 ^ 32; in_slot = false }; cop0 = y.cop0; bytes = y.bytes })
op_after (JR _) s at bus h g e = absurd (true≢false h)
op_after (JALR _ _) s at bus h g e = absurd (true≢false h)
op_after (SYSCALL _) s at bus h g e = absurd (true≢false g)
op_after (BREAK _) s at bus h g e = absurd (true≢false g)
op_after (BLTZ _ _) s at bus h g e = absurd (true≢false h)
op_after (BGEZ _ _) s at bus h g e = absurd (true≢false h)
op_after (BLTZAL _ _) s at bus h g e = absurd (true≢false h)
op_after (BGEZAL _ _) s at bus h g e = absurd (true≢false h)
op_after (J _) s at bus h g e = absurd (true≢false h)
op_after (JAL _) s at bus h g e = absurd (true≢false h)
op_after (BLEZ _ _) s at bus h g e = absurd (true≢false h)
op_after (BGTZ _ _) s at bus h g e = absurd (true≢false h)
op_after (BEQ _ _ _) s at bus h g e = absurd (true≢false h)
op_after (BNE _ _ _) s at bus h g e = absurd (true≢false h)
op_after RFE s at bus h g e = absurd (true≢false g)
op_after i s at bus h g e = ap (resting (effect i (state_at s at) bus)) e

-- ---- a branch

-- whether a branch is taken
abbrev pub test : Test → Registers → Bool
test (Same a b) c = nat_eq (register c a.0) (register c b.0)
test (Differ a b) c = not (nat_eq (register c a.0) (register c b.0))
test (NotAbove a) c = nat_le (2 ^ 31) (register c a.0) || nat_eq (register c a.0) 0
test (Above a) c = not (nat_le (2 ^ 31) (register c a.0) || nat_eq (register c a.0) 0)
test (Negative a) c = nat_le (2 ^ 31) (register c a.0)
test (NotNegative a) c = not (nat_le (2 ^ 31) (register c a.0))

not_above_is : (v : ℕ) → (v ≡ 0) ⊎ (2 ^ 31 ≤ v) → (nat_le (2 ^ 31) v || nat_eq v 0) ≡ true
not_above_is v h = grind arith

above_is : (v : ℕ) → 0 < v → v < 2 ^ 31 → (nat_le (2 ^ 31) v || nat_eq v 0) ≡ false
above_is v h g = grind arith

negative_is : (v : ℕ) → 2 ^ 31 ≤ v → nat_le (2 ^ 31) v ≡ true
negative_is v h = grind arith

not_negative_is : (v : ℕ) → v < 2 ^ 31 → nat_le (2 ^ 31) v ≡ false
not_negative_is v h = grind arith

pub passes : (t : Test) (c : Registers) → TestHolds t c → test t c ≡ true
passes (Same a b) c h = eq-eqb _ _ h
passes (Differ a b) c h = ap not (ne_eqb _ _ h)
passes (NotAbove a) c h = not_above_is _ h
passes (Above a) c h = ap not (above_is _ h.0 h.1)
passes (Negative a) c h = negative_is _ h
passes (NotNegative a) c h = ap not (not_negative_is _ h)

pub fails : (t : Test) (c : Registers) → TestHolds t c → test (opposite t) c ≡ false
fails (Same a b) c h = ap not (eq-eqb _ _ h)
fails (Differ a b) c h = ne_eqb _ _ h
fails (NotAbove a) c h = ap not (not_above_is _ h)
fails (Above a) c h = above_is _ h.0 h.1
fails (Negative a) c h = ap not (negative_is _ h)
fails (NotNegative a) c h = not_negative_is _ h

-- in a slot, with the address that follows
abbrev pub in_slot : Run → ℕ → ℕ → State
in_slot s pc to = record { context = record { regs = s.regs; pending = None; pc = pc; next = to; in_slot = true }; cop0 = s.cop0; bytes = s.bytes }

pub branch_after : (t : Test) (imm : ℕ) (s : Run) (at : ℕ) (bus : Bus) (v : Bool) → test t s.regs ≡ v → effect (branch_by t imm) (state_at s at) bus ≡ in_slot s ((at + 4) % 2 ^ 32) (branch_target (state_at s at).context v imm)
branch_after (Same a b) imm s at bus v e = ap (λ x. in_slot s ((at + 4) % 2 ^ 32) (branch_target (state_at s at).context x imm)) e
branch_after (Differ a b) imm s at bus v e = ap (λ x. in_slot s ((at + 4) % 2 ^ 32) (branch_target (state_at s at).context x imm)) e
branch_after (NotAbove a) imm s at bus v e = ap (λ x. in_slot s ((at + 4) % 2 ^ 32) (branch_target (state_at s at).context x imm)) e
branch_after (Above a) imm s at bus v e = ap (λ x. in_slot s ((at + 4) % 2 ^ 32) (branch_target (state_at s at).context x imm)) e
branch_after (Negative a) imm s at bus v e = ap (λ x. in_slot s ((at + 4) % 2 ^ 32) (branch_target (state_at s at).context x imm)) e
branch_after (NotNegative a) imm s at bus v e = ap (λ x. in_slot s ((at + 4) % 2 ^ 32) (branch_target (state_at s at).context x imm)) e

pub branch_trap : (t : Test) (imm : ℕ) (x : State) → trap_of (branch_by t imm) x.context ≡ None
branch_trap (Same a b) imm x = refl
branch_trap (Differ a b) imm x = refl
branch_trap (NotAbove a) imm x = refl
branch_trap (Above a) imm x = refl
branch_trap (Negative a) imm x = refl
branch_trap (NotNegative a) imm x = refl

pub branch_stays : (t : Test) (imm : ℕ) → enters_or_leaves (branch_by t imm) ≡ false
branch_stays (Same a b) imm = refl
branch_stays (Differ a b) imm = refl
branch_stays (NotAbove a) imm = refl
branch_stays (Above a) imm = refl
branch_stays (Negative a) imm = refl
branch_stays (NotNegative a) imm = refl

pub branch_seen : (t : Test) (imm : ℕ) (x : State) (bus : Bus) (q : List Access) → accessed (branch_by t imm) x bus q ≡ q
branch_seen (Same a b) imm x bus q = refl
branch_seen (Differ a b) imm x bus q = refl
branch_seen (NotAbove a) imm x bus q = refl
branch_seen (Above a) imm x bus q = refl
branch_seen (Negative a) imm x bus q = refl
branch_seen (NotNegative a) imm x bus q = refl

-- the fields of a branch fit
two_fit : (a b imm : ℕ) → nat_lt a 32 ≡ true → nat_lt b 32 ≡ true → imm < 2 ^ 16 → (nat_lt a 32 && nat_lt b 32 && nat_lt imm (2 ^ 16)) ≡ true
two_fit a b imm h g lt = grind arith

pub branch_fits : (t : Test) (imm : ℕ) → test_fits t ≡ true → imm < 2 ^ 16 → fits_fields (branch_by t imm) ≡ true
branch_fits (Same a b) imm h lt = let p = both (is_register a) (is_register b) h in two_fit a.0 b.0 imm p.0 p.1 lt
branch_fits (Differ a b) imm h lt = let p = both (is_register a) (is_register b) h in two_fit a.0 b.0 imm p.0 p.1 lt
branch_fits (NotAbove a) imm h lt = two_fit a.0 0 imm h refl lt
branch_fits (Above a) imm h lt = two_fit a.0 0 imm h refl lt
branch_fits (Negative a) imm h lt = two_fit a.0 0 imm h refl lt
branch_fits (NotNegative a) imm h lt = two_fit a.0 1 imm h refl lt

pub opposite_fits : (t : Test) → test_fits t ≡ true → test_fits (opposite t) ≡ true
opposite_fits (Same a b) h = h
opposite_fits (Differ a b) h = h
opposite_fits (NotAbove a) h = h
opposite_fits (Above a) h = h
opposite_fits (Negative a) h = h
opposite_fits (NotNegative a) h = h
