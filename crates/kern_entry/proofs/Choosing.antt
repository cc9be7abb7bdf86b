-- CAUSES: from Cause and EPC to the listing of the entrance.
use Rattle.psx_flow.proofs.Kit.{◌≡◌, ℕ, ◌+◌, ◌*◌, ◌%◌, ◌^◌, ◌<◌, ◌≤◌, true, false, refl, sym, ap, ◌∙◌, subst, arith, Memory, Registers, Cop0, Run, Access, Meets, calls, kernel_words, fair, start, place}
use Rattle.std.proofs.Common.{Bool, List, [], ◌/◌, Option, None, ne_eqb}
use Rattle.std.specs.Prelude.{if◌then◌else◌}
use Rattle.psx_base.specs.declared.address.Gate.{Gate}
use Rattle.psx_base.specs.Addresses.{is_mirrored, low, gate_at, gate_of}
use Rattle.psx_base.specs.Items.{Entrance, ByA, ByB, ByC, BySyscall, ByInterrupt, ByDone, ByBack, ByTrap}
use Rattle.psx_base.specs.Entrances.{entrance, by_syscall}
use Rattle.psx_cpu.specs.Exceptions.{cause_of}
use Rattle.kern_entry.specs.declared.places.TheConstants.{CAUSES, CALL_A, CALL_B, CALL_C, SYSCALLS, EXCEPTION, DONE, BACK, INTERRUPTS}
use Rattle.kern_entry.specs.declared.save.TheConstants.{CAUSES_NODES}
use Rattle.kern_entry.specs.EntryWords.{tree}
use Rattle.kern_entry.proofs.WorkArea.{AreaEntered, entered_on}

-- where an entrance goes
abbrev pub arrival : Entrance → ℕ
arrival ByA = CALL_A
arrival ByB = CALL_B
arrival ByC = CALL_C
arrival BySyscall = SYSCALLS
arrival ByInterrupt = INTERRUPTS
arrival ByDone = DONE
arrival ByBack = BACK
arrival ByTrap = EXCEPTION

-- Cause with the line as it is
abbrev pub cause_with : ℕ → Bool → Bool → ℕ
cause_with code slot line = cause_of code slot + (if line then 2 ^ 10 else 0)

pub code_is : (code : ℕ) (slot line : Bool) → code < 32 → cause_with code slot line * 2 ^ 25 % 2 ^ 32 / 2 ^ 27 ≡ code
code_is code true true h = omega arith
code_is code true false h = omega arith
code_is code false true h = omega arith
code_is code false false h = omega arith

not_in_slot : (code : ℕ) (slot line : Bool) → code < 32 → cause_with code slot line < 2 ^ 31 → slot ≡ false
not_in_slot code true true h lt = absurd (omega arith)
not_in_slot code true false h lt = absurd (omega arith)
not_in_slot code false line h lt = refl

is_in_slot : (code : ℕ) (slot line : Bool) → code < 32 → 2 ^ 31 ≤ cause_with code slot line → slot ≡ true
is_in_slot code true line h le = refl
is_in_slot code false true h le = absurd (omega arith)
is_in_slot code false false h le = absurd (omega arith)

-- an interrupt, and another code than 8
of_interrupt : (code : ℕ) (slot : Bool) (epc : ℕ) → code ≡ 0 → INTERRUPTS ≡ arrival (entrance code slot epc)
of_interrupt code slot epc e = sym (ap (λ n. arrival (entrance n slot epc)) e)

other_code : (code : ℕ) (slot : Bool) (epc : ℕ) → (code ≡ 8 → ⊥) → (code ≡ 0 → ⊥) → EXCEPTION ≡ arrival (entrance code slot epc)
other_code code slot epc ne some = sym (λ i. arrival (if ne_eqb code 0 some i then ByInterrupt else (if ne_eqb code 8 ne i then by_syscall slot (gate_of epc) else ByTrap)))

in_slot : (code : ℕ) (slot : Bool) (epc : ℕ) → code ≡ 8 → slot ≡ true → EXCEPTION ≡ arrival (entrance code slot epc)
in_slot code slot epc e s = sym (ap (λ n. arrival (entrance n slot epc)) e ∙ ap (λ b. arrival (by_syscall b (gate_of epc))) s)

-- a SYSCALL in no slot, by the gate at EPC
by_gate : (code : ℕ) (slot : Bool) (epc : ℕ) (g : Option Gate) → code ≡ 8 → slot ≡ false → gate_of epc ≡ g → arrival (by_syscall false g) ≡ arrival (entrance code slot epc)
by_gate code slot epc g e s h =
    sym (ap (λ n. arrival (entrance n slot epc)) e ∙ (ap (λ b. arrival (by_syscall b (gate_of epc))) s ∙ ap (λ o. arrival (by_syscall false o)) h))

mirrored_place : (a : ℕ) → is_mirrored a ≡ true → place a ≡ a % 2 ^ 29
mirrored_place a h = ap (λ b. if b then low a else 2 ^ 29) h

-- EPC shifted up by three tells the gate
gate_by : (epc p : ℕ) → is_mirrored epc ≡ true → p < 2 ^ 29 → epc * 2 ^ 3 % 2 ^ 32 ≡ 8 * p → gate_of epc ≡ gate_at p
gate_by epc p m lt e = let f : epc % 2 ^ 29 ≡ p = omega arith in ap gate_at (mirrored_place epc m ∙ f)

no_gate : (p : ℕ) → (p ≡ 0xA0 → ⊥) → (p ≡ 0xB0 → ⊥) → (p ≡ 0xC0 → ⊥) → (p ≡ 0xD0 → ⊥) → (p ≡ 0xE0 → ⊥) → gate_at p ≡ None
no_gate p a b c d e = rw (ne_eqb p 0xA0 a, ne_eqb p 0xB0 b, ne_eqb p 0xC0 c, ne_eqb p 0xD0 d, ne_eqb p 0xE0 e) refl

shifted : (epc p : ℕ) → epc % 2 ^ 29 ≡ p → epc * 2 ^ 3 % 2 ^ 32 ≡ 8 * p
shifted epc p e = omega arith

no_gate_by : (epc : ℕ) → is_mirrored epc ≡ true → (epc * 2 ^ 3 % 2 ^ 32 ≡ 0x500 → ⊥) → (epc * 2 ^ 3 % 2 ^ 32 ≡ 0x580 → ⊥) → (epc * 2 ^ 3 % 2 ^ 32 ≡ 0x600 → ⊥) → (epc * 2 ^ 3 % 2 ^ 32 ≡ 0x680 → ⊥) → (epc * 2 ^ 3 % 2 ^ 32 ≡ 0x700 → ⊥) → gate_of epc ≡ None
no_gate_by epc m a b c d e =
    ap gate_at (mirrored_place epc m) ∙ no_gate (epc % 2 ^ 29) (λ h. a (shifted epc 0xA0 h)) (λ h. b (shifted epc 0xB0 h)) (λ h. c (shifted epc 0xC0 h)) (λ h. d (shifted epc 0xD0 h)) (λ h. e (shifted epc 0xE0 h))

pub causes_meets : (c : Registers) (code : ℕ) (slot : Bool) (z : Cop0) (on : Bool) (m : Memory) (p : List Access) (most more : ℕ) (s : Run) → AreaEntered c z on m p most s → z.cause ≡ cause_of code slot → code < 32 → (code ≡ 8 → slot ≡ false → is_mirrored z.epc ≡ true)
    → most + 38 ≤ more → Meets kernel_words (calls kernel_words []) (tree CAUSES_NODES) CAUSES (λ _. ⊥) (λ to e. (to ≡ arrival (entrance code slot z.epc)) × AreaEntered c z on m p more e) s
causes_meets c code slot z on m p most more s h cause small mirror few =
    let G : ℕ → Run → Type 0 = λ to e. (to ≡ arrival (entrance code slot z.epc)) × AreaEntered c z on m p more e in
    let reads : (line : Bool) → s.cop0.cause + (if line then 2 ^ 10 else 0) ≡ cause_with code slot line = λ line. ap (λ x. x.cause + (if line then 2 ^ 10 else 0)) h.cop0 ∙ ap (λ x. x + (if line then 2 ^ 10 else 0)) cause in
    let coded : (line : Bool) → (s.cop0.cause + (if line then 2 ^ 10 else 0)) * 2 ^ 25 % 2 ^ 32 / 2 ^ 27 ≡ code = λ line. ap (λ x. x * 2 ^ 25 % 2 ^ 32 / 2 ^ 27) (reads line) ∙ code_is code slot line small in
    let on_to = entered_on c z on m p most more s h in
    let within = h.holds.within in
    let epc : s.cop0.epc ≡ z.epc = ap (λ x. x.epc) h.cop0 in
    start (calls kernel_words []) (fair kernel_words []) (tree CAUSES_NODES) CAUSES (λ _. ⊥) G s (λ line. (
      λ ne. (
        λ none. (of_interrupt code slot z.epc (sym (coded line) ∙ none), on_to _ _ _ _ refl refl refl refl (refl, refl, refl, refl) refl (omega arith)),
        λ some. (other_code code slot z.epc (λ e. ne (coded line ∙ e)) (λ e. some (coded line ∙ e)), on_to _ _ _ _ refl refl refl refl (refl, refl, refl, refl) refl (omega arith)),
      ),
      λ is. (
        λ neg. (in_slot code slot z.epc (sym (coded line) ∙ is) (is_in_slot code slot line small (subst (λ x. 2 ^ 31 ≤ x) (reads line) neg)), on_to _ _ _ _ refl refl refl refl (refl, refl, refl, refl) refl (omega arith)),
        λ pos.
            let eight : code ≡ 8 = sym (coded line) ∙ is in
            let out : slot ≡ false = not_in_slot code slot line small (subst (λ x. x < 2 ^ 31) (reads line) pos) in
            let mi = mirror eight out in
            let same : s.cop0.epc * 2 ^ 3 % 2 ^ 32 ≡ z.epc * 2 ^ 3 % 2 ^ 32 = ap (λ x. x * 2 ^ 3 % 2 ^ 32) epc in
            let gate : (g : Option Gate) → gate_of z.epc ≡ g → arrival (by_syscall false g) ≡ arrival (entrance code slot z.epc) = λ g. by_gate code slot z.epc g eight out in
            let by : (q : ℕ) → q < 2 ^ 29 → s.cop0.epc * 2 ^ 3 % 2 ^ 32 ≡ 8 * q → gate_of z.epc ≡ gate_at q = λ q lt e. gate_by z.epc q mi lt (sym same ∙ e) in (
              λ a. (gate _ (by 0xA0 (omega arith) a), on_to _ _ _ _ refl refl refl refl (refl, refl, refl, refl) refl (omega arith)),
              λ na. (
                λ b. (gate _ (by 0xB0 (omega arith) b), on_to _ _ _ _ refl refl refl refl (refl, refl, refl, refl) refl (omega arith)),
                λ nb. (
                  λ cc'. (gate _ (by 0xC0 (omega arith) cc'), on_to _ _ _ _ refl refl refl refl (refl, refl, refl, refl) refl (omega arith)),
                  λ nc. (
                    λ d. (gate _ (by 0xD0 (omega arith) d), on_to _ _ _ _ refl refl refl refl (refl, refl, refl, refl) refl (omega arith)),
                    λ nd. (
                      λ e. (gate _ (by 0xE0 (omega arith) e), on_to _ _ _ _ refl refl refl refl (refl, refl, refl, refl) refl (omega arith)),
                      λ ne. (gate _ (no_gate_by z.epc mi (λ h. na (same ∙ h)) (λ h. nb (same ∙ h)) (λ h. nc (same ∙ h)) (λ h. nd (same ∙ h)) (λ h. ne (same ∙ h))), on_to _ _ _ _ refl refl refl refl (refl, refl, refl, refl) refl (omega arith)),
                    ),
                  ),
                ),
              ),
            ),
      ),
    ))
