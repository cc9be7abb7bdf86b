-- A call that waits is entered again as before.
use Rattle.std.proofs.Common.{◌≡◌, ℕ, Bool, false, refl, sym, ap, ◌∙◌}
use Rattle.psx_base.specs.Registers.{Registers}
use Rattle.psx_base.specs.Context.{Context, settle, epc_of}
use Rattle.psx_base.specs.Items.{Entrance, ByA, ByB, ByC, BySyscall, ByInterrupt, ByDone, ByBack, ByTrap}
use Rattle.psx_base.specs.Entrances.{entrance, number}
use Rattle.psx_cpu.specs.Exceptions.{cause_of}
use Rattle.abs_kernel.specs.Cause.{Entry}
use Rattle.abs_kernel.specs.ProgramLaws.{EnteredAgain}

-- k0 and k1 are in no entry's number
same_number : (e : Entrance) (code k0 k1 : ℕ) (regs : Registers) → number e code (record regs { r26 = k0; r27 = k1 }) ≡ number e code regs
same_number ByA code k0 k1 regs = refl
same_number ByB code k0 k1 regs = refl
same_number ByC code k0 k1 regs = refl
same_number BySyscall code k0 k1 regs = refl
same_number ByInterrupt code k0 k1 regs = refl
same_number ByDone code k0 k1 regs = refl
same_number ByBack code k0 k1 regs = refl
same_number ByTrap code k0 k1 regs = refl

-- the entry with a number, in a slot or not
abbrev entry_with : (code epc n : ℕ) → Bool → Entry
entry_with code epc n slot = record { cause = cause_of code slot; epc = epc; gate = entrance code slot epc; number = n }

-- the entry of a context in a slot or not
abbrev entry_in : Context → (code : ℕ) → Bool → Entry
entry_in c code slot = entry_with code (epc_of c) (number (entrance code slot (epc_of c)) code (settle c).regs) slot

pub entered_again : EnteredAgain
entered_again s code h =
    let c = s.running.context in
    (_, refl, ap (λ (n : ℕ). entry_with code (epc_of c) n false) (same_number (entrance code false (epc_of c)) code (epc_of c) 0 (settle c).regs) ∙ ap (entry_in c code) (sym h))
