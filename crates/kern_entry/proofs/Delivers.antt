-- A SYSCALL that delivers meets its stay.
use Rattle.psx_flow.proofs.Kit.{◌≡◌, ℕ, ◌+◌, ◌-◌, ◌%◌, ◌^◌, [], refl, sym, ap, ◌∙◌, subst, arith, Memory, word, put_word, Calls, calls, kernel_words, fair, start}
use Rattle.std.specs.Prelude.{Option, None, if◌then◌else◌}
use Rattle.psx_base.specs.Context.{Context, taken, epc_of, IsAtRest}
use Rattle.psx_base.specs.KernelState.{ThreadContext}
use Rattle.kern_layout.specs.Fields.{Block}
use Rattle.kern_layout.specs.Contexts.{saved}
use Rattle.abs_kernel.specs.Answered.{registers_of}
use Rattle.abs_kernel.specs.Sys.{SYSCALL_CLASS, SYSCALL_SPEC, behind_syscall, sys_delivers}
use Rattle.abs_kernel.specs.Returning.{delivers}
use Rattle.kern_stay.specs.Shared.{tree, tested_there}
use Rattle.kern_stay.specs.Doors.{Through, Serves, called_with, begun, most_back_steps}
use Rattle.kern_stay.proofs.Ending.{works}
use Rattle.kern_stay.proofs.Delivering.{AreaAlone, area_none, area_stored, asks}
use Rattle.kern_stay.proofs.Switching.{area_put}
use Rattle.kern_entry.specs.declared.places.TheConstants.{DELIVER}
use Rattle.kern_entry.specs.declared.deliver.TheConstants.{DELIVER_NODES}

-- the area's context goes on at an address
abbrev at_once : Context → Option (ℕ × ℕ) → (at : ℕ) → Context
at_once c o at = taken (record c { pending = o }) at

area_on : (m : Memory) (t : ThreadContext) → t.context.pending ≡ None → (at : ℕ) → Block (word m) 0xEB00 (saved t) → Block (word (put_word m 0xEB88 at)) 0xEB00 (saved (record t { context = taken t.context at }))
area_on m t none at h =
    let P : Option (ℕ × ℕ) → Type 0 = λ o. Block (word (put_word m 0xEB88 at)) 0xEB00 (saved (record t { context = at_once t.context o at })) in
    subst P (sym none) (area_put m 0x88 at (saved t) _ refl refl refl h)

pub serves : Serves [] most_back_steps sys_delivers DELIVER (tree DELIVER_NODES)
serves s d z m h =
    let C : Calls = calls kernel_words tested_there in
    let c : Context = s.running.context in
    let epc : word m 0xEB88 ≡ epc_of c = h.holds.area.1.1.1.1.1.1.1.1.1.1.1.1.1.1.1.1.1.1.1.1.1.1.1.1.1.1.1.1.1.0 ∙ sym (ap (λ b. if b then (c.pc + (2 ^ 32 - 4)) % 2 ^ 32 else c.pc) h.out) in
    let next : (word m 0xEB88 + 4) % 2 ^ 32 ≡ behind_syscall c = ap (λ v. (v + 4) % 2 ^ 32) epc in
    let x : Memory = put_word m 0xEB88 (behind_syscall c) in
    let t : ThreadContext = record s.running { context = taken c (behind_syscall c) } in
    let alone : AreaAlone m x = area_stored m m 0xEB88 (behind_syscall c) refl (omega arith) (omega arith) (area_none m) in
    let rests : IsAtRest t.context = record { follows = refl; no_slot = refl; k0 = refl; k1 = refl; none_pending = refl } in
    start C (fair kernel_words tested_there) (tree DELIVER_NODES) DELIVER (λ _. ⊥) (λ to e. Through (sys_delivers s) most_back_steps to e) (begun (called_with (registers_of s) d) z m)
    (rw (next) (works (sys_delivers s) most_back_steps _ refl
    (asks s h.valid m x h.holds t rests alone (area_on m s.running h.holds.settled (behind_syscall c) h.holds.area) SYSCALL_CLASS SYSCALL_SPEC (sys_delivers s) _ (ap (delivers s t SYSCALL_CLASS SYSCALL_SPEC) (sym epc)) refl refl)
    (omega arith) (omega arith)))
