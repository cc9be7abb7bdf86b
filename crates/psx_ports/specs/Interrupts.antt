-- Changes of the interrupt registers, with the line to the processor.
use Rattle.std.specs.Prelude.{ℕ, not, nat_eq, bit_and}
use Rattle.psx_ports.specs.declared.interrupts.Interrupts.{Interrupts}

abbrev pub with_pending : Interrupts → ℕ → Interrupts
with_pending i pending = record { pending = pending; mask = i.mask; line = not (nat_eq (bit_and pending i.mask) 0) }

abbrev pub with_mask : Interrupts → ℕ → Interrupts
with_mask i mask = record { pending = i.pending; mask = mask; line = not (nat_eq (bit_and i.pending mask) 0) }
