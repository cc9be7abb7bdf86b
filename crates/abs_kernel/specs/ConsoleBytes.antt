-- How a call takes a byte of the console (PSX-SPX, Kernel (BIOS), TTY Console (std_io): the calls that read).
use Rattle.std.specs.Prelude.{ℕ, ◌%◌, ◌^◌, nat_eq, if◌then◌else◌}
use Rattle.psx_base.specs.Ports.{CONSOLE_STATUS, CONSOLE_DATA}
use Rattle.abs_kernel.specs.Stay.{Stay, Ask}

-- Each status but 0 says that a byte is due, and of the data the low byte counts. Where none is due nothing is taken, and the stay goes on without.
abbrev pub takes_byte : (without : Stay) → (ℕ → Stay) → Stay
takes_byte without next = Ask CONSOLE_STATUS (λ status. if nat_eq status 0 then without else Ask CONSOLE_DATA (λ value. next (value % 2 ^ 8)))
