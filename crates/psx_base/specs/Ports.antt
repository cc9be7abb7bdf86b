-- The ports, by physical address. Those below 1F802000h are the PlayStation's (PSX-SPX, Interrupt Control: 1F801070h and 1F801074h; Timers: 1F801100h+N*10h, the mode 4 behind, the target 8).
-- The others are this board's own.
use Rattle.std.specs.Prelude.{ℕ, ◌+◌, ◌*◌}

abbrev pub I_STAT : ℕ
I_STAT = 0x1F801070

abbrev pub I_MASK : ℕ
I_MASK = 0x1F801074

-- the first port of the root counters
abbrev pub COUNTERS : ℕ
COUNTERS = 0x1F801100

-- the ports of root counter t
abbrev pub value_port : ℕ → ℕ
value_port t = COUNTERS + 0x10 * t

abbrev pub mode_port : ℕ → ℕ
mode_port t = COUNTERS + 0x10 * t + 4

abbrev pub target_port : ℕ → ℕ
target_port t = COUNTERS + 0x10 * t + 8

-- whether a byte waits, and the bytes themselves
abbrev pub CONSOLE_STATUS : ℕ
CONSOLE_STATUS = 0x1F802100

abbrev pub CONSOLE_DATA : ℕ
CONSOLE_DATA = 0x1F802104

-- the three words of a halt, and the port whose write stops
abbrev pub HALT_A : ℕ
HALT_A = 0x1F802108

abbrev pub HALT_B : ℕ
HALT_B = 0x1F80210C

abbrev pub HALT_C : ℕ
HALT_C = 0x1F802110

abbrev pub HALT : ℕ
HALT = 0x1F802114

-- what the kernel is told of the program, and the sizes of its tables
abbrev pub START_PC : ℕ
START_PC = 0x1F802118

abbrev pub START_GP : ℕ
START_GP = 0x1F80211C

abbrev pub START_SP : ℕ
START_SP = 0x1F802120

abbrev pub START_THREADS : ℕ
START_THREADS = 0x1F802124

abbrev pub START_EVENTS : ℕ
START_EVENTS = 0x1F802128
