-- The workload of so many rounds: its program, and the schedule that begins each round. It is this project's own.
use Rattle.std.specs.Prelude.{ℕ, ◌+◌, ◌*◌, List, [], ◌∷◌, ◌++◌, flat_map, map}
use Rattle.std.specs.List.{range_with_len}
use Rattle.byteorder.specs.Endian.{little_bytes}
use Rattle.psx_exe.specs.declared.exe.Exe.{Exe}
use Rattle.psx_sched.specs.declared.schedule.Entry.{Entry}
use Rattle.psx_sched.specs.declared.schedule.What.TheVariants.{Line}
use Rattle.psx_gen.specs.declared.words.TheConstants.{WORDS}

-- its text: the bytes of the words, the lowest of each first, and behind them those of the number of rounds
abbrev pub text : ℕ → List ℕ
text rounds = flat_map (little_bytes 4) (WORDS ++ rounds ∷ [])

-- its program, which stands at 80010000h and begins there; it has neither gp, fill nor stack of its own
abbrev pub program : ℕ → Exe
program rounds = record {
  pc = 0x80010000;
  gp = 0;
  dest = 0x80010000;
  fill_start = 0;
  fill_size = 0;
  sp_base = 0;
  sp_offset = 0;
  text = text rounds;
}

-- a vertical blank: line 0, at 500,000 steps the first one, and each further one 10,000 steps later
abbrev pub blank : ℕ → Entry
blank place = record { count = 500000 + 10000 * place; what = Line 0 }

-- its schedule: a vertical blank for each round
abbrev pub blanks : ℕ → List Entry
blanks rounds = map blank (range_with_len 0 rounds)
