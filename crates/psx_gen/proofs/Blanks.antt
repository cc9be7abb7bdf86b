-- Schedules of vertical blanks.
use Rattle.std.proofs.Common.{◌≡◌, ℕ, ◌+◌, [], ◌∷◌, ◌++◌, length, arith}
use Rattle.std.specs.Prelude.{All}
use Rattle.std.specs.List.{range_with_len}
use Rattle.std.proofs.lemmas.List.FromFn.{map-range_with_len_more, length-map-range_with_len}
use Rattle.std.proofs.lemmas.List.Elements.{All-map}
use Rattle.psx_sched.specs.declared.schedule.Entry.{Entry}
use Rattle.psx_sched.specs.Accepted.{IsByte}
use Rattle.psx_gen.specs.Workload.{blank, blanks}

pub blanks-more : (rounds : ℕ) → blanks (rounds + 1) ≡ blanks rounds ++ blank rounds ∷ []
blanks-more rounds = map-range_with_len_more blank 0 rounds rounds (omega arith)

pub length-blanks : (rounds : ℕ) → length (blanks rounds) ≡ rounds
length-blanks rounds = length-map-range_with_len blank 0 rounds

-- a text can tell of each
pub blanks-bytes : (rounds : ℕ) → All (λ (e : Entry). IsByte e.what) (blanks rounds)
blanks-bytes rounds = All-map (λ (e : Entry). IsByte e.what) blank (range_with_len 0 rounds) (λ k d low. tt)
