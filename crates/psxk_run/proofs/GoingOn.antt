-- A host that goes on.
use Rattle.std.proofs.Common.{ℕ, ◌≤◌, List, Option, refl, ◌∙◌, arith}
use Rattle.std.specs.Prelude.{min, ◌+◌, ◌-◌, ◌^◌}
use Rattle.psx_base.specs.Host.{Rose}
use Rattle.psxk_run.specs.Sent.{GoesOn}

pub goes_on-same : {H : Type 0} (holds : H → List ℕ → Option (List ℕ)) (loads : H → List ℕ → ℕ) (sends : H → ℕ) (x : H) → GoesOn holds loads sends x x
goes_on-same holds loads sends x = record { loads = λ n. omega arith; sends = omega arith; held = λ n. refl }

pub goes_on-then : {H : Type 0} (holds : H → List ℕ → Option (List ℕ)) (loads : H → List ℕ → ℕ) (sends : H → ℕ) (x y z : H) → GoesOn holds loads sends x y → GoesOn holds loads sends y z → GoesOn holds loads sends x z
goes_on-then holds loads sends x y z a b = record {
  loads = λ n. let p : loads x n ≤ loads y n = a.loads n in let q : loads y n ≤ loads z n = b.loads n in omega arith;
  sends = let p : sends x ≤ sends y = a.sends in let q : sends y ≤ sends z = b.sends in omega arith;
  held = λ n. b.held n ∙ a.held n;
}

-- a count that rose later rose from before
pub rose-since : (a b c : ℕ) → a ≤ b → Rose b c → Rose a c
rose-since a b c low rose = let e : min (b + 1) (2 ^ 64 - 1) ≤ c = rose in omega arith
